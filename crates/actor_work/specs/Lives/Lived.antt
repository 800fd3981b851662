-- The passes of one actor's lives, and the entries of their seats. The newest entry stands first.
-- A choice of this project.
use Rattle.std.specs.Prelude.{ℕ, ◌≡◌, ◌≢◌, ◌+◌, ◌<◌, ◌≤◌, List, [], ◌∷◌, ◌++◌, length, map, ⊤}
use Rattle.call_types.specs.declared.ask.Ask.{Ask}
use Rattle.call_types.specs.declared.entry.Entry.{Entry}
use Rattle.call_types.specs.declared.setup.Setup.{Setup}
use Rattle.call_types.specs.declared.reply.Reply.{Reply}
use Rattle.binder_model.specs.Told.{own}
use Rattle.seat_lock.specs.declared.keeps.Keeps.{Ghosts}
use Rattle.seat_lock.specs.declared.pass.Pass.{Pass}
use Rattle.seat_lock.specs.Passes.{made_of, met_count, number_of}
use Rattle.shared_world.specs.declared.shared.SharedWorld.{SharedWorld}
use Rattle.shared_world.specs.Lines.{Kept}
use Rattle.shared_world.specs.Passes.{IsOf, mine_of, seen_by}
use Rattle.actor_work.specs.Lives.Order.{AreOrdered, IsReached, Knowledge}

module _ {k : Ghosts Kept Ask Reply Setup} where
  -- the pass of a life: it is of this world, knows that so many passes were made, and met none; it has the life's seat for its
  -- number, and all its entries are of that seat
  pub record IsLife (shared : SharedWorld) (made seat : ℕ) (p : Pass Kept Ask Reply Setup k) : Type 0 where
    pub of : IsOf shared p
    pub made_is : made_of p ≡ made
    pub met : met_count p ≡ 0
    pub number : number_of p ≡ seat
    pub only : own seat (mine_of p) ≡ mine_of p
    pub none : (other : ℕ) → other ≢ seat → own other (mine_of p) ≡ []

  -- each is the pass of a life, and their seats follow one another
  abbrev pub EachLife : SharedWorld → ℕ → ℕ → List (Pass Kept Ask Reply Setup k) → Type 0
  EachLife shared made first [] = ⊤
  EachLife shared made first (p ∷ passes) = IsLife shared made first p × EachLife shared made (first + 1) passes

  -- what the pass knows of the history
  abbrev pub known_by : Pass Kept Ask Reply Setup k → Knowledge
  known_by p = (mine_of p, seen_by p)

  abbrev pub known_by_all : List (Pass Kept Ask Reply Setup k) → List Knowledge
  known_by_all passes = map known_by passes

  -- the passes of an actor's lives, which have called one after the other
  pub record AreLives (shared : SharedWorld) (made first : ℕ) (passes : List (Pass Kept Ask Reply Setup k)) : Type 0 where
    pub each : EachLife shared made first passes
    pub order : AreOrdered first (known_by_all passes)

  -- the entries of all lives: those of a later life are newer
  abbrev pub past_of : List (Pass Kept Ask Reply Setup k) → List Entry
  past_of [] = []
  past_of (p ∷ passes) = past_of passes ++ mine_of p

  -- the seat is that of one of these lives, of which the one at this place is reached
  abbrev pub IsServed : SharedWorld → ℕ → ℕ → ℕ → List (Pass Kept Ask Reply Setup k) → ℕ → Type 0
  IsServed shared made first at passes seat = AreLives shared made first passes × IsReached first at (known_by_all passes) × (first ≤ seat) × (seat < first + length passes)
