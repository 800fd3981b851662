-- What the calls of a shared world say of a pass, in the words of worlds. The newest entry stands first.
-- A choice of this project.
use Rattle.std.specs.Prelude.{ℕ, ◌≡◌, ◌⊎◌, ◌+◌, ◌<◌, List, ◌∷◌, ◌++◌, length, slice_index_or, All}
use Rattle.call_types.specs.declared.entry.Entry.{Entry}
use Rattle.call_types.specs.declared.setup.Setup.{Setup}
use Rattle.call_types.specs.declared.reply.Reply.{Reply}
use Rattle.binder_model.specs.Promises.{IsRunOf}
use Rattle.binder_model.specs.Told.{own}
use Rattle.seat_lock.specs.declared.keeps.Entry.{Entry as Line}
use Rattle.seat_lock.specs.declared.keeps.Keeps.{Ghosts}
use Rattle.seat_lock.specs.declared.pass.Pass.{Pass}
use Rattle.seat_lock.specs.declared.pass.Sight.{Sight}
use Rattle.seat_lock.specs.History.{first_forks, longer}
use Rattle.seat_lock.specs.Passes.{IsPassOf, IsSightOf, KeepsNumbers, forks_of, made_of, met_count, number_of, value_given, view_of}
use Rattle.seat_lock.specs.Passes.{shown_by as lines_shown}
use Rattle.call_types.specs.declared.ask.Ask.{Ask}
use Rattle.shared_world.specs.declared.shared.SharedWorld.{SharedWorld}
use Rattle.shared_world.specs.Lines.{Kept, entries}

-- what the world that was handed in began with, and its entries
abbrev pub setup_of : SharedWorld → Setup
setup_of shared = (value_given shared.lock).setup

-- the history that the world had when it was shared
abbrev pub past_given : SharedWorld → List Entry
past_given shared = (value_given shared.lock).past

-- the newer list begins with the older one
abbrev pub Begins : List Entry → List Entry → Type 0
Begins newer older = (late : List Entry) × (newer ≡ late ++ older)

-- beside the seats from 1 to `made`, these entries are those of the history that was handed in
abbrev pub AddsNoSeats : ℕ → List Entry → List Entry → Type 0
AddsNoSeats made given past = (seat : ℕ) → (seat ≡ 0) ⊎ (made < seat) → own seat past ≡ own seat given

module _ {k : Ghosts Kept Ask Reply Setup} where
  -- the pass is of this world
  abbrev pub IsOf : SharedWorld → Pass Kept Ask Reply Setup k → Type 0
  IsOf shared pass = IsPassOf shared.lock pass

  -- the entries of the pass
  abbrev pub mine_of : Pass Kept Ask Reply Setup k → List Entry
  mine_of pass = entries (view_of pass).own

  -- what it has seen of the history
  abbrev pub seen_by : Pass Kept Ask Reply Setup k → List Entry
  seen_by pass = entries (view_of pass).front

  -- a pass of a new shared world: it has this number, knows how many were made, and has seen what was handed in
  pub record IsFirst (shared : SharedWorld) (made place : ℕ) (p : Pass Kept Ask Reply Setup k) : Type 0 where
    pub of : IsOf shared p
    pub number : number_of p ≡ place
    pub forks : forks_of p ≡ first_forks
    pub met : met_count p ≡ 0
    pub made_is : made_of p ≡ made
    pub mine : mine_of p ≡ own place (past_given shared)
    pub seen : seen_by p ≡ past_given shared

  -- the passes of a new shared world, numbered from 1
  abbrev pub AreFirst : SharedWorld → List (Pass Kept Ask Reply Setup k) → Type 0
  AreFirst shared passes = (i : ℕ) (d : Pass Kept Ask Reply Setup k) → i < length passes → IsFirst shared (length passes) (i + 1) (slice_index_or passes i d)

  -- The call of this entry was made. It is the newest of the pass's own entries, and of all that the pass has then seen: that
  -- begins with what it had seen, has just its own entries at its seat, and is a run. Of the passes it knows what it knew
  pub record HasCalled (setup : Setup) (e : Entry) (p q : Pass Kept Ask Reply Setup k) : Type 0 where
    pub mine : mine_of q ≡ e ∷ mine_of p
    pub between : List Entry
    pub seen : seen_by q ≡ e ∷ (between ++ seen_by p)
    pub only : own (number_of p) (seen_by q) ≡ mine_of q
    pub run : IsRunOf setup (seen_by q)
    pub made : made_of q ≡ made_of p
    pub met : (view_of q).met ≡ (view_of p).met
    pub found : (view_of q).found ≡ (view_of p).found

  -- the sight is of this world
  abbrev pub IsSight : SharedWorld → Sight Kept Ask Reply Setup k → Type 0
  IsSight shared sight = IsSightOf shared.lock sight

  -- what the sight shows: the entries that its pass had seen
  abbrev pub shown_by : Sight Kept Ask Reply Setup k → List Entry
  shown_by sight = entries (lines_shown sight)

  -- The pass p, once it has learnt of these entries. It has then seen the longer of the two lists, which begins with both. Its own entries are what they
  -- were, and of its seat it has seen the oldest of these and no others. So its next call is newer than all that it has learnt of
  pub record HasLearnt (shown : List Entry) (p q : Pass Kept Ask Reply Setup k) : Type 0 where
    pub numbers : KeepsNumbers p q
    pub mine : mine_of q ≡ mine_of p
    pub seen : seen_by q ≡ longer (seen_by p) shown
    pub old : Begins (seen_by q) (seen_by p)
    pub new : Begins (seen_by q) shown
    pub only : Begins (mine_of q) (own (number_of q) (seen_by q))
    pub made : made_of q ≡ made_of p
    pub met : (view_of q).met ≡ (view_of p).met
    pub found : (view_of q).found ≡ (view_of p).found

  -- the entries begin with what the pass has seen, and have just its own list, and those of the passes that it met
  pub record IsIn (past : List Entry) (p : Pass Kept Ask Reply Setup k) : Type 0 where
    pub seen : Begins past (seen_by p)
    pub mine : own (number_of p) past ≡ mine_of p
    pub met : All (λ (m : ℕ × List (Line Ask Reply)). own m.0 past ≡ entries m.1) (view_of p).met
