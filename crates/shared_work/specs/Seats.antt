-- Seats: a number, and the entries that stand under it, the newest first.
-- A choice of this project.
use Rattle.std.specs.Prelude.{ℕ, ◌≡◌, List, [], ◌∷◌, map, All}
use Rattle.call_types.specs.declared.ask.Ask.{Ask}
use Rattle.call_types.specs.declared.entry.Entry.{Entry}
use Rattle.call_types.specs.declared.setup.Setup.{Setup}
use Rattle.call_types.specs.declared.reply.Reply.{Reply}
use Rattle.binder_model.specs.Told.{own}
use Rattle.seat_lock.specs.declared.keeps.Keeps.{Ghosts}
use Rattle.seat_lock.specs.declared.pass.Pass.{Pass}
use Rattle.seat_lock.specs.Passes.{made_of, met_count, number_of}
use Rattle.shared_world.specs.declared.shared.SharedWorld.{SharedWorld}
use Rattle.shared_world.specs.Lines.{Kept}
use Rattle.shared_world.specs.Passes.{IsFirst, IsIn, mine_of}

-- the seats of these numbers, as they are in a history
abbrev pub seats_at : List Entry → List ℕ → List (ℕ × List Entry)
seats_at past numbers = map (λ n. (n, own n past)) numbers

-- there is one seat
abbrev pub IsOneSeat : List (ℕ × List Entry) → Type 0
IsOneSeat seats = (seat : ℕ × List Entry) × (seats ≡ seat ∷ [])

module _ {k : Ghosts Kept Ask Reply Setup} where
  -- the seat of a pass, as the pass knows it
  abbrev pub seat_of : Pass Kept Ask Reply Setup k → ℕ × List Entry
  seat_of p = (number_of p, mine_of p)

  abbrev pub seats_of : List (Pass Kept Ask Reply Setup k) → List (ℕ × List Entry)
  seats_of passes = map seat_of passes

  abbrev pub numbers_of : List (Pass Kept Ask Reply Setup k) → List ℕ
  numbers_of passes = map number_of passes

  -- the passes are new ones of this world, of which so many were made: each has the entries of its number in what was handed
  -- in, and has met no other
  abbrev pub AreNew : SharedWorld → ℕ → List (Pass Kept Ask Reply Setup k) → Type 0
  AreNew shared made passes = All (λ p. IsFirst shared made (number_of p) p) passes

  -- what calls leave of a pass: its number, how many it met, and how many it knows to be made
  abbrev pub lasting : Pass Kept Ask Reply Setup k → ℕ × ℕ × ℕ
  lasting p = (number_of p, met_count p, made_of p)

  abbrev pub IsKept : Pass Kept Ask Reply Setup k → Pass Kept Ask Reply Setup k → Type 0
  IsKept p q = lasting q ≡ lasting p

  -- the passes are those of before, in their order
  abbrev pub AreKept : List (Pass Kept Ask Reply Setup k) → List (Pass Kept Ask Reply Setup k) → Type 0
  AreKept ps qs = map lasting qs ≡ map lasting ps

  -- with these passes it is so of each history that has all that they know
  pub record HasLeft (Is : List Entry → Type 0) (passes : List (Pass Kept Ask Reply Setup k)) : Type 0 where
    pub in_each : (past : List Entry) → All (IsIn past) passes → Is past
