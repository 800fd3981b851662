-- What comes of one job: a worker with the passes of its seats.
-- A choice of this project.
use Rattle.std.specs.Prelude.{ℕ, List, [], ◌∷◌, ◌++◌, All, Ok, Err, ⊤}
use Rattle.std.specs.declared.result.Result.{Result}
use Rattle.call_types.specs.declared.ask.Ask.{Ask}
use Rattle.call_types.specs.declared.entry.Entry.{Entry}
use Rattle.call_types.specs.declared.setup.Setup.{Setup}
use Rattle.call_types.specs.declared.reply.Reply.{Reply}
use Rattle.seat_lock.specs.declared.keeps.Keeps.{Ghosts}
use Rattle.seat_lock.specs.declared.pass.Pass.{Pass}
use Rattle.shared_world.specs.declared.shared.SharedWorld.{SharedWorld}
use Rattle.shared_world.specs.Lines.{Kept}
use Rattle.shared_world.specs.Passes.{IsOf}
use Rattle.shared_work.specs.Seats.{AreKept, AreNew, HasLeft, seats_of}

module _ {W : Type 0} {k : Ghosts Kept Ask Reply Setup} where
  -- the worker may begin with these passes, where so many were made
  abbrev pub CanWork : (W → List (ℕ × List Entry) → Type 0) → SharedWorld → ℕ → W → List (Pass Kept Ask Reply Setup k) → Type 0
  CanWork needs shared made worker passes = AreNew shared made passes × needs worker (seats_of passes)

  -- the passes after its work
  abbrev pub HasWorked : (W → List (ℕ × List Entry) → List (ℕ × List Entry) → Type 0) → (W → List Entry → Type 0)
      → SharedWorld → W → List (Pass Kept Ask Reply Setup k) → List (Pass Kept Ask Reply Setup k) → Type 0
  HasWorked does leaves shared worker before after = All (IsOf shared) after × AreKept before after × does worker (seats_of before) (seats_of after)
      × HasLeft (leaves worker) after

-- none of them failed
abbrev pub AreAllOk : {V E : Type 0} → List (Result V E) → Type 0
AreAllOk [] = ⊤
AreAllOk (Ok v ∷ results) = AreAllOk results
AreAllOk (Err e ∷ results) = ⊥

-- the items of all that did not fail, in order
abbrev pub all_items : {V E X : Type 0} → (V → List X) → List (Result V E) → List X
all_items items [] = []
all_items items (Ok v ∷ results) = items v ++ all_items items results
all_items items (Err e ∷ results) = all_items items results
