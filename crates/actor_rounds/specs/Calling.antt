-- What came of one call of a run. The newest entry of a history stands first.
-- A choice of this project.
use Rattle.std.specs.Prelude.{ℕ, ◌≡◌, true, false, List, ◌∷◌}
use Rattle.call_types.specs.declared.entry.Entry.{Entry}
use Rattle.call_types.specs.declared.request.Request.{Request}
use Rattle.call_types.specs.declared.request.SeatKind.{SeatKind}
use Rattle.actor_rounds.specs.Answers.Answered.{Lets}
use Rattle.worker_core.specs.declared.turn.Outcome.{Outcome}
use Rattle.worker_core.specs.declared.turn.Outcome.TheVariants.{Lost, Told}

-- the call of the seat was let through and told, or it was held back, and is lost to the actor
abbrev pub CameTo : Lets → ℕ → SeatKind → Request → Outcome → List Entry → List Entry → Type 0
CameTo lets seat kind request (Told reply) past new = (lets past request ≡ true) × (new ≡ (record { seat = seat; kind = kind; request = request; reply = reply; told = true }) ∷ past)
CameTo lets seat kind request Lost past new = (lets past request ≡ false) × (new ≡ past)
