-- The scheduler pays.
-- A choice of this project.
use Rattle.std.specs.Prelude.{ℕ, ◌≡◌}
use Rattle.call_types.specs.declared.request.SeatKind.TheVariants as seats
use Rattle.call_types.specs.declared.setup.Setup.{Setup}
use Rattle.worker_core.specs.declared.role.Role.{Role}
use Rattle.settle_pays.specs.Pays.Pays.{DecisionsPay}

-- whatever a scheduler begins in a run, where it sees the store as it is, will pay
abbrev pub SchedulingPays : Type 0
SchedulingPays = (setup : Setup) (seat : ℕ) (role : Role) → role.kind ≡ seats.Scheduler → DecisionsPay setup seat role
