-- The binder pays.
-- A choice of this project.
use Rattle.std.specs.Prelude.{ℕ, ◌≡◌}
use Rattle.call_types.specs.declared.request.SeatKind.TheVariants as seats
use Rattle.call_types.specs.declared.setup.Setup.{Setup}
use Rattle.worker_core.specs.declared.role.Role.{Role}
use Rattle.settle_pays.specs.Pays.Pays.{DecisionsPay}

-- whatever a binder begins for a volume or for a claim, where it sees the store as it is, will pay
abbrev pub BindingPays : Type 0
BindingPays = (setup : Setup) (seat : ℕ) (role : Role) → role.kind ≡ seats.Binder → DecisionsPay setup seat role
