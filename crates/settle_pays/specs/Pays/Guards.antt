-- The protection controllers pay.
-- A choice of this project.
use Rattle.std.specs.Prelude.{ℕ, ◌≡◌}
use Rattle.call_types.specs.declared.request.SeatKind.TheVariants as seats
use Rattle.call_types.specs.declared.setup.Setup.{Setup}
use Rattle.worker_core.specs.declared.role.Role.{Role}
use Rattle.settle_pays.specs.Pays.Pays.{DecisionsPay}

-- claim protection
abbrev pub ClaimGuardsPay : Type 0
ClaimGuardsPay = (setup : Setup) (seat : ℕ) (role : Role) → role.kind ≡ seats.ClaimProtect → DecisionsPay setup seat role

-- volume protection
abbrev pub VolumeGuardsPay : Type 0
VolumeGuardsPay = (setup : Setup) (seat : ℕ) (role : Role) → role.kind ≡ seats.VolumeProtect → DecisionsPay setup seat role
