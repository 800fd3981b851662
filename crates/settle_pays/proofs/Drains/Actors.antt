-- Each actor that is built pays.
use Rattle.std.proofs.Common.{◌≡◌, ℕ, refl}
use Rattle.call_types.specs.declared.request.SeatKind.{SeatKind}
use Rattle.call_types.specs.declared.request.SeatKind.TheVariants as seats
use Rattle.call_types.specs.declared.setup.Setup.{Setup}
use Rattle.worker_core.specs.declared.role.Role.{Role}
use Rattle.worker_core.specs.Roles.{IsBuiltKind}
use Rattle.settle_pays.specs.Pays.Pays.{DecisionsPay}
use Rattle.settle_pays.proofs.Pays.ClaimGuards.{claim_guards_pay}
use Rattle.settle_pays.proofs.Pays.VolumeGuards.{volume_guards_pay}
use Rattle.settle_pays.proofs.Actors.Scheduling.{scheduling_pays}
use Rattle.settle_pays.proofs.Actors.Reclaiming.{ops_pay}
use Rattle.settle_pays.proofs.Actors.Paying.{binding_pays}
use Rattle.settle_pays.proofs.Actors.Agents.{agents_pay}
use Rattle.settle_pays.specs.Drains.All.{ActorsPay, ImportsAllow}

module _ (setup : Setup) (seat : ℕ) (role : Role) (allow : ImportsAllow setup) where
  by_kind : (kind : SeatKind) → role.kind ≡ kind → IsBuiltKind kind → DecisionsPay setup seat role
  by_kind seats.User is built = absurd built
  by_kind seats.Binder is built = binding_pays setup seat role is
  by_kind seats.Ops is built = ops_pay setup seat role is allow.uids
  by_kind seats.Scheduler is built = scheduling_pays setup seat role is
  by_kind seats.ClaimProtect is built = claim_guards_pay setup seat role is
  by_kind seats.VolumeProtect is built = volume_guards_pay setup seat role is
  by_kind seats.Agent is built = agents_pay setup seat role is

pub actors_pay : ActorsPay
actors_pay setup seat role built allow = by_kind setup seat role allow role.kind refl built
