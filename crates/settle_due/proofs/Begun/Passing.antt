-- Where the calls for the key pass, what is begun makes a call that lasts.
use Rattle.std.proofs.Common.{◌≡◌, ℕ, true, true≢false, refl, sym}
use Rattle.call_types.specs.declared.request.SeatKind.{SeatKind}
use Rattle.call_types.specs.declared.request.SeatKind.TheVariants as seats
use Rattle.call_types.specs.declared.setup.Setup.{Setup}
use Rattle.binder_model.specs.Imports.{ImportsPass}
use Rattle.worker_core.specs.declared.role.Role.{Role}
use Rattle.settle_slot.proofs.Slot.Would.{will_last}
use Rattle.settle_due.specs.Begun.Begun.{BegunIsLasting, DecisionsLast, begins_to_last}
use Rattle.settle_due.proofs.Begun.Binding.{binding_lasts}
use Rattle.settle_due.proofs.Begun.Guards.{claim_guards_last, volume_guards_last}
use Rattle.settle_due.proofs.Begun.Pods.{scheduling_lasts}

by_kind : (setup : Setup) (seat : ℕ) (role : Role) → ImportsPass setup.imports → (kind : SeatKind) → role.kind ≡ kind → begins_to_last kind ≡ true → DecisionsLast setup seat role
by_kind setup seat role pass seats.Binder is e = binding_lasts setup seat role pass is
by_kind setup seat role pass seats.Scheduler is e = scheduling_lasts setup seat role pass is
by_kind setup seat role pass seats.ClaimProtect is e = claim_guards_last setup seat role pass is
by_kind setup seat role pass seats.VolumeProtect is e = volume_guards_last setup seat role pass is
by_kind setup seat role pass seats.Ops is e = absurd (true≢false (sym e))
by_kind setup seat role pass seats.Agent is e = absurd (true≢false (sym e))
by_kind setup seat role pass seats.User is e = absurd (true≢false (sym e))

pub begun_is_lasting : BegunIsLasting
begun_is_lasting setup lets seat role start s h u pass e passes p gives =
    will_last setup lets seat role.kind start h u (λ g v leads same. passes s h g u v p refl gives leads same) (by_kind setup seat role pass role.kind refl e start s h u p gives)
