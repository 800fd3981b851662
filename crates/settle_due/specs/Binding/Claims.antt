-- The binder acts on what is due for a claim.
-- A choice of this project.
use Rattle.std.specs.Prelude.{ℕ, ◌≡◌, List, Some}
use Rattle.kube_objects.specs.declared.key.Key.{Key}
use Rattle.kube_parts.specs.declared.names.Due.{Due}
use Rattle.kube_objects.specs.declared.objects.Claim.{Claim as ClaimData}
use Rattle.kube_objects.specs.declared.objects.Object.TheVariants.{Claim}
use Rattle.kube_objects.specs.Keys.{row_at}
use Rattle.call_types.specs.declared.entry.Entry.{Entry}
use Rattle.call_types.specs.declared.request.SeatKind.TheVariants as seats
use Rattle.call_types.specs.declared.setup.Setup.{Setup}
use Rattle.binder_model.specs.BinderDue.{claim_due}
use Rattle.binder_model.specs.Imports.{ImportsPass}
use Rattle.binder_model.specs.World.{world}
use Rattle.worker_core.specs.declared.role.Role.{Role}
use Rattle.settle_slot.specs.Slot.Would.{WouldActOn}

-- a claim that is to be bound, to get its class, or to be written Lost
abbrev pub ClaimsAct : Type 0
ClaimsAct =
    (setup : Setup) (seat : ℕ) (role : Role) (start : List Entry) (key : Key) (c : ClaimData) (action : Due) → ImportsPass setup.imports → role.kind ≡ seats.Binder
    → row_at key (world setup start).store.rows ≡ Some (Claim c) → claim_due (world setup start).store.rows c ≡ Some action → WouldActOn setup seat role start key
