-- The provisioner acts on what is due for a claim that no volume matches.
-- A choice of this project.
use Rattle.std.specs.Prelude.{ℕ, ◌≡◌, List, Some}
use Rattle.kube_objects.specs.declared.key.Key.{Key}
use Rattle.kube_parts.specs.declared.names.Due.{Due}
use Rattle.kube_parts.specs.declared.names.Due.TheVariants as dues
use Rattle.kube_objects.specs.declared.objects.Claim.{Claim as ClaimData}
use Rattle.kube_objects.specs.declared.objects.Object.TheVariants.{Claim}
use Rattle.kube_objects.specs.Keys.{row_at}
use Rattle.call_types.specs.declared.entry.Entry.{Entry}
use Rattle.call_types.specs.declared.request.SeatKind.TheVariants as seats
use Rattle.call_types.specs.declared.setup.Setup.{Setup}
use Rattle.binder_model.specs.Due.{provision_due}
use Rattle.binder_model.specs.Imports.{ImportsPass}
use Rattle.binder_model.specs.World.{world}
use Rattle.worker_core.specs.declared.role.Role.{Role}
use Rattle.settle_slot.specs.Slot.Would.{WouldActOn}

-- the provisioner acts on a claim for which this is due of it
abbrev pub ActsWhereDue : Due → Type 0
ActsWhereDue action =
    (setup : Setup) (seat : ℕ) (role : Role) (start : List Entry) (key : Key) (c : ClaimData) → ImportsPass setup.imports → role.kind ≡ seats.Ops
    → row_at key (world setup start).store.rows ≡ Some (Claim c) → provision_due setup (world setup start) c ≡ Some action → WouldActOn setup seat role start key

-- a volume is to be provisioned
abbrev pub ProvisionsAct : Type 0
ProvisionsAct = ActsWhereDue dues.Provision

-- the node that was selected for the claim is to be cleared
abbrev pub ClearsAct : Type 0
ClearsAct = ActsWhereDue dues.ClearNode
