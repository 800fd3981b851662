-- What is due begins a call that lasts: an actor acts on the key of an object for which something of its own is due.
-- A choice of this project.
use Rattle.std.specs.Prelude.{ℕ, ◌≡◌, List, Some}
use Rattle.kube_objects.specs.declared.key.Key.{Key}
use Rattle.kube_parts.specs.declared.names.Due.{Due}
use Rattle.kube_objects.specs.declared.objects.Claim.{Claim as ClaimData}
use Rattle.kube_objects.specs.declared.objects.Volume.{Volume as VolumeData}
use Rattle.kube_objects.specs.declared.objects.Object.TheVariants.{Claim, Volume}
use Rattle.kube_objects.specs.Keys.{row_at}
use Rattle.call_types.specs.declared.entry.Entry.{Entry}
use Rattle.call_types.specs.declared.request.SeatKind.TheVariants as seats
use Rattle.call_types.specs.declared.setup.Setup.{Setup}
use Rattle.binder_model.specs.BinderDue.{volume_due}
use Rattle.binder_model.specs.Due.{claim_guard_due, reclaim_due, volume_guard_due}
use Rattle.binder_model.specs.Imports.{ImportsPass}
use Rattle.binder_model.specs.World.{world}
use Rattle.worker_core.specs.declared.role.Role.{Role}
use Rattle.settle_slot.specs.Slot.Would.{WouldActOn}

-- volume protection
abbrev pub VolumeGuardsAct : Type 0
VolumeGuardsAct =
    (setup : Setup) (seat : ℕ) (role : Role) (start : List Entry) (key : Key) (v : VolumeData) (action : Due) → ImportsPass setup.imports → role.kind ≡ seats.VolumeProtect
    → row_at key (world setup start).store.rows ≡ Some (Volume v) → volume_guard_due v ≡ Some action → WouldActOn setup seat role start key

-- claim protection
abbrev pub ClaimGuardsAct : Type 0
ClaimGuardsAct =
    (setup : Setup) (seat : ℕ) (role : Role) (start : List Entry) (key : Key) (c : ClaimData) (action : Due) → ImportsPass setup.imports → role.kind ≡ seats.ClaimProtect
    → row_at key (world setup start).store.rows ≡ Some (Claim c) → claim_guard_due (world setup start).store.rows c ≡ Some action → WouldActOn setup seat role start key

-- the provisioner and reclaimer, on a volume that has ended
abbrev pub ReclaimsAct : Type 0
ReclaimsAct =
    (setup : Setup) (seat : ℕ) (role : Role) (start : List Entry) (key : Key) (v : VolumeData) (action : Due) → ImportsPass setup.imports → role.kind ≡ seats.Ops
    → row_at key (world setup start).store.rows ≡ Some (Volume v) → reclaim_due v ≡ Some action → WouldActOn setup seat role start key

-- the binder, on a volume's own account
abbrev pub VolumesAct : Type 0
VolumesAct =
    (setup : Setup) (seat : ℕ) (role : Role) (start : List Entry) (key : Key) (v : VolumeData) (action : Due) → ImportsPass setup.imports → role.kind ≡ seats.Binder
    → row_at key (world setup start).store.rows ≡ Some (Volume v) → volume_due (world setup start).store.rows v ≡ Some action → WouldActOn setup seat role start key
