-- The reclaimer pays, and with what it begins for claims the whole role of provisioner and reclaimer.
-- A choice of this project.
use Rattle.std.specs.Prelude.{ℕ, ◌≡◌, ◌<◌, ◌^◌, List, Some}
use Rattle.kube_parts.specs.declared.uid.Uid.{Uid}
use Rattle.kube_objects.specs.declared.objects.Object.{Object}
use Rattle.kube_objects.specs.Keys.{meta_of}
use Rattle.call_types.specs.declared.entry.Entry.{Entry}
use Rattle.call_types.specs.declared.request.SeatKind.TheVariants as seats
use Rattle.call_types.specs.declared.setup.Setup.{Setup}
use Rattle.binder_model.specs.Promises.{IsRunOf}
use Rattle.binder_model.specs.Told.{SomeOf}
use Rattle.informer_cache.specs.All.{all_objects}
use Rattle.reclaim_ops.specs.declared.erase.EraseOp.{EraseOp}
use Rattle.worker_core.specs.declared.role.Role.{Role}
use Rattle.worker_core.specs.declared.task.Task.TheVariants as tasks
use Rattle.worker_core.specs.declared.task.Under.{Under}
use Rattle.worker_core.specs.States.{ActorState}
use Rattle.worker_core.specs.Tasks.{GivesCall}
use Rattle.settle_slot.specs.Slot.Slots.{IsDecisionPoint}
use Rattle.settle_pays.specs.Pays.Pays.{DecisionsPay, WillPay}

-- Each import has a UID of 128 bits, as each that a text can give is. Two longer ones may have one text, and then the data of two claims
-- have one name
abbrev pub UidsFit : Setup → Type 0
UidsFit setup = (o : Object) (uid : Uid) → SomeOf (λ x. x ≡ o) setup.imports → (meta_of o).uid ≡ Some uid → uid.0 < 2 ^ 128

-- what the provisioner and reclaimer begins for a volume in a run, where it sees the store as it is, will pay
abbrev pub ReclaimingPays : Type 0
ReclaimingPays =
    (setup : Setup) (seat : ℕ) (role : Role) → role.kind ≡ seats.Ops → UidsFit setup → (s : ActorState) (h : List Entry) (u : Under) (op : EraseOp)
    → IsRunOf setup h → IsDecisionPoint setup seat role h s h → GivesCall s.role s.memory (all_objects s.caches) u
    → u.task ≡ tasks.Erase op → WillPay setup seat role.kind h u

-- so whatever it begins will
abbrev pub OpsPay : Type 0
OpsPay = (setup : Setup) (seat : ℕ) (role : Role) → role.kind ≡ seats.Ops → UidsFit setup → DecisionsPay setup seat role
