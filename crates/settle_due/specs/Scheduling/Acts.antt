-- The scheduler acts on what is due for a pod that no node runs.
-- A choice of this project.
use Rattle.std.specs.Prelude.{ℕ, ◌≡◌, false, List, Some}
use Rattle.kube_objects.specs.declared.key.Key.{Key}
use Rattle.kube_parts.specs.declared.names.Due.{Due}
use Rattle.kube_objects.specs.declared.objects.Pod.{Pod as PodData}
use Rattle.kube_objects.specs.declared.objects.Object.TheVariants.{Pod}
use Rattle.kube_objects.specs.Bindings.{is_scheduled}
use Rattle.kube_objects.specs.Keys.{row_at}
use Rattle.call_types.specs.declared.entry.Entry.{Entry}
use Rattle.call_types.specs.declared.request.SeatKind.TheVariants as seats
use Rattle.call_types.specs.declared.setup.Setup.{Setup}
use Rattle.binder_model.specs.Due.{IsDue}
use Rattle.binder_model.specs.Imports.{ImportsPass}
use Rattle.binder_model.specs.World.{world}
use Rattle.informer_cache.specs.All.{all_objects}
use Rattle.worker_core.specs.declared.role.Role.{Role}
use Rattle.worker_core.specs.States.{ActorState}
use Rattle.settle_slot.specs.Slot.Slots.{IsDecisionPoint}
use Rattle.settle_slot.specs.Slot.Would.{WouldActOn}

-- a scheduler follows every kind: where it decides, what it has cached is what the store has
abbrev pub SchedulersSeeAll : Type 0
SchedulersSeeAll = (setup : Setup) (seat : ℕ) (role : Role) (start : List Entry) (s : ActorState) (h : List Entry) → role.kind ≡ seats.Scheduler
    → IsDecisionPoint setup seat role start s h → all_objects s.caches ≡ (world setup h).store.rows

-- a pod that no node runs
abbrev pub PodsAct : Type 0
PodsAct =
    (setup : Setup) (seat : ℕ) (role : Role) (start : List Entry) (key : Key) (p : PodData) (action : Due) → ImportsPass setup.imports → role.kind ≡ seats.Scheduler
    → row_at key (world setup start).store.rows ≡ Some (Pod p) → is_scheduled p ≡ false → IsDue setup (world setup start) (Pod p) (Some action) → WouldActOn setup seat role start key
