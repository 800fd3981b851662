-- Where the look-up is the store itself, what begins on a pod is what is due for it: its first call binds the pod where that is due, and
-- prepares a node where some node serves the pod's claims, which is due as far as the devices can give what is to be provisioned there.
-- A choice of this project.
use Rattle.std.specs.Prelude.{◌≡◌, ◌↔◌, true, false, List, Option, Some, None, is_some}
use Rattle.kube_parts.specs.declared.names.Due.{Due}
use Rattle.kube_parts.specs.declared.names.Due.TheVariants as dues
use Rattle.kube_objects.specs.declared.objects.Pod.{Pod as PodData}
use Rattle.kube_objects.specs.declared.objects.Object.{Object}
use Rattle.kube_objects.specs.declared.objects.Object.TheVariants.{Pod}
use Rattle.kube_objects.specs.Bindings.{is_scheduled}
use Rattle.kube_objects.specs.Keys.{AreRows}
use Rattle.call_types.specs.declared.setup.Setup.{Setup}
use Rattle.call_types.specs.declared.request.Request.{Request}
use Rattle.call_types.specs.declared.request.Request.TheVariants as requests
use Rattle.binder_model.specs.Due.{CanPrepare, IsDue}
use Rattle.binder_model.specs.World.{World}
use Rattle.delayed_binding.specs.ChoiceLaw.{HaveNoNamespace}
use Rattle.pod_scheduler.specs.declared.schedule.ScheduleOp.{ScheduleOp}
use Rattle.pod_scheduler.specs.declared.tries.Tried.{Tried}
use Rattle.pod_scheduler.specs.Decisions.{BeginsOn, are_known}
use Rattle.pod_scheduler.specs.Schedules.{schedule_call}

-- the first call of what began
abbrev pub first_call : Option ScheduleOp → Option Request
first_call None = None
first_call (Some op) = schedule_call op

-- the pod and each of its claims have their UIDs, as in each store
pub record AreUidsKnown (rows : List Object) (p : PodData) : Type 0 where
  pub pod : is_some p.meta.uid ≡ true
  pub claims : are_known rows p ≡ true

-- what is due for the pod where this is the first call
abbrev pub IsDueAt : Setup → World → PodData → Option Request → Option Due → Type 0
IsDueAt setup w p None action = action ≡ None
IsDueAt setup w p (Some (requests.BindPod key uid node)) action = action ≡ Some dues.Assign
IsDueAt setup w p (Some request) (Some action) = (action ≡ dues.Prepare) × CanPrepare setup w p
IsDueAt setup w p (Some request) None = CanPrepare setup w p → ⊥

-- what begins for a pod is what is due for it
abbrev pub BeginsWhatIsDue : Type 0
BeginsWhatIsDue =
    (setup : Setup) (w : World) (p : PodData) (refused : List Tried) (op : Option ScheduleOp) (action : Option Due)
    → AreRows w.store.rows → HaveNoNamespace w.store.rows → is_scheduled p ≡ false → AreUidsKnown w.store.rows p
    → BeginsOn w.store.rows refused (Some (Pod p)) op
    → IsDue setup w (Pod p) action ↔ IsDueAt setup w p (first_call op) action
