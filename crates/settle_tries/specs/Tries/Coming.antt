-- Where the calls of a slot come from that begins with nothing under way: each that lasts is one of what the actor decided in it.
-- A choice of this project.
use Rattle.std.specs.Prelude.{ℕ, ◌≡◌, ◌++◌, Bool, List, ◌∷◌, None, Some, false, slice_get}
use Rattle.kube_objects.specs.declared.key.Key.{Key}
use Rattle.kube_objects.specs.declared.objects.Object.TheVariants.{Pod}
use Rattle.kube_objects.specs.declared.objects.Pod.{Pod as PodData}
use Rattle.kube_objects.specs.Bindings.{is_scheduled}
use Rattle.kube_objects.specs.Keys.{row_at}
use Rattle.call_types.specs.declared.entry.Entry.{Entry}
use Rattle.call_types.specs.declared.request.Request.{Request}
use Rattle.call_types.specs.declared.request.SeatKind.TheVariants as seats
use Rattle.delayed_binding.specs.declared.choice.Choice.{Choice}
use Rattle.delayed_binding.specs.Choices.{IsChoice}
use Rattle.pod_scheduler.specs.declared.tries.Tried.{Tried}
use Rattle.pod_scheduler.specs.Decisions.{last_refused, writes_for}
use Rattle.call_types.specs.declared.setup.Setup.{Setup}
use Rattle.binder_model.specs.Promises.{IsRunOf}
use Rattle.binder_model.specs.World.{world}
use Rattle.informer_cache.specs.All.{all_objects}
use Rattle.worker_core.specs.declared.role.Role.{Role}
use Rattle.worker_core.specs.declared.task.Under.{Under}
use Rattle.worker_core.specs.Absorbs.{woken}
use Rattle.worker_core.specs.Roles.{IsBuiltKind}
use Rattle.worker_core.specs.States.{ActorState}
use Rattle.worker_core.specs.Tasks.{GivesCall}
use Rattle.actor_rounds.specs.Rounds.{Runs, all_pass}
use Rattle.settle_writes.specs.Writes.Lasting.{Lasts}
use Rattle.settle_slot.specs.Slot.Slots.{IsDecisionPoint, own_entry}
use Rattle.settle_slot.specs.Slot.Would.{Leads}

-- what is under way was decided at a point of the slot, on the store as it was
pub record IsDecidedIn (setup : Setup) (seat : ℕ) (role : Role) (h g : List Entry) (u : Under) : Type 0 where
  pub state : ActorState
  pub point : List Entry
  pub older : List Entry
  pub behind : point ≡ older ++ h
  pub sees : IsDecisionPoint setup seat role point state point
  pub first : Under
  pub gives : GivesCall state.role state.memory (all_objects state.caches) first
  pub leads : Leads setup seat role.kind point first g u

-- the entry is a call of such
pub record IsCallOf (setup : Setup) (seat : ℕ) (role : Role) (h : List Entry) (e : Entry) (g : List Entry) : Type 0 where
  pub under : Under
  pub decided : IsDecidedIn setup seat role h g under
  pub is : own_entry setup seat role.kind g under.call ≡ e

-- so is each entry of the slot that lasts
abbrev pub LastingAreDecided : Type 0
LastingAreDecided =
    (setup : Setup) (seat : ℕ) (old after : ActorState) (h past : List Entry) (b left : ℕ) (idle : Bool) (newer older : List Entry) (e : Entry)
    → IsBuiltKind old.role.kind → IsRunOf setup past → old.under ≡ None → Runs all_pass seat after past left idle (woken old) h b
    → past ≡ newer ++ (e ∷ older ++ h) → Lasts setup (world setup (older ++ h)) e.kind e.request → IsCallOf setup seat old.role h e (older ++ h)

-- of a scheduler it is one of the writes of its choice for a pod that no node runs, which stood there under the key
pub record IsForPod (setup : Setup) (h : List Entry) (refused : List Tried) (key : Key) (call : Request) : Type 0 where
  pub pod : PodData
  pub there : row_at key (world setup h).store.rows ≡ Some (Pod pod)
  pub waits : is_scheduled pod ≡ false
  pub choice : Choice
  pub chosen : IsChoice (world setup h).store.rows pod (last_refused (world setup h).store.rows pod refused) choice
  pub place : ℕ
  pub among : slice_get (writes_for (world setup h).store.rows pod choice) place ≡ Some call

-- whatever is under way of a scheduler's decision in such a slot makes such a call
abbrev pub DecidedAreForPods : Type 0
DecidedAreForPods =
    (setup : Setup) (seat : ℕ) (role : Role) (h g : List Entry) (u : Under) → role.kind ≡ seats.Scheduler → (i : IsDecidedIn setup seat role h g u)
    → IsForPod setup i.point i.state.memory.tries.refused i.first.key u.call
