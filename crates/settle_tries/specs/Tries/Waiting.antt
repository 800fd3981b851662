-- Each pod that is to be prepared at the end of a quiet round was tried in it, by the decision that was made for it: no claim of the pod was written before, and
-- when the scheduler's slot ends each of them that needs a volume has the node that was tried.
-- A choice of this project, after the scheduler's volume binding plugin.
use Rattle.std.specs.Prelude.{ℕ, ◌≡◌, true, false, List, ◌∷◌, Option, Some, slice_get}
use Rattle.plain_data.specs.Pairs.{value_at}
use Rattle.kube_objects.specs.declared.key.Key.{Key}
use Rattle.kube_parts.specs.declared.names.Due.TheVariants as dues
use Rattle.kube_objects.specs.declared.objects.Claim.{Claim as ClaimData}
use Rattle.kube_objects.specs.declared.objects.Node.{Node as NodeData}
use Rattle.kube_objects.specs.declared.objects.Object.TheVariants.{Pod}
use Rattle.kube_objects.specs.declared.objects.Pod.{Pod as PodData}
use Rattle.kube_objects.specs.Bindings.{is_scheduled, selected_node}
use Rattle.kube_objects.specs.Keys.{row_at}
use Rattle.call_types.specs.declared.entry.Entry.{Entry}
use Rattle.call_types.specs.declared.setup.Setup.{Setup}
use Rattle.binder_model.specs.Choice.{claim_named, is_other}
use Rattle.binder_model.specs.Due.{IsDue}
use Rattle.binder_model.specs.ObjectKeys.{claim_key}
use Rattle.binder_model.specs.Told.{SomeOf}
use Rattle.binder_model.specs.World.{world}
use Rattle.informer_cache.specs.All.{all_objects}
use Rattle.pod_scheduler.specs.Decisions.{last_refused}
use Rattle.settle_measure.specs.Left.Tries.{IsOn}
use Rattle.worker_core.specs.declared.task.Under.{Under}
use Rattle.worker_core.specs.Absorbs.{woken}
use Rattle.worker_core.specs.States.{ActorState}
use Rattle.worker_core.specs.Tasks.{GivesCall}
use Rattle.actor_rounds.specs.declared.drainers.Drainer.{Drainer}
use Rattle.actor_rounds.specs.Rounds.{IsRound, Runs, all_pass}
use Rattle.settle_slot.specs.Slot.Slots.{IsDecisionPoint}
use Rattle.settle_due.specs.Scheduling.Firsts.{IsFirstServing}
use Rattle.settle_budget.specs.Drains.Measured.{SharesWell}
use Rattle.settle_tries.specs.Tries.Deciding.{IsWithin}
use Rattle.settle_tries.specs.Tries.Quiet.{AreCached, IsQuietRound, OnlyPrepares}

-- in the round the scheduler, the first of its actors, decided the pod under the key, and began its search behind the node that was refused last; this node
-- was the first that serves the pod, and the devices cannot give there what is to be provisioned
pub record IsTried (setup : Setup) (ds : List Drainer) (h past : List Entry) (key : Key) (from : Option (List ℕ)) (node : NodeData) : Type 0 where
  pub scheduler : Drainer
  pub there : slice_get ds 0 ≡ Some scheduler
  pub state : ActorState
  pub point : List Entry
  pub within : IsWithin h point past
  pub sees : IsDecisionPoint setup scheduler.seat scheduler.actor.role point state point
  pub under : Under
  pub own : under.key ≡ key
  pub gives : GivesCall state.role state.memory (all_objects state.caches) under
  pub pod : PodData
  pub stands : row_at key (world setup point).store.rows ≡ Some (Pod pod)
  pub refused : last_refused (world setup point).store.rows pod state.memory.tries.refused ≡ from
  pub first : IsFirstServing (world setup point) pod from node
  pub fails : IsOn setup (world setup point) pod false node

-- the first slot of a whole round, and the round of the others behind it
pub record IsSlotOf (ds after : List Drainer) (h past : List Entry) (b left : ℕ) (first : Drainer) (slot : List Entry) : Type 0 where
  pub ran : Drainer
  pub others : List Drainer
  pub later : List Drainer
  pub rest : ℕ
  pub ds_are : ds ≡ first ∷ others
  pub after_are : after ≡ ran ∷ later
  pub seat : ran.seat ≡ first.seat
  pub runs : Runs all_pass first.seat ran.actor slot rest true (woken first.actor) h b
  pub round : IsRound all_pass past left others slot rest later true

-- the pod was to be prepared before the round too, and was tried in it
pub record WasTried (setup : Setup) (ds after : List Drainer) (h past : List Entry) (b left : ℕ) (key : Key) : Type 0 where
  pub pod : PodData
  pub there : row_at key (world setup h).store.rows ≡ Some (Pod pod)
  pub waits : is_scheduled pod ≡ false
  pub due : IsDue setup (world setup h) (Pod pod) (Some dues.Prepare)
  pub from : Option (List ℕ)
  pub node : NodeData
  pub tried : IsTried setup ds h past key from node
  -- up to the decision its claims stand as they stood when the round began
  pub still : (x : List Entry) → IsWithin h x tried.point → (name : List ℕ) → SomeOf (λ n. n ≡ name) pod.claims
      → row_at (claim_key pod.meta.namespace name) (world setup x).store.rows ≡ row_at (claim_key pod.meta.namespace name) (world setup h).store.rows
  pub slot : List Entry
  pub at : IsSlotOf ds after h past b left tried.scheduler slot
  pub reached : IsWithin h tried.point slot
  -- and when the slot ends each that needs a volume has the node
  pub placed : (name : List ℕ) → SomeOf (λ n. n ≡ name) pod.claims → (c : ClaimData)
      → claim_named (world setup slot).store.rows pod.meta.namespace name ≡ Some c → is_other (world setup slot).store.rows c ≡ true
      → value_at selected_node c.meta.annotations ≡ Some node.meta.name

-- so it is with each pod that is to be prepared at the end of a round that leaves as much to do, where nothing else was due before
abbrev pub WaitingAreTried : Type 0
WaitingAreTried =
    (setup : Setup) (ds after : List Drainer) (h past : List Entry) (b left : ℕ) (key : Key) (p : PodData)
    → IsQuietRound setup ds after h past b left → AreCached setup ds h → OnlyPrepares setup (world setup h) → SharesWell (world setup h)
    → row_at key (world setup past).store.rows ≡ Some (Pod p) → is_scheduled p ≡ false → IsDue setup (world setup past) (Pod p) (Some dues.Prepare) → WasTried setup ds after h past b left key
