-- What a decision of the scheduler for a pod comes to: it binds the pod, takes a volume first, or gives each claim that needs a volume its node.
use Rattle.std.proofs.Common.{◌≡◌, ◌∙◌, ℕ, List, [], ◌∷◌, Bool, true, false, true≢false, Option, Some, None, refl, sym, ap, subst, if◌then◌else◌}
use Rattle.std.specs.Prelude.{map, slice_get}
use Rattle.std.specs.List.{list_all, list_any}
use Rattle.kube_objects.specs.declared.key.Key.{Key}
use Rattle.kube_parts.specs.declared.uid.Uid.{Uid}
use Rattle.kube_objects.specs.declared.objects.Pod.{Pod as PodData}
use Rattle.kube_objects.specs.declared.objects.Object.{Object}
use Rattle.kube_objects.specs.declared.objects.Object.TheVariants.{Pod}
use Rattle.kube_objects.specs.Keys.{AreRows, key_of}
use Rattle.call_types.specs.declared.reply.Reply.{Reply}
use Rattle.call_types.specs.declared.request.Request.{Request}
use Rattle.call_types.specs.declared.request.Request.TheVariants.{BindPod}
use Rattle.binder_model.specs.Choice.{are_completed, claims_of, is_served_elsewhere, is_under_way, lacks_claim, others_of}
use Rattle.model_laws.proofs.Lists.{none_some, one}
use Rattle.delayed_binding.specs.declared.choice.Choice.{Choice}
use Rattle.delayed_binding.specs.declared.choice.Choice.TheVariants.{Assign, NoNode, Prepare, Wait}
use Rattle.delayed_binding.specs.Choices.{IsChoice, IsChoiceAt, IsCompleted, IsSearching, IsServedElsewhere, IsUnderWay, LacksClaim, others_in, set_aside}
use Rattle.pod_scheduler.specs.declared.schedule.ScheduleOp.{ScheduleOp}
use Rattle.pod_scheduler.specs.declared.schedule.ScheduleStep.{ScheduleStep}
use Rattle.pod_scheduler.specs.declared.schedule.ScheduleStep.TheVariants as steps
use Rattle.pod_scheduler.specs.Decisions.{are_known, begun_with, binding, writes_for}
use Rattle.pod_scheduler.specs.Schedules.{is_write, only_write, schedule_call, schedule_call_at, schedule_moved}
use Rattle.worker_core.specs.declared.task.Task.TheVariants as tasks
use Rattle.worker_core.specs.declared.task.Under.{Under}
use Rattle.worker_core.specs.Tasks.{task_moved, under_after}
use Rattle.settle_due.specs.Scheduling.Writes.{AreWritesOn, Places, Takes, placing}
use Rattle.settle_due.proofs.Scheduling.Choosing.{IsSearch, TakesFirst, are_writes, is_assign, search_of, takes_first}
use Rattle.settle_due.proofs.Scheduling.Firsts.{begun_writes}
use Rattle.settle_tries.proofs.Slots.Leading.{goes_on}
use Rattle.settle_tries.proofs.Search.Served.{AreProvisioned, all_provisioned}

-- ---- the writes of a choice

-- a node was searched, and each claim that needs a volume is to get it
pub record IsSearched (rows : List Object) (p : PodData) (last : Option (List ℕ)) (writes : List Request) : Type 0 where
  pub name : List ℕ
  pub binds : List (Key × Key)
  pub provisions : List Key
  pub search : IsSearch rows p last name binds provisions
  pub provisioned : AreProvisioned (others_of rows p) search.prepared.prepares.shares
  pub are : writes ≡ map (placing name) (others_of rows p)

-- the pod is bound to a node, since its claims are completed
pub record BindsPod (rows : List Object) (p : PodData) (writes : List Request) : Type 0 where
  pub uid : Uid
  pub name : List ℕ
  pub completed : are_completed rows p ≡ true
  pub are : writes ≡ BindPod (key_of (Pod p)) uid name ∷ []

pub data Chosen (rows : List Object) (p : PodData) (last : Option (List ℕ)) (writes : List Request) : Type 0 where
  Binds : BindsPod rows p writes → Chosen rows p last writes
  TakesVolumes : TakesFirst rows writes → Chosen rows p last writes
  Searches : IsSearched rows p last writes → Chosen rows p last writes

module _ (rows : List Object) (p : PodData) (last : Option (List ℕ)) (name : List ℕ) where
  completed_at : (lacks done elsewhere under : Bool)
      → IsChoiceAt (if lacks then LacksClaim else if done then IsCompleted else if elsewhere then IsServedElsewhere else if under then IsUnderWay
      else IsSearching) rows (claims_of rows p) last (Assign name) → done ≡ true
  completed_at true done elsewhere under f = absurd (true≢false (ap is_assign f))
  completed_at false true elsewhere under f = refl
  completed_at false false true under f = absurd (true≢false (ap is_assign f))
  completed_at false false false true f = absurd (true≢false (ap is_assign f))
  completed_at false false false false f = absurd f

  assign_completed : IsChoice rows p last (Assign name) → are_completed rows p ≡ true
  assign_completed f = completed_at (lacks_claim rows p) (are_completed rows p) (list_any (is_served_elsewhere rows) (claims_of rows p)) (list_all (is_under_way rows) (claims_of rows p)) f

pub begun_first : (writes : List Request) (op : ScheduleOp) → Some op ≡ begun_with writes → op.step ≡ steps.Writes 0
begun_first [] op e = none_some (sym e)
begun_first (w ∷ writes) op e = ap (λ (x : ScheduleOp). x.step) (one op _ e)

module _ (rows : List Object) (order : AreRows rows) (p : PodData) (known : are_known rows p ≡ true) (last : Option (List ℕ)) where
  prepared : (name : List ℕ) (binds : List (Key × Key)) (provisions : List Key) → IsSearch rows p last name binds provisions → Chosen rows p last (writes_for rows p (Prepare name binds provisions))
  prepared name (pair ∷ more) provisions search = TakesVolumes (takes_first rows order p known last name pair more provisions search)
  prepared name [] provisions search = by (are_writes rows order p known last name [] provisions search)
    where
      by : AreWritesOn rows p name (writes_for rows p (Prepare name [] provisions)) → Chosen rows p last (writes_for rows p (Prepare name [] provisions))
      by (Takes v c rest are apart) = TakesVolumes (record { volume = v; claim = c; rest = rest; are = are; apart = apart })
      by (Places are) =
          Searches (record {
            name = name;
            binds = [];
            provisions = provisions;
            search = search;
            provisioned = all_provisioned rows search.prepared.node (others_in rows (claims_of rows p)) search.prepared.prepares.shares
                (set_aside rows) search.prepared.prepares.serves.shared (sym search.prepared.prepares.binds_are);
            are = are;
          })

  pub chosen : (choice : Choice) (op : ScheduleOp) → IsChoice rows p last choice → Some op ≡ begun_with (writes_for rows p choice) → Chosen rows p last op.writes
  chosen choice op f begins = subst (Chosen rows p last) (sym (begun_writes (writes_for rows p choice) op begins)) (by choice f begins)
    where
      bound : (name : List ℕ) (u : Option Uid) → IsChoice rows p last (Assign name) → Some op ≡ begun_with (binding p u name) → Chosen rows p last (binding p u name)
      bound name None g e = none_some (sym e)
      bound name (Some uid) g e = Binds (record { uid = uid; name = name; completed = assign_completed rows p last name g; are = refl })

      by : (x : Choice) → IsChoice rows p last x → Some op ≡ begun_with (writes_for rows p x) → Chosen rows p last (writes_for rows p x)
      by (Assign name) g e = bound name p.meta.uid g e
      by (Prepare name binds provisions) g e = prepared name binds provisions (search_of rows p last name binds provisions g)
      by Wait g e = none_some (sym e)
      by NoNode g e = none_some (sym e)

-- ---- what is under way of it

-- the call is one of the writes
pub record Schedules (writes : List Request) (u : Under) : Type 0 where
  pub op : ScheduleOp
  pub task : u.task ≡ tasks.Schedule op
  pub are : op.writes ≡ writes
  pub call : schedule_call op ≡ Some u.call

pub schedules_on : (writes : List Request) (u next : Under) (reply : Reply) → under_after u reply ≡ Some next → Schedules writes u → Schedules writes next
unfolding schedule_moved
schedules_on writes u next reply follows p =
    let g = goes_on u next reply (tasks.Schedule (schedule_moved p.op reply)) (ap (λ t. task_moved t reply) p.task) follows in
    record { op = schedule_moved p.op reply; task = g.task_is; are = p.are; call = g.call }

call_at : (place : ℕ) (writes : List Request) (call : Request) → only_write (slice_get writes place) ≡ Some call → slice_get writes place ≡ Some call
call_at place writes call e = written_ (slice_get writes place) refl e
  where
    tested : (r : Request) (b : Bool) → slice_get writes place ≡ Some r → (if b then Some r else None) ≡ Some call → slice_get writes place ≡ Some call
    tested r true at f = at ∙ f
    tested r false at f = none_some f

    written_ : (x : Option Request) → slice_get writes place ≡ x → only_write x ≡ Some call → slice_get writes place ≡ Some call
    written_ None at f = none_some f
    written_ (Some r) at f = tested r (is_write r) at f

pub among_writes : (writes : List Request) (u : Under) → Schedules writes u → (place : ℕ) × (slice_get writes place ≡ Some u.call)
unfolding schedule_call
among_writes writes u p = by p.op.step p.call
  where
    by : (step : ScheduleStep) → schedule_call_at p.op.writes step ≡ Some u.call → (place : ℕ) × (slice_get writes place ≡ Some u.call)
    by (steps.Writes place) e = (place, ap (λ rs. slice_get rs place) (sym p.are) ∙ call_at place p.op.writes u.call e)
    by steps.Done e = none_some e
    by steps.Parked e = none_some e

-- the first call is the first write
pub first_write : (writes : List Request) (u : Under) (p : Schedules writes u) → p.op.step ≡ steps.Writes 0 → slice_get writes 0 ≡ Some u.call
unfolding schedule_call
first_write writes u p first = ap (λ rs. slice_get rs 0) (sym p.are) ∙ call_at 0 p.op.writes u.call (ap (schedule_call_at p.op.writes) (sym first) ∙ p.call)
