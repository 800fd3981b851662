-- All rows in order that show the same are the same rows; so decisions by look-ups alone, and those of a scheduler, are the same on
-- them.
use Rattle.std.proofs.Common.{◌≡◌, ◌⊎◌, ℕ, List, Bool, true, false, true≢false, Option, Some, None, inl, inr, refl, sym, ◌∙◌, ap, subst, if◌then◌else◌}
use Rattle.kube_objects.specs.declared.key.Key.{Key}
use Rattle.kube_types.specs.declared.lookup.Live.TheVariants.{NotAsked}
use Rattle.kube_objects.specs.declared.objects.Object.{Object}
use Rattle.kube_objects.specs.declared.objects.Object.TheVariants.{Class, Node, Volume, Claim, Pod}
use Rattle.kube_objects.specs.declared.objects.Claim.{Claim as ClaimData}
use Rattle.kube_objects.specs.Bindings.{is_completed, is_empty, is_lost}
use Rattle.kube_objects.specs.Keys.{AreRows, row_at}
use Rattle.call_types.specs.declared.request.SeatKind.{SeatKind}
use Rattle.call_types.specs.declared.request.SeatKind.TheVariants as seats
use Rattle.call_types.specs.declared.reply.MountRow.{MountRow}
use Rattle.volume_index.specs.VolumeIndex.{as_volume}
use Rattle.claim_sync.specs.ClaimDecision.{IsVolumeFor, claim_decision, unless_lost}
use Rattle.claim_sync.specs.declared.action.ClaimStep.{ClaimStep}
use Rattle.claim_sync.specs.declared.action.ClaimStep.TheVariants as steps
use Rattle.binder_machines.specs.declared.decide.FirstMachine.{FirstMachine as BinderFirst}
use Rattle.binder_machines.specs.declared.decide.FirstMachine.TheVariants as binder_firsts
use Rattle.binder_machines.specs.declared.machine.Machine.{Machine}
use Rattle.binder_machines.specs.declared.machine.Machine.TheVariants.{Binds, AssignsClass}
use Rattle.binder_machines.specs.FirstSteps.{IsBindingTo, IsClaimFirst, IsFirst}
use Rattle.model_laws.proofs.Defaults.{default_is_one}
use Rattle.model_laws.proofs.Lists.{none_some, one}
use Rattle.pod_scheduler.specs.declared.schedule.ScheduleOp.{ScheduleOp}
use Rattle.pod_scheduler.specs.declared.tries.Tried.{Tried}
use Rattle.pod_scheduler.specs.Decisions.{BeginsOn}
use Rattle.pod_scheduler.proofs.Begun.{decisions_are_unique}
use Rattle.worker_core.specs.declared.task.First.{First}
use Rattle.worker_core.specs.declared.task.First.TheVariants as firsts
use Rattle.worker_core.specs.declared.task.Task.{Task}
use Rattle.worker_core.specs.declared.task.Task.TheVariants as tasks
use Rattle.worker_core.specs.declared.task.Under.{Under}
use Rattle.worker_core.specs.Memories.{Memory, memory_of}
use Rattle.worker_core.specs.Tasks.{IsAgentFirst, IsBinderFirst, IsFirstOf, IsPodFirst, task_call}
use Rattle.attention_law.specs.Diligence.{BeginsCall}
use Rattle.attention_law.specs.Showing.{IsLookedUp, OneShowingIsEnough}
use Rattle.attention_law.proofs.Alike.{rows_alike}

-- a binder has one decision on such a key
module _ (rows : List Object) where
  -- the volume that the claim names is one
  binding_same : (c : ClaimData) (f g : BinderFirst) → is_empty c.volume_name ≡ false → IsBindingTo rows c f → IsBindingTo rows c g → g ≡ f
  binding_same c f g named b d =
      let chosen_b : IsVolumeFor false rows c (Some b.place) = subst (λ e. IsVolumeFor e rows c (Some b.place)) named b.choice in
      let chosen_d : IsVolumeFor false rows c (Some d.place) = subst (λ e. IsVolumeFor e rows c (Some d.place)) named d.choice in
      let volumes : Some (Volume d.volume) ≡ Some (Volume b.volume) = sym d.there ∙ chosen_d ∙ sym chosen_b ∙ b.there in
      d.begins ∙ ap (λ v. binder_firsts.Begins (Binds v c)) (one d.volume b.volume (ap as_volume volumes)) ∙ sym b.begins

  pub claim_same : (c : ClaimData) (step : ClaimStep) (f g : BinderFirst) → (step ≡ steps.Bind → is_empty c.volume_name ≡ false) → IsClaimFirst rows c step f → IsClaimFirst rows c step g → g ≡ f
  claim_same c steps.Bind f g named d e = binding_same c f g (named refl) d e
  claim_same c steps.AssignClass f g named d e = e.begins ∙ ap (λ x. binder_firsts.Begins (AssignsClass c x)) (default_is_one rows e.class d.class e.default d.default) ∙ sym d.begins
  claim_same c steps.Nothing f g named d e = e ∙ sym d
  claim_same c steps.ReadVolume f g named d e = e ∙ sym d
  claim_same c steps.Lost f g named d e = e ∙ sym d

  abbrev is_bind : ClaimStep → Bool
  is_bind steps.Bind = true
  is_bind step = false

  lost_binds_none : (b : Bool) → (if b then steps.Nothing else steps.Lost) ≡ steps.Bind → ⊥
  lost_binds_none true n = true≢false (sym (ap is_bind n))
  lost_binds_none false n = true≢false (sym (ap is_bind n))

  -- a claim that is completed or names its volume is bound to the one that it names
  binds_named : (c : ClaimData) → (is_completed c ≡ true) ⊎ (is_empty c.volume_name ≡ false) → claim_decision rows c NotAsked ≡ steps.Bind → is_empty c.volume_name ≡ false
  unfolding claim_decision
  binds_named c (inr named) decides = named
  binds_named c (inl completed) decides = by (is_empty c.volume_name) refl
    where
      by : (b : Bool) → is_empty c.volume_name ≡ b → is_empty c.volume_name ≡ false
      by false e = e
      by true e =
          let lost : unless_lost c steps.Lost ≡ steps.Bind = rw (completed, e) at decides in
          absurd (lost_binds_none (is_lost c.phase) lost)

  first_same : (row : Option Object) (f g : BinderFirst) → IsLookedUp seats.Binder row → IsFirst rows row f → IsFirst rows row g → g ≡ f
  first_same (Some (Volume v)) f g looked d e = e ∙ sym d
  first_same (Some (Claim c)) f g looked d e = claim_same c (claim_decision rows c NotAsked) f g (binds_named c looked) d e
  first_same (Some (Class x)) f g looked d e = absurd looked
  first_same (Some (Node x)) f g looked d e = absurd looked
  first_same (Some (Pod x)) f g looked d e = absurd looked
  first_same None f g looked d e = absurd looked

abbrev pub machine_in : BinderFirst → Option Machine
machine_in (binder_firsts.Begins m) = Some m
machine_in first = None

-- the decision of a binder is that of its tables
pub begins_binder : (rows : List Object) (key : Key) (task : Task) → IsBinderFirst rows key (firsts.Begins task) → (m : Machine)
    × ((task ≡ tasks.Binder m) × IsFirst rows (row_at key rows) (binder_firsts.Begins m))
begins_binder rows key (tasks.Binder m) d = (m, (refl, d))
begins_binder rows key _ d = absurd d

-- the decision of a scheduler that begins a machine
begins_pod : (rows : List Object) (refused : List Tried) (row : Option Object) (task : Task) → IsPodFirst rows refused row (firsts.Begins task)
    → (op : ScheduleOp) × ((task ≡ tasks.Schedule op) × BeginsOn rows refused row (Some op))
begins_pod rows refused row (tasks.Schedule op) d = (op, (refl, d))
begins_pod rows refused row _ d = absurd d

-- where the decision is the same it begins with a call too
same_begins : (u : Under) (first : First) → task_call u.task ≡ Some u.call → first ≡ firsts.Begins u.task → BeginsCall first
same_begins u first call e = record { task = u.task; request = u.call; begins = e; call = call }

module _ (key : Key) (rows : List Object) (u : Under) (order : AreRows rows) (call : task_call u.task ≡ Some u.call) where
  -- where the decision of a binder is one
  pub binder_only : ((f g : BinderFirst) → IsFirst rows (row_at key rows) f → IsFirst rows (row_at key rows) g → g ≡ f)
      → IsBinderFirst rows key (firsts.Begins u.task) → (first : First) → IsBinderFirst rows key first → BeginsCall first
  binder_only same decided = by
    where
      begun : (m : Machine) × ((u.task ≡ tasks.Binder m) × IsFirst rows (row_at key rows) (binder_firsts.Begins m))
      begun = begins_binder rows key u.task decided

      is : (g : BinderFirst) → IsFirst rows (row_at key rows) g → g ≡ binder_firsts.Begins begun.0
      is g d = same (binder_firsts.Begins begun.0) g begun.1.1 d

      by : (first : First) → IsBinderFirst rows key first → BeginsCall first
      by firsts.Drops d = none_some (ap machine_in (is binder_firsts.Drops d))
      by (firsts.Queues k) d = none_some (ap machine_in (is (binder_firsts.Queues k) d))
      by (firsts.Begins (tasks.Binder n)) d =
          same_begins u (firsts.Begins (tasks.Binder n)) call
          (ap (λ t. firsts.Begins t) (sym (begun.1.0 ∙ ap (λ m. tasks.Binder m) (sym (one n begun.0 (ap machine_in (is (binder_firsts.Begins n) d)))))))
      by (firsts.Begins _) d = absurd d

  -- on rows in order a scheduler has one decision
  pod_only : (refused : List Tried) → IsPodFirst rows refused (row_at key rows) (firsts.Begins u.task) → (first : First) → IsPodFirst rows refused (row_at key rows) first → BeginsCall first
  pod_only refused decided = by
    where
      begun : (op : ScheduleOp) × ((u.task ≡ tasks.Schedule op) × BeginsOn rows refused (row_at key rows) (Some op))
      begun = begins_pod rows refused (row_at key rows) u.task decided

      is : (op : Option ScheduleOp) → BeginsOn rows refused (row_at key rows) op → op ≡ Some begun.0
      is op d = decisions_are_unique rows refused (row_at key rows) op (Some begun.0) order d begun.1.1

      by : (first : First) → IsPodFirst rows refused (row_at key rows) first → BeginsCall first
      by firsts.Drops d = none_some (is None d)
      by (firsts.Queues k) d = absurd d
      by (firsts.Begins (tasks.Schedule op)) d =
          same_begins u (firsts.Begins (tasks.Schedule op)) call (ap (λ t. firsts.Begins t) (sym (begun.1.0 ∙ ap (λ o. tasks.Schedule o) (sym (one op begun.0 (is (Some op) d))))))
      by (firsts.Begins _) d = absurd d

  agent_only : (node : List ℕ) (epoch : Option ℕ) (mounts : Option (List MountRow))
      → IsAgentFirst node epoch mounts (row_at key rows) (firsts.Begins u.task) → (first : First) → IsAgentFirst node epoch mounts (row_at key rows) first
      → BeginsCall first
  agent_only node (Some epoch) (Some mounts) decided first d = same_begins u first call (d ∙ sym decided)
  agent_only node (Some epoch) None decided first d = absurd decided
  agent_only node None mounts decided first d = absurd decided

  only_of : (seat : SeatKind) (node : List ℕ) (m : Memory) → IsLookedUp seat (row_at key rows)
      → IsFirstOf seat node m rows key (firsts.Begins u.task) → (first : First) → IsFirstOf seat node m rows key first → BeginsCall first
  only_of seats.Binder node m looked decided first d = binder_only (λ f g. first_same rows (row_at key rows) f g looked) decided first d
  only_of seats.ClaimProtect node m looked decided first d = same_begins u first call (d ∙ sym decided)
  only_of seats.VolumeProtect node m looked decided first d = same_begins u first call (d ∙ sym decided)
  only_of seats.Ops node m looked decided first d = same_begins u first call (d ∙ sym decided)
  only_of seats.Scheduler node m looked decided first d = pod_only m.tries.refused decided first d
  only_of seats.User node m looked decided first d = absurd decided
  only_of seats.Agent node m looked decided first d = agent_only node m.epoch m.mounts decided first d

pub one_showing : OneShowingIsEnough
one_showing role key mine rows u built shows looked own gives = record {
  rows = rows;
  shows = shows;
  under = u;
  own = own;
  gives = gives;
  only = λ other others first d. only_of key rows u shows.order gives.call role.kind role.node (memory_of role mine) looked
      (subst (λ k. IsFirstOf role.kind role.node (memory_of role mine) rows k (firsts.Begins u.task)) own gives.decided) first
      (subst (λ rs. IsFirstOf role.kind role.node (memory_of role mine) rs key first) (rows_alike rows other shows.order others.order (λ k. others.shown k ∙ sym (shows.shown k))) d);
}
