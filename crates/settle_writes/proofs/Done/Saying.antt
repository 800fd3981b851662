-- What a machine writes of a phase or of a finalizer is another than what its object has, from the decision that began it on.
use Rattle.std.proofs.Common.{◌≡◌, ℕ, List, Bool, true, false, Option, Some, None, refl, sym, ap, subst, if◌then◌else◌}
use Rattle.std.specs.Prelude.{◌||◌, bytes_eq, not, option_map, ⊤}
use Rattle.std.specs.List.{list_any}
use Rattle.kube_objects.specs.declared.key.Key.{Key}
use Rattle.kube_types.specs.declared.lookup.Live.TheVariants.{NotAsked}
use Rattle.kube_parts.specs.declared.names.Due.{Due}
use Rattle.kube_parts.specs.declared.names.Due.TheVariants as dues
use Rattle.kube_objects.specs.declared.objects.Claim.{Claim as ClaimData}
use Rattle.kube_objects.specs.declared.objects.Volume.{Volume as VolumeData}
use Rattle.kube_objects.specs.declared.objects.Object.{Object}
use Rattle.kube_objects.specs.declared.objects.Object.TheVariants.{Class, Node, Volume, Claim, Pod}
use Rattle.kube_objects.specs.declared.objects.Ref.{Ref}
use Rattle.kube_objects.specs.Bindings.{is_available, is_bound, is_completed, is_deleting, is_empty, is_ended, is_lost, is_protected_claim, is_protected_volume, ref_uid, uses}
use Rattle.kube_objects.specs.Keys.{row_at}
use Rattle.call_types.specs.declared.entry.Entry.{Entry}
use Rattle.call_types.specs.declared.reply.MountRow.{MountRow}
use Rattle.call_types.specs.declared.reply.Refusal.TheVariants as refusals
use Rattle.call_types.specs.declared.reply.Reply.{Reply}
use Rattle.call_types.specs.declared.reply.Reply.TheVariants as replies
use Rattle.call_types.specs.declared.request.Request.{Request}
use Rattle.call_types.specs.declared.request.SeatKind.{SeatKind}
use Rattle.call_types.specs.declared.request.SeatKind.TheVariants as seats
use Rattle.binder_model.specs.BinderDue.{is_reclaimed}
use Rattle.binder_model.specs.Due.{claim_guard_due, volume_guard_due}
use Rattle.binder_model.specs.Matching.{has_match}
use Rattle.binder_machines.specs.declared.decide.FirstMachine.{FirstMachine as BinderFirst}
use Rattle.binder_machines.specs.declared.decide.FirstMachine.TheVariants as binder_firsts
use Rattle.binder_machines.specs.declared.machine.Machine.{Machine}
use Rattle.binder_machines.specs.declared.machine.Machine.TheVariants.{Frees, Binds, MarksBound, ReadsClaim, Releases, Unbinds, ReadsVolume, AssignsClass, Loses}
use Rattle.binder_machines.specs.FirstSteps.{IsClaimFirst, IsFirst, lost_for, queue_of, volume_first}
use Rattle.binder_machines.specs.Machines.{claim_of_uid, claim_read, confirmed_for, machine_for, moved, unbound_to, volume_read}
use Rattle.binder_machines.proofs.Begun.{first_back}
use Rattle.claim_sync.specs.ClaimDecision.{claim_decision, completed_step, has_write, is_blocked, is_open_to, may_assign, named_step, named_volume, read_step, unless_lost}
use Rattle.claim_sync.specs.declared.action.ClaimStep.{ClaimStep}
use Rattle.claim_sync.specs.declared.action.ClaimStep.TheVariants as steps
use Rattle.volume_sync.specs.VolumeDecision.{claimed_action, free_action, referred_action, refers_by_uid, seen_claim, volume_decision}
use Rattle.volume_sync.specs.declared.action.VolumeAction.{VolumeAction}
use Rattle.volume_sync.specs.declared.action.VolumeAction.TheVariants as actions
use Rattle.model_laws.proofs.Lists.{none_some, one}
use Rattle.node_agent.specs.declared.agent.AgentOp.{AgentOp}
use Rattle.node_agent.specs.Agents.{agent_begins, agent_moved}
use Rattle.pod_scheduler.specs.Schedules.{schedule_moved}
use Rattle.protect_sync.specs.ClaimGuards.{claim_guard_step_after, claim_moved}
use Rattle.protect_sync.specs.Decisions.{claim_guard_begins, claim_guard_for, volume_guard_begins, volume_guard_for}
use Rattle.protect_sync.specs.VolumeGuards.{volume_guard_step_after, volume_moved}
use Rattle.protect_sync.specs.declared.claims.ClaimGuardStep.{ClaimGuardStep}
use Rattle.protect_sync.specs.declared.claims.ClaimGuardStep.TheVariants as claim_steps
use Rattle.protect_sync.specs.declared.volumes.VolumeGuardStep.{VolumeGuardStep}
use Rattle.protect_sync.specs.declared.volumes.VolumeGuardStep.TheVariants as volume_steps
use Rattle.reclaim_ops.specs.declared.erase.EraseOp.{EraseOp}
use Rattle.reclaim_ops.specs.declared.provision.ProvisionOp.{ProvisionOp}
use Rattle.reclaim_ops.specs.Decisions.{claim_begins, volume_begins}
use Rattle.reclaim_ops.specs.Erasures.{erase_moved}
use Rattle.reclaim_ops.specs.Provisions.{provision_moved}
use Rattle.worker_core.specs.declared.role.Role.{Role}
use Rattle.worker_core.specs.declared.task.First.{First}
use Rattle.worker_core.specs.declared.task.First.TheVariants as firsts
use Rattle.worker_core.specs.declared.task.Task.{Task}
use Rattle.worker_core.specs.declared.task.Task.TheVariants as tasks
use Rattle.worker_core.specs.declared.task.Under.{Under}
use Rattle.worker_core.specs.Memories.{Memory, memory_of}
use Rattle.worker_core.specs.Stands.{Begun, IsUnderWay, WentOn}
use Rattle.worker_core.specs.Tasks.{IsAgentFirst, IsFirstOf, agent_first, claim_guard_first, ops_first, task_call, task_moved, under_after, volume_guard_first, with_call, with_task}
use Rattle.informer_cache.specs.All.{all_objects}
use Rattle.settle_writes.proofs.Writes.Volumes.{unguard_has}

-- ---- what is new

abbrev pub IsNewMachine : Machine → Type 0
IsNewMachine (Frees v) = is_available v.phase ≡ false
IsNewMachine (MarksBound v) = is_bound v.phase ≡ false
IsNewMachine (Loses c) = is_lost c.phase ≡ false
IsNewMachine machine = ⊤

abbrev pub IsNewClaimGuard : ClaimGuardStep → ClaimData → Type 0
IsNewClaimGuard claim_steps.ListsPods c = is_protected_claim c ≡ true
IsNewClaimGuard claim_steps.Drops c = is_protected_claim c ≡ true
IsNewClaimGuard step c = ⊤

abbrev pub IsNewVolumeGuard : VolumeGuardStep → VolumeData → Type 0
IsNewVolumeGuard volume_steps.Drops v = is_protected_volume v ≡ true
IsNewVolumeGuard step v = ⊤

abbrev pub IsNewTask : Task → Type 0
IsNewTask (tasks.Binder machine) = IsNewMachine machine
IsNewTask (tasks.ClaimProtect op) = IsNewClaimGuard op.step op.claim
IsNewTask (tasks.VolumeProtect op) = IsNewVolumeGuard op.step op.volume
IsNewTask t = ⊤

-- ---- the binder, on a volume

abbrev IsNewAction : VolumeData → VolumeAction → Type 0
IsNewAction v actions.Available = is_available v.phase ≡ false
IsNewAction v actions.Bound = is_bound v.phase ≡ false
IsNewAction v action = ⊤

new_for : (v : VolumeData) (a : VolumeAction) (machine : Machine) → IsNewAction v a → machine_for v a ≡ Some machine → IsNewMachine machine
new_for v actions.Nothing machine n e = none_some e
new_for v actions.QueueClaim machine n e = none_some e
new_for v actions.Available machine n e = subst IsNewMachine (one (Frees v) machine e) n
new_for v actions.Bound machine n e = subst IsNewMachine (one (MarksBound v) machine e) n
new_for v actions.ReadClaim machine n e = subst IsNewMachine (one (ReadsClaim v) machine e) tt
new_for v actions.Release machine n e = subst IsNewMachine (one (Releases v) machine e) tt
new_for v actions.Unbind machine n e = subst IsNewMachine (one (Unbinds v) machine e) tt

freed : (v : VolumeData) → IsNewAction v (free_action v)
freed v = by (is_available v.phase) refl
  where
    by : (b : Bool) → is_available v.phase ≡ b → IsNewAction v (if b then actions.Nothing else actions.Available)
    by true e = tt
    by false e = e

claimed : (v : VolumeData) (c : ClaimData) → IsNewAction v (claimed_action v c)
claimed v c = by (is_empty c.volume_name) (bytes_eq c.volume_name v.meta.name) (is_bound v.phase) (is_protected_volume v) (is_reclaimed v) refl
  where
    by : (none this bound guarded erased : Bool) → is_bound v.phase ≡ bound
        → IsNewAction v (if none then actions.QueueClaim else if this then (if bound || not guarded then actions.Nothing else actions.Bound) else if erased then actions.Release else actions.Unbind)
    by true this bound guarded erased e = tt
    by false true true guarded erased e = tt
    by false true false true erased e = e
    by false true false false erased e = tt
    by false false bound guarded true e = tt
    by false false bound guarded false e = tt

referred : (v : VolumeData) (asked : Bool) (x : Option ClaimData) → IsNewAction v (referred_action v asked x)
referred v true None = tt
referred v false None = tt
referred v asked (Some c) = claimed v c

decided : (v : VolumeData) (known ended asked : Bool) (x : Option ClaimData) → IsNewAction v (if not known then free_action v else if ended then actions.Nothing else referred_action v asked x)
decided v false ended asked x = freed v
decided v true true asked x = tt
decided v true false asked x = referred v asked x

volume_decided : (rows : List Object) (v : VolumeData) → IsNewAction v (volume_decision rows v NotAsked)
unfolding volume_decision
volume_decided rows v = decided v (refers_by_uid v) (is_ended v.phase) false (seen_claim rows v NotAsked)

volume_read_new : (v : VolumeData) (o : Option Object) → IsNewAction v (volume_read v o)
unfolding volume_read
volume_read_new v o = decided v (refers_by_uid v) (is_ended v.phase) true (claim_of_uid (ref_uid v.claim_ref) o)

-- ---- and on a claim

abbrev IsNewStep : ClaimData → ClaimStep → Type 0
IsNewStep c steps.Lost = is_lost c.phase ≡ false
IsNewStep c step = ⊤

unless_new : (c : ClaimData) (step : ClaimStep) → (is_lost c.phase ≡ false → IsNewStep c step) → IsNewStep c (unless_lost c step)
unless_new c step new = by (is_lost c.phase) refl
  where
    by : (b : Bool) → is_lost c.phase ≡ b → IsNewStep c (if b then steps.Nothing else step)
    by true e = tt
    by false e = new e

lost_new : (c : ClaimData) → IsNewStep c (unless_lost c steps.Lost)
lost_new c = unless_new c steps.Lost (λ e. e)

either : (c : ClaimData) (b : Bool) (x y : ClaimStep) → IsNewStep c x → IsNewStep c y → IsNewStep c (if b then x else y)
either c true x y a b = a
either c false x y a b = b

read_new : (c : ClaimData) (x : Option VolumeData) → IsNewStep c (read_step c x)
read_new c None = lost_new c
read_new c (Some v) = either c _ (unless_lost c steps.Lost) steps.Nothing (lost_new c) tt

claim_read_new : (c : ClaimData) (o : Option Object) → IsNewStep c (claim_read c o)
unfolding claim_read
claim_read_new c o = either c (is_completed c) _ steps.Nothing (either c (is_empty c.volume_name) (unless_lost c steps.Lost) _ (lost_new c) (read_new c _)) tt

completed_new : (c : ClaimData) (x : Option VolumeData) → IsNewStep c (completed_step c NotAsked x)
completed_new c None = unless_new c steps.ReadVolume (λ e. tt)
completed_new c (Some v) = either c _ (unless_lost c steps.Lost) _ (lost_new c) (either c (has_write v c) steps.Bind steps.Nothing tt tt)

named_new : (c : ClaimData) (x : Option VolumeData) → IsNewStep c (named_step c x)
named_new c None = tt
named_new c (Some v) = either c (is_blocked v) steps.Nothing _ tt (either c (is_open_to v c) steps.Bind steps.Nothing tt tt)

claim_decided : (rows : List Object) (c : ClaimData) → IsNewStep c (claim_decision rows c NotAsked)
unfolding claim_decision
claim_decided rows c =
    either c (is_completed c) _ _ (either c (is_empty c.volume_name) (unless_lost c steps.Lost) _ (lost_new c) (completed_new c (named_volume rows c)))
    (either c (is_deleting c.meta) steps.Nothing _ tt
    (either c (is_empty c.volume_name) _ _ (either c (has_match rows c) steps.Bind _ tt (either c (may_assign rows c) steps.AssignClass steps.Nothing tt tt)) (named_new c (named_volume rows c))))

-- ---- what the binder begins

abbrev machine_in : BinderFirst → Option Machine
machine_in (binder_firsts.Begins machine) = Some machine
machine_in first = None

volume_begins_new : (v : VolumeData) (machine : Machine) (a : VolumeAction) → IsNewAction v a → binder_firsts.Begins machine ≡ volume_first v a → IsNewMachine machine
volume_begins_new v machine actions.QueueClaim n e = queues v.claim_ref e
  where
    queues : (r : Option Ref) → binder_firsts.Begins machine ≡ queue_of r → IsNewMachine machine
    queues None h = none_some (sym (ap machine_in h))
    queues (Some r) h = none_some (sym (ap machine_in h))
volume_begins_new v machine actions.Nothing n e = new_for v actions.Nothing machine n (first_back (machine_for v actions.Nothing) machine e)
volume_begins_new v machine actions.ReadClaim n e = new_for v actions.ReadClaim machine n (first_back (machine_for v actions.ReadClaim) machine e)
volume_begins_new v machine actions.Available n e = new_for v actions.Available machine n (first_back (machine_for v actions.Available) machine e)
volume_begins_new v machine actions.Bound n e = new_for v actions.Bound machine n (first_back (machine_for v actions.Bound) machine e)
volume_begins_new v machine actions.Release n e = new_for v actions.Release machine n (first_back (machine_for v actions.Release) machine e)
volume_begins_new v machine actions.Unbind n e = new_for v actions.Unbind machine n (first_back (machine_for v actions.Unbind) machine e)

same_machine : (a b : Machine) → binder_firsts.Begins a ≡ binder_firsts.Begins b → IsNewMachine b → IsNewMachine a
same_machine a b e n = subst IsNewMachine (sym (one a b (ap machine_in e))) n

claim_begins_new : (rows : List Object) (c : ClaimData) (machine : Machine) (step : ClaimStep) → IsNewStep c step → IsClaimFirst rows c step (binder_firsts.Begins machine) → IsNewMachine machine
claim_begins_new rows c machine steps.Bind n b = same_machine machine _ b.begins tt
claim_begins_new rows c machine steps.AssignClass n b = same_machine machine _ b.begins tt
claim_begins_new rows c machine steps.ReadVolume n e = same_machine machine (ReadsVolume c) e tt
claim_begins_new rows c machine steps.Nothing n e = none_some (sym (ap machine_in e))
claim_begins_new rows c machine steps.Lost n e = lost (is_empty c.volume_name) e
  where
    lost : (b : Bool) → binder_firsts.Begins machine ≡ binder_firsts.Begins (lost_for b c) → IsNewMachine machine
    lost true h = same_machine machine (Loses c) h n
    lost false h = same_machine machine (ReadsVolume c) h tt

binder_new : (rows : List Object) (row : Option Object) (machine : Machine) → IsFirst rows row (binder_firsts.Begins machine) → IsNewMachine machine
binder_new rows (Some (Volume v)) machine first = volume_begins_new v machine (volume_decision rows v NotAsked) (volume_decided rows v) first
binder_new rows (Some (Claim c)) machine first = claim_begins_new rows c machine (claim_decision rows c NotAsked) (claim_decided rows c) first
binder_new rows (Some (Class x)) machine first = none_some (sym (ap machine_in first))
binder_new rows (Some (Node x)) machine first = none_some (sym (ap machine_in first))
binder_new rows (Some (Pod x)) machine first = none_some (sym (ap machine_in first))
binder_new rows None machine first = none_some (sym (ap machine_in first))

-- ---- what the others begin

abbrev task_in : First → Option Task
task_in (firsts.Begins task) = Some task
task_in first = None

same_task : (a b : Task) → firsts.Begins a ≡ firsts.Begins b → IsNewTask b → IsNewTask a
same_task a b e n = subst IsNewTask (sym (one a b (ap task_in e))) n

pub no_task : {X : Type 0} (a : Task) → firsts.Begins a ≡ firsts.Drops → X
no_task a e = none_some (sym (ap task_in e))

claim_guard_new : (rows : List Object) (row : Option Object) (t : Task) → firsts.Begins t ≡ claim_guard_first (claim_guard_begins rows row) → IsNewTask t
claim_guard_new rows None t first = no_task t first
claim_guard_new rows (Some (Class x)) t first = no_task t first
claim_guard_new rows (Some (Node x)) t first = no_task t first
claim_guard_new rows (Some (Volume x)) t first = no_task t first
claim_guard_new rows (Some (Pod x)) t first = no_task t first
claim_guard_new rows (Some (Claim c)) t first = by (claim_guard_due rows c) refl first
  where
    by : (a : Option Due) → claim_guard_due rows c ≡ a → firsts.Begins t ≡ claim_guard_first (claim_guard_for c a) → IsNewTask t
    by None is e = no_task t e
    by (Some dues.Guard) is e = same_task t (tasks.ClaimProtect (record { claim = c; step = claim_steps.Adds })) e tt
    by (Some dues.Unguard) is e = same_task t (tasks.ClaimProtect (record { claim = c; step = claim_steps.ListsPods })) e (unguard_has
        (is_deleting c.meta) (is_protected_claim c) (list_any (uses c) rows) is).1
    by (Some _) is e = no_task t e

volume_guard_new : (row : Option Object) (t : Task) → firsts.Begins t ≡ volume_guard_first (volume_guard_begins row) → IsNewTask t
volume_guard_new None t first = no_task t first
volume_guard_new (Some (Class x)) t first = no_task t first
volume_guard_new (Some (Node x)) t first = no_task t first
volume_guard_new (Some (Claim x)) t first = no_task t first
volume_guard_new (Some (Pod x)) t first = no_task t first
volume_guard_new (Some (Volume v)) t first = by (volume_guard_due v) refl first
  where
    by : (a : Option Due) → volume_guard_due v ≡ a → firsts.Begins t ≡ volume_guard_first (volume_guard_for v a) → IsNewTask t
    by None is e = no_task t e
    by (Some dues.Guard) is e = same_task t (tasks.VolumeProtect (record { volume = v; step = volume_steps.Adds })) e tt
    by (Some dues.Unguard) is e = same_task t (tasks.VolumeProtect (record { volume = v; step = volume_steps.Drops })) e (unguard_has
        (is_deleting v.meta) (is_protected_volume v) (is_bound v.phase) is).1
    by (Some _) is e = no_task t e

ops_new : (x : Option ProvisionOp) (y : Option EraseOp) (t : Task) → firsts.Begins t ≡ ops_first x y → IsNewTask t
ops_new (Some op) y t first = same_task t (tasks.Provision op) first tt
ops_new None (Some op) t first = same_task t (tasks.Erase op) first tt
ops_new None None t first = no_task t first

agent_new : (node : List ℕ) (epoch : Option ℕ) (mounts : Option (List MountRow)) (row : Option Object) (t : Task) → IsAgentFirst node epoch mounts row (firsts.Begins t) → IsNewTask t
agent_new node None mounts row t first = absurd first
agent_new node (Some epoch) None row t first = absurd first
agent_new node (Some epoch) (Some mounts) row t first = by (agent_begins node epoch mounts row) first
  where
    by : (x : Option AgentOp) → firsts.Begins t ≡ agent_first x → IsNewTask t
    by None e = no_task t e
    by (Some op) e = same_task t (tasks.Agent op) e tt

begun_new : (kind : SeatKind) (node : List ℕ) (m : Memory) (rows : List Object) (key : Key) (t : Task) → IsFirstOf kind node m rows key (firsts.Begins t) → IsNewTask t
begun_new seats.Binder node m rows key (tasks.Binder machine) first = binder_new rows (row_at key rows) machine first
begun_new seats.Binder node m rows key (tasks.ClaimProtect op) first = absurd first
begun_new seats.Binder node m rows key (tasks.VolumeProtect op) first = absurd first
begun_new seats.Binder node m rows key (tasks.Agent op) first = absurd first
begun_new seats.Binder node m rows key (tasks.Provision op) first = absurd first
begun_new seats.Binder node m rows key (tasks.Erase op) first = absurd first
begun_new seats.Binder node m rows key (tasks.Schedule op) first = absurd first
begun_new seats.ClaimProtect node m rows key t first = claim_guard_new rows (row_at key rows) t first
begun_new seats.VolumeProtect node m rows key t first = volume_guard_new (row_at key rows) t first
begun_new seats.Agent node m rows key t first = agent_new node m.epoch m.mounts (row_at key rows) t first
begun_new seats.Ops node m rows key t first = ops_new (claim_begins rows (row_at key rows)) (volume_begins (row_at key rows)) t first
begun_new seats.Scheduler node m rows key (tasks.Schedule op) first = tt
begun_new seats.Scheduler node m rows key _ first = absurd first
begun_new seats.User node m rows key t first = absurd first

-- ---- after an answer

confirmed_new : (c : ClaimData) (step : ClaimStep) (next : Machine) → IsNewStep c step → confirmed_for c step ≡ Some next → IsNewMachine next
confirmed_new c steps.Lost next n e = subst IsNewMachine (one (Loses c) next e) n
confirmed_new c _ next n e = none_some e

unbound_new : (w : VolumeData) (next : Machine) → unbound_to w ≡ Some next → IsNewMachine next
unbound_new w next e = by (refers_by_uid w) e
  where
    by : (b : Bool) → (if b then None else machine_for w (free_action w)) ≡ Some next → IsNewMachine next
    by true h = none_some h
    by false h = new_for w (free_action w) next (freed w) h

moved_new : (m : Machine) (reply : Reply) (next : Machine) → moved m reply ≡ Some next → IsNewMachine next
unfolding moved
moved_new (Binds v c) (replies.Done (Volume w)) next e = subst IsNewMachine (one (Binds w c) next e) tt
moved_new (Binds v c) (replies.Done (Claim d)) next e = subst IsNewMachine (one (Binds v d) next e) tt
moved_new (Binds v c) _ next e = none_some e
moved_new (Unbinds v) (replies.Done (Volume w)) next e = unbound_new w next e
moved_new (Unbinds v) _ next e = none_some e
moved_new (ReadsClaim v) (replies.Refused refusals.NotFound) next e = new_for v (volume_read v None) next (volume_read_new v None) e
moved_new (ReadsClaim v) (replies.Found o) next e = new_for v (volume_read v (Some o)) next (volume_read_new v (Some o)) e
moved_new (ReadsClaim v) _ next e = none_some e
moved_new (ReadsVolume c) (replies.Refused refusals.NotFound) next e = confirmed_new c (claim_read c None) next (claim_read_new c None) e
moved_new (ReadsVolume c) (replies.Found o) next e = confirmed_new c (claim_read c (Some o)) next (claim_read_new c (Some o)) e
moved_new (ReadsVolume c) _ next e = none_some e
moved_new (Frees v) reply next e = none_some e
moved_new (MarksBound v) reply next e = none_some e
moved_new (Releases v) reply next e = none_some e
moved_new (AssignsClass c x) reply next e = none_some e
moved_new (Loses c) reply next e = none_some e

claim_guard_goes : (step : ClaimGuardStep) (c : ClaimData) (reply : Reply) → IsNewClaimGuard step c → IsNewClaimGuard (claim_guard_step_after step c reply) c
claim_guard_goes claim_steps.Done c reply n = tt
claim_guard_goes claim_steps.Parked c reply n = tt
claim_guard_goes claim_steps.Adds c (replies.Refused refusal) n = tt
claim_guard_goes claim_steps.Adds c _ n = tt
claim_guard_goes claim_steps.Drops c (replies.Refused refusal) n = tt
claim_guard_goes claim_steps.Drops c _ n = tt
claim_guard_goes claim_steps.ListsPods c (replies.Refused refusal) n = tt
claim_guard_goes claim_steps.ListsPods c (replies.Listed items version) n = by (list_any (uses c) items)
  where
    by : (b : Bool) → IsNewClaimGuard (if b then claim_steps.Done else claim_steps.Drops) c
    by true = tt
    by false = n
claim_guard_goes claim_steps.ListsPods c _ n = tt

volume_guard_goes : (step : VolumeGuardStep) (v : VolumeData) (reply : Reply) → IsNewVolumeGuard (volume_guard_step_after step reply) v
volume_guard_goes volume_steps.Done v reply = tt
volume_guard_goes volume_steps.Parked v reply = tt
volume_guard_goes volume_steps.Adds v (replies.Refused refusal) = tt
volume_guard_goes volume_steps.Adds v _ = tt
volume_guard_goes volume_steps.Drops v (replies.Refused refusal) = tt
volume_guard_goes volume_steps.Drops v _ = tt

task_goes : (t next : Task) (reply : Reply) → IsNewTask t → task_moved t reply ≡ Some next → IsNewTask next
unfolding claim_moved volume_moved
task_goes (tasks.Binder m) next reply n is = by (moved m reply) refl is
  where
    by : (x : Option Machine) → moved m reply ≡ x → option_map (λ k. tasks.Binder k) x ≡ Some next → IsNewTask next
    by None at h = none_some h
    by (Some k) at h = subst IsNewTask (one (tasks.Binder k) next h) (moved_new m reply k at)
task_goes (tasks.ClaimProtect op) next reply n is = subst IsNewTask (one _ next is) (claim_guard_goes op.step op.claim reply n)
task_goes (tasks.VolumeProtect op) next reply n is = subst IsNewTask (one _ next is) (volume_guard_goes op.step op.volume reply)
task_goes (tasks.Agent op) next reply n is = subst IsNewTask (one (tasks.Agent (agent_moved op reply)) next is) tt
task_goes (tasks.Provision op) next reply n is = subst IsNewTask (one (tasks.Provision (provision_moved op reply)) next is) tt
task_goes (tasks.Erase op) next reply n is = subst IsNewTask (one (tasks.Erase (erase_moved op reply)) next is) tt
task_goes (tasks.Schedule op) next reply n is = subst IsNewTask (one (tasks.Schedule (schedule_moved op reply)) next is) tt

under_goes : (before u : Under) (reply : Reply) → IsNewTask before.task → under_after before reply ≡ Some u → IsNewTask u.task
under_goes before u reply n is = by (task_moved before.task reply) refl is
  where
    calls : (t : Task) (c : Option Request) → IsNewTask t → with_call before.key t c ≡ Some u → IsNewTask u.task
    calls t None new h = none_some h
    calls t (Some c) new h = subst (λ (x : Under). IsNewTask x.task) (one _ u h) new

    by : (x : Option Task) → task_moved before.task reply ≡ x → with_task before.key x ≡ Some u → IsNewTask u.task
    by None at h = none_some h
    by (Some t) at h = calls t (task_call t) (task_goes before.task t reply n at) h

-- what is under way
pub under_new : (role : Role) (u : Under) (mine : List Entry) → IsUnderWay role u mine → IsNewTask u.task
under_new role u mine (Begun c stand order listed gives) = begun_new role.kind role.node (memory_of role mine) (all_objects c) u.key u.task gives.decided
under_new role u mine (WentOn before e past split way told asked moves) = under_goes before u e.reply (under_new role before past way) moves
