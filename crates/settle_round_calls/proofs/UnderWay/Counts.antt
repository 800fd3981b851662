-- How many writes what is under way may still do, and what an answer leaves of them where it ends with its write.
use Rattle.std.proofs.Common.{◌≡◌, ℕ, ◌+◌, ◌≤◌, List, Bool, true, false, true≢false, Option, Some, None, refl, sym, ap, arith, if◌then◌else◌}
use Rattle.std.specs.Prelude.{nat_lt}
use Rattle.kube_objects.specs.declared.key.Key.{Key}
use Rattle.kube_parts.specs.declared.uid.Uid.{Uid}
use Rattle.kube_objects.specs.declared.objects.Class.{Class as ClassData}
use Rattle.kube_objects.specs.declared.objects.Claim.{Claim as ClaimData}
use Rattle.kube_objects.specs.declared.objects.Volume.{Volume as VolumeData}
use Rattle.kube_objects.specs.declared.objects.Object.{Object}
use Rattle.kube_objects.specs.declared.objects.Object.TheVariants.{Class, Node, Volume, Claim, Pod}
use Rattle.kube_objects.specs.Bindings.{carries, is_available, is_bound}
use Rattle.call_types.specs.declared.reply.Refusal.TheVariants as refusals
use Rattle.call_types.specs.declared.reply.Reply.{Reply}
use Rattle.call_types.specs.declared.reply.Reply.TheVariants as replies
use Rattle.call_types.specs.declared.request.Request.{Request}
use Rattle.call_types.specs.declared.request.Request.TheVariants as requests
use Rattle.binder_model.specs.BindWrites.{is_completed_with, shows_bound}
use Rattle.claim_sync.specs.declared.action.ClaimStep.{ClaimStep}
use Rattle.claim_sync.specs.declared.action.ClaimStep.TheVariants as claim_actions
use Rattle.volume_sync.specs.VolumeDecision.{refers_by_uid}
use Rattle.volume_sync.specs.declared.action.VolumeAction.{VolumeAction}
use Rattle.volume_sync.specs.declared.action.VolumeAction.TheVariants as actions
use Rattle.binder_machines.specs.declared.machine.Machine.{Machine}
use Rattle.binder_machines.specs.declared.machine.Machine.TheVariants.{Frees, Binds, MarksBound, ReadsClaim, Releases, Unbinds, ReadsVolume, AssignsClass, Loses}
use Rattle.binder_machines.specs.Machines.{claim_read, confirmed_for, machine_for, moved, unbound_to, volume_read}
use Rattle.node_agent.specs.declared.agent.AgentOp.{AgentOp}
use Rattle.node_agent.specs.declared.step.AgentStep.{AgentStep}
use Rattle.node_agent.specs.declared.step.AgentStep.TheVariants as agent_steps
use Rattle.node_agent.specs.Agents.{agent_after, agent_call, agent_call_at, agent_moved, ready_by}
use Rattle.protect_sync.specs.declared.claims.ClaimGuardOp.{ClaimGuardOp}
use Rattle.protect_sync.specs.declared.claims.ClaimGuardStep.{ClaimGuardStep}
use Rattle.protect_sync.specs.declared.claims.ClaimGuardStep.TheVariants as claim_steps
use Rattle.protect_sync.specs.ClaimGuards.{claim_guard_call, claim_guard_call_at, claim_guard_step_after, claim_moved}
use Rattle.protect_sync.specs.declared.volumes.VolumeGuardOp.{VolumeGuardOp}
use Rattle.protect_sync.specs.declared.volumes.VolumeGuardStep.{VolumeGuardStep}
use Rattle.protect_sync.specs.declared.volumes.VolumeGuardStep.TheVariants as volume_steps
use Rattle.protect_sync.specs.VolumeGuards.{volume_guard_call, volume_guard_call_at, volume_guard_step_after, volume_moved}
use Rattle.reclaim_ops.specs.declared.erase.EraseOp.{EraseOp}
use Rattle.reclaim_ops.specs.declared.erase.EraseStep.{EraseStep}
use Rattle.reclaim_ops.specs.declared.erase.EraseStep.TheVariants as erase_steps
use Rattle.reclaim_ops.specs.Erasures.{erase_call, erase_call_at, erase_moved, moved_at}
use Rattle.reclaim_ops.specs.declared.provision.ProvisionOp.{ProvisionOp}
use Rattle.reclaim_ops.specs.declared.provision.ProvisionStep.{ProvisionStep}
use Rattle.reclaim_ops.specs.declared.provision.ProvisionStep.TheVariants as provision_steps
use Rattle.reclaim_ops.specs.Provisions.{provision_call, provision_call_at, provision_moved, provision_step_after}
use Rattle.settle_measure.specs.Left.Measure.{total, unless}
use Rattle.worker_core.specs.declared.task.Task.{Task}
use Rattle.worker_core.specs.declared.task.Task.TheVariants as tasks
use Rattle.worker_core.specs.declared.task.Under.{Under}
use Rattle.worker_core.specs.Tasks.{task_call, with_call}
use Rattle.settle_calls.specs.Tasks.Ends.{done_by}
use Rattle.settle_round_calls.specs.UnderWay.Ends.{volume_write}

-- ---- the numbers

-- the four writes of a binding that are still to be made
abbrev pub binds_left : VolumeData → ClaimData → ℕ
binds_left v c = if carries v c then (if is_bound v.phase then (if is_completed_with c v then (if shows_bound c v then 0 else 1) else 2) else 3) else 4

-- a volume that is unbound may be freed, and one that is read may be unbound or released
abbrev pub machine_writes : Machine → ℕ
machine_writes (Binds v c) = binds_left v c
machine_writes (Unbinds v) = 2
machine_writes (ReadsClaim v) = 2
machine_writes (ReadsVolume c) = 2
machine_writes machine = 1

-- an object no newer than the version with which what is under way was found
abbrev pub low_volume : ℕ → Object → ℕ
low_volume base (Volume v) = unless (nat_lt base v.meta.version) 1
low_volume base o = 0

abbrev pub low_claim : ℕ → Object → ℕ
low_claim base (Claim c) = unless (nat_lt base c.meta.version) 1
low_claim base o = 0

abbrev pub task_writes : ℕ → List Object → Task → ℕ
task_writes base rows (tasks.Schedule op) = 1 + (total (low_volume base) rows + total (low_claim base) rows)
task_writes base rows (tasks.Binder machine) = machine_writes machine
task_writes base rows task = 1

abbrev pub task_volumes : ℕ → List Object → Task → ℕ
task_volumes base rows (tasks.Schedule op) = total (low_volume base) rows
task_volumes base rows (tasks.Binder machine) = machine_writes machine
task_volumes base rows task = 1

abbrev pub under_by : (Task → ℕ) → Option Under → ℕ
under_by f None = 0
under_by f (Some u) = f u.task

pub with_few : (f : Task → ℕ) (key : Key) (t : Task) (c : Option Request) → under_by f (with_call key t c) ≤ f t
with_few f key t None = omega arith
with_few f key t (Some r) = omega arith

pub with_none : (f : Task → ℕ) (key : Key) (t : Task) (c : Option Request) → c ≡ None → under_by f (with_call key t c) ≡ 0
with_none f key t c e = ap (λ x. under_by f (with_call key t x)) e

-- a write into a volume is a write
pub volume_few : (request : Request) (reply : Reply) → volume_write request reply ≤ done_by request reply
volume_few (requests.Update o given) reply = by o
  where
    by : (x : Object) → volume_write (requests.Update x given) reply ≤ done_by (requests.Update x given) reply
    by (Volume v) = of reply
      where
        of : (a : Reply) → volume_write (requests.Update (Volume v) given) a ≤ done_by (requests.Update (Volume v) given) a
        of (replies.Done o) = omega arith
        of _ = omega arith
    by (Claim v) = omega arith
    by (Class v) = omega arith
    by (Node v) = omega arith
    by (Pod v) = omega arith
volume_few _ reply = omega arith

-- ---- the answer to a write ends a task of one write

-- the answer tells a write
abbrev pub tells_write : Reply → Bool
tells_write (replies.Done o) = true
tells_write (replies.Left o) = true
tells_write reply = false

claim_done : (step : ClaimGuardStep) (c : ClaimData) (reply : Reply) → tells_write reply ≡ true → claim_guard_call_at (claim_guard_step_after step c reply) c ≡ None
claim_done claim_steps.Done c reply e = refl
claim_done claim_steps.Parked c reply e = refl
claim_done claim_steps.Adds c (replies.Done o) e = refl
claim_done claim_steps.Adds c (replies.Left o) e = refl
claim_done claim_steps.Adds c _ e = absurd (true≢false (sym e))
claim_done claim_steps.Drops c (replies.Done o) e = refl
claim_done claim_steps.Drops c (replies.Left o) e = refl
claim_done claim_steps.Drops c _ e = absurd (true≢false (sym e))
claim_done claim_steps.ListsPods c (replies.Done o) e = refl
claim_done claim_steps.ListsPods c (replies.Left o) e = refl
claim_done claim_steps.ListsPods c _ e = absurd (true≢false (sym e))

volume_done : (step : VolumeGuardStep) (v : VolumeData) (reply : Reply) → tells_write reply ≡ true → volume_guard_call_at (volume_guard_step_after step reply) v ≡ None
volume_done volume_steps.Done v reply e = refl
volume_done volume_steps.Parked v reply e = refl
volume_done volume_steps.Adds v (replies.Done o) e = refl
volume_done volume_steps.Adds v (replies.Left o) e = refl
volume_done volume_steps.Adds v _ e = absurd (true≢false (sym e))
volume_done volume_steps.Drops v (replies.Done o) e = refl
volume_done volume_steps.Drops v (replies.Left o) e = refl
volume_done volume_steps.Drops v _ e = absurd (true≢false (sym e))

provision_done : (step : ProvisionStep) (c : ClaimData) (uid : Uid) (x : ClassData) (reply : Reply) → tells_write reply ≡ true → provision_call_at (provision_step_after step x reply) c uid x ≡ None
provision_done provision_steps.Done c uid x reply e = refl
provision_done provision_steps.Parked c uid x reply e = refl
provision_done (provision_steps.Provisions labels) c uid x (replies.Done o) e = refl
provision_done (provision_steps.Provisions labels) c uid x (replies.Left o) e = refl
provision_done (provision_steps.Provisions labels) c uid x _ e = absurd (true≢false (sym e))
provision_done (provision_steps.Creates id topology) c uid x (replies.Done o) e = refl
provision_done (provision_steps.Creates id topology) c uid x (replies.Left o) e = refl
provision_done (provision_steps.Creates id topology) c uid x _ e = absurd (true≢false (sym e))
provision_done provision_steps.ClearsNode c uid x (replies.Done o) e = refl
provision_done provision_steps.ClearsNode c uid x (replies.Left o) e = refl
provision_done provision_steps.ClearsNode c uid x _ e = absurd (true≢false (sym e))

erase_done : (op : EraseOp) (step : EraseStep) (reply : Reply) → tells_write reply ≡ true → erase_call_at (moved_at op step reply).step (moved_at op step reply).volume ≡ None
erase_done op step (replies.Done o) e = by step
  where
    by : (s : EraseStep) → erase_call_at (moved_at op s (replies.Done o)).step (moved_at op s (replies.Done o)).volume ≡ None
    by erase_steps.ReadsVolume = refl
    by (erase_steps.Erases uid) = refl
    by (erase_steps.Deletes uid) = refl
    by erase_steps.WritesFailed = refl
    by erase_steps.Done = refl
    by erase_steps.Parked = refl
erase_done op step (replies.Left o) e = by step
  where
    by : (s : EraseStep) → erase_call_at (moved_at op s (replies.Left o)).step (moved_at op s (replies.Left o)).volume ≡ None
    by erase_steps.ReadsVolume = refl
    by (erase_steps.Erases uid) = refl
    by (erase_steps.Deletes uid) = refl
    by erase_steps.WritesFailed = refl
    by erase_steps.Done = refl
    by erase_steps.Parked = refl
erase_done op step _ e = absurd (true≢false (sym e))

abbrev agent_next : AgentOp → AgentStep → Reply → Option Request
agent_next op step reply = agent_call_at (agent_after op step (ready_by step reply) reply) (agent_after op step (ready_by step reply) reply).step

agent_done : (op : AgentOp) (step : AgentStep) (reply : Reply) → tells_write reply ≡ true → agent_next op step reply ≡ None
agent_done op step (replies.Done o) e = by step
  where
    by : (s : AgentStep) → agent_next op s (replies.Done o) ≡ None
    by (agent_steps.ReadsClaim name) = refl
    by (agent_steps.ReadsVolume name c) = refl
    by agent_steps.MountsPod = refl
    by agent_steps.Unmounts = refl
    by agent_steps.ReadsMounts = refl
    by agent_steps.Finishes = refl
    by agent_steps.Done = refl
    by agent_steps.Parked = refl
agent_done op step (replies.Left o) e = by step
  where
    by : (s : AgentStep) → agent_next op s (replies.Left o) ≡ None
    by (agent_steps.ReadsClaim name) = refl
    by (agent_steps.ReadsVolume name c) = refl
    by agent_steps.MountsPod = refl
    by agent_steps.Unmounts = refl
    by agent_steps.ReadsMounts = refl
    by agent_steps.Finishes = refl
    by agent_steps.Done = refl
    by agent_steps.Parked = refl
agent_done op step _ e = absurd (true≢false (sym e))

-- so its task has no next call
module _ (reply : Reply) (told : tells_write reply ≡ true) where
  pub guard_ends : (op : ClaimGuardOp) → task_call (tasks.ClaimProtect (claim_moved op reply)) ≡ None
  unfolding claim_guard_call claim_moved
  guard_ends op = claim_done op.step op.claim reply told

  pub volume_ends : (op : VolumeGuardOp) → task_call (tasks.VolumeProtect (volume_moved op reply)) ≡ None
  unfolding volume_guard_call volume_moved
  volume_ends op = volume_done op.step op.volume reply told

  pub provision_ends : (op : ProvisionOp) → task_call (tasks.Provision (provision_moved op reply)) ≡ None
  unfolding provision_call provision_moved
  provision_ends op = provision_done op.step op.claim op.uid op.class reply told

  pub erase_ends : (op : EraseOp) → task_call (tasks.Erase (erase_moved op reply)) ≡ None
  unfolding erase_call erase_moved
  erase_ends op = erase_done op op.step reply told

  pub agent_ends : (op : AgentOp) → task_call (tasks.Agent (agent_moved op reply)) ≡ None
  unfolding agent_call agent_moved
  agent_ends op = agent_done op op.step reply told

-- ---- the binder, but for a binding

abbrev pub machine_if : Option Machine → ℕ
machine_if None = 0
machine_if (Some machine) = machine_writes machine

abbrev pub is_binding : Machine → Bool
is_binding (Binds v c) = true
is_binding machine = false

begun_few : (v : VolumeData) (a : VolumeAction) → machine_if (machine_for v a) ≤ 2
begun_few v actions.Nothing = omega arith
begun_few v actions.ReadClaim = omega arith
begun_few v actions.Available = omega arith
begun_few v actions.Bound = omega arith
begun_few v actions.Release = omega arith
begun_few v actions.Unbind = omega arith
begun_few v actions.QueueClaim = omega arith

confirmed_few : (c : ClaimData) (step : ClaimStep) → machine_if (confirmed_for c step) ≤ 2
confirmed_few c claim_actions.Lost = omega arith
confirmed_few c _ = omega arith

freed : (v : VolumeData) → machine_if (unbound_to v) ≤ 1
freed v = by (refers_by_uid v) (is_available v.phase)
  where
    by : (a b : Bool) → machine_if (if a then None else machine_for v (if b then actions.Nothing else actions.Available)) ≤ 1
    by true b = omega arith
    by false true = omega arith
    by false false = omega arith

-- an answer that tells no write leaves no more
pub machine_stays : (m : Machine) (reply : Reply) → is_binding m ≡ false → machine_if (moved m reply) ≤ machine_writes m
unfolding moved
machine_stays (Binds v c) reply other = absurd (true≢false other)
machine_stays (Frees v) reply other = omega arith
machine_stays (MarksBound v) reply other = omega arith
machine_stays (Releases v) reply other = omega arith
machine_stays (AssignsClass c x) reply other = omega arith
machine_stays (Loses c) reply other = omega arith
machine_stays (Unbinds v) (replies.Done (Volume w)) other = let h = freed w in omega (arith, h)
machine_stays (Unbinds v) _ other = omega arith
machine_stays (ReadsClaim v) (replies.Refused refusals.NotFound) other = begun_few v (volume_read v None)
machine_stays (ReadsClaim v) (replies.Found o) other = begun_few v (volume_read v (Some o))
machine_stays (ReadsClaim v) _ other = omega arith
machine_stays (ReadsVolume c) (replies.Refused refusals.NotFound) other = confirmed_few c (claim_read c None)
machine_stays (ReadsVolume c) (replies.Found o) other = confirmed_few c (claim_read c (Some o))
machine_stays (ReadsVolume c) _ other = omega arith

-- and one that tells a write leaves fewer
pub machine_wrote : (m : Machine) (reply : Reply) → is_binding m ≡ false → tells_write reply ≡ true → machine_if (moved m reply) + 1 ≤ machine_writes m
unfolding moved
machine_wrote (Binds v c) reply other e = absurd (true≢false other)
machine_wrote (Frees v) reply other e = omega arith
machine_wrote (MarksBound v) reply other e = omega arith
machine_wrote (Releases v) reply other e = omega arith
machine_wrote (AssignsClass c x) reply other e = omega arith
machine_wrote (Loses c) reply other e = omega arith
machine_wrote (Unbinds v) (replies.Done (Volume w)) other e = let h = freed w in omega (arith, h)
machine_wrote (Unbinds v) _ other e = omega arith
machine_wrote (ReadsClaim v) (replies.Refused refusals.NotFound) other e = absurd (true≢false (sym e))
machine_wrote (ReadsClaim v) (replies.Found o) other e = absurd (true≢false (sym e))
machine_wrote (ReadsClaim v) _ other e = omega arith
machine_wrote (ReadsVolume c) (replies.Refused refusals.NotFound) other e = absurd (true≢false (sym e))
machine_wrote (ReadsVolume c) (replies.Found o) other e = absurd (true≢false (sym e))
machine_wrote (ReadsVolume c) _ other e = omega arith
