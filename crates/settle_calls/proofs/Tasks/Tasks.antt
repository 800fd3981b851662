-- Each call of a task is a write that is done, or leaves it fewer calls to make.
use Rattle.std.proofs.Common.{
  ◌≡◌,
  ◌∙◌,
  ℕ,
  ◌+◌,
  ◌*◌,
  ◌-◌,
  ◌≤◌,
  ◌<◌,
  List,
  [],
  ◌∷◌,
  ◌++◌,
  length,
  length-append,
  Bool,
  true,
  false,
  true≢false,
  Option,
  Some,
  None,
  refl,
  sym,
  ap,
  subst,
  arith,
  if◌then◌else◌,
}
use Rattle.std.specs.Prelude.{◌&&◌, ◌||◌, bytes_eq, is_some, nat_lt, not, option_map, slice_get}
use Rattle.std.specs.List.{list_any}
use Rattle.std.proofs.lemmas.Option.{slice_get_within}
use Rattle.kube_parts.specs.declared.uid.Uid.{Uid}
use Rattle.kube_objects.specs.declared.objects.Claim.{Claim as ClaimData}
use Rattle.kube_objects.specs.declared.objects.Class.{Class as ClassData}
use Rattle.kube_objects.specs.declared.objects.Object.{Object}
use Rattle.kube_objects.specs.declared.objects.Object.TheVariants.{Volume, Claim}
use Rattle.kube_objects.specs.declared.objects.Volume.{Volume as VolumeData}
use Rattle.kube_objects.specs.Bindings.{carries, is_available, is_bound, is_empty, is_ended, is_protected_volume}
use Rattle.call_types.specs.declared.reply.Refusal.TheVariants as refusals
use Rattle.call_types.specs.declared.reply.Reply.{Reply}
use Rattle.call_types.specs.declared.reply.Reply.TheVariants as replies
use Rattle.call_types.specs.declared.request.Request.{Request}
use Rattle.call_types.specs.declared.request.Request.TheVariants as requests
use Rattle.binder_model.specs.BindWrites.{claim_write, is_completed_with, next_write, shows_bound, write_bound, write_claim_status, write_completion, write_reference}
use Rattle.binder_model.specs.Due.{reclaim_due}
use Rattle.model_laws.proofs.Lists.{none_some, one}
use Rattle.binder_machines.specs.declared.machine.Machine.{Machine}
use Rattle.binder_machines.specs.declared.machine.Machine.TheVariants.{Frees, Binds, MarksBound, ReadsClaim, Releases, Unbinds, ReadsVolume, AssignsClass, Loses}
use Rattle.binder_machines.specs.Machines.{bind_call, call_of, claim_read, confirmed_for, machine_for, may_bind, moved, unbound_to, volume_read}
use Rattle.claim_sync.specs.declared.action.ClaimStep.{ClaimStep}
use Rattle.claim_sync.specs.declared.action.ClaimStep.TheVariants as claim_actions
use Rattle.volume_sync.specs.VolumeDecision.{claimed_action, referred_action, refers_by_uid}
use Rattle.volume_sync.specs.declared.action.VolumeAction.{VolumeAction}
use Rattle.volume_sync.specs.declared.action.VolumeAction.TheVariants as actions
use Rattle.node_agent.specs.declared.agent.AgentOp.{AgentOp}
use Rattle.node_agent.specs.declared.step.AgentStep.{AgentStep}
use Rattle.node_agent.specs.declared.step.AgentStep.TheVariants as agent_steps
use Rattle.node_agent.specs.declared.step.ReadyClaim.{ReadyClaim}
use Rattle.node_agent.specs.Agents.{agent_after, agent_call, agent_call_at, agent_moved, is_claim_read, next_step, ready_by}
use Rattle.pod_scheduler.specs.declared.schedule.ScheduleStep.{ScheduleStep}
use Rattle.pod_scheduler.specs.declared.schedule.ScheduleStep.TheVariants as schedule_steps
use Rattle.pod_scheduler.specs.Schedules.{is_refused, is_write, is_written, only_write, schedule_call, schedule_call_at, schedule_moved, schedule_step_after}
use Rattle.protect_sync.specs.ClaimGuards.{claim_guard_call, claim_guard_call_at, claim_guard_step_after, claim_moved}
use Rattle.protect_sync.specs.VolumeGuards.{volume_guard_call, volume_guard_call_at, volume_guard_step_after, volume_moved}
use Rattle.protect_sync.specs.declared.claims.ClaimGuardStep.{ClaimGuardStep}
use Rattle.protect_sync.specs.declared.claims.ClaimGuardStep.TheVariants as claim_steps
use Rattle.protect_sync.specs.declared.volumes.VolumeGuardStep.{VolumeGuardStep}
use Rattle.protect_sync.specs.declared.volumes.VolumeGuardStep.TheVariants as volume_steps
use Rattle.reclaim_ops.specs.declared.erase.EraseOp.{EraseOp}
use Rattle.reclaim_ops.specs.declared.erase.EraseStep.{EraseStep}
use Rattle.reclaim_ops.specs.declared.erase.EraseStep.TheVariants as erase_steps
use Rattle.reclaim_ops.specs.declared.provision.ProvisionStep.{ProvisionStep}
use Rattle.reclaim_ops.specs.declared.provision.ProvisionStep.TheVariants as provision_steps
use Rattle.reclaim_ops.specs.Erasures.{at_found, at_known, erase_call, erase_call_at, erase_moved, moved_at}
use Rattle.reclaim_ops.specs.Provisions.{provision_call, provision_call_at, provision_moved, provision_step_after}
use Rattle.worker_core.specs.declared.task.Task.{Task}
use Rattle.worker_core.specs.declared.task.Task.TheVariants as tasks
use Rattle.worker_core.specs.Tasks.{task_call, task_moved, with_call, with_task}
use Rattle.settle_calls.specs.Tasks.Ends.{TasksEnd}
use Rattle.settle_calls.specs.Tasks.Tasks.{claim_guard_left, erase_left, machine_left, mount_left, provision_left, schedule_left, task_left, under_left, volume_guard_left}
use Rattle.settle_calls.specs.Tasks.Ends.{done_by}

pub done_few : (request : Request) (reply : Reply) → done_by request reply ≤ 1
done_few (requests.Delete key given) reply = omega arith
done_few _ (replies.Done o) = omega arith
done_few _ _ = omega arith

abbrev is_delete : Request → Bool
is_delete (requests.Delete key given) = true
is_delete request = false

done_counts : (request : Request) (o : Object) → is_delete request ≡ false → done_by request (replies.Done o) ≡ 1
done_counts (requests.Delete key given) o e = absurd (true≢false e)
done_counts _ o e = refl

-- the binder

abbrev machine_left_if : Option Machine → ℕ
machine_left_if None = 0
machine_left_if (Some machine) = machine_left machine

abbrev DeletesNone : Option Request → Type 0
DeletesNone None = Unit {0}
DeletesNone (Some r) = is_delete r ≡ false

of_claim : (v : VolumeData) (c : ClaimData) → DeletesNone (claim_write v c)
unfolding claim_write
of_claim v c = by (is_completed_with c v) (shows_bound c v)
  where
    by : (a b : Bool) → DeletesNone (if not a then Some (write_completion v c) else if not b then Some (write_claim_status v c) else None)
    by false b = refl
    by true false = refl
    by true true = tt

of_writes : (v : VolumeData) (c : ClaimData) → DeletesNone (next_write v c)
unfolding next_write
of_writes v c = by (carries v c) (is_ended v.phase) (is_bound v.phase) (is_protected_volume v)
  where
    by : (a b d g : Bool) → DeletesNone (if not a then (if b then None else Some (write_reference v c)) else if not d then (if b || not g then None else Some (write_bound v)) else claim_write v c)
    by false true d g = tt
    by false false d g = refl
    by true true false g = tt
    by true false false true = refl
    by true false false false = tt
    by true b true g = of_claim v c

binds_write : (v : VolumeData) (c : ClaimData) (request : Request) → bind_call v c ≡ Some request → is_delete request ≡ false
binds_write v c request e = by (may_bind v c) (next_write v c) e (of_writes v c)
  where
    by : (b : Bool) (x : Option Request) → (if b then x else None) ≡ Some request → DeletesNone x → is_delete request ≡ false
    by true None h none = none_some h
    by true (Some r) h none = sym (ap is_delete (one r request h)) ∙ none
    by false x h none = none_some h

freed : (v : VolumeData) → machine_left_if (unbound_to v) ≤ 1
freed v = by (refers_by_uid v) (is_available v.phase)
  where
    by : (a b : Bool) → machine_left_if (if a then None else machine_for v (if b then actions.Nothing else actions.Available)) ≤ 1
    by true b = omega arith
    by false true = omega arith
    by false false = omega arith

claimed : (v : VolumeData) (c : ClaimData) → machine_left_if (machine_for v (claimed_action v c)) ≤ 2
claimed v c = by (is_empty c.volume_name) (bytes_eq c.volume_name v.meta.name) (is_bound v.phase || not (is_protected_volume v)) _
  where
    by : (a b d e : Bool) → machine_left_if (machine_for v
        (if a then actions.QueueClaim else if b then (if d then actions.Nothing else actions.Bound) else if e then actions.Release else actions.Unbind)) ≤ 2
    by true b d e = omega arith
    by false true true e = omega arith
    by false true false e = omega arith
    by false false d true = omega arith
    by false false d false = omega arith

referred : (v : VolumeData) (x : Option ClaimData) → machine_left_if (machine_for v (referred_action v true x)) ≤ 2
referred v None = omega arith
referred v (Some c) = claimed v c

read_claim : (v : VolumeData) (o : Option Object) → machine_left_if (machine_for v (volume_read v o)) ≤ 2
unfolding volume_read
read_claim v o = by (refers_by_uid v) (is_ended v.phase) (is_available v.phase) _ (referred v _)
  where
    by : (a b d : Bool) (x : VolumeAction) → machine_left_if (machine_for v x) ≤ 2
        → machine_left_if (machine_for v (if not a then (if d then actions.Nothing else actions.Available) else if b then actions.Nothing else x)) ≤ 2
    by false b true x h = omega arith
    by false b false x h = omega arith
    by true true d x h = omega arith
    by true false d x h = h

read_volume : (c : ClaimData) (step : ClaimStep) → machine_left_if (confirmed_for c step) ≤ 1
read_volume c claim_actions.Lost = omega arith
read_volume c _ = omega arith

machine_goes : (m : Machine) (request : Request) (reply : Reply) → call_of m ≡ Some request → machine_left_if (moved m reply) + 1 ≤ machine_left m + done_by request reply
unfolding moved call_of
machine_goes (Frees v) request reply call = omega arith
machine_goes (MarksBound v) request reply call = omega arith
machine_goes (Releases v) request reply call = omega arith
machine_goes (AssignsClass c x) request reply call = omega arith
machine_goes (Loses c) request reply call = omega arith
machine_goes (Binds v c) request (replies.Done (Volume w)) call = let d = done_counts request (Volume w) (binds_write v c request call) in omega (arith, d)
machine_goes (Binds v c) request (replies.Done (Claim w)) call = let d = done_counts request (Claim w) (binds_write v c request call) in omega (arith, d)
machine_goes (Binds v c) request _ call = omega arith
machine_goes (Unbinds v) request (replies.Done (Volume w)) call = let h = freed w in omega (arith, h)
machine_goes (Unbinds v) request _ call = omega arith
machine_goes (ReadsClaim v) request (replies.Refused refusals.NotFound) call = let h = read_claim v None in omega (arith, h)
machine_goes (ReadsClaim v) request (replies.Found o) call = let h = read_claim v (Some o) in omega (arith, h)
machine_goes (ReadsClaim v) request _ call = omega arith
machine_goes (ReadsVolume c) request (replies.Refused refusals.NotFound) call = let h = read_volume c (claim_read c None) in omega (arith, h)
machine_goes (ReadsVolume c) request (replies.Found o) call = let h = read_volume c (claim_read c (Some o)) in omega (arith, h)
machine_goes (ReadsVolume c) request _ call = omega arith

-- claim protection and volume protection

claim_goes : (step : ClaimGuardStep) (c : ClaimData) (request : Request) (reply : Reply) → claim_guard_call_at step c ≡ Some request
    → claim_guard_left (claim_guard_step_after step c reply) + 1 ≤ claim_guard_left step
claim_goes claim_steps.Done c request reply call = none_some call
claim_goes claim_steps.Parked c request reply call = none_some call
claim_goes claim_steps.Adds c request (replies.Refused refusal) call = omega arith
claim_goes claim_steps.Adds c request _ call = omega arith
claim_goes claim_steps.Drops c request (replies.Refused refusal) call = omega arith
claim_goes claim_steps.Drops c request _ call = omega arith
claim_goes claim_steps.ListsPods c request (replies.Refused refusal) call = omega arith
claim_goes claim_steps.ListsPods c request (replies.Listed items version) call = by (list_any _ items)
  where
    by : (b : Bool) → claim_guard_left (if b then claim_steps.Done else claim_steps.Drops) + 1 ≤ 2
    by true = omega arith
    by false = omega arith
claim_goes claim_steps.ListsPods c request _ call = omega arith

volume_goes : (step : VolumeGuardStep) (v : VolumeData) (request : Request) (reply : Reply) → volume_guard_call_at step v ≡ Some request
    → volume_guard_left (volume_guard_step_after step reply) + 1 ≤ volume_guard_left step
volume_goes volume_steps.Done v request reply call = none_some call
volume_goes volume_steps.Parked v request reply call = none_some call
volume_goes volume_steps.Adds v request (replies.Refused refusal) call = omega arith
volume_goes volume_steps.Adds v request _ call = omega arith
volume_goes volume_steps.Drops v request (replies.Refused refusal) call = omega arith
volume_goes volume_steps.Drops v request _ call = omega arith

-- the provisioner and the reclaimer

provision_goes : (step : ProvisionStep) (c : ClaimData) (uid : Uid) (x : ClassData) (request : Request) (reply : Reply)
    → provision_call_at step c uid x ≡ Some request → provision_left (provision_step_after step x reply) + 1 ≤ provision_left step
provision_goes provision_steps.Done c uid x request reply call = none_some call
provision_goes provision_steps.Parked c uid x request reply call = none_some call
provision_goes (provision_steps.Provisions labels) c uid x request (replies.Provisioned id topology) call = omega arith
provision_goes (provision_steps.Provisions labels) c uid x request (replies.Refused (refusals.Exhausted free)) call = by x.delayed
  where
    by : (b : Bool) → provision_left (if b then provision_steps.ClearsNode else provision_steps.Parked) + 1 ≤ 2
    by true = omega arith
    by false = omega arith
provision_goes (provision_steps.Provisions labels) c uid x request (replies.Refused _) call = omega arith
provision_goes (provision_steps.Provisions labels) c uid x request _ call = omega arith
provision_goes (provision_steps.Creates id topology) c uid x request (replies.Refused refusal) call = omega arith
provision_goes (provision_steps.Creates id topology) c uid x request _ call = omega arith
provision_goes provision_steps.ClearsNode c uid x request (replies.Refused refusal) call = omega arith
provision_goes provision_steps.ClearsNode c uid x request _ call = omega arith

erase_known : (op : EraseOp) (v : VolumeData) (uid : Option Uid) → erase_left (at_known op v uid).step ≤ 2
erase_known op v None = omega arith
erase_known op v (Some uid) = omega arith

erase_found : (op : EraseOp) (v : VolumeData) → erase_left (at_found op v).step ≤ 2
erase_found op v = by (is_some (reclaim_due v)) (erase_known op v v.meta.uid)
  where
    by : (b : Bool) → erase_left (at_known op v v.meta.uid).step ≤ 2 → erase_left (if b then at_known op v v.meta.uid else record op { step = erase_steps.Done }).step ≤ 2
    by true h = h
    by false h = omega arith

erase_goes : (op : EraseOp) (step : EraseStep) (request : Request) (reply : Reply) → erase_call_at step op.volume ≡ Some request → erase_left (moved_at op step reply).step + 1 ≤ erase_left step
erase_goes op erase_steps.Done request reply call = none_some call
erase_goes op erase_steps.Parked request reply call = none_some call
erase_goes op erase_steps.ReadsVolume request (replies.Found (Volume v)) call = let h = erase_found op v in omega (arith, h)
erase_goes op erase_steps.ReadsVolume request (replies.Refused refusal) call = omega arith
erase_goes op erase_steps.ReadsVolume request _ call = omega arith
erase_goes op (erase_steps.Erases uid) request (replies.Erased removed) call = omega arith
erase_goes op (erase_steps.Erases uid) request (replies.Refused (refusals.BackFault planned)) call = omega arith
erase_goes op (erase_steps.Erases uid) request (replies.Refused _) call = omega arith
erase_goes op (erase_steps.Erases uid) request _ call = omega arith
erase_goes op (erase_steps.Deletes uid) request (replies.Refused refusal) call = omega arith
erase_goes op (erase_steps.Deletes uid) request _ call = omega arith
erase_goes op erase_steps.WritesFailed request (replies.Refused refusal) call = omega arith
erase_goes op erase_steps.WritesFailed request _ call = omega arith

-- the scheduler

write_deletes_none : (request : Request) → is_write request ≡ true → is_delete request ≡ false
write_deletes_none (requests.Delete key given) e = absurd (true≢false (sym e))
write_deletes_none _ e = refl

written_done : (request : Request) (reply : Reply) → is_delete request ≡ false → is_written reply ≡ true → done_by request reply ≡ 1
written_done request (replies.Done o) none e = done_counts request o none
written_done request _ none e = absurd (true≢false (sym e))

schedule_goes : (writes : List Request) (step : ScheduleStep) (request : Request) (reply : Reply) → schedule_call_at writes step ≡ Some request
    → schedule_left (schedule_step_after writes step reply) + 1 ≤ schedule_left step + done_by request reply
schedule_goes writes schedule_steps.Done request reply call = none_some call
schedule_goes writes schedule_steps.Parked request reply call = none_some call
schedule_goes writes (schedule_steps.Writes place) request reply call = by (is_refused reply) (is_written reply) (nat_lt place (length writes)) refl
  where
    none : is_delete request ≡ false
    none = of (slice_get writes place) call
      where
        test : (b : Bool) (r : Request) → is_write r ≡ b → (if b then Some r else None) ≡ Some request → is_delete request ≡ false
        test true r is h = subst (λ x. is_delete x ≡ false) (one r request h) (write_deletes_none r is)
        test false r is h = none_some h

        of : (x : Option Request) → only_write x ≡ Some request → is_delete request ≡ false
        of None h = none_some h
        of (Some r) h = test (is_write r) r refl h

    by : (a b d : Bool) → is_written reply ≡ b
        → schedule_left (if a then schedule_steps.Parked else if b && d then schedule_steps.Writes (place + 1) else schedule_steps.Done) + 1 ≤ 1 + done_by request reply
    by true b d e = omega arith
    by false true true e = let h = written_done request reply none e in omega (arith, h)
    by false true false e = omega arith
    by false false d e = omega arith

-- a node agent

abbrev after_left : AgentOp → ℕ
after_left op = mount_left (length op.pod.claims - length op.ready) op.step

agent_other : (op : AgentOp) (step : AgentStep) (request : Request) (reply : Reply) → agent_call_at op step ≡ Some request → ready_by step reply ≡ None
    → mount_left (length op.pod.claims - length op.ready) (agent_after op step None reply).step + 1 ≤ mount_left (length op.pod.claims - length op.ready) step
agent_other op (agent_steps.ReadsClaim name) request (replies.Found (Claim c)) call none = by _
  where
    by : (b : Bool) → mount_left (length op.pod.claims - length op.ready) (if b then agent_steps.ReadsVolume name c else agent_steps.Parked) + 1 ≤ 3 + 2 * (length op.pod.claims - length op.ready)
    by true = omega arith
    by false = omega arith
agent_other op (agent_steps.ReadsClaim name) request _ call none = omega arith
agent_other op (agent_steps.ReadsVolume name c) request reply call none = omega arith
agent_other op agent_steps.MountsPod request (replies.Refused refusal) call none = omega arith
agent_other op agent_steps.MountsPod request _ call none = omega arith
agent_other op agent_steps.Unmounts request (replies.Mounted rows) call none = omega arith
agent_other op agent_steps.Unmounts request _ call none = omega arith
agent_other op agent_steps.ReadsMounts request (replies.Mounted rows) call none = by _
  where
    by : (b : Bool) → mount_left (length op.pod.claims - length op.ready) (if b then agent_steps.Parked else agent_steps.Finishes) + 1 ≤ 2
    by true = omega arith
    by false = omega arith
agent_other op agent_steps.ReadsMounts request _ call none = omega arith
agent_other op agent_steps.Finishes request (replies.Refused refusal) call none = omega arith
agent_other op agent_steps.Finishes request _ call none = omega arith
agent_other op agent_steps.Done request reply call none = none_some call
agent_other op agent_steps.Parked request reply call none = none_some call

-- a claim is ready, and the next one is read
next_left : (claims : List (List ℕ)) (ready : List ReadyClaim) (n : ℕ) → length ready ≡ n + 1
    → mount_left (length claims - length ready) (next_step ready (slice_get claims (length ready))) + 1 ≤ 2 + 2 * (length claims - n)
next_left claims ready n count = by (slice_get claims (length ready)) refl
  where
    by : (x : Option (List ℕ)) → slice_get claims (length ready) ≡ x → mount_left (length claims - length ready) (next_step ready x) + 1 ≤ 2 + 2 * (length claims - n)
    by None e = omega arith
    by (Some name) e = reads (is_claim_read name ready) (slice_get_within claims (length ready) name e)
      where
        reads : (b : Bool) → length ready < length claims → mount_left (length claims - length ready) (if b then agent_steps.Parked else agent_steps.ReadsClaim name) + 1 ≤ 2 + 2 * (length claims - n)
        reads true lt = omega (arith, lt)
        reads false lt = omega (arith, lt, count)

agent_goes : (op : AgentOp) (step : AgentStep) (request : Request) (reply : Reply) → agent_call_at op step ≡ Some request
    → after_left (agent_after op step (ready_by step reply) reply) + 1 ≤ mount_left (length op.pod.claims - length op.ready) step
agent_goes op step request reply call = by (ready_by step reply) refl
  where
    only_volumes : (s : AgentStep) (r : ReadyClaim) → ready_by s reply ≡ Some r → 2 + 2 * (length op.pod.claims - length op.ready) ≤ mount_left (length op.pod.claims - length op.ready) s
    only_volumes (agent_steps.ReadsVolume name c) r e = omega arith
    only_volumes _ r e = none_some e

    by : (x : Option ReadyClaim) → ready_by step reply ≡ x → after_left (agent_after op step x reply) + 1 ≤ mount_left (length op.pod.claims - length op.ready) step
    by None e = agent_other op step request reply call e
    by (Some r) e =
        let grown = length-append op.ready (r ∷ []) in
        let h = next_left op.pod.claims (op.ready ++ r ∷ []) (length op.ready) grown in
        let low = only_volumes step r e in
        omega (arith, h, low)

-- each task

abbrev task_left_if : Option Task → ℕ
task_left_if None = 0
task_left_if (Some task) = task_left task

within : (a b c : ℕ) → a + 1 ≤ b → a + 1 ≤ b + c
within a b c h = omega (arith, h)

task_goes : (t : Task) (request : Request) (reply : Reply) → task_call t ≡ Some request → task_left_if (task_moved t reply) + 1 ≤ task_left t + done_by request reply
unfolding claim_guard_call volume_guard_call agent_call provision_call erase_call schedule_call claim_moved volume_moved agent_moved provision_moved erase_moved schedule_moved
task_goes (tasks.Binder m) request reply call = by (moved m reply) (machine_goes m request reply call)
  where
    by : (x : Option Machine) → machine_left_if x + 1 ≤ machine_left m + done_by request reply → task_left_if (option_map (λ k. tasks.Binder k) x) + 1 ≤ machine_left m + done_by request reply
    by None h = h
    by (Some k) h = h
task_goes (tasks.ClaimProtect op) request reply call = within _ _ _ (claim_goes op.step op.claim request reply call)
task_goes (tasks.VolumeProtect op) request reply call = within _ _ _ (volume_goes op.step op.volume request reply call)
task_goes (tasks.Agent op) request reply call = within _ _ _ (agent_goes op op.step request reply call)
task_goes (tasks.Provision op) request reply call = within _ _ _ (provision_goes op.step op.claim op.uid op.class request reply call)
task_goes (tasks.Erase op) request reply call = within _ _ _ (erase_goes op op.step request reply call)
task_goes (tasks.Schedule op) request reply call = schedule_goes op.writes op.step request reply call

-- what is under way, after the answer
pub under_goes : TasksEnd
under_goes u reply call = by (task_moved u.task reply) (task_goes u.task u.call reply call)
  where
    calls : (t : Task) (c : Option Request) → task_left t + 1 ≤ task_left u.task + done_by u.call reply → under_left (with_call u.key t c) + 1 ≤ task_left u.task + done_by u.call reply
    calls t None h = omega (arith, h)
    calls t (Some r) h = h

    by : (x : Option Task) → task_left_if x + 1 ≤ task_left u.task + done_by u.call reply → under_left (with_task u.key x) + 1 ≤ task_left u.task + done_by u.call reply
    by None h = h
    by (Some t) h = calls t (task_call t) h
