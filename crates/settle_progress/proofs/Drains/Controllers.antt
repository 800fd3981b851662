-- No task of a controller calls a Mount: only agents mount pods.
use Rattle.std.proofs.Common.{◌≡◌, ◌∙◌, ℕ, List, Bool, true, false, true≢false, Option, Some, None, refl, sym, ap, if◌then◌else◌}
use Rattle.std.specs.Prelude.{◌&&◌, ◌||◌, is_some, not, option_map}
use Rattle.kube_objects.specs.declared.key.Key.{Key}
use Rattle.kube_objects.specs.declared.objects.Class.{Class as ClassData}
use Rattle.kube_objects.specs.declared.objects.Claim.{Claim as ClaimData}
use Rattle.kube_objects.specs.declared.objects.Object.{Object}
use Rattle.kube_objects.specs.declared.objects.Ref.{Ref}
use Rattle.kube_objects.specs.declared.objects.Volume.{Volume as VolumeData}
use Rattle.kube_parts.specs.declared.parts.VolumePhase.TheVariants as volumes
use Rattle.kube_parts.specs.declared.uid.Uid.{Uid}
use Rattle.kube_objects.specs.Bindings.{carries, is_bound, is_empty, is_ended, is_protected_volume}
use Rattle.kube_objects.specs.Keys.{row_at}
use Rattle.call_types.specs.declared.entry.Entry.{Entry}
use Rattle.call_types.specs.declared.reply.Reply.{Reply}
use Rattle.call_types.specs.declared.request.Request.{Request}
use Rattle.call_types.specs.declared.request.Request.TheVariants as requests
use Rattle.call_types.specs.declared.request.SeatKind.{SeatKind}
use Rattle.call_types.specs.declared.request.SeatKind.TheVariants as seats
use Rattle.call_types.specs.declared.setup.Setup.{Setup}
use Rattle.binder_model.specs.BindWrites.{claim_write, is_completed_with, next_write, shows_bound, write_bound, write_claim_status, write_completion, write_reference}
use Rattle.binder_machines.specs.declared.machine.Machine.{Machine}
use Rattle.binder_machines.specs.declared.machine.Machine.TheVariants.{AssignsClass, Binds, Frees, Loses, MarksBound, ReadsClaim, ReadsVolume, Releases, Unbinds}
use Rattle.binder_machines.specs.Machines as binder
use Rattle.binder_machines.specs.Machines.{bind_call, call_of, claim_call, class_call, may_bind, phase_call, read_of, volume_call, write_class, write_phase}
use Rattle.informer_cache.specs.All.{all_objects}
use Rattle.model_laws.proofs.Lists.{none_some, one}
use Rattle.pod_scheduler.specs.Schedules.{is_write, schedule_moved}
use Rattle.pod_scheduler.proofs.Allowed.{calls_are_writes}
use Rattle.protect_sync.specs.declared.claims.ClaimGuardOp.{ClaimGuardOp}
use Rattle.protect_sync.specs.declared.claims.ClaimGuardStep.{ClaimGuardStep}
use Rattle.protect_sync.specs.declared.claims.ClaimGuardStep.TheVariants as claim_steps
use Rattle.protect_sync.specs.declared.volumes.VolumeGuardOp.{VolumeGuardOp}
use Rattle.protect_sync.specs.declared.volumes.VolumeGuardStep.{VolumeGuardStep}
use Rattle.protect_sync.specs.declared.volumes.VolumeGuardStep.TheVariants as volume_steps
use Rattle.protect_sync.specs.ClaimGuards.{claim_guard_call, claim_guard_call_at, claim_moved}
use Rattle.protect_sync.specs.Decisions.{claim_guard_begins, volume_guard_begins}
use Rattle.protect_sync.specs.VolumeGuards.{volume_guard_call, volume_guard_call_at, volume_moved}
use Rattle.reclaim_ops.specs.declared.erase.EraseOp.{EraseOp}
use Rattle.reclaim_ops.specs.declared.erase.EraseStep.{EraseStep}
use Rattle.reclaim_ops.specs.declared.erase.EraseStep.TheVariants as erase_steps
use Rattle.reclaim_ops.specs.declared.provision.ProvisionOp.{ProvisionOp}
use Rattle.reclaim_ops.specs.declared.provision.ProvisionStep.{ProvisionStep}
use Rattle.reclaim_ops.specs.declared.provision.ProvisionStep.TheVariants as provision_steps
use Rattle.reclaim_ops.specs.Decisions.{claim_begins, volume_begins}
use Rattle.reclaim_ops.specs.Erasures.{erase_call, erase_call_at, erase_moved}
use Rattle.reclaim_ops.specs.Provisions.{provision_call, provision_call_at, provision_moved}
use Rattle.worker_core.specs.declared.role.Role.{Role}
use Rattle.worker_core.specs.declared.task.First.{First}
use Rattle.worker_core.specs.declared.task.First.TheVariants as firsts
use Rattle.worker_core.specs.declared.task.Task.{Task}
use Rattle.worker_core.specs.declared.task.Task.TheVariants as tasks
use Rattle.worker_core.specs.Memories.{Memory}
use Rattle.worker_core.specs.Tasks.{IsFirstOf, claim_guard_first, ops_first, task_call, task_moved, volume_guard_first}
use Rattle.actor_rounds.specs.Rounds.{Lets}
use Rattle.settle_slot.specs.Slot.Gates.{HoldsMountsAlone, is_mount}
use Rattle.settle_slot.specs.Slot.Would.{CallsPass}
use Rattle.settle_progress.proofs.Drains.Leading.{leads_keep}
use Rattle.settle_progress.proofs.Drains.Rounds.{is_agent}

-- ---- tasks that are no agent's

abbrev is_agents : Task → Bool
is_agents (tasks.Agent op) = true
is_agents t = false

abbrev begins_agents : First → Bool
begins_agents (firsts.Begins t) = is_agents t
begins_agents first = false

by_claims : (x : Option ClaimGuardOp) → begins_agents (claim_guard_first x) ≡ false
by_claims None = refl
by_claims (Some op) = refl

by_volumes : (x : Option VolumeGuardOp) → begins_agents (volume_guard_first x) ≡ false
by_volumes None = refl
by_volumes (Some op) = refl

by_ops : (x : Option ProvisionOp) (y : Option EraseOp) → begins_agents (ops_first x y) ≡ false
by_ops None None = refl
by_ops None (Some op) = refl
by_ops (Some op) y = refl

-- a controller begins none of an agent's
begun_by : (kind : SeatKind) (node : List ℕ) (m : Memory) (rows : List Object) (key : Key) (t : Task) → is_agent kind ≡ false → IsFirstOf kind node m rows key (firsts.Begins t) → is_agents t ≡ false
begun_by seats.Binder node m rows key (tasks.Agent op) other first = absurd first
begun_by seats.Binder node m rows key _ other first = refl
begun_by seats.Scheduler node m rows key (tasks.Agent op) other first = absurd first
begun_by seats.Scheduler node m rows key _ other first = refl
begun_by seats.Ops node m rows key t other first = ap begins_agents first ∙ by_ops (claim_begins rows (row_at key rows)) (volume_begins (row_at key rows))
begun_by seats.ClaimProtect node m rows key t other first = ap begins_agents first ∙ by_claims (claim_guard_begins rows (row_at key rows))
begun_by seats.VolumeProtect node m rows key t other first = ap begins_agents first ∙ by_volumes (volume_guard_begins (row_at key rows))
begun_by seats.Agent node m rows key t other first = absurd (true≢false other)
begun_by seats.User node m rows key t other first = absurd first

-- and no answer makes one of them
stays_so : (t next : Task) (reply : Reply) → is_agents t ≡ false → task_moved t reply ≡ Some next → is_agents next ≡ false
stays_so (tasks.Agent op) next reply other is = absurd (true≢false other)
stays_so (tasks.ClaimProtect op) next reply other is = ap is_agents (sym (one (tasks.ClaimProtect (claim_moved op reply)) next is))
stays_so (tasks.VolumeProtect op) next reply other is = ap is_agents (sym (one (tasks.VolumeProtect (volume_moved op reply)) next is))
stays_so (tasks.Provision op) next reply other is = ap is_agents (sym (one (tasks.Provision (provision_moved op reply)) next is))
stays_so (tasks.Erase op) next reply other is = ap is_agents (sym (one (tasks.Erase (erase_moved op reply)) next is))
stays_so (tasks.Schedule op) next reply other is = ap is_agents (sym (one (tasks.Schedule (schedule_moved op reply)) next is))
stays_so (tasks.Binder m) next reply other is = by (binder.moved m reply) is
  where
    by : (x : Option Machine) → option_map (λ k. tasks.Binder k) x ≡ Some next → is_agents next ≡ false
    by None h = none_some h
    by (Some k) h = ap is_agents (sym (one (tasks.Binder k) next h))

-- ---- their calls

abbrev mounts : Option Request → Bool
mounts None = false
mounts (Some request) = is_mount request

if_mounts : (b : Bool) (x : Option Request) → mounts x ≡ false → mounts (if b then x else None) ≡ false
if_mounts true x none = none
if_mounts false x none = refl

-- the binder's

of_reference : (r : Option Ref) → mounts (read_of r) ≡ false
of_reference None = refl
of_reference (Some r) = refl

of_claim : (v : VolumeData) (c : ClaimData) → mounts (claim_write v c) ≡ false
unfolding claim_write
of_claim v c = by (is_completed_with c v) (shows_bound c v)
  where
    by : (a b : Bool) → mounts (if not a then Some (write_completion v c) else if not b then Some (write_claim_status v c) else None) ≡ false
    by false b = refl
    by true false = refl
    by true true = refl

of_writes : (v : VolumeData) (c : ClaimData) → mounts (next_write v c) ≡ false
unfolding next_write
of_writes v c = by (carries v c) (is_ended v.phase) (is_bound v.phase) (is_protected_volume v)
  where
    by : (a b d g : Bool) → mounts (if not a then (if b then None else Some (write_reference v c)) else if not d then (if b || not g then None else Some (write_bound v)) else claim_write v c) ≡ false
    by false true d g = refl
    by false false d g = refl
    by true true false g = refl
    by true false false true = refl
    by true false false false = refl
    by true b true g = of_claim v c

of_machine : (m : Machine) → mounts (call_of m) ≡ false
unfolding call_of
of_machine (Frees v) = if_mounts (is_empty v.meta.namespace) (Some (write_phase v volumes.Available)) refl
of_machine (Binds v c) = if_mounts (may_bind v c) (next_write v c) (of_writes v c)
of_machine (MarksBound v) = if_mounts (is_empty v.meta.namespace) (Some (write_phase v volumes.Bound)) refl
of_machine (ReadsClaim v) = if_mounts (is_empty v.meta.namespace && is_some v.meta.uid) (read_of v.claim_ref) (of_reference v.claim_ref)
of_machine (Releases v) = if_mounts (is_empty v.meta.namespace) (Some (write_phase v volumes.Released)) refl
of_machine (Unbinds v) = refl
of_machine (ReadsVolume c) = if_mounts (is_some c.meta.uid) _ refl
of_machine (AssignsClass c x) = if_mounts (is_some c.meta.uid && is_empty x.meta.namespace) (Some (write_class c x)) refl
of_machine (Loses c) = refl

-- those of the others

of_claim_guard : (step : ClaimGuardStep) (c : ClaimData) → mounts (claim_guard_call_at step c) ≡ false
of_claim_guard claim_steps.ListsPods c = if_mounts (is_some c.meta.uid) _ refl
of_claim_guard claim_steps.Adds c = refl
of_claim_guard claim_steps.Drops c = refl
of_claim_guard claim_steps.Done c = refl
of_claim_guard claim_steps.Parked c = refl

of_volume_guard : (step : VolumeGuardStep) (v : VolumeData) → mounts (volume_guard_call_at step v) ≡ false
of_volume_guard volume_steps.Adds v = refl
of_volume_guard volume_steps.Drops v = refl
of_volume_guard volume_steps.Done v = refl
of_volume_guard volume_steps.Parked v = refl

of_erase : (step : EraseStep) (v : VolumeData) → mounts (erase_call_at step v) ≡ false
of_erase erase_steps.ReadsVolume v = refl
of_erase (erase_steps.Erases uid) v = refl
of_erase (erase_steps.Deletes uid) v = refl
of_erase erase_steps.WritesFailed v = refl
of_erase erase_steps.Done v = refl
of_erase erase_steps.Parked v = refl

of_provision : (step : ProvisionStep) (c : ClaimData) (uid : Uid) (x : ClassData) → mounts (provision_call_at step c uid x) ≡ false
of_provision (provision_steps.Provisions labels) c uid x = refl
of_provision (provision_steps.Creates id topology) c uid x = refl
of_provision provision_steps.ClearsNode c uid x = refl
of_provision provision_steps.Done c uid x = refl
of_provision provision_steps.Parked c uid x = refl

writes_no_mount : (request : Request) → is_write request ≡ true → is_mount request ≡ false
writes_no_mount (requests.Mount node epoch pod claims) write = absurd (true≢false (sym write))
writes_no_mount _ write = refl

of_task : (t : Task) (request : Request) → is_agents t ≡ false → task_call t ≡ Some request → is_mount request ≡ false
unfolding claim_guard_call volume_guard_call erase_call provision_call
of_task (tasks.Agent op) request other calls = absurd (true≢false other)
of_task (tasks.Binder m) request other calls = sym (ap mounts calls) ∙ of_machine m
of_task (tasks.ClaimProtect op) request other calls = sym (ap mounts calls) ∙ of_claim_guard op.step op.claim
of_task (tasks.VolumeProtect op) request other calls = sym (ap mounts calls) ∙ of_volume_guard op.step op.volume
of_task (tasks.Erase op) request other calls = sym (ap mounts calls) ∙ of_erase op.step op.volume
of_task (tasks.Provision op) request other calls = sym (ap mounts calls) ∙ of_provision op.step op.claim op.uid op.class
of_task (tasks.Schedule op) request other calls = writes_no_mount request (calls_are_writes op request calls)

-- ---- so a gate that holds Mounts alone lets each call of a controller pass

pub controllers_pass : (setup : Setup) (lets : Lets) (seat : ℕ) (role : Role) (start : List Entry) (key : Key) → is_agent role.kind ≡ false
    → HoldsMountsAlone lets → CallsPass setup lets seat role start key
controllers_pass setup lets seat role start key other holds s h g u v point own gives leads alike =
    let begun = begun_by s.role.kind s.role.node s.memory (all_objects s.caches) u.key u.task (ap (λ (r : Role). is_agent r.kind) point.role_is ∙ other) gives.decided in
    let there = leads_keep setup seat role.kind (λ past t. is_agents t ≡ false) (λ past t next call is calls moved. stays_so t next _ is moved) h g u v leads begun gives.call in
    holds g v.call (of_task v.task v.call there.0 there.1)
