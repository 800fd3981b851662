-- What ops has under way: phase Failed is to be written only after an Erase was answered with a fault.
use Rattle.std.proofs.Common.{◌≡◌, ℕ, ◌+◌, ◌≤◌, List, Bool, true, false, true≢false, Option, Some, None, refl, sym, ap, subst, arith, if◌then◌else◌}
use Rattle.std.specs.Prelude.{is_some}
use Rattle.kube_parts.specs.declared.names.Due.{Due}
use Rattle.kube_parts.specs.declared.names.Due.TheVariants as dues
use Rattle.kube_objects.specs.declared.objects.Class.{Class as ClassData}
use Rattle.kube_objects.specs.declared.objects.Claim.{Claim as ClaimData}
use Rattle.kube_objects.specs.declared.objects.Volume.{Volume as VolumeData}
use Rattle.kube_objects.specs.declared.objects.Object.{Object}
use Rattle.kube_objects.specs.declared.objects.Object.TheVariants.{Volume}
use Rattle.kube_parts.specs.declared.uid.Uid.{Uid}
use Rattle.kube_objects.specs.Keys.{row_at}
use Rattle.call_types.specs.declared.reply.Refusal.TheVariants as refusals
use Rattle.call_types.specs.declared.reply.Reply.{Reply}
use Rattle.call_types.specs.declared.reply.Reply.TheVariants as replies
use Rattle.call_types.specs.declared.request.Request.{Request}
use Rattle.call_types.specs.declared.request.Request.TheVariants as requests
use Rattle.call_types.specs.declared.request.SeatKind.{SeatKind}
use Rattle.call_types.specs.declared.request.SeatKind.TheVariants as seats
use Rattle.binder_model.specs.Due.{reclaim_due}
use Rattle.model_laws.proofs.Lists.{none_some, one}
use Rattle.reclaim_ops.specs.declared.erase.EraseOp.{EraseOp}
use Rattle.reclaim_ops.specs.declared.erase.EraseStep.{EraseStep}
use Rattle.reclaim_ops.specs.declared.erase.EraseStep.TheVariants as erase_steps
use Rattle.reclaim_ops.specs.declared.provision.ProvisionOp.{ProvisionOp}
use Rattle.reclaim_ops.specs.declared.provision.ProvisionStep.{ProvisionStep}
use Rattle.reclaim_ops.specs.declared.provision.ProvisionStep.TheVariants as provision_steps
use Rattle.reclaim_ops.specs.Decisions.{claim_begins, volume_begins, volume_for}
use Rattle.reclaim_ops.specs.Erasures.{at_found, at_known, erase_call, erase_call_at, erase_moved, moved_at}
use Rattle.reclaim_ops.specs.Provisions.{ask_call, clear_call, create_call, provision_call, provision_call_at, provision_moved}
use Rattle.worker_core.specs.declared.role.Role.{Role}
use Rattle.worker_core.specs.declared.task.First.{First}
use Rattle.worker_core.specs.declared.task.First.TheVariants as firsts
use Rattle.worker_core.specs.declared.task.Task.{Task}
use Rattle.worker_core.specs.declared.task.Task.TheVariants as tasks
use Rattle.worker_core.specs.declared.task.Under.{Under}
use Rattle.worker_core.specs.Memories.{Memory}
use Rattle.worker_core.specs.Steps.Evidence.{task_kind}
use Rattle.worker_core.specs.Tasks.{GivesCall, IsFirstOf, erase_first, ops_first, task_call, task_moved, under_after, with_call, with_task}

-- how often phase Failed is still to be written
abbrev pub step_fails : EraseStep → ℕ
step_fails erase_steps.WritesFailed = 1
step_fails step = 0

abbrev pub task_fails : Task → ℕ
task_fails (tasks.Erase op) = step_fails op.step
task_fails task = 0

abbrev pub under_fails : Option Under → ℕ
under_fails None = 0
under_fails (Some u) = task_fails u.task

-- a call that writes a phase, and an Erase that was answered with a fault

abbrev pub phase_written : Request → ℕ
phase_written (requests.UpdateStatus key status given) = 1
phase_written request = 0

abbrev pub erase_failed : Request → Reply → ℕ
erase_failed (requests.Erase id) (replies.Refused (refusals.BackFault planned)) = 1
erase_failed request reply = 0

-- ---- what a decision begins

abbrev begun_in : First → Option Task
begun_in (firsts.Begins task) = Some task
begun_in first = None

module _ (t : Task) where
  of_volume : (v : VolumeData) (due : Option Due) → firsts.Begins t ≡ erase_first (volume_for v due) → task_fails t ≡ 0
  of_volume v (Some dues.Reclaim) e = ap task_fails (one t _ (ap begun_in e))
  of_volume v _ e = none_some (sym (ap begun_in e))

  of_row : (row : Option Object) → firsts.Begins t ≡ erase_first (volume_begins row) → task_fails t ≡ 0
  of_row (Some (Volume v)) e = of_volume v (reclaim_due v) e
  of_row _ e = none_some (sym (ap begun_in e))

  of_claim : (op : Option ProvisionOp) (row : Option Object) → firsts.Begins t ≡ ops_first op (volume_begins row) → task_fails t ≡ 0
  of_claim None row e = of_row row e
  of_claim (Some op) row e = ap task_fails (one t _ (ap begun_in e))

pub none_begins : (role : Role) (memory : Memory) (rows : List Object) (u : Under) → role.kind ≡ seats.Ops → GivesCall role memory rows u → under_fails (Some u) ≡ 0
none_begins role memory rows u kind gives =
    of_claim u.task (claim_begins rows (row_at u.key rows)) (row_at u.key rows) (subst (λ k. IsFirstOf k role.node memory rows u.key (firsts.Begins u.task)) kind gives.decided)

-- ---- an answer

known_none : (op : EraseOp) (v : VolumeData) (uid : Option Uid) → step_fails (at_known op v uid).step ≡ 0
known_none op v None = refl
known_none op v (Some uid) = refl

found_none : (op : EraseOp) (v : VolumeData) → step_fails (at_found op v).step ≡ 0
found_none op v = by (is_some (reclaim_due v)) (known_none op v v.meta.uid)
  where
    by : (b : Bool) → step_fails (at_known op v v.meta.uid).step ≡ 0 → step_fails (if b then at_known op v v.meta.uid else record op { step = erase_steps.Done }).step ≡ 0
    by true h = h
    by false h = refl

erase_goes : (op : EraseOp) (step : EraseStep) (request : Request) (reply : Reply) → erase_call_at step op.volume ≡ Some request
    → step_fails (moved_at op step reply).step + phase_written request ≤ step_fails step + erase_failed request reply
erase_goes op erase_steps.Done request reply call = none_some call
erase_goes op erase_steps.Parked request reply call = none_some call
erase_goes op erase_steps.ReadsVolume request (replies.Found (Volume v)) call = let h = found_none op v in let p = ap phase_written (one _ request call) in omega (arith, h, p)
erase_goes op erase_steps.ReadsVolume request (replies.Refused refusal) call = let p = ap phase_written (one _ request call) in omega (arith, p)
erase_goes op erase_steps.ReadsVolume request _ call = let p = ap phase_written (one _ request call) in omega (arith, p)
erase_goes op (erase_steps.Erases uid) request (replies.Erased removed) call = let p = ap phase_written (one _ request call) in omega (arith, p)
erase_goes op (erase_steps.Erases uid) request (replies.Refused (refusals.BackFault planned)) call =
    let p = ap phase_written (one _ request call) in
    let f = ap (λ r. erase_failed r (replies.Refused (refusals.BackFault planned))) (one _ request call) in
    omega (arith, p, f)
erase_goes op (erase_steps.Erases uid) request (replies.Refused _) call = let p = ap phase_written (one _ request call) in omega (arith, p)
erase_goes op (erase_steps.Erases uid) request _ call = let p = ap phase_written (one _ request call) in omega (arith, p)
erase_goes op (erase_steps.Deletes uid) request (replies.Refused refusal) call = let p = ap phase_written (one _ request call) in omega (arith, p)
erase_goes op (erase_steps.Deletes uid) request _ call = let p = ap phase_written (one _ request call) in omega (arith, p)
erase_goes op erase_steps.WritesFailed request (replies.Refused refusal) call = let p = ap phase_written (one _ request call) in omega (arith, p)
erase_goes op erase_steps.WritesFailed request _ call = let p = ap phase_written (one _ request call) in omega (arith, p)

provision_none : (step : ProvisionStep) (c : ClaimData) (uid : Uid) (x : ClassData) (request : Request) → provision_call_at step c uid x ≡ Some request → phase_written request ≡ 0
provision_none provision_steps.Done c uid x request call = none_some call
provision_none provision_steps.Parked c uid x request call = none_some call
provision_none (provision_steps.Provisions labels) c uid x request call = sym (ap phase_written (one (ask_call c uid x labels) request call))
provision_none (provision_steps.Creates id topology) c uid x request call = sym (ap phase_written (one (create_call c uid x id topology) request call))
provision_none provision_steps.ClearsNode c uid x request call = sym (ap phase_written (one (clear_call c) request call))

abbrev pub is_ops : SeatKind → Bool
is_ops seats.Ops = true
is_ops kind = false

pub fails_go : (u : Under) (reply : Reply) → task_kind u.task ≡ seats.Ops → task_call u.task ≡ Some u.call
    → under_fails (under_after u reply) + phase_written u.call ≤ under_fails (Some u) + erase_failed u.call reply
unfolding provision_call provision_moved erase_call erase_moved
fails_go u reply kind call = by u.task kind call
  where
    with_it : (t : Task) (c : Option Request) → under_fails (with_call u.key t c) ≤ task_fails t
    with_it t None = omega arith
    with_it t (Some r) = omega arith

    by : (t : Task) → task_kind t ≡ seats.Ops → task_call t ≡ Some u.call → under_fails (with_task u.key (task_moved t reply)) + phase_written u.call ≤ task_fails t + erase_failed u.call reply
    by (tasks.Erase op) k c =
        let few = with_it (tasks.Erase (erase_moved op reply)) (task_call (tasks.Erase (erase_moved op reply))) in
        let goes = erase_goes op op.step u.call reply c in
        omega (arith, few, goes)
    by (tasks.Provision op) k c =
        let few = with_it (tasks.Provision (provision_moved op reply)) (task_call (tasks.Provision (provision_moved op reply))) in
        let none = provision_none op.step op.claim op.uid op.class u.call c in
        omega (arith, few, none)
    by (tasks.Binder m) k c = absurd (true≢false (sym (ap is_ops k)))
    by (tasks.ClaimProtect op) k c = absurd (true≢false (sym (ap is_ops k)))
    by (tasks.VolumeProtect op) k c = absurd (true≢false (sym (ap is_ops k)))
    by (tasks.Agent op) k c = absurd (true≢false (sym (ap is_ops k)))
    by (tasks.Schedule op) k c = absurd (true≢false (sym (ap is_ops k)))
