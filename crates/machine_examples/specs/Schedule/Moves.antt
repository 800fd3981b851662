-- What the scheduler's machine writes and what it makes of answers: cases that the definitions give, each beside others that they give
-- otherwise. A choice of this project, as the machine is.
use Rattle.std.specs.Prelude.{◌≡◌, true, false, [], ◌∷◌, Option, Some, None, codes}
use Rattle.kube_parts.specs.declared.parts.Kind.TheVariants as kinds
use Rattle.kube_objects.specs.declared.objects.Object.TheVariants.{Volume, Claim, Pod}
use Rattle.kube_objects.specs.Keys.{key_of}
use Rattle.model_examples.specs.Samples.{uid_p}
use Rattle.call_types.specs.declared.request.Request.{Request}
use Rattle.call_types.specs.declared.request.Request.TheVariants as requests
use Rattle.call_types.specs.declared.reply.Refusal.TheVariants as refusals
use Rattle.call_types.specs.declared.reply.Reply.{Reply}
use Rattle.call_types.specs.declared.reply.Reply.TheVariants as replies
use Rattle.binder_model.specs.BindWrites.{taken_for, write_reference}
use Rattle.pod_scheduler.specs.declared.schedule.ScheduleOp.{ScheduleOp}
use Rattle.pod_scheduler.specs.declared.schedule.ScheduleStep.{ScheduleStep}
use Rattle.pod_scheduler.specs.declared.schedule.ScheduleStep.TheVariants as steps
use Rattle.pod_scheduler.specs.Schedules.{schedule_call, schedule_moved, schedule_parks}
use Rattle.machine_examples.specs.Delayed.Scenes.{b, c, chosen_on, e, pod}

-- the claim c takes the volume e, and the node n1 is selected for the claim b
abbrev pub reference : Request
reference = write_reference e c

abbrev pub selection : Request
selection = requests.Update (Claim (chosen_on (codes "n1") b)) (Some 8)

abbrev pub pod_bind : Request
pod_bind = requests.BindPod (key_of (Pod pod)) uid_p (codes "n1")

abbrev pub at : ScheduleStep → ScheduleOp
at step = record { writes = reference ∷ selection ∷ []; step = step }

abbrev pub binds : ScheduleStep → ScheduleOp
binds step = record { writes = pod_bind ∷ []; step = step }

abbrev pub Calls : ScheduleOp → Option Request → Type 0
Calls op call = schedule_call op ≡ call

abbrev pub reference_done : Reply
reference_done = replies.Done (Volume (taken_for e c))

abbrev pub selection_done : Reply
selection_done = replies.Done (Claim (chosen_on (codes "n1") b))

abbrev pub conflict : Reply
conflict = replies.Refused (refusals.Conflict 9)

pub record CallExamples : Type 0 where
  pub first_write_comes_first : Calls (at (steps.Writes 0)) (Some reference)
  pub second_write_does_not : Calls (at (steps.Writes 0)) (Some selection) → ⊥
  pub second_write_comes_then : Calls (at (steps.Writes 1)) (Some selection)
  pub nothing_comes_after : Calls (at (steps.Writes 2)) None
  pub binding_is_one_write : Calls (binds (steps.Writes 0)) (Some pod_bind)
  pub nothing_is_left_when_done : Calls (at steps.Done) None
  pub nothing_is_left_when_parked : Calls (at steps.Parked) None
  pub list_is_no_write : Calls (record { writes = requests.List kinds.Pod None ∷ []; step = steps.Writes 0 }) None

abbrev pub Moves : ScheduleOp → Reply → ScheduleOp → Type 0
Moves op reply next = schedule_moved op reply ≡ next

pub record MoveExamples : Type 0 where
  pub written_volume_leads_on : Moves (at (steps.Writes 0)) reference_done (at (steps.Writes 1))
  pub written_claim_leads_on : Moves (at (steps.Writes 1)) selection_done (at (steps.Writes 2))
  pub refusal_parks : Moves (at (steps.Writes 0)) conflict (at steps.Parked)
  pub refusal_does_not_lead_on : Moves (at (steps.Writes 0)) conflict (at (steps.Writes 1)) → ⊥
  pub bound_pod_is_done : Moves (binds (steps.Writes 0)) (replies.Done (Pod pod)) (binds steps.Done)
  pub object_that_left_is_done : Moves (at (steps.Writes 0)) (replies.Left (Volume e)) (at steps.Done)
  pub refused_binding_parks : Moves (binds (steps.Writes 0)) (replies.Refused refusals.NotFound) (binds steps.Parked)
  pub what_is_parked_stays : Moves (at steps.Parked) reference_done (at steps.Parked)
  pub what_is_done_stays : Moves (at steps.Done) conflict (at steps.Done)
  pub parked_parks : schedule_parks steps.Parked ≡ true
  pub done_does_not : schedule_parks steps.Done ≡ false
  pub write_does_not : schedule_parks (steps.Writes 1) ≡ false
