-- What the scheduler's machine writes and makes of answers, computed.
use Rattle.std.proofs.Common.{Bool, true, false, true≢false, Option, Some, refl, sym, ap}
use Rattle.kube_objects.specs.declared.objects.Object.TheVariants.{Claim}
use Rattle.call_types.specs.declared.request.Request.{Request}
use Rattle.call_types.specs.declared.request.Request.TheVariants as requests
use Rattle.binder_model.specs.BindWrites.{taken_for}
use Rattle.pod_scheduler.specs.declared.schedule.ScheduleOp.{ScheduleOp}
use Rattle.pod_scheduler.specs.Schedules.{schedule_call, schedule_moved, schedule_parks}
use Rattle.machine_examples.specs.Schedule.Moves.{CallExamples, MoveExamples}

abbrev updates_claim : Option Request → Bool
updates_claim (Some (requests.Update (Claim new) given)) = true
updates_claim request = false

abbrev parks : ScheduleOp → Bool
parks op = schedule_parks op.step

pub call_examples : CallExamples
unfolding schedule_call taken_for
call_examples = record {
  first_write_comes_first = refl;
  second_write_does_not = λ e. true≢false (sym (ap updates_claim e));
  second_write_comes_then = refl;
  nothing_comes_after = refl;
  binding_is_one_write = refl;
  nothing_is_left_when_done = refl;
  nothing_is_left_when_parked = refl;
  list_is_no_write = refl;
}

pub move_examples : MoveExamples
unfolding schedule_moved taken_for
move_examples = record {
  written_volume_leads_on = refl;
  written_claim_leads_on = refl;
  refusal_parks = refl;
  refusal_does_not_lead_on = λ e. true≢false (ap parks e);
  bound_pod_is_done = refl;
  object_that_left_is_done = refl;
  refused_binding_parks = refl;
  what_is_parked_stays = refl;
  what_is_done_stays = refl;
  parked_parks = refl;
  done_does_not = refl;
  write_does_not = refl;
}
