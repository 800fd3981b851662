-- The examples of the scheduler as an actor compute.
use Rattle.std.proofs.Common.{ℕ, Bool, true, false, true≢false, List, [], ◌∷◌, Option, Some, None, refl, sym, ap}
use Rattle.std.specs.Prelude.{bytes_eq, codes, is_some}
use Rattle.plain_data.specs.Pairs.{value_at}
use Rattle.kube_objects.specs.declared.objects.Object.TheVariants.{Claim, Pod}
use Rattle.kube_objects.specs.Bindings.{selected_node}
use Rattle.call_types.specs.declared.request.Request.{Request}
use Rattle.call_types.specs.declared.request.Request.TheVariants as requests
use Rattle.binder_model.specs.BindWrites.{taken_for}
use Rattle.machine_examples.specs.Delayed.Scenes.{c, pod, pod_of_two}
use Rattle.pod_scheduler.specs.declared.schedule.ScheduleOp.{ScheduleOp}
use Rattle.pod_scheduler.specs.Schedules.{schedule_call, schedule_moved}
use Rattle.machine_examples.proofs.Schedule.Beginning.{begins, not_begun}
use Rattle.machine_examples.specs.Schedule.Moves.{pod_bind, reference, selection}
use Rattle.machine_examples.specs.Schedule.Refusals.{first_choice}
use Rattle.worker_core.specs.declared.task.Under.{Under}
use Rattle.machine_examples.specs.Actor.Schedulers.{
  SchedulerDecisionExamples,
  SchedulerMoveExamples,
  both_on,
  half_rows,
  matching_rows,
  ready_rows,
  refused_c,
  select_on,
  waiting_rows,
  writing,
  written_c,
}

-- tests that tell what begins apart

abbrev is_node : List ℕ → Option (List ℕ) → Bool
is_node node None = false
is_node node (Some other) = bytes_eq node other

abbrev selects : List ℕ → Request → Bool
selects node (requests.Update (Claim x) given) = is_node node (value_at selected_node x.meta.annotations)
selects node request = false

abbrev first_selects : List ℕ → List Request → Bool
first_selects node [] = false
first_selects node (w ∷ writes) = selects node w

-- the first write selects the node
abbrev op_selects : List ℕ → Option ScheduleOp → Bool
op_selects node None = false
op_selects node (Some op) = first_selects node op.writes

pub decisions : SchedulerDecisionExamples
unfolding taken_for
decisions = record {
  first_node_is_selected = begins (waiting_rows c) [] pod (Some (writing (select_on (codes "n1") c ∷ []))) refl refl refl;
  pod_is_not_left = not_begun (waiting_rows c) [] pod None refl refl (λ h. true≢false (ap is_some h));
  volume_is_taken_before = begins matching_rows [] pod_of_two (Some (writing (reference ∷ selection ∷ []))) refl refl refl;
  ready_pod_is_bound = begins (ready_rows (Pod pod)) [] pod (Some (writing (pod_bind ∷ []))) refl refl refl;
  bound_pod_is_left = refl;
  node_after_the_refused_is_selected = begins (waiting_rows refused_c) (first_choice ∷ []) pod (Some (writing (select_on (codes "n2") refused_c ∷ []))) refl refl refl;
  refused_node_is_not_selected = not_begun (waiting_rows refused_c) (first_choice ∷ []) pod (Some (writing (select_on (codes "n1") refused_c ∷ [])))
      refl refl (λ h. true≢false (ap (op_selects (codes "n2")) h));
  first_node_is_where_nothing_was_refused = begins (waiting_rows refused_c) [] pod (Some (writing (select_on (codes "n1") refused_c ∷ []))) refl refl refl;
  stale_watch_passes_over_none = begins half_rows [] pod_of_two (Some (writing (both_on (codes "n1")))) refl refl refl;
  next_node_is_not_selected_then = not_begun half_rows [] pod_of_two (Some (writing (both_on (codes "n2")))) refl refl (λ h. true≢false (ap (op_selects (codes "n1")) h));
  pod_of_a_selected_claim_waits = begins (waiting_rows written_c) [] pod None refl refl refl;
  claim_is_left = refl;
  absent_pod_is_left = refl;
  no_other_key_is_queued = λ h. h;
  it_binds_no_volume = λ h. h;
  binder_schedules_nothing = λ h. h;
}

abbrev is_under_way : Option Under → Bool
is_under_way None = false
is_under_way (Some u) = true

pub moves : SchedulerMoveExamples
unfolding schedule_call schedule_moved taken_for
moves = record {
  next_write_follows = refl;
  last_write_is_the_end = refl;
  its_key_is_not_parked = refl;
  refused_write_is_the_end = refl;
  key_of_the_refusal_is_parked = refl;
  next_write_does_not_follow_a_refusal = λ h. true≢false (sym (ap is_under_way h));
  bound_pod_is_the_end = refl;
  it_is_not_parked = refl;
}
