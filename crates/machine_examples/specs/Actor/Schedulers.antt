-- What a scheduler does as an actor: what it decides on a key by what it was told, and what answers make of what it has under way. Cases
-- that the definitions give, and cases beside them that they do not. A choice of this project, as the actors are.
use Rattle.std.specs.Prelude.{ℕ, ◌≡◌, true, false, List, [], ◌∷◌, Some, None, codes}
use Rattle.kube_objects.specs.declared.key.Key.{Key}
use Rattle.kube_objects.specs.declared.objects.Claim.{Claim as ClaimData}
use Rattle.kube_objects.specs.declared.objects.Object.{Object}
use Rattle.kube_objects.specs.declared.objects.Object.TheVariants.{Class, Node, Volume, Claim, Pod}
use Rattle.call_types.specs.declared.request.Request.{Request}
use Rattle.call_types.specs.declared.request.Request.TheVariants as requests
use Rattle.call_types.specs.declared.request.SeatKind.TheVariants as seats
use Rattle.call_types.specs.declared.reply.Reply.TheVariants as replies
use Rattle.binder_machines.specs.declared.machine.Machine.TheVariants as machines
use Rattle.machine_examples.specs.Delayed.Scenes.{b, c, carrying, chosen_on, completed, e, late, n1, n2, n3, pod, pod_of_two}
use Rattle.model_examples.specs.Samples.{Exchange, key_c, key_p}
use Rattle.pod_scheduler.specs.declared.schedule.ScheduleOp.{ScheduleOp}
use Rattle.pod_scheduler.specs.declared.schedule.ScheduleStep.TheVariants as steps
use Rattle.machine_examples.specs.Schedule.Beginnings.{scheduled}
use Rattle.machine_examples.specs.Schedule.Moves.{at, binds, conflict, pod_bind, reference, reference_done, selection, selection_done}
use Rattle.machine_examples.specs.Schedule.Refusals.{at_version, selects, watches}
use Rattle.worker_core.specs.declared.task.First.{First}
use Rattle.worker_core.specs.declared.task.First.TheVariants as firsts
use Rattle.worker_core.specs.declared.task.Task.TheVariants as tasks
use Rattle.worker_core.specs.declared.task.Under.{Under}
use Rattle.worker_core.specs.Memories.{no_memory}
use Rattle.worker_core.specs.Tasks.{IsDecision, task_parks, under_after}
use Rattle.machine_examples.specs.Actor.Memories.{scheduler, scheduler_knows}

-- its decisions

-- where a scheduler was told these exchanges and its caches have these rows, this is the decision on the key
abbrev pub Decides : List Exchange → List Object → Key → First → Type 0
Decides xs rows key first = IsDecision scheduler (scheduler_knows xs) rows key first

-- a machine that makes these writes begins
abbrev pub writing : List Request → ScheduleOp
writing writes = record { writes = writes; step = steps.Writes 0 }

abbrev pub begins_with : List Request → First
begins_with writes = firsts.Begins (tasks.Schedule (writing writes))

-- the node is selected for the claim
abbrev pub select_on : List ℕ → ClaimData → Request
select_on node x = requests.Update (Claim (chosen_on node x)) (Some x.meta.version)

-- three nodes of which each can serve the pod's claims
abbrev pub on_three_nodes : List Object → List Object
on_three_nodes rest = Class late ∷ Node n1 ∷ Node n2 ∷ Node n3 ∷ rest

abbrev pub waiting_rows : ClaimData → List Object
waiting_rows x = on_three_nodes (Claim x ∷ Pod pod ∷ [])

-- a free volume for one claim of the pod
abbrev pub matching_rows : List Object
matching_rows = Class late ∷ Node n1 ∷ Volume e ∷ Claim b ∷ Claim c ∷ Pod pod_of_two ∷ []

-- the pod's claim is completed
abbrev pub ready_rows : Object → List Object
ready_rows p = Node n1 ∷ Volume (carrying c e) ∷ Claim (completed (codes "e") c) ∷ p ∷ []

-- the node n1 was selected for the claim c, and then it was taken back
abbrev pub told_refused : List Exchange
told_refused = watches (at_version 11 c) ∷ selects (codes "n1") 10 ∷ []

abbrev pub refused_c : ClaimData
refused_c = at_version 11 c

-- the node n1 was selected for the claim c, and the watch tells of the time before
abbrev pub told_stale : List Exchange
told_stale = watches (at_version 9 c) ∷ selects (codes "n1") 10 ∷ []

-- the claim c as it was written, beside a claim without a node
abbrev pub written_c : ClaimData
written_c = at_version 10 (chosen_on (codes "n1") c)

abbrev pub half_rows : List Object
half_rows = on_three_nodes (Claim b ∷ Claim written_c ∷ Pod pod_of_two ∷ [])

abbrev pub both_on : List ℕ → List Request
both_on node = select_on node written_c ∷ select_on node b ∷ []

pub record SchedulerDecisionExamples : Type 0 where
  pub first_node_is_selected : Decides [] (waiting_rows c) key_p (begins_with (select_on (codes "n1") c ∷ []))
  pub pod_is_not_left : Decides [] (waiting_rows c) key_p firsts.Drops → ⊥
  pub volume_is_taken_before : Decides [] matching_rows key_p (begins_with (reference ∷ selection ∷ []))
  pub ready_pod_is_bound : Decides [] (ready_rows (Pod pod)) key_p (begins_with (pod_bind ∷ []))
  pub bound_pod_is_left : Decides [] (ready_rows (Pod scheduled)) key_p firsts.Drops
  pub node_after_the_refused_is_selected : Decides told_refused (waiting_rows refused_c) key_p (begins_with (select_on (codes "n2") refused_c ∷ []))
  pub refused_node_is_not_selected : Decides told_refused (waiting_rows refused_c) key_p (begins_with (select_on (codes "n1") refused_c ∷ [])) → ⊥
  pub first_node_is_where_nothing_was_refused : Decides [] (waiting_rows refused_c) key_p (begins_with (select_on (codes "n1") refused_c ∷ []))
  pub stale_watch_passes_over_none : Decides told_stale half_rows key_p (begins_with (both_on (codes "n1")))
  pub next_node_is_not_selected_then : Decides told_stale half_rows key_p (begins_with (both_on (codes "n2"))) → ⊥
  pub pod_of_a_selected_claim_waits : Decides told_stale (waiting_rows written_c) key_p firsts.Drops
  pub claim_is_left : Decides [] (waiting_rows c) key_c firsts.Drops
  pub absent_pod_is_left : Decides [] [] key_p firsts.Drops
  pub no_other_key_is_queued : Decides [] (waiting_rows c) key_p (firsts.Queues key_c) → ⊥
  pub it_binds_no_volume : Decides [] matching_rows key_c (firsts.Begins (tasks.Binder (machines.Binds e c))) → ⊥
  pub binder_schedules_nothing : IsDecision (record { kind = seats.Binder; node = [] }) no_memory (waiting_rows c) key_p (begins_with (select_on (codes "n1") c ∷ [])) → ⊥

-- its moves

abbrev pub under : ScheduleOp → Request → Under
under op call = record { key = key_p; task = tasks.Schedule op; call = call }

pub record SchedulerMoveExamples : Type 0 where
  pub next_write_follows : under_after (under (at (steps.Writes 0)) reference) reference_done ≡ Some (under (at (steps.Writes 1)) selection)
  pub last_write_is_the_end : under_after (under (at (steps.Writes 1)) selection) selection_done ≡ None
  pub its_key_is_not_parked : task_parks (tasks.Schedule (at (steps.Writes 1))) selection_done ≡ false
  pub refused_write_is_the_end : under_after (under (at (steps.Writes 0)) reference) conflict ≡ None
  pub key_of_the_refusal_is_parked : task_parks (tasks.Schedule (at (steps.Writes 0))) conflict ≡ true
  pub next_write_does_not_follow_a_refusal : under_after (under (at (steps.Writes 0)) reference) conflict ≡ Some (under (at (steps.Writes 1)) selection) → ⊥
  pub bound_pod_is_the_end : under_after (under (binds (steps.Writes 0)) pod_bind) (replies.Done (Pod scheduled)) ≡ None
  pub it_is_not_parked : task_parks (tasks.Schedule (binds (steps.Writes 0))) (replies.Done (Pod scheduled)) ≡ false
