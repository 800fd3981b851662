-- What a node agent does as an actor: its start, its decisions by what it remembers, what answers make of what it has under way,
-- and its silence once its epoch is stale. Cases that the definitions give, and cases beside them that they do not. A choice of
-- this project, as the actors are.
use Rattle.std.specs.Prelude.{ℕ, ◌≡◌, true, false, List, [], ◌∷◌, Some, None, codes}
use Rattle.kube_objects.specs.declared.key.Key.{Key}
use Rattle.kube_objects.specs.declared.objects.Pod.{Pod as PodData}
use Rattle.kube_objects.specs.declared.objects.Object.{Object}
use Rattle.kube_objects.specs.declared.objects.Object.TheVariants.{Claim, Pod}
use Rattle.call_types.specs.declared.request.Request.{Request}
use Rattle.call_types.specs.declared.request.Request.TheVariants as requests
use Rattle.call_types.specs.declared.request.SeatKind.TheVariants as seats
use Rattle.call_types.specs.declared.reply.Refusal.TheVariants.{StaleEpoch}
use Rattle.call_types.specs.declared.reply.Reply.{Reply}
use Rattle.call_types.specs.declared.reply.Reply.TheVariants as replies
use Rattle.node_agent.specs.declared.step.AgentStep.{AgentStep}
use Rattle.node_agent.specs.declared.step.AgentStep.TheVariants as steps
use Rattle.node_agent.specs.HistoryLaw.{TakesFirst}
use Rattle.model_examples.specs.AgentRows.{mounted, row_of}
use Rattle.model_examples.specs.Samples.{Exchange, bound_c, ending_p, heard, key_a, key_c, key_p, node_1, node_2, p, seat_of, takes, tells_pod, uid_p, unheard}
use Rattle.worker_core.specs.declared.role.Role.{Role}
use Rattle.worker_core.specs.declared.task.First.{First}
use Rattle.worker_core.specs.declared.task.First.TheVariants as firsts
use Rattle.worker_core.specs.declared.task.Task.{Task}
use Rattle.worker_core.specs.declared.task.Task.TheVariants as tasks
use Rattle.worker_core.specs.declared.task.Under.{Under}
use Rattle.worker_core.specs.declared.turn.Next.{Next}
use Rattle.worker_core.specs.declared.turn.Next.TheVariants as nexts
use Rattle.worker_core.specs.Memories.{Memory, memory_of, no_memory}
use Rattle.worker_core.specs.States.{ActorState, start_call}
use Rattle.worker_core.specs.Tasks.{IsDecision, task_parks, under_after}
use Rattle.worker_core.specs.Turns.{IsTurn}

abbrev pub agent_of : List ℕ → Role
agent_of node = record { kind = seats.Agent; node = node }

-- what the agent of the node remembers after these exchanges
abbrev pub after : List Exchange → Memory
after xs = memory_of (agent_of node_1) (seat_of seats.Agent xs)

-- its start

abbrev pub Starts : List Exchange → List ℕ → Type 0
Starts xs node = TakesFirst node (seat_of seats.Agent xs)

pub record AgentStartExamples : Type 0 where
  pub takes_its_node_first : start_call (agent_of node_1) (after []) ≡ Some (requests.TakeNode node_1)
  pub takes_it_again_where_the_answer_was_lost : start_call (agent_of node_1) (after (unheard (takes node_1 1) ∷ [])) ≡ Some (requests.TakeNode node_1)
  pub then_reads_its_mounts : start_call (agent_of node_1) (after (takes node_1 1 ∷ [])) ≡ Some (requests.Mounts node_1 1)
  pub by_the_epoch_that_was_told : start_call (agent_of node_1) (after (takes node_1 2 ∷ unheard (takes node_1 1) ∷ [])) ≡ Some (requests.Mounts node_1 2)
  pub reads_them_again_where_the_answer_was_lost : start_call (agent_of node_1) (after (unheard (mounted node_1 1 []) ∷ takes node_1 1 ∷ [])) ≡ Some (requests.Mounts node_1 1)
  pub nothing_more_after_both : start_call (agent_of node_1) (after (mounted node_1 1 [] ∷ takes node_1 1 ∷ [])) ≡ None
  pub binder_has_no_start : start_call (record { kind = seats.Binder; node = [] }) no_memory ≡ None
  pub node_is_taken_before_the_list : Starts (tells_pod p ∷ mounted node_1 1 [] ∷ takes node_1 1 ∷ []) node_1
  pub no_list_before_it : Starts (takes node_1 1 ∷ tells_pod p ∷ []) node_1 → ⊥
  pub not_taken_twice : Starts (takes node_1 2 ∷ takes node_1 1 ∷ []) node_1 → ⊥
  pub taken_again_where_the_answer_was_lost : Starts (takes node_1 2 ∷ unheard (takes node_1 1) ∷ []) node_1
  pub not_by_another_node : Starts (takes node_2 1 ∷ []) node_1 → ⊥

-- its decisions

abbrev pub Decided : Memory → List Object → Key → First → Type 0
Decided memory rows key first = IsDecision (agent_of node_1) memory rows key first

-- it took the node, and was told no mounts, or those of the pod
abbrev pub bare_node : Memory
bare_node = after (mounted node_1 1 [] ∷ takes node_1 1 ∷ [])

abbrev pub mounting_node : Memory
mounting_node = after (mounted node_1 1 (row_of uid_p ∷ []) ∷ takes node_1 1 ∷ [])

abbrev pub about : PodData → AgentStep → Task
about q step = tasks.Agent (record { node = node_1; epoch = 1; pod = q; uid = uid_p; ready = []; step = step })

abbrev pub reads_c : AgentStep
reads_c = steps.ReadsClaim (codes "c")

abbrev pub elsewhere_p : PodData
elsewhere_p = record p { node = node_2 }

pub record AgentDecisionExamples : Type 0 where
  pub staying_pod_has_its_claim_read : Decided bare_node (Pod p ∷ []) key_p (firsts.Begins (about p reads_c))
  pub it_is_not_mounted_unread : Decided bare_node (Pod p ∷ []) key_p (firsts.Begins (about p steps.MountsPod)) → ⊥
  pub mounted_pod_is_left : Decided mounting_node (Pod p ∷ []) key_p firsts.Drops
  pub leaving_pod_is_unmounted : Decided mounting_node (Pod ending_p ∷ []) key_p (firsts.Begins (about ending_p steps.Unmounts))
  pub it_is_unmounted_where_no_mounts_were_told : Decided bare_node (Pod ending_p ∷ []) key_p (firsts.Begins (about ending_p steps.Unmounts))
  pub pod_of_another_node_is_left : Decided bare_node (Pod elsewhere_p ∷ []) key_p firsts.Drops
  pub nothing_before_the_mounts_were_told : Decided (after (takes node_1 1 ∷ [])) (Pod p ∷ []) key_p firsts.Drops → ⊥
  pub no_other_key_is_queued : Decided bare_node (Pod p ∷ []) key_p (firsts.Queues key_c) → ⊥
  pub claims_are_left : Decided bare_node (Claim bound_c ∷ []) key_c firsts.Drops

-- its moves

abbrev pub under : Task → Request → Under
under task call = record { key = key_p; task = task; call = call }

abbrev pub stale : Reply
stale = replies.Refused (StaleEpoch 2)

pub record AgentMoveExamples : Type 0 where
  pub ready_claim_has_its_volume_read : under_after (under (about p reads_c) (requests.Get key_c)) (replies.Found (Claim bound_c)) ≡ Some
      (under (about p (steps.ReadsVolume (codes "c") bound_c)) (requests.Get key_a))
  pub stale_epoch_is_the_end : under_after (under (about ending_p steps.Unmounts) (requests.Unmount node_1 1 uid_p)) stale ≡ None
  pub its_key_is_parked : task_parks (about ending_p steps.Unmounts) stale ≡ true
  pub unmounted_pod_has_the_mounts_read : under_after (under (about ending_p steps.Unmounts) (requests.Unmount node_1 1 uid_p))
      (replies.Mounted []) ≡ Some (under (about ending_p steps.ReadsMounts) (requests.Mounts node_1 1))
  pub finished_pod_is_done : task_parks (about ending_p steps.Finishes) (replies.Left (Pod ending_p)) ≡ false

-- its silence

-- after these exchanges each turn gives this answer
abbrev pub Answers : List Exchange → Next → Type 0
Answers xs answer = (s new : ActorState) (given : Next) → s.role ≡ agent_of node_1 → s.memory ≡ after xs → s.under ≡ None → IsTurn s new given → given ≡ answer

abbrev pub told_stale : Exchange
told_stale = heard (requests.Mounts node_1 1) stale

pub record AgentSilenceExamples : Type 0 where
  pub begins_with_its_node : Answers [] (nexts.Call (requests.TakeNode node_1))
  pub reads_its_mounts : Answers (takes node_1 1 ∷ []) (nexts.Call (requests.Mounts node_1 1))
  pub idle_once_it_is_stale : Answers (told_stale ∷ takes node_1 1 ∷ []) nexts.Idle
  pub idle_whatever_was_told_before : Answers (told_stale ∷ mounted node_1 1 [] ∷ takes node_1 1 ∷ []) nexts.Idle
  pub not_idle_where_the_answer_was_lost : Answers (unheard told_stale ∷ takes node_1 1 ∷ []) (nexts.Call (requests.Mounts node_1 1))
