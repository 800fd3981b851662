-- What a seat was told that lets a machine of a node agent stand on it, and what does not: the newest exchange stands first.
-- A choice of this project, as the machines are.
use Rattle.std.specs.Prelude.{List, [], ◌∷◌, codes}
use Rattle.kube_parts.specs.declared.parts.Kind.TheVariants as kinds
use Rattle.call_types.specs.declared.request.SeatKind.TheVariants as seats
use Rattle.node_agent.specs.declared.agent.AgentOp.{AgentOp}
use Rattle.node_agent.specs.declared.step.AgentStep.TheVariants as steps
use Rattle.node_agent.specs.Evidence.{AgentKeeps, HasStarted}
use Rattle.node_agent.specs.StartLaw.{TookFirst}
use Rattle.model_examples.specs.Samples.{Exchange, ending_p, lists, node_1, p, seat_of, takes, tells_pod}
use Rattle.model_examples.specs.AgentRows.{mounted, row_of}
use Rattle.model_examples.specs.Samples.{uid_p}
use Rattle.model_examples.specs.Mounting.{watches_p}
use Rattle.machine_examples.specs.Guard.AgentMoves.{about, on_p}

abbrev pub AfterCalls : List Exchange → AgentOp → Type 0
AfterCalls xs op = AgentKeeps op (seat_of seats.Agent xs)

abbrev pub Started : List Exchange → Type 0
Started xs = HasStarted node_1 (seat_of seats.Agent xs)

pub record AgentEvidenceExamples : Type 0 where
  pub reads_for_a_pod_that_was_told : AfterCalls (tells_pod p ∷ takes node_1 1 ∷ []) (on_p (steps.ReadsClaim (codes "c")))
  pub not_for_a_claim_that_it_does_not_name : AfterCalls (tells_pod p ∷ takes node_1 1 ∷ []) (on_p (steps.ReadsClaim (codes "d"))) → ⊥
  pub not_for_a_leaving_pod : AfterCalls (tells_pod ending_p ∷ takes node_1 1 ∷ []) (about ending_p [] (steps.ReadsClaim (codes "c"))) → ⊥
  pub not_before_each_claim_was_counted : AfterCalls (tells_pod p ∷ takes node_1 1 ∷ []) (on_p steps.MountsPod) → ⊥
  pub unmounts_a_leaving_pod : AfterCalls (tells_pod ending_p ∷ takes node_1 1 ∷ []) (about ending_p [] steps.Unmounts)
  pub not_by_an_older_epoch : AfterCalls (tells_pod ending_p ∷ takes node_1 3 ∷ []) (about ending_p [] steps.Unmounts) → ⊥
  pub finishes_after_mounts_without_it : AfterCalls (mounted node_1 1 [] ∷ tells_pod ending_p ∷ takes node_1 1 ∷ []) (about ending_p [] steps.Finishes)
  pub not_before_the_mounts_were_told : AfterCalls (tells_pod ending_p ∷ takes node_1 1 ∷ []) (about ending_p [] steps.Finishes) → ⊥
  pub not_where_they_have_it : AfterCalls (mounted node_1 1 (row_of uid_p ∷ []) ∷ tells_pod ending_p ∷ takes node_1 1 ∷ []) (about ending_p [] steps.Finishes) → ⊥
  pub started_by_a_list : Started (tells_pod p ∷ takes node_1 1 ∷ [])
  pub started_by_a_list_before_a_watch : Started (watches_p ∷ lists kinds.Pod [] 8 ∷ takes node_1 1 ∷ [])
  pub watch_without_a_list_is_no_start : Started (watches_p ∷ takes node_1 1 ∷ []) → ⊥
  pub list_before_the_node_was_taken_is_no_start : Started (takes node_1 1 ∷ tells_pod p ∷ []) → ⊥
  pub node_was_taken_first : TookFirst node_1 (seat_of seats.Agent (tells_pod p ∷ takes node_1 1 ∷ []))
  pub list_without_pods_came_first : TookFirst node_1 (seat_of seats.Agent (takes node_1 1 ∷ lists kinds.Pod [] 8 ∷ [])) → ⊥
