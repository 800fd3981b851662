-- The examples of the node agent compute.
use Rattle.std.proofs.Common.{◌≡◌, Bool, true, false, true≢false, None, refl, sym, ap, subst}
use Rattle.node_agent.specs.declared.step.AgentStep.{AgentStep}
use Rattle.node_agent.specs.declared.step.AgentStep.TheVariants as steps
use Rattle.node_agent.specs.Agents.{agent_call, agent_moved}
use Rattle.worker_core.specs.declared.task.First.{First}
use Rattle.worker_core.specs.declared.task.First.TheVariants as firsts
use Rattle.worker_core.specs.declared.task.Task.TheVariants as tasks
use Rattle.worker_core.specs.declared.turn.Next.{Next}
use Rattle.worker_core.specs.Memories.{Memory}
use Rattle.worker_core.specs.States.{ActorState, start_call}
use Rattle.worker_core.specs.Turns.{IsTurn, TurnBy, passing, unlisted}
use Rattle.machine_examples.specs.Actor.NodeAgents.{AgentDecisionExamples, AgentMoveExamples, AgentSilenceExamples, AgentStartExamples, agent_of}
use Rattle.model_examples.specs.Samples.{node_1}

pub starts : AgentStartExamples
starts = record {
  takes_its_node_first = refl;
  takes_it_again_where_the_answer_was_lost = refl;
  then_reads_its_mounts = refl;
  by_the_epoch_that_was_told = refl;
  reads_them_again_where_the_answer_was_lost = refl;
  nothing_more_after_both = refl;
  binder_has_no_start = refl;
  node_is_taken_before_the_list = (refl, (refl, (refl, tt)));
  no_list_before_it = λ h. true≢false (sym h.1.0);
  not_taken_twice = λ h. true≢false h.0;
  taken_again_where_the_answer_was_lost = (refl, (refl, tt));
  not_by_another_node = λ h. true≢false (sym h.0);
}

abbrev begins : First → Bool
begins (firsts.Begins task) = true
begins first = false

abbrev mounts : First → Bool
mounts (firsts.Begins (tasks.Agent op)) = by op.step
  where
    by : AgentStep → Bool
    by steps.MountsPod = true
    by step = false
mounts first = false

pub decisions : AgentDecisionExamples
decisions = record {
  staying_pod_has_its_claim_read = refl;
  it_is_not_mounted_unread = λ h. true≢false (ap mounts h);
  mounted_pod_is_left = refl;
  leaving_pod_is_unmounted = refl;
  it_is_unmounted_where_no_mounts_were_told = refl;
  pod_of_another_node_is_left = refl;
  nothing_before_the_mounts_were_told = λ h. h;
  no_other_key_is_queued = λ h. true≢false (sym (ap begins h));
  claims_are_left = refl;
}

pub moves : AgentMoveExamples
unfolding agent_call agent_moved
moves = record {
  ready_claim_has_its_volume_read = refl;
  stale_epoch_is_the_end = refl;
  its_key_is_parked = refl;
  unmounted_pod_has_the_mounts_read = refl;
  finished_pod_is_done = refl;
}

-- a turn by what the agent remembers
turn_with : (s new : ActorState) (given : Next) (memory : Memory) → s.role ≡ agent_of node_1 → s.memory ≡ memory → s.under ≡ None → IsTurn s new given
    → TurnBy s new given memory.stale None (start_call (agent_of node_1) memory) (unlisted s) (passing s)
turn_with s new given memory role is none turn =
    subst (λ r. TurnBy s new given memory.stale None (start_call r memory) (unlisted s) (passing s)) role
    (subst (λ u. TurnBy s new given memory.stale u (start_call s.role memory) (unlisted s) (passing s)) none
    (subst (λ (m : Memory). TurnBy s new given m.stale s.under (start_call s.role m) (unlisted s) (passing s)) is turn))

pub silence : AgentSilenceExamples
silence = record {
  begins_with_its_node = λ s new given role is none turn. (turn_with s new given _ role is none turn).call;
  reads_its_mounts = λ s new given role is none turn. (turn_with s new given _ role is none turn).call;
  idle_once_it_is_stale = λ s new given role is none turn. (turn_with s new given _ role is none turn).idle;
  idle_whatever_was_told_before = λ s new given role is none turn. (turn_with s new given _ role is none turn).idle;
  not_idle_where_the_answer_was_lost = λ s new given role is none turn. (turn_with s new given _ role is none turn).call;
}
