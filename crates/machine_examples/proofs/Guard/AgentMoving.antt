-- What the machines of node agents ask and make of answers, and what begins them, computed.
use Rattle.std.proofs.Common.{refl}
use Rattle.node_agent.specs.Agents.{agent_call, agent_moved}
use Rattle.machine_examples.specs.Guard.AgentMoves.{AgentBeginExamples, AgentCallExamples, EndExamples, ReadExamples, SecondClaimExamples}

pub agent_call_examples : AgentCallExamples
unfolding agent_call
agent_call_examples = record {
  reads_the_claim = refl;
  reads_its_volume = refl;
  mounts_what_was_counted = refl;
  unmounts = refl;
  reads_the_mounts = refl;
  finishes = refl;
  nothing_is_left_when_done = refl;
  nothing_is_left_when_parked = refl;
}

pub read_examples : ReadExamples
unfolding agent_moved
read_examples = record {
  ready_claim_has_its_volume_read = refl;
  absent_claim_parks = refl;
  deleting_claim_parks = refl;
  unprotected_claim_parks = refl;
  claim_before_completion_parks = refl;
  pending_claim_parks = refl;
  lost_claim_parks = refl;
  carrying_volume_counts = refl;
  volume_of_another_parks = refl;
  free_volume_parks = refl;
  absent_volume_parks = refl;
}

pub second_claim_examples : SecondClaimExamples
unfolding agent_call agent_moved
second_claim_examples = record {
  second_claim_is_read_after_the_first = refl;
  it_is_read_by_its_name = refl;
  other_volume_is_read = refl;
  volume_is_not_read_twice = refl;
  claim_is_not_read_twice = refl;
}

pub end_examples : EndExamples
unfolding agent_moved
end_examples = record {
  mounted_pod_is_done = refl;
  stale_mount_parks = refl;
  mounts_are_read_after_unmount = refl;
  stale_unmount_parks = refl;
  mounts_without_it_finish_it = refl;
  mounts_with_it_park = refl;
  stale_mounts_park = refl;
  finished_pod_is_done = refl;
  parked_parks = refl;
  done_does_not = refl;
}

pub agent_begin_examples : AgentBeginExamples
agent_begin_examples = record {
  pod_has_its_claim_read = refl;
  pod_beside_a_mounted_one_likewise = refl;
  pod_without_claims_is_mounted = refl;
  mounted_pod_is_left = refl;
  leaving_pod_is_unmounted = refl;
  leaving_pod_that_is_not_mounted_likewise = refl;
  pod_of_another_node_is_left = refl;
  waiting_pod_is_left = refl;
  waiting_pod_is_left_on_the_node_without_name = refl;
  claim_is_no_pod = refl;
  absent_pod_is_left = refl;
}
