-- What the machines of protection ask and make of answers, computed.
use Rattle.std.proofs.Common.{refl}
use Rattle.protect_sync.specs.ClaimGuards.{claim_guard_call, claim_moved}
use Rattle.protect_sync.specs.VolumeGuards.{volume_guard_call, volume_moved}
use Rattle.machine_examples.specs.Guard.Moves.{ClaimCallExamples, ClaimMoveExamples, ParkingExamples, VolumeExamples}

pub claim_call_examples : ClaimCallExamples
unfolding claim_guard_call
claim_call_examples = record {
  adds_it_at_the_version = refl;
  lists_the_pods_of_the_namespace = refl;
  drops_its_own_alone = refl;
  claim_without_a_uid_is_left = refl;
  nothing_is_left_when_done = refl;
  nothing_is_left_when_parked = refl;
}

pub claim_move_examples : ClaimMoveExamples
unfolding claim_moved
claim_move_examples = record {
  no_pod_drops_it = refl;
  waiting_pod_drops_it = refl;
  pod_of_another_claim_drops_it = refl;
  pod_of_another_namespace_drops_it = refl;
  pod_that_uses_it_keeps_it = refl;
  what_was_added_is_done = refl;
  what_left_is_done = refl;
  stale_write_is_parked = refl;
  claim_that_is_gone_is_parked = refl;
  what_has_ended_stays = refl;
}

pub volume_examples : VolumeExamples
unfolding volume_guard_call volume_moved
volume_examples = record {
  adds_it_at_the_version = refl;
  drops_its_own_alone = refl;
  nothing_is_left_when_done = refl;
  what_was_dropped_is_done = refl;
  stale_write_is_parked = refl;
  what_has_ended_stays = refl;
}

pub parking_examples : ParkingExamples
parking_examples = record {
  parked_claim_parks = refl;
  done_claim_does_not = refl;
  claim_whose_pods_are_listed_does_not = refl;
  parked_volume_parks = refl;
  done_volume_does_not = refl;
}
