-- What the machines of the provisioner and reclaimer ask and make of answers, computed.
use Rattle.std.proofs.Common.{refl}
use Rattle.binder_model.specs.Provisioning.{provisioned_volume}
use Rattle.reclaim_ops.specs.Erasures.{erase_call, erase_moved}
use Rattle.reclaim_ops.specs.Provisions.{provision_call, provision_moved}
use Rattle.machine_examples.specs.Reclaim.EraseMoves.{EraseCallExamples, EraseMoveExamples}
use Rattle.machine_examples.specs.Reclaim.ProvisionMoves.{ProvisionCallExamples, ProvisionMoveExamples}

pub provision_call_examples : ProvisionCallExamples
unfolding provision_call provisioned_volume
provision_call_examples = record {
  asks_for_data = refl;
  asks_on_the_node_that_was_chosen = refl;
  makes_the_volume = refl;
  makes_it_for_the_place_of_its_pool = refl;
  makes_it_by_the_policy_of_the_class = refl;
  takes_the_node_alone_back = refl;
  nothing_is_left_when_done = refl;
  nothing_is_left_when_parked = refl;
}

pub provision_move_examples : ProvisionMoveExamples
unfolding provision_moved
provision_move_examples = record {
  given_data_get_a_volume = refl;
  place_of_the_pool_is_kept = refl;
  exhausted_at_once_parks = refl;
  exhausted_on_a_node_takes_it_back = refl;
  fault_parks = refl;
  fault_on_a_node_parks = refl;
  made_volume_is_done = refl;
  refused_volume_parks = refl;
  cleared_claim_is_done = refl;
  stale_clearing_parks = refl;
  what_is_parked_stays = refl;
  what_is_done_stays = refl;
  parked_parks = refl;
  done_does_not = refl;
  node_that_is_taken_back_does_not = refl;
}

pub erase_call_examples : EraseCallExamples
unfolding erase_call
erase_call_examples = record {
  reads_it = refl;
  erases_its_data = refl;
  erases_what_a_driver_gave = refl;
  deletes_it_by_its_uid = refl;
  writes_failed_at_the_version = refl;
  nothing_is_left_when_done = refl;
  nothing_is_left_when_parked = refl;
}

pub erase_move_examples : EraseMoveExamples
unfolding erase_moved
erase_move_examples = record {
  what_was_found_counts = refl;
  found_failed_is_erased = refl;
  found_bound_is_left = refl;
  found_to_be_kept_is_left = refl;
  found_deleting_is_left = refl;
  found_that_was_never_bound_is_left = refl;
  found_without_a_uid_is_left = refl;
  found_claim_is_left = refl;
  absent_volume_parks = refl;
  erased_is_deleted = refl;
  what_had_no_data_is_deleted = refl;
  fault_is_written = refl;
  fault_is_written_again = refl;
  fault_of_a_read_parks = refl;
  deleted_is_done = refl;
  what_left_is_done = refl;
  refused_delete_parks = refl;
  failed_is_done = refl;
  stale_write_parks = refl;
  what_is_parked_stays = refl;
  what_is_done_stays = refl;
  parked_parks = refl;
  done_does_not = refl;
  failed_write_does_not = refl;
}
