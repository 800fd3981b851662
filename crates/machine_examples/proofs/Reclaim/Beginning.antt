-- What the provisioner and reclaimer begins on a key, computed.
use Rattle.std.proofs.Common.{refl}
use Rattle.machine_examples.specs.Reclaim.Beginnings.{ProvisionBeginExamples, ReclaimBeginExamples}
use Rattle.machine_examples.specs.Reclaim.Dues.{DueExamples}

pub provision_begin_examples : ProvisionBeginExamples
provision_begin_examples = record {
  claim_is_provisioned = refl;
  completed_claim_is_left = refl;
  deleting_claim_is_left = refl;
  claim_that_names_a_volume_is_left = refl;
  claim_with_a_selector_is_left = refl;
  claim_without_a_uid_is_left = refl;
  claim_without_its_class_is_left = refl;
  class_that_provisions_nothing_is_passed_over = refl;
  claim_with_a_match_is_left = refl;
  claim_with_a_volume_of_its_own_is_left = refl;
  too_small_volume_does_not_count = refl;
  volume_of_the_name_that_does_not_match_does_not_count = refl;
  chosen_node_does_not_count_without_delay = refl;
  delayed_claim_waits_for_its_node = refl;
  delayed_claim_is_provisioned_on_its_node = refl;
  absent_node_is_taken_back = refl;
  free_volume_does_not_count_under_delay = refl;
  reserved_volume_counts_under_delay = refl;
  volume_is_no_claim = refl;
  absent_claim_is_left = refl;
}

pub reclaim_begin_examples : ReclaimBeginExamples
reclaim_begin_examples = record {
  released_volume_is_read = refl;
  failed_volume_is_read = refl;
  bound_volume_is_left = refl;
  volume_to_be_kept_is_left = refl;
  volume_that_was_never_bound_is_left = refl;
  deleting_volume_is_left = refl;
  claim_is_no_volume = refl;
  absent_volume_is_left = refl;
}

pub due_examples : DueExamples
due_examples = record {
  provision_where_a_pool_fits = refl;
  nothing_where_no_pool_fits = refl;
  provision_where_a_pool_fits_the_node = refl;
  clear_where_the_pool_is_small = refl;
  clear_where_the_pool_is_far = refl;
  clear_where_the_node_is_absent = refl;
  nothing_where_nothing_begins = refl;
  nothing_after_the_end = refl;
  list_is_a_read = refl;
  watch_is_a_read = refl;
  single_read_is_none = refl;
  erase_is_none = refl;
}
