-- What machines ask and make of answers, computed.
use Rattle.std.proofs.Common.{refl}
use Rattle.binder_model.specs.BindWrites.{claim_write, next_write, unbound_volume}
use Rattle.binder_model.specs.BinderDue.{claim_with}
use Rattle.binder_machines.specs.Machines.{call_of, claim_read, moved, parks_at, volume_read}
use Rattle.machine_examples.specs.Binder.Moves.{BindingExamples, LosingExamples, ParkingExamples, ReleasingExamples, UnbindingExamples}

pub binding_examples : BindingExamples
unfolding call_of moved next_write claim_write
binding_examples = record {
  reference_is_first = refl;
  reference_of_user_is_completed = refl;
  goes_on_with_the_answer = refl;
  bound_is_second = refl;
  completion_is_third = refl;
  goes_on_with_the_claim = refl;
  status_is_fourth = refl;
  nothing_is_fifth = refl;
  volume_of_another_is_not_bound = refl;
  claim_of_another_is_not_bound = refl;
  ends_after_a_stale_answer = refl;
}

pub releasing_examples : ReleasingExamples
unfolding call_of moved volume_read claim_with
releasing_examples = record {
  reads_the_claim = refl;
  releases_where_none_is = refl;
  releases_where_another_uid_is = refl;
  writes_released = refl;
  claim_that_names_none_is_left = refl;
  claim_that_names_it_is_marked = refl;
  bound_is_not_marked_again = refl;
  claim_elsewhere_is_unbound = refl;
  claim_elsewhere_of_reclaimed_is_released = refl;
}

pub unbinding_examples : UnbindingExamples
unfolding call_of moved unbound_volume
unbinding_examples = record {
  unbinds = refl;
  bound_one_is_freed = refl;
  available_one_is_left = refl;
  writes_available = refl;
}

pub losing_examples : LosingExamples
unfolding call_of moved claim_read
losing_examples = record {
  reads_the_volume = refl;
  loses_where_none_is = refl;
  loses_to_another_claim = refl;
  writes_lost = refl;
  carried_one_is_kept = refl;
  free_volume_keeps_it = refl;
}

pub parking_examples : ParkingExamples
unfolding parks_at
parking_examples = record {
  stale_write_parks = refl;
  write_of_what_left_parks = refl;
  read_that_found_none_is_an_answer = refl;
  read_of_a_volume_likewise = refl;
  what_was_done_does_not_park = refl;
  what_was_found_does_not_park = refl;
}
