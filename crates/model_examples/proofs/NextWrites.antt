-- The next write of a binding, computed.
use Rattle.std.proofs.Common.{refl}
use Rattle.binder_model.specs.BindWrites.{next_write, claim_write, taken_for, completed_with}
use Rattle.model_examples.specs.NextWrites.{NextWriteExamples}

pub next_write_examples : NextWriteExamples
unfolding next_write claim_write taken_for completed_with
next_write_examples = record {
  reference_of_free_volume = refl;
  reference_of_prebound_volume = refl;
  reference_of_volume_of_other_uid = refl;
  no_reference_over_released = refl;
  no_reference_over_failed = refl;
  phase_of_taken_volume = refl;
  no_phase_over_released = refl;
  no_phase_over_failed = refl;
  no_phase_without_finalizer = refl;
  completion_after_bound = refl;
  completion_where_volume_is_named = refl;
  completion_where_other_volume_is_named = refl;
  completion_asks_no_finalizer_again = refl;
  status_after_completion = refl;
  status_where_phase_is_lost = refl;
  status_where_modes_are_others = refl;
  status_where_amount_is_another = refl;
  status_where_amount_lacks = refl;
  none_where_all_is_written = refl;
}
