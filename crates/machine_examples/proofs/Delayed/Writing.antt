-- What is written, computed.
use Rattle.std.proofs.Common.{Bool, false, true≢false, Option, Some, refl, sym, ap}
use Rattle.std.specs.Prelude.{◌==◌}
use Rattle.call_types.specs.declared.request.Request.{Request}
use Rattle.call_types.specs.declared.request.Request.TheVariants.{Update}
use Rattle.binder_model.specs.BindWrites.{taken_for}
use Rattle.delayed_binding.specs.Writes.{prepare_write}
use Rattle.machine_examples.specs.Delayed.Writing.{WriteExamples}

-- the version that a write carries
abbrev at_seven : Option Request → Bool
at_seven (Some (Update o (Some version))) = version == 7
at_seven request = false

pub write_examples : WriteExamples
unfolding prepare_write taken_for
write_examples = record {
  reference_comes_first = refl;
  node_comes_then = refl;
  nothing_comes_after = refl;
  other_claim_is_not_written = λ e. true≢false (sym (ap at_seven e));
  older_node_is_written_over = refl;
  absent_claim_has_no_reference = refl;
  absent_volume_has_no_reference = refl;
  absent_claim_has_no_node = refl;
  assignment_writes_nothing = refl;
  waiting_writes_nothing = refl;
  no_node_writes_nothing = refl;
}
