-- What begins on a key, computed.
use Rattle.std.proofs.Common.{refl}
use Rattle.binder_model.specs.BindWrites.{claim_write, next_write}
use Rattle.binder_model.specs.BinderDue.{claim_with}
use Rattle.claim_sync.specs.ClaimDecision.{claim_decision}
use Rattle.volume_sync.specs.VolumeDecision.{volume_decision}
use Rattle.machine_examples.specs.Binder.FirstSteps.{ClaimExamples, VolumeExamples}

pub volume_examples : VolumeExamples
unfolding volume_decision claim_with
volume_examples = record {
  pending_becomes_available = refl;
  prebound_by_a_user_becomes_available = refl;
  available_is_dropped = refl;
  claim_that_is_not_seen_is_read = refl;
  claim_of_another_uid_is_read = refl;
  released_is_dropped = refl;
  claim_that_names_none_is_queued = refl;
  claim_that_names_it_marks_it = refl;
  bound_is_dropped = refl;
  claim_elsewhere_unbinds_it = refl;
  claim_elsewhere_releases_reclaimed = refl;
}

pub claim_examples : ClaimExamples
unfolding claim_decision next_write claim_write
claim_examples = record {
  volume_that_is_not_seen_is_read = refl;
  volume_of_another_claim_is_read = refl;
  completed_without_a_name_is_lost = refl;
  bound_claim_is_dropped = refl;
  claim_without_a_match_is_dropped = refl;
}
