-- What protection begins on a key, computed.
use Rattle.std.proofs.Common.{refl}
use Rattle.machine_examples.specs.Guard.Beginnings.{BeginExamples}

pub begin_examples : BeginExamples
begin_examples = record {
  bare_claim_gets_it = refl;
  bare_claim_in_use_gets_it = refl;
  guarded_claim_is_left = refl;
  leaving_claim_has_its_pods_listed = refl;
  waiting_pod_does_not_count = refl;
  leaving_claim_in_use_is_left = refl;
  leaving_claim_without_it_is_left = refl;
  volume_is_no_claim = refl;
  bare_volume_gets_it = refl;
  guarded_volume_is_left = refl;
  leaving_volume_loses_it = refl;
  leaving_bound_volume_is_left = refl;
  leaving_volume_without_it_is_left = refl;
  absent_volume_is_left = refl;
}
