-- What counts against quotas, and what they allow, computed.
use Rattle.std.proofs.Common.{refl, arith, ◌+◌, ◌<◌}
use Rattle.std.specs.Prelude.{◌^◌}
use Rattle.std.specs.Ordering.{is_eq, is_gt}
use Rattle.model_examples.proofs.Tellings.{differ}
use Rattle.side_examples.specs.Samples.{gibi}
use Rattle.side_examples.specs.Quotas.{GrownInExamples, NotedExamples, UsedExamples}

pub noted_examples : NotedExamples
noted_examples = record {
  created = refl;
  elsewhere = refl;
  written = refl;
  again = refl;
  left = refl;
  left_elsewhere = refl;
  found = refl;
  refused = refl;
  class = refl;
  volume = refl;
  first = refl;
  ordered = ((refl, tt), (tt, tt));
  not_ordered = λ h. differ is_gt h.0.0 refl refl;
  not_twice = λ h. differ is_eq h.0.0 refl refl;
}

pub grown_in_examples : GrownInExamples
grown_in_examples = record {
  grown = refl;
  other_namespace = refl;
  other_uid = refl;
  room = let n : gibi 2 + gibi 5 < 2 ^ 64 = omega arith in n;
  no_room = λ h. let n : gibi 2 + 2 ^ 64 < 2 ^ 64 = h in omega (arith, n);
  no_claim = λ h. h;
}

pub used_examples : UsedExamples
used_examples = record {
  two_claims = refl;
  none = refl;
  quota_found = refl;
  no_quota = refl;
  last = refl;
  one_byte_more = refl;
  one_claim_more = refl;
  both = refl;
  no_limit = refl;
  nothing = refl;
  no_claim = refl;
  bytes = refl;
  over = refl;
  yes = refl;
  no = refl;
}
