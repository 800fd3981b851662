-- Steps and rows of growth, computed.
use Rattle.std.proofs.Common.{refl, arith}
use Rattle.std.specs.Ordering.{is_eq, is_gt}
use Rattle.model_examples.proofs.Tellings.{differ}
use Rattle.side_examples.specs.Sizes.{GrowthExamples, LeavingExamples, StepExamples}

pub step_examples : StepExamples
step_examples = record {
  stored = refl;
  not_free = refl;
  volume = refl;
  given = refl;
  whole = refl;
  goes_on = refl;
  less = refl;
  first = refl;
  second = refl;
  taken = refl;
  none = refl;
  made = refl;
  not_made = refl;
}

pub growth_examples : GrowthExamples
growth_examples = record {
  holds = record { order = (tt, tt); turns = (record { given = omega arith; volume = omega arith; first = omega arith }, tt); few = omega arith };
  nothing = record { order = tt; turns = tt; few = omega arith };
  taken = refl;
  given_more = λ h. let n = h.turns.0.given in omega (arith, n);
  volume_more = λ h. let n = h.turns.0.volume in omega (arith, n);
  fell = λ h. let n = h.turns.0.first in omega (arith, n);
  too_much = λ h. let n = h.few in omega (arith, n);
  other_order = λ h. differ is_gt h.order.0.0 refl refl;
  twice = λ h. differ is_eq h.order.0.0 refl refl;
}

pub leaving_examples : LeavingExamples
leaving_examples = record {
  left = refl;
  other = refl;
  volume = refl;
  written = refl;
  found = refl;
  not_found = refl;
}
