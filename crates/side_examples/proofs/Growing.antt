-- Which claims grow, computed.
use Rattle.std.proofs.Common.{refl}
use Rattle.std.specs.Fmt.{digits}
use Rattle.std.specs.Str.{is_utf8, chars}
use Rattle.serde_json.proofs.OnLiterals.{serde_json_on_literals}
use Rattle.side_examples.specs.Growing.{FaultExamples, LetsExamples, RowExamples}

pub lets_examples : LetsExamples
unfolding serde_json_on_literals digits is_utf8 chars
lets_examples = record {
  true_lets = refl;
  among_others = refl;
  not_false = refl;
  not_a_text = refl;
  no_member = refl;
  nothing = refl;
}

pub fault_examples : FaultExamples
unfolding serde_json_on_literals digits is_utf8 chars
fault_examples = record {
  grows = refl;
  to_the_same = refl;
  over = refl;
  absent = refl;
  volume = refl;
  deleting_claim = refl;
  pending = refl;
  lost = refl;
  not_completed = refl;
  no_volume = refl;
  names_none = refl;
  anothers = refl;
  given_nothing = refl;
  given_less = refl;
  static = refl;
  class = refl;
  no_class = refl;
  smaller = refl;
  smaller_than_grown = refl;
  deleting_before_class = refl;
  bound_before_static = refl;
  static_before_class = refl;
  class_before_smaller = refl;
}

pub row_examples : RowExamples
unfolding serde_json_on_literals digits is_utf8 chars
row_examples = record {
  first = refl;
  later = refl;
  within = refl;
  over = refl;
}
