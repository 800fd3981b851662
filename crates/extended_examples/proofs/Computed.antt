-- Extended scripts, computed.
use Rattle.std.proofs.Common.{refl}
use Rattle.std.specs.Str.{is_utf8, chars}
use Rattle.std.specs.Fmt.{digits}
use Rattle.serde_json.proofs.OnLiterals.{serde_json_on_literals}
use Rattle.quantity_text.specs.Quantity.{amount_of, refuse, unsigned_amount, scale_of, scaled, has_too_many_digits, value_of}
use Rattle.script_text.specs.Grammar.{and_filled, and_line, own_object, read_numbered_of}
use Rattle.script_text.specs.LineReaders.{fault_line, meaning_of, turn_line}
use Rattle.script_text.specs.Said.{numbered_of}
use Rattle.extended_text.specs.Extended.{extended_by, extended_of}
use Rattle.extended_text.specs.Sides.{and_word, grow_line, quota_line, reserve_line, side_in}
use Rattle.extended_examples.specs.Scripts.{FaultExamples, GrowExamples, LimitExamples, QuotaExamples, ReserveExamples, TextExamples}

pub quota_examples : QuotaExamples
unfolding side_in quota_line amount_of refuse unsigned_amount scale_of scaled has_too_many_digits value_of digits is_utf8 chars serde_json_on_literals
quota_examples = record {
  whole = refl;
  of_nothing = refl;
  any_text_is_a_namespace = refl;
  no_namespace = refl;
  no_bytes = refl;
  no_quantity = refl;
  a_fraction_of_bytes = refl;
  no_claims = refl;
  too_many_claims = refl;
  fewer_than_no_claims = refl;
  a_fraction_of_claims = refl;
  claims_as_a_text = refl;
  another_namespace = refl;
  twice_before_all_else = refl;
}

pub reserve_examples : ReserveExamples
unfolding side_in reserve_line amount_of refuse unsigned_amount scale_of scaled has_too_many_digits value_of digits is_utf8 chars serde_json_on_literals
reserve_examples = record {
  whole = refl;
  no_bytes = refl;
  twice = refl;
  its_bytes_come_before = refl;
}

pub grow_examples : GrowExamples
unfolding side_in grow_line amount_of refuse unsigned_amount scale_of scaled has_too_many_digits value_of digits is_utf8 chars serde_json_on_literals
grow_examples = record {
  whole = refl;
  by_default = refl;
  no_name = refl;
  namespace_before_name = refl;
  bytes_before_user = refl;
  no_such_user = refl;
}

pub limit_examples : LimitExamples
unfolding side_in and_word quota_line reserve_line amount_of refuse unsigned_amount scale_of scaled has_too_many_digits value_of digits is_utf8 chars serde_json_on_literals
limit_examples = record {
  quotas = refl;
  too_many_quotas = refl;
  its_faults_come_before = refl;
  the_last_line = refl;
  too_many_lines = refl;
  lines_before_quotas = refl;
}

pub fault_examples : FaultExamples
unfolding extended_of extended_by side_in and_word reserve_line grow_line amount_of refuse unsigned_amount scale_of scaled has_too_many_digits value_of digits meaning_of turn_line and_line
    and_filled own_object read_numbered_of numbered_of is_utf8 chars serde_json_on_literals
fault_examples = record {
  the_side_first = refl;
  the_script_first = refl;
  the_first_of_the_side = refl;
  an_unknown_word = refl;
  no_side_line_in_a_script = refl;
  twice_over_other_lines = refl;
}

pub text_examples : TextExamples
unfolding extended_of extended_by side_in and_word quota_line reserve_line grow_line amount_of refuse unsigned_amount scale_of scaled has_too_many_digits value_of digits meaning_of
    fault_line and_line and_filled own_object read_numbered_of numbered_of is_utf8 chars serde_json_on_literals
text_examples = record {
  empty = refl;
  places_are_among_the_lines_of_the_script = refl;
  nothing_is_left_of_a_side_line = refl;
  another_line_is_left = refl;
  what_is_no_object_is_left = refl;
}
