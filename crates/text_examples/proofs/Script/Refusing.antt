-- Why lines are refused, computed.
use Rattle.std.proofs.Common.{refl}
use Rattle.std.specs.Str.{is_utf8, chars}
use Rattle.serde_json.proofs.OnLiterals.{serde_json_on_literals}
use Rattle.binder_model.specs.Fields.{create_fault, faulty, kind_fault}
use Rattle.binder_model.specs.Imports.{fault_if, fault_of_field, import_fault}
use Rattle.object_text.specs.ExtraMembers.{extra_at}
use Rattle.object_text.specs.KindReaders.{node_of, volume_of, volume_spec_of, volume_shape}
use Rattle.object_text.specs.Listing.{item_of}
use Rattle.object_text.specs.MetaReaders.{identity_at, marks_at, meta_of}
use Rattle.object_text.specs.Reading.{kind_at, object_of}
use Rattle.script_lines.specs.Members.{key_at}
use Rattle.script_text.specs.Grammar.{and_filled, and_line, own_object, read_numbered_of}
use Rattle.script_text.specs.LineReaders.{create_line, fault_line, get_line, import_line, lose_line, meaning_of, restart_line}
use Rattle.script_text.specs.Said.{numbered_of}
use Rattle.object_text.specs.PartReaders.{quantity_at}
use Rattle.quantity_text.specs.Quantity.{amount_of, refuse, unsigned_amount, scale_of}
use Rattle.std.specs.Fmt.{digits}
use Rattle.script_lines.specs.Refusals.{refusal_line, reason_text}
use Rattle.text_examples.specs.Script.Refusals.{PrintedExamples, ReasonExamples, OrderExamples, AgainExamples, ImportExamples, PlaceExamples}

pub reason_examples : ReasonExamples
unfolding meaning_of create_line item_of object_of kind_at node_of volume_of volume_spec_of volume_shape quantity_at amount_of refuse unsigned_amount
    scale_of meta_of identity_at marks_at extra_at is_utf8 chars serde_json_on_literals
reason_examples = record {
  no_json = refl;
  no_object = refl;
  no_verb = refl;
  null_is_no_verb = refl;
  verb_of_another_type = refl;
  another_verb = refl;
  object_that_is_a_text = refl;
  object_with_a_part_of_a_number = refl;
  manifest_of_another_kind = refl;
  manifest_without_a_size = refl;
  manifest_without_a_name = refl;
}

pub order_examples : OrderExamples
unfolding meaning_of get_line lose_line key_at is_utf8 chars serde_json_on_literals
order_examples = record {
  the_last_of_two_verbs_counts = refl;
  kind_before_namespace = refl;
  namespace_before_name = refl;
  name_before_user = refl;
  actor_before_call = refl;
  call_before_when = refl;
}

pub again_examples : AgainExamples
unfolding meaning_of fault_line lose_line restart_line is_utf8 chars serde_json_on_literals
again_examples = record {
  no_fault_twice = refl;
  another_fault = refl;
  no_call_is_lost_twice = refl;
  a_restart_has_its_own_numbers = refl;
}

pub import_examples : ImportExamples
unfolding meaning_of import_line import_fault fault_if fault_of_field create_fault faulty kind_fault item_of object_of kind_at node_of meta_of
    identity_at marks_at extra_at is_utf8 chars serde_json_on_literals
import_examples = record {
  none_without_a_uid = refl;
  lost_calls_may_come_before = refl;
  no_call_comes_before = refl;
  members_come_first = refl;
  passes = refl;
  the_name_comes_before_the_uid = refl;
}

pub place_examples : PlaceExamples
unfolding meaning_of and_line and_filled own_object read_numbered_of numbered_of is_utf8 chars serde_json_on_literals
place_examples = record {
  blank_lines_count = refl;
  the_first_line_at_fault = refl;
}

pub printed_examples : PrintedExamples
unfolding refusal_line reason_text digits
printed_examples = record {
  with_its_member = refl;
  with_none = refl;
  with_a_field = refl;
  with_that_of_the_manifest = refl;
}
