-- What lines mean, computed.
use Rattle.std.proofs.Common.{refl}
use Rattle.std.specs.Fmt.{digits}
use Rattle.std.specs.Str.{is_utf8, chars}
use Rattle.serde_json.proofs.OnLiterals.{serde_json_on_literals}
use Rattle.quantity_text.specs.Quantity.{amount_of, refuse, unsigned_amount, scale_of, scaled, has_too_many_digits, value_of}
use Rattle.kube_parts.specs.Uids.{uid_of_text}
use Rattle.object_text.specs.ExtraMembers.{extra_at}
use Rattle.object_text.specs.KindReaders.{node_of}
use Rattle.object_text.specs.Listing.{item_of}
use Rattle.object_text.specs.MetaReaders.{identity_at, marks_at, meta_of}
use Rattle.object_text.specs.Reading.{kind_at, object_of}
use Rattle.script_lines.specs.Members.{edit_at, key_at, two_texts_in}
use Rattle.script_text.specs.LineReaders.{create_line, delete_line, edit_line, fault_line, get_line, list_line, lose_line, meaning_of, pool_line, restart_line, time_line, turn_line, update_line}
use Rattle.text_examples.specs.Script.Lines.{CallExamples, EditExamples, SetupExamples, ActorExamples}

pub call_examples : CallExamples
unfolding meaning_of create_line update_line delete_line get_line list_line time_line key_at item_of object_of kind_at node_of meta_of identity_at
    marks_at extra_at uid_of_text is_utf8 chars serde_json_on_literals
call_examples = record {
  creates = refl;
  creates_as_user_four = refl;
  no_fifth_user = refl;
  no_user_zero = refl;
  updates_whatever_stands = refl;
  updates_one_version = refl;
  gets = refl;
  gets_from_default = refl;
  namespace_of_a_node_is_dropped = refl;
  gets_no_other_kind = refl;
  gets_no_name = refl;
  deletes = refl;
  deletes_no_other_uid = refl;
  lists = refl;
  lists_all_namespaces = refl;
  tells_the_time = refl;
  tells_no_time = refl;
}

pub edit_examples : EditExamples
unfolding meaning_of edit_line key_at edit_at two_texts_in is_utf8 chars serde_json_on_literals
edit_examples = record {
  adds_a_finalizer = refl;
  sets_a_label = refl;
  sets_no_half_a_label = refl;
  drops_a_finalizer = refl;
  drops_a_label = refl;
  drops_an_annotation = refl;
  sets_an_annotation = refl;
  sets_a_volume_name = refl;
  sets_a_reference = refl;
  sets_a_policy = refl;
  sets_no_other_policy = refl;
  clears_the_reference = refl;
  does_not_unclear_it = refl;
  one_edit_at_least = refl;
  one_edit_at_most = refl;
}

pub setup_examples : SetupExamples
unfolding meaning_of pool_line fault_line amount_of refuse unsigned_amount scale_of scaled has_too_many_digits value_of digits is_utf8 chars serde_json_on_literals
setup_examples = record {
  pools = refl;
  pools_by_a_number = refl;
  pools_with_a_topology = refl;
  no_half_a_topology = refl;
  no_other_size = refl;
  faults = refl;
  no_greater_fault = refl;
}

pub actor_examples : ActorExamples
unfolding meaning_of lose_line restart_line turn_line is_utf8 chars serde_json_on_literals
actor_examples = record {
  loses_before = refl;
  loses_after = refl;
  loses_at_no_other_time = refl;
  no_agent_of_another_node = refl;
  no_fifth_worker = refl;
  restarts = refl;
  restarts_after_a_call = refl;
  turns = refl;
  turns_no_longer = refl;
  drains = refl;
  other_members_are_not_looked_at = refl;
}
