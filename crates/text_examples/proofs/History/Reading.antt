-- What lines and texts are, computed.
use Rattle.std.proofs.Common.{refl}
use Rattle.std.specs.Fmt.{digits}
use Rattle.std.specs.Str.{is_utf8, chars}
use Rattle.json.specs.Print.{escape_byte}
use Rattle.serde_json.proofs.OnLiterals.{serde_json_on_literals}
use Rattle.uuid.specs.Text.{by_index}
use Rattle.json_text.specs.Build.{put_some}
use Rattle.json_text.specs.Members.{extra_members}
use Rattle.kube_parts.specs.Uids.{uid_of_text, uid_text}
use Rattle.object_print.specs.Metadata.{meta_data}
use Rattle.object_print.specs.Objects.{node_data, object_data}
use Rattle.object_text.specs.ExtraMembers.{extra_at}
use Rattle.object_text.specs.KindReaders.{node_of}
use Rattle.object_text.specs.MetaReaders.{identity_at, marks_at, meta_of}
use Rattle.object_text.specs.Reading.{kind_at, object_of}
use Rattle.binder_model.specs.Fields.{create_fault, faulty, kind_fault}
use Rattle.binder_model.specs.Imports.{fault_if, fault_of_field, import_fault}
use Rattle.history_text.specs.Requests.{request_data}
use Rattle.history_text.specs.Replies.{reply_data}
use Rattle.history_text.specs.Entries.{entry_data, entry_line, pool_data, setup_data, setup_line}
use Rattle.history_lines.specs.Requests.{request_in}
use Rattle.history_lines.specs.Replies.{reply_in}
use Rattle.history_lines.specs.Entries.{entry_in, entry_of, pool_in, parts_in, setup_in, setup_of}
use Rattle.history_read.specs.Grammar.{lines_of}
use Rattle.history_read.specs.Refusals.{refusal_line}
use Rattle.text_examples.specs.History.Lines.{SetupExamples, EntryExamples}
use Rattle.text_examples.specs.History.Texts.{TextExamples, PrintedExamples}

pub setup_examples : SetupExamples
unfolding setup_of setup_in parts_in pool_in setup_line setup_data pool_data put_some escape_byte digits is_utf8 chars object_of kind_at node_of
    meta_of identity_at marks_at extra_at import_fault fault_if fault_of_field create_fault kind_fault faulty uid_of_text uid_text by_index
    object_data node_data meta_data extra_members serde_json_on_literals
setup_examples = record {
  nothing = refl;
  a_pool_and_faults = refl;
  faults_that_fall = refl;
  another_order_of_members = refl;
  imports_that_are_empty = refl;
  an_import = refl;
  an_import_without_a_uid = refl;
  a_name_imported_twice = refl;
  a_line_of_an_import = refl;
  a_line_of_an_import_without_a_uid = refl;
  a_blank = refl;
}

pub entry_examples : EntryExamples
unfolding entry_of entry_in request_in reply_in entry_line entry_data request_data reply_data put_some escape_byte digits is_utf8 chars object_of
    kind_at node_of meta_of identity_at marks_at extra_at object_data node_data meta_data extra_members serde_json_on_literals
entry_examples = record {
  takes_a_node = refl;
  lists = refl;
  is_refused = refl;
  creates = refl;
  another_order_of_members = refl;
  a_member_more = refl;
  no_member_told = refl;
  an_empty_namespace = refl;
  another_word = refl;
}

pub text_examples : TextExamples
unfolding lines_of setup_of setup_in parts_in setup_line setup_data entry_of entry_in request_in reply_in entry_line entry_data request_data
    reply_data put_some escape_byte digits is_utf8 chars serde_json_on_literals
text_examples = record {
  no_entries = refl;
  the_last_line_feed_may_lack = refl;
  what_follows_is_not_looked_at = refl;
  one_entry = refl;
  nothing = refl;
  no_setup_at_all = refl;
  no_end = refl;
  no_end_and_no_line_feed = refl;
  ends_within_a_line = refl;
  more_behind_the_word = refl;
  an_empty_line = refl;
  the_first_line_at_fault = refl;
}

pub printed_examples : PrintedExamples
unfolding refusal_line digits
printed_examples = record {
  not_canonical = refl;
  missing_end = refl;
}
