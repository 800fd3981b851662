-- What texts are, computed.
use Rattle.std.proofs.Common.{refl}
use Rattle.std.specs.Str.{is_utf8, chars}
use Rattle.serde_json.proofs.OnLiterals.{serde_json_on_literals}
use Rattle.object_text.specs.ExtraMembers.{extra_at}
use Rattle.object_text.specs.KindReaders.{node_of, pod_of}
use Rattle.object_text.specs.Listing.{item_of}
use Rattle.object_text.specs.MetaReaders.{identity_at, marks_at, meta_of}
use Rattle.object_text.specs.PartReaders.{claims_at}
use Rattle.object_text.specs.Reading.{kind_at, object_of}
use Rattle.script_text.specs.Grammar.{and_filled, and_line, own_object, read_numbered_of}
use Rattle.script_text.specs.LineReaders.{create_line, fault_line, meaning_of, turn_line}
use Rattle.script_text.specs.Said.{numbered_of}
use Rattle.text_examples.specs.Script.Texts.{TextExamples}

pub text_examples : TextExamples
unfolding meaning_of create_line fault_line turn_line item_of object_of kind_at node_of pod_of meta_of identity_at marks_at extra_at and_line
    and_filled own_object read_numbered_of numbered_of is_utf8 chars serde_json_on_literals claims_at
text_examples = record {
  empty = refl;
  the_last_line_feed_may_lack = refl;
  faults_rise = refl;
  blank_lines_have_numbers = refl;
  the_node_may_come_later = refl;
  the_node_may_be_that_of_an_imported_pod = refl;
  not_that_of_a_created_pod = refl;
}
