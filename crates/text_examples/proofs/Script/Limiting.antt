-- Limits, computed.
use Rattle.std.proofs.Common.{refl}
use Rattle.std.specs.Str.{is_utf8, chars}
use Rattle.serde_json.proofs.OnLiterals.{serde_json_on_literals}
use Rattle.script_text.specs.Grammar.{and_filled, and_line}
use Rattle.script_text.specs.LineReaders.{meaning_of}
use Rattle.text_examples.specs.Script.Limits.{LimitExamples}

pub limit_examples : LimitExamples
unfolding meaning_of and_line and_filled is_utf8 chars serde_json_on_literals
limit_examples = record {
  pools = refl;
  too_many_pools = refl;
  faults = refl;
  too_many_faults = refl;
  nodes = refl;
  too_many_nodes = refl;
  objects = refl;
  too_many_objects = refl;
  a_get_is_no_object = refl;
  imports = refl;
  too_many_imports = refl;
  a_create_after_imports = refl;
  a_create_after_too_many = refl;
  a_node_of_an_imported_pod = refl;
  too_many_nodes_of_imports = refl;
  a_pod_on_no_node = refl;
  a_created_pod_counts_for_no_node = refl;
  too_many_nodes_with_a_created_one = refl;
  losses = refl;
  too_many_losses = refl;
  losses_of_another_actor = refl;
  restarts = refl;
  too_many_restarts = refl;
  turns = refl;
  too_many_turns = refl;
  the_last_line = refl;
  too_many_lines = refl;
  a_later_blank_line = refl;
  long_line = refl;
  too_long_line = refl;
}
