-- Printed lines of the side, computed.
use Rattle.std.proofs.Common.{refl}
use Rattle.std.specs.Fmt.{digits}
use Rattle.std.specs.Str.{is_utf8, chars}
use Rattle.serde_json.proofs.OnLiterals.{serde_json_on_literals}
use Rattle.json.specs.Print.{escape_byte}
use Rattle.json_text.specs.Build.{put_some}
use Rattle.side_text.specs.Entries.{ask_data, reply_data, side_data}
use Rattle.side_text.specs.Output.{side_lines, size_line}
use Rattle.extended_examples.specs.Lines.{PrintedExamples}

pub printed_examples : PrintedExamples
unfolding side_data ask_data reply_data side_lines size_line put_some escape_byte digits is_utf8 chars serde_json_on_literals
printed_examples = record {
  grows = refl;
  by_another_user = refl;
  a_step = refl;
  more_than_64_bits = refl;
  too_many_claims = refl;
  sizes = refl;
  nothing_of_the_side = refl;
}
