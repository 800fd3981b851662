-- What the side answers, computed.
use Rattle.std.proofs.Common.{refl}
use Rattle.std.specs.Fmt.{digits}
use Rattle.std.specs.Str.{is_utf8, chars}
use Rattle.serde_json.proofs.OnLiterals.{serde_json_on_literals}
use Rattle.side_examples.specs.Sides.{AfterExamples, CountedExamples, HeldExamples, ReplyExamples}

pub counted_examples : CountedExamples
counted_examples = record {
  request = refl;
  grown = refl;
  nothing = refl;
  first = refl;
  rows = refl;
}

pub held_examples : HeldExamples
held_examples = record {
  passes = refl;
  bytes = refl;
  claims = refl;
  growth = refl;
  elsewhere = refl;
  node = refl;
}

pub reply_examples : ReplyExamples
unfolding serde_json_on_literals digits is_utf8 chars
reply_examples = record {
  held = refl;
  passes = refl;
  done = refl;
  absent = refl;
  over = refl;
  step = refl;
  other_kind = refl;
  other_key = refl;
  no_step = refl;
}

pub after_examples : AfterExamples
unfolding serde_json_on_literals digits is_utf8 chars
after_examples = record {
  held = refl;
  grown = refl;
  refused = refl;
  step = refl;
}
