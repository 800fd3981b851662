use Rattle.std.proofs.Common.{◌∙◌, sym, map, string_bytes, Global}
use Rattle.command_words.proofs.Parsing.{passed_up}
use Rattle.command_words.proofs.reading.read_words.Goals as goal

pub returns-in_err-matches : goal.returns-in_err-matches
returns-in_err-matches c = passed_up (map (string_bytes {Z = Global}) c.args.words.now) c.from_residual.result c.in_err-matches.field-0.0 c.from_residual.ensures.1 c.in_err-matches.ensures

pub returns-in-Some : goal.returns-in-Some
returns-in-Some c = c.in_ok-matches.ensures ∙ sym c.in-Some.ensures

pub returns : goal.returns
returns c = c.in_ok-matches.ensures ∙ sym c.in-None.ensures
