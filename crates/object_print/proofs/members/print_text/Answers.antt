use Rattle.std.proofs.Common.{◌∙◌}
use Rattle.serde_json.specs.Data.{string}
use Rattle.json_text.specs.Writing.{written}
use Rattle.json_text.proofs.Closing.{alone}
use Rattle.object_print.proofs.members.print_text.Goals as goal

pub returns : goal.returns
returns c = c.into_bytes.ensures ∙ alone (written c.text.new.self) (string c.args.text.now) (rw c.in_ok-out.ensures at c.in_ok-text.ensures.ok)
