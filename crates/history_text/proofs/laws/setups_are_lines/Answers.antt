use Rattle.history_text.proofs.LineLaws.{setups_are_lines}
use Rattle.history_text.proofs.laws.setups_are_lines.Goals as goal

pub returns : goal.returns
returns c = setups_are_lines
