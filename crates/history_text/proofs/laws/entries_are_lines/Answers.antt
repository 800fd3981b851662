use Rattle.history_text.proofs.LineLaws.{entries_are_lines}
use Rattle.history_text.proofs.laws.entries_are_lines.Goals as goal

pub returns : goal.returns
returns c = entries_are_lines
