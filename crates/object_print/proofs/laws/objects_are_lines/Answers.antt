use Rattle.object_print.proofs.LineLaws.{objects_are_lines}
use Rattle.object_print.proofs.laws.objects_are_lines.Goals as goal

pub returns : goal.returns
returns c = objects_are_lines
