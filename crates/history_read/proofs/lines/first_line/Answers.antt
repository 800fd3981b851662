use Rattle.history_read.proofs.FirstLine.{line_found, line_alone}
use Rattle.history_read.proofs.lines.first_line.Goals as goal

pub returns-in-Some-clause-lines : goal.returns-in-Some-clause-lines
returns-in-Some-clause-lines c = line_found c.args.text.now c.in-Some.place c.in-Some.ensures.0 c.in-Some.ensures.1

pub returns-in-None-clause-lines : goal.returns-in-None-clause-lines
returns-in-None-clause-lines c = line_alone c.args.text.now c.requires c.in-None.ensures
