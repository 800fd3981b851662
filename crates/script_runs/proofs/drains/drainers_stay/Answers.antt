use Rattle.script_runs.proofs.Draining.{all_lines_keep_drainers, drains_keep_drainers, lines_keep_drainers, new_ones_are_drainers}
use Rattle.script_runs.proofs.drains.drainers_stay.Goals as goal

pub returns-clause-new : goal.returns-clause-new
returns-clause-new c = new_ones_are_drainers

pub returns-clause-drain : goal.returns-clause-drain
returns-clause-drain c = drains_keep_drainers

pub returns-clause-line : goal.returns-clause-line
returns-clause-line c = lines_keep_drainers

pub returns-clause-lines : goal.returns-clause-lines
returns-clause-lines c = all_lines_keep_drainers
