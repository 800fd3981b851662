use Rattle.script_runs.proofs.Draining.{calls_leave_entries, drains_come_to}
use Rattle.script_runs.proofs.drains.drains_come_to.Goals as goal

pub returns-clause-come : goal.returns-clause-come
returns-clause-come c = drains_come_to

pub returns-clause-entries : goal.returns-clause-entries
returns-clause-entries c = calls_leave_entries
