use Rattle.script_runs.proofs.Computed.{budgets}
use Rattle.script_runs.proofs.examples.budget_examples.Goals as goal

pub returns : goal.returns
returns c = budgets
