use Rattle.settle_calls.proofs.Passes.First.{first_calls_pay}
use Rattle.settle_calls.proofs.passes_laws.first_calls_pay.Goals as goal

-- by what was given
pub returns : goal.returns
returns c = first_calls_pay
