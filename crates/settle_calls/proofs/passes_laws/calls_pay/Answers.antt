use Rattle.settle_calls.proofs.Passes.Told.{calls_pay}
use Rattle.settle_calls.proofs.passes_laws.calls_pay.Goals as goal

-- by what was given
pub returns : goal.returns
returns c = calls_pay
