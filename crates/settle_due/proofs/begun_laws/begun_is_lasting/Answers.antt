use Rattle.settle_due.proofs.Begun.Passing.{begun_is_lasting}
use Rattle.settle_due.proofs.begun_laws.begun_is_lasting.Goals as goal

-- what they begin lasts where its calls pass
pub returns : goal.returns
returns c = begun_is_lasting
