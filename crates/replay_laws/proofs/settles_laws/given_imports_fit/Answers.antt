use Rattle.replay_laws.proofs.Settles.Given.{given_imports_fit}
use Rattle.replay_laws.proofs.settles_laws.given_imports_fit.Goals as goal

-- of each import
pub returns : goal.returns
returns c = given_imports_fit
