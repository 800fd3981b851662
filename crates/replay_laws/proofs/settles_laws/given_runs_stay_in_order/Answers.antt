use Rattle.replay_laws.proofs.Settles.Given.{given_runs_stay_in_order}
use Rattle.replay_laws.proofs.settles_laws.given_runs_stay_in_order.Goals as goal

-- of the rows of each world
pub returns : goal.returns
returns c = given_runs_stay_in_order
