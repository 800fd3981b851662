use Rattle.replay_laws.proofs.Settles.Given.{given_drains_settle}
use Rattle.replay_laws.proofs.settles_laws.given_drains_settle.Goals as goal

-- by what a text gives
pub returns : goal.returns
returns c = given_drains_settle
