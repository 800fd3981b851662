use Rattle.replay_laws.proofs.Printable.Setups.{script_setups_give}
use Rattle.replay_laws.proofs.printable_laws.script_setups_give.Goals as goal

pub returns : goal.returns
returns c = script_setups_give
