use Rattle.attention_law.proofs.Stepping.{begun}
use Rattle.attention_law.proofs.steps.restart.Goals as goal

pub returns : goal.returns
returns c = begun c.args.actor.now.role c.restart.new.self c.restart.ensures.is c.restart.ensures.stands
