use Rattle.shared_world.proofs.Calling.{has_learnt}
use Rattle.shared_world.proofs.shared.SharedWorld.learn.Goals as goal

pub returns-clause-learnt : goal.returns-clause-learnt
returns-clause-learnt c = has_learnt c.args.pass.now c.learn.new.pass c.args.sight c.learn.ensures.learnt
