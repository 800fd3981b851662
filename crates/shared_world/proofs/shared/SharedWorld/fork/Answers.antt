use Rattle.std.proofs.Common.{refl}
use Rattle.shared_world.proofs.Calling.{forked}
use Rattle.shared_world.proofs.shared.SharedWorld.fork.Goals as goal

pub returns-clause-mine : goal.returns-clause-mine
returns-clause-mine c = forked c.args.self.now c.args.pass.now c.fork.result refl c.requires.pass.3 c.fork.ensures.new.8
