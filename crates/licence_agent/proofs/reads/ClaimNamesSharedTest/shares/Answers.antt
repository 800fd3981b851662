use Rattle.std.proofs.Common.{reverse}
use Rattle.licence_agent.proofs.Mounts.{taken_alike}
use Rattle.licence_agent.proofs.reads.ClaimNamesSharedTest.shares.Goals as goal

pub returns : goal.returns
returns c object other = taken_alike (reverse c.args.self.now.mine.now) object other
