use Rattle.std.proofs.Common.{reverse}
use Rattle.licence_agent.proofs.Mounts.{names_claim}
use Rattle.licence_agent.proofs.reads.is_named.Goals as goal

pub returns : goal.returns
returns c = names_claim (reverse c.args.mine.now) c.args.key.now _ c.told_shared.ensures
