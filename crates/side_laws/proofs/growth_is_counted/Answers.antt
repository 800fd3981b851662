use Rattle.side_laws.proofs.Counts.{growth_is_counted}
use Rattle.side_laws.proofs.growth_is_counted.Goals as goal

pub returns : goal.returns
returns c = growth_is_counted
