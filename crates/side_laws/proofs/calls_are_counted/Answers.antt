use Rattle.side_laws.proofs.Points.{calls_are_counted}
use Rattle.side_laws.proofs.calls_are_counted.Goals as goal

pub returns : goal.returns
returns c = calls_are_counted
