use Rattle.side_laws.proofs.Points.{first_is_counted}
use Rattle.side_laws.proofs.first_is_counted.Goals as goal

pub returns : goal.returns
returns c = first_is_counted
