use Rattle.side_laws.proofs.Points.{asks_count_alike}
use Rattle.side_laws.proofs.asks_count_alike.Goals as goal

pub returns : goal.returns
returns c = asks_count_alike
