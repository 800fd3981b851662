use Rattle.extended_laws.proofs.extended_gives.Goals as goal
use Rattle.extended_laws.proofs.Reading.{extended_gives}

pub returns : goal.returns
returns c = extended_gives
