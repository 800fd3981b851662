use Rattle.history_laws.proofs.Read.ReadGives.{read_gives}
use Rattle.history_laws.proofs.read_laws.read_gives.Goals as goal

pub returns : goal.returns
returns c = read_gives
