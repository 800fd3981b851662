use Rattle.history_laws.proofs.Read.ReadGives.{read_is_only}
use Rattle.history_laws.proofs.read_laws.read_is_only.Goals as goal

pub returns : goal.returns
returns c = read_is_only
