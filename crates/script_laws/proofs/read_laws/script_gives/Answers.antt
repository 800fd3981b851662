use Rattle.script_laws.proofs.Read.Again.{script_gives as law}
use Rattle.script_laws.proofs.read_laws.script_gives.Goals as goal

pub returns : goal.returns
returns c = law
