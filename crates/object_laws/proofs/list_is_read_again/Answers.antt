use Rattle.object_laws.proofs.Again.{list_is_read_again as law}
use Rattle.object_laws.proofs.list_is_read_again.Goals as goal

pub returns : goal.returns
returns c = law
