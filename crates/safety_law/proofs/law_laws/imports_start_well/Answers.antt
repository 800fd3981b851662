use Rattle.safety_law.proofs.Law.FirstWorld.{first_world_is_good}
use Rattle.safety_law.proofs.law_laws.imports_start_well.Goals as goal

pub returns : goal.returns
returns c = first_world_is_good
