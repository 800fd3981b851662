use Rattle.script_laws.proofs.Generated.Whole.{generated_is_script as law}
use Rattle.script_laws.proofs.generated_laws.generated_is_script.Goals as goal

pub returns : goal.returns
returns c = law
