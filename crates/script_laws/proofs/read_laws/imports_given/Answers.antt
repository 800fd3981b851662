use Rattle.script_laws.proofs.Read.Imports.{imports_given as law}
use Rattle.script_laws.proofs.read_laws.imports_given.Goals as goal

pub returns : goal.returns
returns c = law
