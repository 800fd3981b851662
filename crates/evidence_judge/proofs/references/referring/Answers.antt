use Rattle.evidence_pages.specs.Parts.{Begins}
use Rattle.evidence_judge.proofs.references.referring.Goals as goal

pub returns-in-None : goal.returns-in-None
returns-in-None c = λ mine index. Begins
