use Rattle.evidence_pages.specs.Parts.{Begins}
use Rattle.evidence_pages.proofs.pages.entries_of_some.Goals as goal

pub returns-in-None : goal.returns-in-None
returns-in-None c = λ mine all. Begins
