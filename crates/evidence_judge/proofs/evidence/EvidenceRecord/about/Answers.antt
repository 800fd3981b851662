use Rattle.std.proofs.Common.{reverse, subst}
use Rattle.evidence_pages.specs.Parts.{IsPart}
use Rattle.evidence_judge.proofs.evidence.EvidenceRecord.about.Goals as goal

pub returns-clause-part : goal.returns-clause-part
returns-clause-part c = subst (λ mine. IsPart (reverse c.about.result.now) mine) c.self.view_is (c.about.ensures _ c.self.invariant.0)
