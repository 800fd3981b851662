use Rattle.std.proofs.Common.{subst}
use Rattle.licence_record.specs.Defaulted.{IsDefaultNamed}
use Rattle.evidence_judge.proofs.evidence.EvidenceRecord.is_default.Goals as goal

pub returns : goal.returns
returns c = ((λ told. subst (λ mine. IsDefaultNamed mine c.args.name.now) c.self.view_is (c.shows_default.ensures _ c.self.invariant.0 told)), (λ known row. absurd known))
