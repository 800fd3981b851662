use Rattle.std.proofs.Common.{subst}
use Rattle.binder_model.specs.Licence.{AreOfKind}
use Rattle.evidence_judge.proofs.evidence.EvidenceRecord.is_of_kind.Goals as goal

pub returns : goal.returns
returns c = ((λ told. subst (λ mine. AreOfKind c.args.kind mine) c.self.view_is (c.is_kind_of.ensures _ c.self.invariant.0 told)), (λ known row. absurd known))
