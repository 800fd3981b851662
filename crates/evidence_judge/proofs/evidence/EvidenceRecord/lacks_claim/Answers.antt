use Rattle.std.proofs.Common.{subst}
use Rattle.binder_model.specs.Reading.{LacksUid}
use Rattle.binder_model.specs.Told.{newest, object_of}
use Rattle.evidence_judge.proofs.evidence.EvidenceRecord.lacks_claim.Goals as goal

pub returns : goal.returns
returns c = ((λ told. subst (λ mine. LacksUid (object_of (newest mine c.args.key.now)) c.args.uid) c.self.view_is (c.shows_lacking.ensures _ c.self.invariant.0 told)), (λ known row. absurd known))
