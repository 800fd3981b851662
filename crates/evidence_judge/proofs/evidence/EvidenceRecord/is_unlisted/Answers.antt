use Rattle.std.proofs.Common.{subst}
use Rattle.binder_model.specs.Reading.{IsUnlisted, following_of}
use Rattle.evidence_judge.proofs.evidence.EvidenceRecord.is_unlisted.Goals as goal

pub returns : goal.returns
returns c = ((λ told. subst (λ mine. IsUnlisted (following_of mine c.args.kind)) c.self.view_is (c.shows_unlisted.ensures _ c.self.invariant.0 told)), (λ known row. absurd known))
