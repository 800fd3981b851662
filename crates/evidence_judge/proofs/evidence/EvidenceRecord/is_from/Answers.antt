use Rattle.std.proofs.Common.{subst}
use Rattle.binder_model.specs.Reading.{IsFrom, following_of}
use Rattle.evidence_judge.proofs.evidence.EvidenceRecord.is_from.Goals as goal

pub returns : goal.returns
returns c = (
  (λ told. subst (λ mine. IsFrom c.args.from (following_of mine c.args.kind)) c.self.view_is
      (c.shows_from.ensures _ c.self.invariant.0 c.self.invariant.2 told)),
  (λ known row. absurd known),
)
