use Rattle.evidence_pages.proofs.Reading.{unlisted_by}
use Rattle.evidence_judge.proofs.lookups.shows_unlisted.Goals as goal

pub returns : goal.returns
returns c = λ mine index told. unlisted_by _ mine c.args.kind _ c.ask.ensures (c.is_ask.ensures.0 told) (index.known c.if-not-index.false)
