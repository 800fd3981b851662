use Rattle.evidence_pages.proofs.Reading.{from_by}
use Rattle.evidence_judge.proofs.Listed.{listed_from}
use Rattle.evidence_judge.proofs.lookups.shows_from.Goals as goal

pub returns-then-has : goal.returns-then-has
returns-then-has c = λ mine index lists told. listed_from c.args.lists.now mine c.args.kind c.args.from lists (c.has.ensures c.if-has.true)

pub returns : goal.returns
returns c = λ mine index lists told. from_by _ mine c.args.kind _ c.args.from c.ask.ensures (c.is_ask.ensures.0 told) (index.known c.if-not-index.false)
