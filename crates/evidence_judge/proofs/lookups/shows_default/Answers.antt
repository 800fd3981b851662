use Rattle.evidence_judge.proofs.lookups.shows_default.Goals as goal

pub returns : goal.returns
returns c = λ mine index told. c.has_default.ensures mine (index.known c.if-not-index.false) told
