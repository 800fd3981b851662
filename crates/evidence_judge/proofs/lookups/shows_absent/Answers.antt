use Rattle.evidence_judge.proofs.lookups.shows_absent.Goals as goal

pub returns : goal.returns
returns c = λ mine index told. c.is_absent.ensures mine (index.known c.if-not-index.false) told
