use Rattle.evidence_judge.proofs.lookups.is_class_named.Goals as goal

pub returns : goal.returns
returns c = λ told. (c.is_unplaced.ensures.0 c.if-not-is_unplaced.false, c.has_name.ensures.0 told)
