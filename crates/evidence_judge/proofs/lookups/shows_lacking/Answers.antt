use Rattle.std.proofs.Common.{◌∙◌, subst}
use Rattle.binder_model.specs.Reading.{LacksUid}
use Rattle.evidence_judge.proofs.lookups.shows_lacking.Goals as goal

pub returns : goal.returns
returns c = λ mine index told. subst (λ o. LacksUid o c.args.uid) (c.row.ensures.object ∙ (index.known c.if-not-index.false).rows c.args.key.now) (c.lacks_uid.ensures.0 told)
