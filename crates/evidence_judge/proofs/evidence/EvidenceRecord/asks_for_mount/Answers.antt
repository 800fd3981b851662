use Rattle.std.proofs.Common.{reverse, ◌∙◌, ap, subst}
use Rattle.binder_model.specs.Reading.{AsksForMount}
use Rattle.evidence_judge.proofs.evidence.EvidenceRecord.asks_for_mount.Goals as goal

pub returns : goal.returns
returns c = ((λ told. subst (λ mine. AsksForMount mine c.args.key.now) (ap reverse c.as_slice.ensures ∙ c.self.view_is) (c.shows_read.ensures told)), (λ known row. absurd known))
