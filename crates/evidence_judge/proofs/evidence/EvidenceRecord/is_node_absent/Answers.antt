use Rattle.std.proofs.Common.{subst}
use Rattle.binder_model.specs.ObjectKeys.{node_key}
use Rattle.binder_model.specs.Told.{IsNewestAbsent}
use Rattle.evidence_judge.proofs.evidence.EvidenceRecord.is_node_absent.Goals as goal

pub returns : goal.returns
returns c = ((λ told. subst (λ mine. IsNewestAbsent mine (node_key c.args.name.now)) c.self.view_is (c.shows_absent.ensures _ c.self.invariant.0 told)), (λ known row. absurd known))
