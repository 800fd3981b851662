use Rattle.std.proofs.Common.{reverse}
use Rattle.evidence_agent.proofs.Sight.{never_by}
use Rattle.evidence_agent.proofs.agent.never_finished.Goals as goal

pub returns-in-None : goal.returns-in-None
returns-in-None c = λ t. never_by (reverse c.args.entries.now) c.args.uid _ _ c.pod.ensures (c.place.ensures (reverse c.args.entries.now) c.requires.lasts) c.in-None.is
