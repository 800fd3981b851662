use Rattle.std.proofs.Common.{sym, subst}
use Rattle.evidence_agent.specs.Pods.{AreTold}
use Rattle.evidence_agent.proofs.Sight.{told_dropped}
use Rattle.evidence_agent.proofs.agent.late.Goals as goal

pub returns-in-None : goal.returns-in-None
returns-in-None c = λ mine all. tt

pub returns-in-Some : goal.returns-in-Some
returns-in-Some c = λ mine all. subst (λ ts. AreTold ts mine) (sym c.split_at.ensures.back) (told_dropped c.first_late.result c.args.tellings.now mine all)
