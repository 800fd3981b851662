use Rattle.std.proofs.Common.{sym, subst}
use Rattle.evidence_agent.specs.Pods.{AreTold}
use Rattle.evidence_agent.proofs.Paging.{page_at}
use Rattle.evidence_agent.proofs.pods.told_at.Goals as goal

pub returns-in-Ok : goal.returns-in-Ok
returns-in-Ok c = λ mine all. subst (λ xs. AreTold xs mine) (sym c.as_slice.ensures) (page_at mine c.args.pages.now c.in-Ok.at c.index-pages-at.result c.in-Ok.ensures all)

pub returns-in-Err : goal.returns-in-Err
returns-in-Err c = λ mine all. tt
