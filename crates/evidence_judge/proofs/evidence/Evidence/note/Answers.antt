use Rattle.std.proofs.Common.{reverse, subst, sym}
use Rattle.evidence_pages.specs.Indexed.{IsIndexOf}
use Rattle.evidence_judge.specs.Steps.Kept.{AreAgentsOf}
use Rattle.evidence_judge.specs.Steps.Lists.{AreListsOf}
use Rattle.evidence_judge.proofs.evidence.Evidence.note.Goals as goal

pub invariant_of-self : goal.invariant_of-self
invariant_of-self c =
    let put = c.in-Ok.ensures in
    subst (λ mine. IsIndexOf c.take.new.index mine × AreAgentsOf c.take.new.agents mine × AreListsOf c.after-lists.result mine) (sym put.ok)
    (put.index c.self.invariant.0, put.agents, c.after-lists.ensures (reverse c.self.inside.entries) c.self.invariant.2)

pub invariant_of-self-in-Err : goal.invariant_of-self-in-Err
invariant_of-self-in-Err c =
    let kept = c.in-Err.ensures in
    (c.lost.ensures _, c.lost-in-Err.ensures _, subst (λ entries. AreListsOf c.self.inside.lists (reverse entries)) (sym kept.err) c.self.invariant.2)
