use Rattle.std.proofs.Common.{◌↔◌, IsTrue, [], reverse, subst, sym, true≢false}
use Rattle.licence_agent.specs.Mounting.{IsShownIn}
use Rattle.licence_agent.proofs.Shown.{shown_since, unlisted}
use Rattle.licence_agent.proofs.mounting.was_shown_ready.Goals as goal

pub returns-in-None : goal.returns-in-None
returns-in-None c = ((λ t. absurd (true≢false (sym t))), (λ h. absurd (unlisted (reverse c.args.mine.now) c.args.node.now c.args.uid c.args.claims.now (reverse c.args.since.now) c.in-None.ensures h)))

pub returns-in-Some : goal.returns-in-Some
returns-in-Some c =
    let a = c.args in
    shown_since (reverse a.mine.now) a.node.now a.uid a.claims.now a.since.now c.in-Some.place _ c.in-Some.ensures
    (subst (λ xs. IsTrue c.is_shown_in.result ↔ IsShownIn (reverse a.mine.now) a.node.now a.uid a.claims.now [] (reverse xs)) c.split_at.ensures.back c.is_shown_in.ensures)
