use Rattle.std.proofs.Common.{◌≡◌, ◌∙◌, ◌++◌, take, sym, ap, arith}
use Rattle.delayed_binding.specs.Writes.{writes_of}
use Rattle.pod_scheduler.specs.Decisions.{present}
use Rattle.pod_scheduler.specs.Steps.Listed.{listed}
use Rattle.pod_scheduler.proofs.Present.{prepare_is, present_more, take_whole}
use Rattle.pod_scheduler.proofs.decide.prepared_writes.Goals as goal

pub loop-nth-preserved : goal.loop-nth-preserved
loop-nth-preserved g c =
    let ws = writes_of (g.L.Lookup.rows c.args.lookup.now) c.args.choice.now in
    let n = c.loop-nth.nth in
    c.in_ok-push_some.ensures ∙ (ap (λ xs. xs ++ listed c.in_ok-write.write) c.loop-nth.invariant
    ∙ (ap (λ w. present (take n ws) ++ listed w) (c.in_ok-write.ensures ∙ prepare_is (g.L.Lookup.rows c.args.lookup.now) c.args.choice.now n) ∙ sym (present_more ws n)))

pub returns : goal.returns
returns g c =
    let ws = writes_of (g.L.Lookup.rows c.args.lookup.now) c.args.choice.now in
    let same : c.loop-nth.nth ≡ c.args.count = omega arith in
    c.loop-nth.invariant ∙ ap present (take_whole ws c.loop-nth.nth (same ∙ c.requires))
