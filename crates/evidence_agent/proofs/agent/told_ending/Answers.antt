use Rattle.std.proofs.Common.{◌-◌, arith, sym, subst}
use Rattle.binder_model.specs.AgentLicence.{IsEndingPod}
use Rattle.evidence_agent.specs.declared.pods.ToldPod.{ToldPod}
use Rattle.evidence_agent.proofs.Sight.{told_at_all, told_in}
use Rattle.evidence_agent.proofs.agent.told_ending.Goals as goal

pub returns-then-is_ending : goal.returns-then-is_ending
returns-then-is_ending c = λ mine all t.
    let told = c.index-tellings-left.result in
    told_at_all mine told.place told.pod (IsEndingPod c.args.uid c.args.node.now)
    (subst (λ (x : ToldPod). IsEndingPod c.args.uid c.args.node.now x.pod) (sym c.index-tellings-left.is) (c.is_ending.ensures c.if-is_ending.true))
    (told_in mine c.args.tellings.now (c.loop-left.left - 1) told (omega (arith, c.loop-left.invariant, c.loop-left-test.true)) c.index-tellings-left.is all)
