use Rattle.worker_core.proofs.Absorbing.{on_both}
use Rattle.attention_law.proofs.Stepping.{lost_after, lost_before}
use Rattle.attention_law.proofs.steps.lost.Goals as goal

pub returns-clause-before : goal.returns-clause-before
returns-clause-before c = on_both c.absorb.result _ _ _ c.absorb.ensures.state c.absorb.ensures.lost_before (lost_before c.args.actor.now c.absorb.new.self c.args.request.now)

pub returns-clause-after : goal.returns-clause-after
returns-clause-after c = on_both c.absorb.result _ _ _ c.absorb.ensures.state c.absorb.ensures.lost_after (lost_after c.args.actor.now c.absorb.new.self c.args.request.now)
