use Rattle.worker_core.proofs.Absorbing.{on_both}
use Rattle.attention_law.proofs.Stepping.{wakes}
use Rattle.attention_law.proofs.steps.wake.Goals as goal

pub returns : goal.returns
returns c = on_both c.wake.result _ _ _ c.wake.ensures.state c.wake.ensures.stands (wakes c.args.actor.now c.wake.new.self)
