use Rattle.worker_core.proofs.Absorbing.{on_both}
use Rattle.attention_law.proofs.Stepping.{told}
use Rattle.attention_law.proofs.steps.told.Goals as goal

pub returns : goal.returns
returns c = on_both c.absorb.result _ _ _ c.absorb.ensures.state c.absorb.ensures.told (told c.args.actor.now c.absorb.new.self c.args.request.now c.args.reply)
