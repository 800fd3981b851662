use Rattle.std.proofs.Common.{arith, subst, ℕ}
use Rattle.world_core.specs.Kept.{History}
use Rattle.script_runs.specs.Steps.Standing.{MadeAtMost}
use Rattle.extended_runs.specs.Steps.Sides.{CatchesUp}
use Rattle.extended_play.proofs.Walking.{entered}
use Rattle.extended_play.proofs.walk.Walk.enter.Goals as goal

pub returns-clause-entered : goal.returns-clause-entered
returns-clause-entered c =
    λ line at. entered c.args.script.now c.args.option line c.args.self.now _ (c.in_ok-play.ensures.moved line at)
    (subst (λ (h : History). CatchesUp h.setup h.past c.args.self.now.side c.catch_up.new.self) c.world.ensures.value c.in_ok-catch_up.ensures)
    c.in_ok-play.ensures.actors
    (subst (λ (n : ℕ). MadeAtMost n c.play.new.self) (omega arith) c.in_ok-play.ensures.made)
