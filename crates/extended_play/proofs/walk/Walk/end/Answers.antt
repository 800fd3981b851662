use Rattle.std.proofs.Common.{subst}
use Rattle.world_core.specs.Kept.{History}
use Rattle.extended_runs.specs.Steps.Sides.{CatchesUp}
use Rattle.extended_play.proofs.Going.{has_ended}
use Rattle.extended_play.proofs.walk.Walk.end.Goals as goal

pub returns : goal.returns
returns c =
    has_ended c.args.script.now c.args.option c.args.self.now _ c.catch_up.new.self c.in_ok-ending.ending c.in_ok-ending.ensures.ended c.in_ok-ending.ensures.actors
    (subst (λ (h : History). CatchesUp h.setup h.past c.args.self.now.side c.catch_up.new.self) c.world.ensures.value c.in_ok-catch_up.ensures) c.in_ok-rest.ensures
