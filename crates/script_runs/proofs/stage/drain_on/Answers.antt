use Rattle.std.proofs.Common.{refl, subst, arith}
use Rattle.binder_model.specs.Due.{IsSettled}
use Rattle.binder_model.specs.World.{world}
use Rattle.world_core.specs.Kept.{History}
use Rattle.actor_rounds.specs.Rounds.{NothingDue}
use Rattle.script_runs.proofs.stage.drain_on.Goals as goal

pub returns-then-stays_settled-clause-rounds : goal.returns-then-stays_settled-clause-rounds
returns-then-stays_settled-clause-rounds c =
    let settled = subst (λ (h : History). IsSettled h.setup (world h.setup h.past)) c.world.ensures.value (c.stays_settled.ensures c.if-stays_settled.true) in
    NothingDue settled refl refl (omega arith)
