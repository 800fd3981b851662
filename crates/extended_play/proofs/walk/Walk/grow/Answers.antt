use Rattle.std.proofs.Common.{refl, subst}
use Rattle.std.proofs.lemmas.Result.{on_ok_weaker}
use Rattle.world_core.specs.Kept.{History}
use Rattle.extended_play.proofs.Walking.{AnswersGrowth, growing}
use Rattle.extended_play.proofs.walk.Walk.grow.Goals as goal

pub returns-clause-walked : goal.returns-clause-walked
returns-clause-walked c =
    on_ok_weaker c.grow.result (λ answers script option. growing script option c.args.user c.args.key.now c.args.bytes c.args.self.now _
    (subst (λ (h : History). AnswersGrowth h.setup h.past c.args.user c.args.key.now c.args.bytes c.args.self.now.side c.grow.new.self) c.world.ensures.value answers)
    refl refl) c.grow.ensures
