use Rattle.std.proofs.Common.{[], ap, subst, sym}
use Rattle.extended_runs.specs.Works.{with_side}
use Rattle.extended_play.specs.Steps.Walking.{HasWalked}
use Rattle.extended_play.proofs.Going.{walked_none}
use Rattle.extended_play.proofs.walk.Walk.ask.Goals as goal

pub returns-in-Quota-clause-walked : goal.returns-in-Quota-clause-walked
returns-in-Quota-clause-walked c =
    λ script option. subst (λ works. HasWalked script option works c.args.self.now c.args.self.now) (sym (ap (λ line. with_side line []) c.in-Quota.is)) (walked_none script option c.args.self.now)

pub returns-in-Reserve-clause-walked : goal.returns-in-Reserve-clause-walked
returns-in-Reserve-clause-walked c =
    λ script option. subst (λ works. HasWalked script option works c.args.self.now c.args.self.now) (sym (ap (λ line. with_side line []) c.in-Reserve.is)) (walked_none script option c.args.self.now)
