use Rattle.std.proofs.Common.{◌≡◌, ◌-◌, arith, subst}
use Rattle.binder_model.specs.Told.{TellsObject}
use Rattle.licence_scans.proofs.Fronts.{some_reverse}
use Rattle.licence_scans.proofs.told.find_told.Goals as goal

pub returns-in-Some : goal.returns-in-Some
returns-in-Some g c = record {
  holds = c.in-Some.ensures.0;
  told = some_reverse (TellsObject (λ x. x ≡ c.in-Some.found.now)) c.args.mine.now (c.loop-left.left - 1) c.index-mine-left.result (omega (arith, c.loop-left.invariant.within, c.loop-left-test.true))
      (subst (TellsObject (λ x. x ≡ c.in-Some.found.now)) c.index-mine-left.is c.in-Some.ensures.1);
}
