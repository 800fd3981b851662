use Rattle.std.proofs.Common.{◌≡◌, ◌-◌, arith, drop, refl, reverse, subst, sym, true≢false}
use Rattle.binder_model.specs.Told.{TellsObject, ToldObject}
use Rattle.licence_scans.proofs.Alikes.{first_is, is_first}
use Rattle.licence_scans.proofs.Fronts.{none_newer, some_reverse}
use Rattle.licence_scans.proofs.shared.told_shared.Goals as goal

pub returns-then-tells : goal.returns-then-tells
returns-then-tells g c =
    let may = g.T.SharedTest.allows c.args.test.now in
    let holds = g.T.SharedTest.holds c.args.test.now in
    let pairs = g.T.SharedTest.pairs c.args.test.now in
    let told : TellsObject (λ o. may o × holds o) c.index-mine-left.result = first_is may holds pairs (reverse c.split_at.result.1.now) c.index-mine-left.result (c.if-tells.ensures.0 refl) in (
      (λ _. some_reverse (TellsObject (λ o. may o × holds o)) c.args.mine.now (c.loop-left.left - 1) c.index-mine-left.result (omega (arith, c.loop-left.invariant.within, c.loop-left-test.true))
          (subst (TellsObject (λ o. may o × holds o)) c.index-mine-left.is told)),
      (λ _. refl),
    )

pub loop-left-preserved : goal.loop-left-preserved
loop-left-preserved g c =
    let may = g.T.SharedTest.allows c.args.test.now in
    let holds = g.T.SharedTest.holds c.args.test.now in
    let pairs = g.T.SharedTest.pairs c.args.test.now in
    let none : ToldObject (λ o. may o × holds o) (reverse c.split_at.result.1.now) → ⊥ =
    subst (λ xs. ToldObject (λ o. may o × holds o) (reverse xs) → ⊥) (sym c.split_at.ensures.back) c.loop-left.invariant.since in
    record {
      within = omega (arith, c.loop-left.invariant.within, c.loop-left-test.true);
      since = none_newer (TellsObject (λ o. may o × holds o)) c.args.mine.now (c.loop-left.left - 1) c.loop-left.left c.index-mine-left.result
          (omega (arith, c.loop-left.invariant.within, c.loop-left-test.true)) (omega (arith, c.loop-left-test.true)) c.index-mine-left.is
          (λ t. absurd (true≢false (sym (c.if-tells.ensures.1 (is_first may holds pairs (reverse c.split_at.result.1.now) c.index-mine-left.result c.shares.ensures none t)))))
          c.loop-left.invariant.since;
    }

pub returns : goal.returns
returns g c =
    let may = g.T.SharedTest.allows c.args.test.now in
    let holds = g.T.SharedTest.holds c.args.test.now in
    let none : c.loop-left.left ≡ 0 = omega (arith, c.loop-left-test.false) in
    ((λ t. absurd (true≢false (sym t))), (λ h. absurd (c.loop-left.invariant.since (subst (λ n. ToldObject (λ o. may o × holds o) (reverse (drop n c.args.mine.now))) (sym none) h))))
