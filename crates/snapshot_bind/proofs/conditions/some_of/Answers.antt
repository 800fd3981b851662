use Rattle.std.proofs.Common.{refl, sym, arith, true≢false}
use Rattle.snapshot_bind.proofs.Somes.{some_at, some_next}
use Rattle.snapshot_bind.proofs.conditions.some_of.Goals as goal

pub returns-then-holds : goal.returns-then-holds
returns-then-holds g c =
    let found = some_at (g.T.Condition.allows c.args.condition.now) c.args.values.now c.loop-value.value-index c.value-item.result in
    (λ t. found (omega arith) (sym c.value-item.is) (c.if-holds.ensures.0 refl), λ some. refl)

pub loop-value-preserved : goal.loop-value-preserved
loop-value-preserved g c =
    let behind = some_next (g.T.Condition.allows c.args.condition.now) c.args.values.now c.loop-value.value-index c.value-item.result in
    λ some. behind (omega arith) (sym c.value-item.is) (λ p. true≢false (sym (c.if-holds.ensures.1 p))) (c.loop-value.invariant some)
