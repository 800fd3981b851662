use Rattle.std.proofs.Common.{◌≡◌, ◌+◌, ◌-◌, ◌/◌, ◌<◌, ◌≤◌, length, subst, arith}
use Rattle.kube_objects.specs.Keys.{key_cmp, key_of, rows_of}
use Rattle.plain_data.proofs.RowFacts.{Parted, parted_greater, parted_less}
use Rattle.volume_match.specs.Named.{key_with_parts}
use Rattle.volume_match.proofs.KindSearch.{no_row, order_seen, order_there, row_there}
use Rattle.volume_match.proofs.named.place_named.Goals as goal

pub loop-low-preserved-in-Less : goal.loop-low-preserved-in-Less
loop-low-preserved-in-Less g c =
    let p = c.loop-low.invariant in
    let lt : c.loop-low.low + (c.loop-low.high - c.loop-low.low) / 2 < c.loop-low.high = omega arith in
    let range : c.loop-low.low + (c.loop-low.high - c.loop-low.low) / 2 < length (rows_of c.args.kind (g.L.Lookup.rows c.args.lookup.now)) = omega (arith, p.range) in
    parted_less _ _ _ _ _ p lt (order_there c.args.kind c.args.namespace.now c.args.name.now _ _ _ range
    (order_seen c.args.kind c.args.namespace.now c.args.name.now _ _ _ c.at.ensures.object c.in-Less.ensures))

pub returns-in-Equal-clause-found : goal.returns-in-Equal-clause-found
returns-in-Equal-clause-found g c =
    row_there c.args.kind c.args.namespace.now c.args.name.now _ _ c.at.ensures.order (order_seen c.args.kind c.args.namespace.now c.args.name.now _ _ _ c.at.ensures.object c.in-Equal.ensures)

pub loop-low-preserved : goal.loop-low-preserved
loop-low-preserved g c =
    let p = c.loop-low.invariant in
    let lt : c.loop-low.low + (c.loop-low.high - c.loop-low.low) / 2 < c.loop-low.high = omega arith in
    let le : c.loop-low.low ≤ c.loop-low.low + (c.loop-low.high - c.loop-low.low) / 2 = omega arith in
    let range : c.loop-low.low + (c.loop-low.high - c.loop-low.low) / 2 < length (rows_of c.args.kind (g.L.Lookup.rows c.args.lookup.now)) = omega (arith, p.range) in
    parted_greater _ _ _ _ _ p le lt (order_there c.args.kind c.args.namespace.now c.args.name.now _ _ _ range
    (order_seen c.args.kind c.args.namespace.now c.args.name.now _ _ _ c.at.ensures.object c.in-Greater.ensures))

pub returns-clause-none : goal.returns-clause-none
returns-clause-none g c =
    let p = c.loop-low.invariant in
    let same : c.loop-low.high ≡ c.loop-low.low = omega (arith, p.order) in
    no_row c.args.kind c.args.namespace.now c.args.name.now _ _ c.count-high.ensures.order
    (subst (λ high. Parted (λ o. key_cmp (key_of o) (key_with_parts c.args.kind c.args.namespace.now c.args.name.now))
    (rows_of c.args.kind (g.L.Lookup.rows c.args.lookup.now)) c.loop-low.low high) same p)
