use Rattle.std.proofs.Common.{arith, length, sym, ◌<◌, ◌≤◌, ◌+◌, ◌-◌, ◌/◌}
use Rattle.plain_data.proofs.RowFacts.{parted_less, parted_greater, rank_at}
use Rattle.plain_data.proofs.rows.place_of.Goals as goal

pub loop-low-preserved-in-Less : goal.loop-low-preserved-in-Less
loop-low-preserved-in-Less g c =
    let p = c.loop-low.invariant in
    let lt : c.loop-low.low + (c.loop-low.high - c.loop-low.low) / 2 < c.loop-low.high = omega arith in
    let range : c.loop-low.low + (c.loop-low.high - c.loop-low.low) / 2 < length c.args.rows.now = omega (arith, p.range) in
    parted_less _ _ _ _ _ p lt (rank_at (λ y. g.T.Ranked.rank y c.args.key.now) c.args.rows.now _ _ _ range c.index-rows-middle.is (sym c.in-Less.ensures))

pub loop-low-preserved : goal.loop-low-preserved
loop-low-preserved g c =
    let p = c.loop-low.invariant in
    let lt : c.loop-low.low + (c.loop-low.high - c.loop-low.low) / 2 < c.loop-low.high = omega arith in
    let le : c.loop-low.low ≤ c.loop-low.low + (c.loop-low.high - c.loop-low.low) / 2 = omega arith in
    let range : c.loop-low.low + (c.loop-low.high - c.loop-low.low) / 2 < length c.args.rows.now = omega (arith, p.range) in
    parted_greater _ _ _ _ _ p le lt (rank_at (λ y. g.T.Ranked.rank y c.args.key.now) c.args.rows.now _ _ _ range c.index-rows-middle.is (sym c.in-Greater.ensures))
