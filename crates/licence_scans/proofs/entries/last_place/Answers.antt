use Rattle.std.proofs.Common.{◌-◌, arith, true≢false, sym}
use Rattle.licence_scans.proofs.Fronts.{none_newer}
use Rattle.licence_scans.proofs.entries.last_place.Goals as goal

pub loop-left-preserved : goal.loop-left-preserved
loop-left-preserved g c = record {
  within = omega (arith, c.loop-left.invariant.within, c.loop-left-test.true);
  since = none_newer (g.T.EntryTest.allows c.args.test.now) c.args.mine.now (c.loop-left.left - 1) c.loop-left.left c.index-mine-left.result
      (omega (arith, c.loop-left.invariant.within, c.loop-left-test.true)) (omega (arith, c.loop-left-test.true)) c.index-mine-left.is
      (λ p. absurd (true≢false (sym (c.if-test.ensures.1 p)))) c.loop-left.invariant.since;
}
