use Rattle.std.proofs.Common.{arith}
use Rattle.fault_io.proofs.Fronts.{appends_rest, rest_length}
use Rattle.fault_io.proofs.ends.write_all.Goals as goal

pub loop-at-preserved : goal.loop-at-preserved
loop-at-preserved g c =
    let p = c.loop-at.invariant in
    record {
      within = rest_length _ _ _ c.in-Ok.ensures.bound p.within;
      written = appends_rest _ _ _ _ _ _ p.written c.in-Ok.ensures.bytes;
      later = omega (arith, c.write.ensures.cause.later, p.later);
    }
