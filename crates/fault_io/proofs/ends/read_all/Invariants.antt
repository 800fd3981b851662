use Rattle.std.proofs.Common.{◌+◌, ◌-◌, ◌≡◌, ◌≤◌, vec_len}
use Rattle.fault_io.specs.Reading.{Takes}
use Rattle.fault_io.proofs.ends.read_all.Given as goal

-- what was taken came from the source, and no read failed
abbrev pub invariant-pieces : goal.invariant-pieces
invariant-pieces g l = record {
  taken : Takes (g.S.Source.left l.initial.source) (g.S.Source.left l.source) l.taken.items;
  later : g.S.Source.faults l.initial.source ≤ g.S.Source.faults l.source;
  unfailed : g.S.Source.faults l.source ≡ g.S.Source.faults l.initial.source;
}

abbrev pub decreases-pieces : goal.decreases-pieces
decreases-pieces g l = l.most + 1 - vec_len l.taken
