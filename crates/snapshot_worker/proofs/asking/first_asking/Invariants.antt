use Rattle.std.specs.Prelude.{take}
use Rattle.snapshot_worker.specs.Steps.Firsts.{NoneAsks}
use Rattle.snapshot_worker.proofs.asking.first_asking.Given as goal

-- no row before this one asks
abbrev pub invariant-loop-at : goal.invariant-loop-at
invariant-loop-at g l = NoneAsks (g.T.Asking.asks l.rule) (take l.at l.rows)
