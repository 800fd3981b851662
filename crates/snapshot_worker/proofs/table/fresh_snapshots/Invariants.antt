use Rattle.std.specs.Prelude.{◌≡◌, map, take}
use Rattle.snapshot_worker.specs.Workers.{fresh_snapshot}
use Rattle.snapshot_worker.proofs.table.fresh_snapshots.Given as goal

-- the rows so far are kept
abbrev pub invariant-loop-row : goal.invariant-loop-row
invariant-loop-row l = l.kept.items ≡ map fresh_snapshot (take l.row-index l.rows)
