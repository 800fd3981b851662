use Rattle.std.specs.Prelude.{◌≡◌, map, take}
use Rattle.snapshot_worker.specs.Steps.Kept.{uid_of}
use Rattle.snapshot_worker.proofs.table.uids_of.Given as goal

-- the rows so far are kept
abbrev pub invariant-loop-row : goal.invariant-loop-row
invariant-loop-row l = l.kept.items ≡ map uid_of (take l.row-index l.rows)
