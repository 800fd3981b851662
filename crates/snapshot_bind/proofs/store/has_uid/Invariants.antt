use Rattle.std.proofs.Common.{◌≡◌, drop}
use Rattle.snapshot_bind.specs.SideStore.{has_uid}
use Rattle.snapshot_bind.proofs.store.has_uid.Given as goal

-- what is to be found is still ahead
abbrev pub invariant-loop-row : goal.invariant-loop-row
invariant-loop-row l = has_uid l.uid l.rows ≡ has_uid l.uid (drop l.row-index l.rows)
