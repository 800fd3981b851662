use Rattle.std.proofs.Common.{◌≡◌, ◌++◌, drop, filter, not}
use Rattle.binder_model.specs.Same.{same_uid}
use Rattle.device_model.proofs.mounts.rows_without.Given as goal

abbrev pub invariant-loop-row : goal.invariant-loop-row
invariant-loop-row l = l.copies ++ filter (λ r. not (same_uid r.pod l.pod)) (drop l.row-index l.rows) ≡ filter (λ r. not (same_uid r.pod l.pod)) l.rows
