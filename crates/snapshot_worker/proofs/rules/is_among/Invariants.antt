use Rattle.std.specs.Prelude.{◌≡◌, drop}
use Rattle.snapshot_worker.specs.Workers.{is_among}
use Rattle.snapshot_worker.proofs.rules.is_among.Given as goal

-- what is to be found is still ahead
abbrev pub invariant-loop-own : goal.invariant-loop-own
invariant-loop-own l = is_among l.uid l.uids ≡ is_among l.uid (drop l.own-index l.uids)
