use Rattle.std.specs.Prelude.{◌≡◌, drop}
use Rattle.snapshot_worker.specs.Workers.{first_content}
use Rattle.snapshot_worker.proofs.rules.first_content.Given as goal

-- the first that is wanted is still ahead
abbrev pub invariant-loop-seen : goal.invariant-loop-seen
invariant-loop-seen g l = first_content (g.T.Picks.picks l.wanted) (drop l.seen-index l.rows) ≡ first_content (g.T.Picks.picks l.wanted) l.rows
