use Rattle.std.proofs.Common.{◌≡◌, take}
use Rattle.delayed_binding.specs.Writes.{writes_of}
use Rattle.pod_scheduler.specs.Decisions.{present}
use Rattle.pod_scheduler.proofs.decide.prepared_writes.Given as goal

-- the writes so far
abbrev pub invariant-loop-nth : goal.invariant-loop-nth
invariant-loop-nth g l = l.writes.items ≡ present (take l.nth (writes_of (g.L.Lookup.rows l.lookup) l.choice))
