use Rattle.std.proofs.Common.{◌≡◌, drop}
use Rattle.pod_scheduler.specs.Decisions.{last_refused}
use Rattle.pod_scheduler.proofs.decide.last_refused.Given as goal

-- what is to be found is still ahead
abbrev pub invariant-loop-tried : goal.invariant-loop-tried
invariant-loop-tried g l = last_refused (g.L.Lookup.rows l.lookup) l.pod (drop l.tried-index l.refused) ≡ last_refused (g.L.Lookup.rows l.lookup) l.pod l.refused
