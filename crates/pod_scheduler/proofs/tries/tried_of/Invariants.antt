use Rattle.std.proofs.Common.{◌≡◌, drop}
use Rattle.pod_scheduler.specs.Tries.{tried_of}
use Rattle.pod_scheduler.proofs.tries.tried_of.Given as goal

-- what is to be found is still ahead
abbrev pub invariant-loop-tried : goal.invariant-loop-tried
invariant-loop-tried l = tried_of l.uid (drop l.tried-index l.tries) ≡ tried_of l.uid l.tries
