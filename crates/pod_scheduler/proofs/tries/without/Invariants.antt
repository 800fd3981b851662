use Rattle.std.proofs.Common.{◌≡◌, ◌++◌, drop}
use Rattle.pod_scheduler.specs.Tries.{without_tried}
use Rattle.pod_scheduler.proofs.tries.without.Given as goal

-- those so far, and those that are still ahead
abbrev pub invariant-loop-tried : goal.invariant-loop-tried
invariant-loop-tried l = l.rest.items ++ without_tried l.claim (drop l.tried-index l.tries) ≡ without_tried l.claim l.tries
