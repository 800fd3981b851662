use Rattle.std.proofs.Common.{◌≡◌, drop}
use Rattle.pod_scheduler.specs.Tries.{see_all}
use Rattle.pod_scheduler.proofs.tries.Tries.see_all.Given as goal

-- those that are still ahead are seen then
abbrev pub invariant-loop-object : goal.invariant-loop-object
invariant-loop-object l = see_all (drop l.object-index l.objects) l.self ≡ see_all l.objects l.fn.self
