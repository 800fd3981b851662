use Rattle.std.proofs.Common.{◌≡◌, drop}
use Rattle.std.specs.List.{list_any}
use Rattle.kube_objects.specs.Bindings.{uses}
use Rattle.kube_objects.proofs.bindings.some_uses.Given as goal

-- what is to be found is still ahead
abbrev pub invariant-loop-object : goal.invariant-loop-object
invariant-loop-object l = list_any (uses l.claim) l.objects ≡ list_any (uses l.claim) (drop l.object-index l.objects)
