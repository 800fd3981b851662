use Rattle.std.proofs.Common.{◌≡◌, drop}
use Rattle.std.specs.List.{list_any}
use Rattle.kube_objects.specs.Bindings.{carries}
use Rattle.delayed_binding.proofs.volumes.is_carried.Given as goal

-- what is to be found is still ahead
abbrev pub invariant-loop-volume : goal.invariant-loop-volume
invariant-loop-volume l = list_any (λ v. carries v l.claim) (drop l.volume-index l.volumes) ≡ list_any (λ v. carries v l.claim) l.volumes
