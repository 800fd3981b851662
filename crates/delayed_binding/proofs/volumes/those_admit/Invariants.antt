use Rattle.std.proofs.Common.{◌≡◌, drop}
use Rattle.std.specs.List.{list_all}
use Rattle.delayed_binding.specs.Steps.Places.{admits_unless_other}
use Rattle.delayed_binding.proofs.volumes.those_admit.Given as goal

-- what may fail is still ahead
abbrev pub invariant-loop-volume : goal.invariant-loop-volume
invariant-loop-volume l = list_all (admits_unless_other l.node l.claim) (drop l.volume-index l.volumes) ≡ list_all (admits_unless_other l.node l.claim) l.volumes
