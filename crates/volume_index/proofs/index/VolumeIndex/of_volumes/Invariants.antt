use Rattle.std.proofs.Common.{◌≤◌, length, drop}
use Rattle.volume_index.specs.VolumeIndex.{StandsFor}
use Rattle.volume_index.proofs.index.VolumeIndex.of_volumes.Given as goal

-- the index stands for the volumes from the place on
abbrev pub invariant-loop-left : goal.invariant-loop-left
invariant-loop-left l = StandsFor l.index (drop l.left l.volumes) × (l.left ≤ length l.volumes)

abbrev pub decreases-loop-left : goal.decreases-loop-left
decreases-loop-left l = l.left
