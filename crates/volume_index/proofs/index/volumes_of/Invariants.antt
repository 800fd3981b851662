use Rattle.std.proofs.Common.{◌≡◌, ◌++◌, drop}
use Rattle.volume_index.specs.VolumeIndex.{volumes_in}
use Rattle.volume_index.proofs.index.volumes_of.Given as goal

-- the volumes so far, and those of the rest
abbrev pub invariant-loop-object : goal.invariant-loop-object
invariant-loop-object l = l.volumes.items ++ volumes_in (drop l.object-index l.objects) ≡ volumes_in l.objects
