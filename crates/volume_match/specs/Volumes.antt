-- The volumes of a look-up, by their places. A choice of this project.
use Rattle.std.specs.Prelude.{ℕ, List, Option, slice_get}
use Rattle.kube_parts.specs.declared.parts.Kind.TheVariants as kinds
use Rattle.kube_objects.specs.declared.objects.Volume.{Volume as VolumeData}
use Rattle.kube_objects.specs.declared.objects.Object.{Object}
use Rattle.kube_objects.specs.Keys.{rows_of}
use Rattle.volume_index.specs.VolumeIndex.{as_volume}

-- the volume at a place among the volumes
abbrev pub volume_at : List Object → ℕ → Option VolumeData
volume_at rows place = as_volume (slice_get (rows_of kinds.PersistentVolume rows) place)
