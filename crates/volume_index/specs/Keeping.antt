-- What an index that follows rows stands for. A choice of this project.
use Rattle.std.specs.Prelude.{List, Option, Some, None, IfSome}
use Rattle.kube_objects.specs.declared.key.Key.{Key}
use Rattle.kube_objects.specs.declared.objects.Object.{Object}
use Rattle.kube_objects.specs.Keys.{put_row, without_row}
use Rattle.volume_index.specs.VolumeIndex.{Index, StandsFor, volumes_in}

-- where there is an index, it stands for the volumes among the rows
abbrev pub Keeps : Option Index → List Object → Type 0
Keeps index rows = IfSome index (λ i. StandsFor i (volumes_in rows))

-- the rows where this object stands under the key, or nothing does
abbrev pub rows_with : Key → Option Object → List Object → List Object
rows_with key None rows = without_row key rows
rows_with key (Some o) rows = put_row o rows
