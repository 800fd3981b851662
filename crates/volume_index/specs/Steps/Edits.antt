-- A volume that leaves a list and one that comes to it. A choice of this project.
use Rattle.std.specs.Prelude.{◌≡◌, true, List, ◌∷◌, Option, Some, None, ⊤}
use Rattle.std.specs.List.{Contains}
use Rattle.kube_objects.specs.declared.objects.Volume.{Volume as VolumeData}
use Rattle.volume_index.specs.VolumeIndex.{AreApart, IsNew, others, same_name}

-- the volumes without the one that leaves
abbrev pub left_of : Option VolumeData → List VolumeData → List VolumeData
left_of None vs = vs
left_of (Some v) vs = others v vs

-- the volumes after the edit
abbrev pub edit_of : Option VolumeData → Option VolumeData → List VolumeData → List VolumeData
edit_of before None vs = left_of before vs
edit_of before (Some w) vs = w ∷ left_of before vs

-- what leaves is there, and what comes has its name, or a new one where nothing leaves
abbrev pub CanEdit : Option VolumeData → Option VolumeData → List VolumeData → Type 0
CanEdit None None vs = ⊤
CanEdit None (Some w) vs = IsNew w vs
CanEdit (Some v) None vs = AreApart vs × Contains vs v
CanEdit (Some v) (Some w) vs = AreApart vs × Contains vs v × (same_name v w ≡ true)
