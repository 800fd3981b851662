-- Where the objects of each kind begin among rows, as the ordered map keeps it. A choice of this project.
use Rattle.std.specs.Prelude.{ℕ, ◌≤◌, List, Option, length}
use Rattle.kube_objects.specs.declared.objects.Object.{Object}
use Rattle.kube_objects.specs.Keys.{AreRows, IsKindStart}
use Rattle.volume_index.specs.VolumeIndex.{Index}
use Rattle.volume_index.specs.Keeping.{Keeps}
use Rattle.version_store.specs.declared.starts.Starts.{Starts}

-- the objects of earlier kinds stand before this place, and those of this kind and of later ones from it on
pub record BeginsAt (index : ℕ) (rows : List Object) (start : ℕ) : Type 0 where
  pub within : start ≤ length rows
  pub begins : IsKindStart index rows start

-- where the objects of each kind begin
pub record AreStarts (rows : List Object) (s : Starts) : Type 0 where
  pub nodes : BeginsAt 1 rows s.nodes
  pub volumes : BeginsAt 2 rows s.volumes
  pub claims : BeginsAt 3 rows s.claims
  pub pods : BeginsAt 4 rows s.pods

-- the rows of the map are in order, it knows where each kind begins, and where it has an index, that stands for the volumes among them
pub record AreKept (rows : List Object) (s : Starts) (i : Option Index) : Type 0 where
  pub order : AreRows rows
  pub starts : AreStarts rows s
  pub index : Keeps i rows
