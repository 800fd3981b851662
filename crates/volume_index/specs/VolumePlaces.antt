-- Volumes by their number among those of a class and volume mode, or among those that refer to a claim.
-- Source: the volume index that `pv_controller.go` calls has number of access modes and size; the names are a choice of this
-- project.
use Rattle.std.specs.Prelude.{ℕ, ◌≡◌, ◌≤◌, ◌<◌, Bool, true, false, ◌&&◌, List, length, Option, Some, None, filter, slice_get, bytes_eq}
use Rattle.std.specs.Bool.{beq}
use Rattle.std.specs.Ordering.{is_lt}
use Rattle.kube_parts.specs.declared.parts.Kind.TheVariants as kinds
use Rattle.kube_objects.specs.declared.objects.Ref.{Ref}
use Rattle.kube_objects.specs.declared.objects.Volume.{Volume as VolumeData}
use Rattle.kube_objects.specs.declared.objects.Object.{Object}
use Rattle.kube_objects.specs.declared.objects.Object.TheVariants.{Volume}
use Rattle.kube_objects.specs.Bindings.{class_of_volume}
use Rattle.kube_objects.specs.Keys.{rows_of}
use Rattle.volume_index.specs.VolumeIndex.{volumes_in}
use Rattle.volume_index.specs.VolumeOrders.{need_cmp}

-- the volume has this volume mode and this class
abbrev pub has_size : Bool → List ℕ → VolumeData → Bool
has_size block class v = beq v.block block && bytes_eq (class_of_volume v) class

-- the reference has this namespace and this name; its UID may be any
abbrev pub refers_to : List ℕ → List ℕ → Option Ref → Bool
refers_to namespace name None = false
refers_to namespace name (Some r) = bytes_eq r.namespace namespace && bytes_eq r.name name

-- the volume refers to this claim
abbrev pub is_of_claim : List ℕ → List ℕ → VolumeData → Bool
is_of_claim namespace name v = refers_to namespace name v.claim_ref

-- the volumes of the rows that pass the test
abbrev pub those_in : (VolumeData → Bool) → List Object → List VolumeData
those_in test rows = filter test (volumes_in rows)

-- how many of these stand before the volume: with fewer modes, or as many and fewer bytes, or as many and an earlier name
abbrev pub count_before : VolumeData → List VolumeData → ℕ
count_before v vs = length (filter (λ u. is_lt (need_cmp u v)) vs)

-- at this place among the volumes stands one that passes the test, and so many of those that pass it stand before
pub record IsNthAt (test : VolumeData → Bool) (rows : List Object) (nth place : ℕ) : Type 0 where
  pub volume : VolumeData
  pub there : slice_get (rows_of kinds.PersistentVolume rows) place ≡ Some (Volume volume)
  pub passes : test volume ≡ true
  pub before : count_before volume (those_in test rows) ≡ nth
  pub within : nth < length (those_in test rows)

-- the place of the volume of this number, from 0; none where there are not so many
abbrev pub IsNth : (VolumeData → Bool) → List Object → ℕ → Option ℕ → Type 0
IsNth test rows nth (Some place) = IsNthAt test rows nth place
IsNth test rows nth None = length (those_in test rows) ≤ nth
