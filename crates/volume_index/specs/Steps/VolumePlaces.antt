-- The first of the wanted volumes behind another, among the volumes of some rows. A choice of this project.
use Rattle.std.specs.Prelude.{ℕ, ◌≡◌, ◌≤◌, ◌+◌, Bool, true, false, List, length, Option, Some, None, IfSome, filter, slice_get}
use Rattle.std.specs.List.{Contains}
use Rattle.std.specs.Ordering.{is_lt}
use Rattle.kube_parts.specs.declared.parts.Kind.TheVariants as kinds
use Rattle.kube_objects.specs.declared.objects.Volume.{Volume as VolumeData}
use Rattle.kube_objects.specs.declared.objects.Object.{Object}
use Rattle.kube_objects.specs.declared.objects.Object.TheVariants.{Volume}
use Rattle.kube_objects.specs.Keys.{AreRows, rows_of}
use Rattle.volume_index.specs.Steps.Scan.{IsFirstBelow}
use Rattle.volume_index.specs.VolumeIndex.{Index, StandsFor, as_volume, is_owned, volumes_in}
use Rattle.volume_index.specs.VolumeOrders.{need_cmp}
use Rattle.volume_index.specs.VolumePlaces.{IsNth, IsNthAt, count_before, those_in}

-- the volume stands behind the other, if there is another
abbrev pub is_behind : Option VolumeData → VolumeData → Bool
is_behind None v = true
is_behind (Some w) v = is_lt (need_cmp w v)

-- the volume at this place passes the test, and stands behind the other
pub record IsBehindAt (test : VolumeData → Bool) (os : List Object) (other : Option VolumeData) (place : ℕ) (volume : VolumeData) : Type 0 where
  pub there : slice_get os place ≡ Some (Volume volume)
  pub passes : test volume ≡ true
  pub behind : is_behind other volume ≡ true

-- the first of these at the places below the bound
abbrev pub IsNextVolumeBelow : (VolumeData → Bool) → List Object → Option VolumeData → ℕ → Option ℕ → Type 0
IsNextVolumeBelow test os other bound place = IsFirstBelow need_cmp (IsBehindAt test os other) bound place

-- the first of all of them
abbrev pub IsNextVolume : (VolumeData → Bool) → List Object → Option VolumeData → Option ℕ → Type 0
IsNextVolume test os other place = IsNextVolumeBelow test os other (length os) place

-- the volume comes before the other, if there is another
abbrev pub is_before : VolumeData → Option VolumeData → Bool
is_before v None = true
is_before v (Some w) = is_lt (need_cmp v w)

-- it comes before the one at this place
abbrev pub is_before_place : List Object → VolumeData → Option ℕ → Bool
is_before_place os v None = true
is_before_place os v (Some place) = is_before v (as_volume (slice_get os place))

-- the place of the volume of this number, where the objects are the volumes of rows in order
abbrev pub IsNthOf : (VolumeData → Bool) → List Object → ℕ → Option ℕ → Type 0
IsNthOf test os nth place = (rows : List Object) → AreRows rows → os ≡ rows_of kinds.PersistentVolume rows → IsNth test rows nth place

-- where the volume of a number stands at the first place, that of the next number stands at the other
abbrev pub IsThenNthOf : (VolumeData → Bool) → List Object → ℕ → Option ℕ → Type 0
IsThenNthOf test os place next = (rows : List Object) → AreRows rows → os ≡ rows_of kinds.PersistentVolume rows → (nth : ℕ) → IsNthAt test rows nth place → IsNth test rows (nth + 1) next

-- the volume stands at this place
abbrev pub IsVolumeAt : List Object → VolumeData → Option ℕ → Type 0
IsVolumeAt os v None = ⊥
IsVolumeAt os v (Some place) = slice_get os place ≡ Some (Volume v)

-- the place of the volume, where the objects are the volumes of rows in order and it is one of them
abbrev pub IsPlaceOf : List Object → VolumeData → Option ℕ → Type 0
IsPlaceOf os v place = (rows : List Object) → AreRows rows → os ≡ rows_of kinds.PersistentVolume rows → Contains (volumes_in rows) v → IsVolumeAt os v place

-- where a volume that passes the test stands, so many that pass it stand before it; else there are not more
abbrev pub IsCounted : (VolumeData → Bool) → List VolumeData → ℕ → Option VolumeData → Type 0
IsCounted test passing nth None = length passing ≤ nth
IsCounted test passing nth (Some v) = ((test v ≡ true) → count_before v passing ≡ nth) × ((test v ≡ false) → length passing ≤ nth)

-- those that pass the test stand together from this place on, each before those that it is before
abbrev pub AreCountedFrom : (VolumeData → Bool) → List VolumeData → ℕ → Type 0
AreCountedFrom test kept start = (nth : ℕ) → IsCounted test (filter test kept) nth (slice_get kept (start + nth))

-- a list has volumes of the rows, and among them all that pass the test
pub record IsKept (test : VolumeData → Bool) (rows : List Object) (kept : List VolumeData) : Type 0 where
  pub held : (v : VolumeData) → Contains kept v → Contains (volumes_in rows) v
  pub many : length (filter test kept) ≡ length (those_in test rows)
  pub before : (v : VolumeData) → count_before v (filter test kept) ≡ count_before v (those_in test rows)

-- the place of the volume of this number, where moreover such a list is kept
abbrev pub IsNthKept : (VolumeData → Bool) → List VolumeData → List Object → ℕ → Option ℕ → Type 0
IsNthKept test kept os nth place = (rows : List Object) → AreRows rows → os ≡ rows_of kinds.PersistentVolume rows → IsKept test rows kept → IsNth test rows nth place

-- the volumes of one list of the index refer to claims
abbrev pub AreOwned : Index → Type 0
AreOwned index = (u : VolumeData) → Contains index.owned u → is_owned u ≡ true

-- the place of the volume of this number, where moreover the index, if any, stands for those volumes
abbrev pub IsNthShown : Option Index → (VolumeData → Bool) → List Object → ℕ → Option ℕ → Type 0
IsNthShown index test os nth place = (rows : List Object) → AreRows rows → os ≡ rows_of kinds.PersistentVolume rows → IfSome index (λ i. StandsFor i (volumes_in rows)) → IsNth test rows nth place
