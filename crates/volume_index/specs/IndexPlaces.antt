-- Where the volumes of a size begin, and those of a claim. A choice of this project.
use Rattle.std.specs.Prelude.{◌≡◌, ℕ, true, false, List, if◌then◌else◌}
use Rattle.std.specs.List.Sorted.{IsPartitionPoint}
use Rattle.std.specs.declared.cmp.Ordering.{Ordering}
use Rattle.std.specs.declared.cmp.Ordering.TheVariants.{Less, Greater}
use Rattle.std.specs.Ordering.{is_lt}
use Rattle.kube_objects.specs.declared.objects.Volume.{Volume as VolumeData}
use Rattle.volume_index.specs.VolumeOrders.{Owner, Size, owner_cmp, owner_of, size_cmp, size_of}

-- before the size, or not
abbrev pub rank_by_size : Size → VolumeData → Ordering
rank_by_size size v = if is_lt (size_cmp (size_of v) size) then Less else Greater

-- referring to an earlier claim, or not
abbrev pub rank_by_owner : Owner → VolumeData → Ordering
rank_by_owner owner v = if is_lt (owner_cmp (owner_of v) owner) then Less else Greater

-- the volumes before this place are before the size, and those from it on are not
abbrev pub IsSizeStart : Size → List VolumeData → ℕ → Type 0
IsSizeStart size vs i = IsPartitionPoint (λ v. is_lt (size_cmp (size_of v) size) ≡ true) (λ v. is_lt (size_cmp (size_of v) size) ≡ false) vs i

-- the volumes before this place refer to earlier claims, and those from it on do not
abbrev pub IsOwnerStart : Owner → List VolumeData → ℕ → Type 0
IsOwnerStart owner vs i = IsPartitionPoint (λ v. is_lt (owner_cmp (owner_of v) owner) ≡ true) (λ v. is_lt (owner_cmp (owner_of v) owner) ≡ false) vs i
