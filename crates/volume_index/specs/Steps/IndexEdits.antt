-- What putting in and taking out makes of the lists of an index. A choice of this project.
use Rattle.std.specs.Prelude.{ℕ, ◌≤◌, Bool, ◌&&◌, List, if◌then◌else◌}
use Rattle.std.specs.List.{sum_by}
use Rattle.std.specs.declared.cmp.Ordering.{Ordering}
use Rattle.std.specs.Ordering.{is_eq}
use Rattle.plain_data.specs.Rows.{put, without}
use Rattle.kube_objects.specs.declared.objects.Volume.{Volume as VolumeData}
use Rattle.volume_index.specs.VolumeIndex.{Index, same_name}
use Rattle.volume_index.specs.VolumeOrders.{AreInOrder, by_owner, by_size}

-- with the volume, if it passes the test
abbrev pub put_if : (VolumeData → VolumeData → Ordering) → (VolumeData → Bool) → VolumeData → List VolumeData → List VolumeData
put_if cmp test v vs = if test v then put cmp (λ u. u) v vs else vs

-- without the volume, if it passes the test
abbrev pub without_if : (VolumeData → VolumeData → Ordering) → (VolumeData → Bool) → VolumeData → List VolumeData → List VolumeData
without_if cmp test v vs = if test v then without cmp (λ u. u) v vs else vs

-- without the first volume, unless the second one stands in its place
abbrev pub without_unless : (VolumeData → VolumeData → Ordering) → (VolumeData → Bool) → VolumeData → VolumeData → List VolumeData → List VolumeData
without_unless cmp test before after vs = if (test after && is_eq (cmp before after)) then vs else without_if cmp test before vs

-- the lists of the index are in order
abbrev pub IsOrdered : Index → Type 0
IsOrdered i = AreInOrder by_size i.all × (AreInOrder by_size i.free × AreInOrder by_owner i.owned)

-- one, if the other volume has this volume's name
abbrev pub namesakes : VolumeData → VolumeData → ℕ
namesakes v u = if same_name u v then 1 else 0

-- each name is that of one volume at most, by count
abbrev pub HaveOwnNames : List VolumeData → Type 0
HaveOwnNames vs = (v : VolumeData) → sum_by (namesakes v) vs ≤ 1
