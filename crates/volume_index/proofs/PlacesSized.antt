-- The volumes of an index that have a volume mode and a class.
use Rattle.std.proofs.Common.{ℕ, ◌≡◌, ◌<◌, ◌≤◌, Bool, true, false, true≢false, bytes_eq, List, length, arith, ◌∙◌, refl, sym, ap}
use Rattle.std.specs.Bool.{beq}
use Rattle.std.specs.declared.cmp.Ordering.{Ordering}
use Rattle.std.specs.declared.cmp.Ordering.TheVariants.{Less, Equal, Greater}
use Rattle.std.specs.Ordering.{is_eq, is_lt, nat_cmp, ordering_then}
use Rattle.std.proofs.lemmas.Cmp.{ranked, tied_itself}
use Rattle.std.proofs.lemmas.Map.Lookups.{exact_bytes}
use Rattle.std.proofs.lemmas.Slice.Eq.{bytes_eq-Decides}
use Rattle.plain_data.specs.Pairs.{text_cmp}
use Rattle.kube_objects.specs.declared.objects.Volume.{Volume as VolumeData}
use Rattle.kube_objects.specs.declared.objects.Object.{Object}
use Rattle.kube_objects.specs.Bindings.{class_of_volume, count_one, mode_count}
use Rattle.kube_objects.specs.Keys.{AreRows}
use Rattle.volume_index.specs.IndexPlaces.{IsSizeStart}
use Rattle.volume_index.specs.VolumeIndex.{Index, StandsFor, is_any, volumes_in}
use Rattle.volume_index.specs.VolumeOrders.{AreInOrder, Size, by_size, group_cmp, name_cmp, need_cmp, size_cmp, size_of}
use Rattle.volume_index.proofs.VolumeOrders.{both_equal, by_size_total, group_total}
use Rattle.volume_index.specs.Steps.VolumePlaces.{AreCountedFrom, IsKept}
use Rattle.volume_index.specs.VolumePlaces.{has_size}
use Rattle.volume_index.proofs.PlacesBehind.{all_true, both_true}
use Rattle.volume_index.proofs.PlacesKept.{are_kept, counted_from}

-- nothing is less than nought
no_less : (n : ℕ) → is_lt (nat_cmp n 0) ≡ false
no_less n = by (nat_cmp n 0) refl
  where
    by : (r : Ordering) → nat_cmp n 0 ≡ r → is_lt r ≡ false
    by Less e = let below : n < 0 = ranked n 0 Less (sym e) in absurd (omega (arith, below))
    by Equal e = refl
    by Greater e = refl

same_mode : (a b : Bool) → nat_cmp (count_one a) (count_one b) ≡ Equal → beq a b ≡ true
same_mode true true e = refl
same_mode true false e = absurd (true≢false (sym (ap is_eq e)))
same_mode false true e = absurd (true≢false (sym (ap is_eq e)))
same_mode false false e = refl

equal_modes : (a b : Bool) → beq a b ≡ true → a ≡ b
equal_modes true true e = refl
equal_modes true false e = absurd (true≢false (sym e))
equal_modes false true e = absurd (true≢false (sym e))
equal_modes false false e = refl

module _ (block : Bool) (class : List ℕ) where
  -- the least size of the volume mode and the class
  abbrev least : Size
  least = record { class = class; block = block; modes = 0; bytes = 0 }

  abbrev is_of : VolumeData → Bool
  is_of v = has_size block class v

  abbrev is_early : VolumeData → Bool
  is_early v = is_lt (size_cmp (size_of v) least)

  of_group : (v : VolumeData) → is_of v ≡ true → (v.block ≡ block) × (class_of_volume v ≡ class)
  of_group v e =
      let p = both_true (beq v.block block) (bytes_eq (class_of_volume v) class) e in
      (equal_modes v.block block p.0, (bytes_eq-Decides (class_of_volume v) class).0 p.1)

  group_of : (v : VolumeData) → group_cmp (size_of v) least ≡ Equal → is_of v ≡ true
  group_of v e =
      let p = both_equal (text_cmp (class_of_volume v) class) (nat_cmp (count_one v.block) (count_one block)) (ap is_eq e) in
      all_true (beq v.block block) (bytes_eq (class_of_volume v) class) (same_mode v.block block p.1) ((bytes_eq-Decides (class_of_volume v) class).1 (exact_bytes _ _ p.0))

  -- the group of a volume is asked for alone
  same_group : (y v : VolumeData) → is_of v ≡ true → group_cmp (size_of y) (size_of v) ≡ group_cmp (size_of y) least
  same_group y v e =
      let p = of_group v e in
      ap (λ c. ordering_then (text_cmp (class_of_volume y) c) (nat_cmp (count_one y.block) (count_one v.block))) p.1
      ∙ ap (λ b. ordering_then (text_cmp (class_of_volume y) class) (nat_cmp (count_one y.block) (count_one b))) p.0

  own_group : (v : VolumeData) → is_of v ≡ true → group_cmp (size_of v) least ≡ Equal
  own_group v e = sym (same_group v v e) ∙ tied_itself group_total (size_of v)

  not_early : (v : VolumeData) → is_of v ≡ true → is_early v ≡ false
  not_early v e =
      ap (λ g. is_lt (ordering_then (ordering_then g (nat_cmp (mode_count v.modes) 0)) (nat_cmp v.amount.bytes 0))) (own_group v e)
      ∙ by (nat_cmp (mode_count v.modes) 0) (no_less (mode_count v.modes))
    where
      by : (m : Ordering) → is_lt m ≡ false → is_lt (ordering_then m (nat_cmp v.amount.bytes 0)) ≡ false
      by Less f = absurd (true≢false f)
      by Equal f = no_less v.amount.bytes
      by Greater f = refl

  -- a smaller size is of another group
  early_is : (v : VolumeData) → is_early v ≡ true → is_of v ≡ false
  early_is v early = by (is_of v) refl
    where
      by : (b : Bool) → is_of v ≡ b → b ≡ false
      by true e = absurd (true≢false (sym early ∙ not_early v e))
      by false e = refl

  -- what stands before one of the group, and is not smaller than all of it, is of the group too, and stands before it by need
  between : (y v : VolumeData) → is_any y ≡ true → is_early y ≡ false → is_of v ≡ true → by_size y v ≡ Less → (is_of y ≡ true) × (need_cmp y v ≡ Less)
  between y v any late e less =
      by (group_cmp (size_of y) least) refl late (ap rest (sym (same_group y v e)) ∙ less)
    where
      rest : Ordering → Ordering
      rest g = ordering_then (ordering_then (ordering_then g (nat_cmp (mode_count y.modes) (mode_count v.modes))) (nat_cmp y.amount.bytes v.amount.bytes)) (name_cmp y v)

      from_least : Ordering → Ordering
      from_least g = ordering_then (ordering_then g (nat_cmp (mode_count y.modes) 0)) (nat_cmp y.amount.bytes 0)

      by : (g : Ordering) → group_cmp (size_of y) least ≡ g → is_lt (from_least (group_cmp (size_of y) least)) ≡ false
          → rest (group_cmp (size_of y) least) ≡ Less → (is_of y ≡ true) × (need_cmp y v ≡ Less)
      by Less is ge k = absurd (true≢false (sym (ap (λ g. is_lt (from_least g)) is) ∙ ge))
      by Equal is ge k = (group_of y is, ap rest (sym is) ∙ k)
      by Greater is ge k = absurd (true≢false (sym (ap is_lt k) ∙ ap (λ g. is_lt (rest g)) is))

  pub sized_counted : (os : List VolumeData) (s : ℕ) → AreInOrder by_size os → IsSizeStart least os s → s ≤ length os → AreCountedFrom is_of os s
  sized_counted os s r start le = counted_from is_of is_any is_early by_size_total early_is between os s r (λ u c. refl) start le

  pub sized_kept : (rows : List Object) → AreRows rows → (i : Index) → StandsFor i (volumes_in rows) → AreInOrder by_size i.all → IsKept is_of rows i.all
  sized_kept rows order i stands sorted = are_kept is_of by_size_total rows order i.all sorted (λ u c. ((stands.all u).0 c).0) (λ u c e. (stands.all u).1 (c, refl))
