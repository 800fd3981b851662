-- The wanted volumes of a list in which they stand together, by their places from where they begin.
use Rattle.std.proofs.Common.{
  ℕ,
  zero,
  suc,
  ◌≡◌,
  ◌<◌,
  ◌≤◌,
  ◌+◌,
  ◌⊎◌,
  inl,
  inr,
  Bool,
  true,
  false,
  true≢false,
  List,
  [],
  ◌∷◌,
  length,
  filter,
  cond,
  get_or,
  Option,
  Some,
  None,
  Ok,
  Err,
  slice_get,
  arith,
  ◌∙◌,
  refl,
  sym,
  ap,
  subst,
}
use Rattle.std.specs.List.{Contains}
use Rattle.std.specs.List.Sorted.{IsBinarySearchResult, IsPartitionPoint, IsSearchInRange}
use Rattle.std.specs.Cmp.{IsTotalOrder}
use Rattle.std.specs.declared.cmp.Ordering.{Ordering}
use Rattle.std.specs.declared.cmp.Ordering.TheVariants.{Less}
use Rattle.std.specs.Ordering.{is_lt, ordering_reverse}
use Rattle.std.proofs.lemmas.Cmp.{tied_itself}
use Rattle.std.proofs.lemmas.Option.{slice_get-get_or, slice_get_past}
use Rattle.plain_data.proofs.RowFacts.{find_at, find_gap, searched}
use Rattle.kube_objects.specs.declared.objects.Volume.{Volume as VolumeData}
use Rattle.kube_objects.specs.declared.objects.Object.{Object}
use Rattle.kube_objects.specs.declared.objects.Object.TheVariants.{Volume}
use Rattle.kube_parts.specs.declared.parts.Kind.TheVariants as kinds
use Rattle.kube_objects.specs.declared.key.Key.{Key}
use Rattle.kube_objects.specs.Keys.{AreRows, is_of_kind, key_cmp, key_of, row_at, rows_of}
use Rattle.volume_index.specs.VolumeIndex.{volumes_in}
use Rattle.volume_index.specs.VolumeOrders.{AreInOrder, need_cmp}
use Rattle.volume_index.proofs.HeldValues.{after_held, filter_held, held_at, held_filter, here, split, there}
use Rattle.kube_objects.proofs.KeyOrder.{key_cmp_total}
use Rattle.volume_index.proofs.VolumeOrders.{need_total}
use Rattle.volume_index.proofs.IndexRows.{volume_held}
use Rattle.kube_objects.proofs.RowPlaces.{rising_filter, row_at_place, row_of_kind}
use Rattle.volume_index.specs.Steps.VolumePlaces.{AreCountedFrom, IsCounted, IsKept, IsPlaceOf, IsVolumeAt}
use Rattle.volume_index.specs.VolumePlaces.{IsNth, count_before, those_in}
use Rattle.volume_index.proofs.PlacesAlike.{same_length}
use Rattle.volume_index.proofs.PlacesCounted.{count_none, key_of_volume}
use Rattle.volume_index.proofs.PlacesBehind.{numbered, those_rise}

module _ {X : Type 0} where
  -- one more that passes both tests
  one_more : (p q : X → Bool) (y : X) (ys : List X) → p y ≡ true → q y ≡ true → length (filter q (filter p (y ∷ ys))) ≡ suc (length (filter q (filter p ys)))
  one_more p q y ys e f = by (p y) e
    where
      inner : (c : Bool) → c ≡ true → length (cond c (y ∷ filter q (filter p ys)) (filter q (filter p ys))) ≡ suc (length (filter q (filter p ys)))
      inner true g = refl
      inner false g = absurd (true≢false (sym g))

      by : (b : Bool) → b ≡ true → length (filter q (cond b (y ∷ filter p ys) (filter p ys))) ≡ suc (length (filter q (filter p ys)))
      by true g = inner (q y) f
      by false g = absurd (true≢false (sym g))

  passed : (p : X → Bool) (y : X) (ys : List X) → p y ≡ false → filter p (y ∷ ys) ≡ filter p ys
  passed p y ys e = by (p y) e
    where
      by : (b : Bool) → b ≡ false → cond b (y ∷ filter p ys) (filter p ys) ≡ filter p ys
      by true g = absurd (true≢false g)
      by false g = refl

  longest : (p : X → Bool) (y : X) (ys : List X) (n : ℕ) → length (filter p ys) ≤ n → length (filter p (y ∷ ys)) ≤ suc n
  longest p y ys n le = by (p y)
    where
      by : (b : Bool) → length (cond b (y ∷ filter p ys) (filter p ys)) ≤ suc n
      by true = omega (arith, le)
      by false = omega (arith, le)

-- A list in an order, of volumes that pass a test, which has first those that come early, then the wanted ones by need, then the rest.
module _ (is_of is_held is_early : VolumeData → Bool) {cmp : VolumeData → VolumeData → Ordering} (total : IsTotalOrder cmp)
    (early_is : (v : VolumeData) → is_early v ≡ true → is_of v ≡ false)
    (between : (y v : VolumeData) → is_held y ≡ true → is_early y ≡ false → is_of v ≡ true → cmp y v ≡ Less → (is_of y ≡ true) × (need_cmp y v ≡ Less)) where
  -- where one that is not early is not wanted, neither is any after it
  none_after : (y u : VolumeData) → is_held y ≡ true → is_early y ≡ false → is_of y ≡ false → cmp y u ≡ Less → is_of u ≡ false
  none_after y u held late other less = by (is_of u) refl
    where
      by : (b : Bool) → is_of u ≡ b → b ≡ false
      by true e = absurd (true≢false (sym (between y u held late e less).0 ∙ other))
      by false e = refl

  one_later : (y : VolumeData) (ys : List VolumeData) (n : ℕ) (r : Option VolumeData) → ((v : VolumeData) → r ≡ Some v → is_of v ≡ true → (is_of y ≡ true) × (need_cmp y v ≡ Less))
      → IsCounted is_of (filter is_of ys) n r → IsCounted is_of (filter is_of (y ∷ ys)) (suc n) r
  one_later y ys n None before le = longest is_of y ys n le
  one_later y ys n (Some v) before h = (
    λ e. (let b = before v refl e in one_more is_of (λ u. is_lt (need_cmp u v)) y ys b.0 (ap is_lt b.1) ∙ ap (λ m. suc m) (h.0 e)),
    λ e. longest is_of y ys n (h.1 e),
  )

  from_here : (os : List VolumeData) (n : ℕ) → AreInOrder cmp os → ((u : VolumeData) → Contains os u → is_held u ≡ true) → ((u : VolumeData) → Contains os u → is_early u ≡ false)
      → IsCounted is_of (filter is_of os) n (slice_get os n)
  from_here [] n r held late = omega arith
  from_here (y ∷ ys) zero r held late = (
    λ e. count_none (λ u. is_lt (need_cmp u y)) (filter is_of (y ∷ ys)) (λ u c. let h = held_filter is_of u (y ∷ ys) c in not_below u h.1 (split y u ys h.0)),
    λ e. (let none = count_none is_of (y ∷ ys) (λ u c. not_one e u (split y u ys c)) in omega (arith, none)),
  )
    where
      mine : Contains (y ∷ ys) y
      mine = here y y ys refl

      flipped : (u : VolumeData) → need_cmp y u ≡ Less → is_lt (need_cmp u y) ≡ false
      flipped u less = ap is_lt (need_total.antisymm u y) ∙ ap (λ a. is_lt (ordering_reverse a)) less

      not_below : (u : VolumeData) → is_of u ≡ true → (y ≡ u) ⊎ Contains ys u → is_lt (need_cmp u y) ≡ false
      not_below u e (inl is) = ap (λ w. is_lt (need_cmp w y)) (sym is) ∙ ap is_lt (tied_itself need_total y)
      not_below u e (inr c) = flipped u (between y u (held y mine) (late y mine) e (after_held total y u ys r.0 c)).1

      not_one : is_of y ≡ false → (u : VolumeData) → (y ≡ u) ⊎ Contains ys u → is_of u ≡ false
      not_one e u (inl is) = ap is_of (sym is) ∙ e
      not_one e u (inr c) = none_after y u (held y mine) (late y mine) e (after_held total y u ys r.0 c)
  from_here (y ∷ ys) (suc n) r held late =
      one_later y ys n (slice_get ys n)
      (λ v at e. between y v (held y mine) (late y mine) e (after_held total y v ys r.0 (held_at ys n v at)))
      (from_here ys n r.1 (λ u c. held u (there y u ys c)) (λ u c. late u (there y u ys c)))
    where
      mine : Contains (y ∷ ys) y
      mine = here y y ys refl

  -- from where they begin on
  from_start : (os : List VolumeData) (s n : ℕ) → AreInOrder cmp os → ((u : VolumeData) → Contains os u → is_held u ≡ true)
      → IsPartitionPoint (λ v. is_early v ≡ true) (λ v. is_early v ≡ false) os s → s ≤ length os
      → IsCounted is_of (filter is_of os) n (slice_get os (s + n))
  from_start os zero n r held start le =
      let none : n ≡ zero + n = omega arith in
      subst (λ m. IsCounted is_of (filter is_of os) n (slice_get os m)) none
      (from_here os n r held (λ u c. subst (λ w. is_early w ≡ false) c.2 (start.1 c.0 u (omega arith) c.1)))
  from_start [] (suc s) n r held start le = absurd (omega (arith, le))
  from_start (y ∷ ys) (suc s) n r held start le =
      let next : suc s + n ≡ suc (s + n) = omega arith in
      let skip = passed is_of y ys (early_is y (start.0 0 y (omega arith) (omega arith))) in
      let rest = from_start ys s n r.1 (λ u c. held u (there y u ys c))
      (λ j d ge lt. start.0 (suc j) d (omega arith) (omega arith), λ j d ge lt. start.1 (suc j) d (omega arith) (omega arith)) (omega (arith, le)) in
      subst (λ m. IsCounted is_of (filter is_of (y ∷ ys)) n (slice_get (y ∷ ys) m)) (sym next) (subst (λ zs. IsCounted is_of zs n (slice_get ys (s + n))) (sym skip) rest)

  pub counted_from : (os : List VolumeData) (s : ℕ) → AreInOrder cmp os → ((u : VolumeData) → Contains os u → is_held u ≡ true)
      → IsPartitionPoint (λ v. is_early v ≡ true) (λ v. is_early v ≡ false) os s → s ≤ length os → AreCountedFrom is_of os s
  counted_from os s r held start le = λ n. from_start os s n r held start le

-- ---- the volume at a place of such a list

module _ (is_of : VolumeData → Bool) (os : List VolumeData) (s n : ℕ) (counted : AreCountedFrom is_of os s) where
  pub none_past : length os ≤ s + n → length (filter is_of os) ≤ n
  none_past past = subst (IsCounted is_of (filter is_of os) n) (slice_get_past os (s + n) past) (counted n)

  pub answer_at : (v : VolumeData) → s + n < length os → v ≡ get_or os (s + n) v → IsCounted is_of (filter is_of os) n (Some v)
  answer_at v within at = subst (IsCounted is_of (filter is_of os) n) (slice_get-get_or os (s + n) v within ∙ ap Some (sym at)) (counted n)

-- ---- a list in an order, and the volumes of the rows

module _ (is_of : VolumeData → Bool) {cmp : VolumeData → VolumeData → Ordering} (total : IsTotalOrder cmp) (rows : List Object)
    (order : AreRows rows) (kept : List VolumeData) (sorted : AreInOrder cmp kept)
    (to : (u : VolumeData) → Contains kept u → Contains (volumes_in rows) u) (back : (u : VolumeData) → Contains (volumes_in rows) u → is_of u ≡ true → Contains kept u) where
  to_rows : (u : VolumeData) → Contains (filter is_of kept) u → Contains (those_in is_of rows) u
  to_rows u c = let h = held_filter is_of u kept c in filter_held is_of u (volumes_in rows) (to u h.0) h.1

  to_kept : (u : VolumeData) → Contains (those_in is_of rows) u → Contains (filter is_of kept) u
  to_kept u c = let h = held_filter is_of u (volumes_in rows) c in filter_held is_of u kept (back u h.0 h.1) h.1

  kept_rise : AreInOrder cmp (filter is_of kept)
  kept_rise = rising_filter total (λ v. v) is_of kept sorted

  same_before : (v : VolumeData) → count_before v (filter is_of kept) ≡ count_before v (those_in is_of rows)
  same_before v =
      same_length total (λ u. u) key_cmp_total key_of_volume (filter below (filter is_of kept)) (filter below (those_in is_of rows))
      (rising_filter total (λ u. u) below (filter is_of kept) kept_rise) (rising_filter key_cmp_total key_of_volume below (those_in is_of rows) (those_rise is_of rows order))
      (λ u c. let h = held_filter below u (filter is_of kept) c in filter_held below u (those_in is_of rows) (to_rows u h.0) h.1)
      (λ u c. let h = held_filter below u (those_in is_of rows) c in filter_held below u (filter is_of kept) (to_kept u h.0) h.1)
    where
      below : VolumeData → Bool
      below u = is_lt (need_cmp u v)

  pub are_kept : IsKept is_of rows kept
  are_kept = record {
    held = to;
    many = same_length total (λ v. v) key_cmp_total key_of_volume (filter is_of kept) (those_in is_of rows) kept_rise (those_rise is_of rows order) to_rows to_kept;
    before = same_before;
  }

-- so what is counted in the list is counted among the volumes
module _ (is_of : VolumeData → Bool) (rows : List Object) (order : AreRows rows) (os : List VolumeData) (kept : IsKept is_of rows os) where
  pub held_in : (v w : VolumeData) → w ≡ v → Contains os v → Contains (volumes_in rows) w
  held_in v w same held = subst (Contains (volumes_in rows)) (sym same) (kept.held v held)

  pub none_there : (n : ℕ) → length (filter is_of os) ≤ n → length (those_in is_of rows) ≤ n
  none_there n le = subst (λ m. m ≤ n) kept.many le

  pub there_is : (v w : VolumeData) (n : ℕ) → w ≡ v → is_of v ≡ true → count_before v (filter is_of os) ≡ n
      → (r : Option ℕ) → IsVolumeAt (rows_of kinds.PersistentVolume rows) w r → IsNth is_of rows n r
  there_is v w n same passes before None found = absurd found
  there_is v w n same passes before (Some at) found =
      numbered is_of rows order n at v (found ∙ ap (λ u. Some (Volume u)) same) passes (sym (kept.before v) ∙ before)

-- ---- the place of a volume among the volumes of rows

module _ (os : List Object) (v : VolumeData) where
  abbrev key : Key
  key = key_of (Volume v)

  found_in : (rows : List Object) → AreRows rows → os ≡ rows_of kinds.PersistentVolume rows → Contains (volumes_in rows) v → row_at key os ≡ Some (Volume v)
  found_in rows order is held =
      let h = filter_held (is_of_kind kinds.PersistentVolume) (Volume v) rows (volume_held v rows held) refl in
      let at : slice_get (rows_of kinds.PersistentVolume rows) h.0 ≡ Some (Volume v) = slice_get-get_or (rows_of kinds.PersistentVolume rows) h.0 (Volume v) h.1 ∙ ap Some h.2 in
      ap (row_at key) is ∙ sym (row_of_kind key rows) ∙ row_at_place kinds.PersistentVolume h.0 (Volume v) rows order at

  rising : (rows : List Object) → AreRows rows → os ≡ rows_of kinds.PersistentVolume rows → AreRows os
  rising rows order is = subst AreRows (sym is) (rising_filter key_cmp_total key_of (is_of_kind kinds.PersistentVolume) rows order)

  none_is : (x : Object) → None ≡ Some x → ⊥
  none_is x e = cc

  -- what a search for its key found
  pub place_found : (at : ℕ) → IsSearchInRange (Ok at) (length os) → IsBinarySearchResult (λ o. key_cmp (key_of o) key) os (Ok at) → IsPlaceOf os v (Some at)
  place_found at bound position rows order is held =
      let place = searched key_cmp_total key_of key os (Ok at) (rising rows order is) bound position in
      slice_get-get_or os at (Volume v) bound ∙ sym (find_at key_cmp_total key_of key os at (Volume v) place.at) ∙ found_in rows order is held

  pub place_missed : (at : ℕ) → IsSearchInRange (Err at) (length os) → IsBinarySearchResult (λ o. key_cmp (key_of o) key) os (Err at) → IsPlaceOf os v None
  place_missed at bound position rows order is held =
      let rise = rising rows order is in
      let place = searched key_cmp_total key_of key os (Err at) rise bound position in
      none_is (Volume v) (sym (find_gap key_cmp_total key_of key os at rise place.gap) ∙ found_in rows order is held)
