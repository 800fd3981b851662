-- What a binary search finds in rows that rise, and what an edit at that place makes.
use Rattle.std.proofs.Common.{◌≡◌, ℕ, zero, suc, ◌+◌, ◌<◌, ◌≤◌, List, [], ◌∷◌, length, get_or, set, Some, None, Result, Ok, Err, IfOk, IfErr, refl, sym, ◌∙◌, ap, arith, if◌then◌else◌}
use Rattle.std.specs.declared.cmp.Ordering.{Ordering}
use Rattle.std.specs.declared.cmp.Ordering.TheVariants.{Less, Equal, Greater}
use Rattle.std.specs.Ordering.{is_lt, is_eq, match_ordering, ordering_index}
use Rattle.std.specs.Cmp.{IsTotalOrder}
use Rattle.std.specs.List.{insert, remove, AllWithin}
use Rattle.std.specs.List.Sorted.{IsSearchInRange, IsBinarySearchResult, IsNonDecreasingBy, IsSortedBy}
use Rattle.std.proofs.lemmas.Cmp.{alike_right}
use Rattle.std.proofs.lemmas.List.{get_or_default}
use Rattle.std.proofs.lemmas.List.Sorted.{searchable_from_sorted}
use Rattle.plain_data.specs.Rows.{IsAfter, IsRising, IsAt, IsGap, put, find, without}

-- a binary search so far: less below low, greater from high on
pub record Parted {X : Type 0} (ord : X → Ordering) (xs : List X) (low high : ℕ) : Type 0 where
  pub order : low ≤ high
  pub range : high ≤ length xs
  pub less : IsNonDecreasingBy (λ y. ordering_index (ord y)) xs → AllWithin (λ y. ord y ≡ Less) xs 0 low
  pub greater : IsNonDecreasingBy (λ y. ordering_index (ord y)) xs → AllWithin (λ y. ord y ≡ Greater) xs high (length xs)

least_index : (a : Ordering) → ordering_index a ≤ 0 → a ≡ Less
least_index Less h = refl
least_index Equal h = absurd (omega arith)
least_index Greater h = absurd (omega arith)

most_index : (a : Ordering) → 2 ≤ ordering_index a → a ≡ Greater
most_index Less h = absurd (omega arith)
most_index Equal h = absurd (omega arith)
most_index Greater h = refl

-- what a read at a place said of the row there
pub rank_at : {X : Type 0} (ord : X → Ordering) (xs : List X) (i : ℕ) (x : X) (a : Ordering) → i < length xs → x ≡ get_or xs i x → ord x ≡ a → (d : X) → ord (get_or xs i d) ≡ a
rank_at ord xs i x a lt e h d = ap ord (get_or_default xs i d x lt ∙ sym e) ∙ h

module _ {X : Type 0} (ord : X → Ordering) (xs : List X) where
  pub parted_first : Parted ord xs 0 (length xs)
  parted_first = record { order = omega arith; range = omega arith; less = λ rise k d low lt. absurd (omega arith); greater = λ rise k d low lt. absurd (omega arith) }

  pub parted_less : (low high middle : ℕ) → Parted ord xs low high → middle < high → ((d : X) → ord (get_or xs middle d) ≡ Less) → Parted ord xs (middle + 1) high
  parted_less low high middle p lt here = record {
    order = omega arith;
    range = p.range;
    less = λ rise k d ge below. least_index _ (let up = rise k middle d (omega arith) (omega (arith, p.range)) in omega (arith, up, ap ordering_index (here d)));
    greater = p.greater;
  }

  pub parted_greater : (low high middle : ℕ) → Parted ord xs low high → low ≤ middle → middle < high → ((d : X) → ord (get_or xs middle d) ≡ Greater) → Parted ord xs low middle
  parted_greater low high middle p le lt here = record {
    order = le;
    range = omega (arith, p.range);
    less = p.less;
    greater = λ rise k d ge below. most_index _ (let up = rise middle k d ge below in omega (arith, up, ap ordering_index (here d)));
  }

module _ {K X : Type 0} {cmp : K → K → Ordering} (o : IsTotalOrder cmp) (key : X → K) (k : K) where
  adjacent : (xs : List X) → IsRising cmp key xs → IsSortedBy (λ a b. is_lt (cmp (key a) (key b))) xs
  adjacent [] r i d low high = absurd (omega arith)
  adjacent (x ∷ []) r i d low high = absurd (omega arith)
  adjacent (x ∷ y ∷ ys) r zero d low high = rw (o.antisymm (key y) (key x), r.0.0) refl
  adjacent (x ∷ y ∷ ys) r (suc i) d low high =
      let e : suc i + 1 ≡ suc (i + 1) = omega arith in rw e (adjacent (y ∷ ys) r.1 i d (omega arith) (omega arith))

  -- what stands before a row that is equal to the key is less
  less_before : (x : X) (ys : List X) (i : ℕ) (d : X) → IsAfter cmp key x ys → i < length ys → cmp (key (get_or ys i d)) k ≡ Equal → cmp (key x) k ≡ Less
  less_before x [] i d a lt e = absurd (omega arith)
  less_before x (y ∷ ys) zero d a lt e = sym (alike_right o (key y) k (key x) e) ∙ a.0
  less_before x (y ∷ ys) (suc i) d a lt e = less_before x ys i d a.1 (omega arith) e

  found : (xs : List X) (i : ℕ) → IsRising cmp key xs → i < length xs → ((d : X) → cmp (key (get_or xs i d)) k ≡ Equal) → IsAt cmp key k xs i
  found [] i r lt e = absurd (omega arith)
  found (y ∷ ys) zero r lt e = e y
  found (y ∷ ys) (suc i) r lt e = (less_before y ys i y r.0 (omega arith) (e y), found ys i r.1 (omega arith) e)

  absent : (xs : List X) (i : ℕ) → i ≤ length xs
      → ((j : ℕ) (d : X) → j < i → cmp (key (get_or xs j d)) k ≡ Less)
      → ((j : ℕ) (d : X) → i ≤ j → j < length xs → cmp (key (get_or xs j d)) k ≡ Greater) → IsGap cmp key k xs i
  absent [] zero le below above = tt
  absent [] (suc i) le below above = absurd (omega arith)
  absent (y ∷ ys) zero le below above = above 0 y (omega arith) (omega arith)
  absent (y ∷ ys) (suc i) le below above =
      (below 0 y (omega arith), absent ys i (omega arith) (λ j d lt. below (suc j) d (omega arith)) (λ j d ge lt. above (suc j) d (omega arith) (omega arith)))

  -- a binary search ends at the key, or at its gap
  pub searched : (xs : List X) (r : Result ℕ ℕ) → IsRising cmp key xs → IsSearchInRange r (length xs)
      → IsBinarySearchResult (λ y. cmp (key y) k) xs r → record { at : IfOk r (IsAt cmp key k xs); gap : IfErr r (IsGap cmp key k xs) }
  searched xs (Ok i) rising range equal = record { at = found xs i rising range equal; gap = tt }
  searched xs (Err i) rising range parted =
      let rise = searchable_from_sorted o key xs k (adjacent xs rising) in
      record { at = tt; gap = absent xs i range (λ j d lt. (parted rise).0 j d (omega arith) lt) (λ j d ge lt. (parted rise).1 j d ge lt) }

  pub find_at : (xs : List X) (i : ℕ) (d : X) → IsAt cmp key k xs i → find cmp key k xs ≡ Some (get_or xs i d)
  find_at [] i d h = absurd h
  find_at (y ∷ ys) zero d h = rw h refl
  find_at (y ∷ ys) (suc i) d h = rw h.0 (find_at ys i d h.1)

  pub without_at : (xs : List X) (i : ℕ) → IsAt cmp key k xs i → without cmp key k xs ≡ remove xs i
  without_at [] i h = absurd h
  without_at (y ∷ ys) zero h = rw h refl
  without_at (y ∷ ys) (suc i) h = rw h.0 (ap (λ zs. y ∷ zs) (without_at ys i h.1))

  pub put_at : (x : X) → key x ≡ k → (xs : List X) (i : ℕ) → IsAt cmp key k xs i → put cmp key x xs ≡ set xs i x
  put_at x e [] i h = absurd h
  put_at x e (y ∷ ys) zero h = rw (e, h) refl
  put_at x e (y ∷ ys) (suc i) h = rw (e, h.0) (ap (λ zs. y ∷ zs) (put_at x e ys i h.1))

  pub put_gap : (x : X) → key x ≡ k → (xs : List X) (i : ℕ) → IsGap cmp key k xs i → put cmp key x xs ≡ insert xs i x
  put_gap x e [] zero h = refl
  put_gap x e [] (suc i) h = absurd h
  put_gap x e (y ∷ ys) zero h = rw (e, h) refl
  put_gap x e (y ∷ ys) (suc i) h = rw (e, h.0) (ap (λ zs. y ∷ zs) (put_gap x e ys i h.1))

  -- in a gap nothing is found; what comes after it is greater
  greater_after : (y : X) (ys : List X) → cmp (key y) k ≡ Greater → IsAfter cmp key y ys → find cmp key k ys ≡ None
  greater_after y [] g a = refl
  greater_after y (z ∷ zs) g a =
      let back : cmp k (key y) ≡ Less = rw (o.antisymm k (key y), g) refl in
      let less = o.trans k (key y) (key z) back a.0 in
      let above : cmp (key z) k ≡ Greater = rw (o.antisymm (key z) k, less) refl in
      rw above (greater_after y zs g a.1)

  pub find_gap : (xs : List X) (i : ℕ) → IsRising cmp key xs → IsGap cmp key k xs i → find cmp key k xs ≡ None
  find_gap [] i r h = refl
  find_gap (y ∷ ys) zero r h = rw h (greater_after y ys h r.0)
  find_gap (y ∷ ys) (suc i) r h = rw h.0 (find_gap ys i r.1 h.1)

  without_none : (xs : List X) → find cmp key k xs ≡ None → without cmp key k xs ≡ xs
  without_none [] h = refl
  without_none (y ∷ ys) h = by (cmp (key y) k) h (without_none ys)
    where
      by : (r : Ordering) → (if◌then◌else◌ (is_eq r) (Some y) (find cmp key k ys) ≡ None) → (find cmp key k ys ≡ None → without cmp key k ys ≡ ys)
          → if◌then◌else◌ (is_eq r) ys (y ∷ without cmp key k ys) ≡ y ∷ ys
      by Less h rest = ap (λ zs. y ∷ zs) (rest h)
      by Equal h rest = cc
      by Greater h rest = ap (λ zs. y ∷ zs) (rest h)

  pub without_gap : (xs : List X) (i : ℕ) → IsRising cmp key xs → IsGap cmp key k xs i → without cmp key k xs ≡ xs
  without_gap xs i r h = without_none xs (find_gap xs i r h)

-- the order is kept
module _ {K X : Type 0} {cmp : K → K → Ordering} (o : IsTotalOrder cmp) (key : X → K) where
  after_put : (z x : X) (xs : List X) → cmp (key z) (key x) ≡ Less → IsAfter cmp key z xs → IsAfter cmp key z (put cmp key x xs)
  after_put z x [] h a = (h, tt)
  after_put z x (y ∷ ys) h a = by (cmp (key y) (key x)) (after_put z x ys h a.1)
    where
      by : (r : Ordering) → IsAfter cmp key z (put cmp key x ys) → IsAfter cmp key z (match_ordering r (y ∷ put cmp key x ys) (x ∷ ys) (x ∷ y ∷ ys))
      by Less rest = (a.0, rest)
      by Equal rest = (h, a.1)
      by Greater rest = (h, a)

  after_less : (x y : X) (ys : List X) → cmp (key x) (key y) ≡ Less → IsAfter cmp key y ys → IsAfter cmp key x ys
  after_less x y [] h a = tt
  after_less x y (z ∷ zs) h a = (o.trans _ _ _ h a.0, after_less x y zs h a.1)

  after_equal : (x y : X) (ys : List X) → cmp (key y) (key x) ≡ Equal → IsAfter cmp key y ys → IsAfter cmp key x ys
  after_equal x y [] h a = tt
  after_equal x y (z ∷ zs) h a = (sym (o.congr _ _ _ h) ∙ a.0, after_equal x y zs h a.1)

  pub rising_put : (x : X) (xs : List X) → IsRising cmp key xs → IsRising cmp key (put cmp key x xs)
  rising_put x [] r = (tt, tt)
  rising_put x (y ∷ ys) r = by (cmp (key y) (key x)) refl (rising_put x ys r.1)
    where
      by : (a : Ordering) → cmp (key y) (key x) ≡ a → IsRising cmp key (put cmp key x ys) → IsRising cmp key (match_ordering a (y ∷ put cmp key x ys) (x ∷ ys) (x ∷ y ∷ ys))
      by Less e rest = (after_put y x ys e r.0, rest)
      by Equal e rest = (after_equal x y ys e r.0, r.1)
      by Greater e rest =
          let less : cmp (key x) (key y) ≡ Less = rw (o.antisymm (key x) (key y), e) refl in
          ((less, after_less x y ys less r.0), r)

  after_without : (z : X) (k : K) (xs : List X) → IsAfter cmp key z xs → IsAfter cmp key z (without cmp key k xs)
  after_without z k [] a = tt
  after_without z k (y ∷ ys) a = by (cmp (key y) k) (after_without z k ys a.1)
    where
      by : (r : Ordering) → IsAfter cmp key z (without cmp key k ys) → IsAfter cmp key z (if◌then◌else◌ (is_eq r) ys (y ∷ without cmp key k ys))
      by Less rest = (a.0, rest)
      by Equal rest = a.1
      by Greater rest = (a.0, rest)

  pub rising_without : (k : K) (xs : List X) → IsRising cmp key xs → IsRising cmp key (without cmp key k xs)
  rising_without k [] r = tt
  rising_without k (y ∷ ys) r = by (cmp (key y) k) (rising_without k ys r.1)
    where
      by : (a : Ordering) → IsRising cmp key (without cmp key k ys) → IsRising cmp key (if◌then◌else◌ (is_eq a) ys (y ∷ without cmp key k ys))
      by Less rest = (after_without y k ys r.0, rest)
      by Equal rest = r.1
      by Greater rest = (after_without y k ys r.0, rest)
