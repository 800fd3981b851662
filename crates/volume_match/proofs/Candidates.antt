-- Candidates among rows, and the best of those that a list of an index holds.
use Rattle.std.proofs.Common.{
  ℕ,
  zero,
  suc,
  ◌≡◌,
  ◌≢◌,
  ◌≤◌,
  ◌<◌,
  ◌+◌,
  ◌⊎◌,
  inl,
  inr,
  Bool,
  true,
  false,
  true≢false,
  List,
  [],
  ◌∷◌,
  length,
  get_or,
  Option,
  Some,
  None,
  IfSome,
  IfNone,
  slice_get,
  arith,
  ◌∙◌,
  refl,
  sym,
  ap,
  subst,
}
use Rattle.std.specs.List.{AllWithin, Contains}
use Rattle.std.specs.Cmp.{IsTotalOrder}
use Rattle.std.specs.declared.cmp.Ordering.{Ordering}
use Rattle.std.specs.declared.cmp.Ordering.TheVariants.{Less, Greater}
use Rattle.std.specs.Ordering.{is_gt, is_lt}
use Rattle.std.proofs.lemmas.Cmp.{tied_itself}
use Rattle.std.proofs.lemmas.List.{get_or_default}
use Rattle.std.proofs.lemmas.Option.{get_or_from_slice_get, slice_get_within}
use Rattle.plain_data.specs.Rows.{IsAfter, IsRising, find}
use Rattle.kube_parts.specs.declared.parts.Kind.TheVariants as kinds
use Rattle.kube_objects.specs.declared.objects.Node.{Node as NodeData}
use Rattle.kube_objects.specs.declared.objects.Volume.{Volume as VolumeData}
use Rattle.kube_objects.specs.declared.objects.Claim.{Claim as ClaimData}
use Rattle.kube_objects.specs.declared.objects.Object.{Object}
use Rattle.kube_objects.specs.declared.objects.Object.TheVariants.{Volume}
use Rattle.kube_objects.specs.Keys.{AreRows, is_of_kind, key_of, row_at, rows_of}
use Rattle.kube_objects.proofs.KeyOrder.{key_cmp_total}
use Rattle.volume_match.specs.Named.{key_with_parts}
use Rattle.volume_match.proofs.Scans.{match_total}
use Rattle.binder_model.specs.Matching.{IsCandidate, eligible, match_cmp}
use Rattle.volume_index.specs.VolumeIndex.{volumes_in}
use Rattle.volume_index.specs.VolumeOrders.{AreInOrder}
use Rattle.volume_match.specs.Steps.Choices.{AreOf, HasNone, IsBestOfAt, IsUnfit}
use Rattle.volume_index.proofs.HeldValues.{after_has, held_at, held_filter, nothing, split}
use Rattle.volume_index.proofs.IndexRows.{held_volume}
use Rattle.kube_objects.proofs.RowPlaces.{rising_filter}
use Rattle.volume_index.proofs.RowVolumes.{row_held}

pub below_or_from : (k n : ℕ) → (k < n) ⊎ (n ≤ k)
below_or_from zero zero = inr (omega arith)
below_or_from zero (suc n) = inl (omega arith)
below_or_from (suc k) zero = inr (omega arith)
below_or_from (suc k) (suc n) = elim (below_or_from k n) [
  | inl lt ↦ inl (omega (arith, lt))
  | inr le ↦ inr (omega (arith, le))
]

module _ {X : Type 0} where
  -- what was read at a place stands there
  pub at_place : (xs : List X) (i : ℕ) (v r : X) → v ≡ r → r ≡ get_or xs i r → v ≡ get_or xs i v
  at_place xs i v r e is = e ∙ is ∙ ap (get_or xs i) (sym e)

module _ {K X : Type 0} {cmp : K → K → Ordering} (o : IsTotalOrder cmp) (key : X → K) where
  -- what rows hold is found under its key
  pub found_held : (x : X) (xs : List X) → IsRising cmp key xs → Contains xs x → find cmp key (key x) xs ≡ Some x
  found_held x [] r c = absurd (nothing x c)
  found_held x (y ∷ ys) r c = elim (split y x ys c) [
    | inl is ↦ subst (λ w. find cmp key (key w) (y ∷ ys) ≡ Some w) is (rw (tied_itself o (key y)) refl)
    | inr h ↦ rw (after_has o key y x ys r.0 h) (found_held x ys r.1 h)
  ]

  -- rows at two places are in order
  after_at : (y : X) (ys : List X) (j : ℕ) (d : X) → IsAfter cmp key y ys → j < length ys → cmp (key y) (key (get_or ys j d)) ≡ Less
  after_at y [] j d a lt = absurd (omega arith)
  after_at y (z ∷ zs) zero d a lt = a.0
  after_at y (z ∷ zs) (suc j) d a lt = after_at y zs j d a.1 (omega arith)

  pub rows_at : (xs : List X) (i j : ℕ) (d : X) → IsRising cmp key xs → i < j → j < length xs → cmp (key (get_or xs i d)) (key (get_or xs j d)) ≡ Less
  rows_at [] i j d r lt within = absurd (omega arith)
  rows_at (y ∷ ys) zero zero d r lt within = absurd (omega arith)
  rows_at (y ∷ ys) zero (suc j) d r lt within = after_at y ys j d r.0 (omega arith)
  rows_at (y ∷ ys) (suc i) zero d r lt within = absurd (omega arith)
  rows_at (y ∷ ys) (suc i) (suc j) d r lt within = rows_at ys i j d r.1 (omega arith) (omega arith)

  -- a row has one place
  less_itself : (x : X) → cmp (key x) (key x) ≡ Less → ⊥
  less_itself x e = true≢false (sym (ap is_lt e) ∙ ap is_lt (tied_itself o (key x)))

  pub one_place : (xs : List X) (i j : ℕ) (x : X) → IsRising cmp key xs → slice_get xs i ≡ Some x → slice_get xs j ≡ Some x → i ≡ j
  one_place xs i j x r at too =
      let a = get_or_from_slice_get xs i x x at in
      let b = get_or_from_slice_get xs j x x too in
      elim (below_or_from i j) [
        | inl lt ↦ absurd (less_itself x (sym (λ l. cmp (key (a l)) (key (b l))) ∙ rows_at xs i j x r lt (slice_get_within xs j x too)))
        | inr le ↦ elim (below_or_from j i) [
          | inl lt ↦ absurd (less_itself x (sym (λ l. cmp (key (b l)) (key (a l))) ∙ rows_at xs j i x r lt (slice_get_within xs i x at)))
          | inr ge ↦ omega (arith, le, ge)
        ]
      ]

  -- a row is not after one at a later place, by any part of the order
  pub upto_at : (xs : List X) (i k : ℕ) (x y : X) → IsRising cmp key xs → i ≤ k → k < length xs → x ≡ get_or xs i x → y ≡ get_or xs k y
      → (part : X → X → Ordering) → ((v u : X) → cmp (key v) (key u) ≡ Less → is_gt (part v u) ≡ false) → ((v : X) → is_gt (part v v) ≡ false) → is_gt (part x y) ≡ false
  upto_at xs i k x y r le lt at too part up same = elim (below_or_from i k) [
    | inl less ↦
        let there : get_or xs i y ≡ x = get_or_default xs i y x (omega (arith, less, lt)) ∙ sym at in
        (let here : get_or xs k y ≡ y = sym too in up x y (sym (λ l. cmp (key (there l)) (key (here l))) ∙ rows_at xs i k y r less lt))
    | inr ge ↦
        let one : i ≡ k = omega (arith, le, ge) in
        let there : x ≡ y = at ∙ get_or_default xs i x y (omega (arith, ge, lt)) ∙ ap (λ n. get_or xs n y) one ∙ sym too in
        subst (λ w. is_gt (part x w) ≡ false) there (same x)
  ]

-- a volume is not after itself
pub alike_itself : (c : ClaimData) (v : VolumeData) → match_cmp c v v ≢ Greater
alike_itself c v e = true≢false (sym (ap is_gt e) ∙ ap is_gt (tied_itself (match_total c) v))

-- a search for the names of a volume of the rows finds its place
pub located : (rows : List Object) (v : VolumeData) → AreRows rows → Contains (volumes_in rows) v → (r : Option ℕ) (namespace name : List ℕ) → namespace ≡ v.meta.namespace → name ≡ v.meta.name
    → IfSome r (λ place. slice_get (rows_of kinds.PersistentVolume rows) place ≡ row_at (key_with_parts kinds.PersistentVolume namespace name) rows)
    → IfSome r (λ place. slice_get (rows_of kinds.PersistentVolume rows) place ≡ Some (Volume v))
located rows v order held None namespace name e f found = tt
located rows v order held (Some place) namespace name e f found =
    found ∙ (λ i. row_at (key_with_parts kinds.PersistentVolume (e i) (f i)) rows) ∙ row_held v rows order held

pub never_lost : (rows : List Object) (v : VolumeData) → AreRows rows → Contains (volumes_in rows) v → (r : Option ℕ) (namespace name : List ℕ) → namespace ≡ v.meta.namespace → name ≡ v.meta.name
    → IfNone r (row_at (key_with_parts kinds.PersistentVolume namespace name) rows ≡ None) → IfNone r ⊥
never_lost rows v order held None namespace name e f none =
    let found : None ≡ Some (Volume v) = sym none ∙ (λ i. row_at (key_with_parts kinds.PersistentVolume (e i) (f i)) rows) ∙ row_held v rows order held in
    absurd cc
never_lost rows v order held (Some place) namespace name e f none = tt

module _ (rows : List Object) (c : ClaimData) (on : Option NodeData) (own : Bool) (excluded : List ℕ) where
  -- a candidate is a volume of the rows
  pub candidate_held : (place : ℕ) (v : VolumeData) → IsCandidate rows c on own excluded place v → Contains (volumes_in rows) v
  candidate_held place v k = held_volume v rows (held_filter (is_of_kind kinds.PersistentVolume) (Volume v) rows (held_at (rows_of kinds.PersistentVolume rows) place (Volume v) k.there)).0

  pub one_candidate_place : (i j : ℕ) (v : VolumeData) → AreRows rows → slice_get (rows_of kinds.PersistentVolume rows) i ≡ Some (Volume v) → IsCandidate rows c on own excluded j v → i ≡ j
  one_candidate_place i j v order at k = one_place key_cmp_total key_of (rows_of kinds.PersistentVolume rows) i j (Volume v) (rising_filter
      key_cmp_total key_of (is_of_kind kinds.PersistentVolume) rows order) at k.there

  -- the volume is a candidate nowhere
  abbrev pub IsNone : VolumeData → Type 0
  IsNone u = (place : ℕ) → IsCandidate rows c on own excluded place u → ⊥

  -- where no volume of a list is, it has no candidate
  pub none_left : (those : List VolumeData) (i : ℕ) → AllWithin IsNone those 0 i
      → ((k : ℕ) (u : VolumeData) → i ≤ k → k < length those → u ≡ get_or those k u → IsNone u) → HasNone rows c on own excluded those
  none_left those i before after u h place q =
      elim (below_or_from h.0 i) [
        | inl lt ↦ before h.0 u (omega arith) lt place (subst (λ w. IsCandidate rows c on own excluded place w) (sym h.2) q)
        | inr le ↦ after h.0 u le h.1 (sym h.2) place q
      ]

  -- one volume more that is none, and volumes after it that fit on no node
  pub none_more : (those : List VolumeData) (i n : ℕ) (v : VolumeData) → i < length those → v ≡ get_or those i v → AllWithin IsNone those 0 i
      → IsNone v → AllWithin (IsUnfit c) those (i + 1) n → AllWithin IsNone those 0 n
  none_more those i n v lt at before here after k d low below =
      elim (below_or_from k i) [
        | inl less ↦ before k d low less
        | inr le ↦ elim (below_or_from i k) [
          | inl less ↦ λ place q. after k d (omega (arith, less)) below on q.eligible
          | inr ge ↦
              let same : i ≡ k = omega (arith, le, ge) in
              subst IsNone (at ∙ get_or_default those i v d lt ∙ ap (λ m. get_or those m d) same) here
        ]
      ]

  module _ {cmp : VolumeData → VolumeData → Ordering} (o : IsTotalOrder cmp) (test : VolumeData → Bool)
      (prefers : (v u : VolumeData) → test v ≡ true → test u ≡ true → eligible v c on ≡ true → eligible u c on ≡ true → cmp v u ≡ Less
      → match_cmp c v u ≢ Greater) (alike : (v : VolumeData) → match_cmp c v v ≢ Greater) where
    -- the first candidate of a list is its best
    pub first_best : (those : List VolumeData) (i at : ℕ) (v : VolumeData) → AreInOrder cmp those → AreOf test (volumes_in rows) those → i < length those → v ≡ get_or those i v
        → AllWithin IsNone those 0 i → IsCandidate rows c on own excluded at v → IsBestOfAt rows c on own excluded those at
    first_best those i at v order of lt is before k =
        record {
          volume = v;
          held = (i, lt, sym is);
          candidate = k;
          first = λ u h other q.
              elim (below_or_from h.0 i) [
                | inl less ↦ absurd (before h.0 u (omega arith) less other (subst (λ w. IsCandidate rows c on own excluded other w) (sym h.2) q))
                | inr le ↦ elim (below_or_from i h.0) [
                  | inl less ↦
                      let there : get_or those i u ≡ v = get_or_default those i u v lt ∙ sym is in
                      let up : cmp v u ≡ Less = sym (λ l. cmp (there l) (h.2 l)) ∙ rows_at o (λ w. w) those i h.0 u order less h.1 in
                      prefers v u (of v (i, lt, sym is)).1 (of u h).1 k.eligible q.eligible up
                  | inr ge ↦
                      let same : i ≡ h.0 = omega (arith, le, ge) in
                      let there : v ≡ u = is ∙ get_or_default those i v u lt ∙ ap (λ n. get_or those n u) same ∙ h.2 in
                      subst (λ w. match_cmp c v w ≢ Greater) there (alike v)
                ]
              ];
        }
