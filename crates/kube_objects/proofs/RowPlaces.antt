-- Where the row of a key stands among those of its kind.
use Rattle.std.proofs.Common.{◌≡◌, ℕ, zero, suc, List, [], ◌∷◌, filter, Bool, true, false, true≢false, cond, Option, Some, refl, sym, ◌∙◌, ap, subst, if◌then◌else◌}
use Rattle.std.specs.Prelude.{slice_get}
use Rattle.std.specs.declared.cmp.Ordering.{Ordering}
use Rattle.std.specs.declared.cmp.Ordering.TheVariants.{Less}
use Rattle.std.specs.Ordering.{is_eq}
use Rattle.std.specs.Cmp.{IsTotalOrder}
use Rattle.std.proofs.lemmas.Cmp.{tied_itself}
use Rattle.plain_data.specs.Rows.{IsAfter, IsRising, find}
use Rattle.kube_parts.specs.declared.parts.Kind.{Kind}
use Rattle.kube_objects.specs.declared.key.Key.{Key}
use Rattle.kube_objects.specs.declared.objects.Object.{Object}
use Rattle.kube_objects.specs.Keys.{AreRows, is_of_kind, key_cmp, key_of, row_at, rows_of}
use Rattle.kube_objects.proofs.KeyOrder.{key_cmp_total}
use Rattle.kube_objects.proofs.SameKeys.{same_key_ordered}

-- rows in any order
module _ {K X : Type 0} {cmp : K → K → Ordering} (o : IsTotalOrder cmp) (key : X → K) where
  some_is : (a b : X) → Some a ≡ Some b → a ≡ b
  some_is a b e = cc

  -- a row that is found has a place
  pub place_of_found : (p : X → Bool) (k : K) (x : X) (xs : List X) → p x ≡ true → find cmp key k xs ≡ Some x → (place : ℕ) × (slice_get (filter p xs) place ≡ Some x)
  place_of_found p k x [] t h = absurd cc
  place_of_found p k x (y ∷ ys) t h = by (is_eq (cmp (key y) k)) h (p y) refl (place_of_found p k x ys t)
    where
      by : (b : Bool) → (if b then Some y else find cmp key k ys) ≡ Some x → (c : Bool) → p y ≡ c
          → (find cmp key k ys ≡ Some x → (place : ℕ) × (slice_get (filter p ys) place ≡ Some x))
          → (place : ℕ) × (slice_get (cond c (y ∷ filter p ys) (filter p ys)) place ≡ Some x)
      by true h true e rest = (zero, h)
      by true h false e rest = let is = some_is y x h in absurd (true≢false (sym t ∙ ap p (sym is) ∙ e))
      by false h true e rest = let r = rest h in (suc r.0, r.1)
      by false h false e rest = rest h

  after_filter : (p : X → Bool) (y : X) (xs : List X) → IsAfter cmp key y xs → IsAfter cmp key y (filter p xs)
  after_filter p y [] a = tt
  after_filter p y (z ∷ zs) a = by (p z) (after_filter p y zs a.1)
    where
      by : (b : Bool) → IsAfter cmp key y (filter p zs) → IsAfter cmp key y (cond b (z ∷ filter p zs) (filter p zs))
      by true rest = (a.0, rest)
      by false rest = rest

  pub rising_filter : (p : X → Bool) (xs : List X) → IsRising cmp key xs → IsRising cmp key (filter p xs)
  rising_filter p [] r = tt
  rising_filter p (y ∷ ys) r = by (p y) (rising_filter p ys r.1)
    where
      by : (b : Bool) → IsRising cmp key (filter p ys) → IsRising cmp key (cond b (y ∷ filter p ys) (filter p ys))
      by true rest = (after_filter p y ys r.0, rest)
      by false rest = rest

  later : (y x : X) (ys : List X) (place : ℕ) → IsAfter cmp key y ys → slice_get ys place ≡ Some x → cmp (key y) (key x) ≡ Less
  later y x [] place a h = absurd cc
  later y x (z ∷ zs) zero a h = subst (λ w. cmp (key y) (key w) ≡ Less) (some_is z x h) a.0
  later y x (z ∷ zs) (suc place) a h = later y x zs place a.1 h

  -- what stands at a place is found under its key
  pub found_at_place : (p : X → Bool) (x : X) (xs : List X) (place : ℕ) → IsRising cmp key xs → slice_get (filter p xs) place ≡ Some x → find cmp key (key x) xs ≡ Some x
  found_at_place p x [] place r h = absurd cc
  found_at_place p x (y ∷ ys) place r h = by (p y) place h (λ n. found_at_place p x ys n r.1) (λ n. later y x (filter p ys) n (after_filter p y ys r.0))
    where
      by : (b : Bool) (place : ℕ) → slice_get (cond b (y ∷ filter p ys) (filter p ys)) place ≡ Some x
          → ((n : ℕ) → slice_get (filter p ys) n ≡ Some x → find cmp key (key x) ys ≡ Some x)
          → ((n : ℕ) → slice_get (filter p ys) n ≡ Some x → cmp (key y) (key x) ≡ Less)
          → (if is_eq (cmp (key y) (key x)) then Some y else find cmp key (key x) ys) ≡ Some x
      by true zero h rest less = let is = some_is y x h in subst (λ w. (if is_eq (cmp (key y) (key w)) then Some y else find cmp key (key w) ys) ≡ Some w) is (rw (tied_itself o (key y)) refl)
      by true (suc n) h rest less = rw (less n h) (rest n h)
      by false n h rest less = rw (less n h) (rest n h)

-- what stands at a place stands under its key
pub row_at_place : (kind : Kind) (place : ℕ) (o : Object) (rows : List Object) → AreRows rows → slice_get (rows_of kind rows) place ≡ Some o → row_at (key_of o) rows ≡ Some o
row_at_place kind place o rows order at = found_at_place key_cmp_total key_of (is_of_kind kind) o rows place order at

-- what stands under a key has a place among those of its kind
pub place_of_row : (kind : Kind) (k : Key) (o : Object) (rows : List Object) → is_of_kind kind o ≡ true → row_at k rows ≡ Some o → (place : ℕ) × (slice_get (rows_of kind rows) place ≡ Some o)
place_of_row kind k o rows of at = place_of_found key_cmp_total key_of (is_of_kind kind) k o rows of at

-- an object of another kind has another key
pub other_kind : (k : Key) (o : Object) → is_of_kind k.kind o ≡ false → is_eq (key_cmp (key_of o) k) ≡ false
other_kind k o h = same_key_ordered (key_of o) k ∙ rw h refl

-- the row of a key is found among those of its kind
pub row_of_kind : (k : Key) (rows : List Object) → row_at k rows ≡ row_at k (rows_of k.kind rows)
row_of_kind k [] = refl
row_of_kind k (o ∷ rows) = by_kind (is_of_kind k.kind o) refl (row_of_kind k rows)
  where
    by_kind : (b : Bool) → is_of_kind k.kind o ≡ b → row_at k rows ≡ row_at k (rows_of k.kind rows) → row_at k (o ∷ rows) ≡ row_at k (cond b (o ∷ rows_of k.kind rows) (rows_of k.kind rows))
    by_kind true e same = ap (λ (r : Option Object). cond (is_eq (key_cmp (key_of o) k)) (Some o) r) same
    by_kind false e same = ap (λ b. cond b (Some o) (row_at k rows)) (other_kind k o e) ∙ same
