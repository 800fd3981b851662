-- What is found in rows after an edit, and what is known of a row that is found.
use Rattle.std.proofs.Common.{◌≡◌, List, [], ◌∷◌, Bool, true, false, true≢false, Option, Some, None, refl, sym, ◌∙◌, ap, if◌then◌else◌}
use Rattle.std.specs.declared.cmp.Ordering.{Ordering}
use Rattle.std.specs.declared.cmp.Ordering.TheVariants.{Less, Equal, Greater}
use Rattle.std.specs.Ordering.{is_eq, match_ordering}
use Rattle.std.specs.Cmp.{IsTotalOrder}
use Rattle.std.proofs.lemmas.Cmp.{alike_right, tied_itself}
use Rattle.plain_data.specs.Rows.{IsAfter, IsRising, put, find, without}

module _ {K X : Type 0} {cmp : K → K → Ordering} (o : IsTotalOrder cmp) (key : X → K) where
  -- the row that was put in is found at its key
  pub find-put : (x : X) (xs : List X) → find cmp key (key x) (put cmp key x xs) ≡ Some x
  find-put x [] = rw (tied_itself o (key x)) refl
  find-put x (y ∷ ys) = by (cmp (key y) (key x)) refl (find-put x ys)
    where
      by : (r : Ordering) → cmp (key y) (key x) ≡ r → find cmp key (key x) (put cmp key x ys) ≡ Some x → find cmp key (key x) (match_ordering r (y ∷ put cmp key x ys) (x ∷ ys) (x ∷ y ∷ ys)) ≡ Some x
      by Less e rest = rw e rest
      by Equal e rest = rw (tied_itself o (key x)) refl
      by Greater e rest = rw (tied_itself o (key x)) refl

  -- at any other key nothing changes
  pub find-put_other : (k : K) (x : X) (xs : List X) → is_eq (cmp (key x) k) ≡ false → find cmp key k (put cmp key x xs) ≡ find cmp key k xs
  find-put_other k x [] h = rw h refl
  find-put_other k x (y ∷ ys) h = by (cmp (key y) (key x)) refl (find-put_other k x ys h)
    where
      by : (r : Ordering) → cmp (key y) (key x) ≡ r → find cmp key k (put cmp key x ys) ≡ find cmp key k ys
          → find cmp key k (match_ordering r (y ∷ put cmp key x ys) (x ∷ ys) (x ∷ y ∷ ys)) ≡ (if is_eq (cmp (key y) k) then Some y else find cmp key k ys)
      by Less e rest = ap (λ z. if is_eq (cmp (key y) k) then Some y else z) rest
      by Equal e rest = rw (o.congr (key y) (key x) k e, h) refl
      by Greater e rest = rw h refl

  -- nothing that comes after a row has a key that is not after its own
  after_none : (k : K) (y : X) (ys : List X) → cmp (key y) k ≡ Equal → IsAfter cmp key y ys → find cmp key k ys ≡ None
  after_none k y [] e a = refl
  after_none k y (z ∷ zs) e a =
      let above : cmp (key z) k ≡ Greater = sym (alike_right o (key y) k (key z) e) ∙ rw (o.antisymm (key z) (key y), a.0) refl in
      rw above (after_none k y zs e a.1)

  -- the row that was taken out is found no more
  pub find-without : (k : K) (xs : List X) → IsRising cmp key xs → find cmp key k (without cmp key k xs) ≡ None
  find-without k [] r = refl
  find-without k (y ∷ ys) r = by (cmp (key y) k) refl (find-without k ys r.1)
    where
      by : (a : Ordering) → cmp (key y) k ≡ a → find cmp key k (without cmp key k ys) ≡ None → find cmp key k (if is_eq a then ys else y ∷ without cmp key k ys) ≡ None
      by Less e rest = rw e rest
      by Equal e rest = after_none k y ys e r.0
      by Greater e rest = rw e rest

  -- at any other key nothing changes
  pub find-without_other : (k j : K) (xs : List X) → is_eq (cmp k j) ≡ false → find cmp key j (without cmp key k xs) ≡ find cmp key j xs
  find-without_other k j [] h = refl
  find-without_other k j (y ∷ ys) h = by (cmp (key y) k) refl (find-without_other k j ys h)
    where
      by : (a : Ordering) → cmp (key y) k ≡ a → find cmp key j (without cmp key k ys) ≡ find cmp key j ys
          → find cmp key j (if is_eq a then ys else y ∷ without cmp key k ys) ≡ (if is_eq (cmp (key y) j) then Some y else find cmp key j ys)
      by Less e rest = ap (λ z. if is_eq (cmp (key y) j) then Some y else z) rest
      by Equal e rest = rw (o.congr (key y) k j e, h) refl
      by Greater e rest = ap (λ z. if is_eq (cmp (key y) j) then Some y else z) rest

  some_is : (a b : X) → Some a ≡ Some b → a ≡ b
  some_is a b e = cc

  -- a row that is found has the key
  pub found_key : (k : K) (x : X) (xs : List X) → find cmp key k xs ≡ Some x → cmp (key x) k ≡ Equal
  found_key k x [] h = absurd (true≢false (sym (ap is_there h)))
    where
      is_there : Option X → Bool
      is_there None = false
      is_there (Some y) = true
  found_key k x (y ∷ ys) h = by (cmp (key y) k) refl h (found_key k x ys)
    where
      by : (a : Ordering) → cmp (key y) k ≡ a → (if is_eq a then Some y else find cmp key k ys) ≡ Some x → (find cmp key k ys ≡ Some x → cmp (key x) k ≡ Equal) → cmp (key x) k ≡ Equal
      by Less e found rest = rest found
      by Equal e found rest = rw (sym (some_is y x found)) e
      by Greater e found rest = rest found
