-- What is found by its key after a row was put or taken, and what holds of all rows where it holds of those that are found.
use Rattle.std.proofs.Common.{◌≡◌, ◌⊎◌, inl, inr, List, [], ◌∷◌, Bool, true, false, true≢false, Some, refl, sym, ◌∙◌, ap, subst, if◌then◌else◌}
use Rattle.std.specs.Prelude.{◌||◌}
use Rattle.std.specs.List.{list_any}
use Rattle.std.specs.declared.cmp.Ordering.{Ordering}
use Rattle.std.specs.declared.cmp.Ordering.TheVariants.{Less, Equal, Greater}
use Rattle.std.specs.Ordering.{is_eq, is_lt}
use Rattle.std.specs.Cmp.{IsTotalOrder}
use Rattle.std.proofs.lemmas.Cmp.{tied_itself}
use Rattle.std.proofs.lemmas.Map.Lookups.{exact_bytes}
use Rattle.std.proofs.lemmas.Option.{same_Some, none-some}
use Rattle.kube_objects.proofs.KeyOrder.{both_equal}
use Rattle.plain_data.specs.Rows.{IsAfter, IsRising, put, find, without}
use Rattle.plain_data.proofs.RowLookups.{find-put, find-put_other, find-without, find-without_other, found_key}
use Rattle.snapshot_bind.specs.Licences.{SomeOf}
use Rattle.snapshot_bind.specs.Rules.{EachOf, EachPair}
use Rattle.snapshot_bind.specs.SideStore.{SnapKey, snap_cmp}

pub equal_keys : (a b : SnapKey) → snap_cmp a b ≡ Equal → a ≡ b
equal_keys a b e =
    let both = both_equal _ _ e in
    let namespace : a.0 ≡ b.0 = exact_bytes _ _ both.0 in
    let name : a.1 ≡ b.1 = exact_bytes _ _ both.1 in
    λ i. (namespace i, name i)

module _ {K X : Type 0} {cmp : K → K → Ordering} (o : IsTotalOrder cmp) (exact : (a b : K) → cmp a b ≡ Equal → a ≡ b) (key : X → K) where
  pub found_at : (k : K) (x : X) (xs : List X) → find cmp key k xs ≡ Some x → key x ≡ k
  found_at k x xs h = exact _ _ (found_key o key k x xs h)

  pub split : (a b : K) → (a ≡ b) ⊎ (is_eq (cmp a b) ≡ false)
  split a b = by (cmp a b) refl
    where
      by : (r : Ordering) → cmp a b ≡ r → (a ≡ b) ⊎ (is_eq (cmp a b) ≡ false)
      by Less e = inr (ap is_eq e)
      by Equal e = inl (exact a b e)
      by Greater e = inr (ap is_eq e)

  -- after a row was put, what is found is that row, or stood before
  pub after_put : (x : X) (xs : List X) (k : K) (t : X) → find cmp key k (put cmp key x xs) ≡ Some t → ((t ≡ x) × (key x ≡ k)) ⊎ (find cmp key k xs ≡ Some t)
  after_put x xs k t h = by (split (key x) k)
    where
      by : (key x ≡ k) ⊎ (is_eq (cmp (key x) k) ≡ false) → ((t ≡ x) × (key x ≡ k)) ⊎ (find cmp key k xs ≡ Some t)
      by (inl e) = inl (same_Some t x (sym h ∙ ap (λ j. find cmp key j (put cmp key x xs)) (sym e) ∙ find-put o key x xs), e)
      by (inr d) = inr (sym (find-put_other o key k x xs d) ∙ h)

  pub kept_put : (x : X) (xs : List X) (k : K) (t : X) → find cmp key k xs ≡ Some t → (key x ≡ k) ⊎ (find cmp key k (put cmp key x xs) ≡ Some t)
  kept_put x xs k t h = by (split (key x) k)
    where
      by : (key x ≡ k) ⊎ (is_eq (cmp (key x) k) ≡ false) → (key x ≡ k) ⊎ (find cmp key k (put cmp key x xs) ≡ Some t)
      by (inl e) = inl e
      by (inr d) = inr (find-put_other o key k x xs d ∙ h)

  pub put_itself : (x : X) (xs : List X) (k : K) → key x ≡ k → find cmp key k (put cmp key x xs) ≡ Some x
  put_itself x xs k e = ap (λ j. find cmp key j (put cmp key x xs)) (sym e) ∙ find-put o key x xs

  pub after_without : (j : K) (xs : List X) (k : K) (t : X) → IsRising cmp key xs → find cmp key k (without cmp key j xs) ≡ Some t → find cmp key k xs ≡ Some t
  after_without j xs k t r h = by (split j k)
    where
      by : (j ≡ k) ⊎ (is_eq (cmp j k) ≡ false) → find cmp key k xs ≡ Some t
      by (inl e) = absurd (none-some t (sym (find-without o key j xs r) ∙ ap (λ i. find cmp key i (without cmp key j xs)) e ∙ h))
      by (inr d) = sym (find-without_other o key j k xs d) ∙ h

  pub kept_without : (j : K) (xs : List X) (k : K) (t : X) → find cmp key k xs ≡ Some t → (j ≡ k) ⊎ (find cmp key k (without cmp key j xs) ≡ Some t)
  kept_without j xs k t h = by (split j k)
    where
      by : (j ≡ k) ⊎ (is_eq (cmp j k) ≡ false) → (j ≡ k) ⊎ (find cmp key k (without cmp key j xs) ≡ Some t)
      by (inl e) = inl e
      by (inr d) = inr (find-without_other o key j k xs d ∙ h)

  pub after_less : (x : X) (xs : List X) (k : K) (y : X) → IsAfter cmp key x xs → find cmp key k xs ≡ Some y → cmp (key x) (key y) ≡ Less
  after_less x [] k y a h = absurd (none-some y h)
  after_less x (z ∷ zs) k y a h = by (cmp (key z) k) h (after_less x zs k y a.1)
    where
      by : (r : Ordering) → (if is_eq r then Some z else find cmp key k zs) ≡ Some y → (find cmp key k zs ≡ Some y → cmp (key x) (key y) ≡ Less) → cmp (key x) (key y) ≡ Less
      by Less h rest = rest h
      by Equal h rest = ap (λ w. cmp (key x) (key w)) (sym (same_Some z y h)) ∙ a.0
      by Greater h rest = rest h

  -- rows in order are each found by their own keys
  pub each_found : (xs : List X) → IsRising cmp key xs → (P : X → Type 0) → ((x : X) → find cmp key (key x) xs ≡ Some x → P x) → EachOf P xs
  each_found [] r P h = tt
  each_found (x ∷ xs) r P h =
      (h x (rw (tied_itself o (key x)) refl), each_found xs r.1 P (λ y e. h y (let less = after_less x xs (key y) y r.0 e in rw less e)))

  later_found : (x : X) (xs : List X) (y : X) → IsAfter cmp key x xs → find cmp key (key y) xs ≡ Some y → find cmp key (key y) (x ∷ xs) ≡ Some y
  later_found x xs y a e = let less = after_less x xs (key y) y a e in rw less e

  -- and so are the two of each pair, whose keys differ
  pub apart_by : (xs : List X) → IsRising cmp key xs → (P : X → X → Type 0) → ((x y : X) → find cmp key (key x) xs ≡ Some x → find cmp key (key y) xs ≡ Some y → (key x ≡ key y → ⊥) → P x y)
      → EachPair P xs
  apart_by [] r P h = tt
  apart_by (x ∷ xs) r P h = (
    each_found xs r.1 (P x) (λ y e. h x y (rw (tied_itself o (key x)) refl) (later_found x xs y r.0 e) (differ y e)),
    apart_by xs r.1 P (λ a b ea eb ne. h a b (later_found x xs a r.0 ea) (later_found x xs b r.0 eb) ne),
  )
    where
      differ : (y : X) → find cmp key (key y) xs ≡ Some y → key x ≡ key y → ⊥
      differ y e same =
          let less = after_less x xs (key y) y r.0 e in
          true≢false (ap is_lt (sym less ∙ ap (λ j. cmp (key x) j) (sym same) ∙ tied_itself o (key x)))

  pub each_later : (x : X) (xs : List X) → IsRising cmp key (x ∷ xs) → (P : X → Type 0) → ((y : X) → cmp (key x) (key y) ≡ Less → find cmp key (key y) (x ∷ xs) ≡ Some y → P y) → EachOf P xs
  each_later x xs r P h = each_found xs r.1 P (λ y e. let less = after_less x xs (key y) y r.0 e in h y less (rw less e))

module _ {K X : Type 0} (cmp : K → K → Ordering) (key : X → K) where
  pub found_some : (P : X → Type 0) (k : K) (xs : List X) (x : X) → find cmp key k xs ≡ Some x → P x → SomeOf P xs
  found_some P k [] x h p = absurd (none-some x h)
  found_some P k (y ∷ ys) x h p = by (is_eq (cmp (key y) k)) h (λ e. found_some P k ys x e p)
    where
      by : (r : Bool) → (if r then Some y else find cmp key k ys) ≡ Some x → (find cmp key k ys ≡ Some x → SomeOf P ys) → P y ⊎ SomeOf P ys
      by true h rest = inl (subst P (sym (same_Some y x h)) p)
      by false h rest = inr (rest h)

  pub any_at : (p : X → Bool) (k : K) (xs : List X) (x : X) → list_any p xs ≡ false → find cmp key k xs ≡ Some x → p x ≡ false
  any_at p k [] x none h = absurd (none-some x h)
  any_at p k (y ∷ ys) x none h = by (is_eq (cmp (key y) k)) (p y) refl none h (λ n e. any_at p k ys x n e)
    where
      by : (r : Bool) (b : Bool) → p y ≡ b → (b || list_any p ys) ≡ false → (if r then Some y else find cmp key k ys) ≡ Some x
          → (list_any p ys ≡ false → find cmp key k ys ≡ Some x → p x ≡ false) → p x ≡ false
      by r true e none h rest = absurd (true≢false none)
      by true false e none h rest = ap p (sym (same_Some y x h)) ∙ e
      by false false e none h rest = rest none h
