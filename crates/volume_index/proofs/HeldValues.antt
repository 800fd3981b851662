-- What a list holds after an edit.
use Rattle.std.proofs.Common.{ℕ, zero, suc, ◌≡◌, ◌<◌, ◌⊎◌, inl, inr, Bool, true, false, true≢false, List, [], ◌∷◌, length, arith, ◌∙◌, refl, sym, ap, cond, filter, if◌then◌else◌, Some, slice_get}
use Rattle.std.specs.List.{Contains}
use Rattle.std.specs.Prelude.{slice_index_or}
use Rattle.std.specs.Cmp.{IsTotalOrder}
use Rattle.std.specs.declared.cmp.Ordering.{Ordering}
use Rattle.std.specs.declared.cmp.Ordering.TheVariants.{Less, Equal, Greater}
use Rattle.std.specs.Ordering.{is_eq, is_lt, match_ordering}
use Rattle.std.proofs.lemmas.Cmp.{alike_right}
use Rattle.std.proofs.lemmas.Option.{get_or_from_slice_get, slice_get_within}
use Rattle.plain_data.specs.Rows.{IsAfter, IsRising, put, without}

module _ {X : Type 0} where
  -- what a list holds is its first, or is held by the rest
  pub split : (y u : X) (ys : List X) → Contains (y ∷ ys) u → (y ≡ u) ⊎ Contains ys u
  split y u ys c = by c.0 c.1 c.2
    where
      by : (k : ℕ) → k < length (y ∷ ys) → slice_index_or (y ∷ ys) k u ≡ u → (y ≡ u) ⊎ Contains ys u
      by zero lt e = inl e
      by (suc k) lt e = inr (k, omega arith, e)

  pub here : (y u : X) (ys : List X) → y ≡ u → Contains (y ∷ ys) u
  here y u ys e = (0, omega arith, e)

  pub there : (y u : X) (ys : List X) → Contains ys u → Contains (y ∷ ys) u
  there y u ys c = (suc c.0, (let lt = c.1 in omega arith), c.2)

  pub nothing : (u : X) → Contains [] u → ⊥
  nothing u c = let lt = c.1 in absurd (omega arith)

  -- what stands at a place is held
  pub held_at : (xs : List X) (k : ℕ) (x : X) → slice_get xs k ≡ Some x → Contains xs x
  held_at xs k x e = (k, slice_get_within xs k x e, get_or_from_slice_get xs k x x e)

  -- what passes a test, and nothing else, is held after it
  pub held_filter : (p : X → Bool) (u : X) (xs : List X) → Contains (filter p xs) u → Contains xs u × (p u ≡ true)
  held_filter p u [] c = absurd (nothing u c)
  held_filter p u (y ∷ ys) c = by (p y) refl c (held_filter p u ys)
    where
      by : (b : Bool) → p y ≡ b → Contains (cond b (y ∷ filter p ys) (filter p ys)) u → (Contains (filter p ys) u → Contains ys u × (p u ≡ true)) → Contains (y ∷ ys) u × (p u ≡ true)
      by true e c rest = elim (split y u (filter p ys) c) [
        | inl is ↦ (here y u ys is, ap p (sym is) ∙ e)
        | inr h ↦ (there y u ys (rest h).0, (rest h).1)
      ]
      by false e c rest = (there y u ys (rest c).0, (rest c).1)

  pub filter_held : (p : X → Bool) (u : X) (xs : List X) → Contains xs u → p u ≡ true → Contains (filter p xs) u
  filter_held p u [] c e = absurd (nothing u c)
  filter_held p u (y ∷ ys) c e = by (p y) refl (split y u ys c) (λ h. filter_held p u ys h e)
    where
      by : (b : Bool) → p y ≡ b → (y ≡ u) ⊎ Contains ys u → (Contains ys u → Contains (filter p ys) u) → Contains (cond b (y ∷ filter p ys) (filter p ys)) u
      by true is (inl same) rest = here y u (filter p ys) same
      by true is (inr h) rest = there y u (filter p ys) (rest h)
      by false is (inl same) rest = absurd (true≢false (sym e ∙ ap p (sym same) ∙ is))
      by false is (inr h) rest = rest h

module _ {X : Type 0} {cmp : X → X → Ordering} (o : IsTotalOrder cmp) where
  abbrev pub it : X → X
  it x = x

  pub after_held : (y u : X) (ys : List X) → IsAfter cmp it y ys → Contains ys u → cmp y u ≡ Less
  after_held y u [] a c = absurd (nothing u c)
  after_held y u (z ∷ zs) a c = elim (split z u zs c) [
    | inl is ↦ ap (cmp y) (sym is) ∙ a.0
    | inr h ↦ after_held y u zs a.1 h
  ]

  -- what is after one that is not before the key is apart from the key
  apart_above : (y x u : X) → cmp y u ≡ Less → is_lt (cmp y x) ≡ false → is_eq (cmp u x) ≡ false
  apart_above y x u less le = by (cmp u x) refl
    where
      by : (r : Ordering) → cmp u x ≡ r → is_eq r ≡ false
      by Less e = refl
      by Equal e = absurd (true≢false (sym (ap is_lt less) ∙ ap is_lt (alike_right o u x y e) ∙ le))
      by Greater e = refl

  pub put_held : (x u : X) (xs : List X) → IsRising cmp it xs → Contains (put cmp it x xs) u → (u ≡ x) ⊎ (Contains xs u × (is_eq (cmp u x) ≡ false))
  put_held x u [] r c = elim (split x u [] c) [
    | inl is ↦ inl (sym is)
    | inr h ↦ absurd (nothing u h)
  ]
  put_held x u (y ∷ ys) r c = by (cmp y x) refl c (put_held x u ys r.1)
    where
      by : (a : Ordering) → cmp y x ≡ a → Contains (match_ordering a (y ∷ put cmp it x ys) (x ∷ ys) (x ∷ y ∷ ys)) u
          → (Contains (put cmp it x ys) u → (u ≡ x) ⊎ (Contains ys u × (is_eq (cmp u x) ≡ false)))
          → (u ≡ x) ⊎ (Contains (y ∷ ys) u × (is_eq (cmp u x) ≡ false))
      by Less e c rest = elim (split y u (put cmp it x ys) c) [
        | inl is ↦ inr (here y u ys is, ap (λ v. is_eq (cmp v x)) (sym is) ∙ ap is_eq e)
        | inr h ↦ elim (rest h) [
          | inl same ↦ inl same
          | inr p ↦ inr (there y u ys p.0, p.1)
        ]
      ]
      by Equal e c rest = elim (split x u ys c) [
        | inl is ↦ inl (sym is)
        | inr h ↦ inr (there y u ys h, apart_above y x u (after_held y u ys r.0 h) (ap is_lt e))
      ]
      by Greater e c rest = elim (split x u (y ∷ ys) c) [
        | inl is ↦ inl (sym is)
        | inr h ↦ elim (split y u ys h) [
          | inl is ↦ inr (h, ap (λ v. is_eq (cmp v x)) (sym is) ∙ ap is_eq e)
          | inr k ↦ inr (h, apart_above y x u (after_held y u ys r.0 k) (ap is_lt e))
        ]
      ]

  pub put_there : (x : X) (xs : List X) → Contains (put cmp it x xs) x
  put_there x [] = here x x [] refl
  put_there x (y ∷ ys) = by (cmp y x) (put_there x ys)
    where
      by : (a : Ordering) → Contains (put cmp it x ys) x → Contains (match_ordering a (y ∷ put cmp it x ys) (x ∷ ys) (x ∷ y ∷ ys)) x
      by Less rest = there y x (put cmp it x ys) rest
      by Equal rest = here x x ys refl
      by Greater rest = here x x (y ∷ ys) refl

  pub held_put : (x u : X) (xs : List X) → Contains xs u → is_eq (cmp u x) ≡ false → Contains (put cmp it x xs) u
  held_put x u [] c e = absurd (nothing u c)
  held_put x u (y ∷ ys) c e = by (cmp y x) refl (split y u ys c) (λ h. held_put x u ys h e)
    where
      by : (a : Ordering) → cmp y x ≡ a → (y ≡ u) ⊎ Contains ys u → (Contains ys u → Contains (put cmp it x ys) u) → Contains (match_ordering a (y ∷ put cmp it x ys) (x ∷ ys) (x ∷ y ∷ ys)) u
      by Less is (inl same) rest = here y u (put cmp it x ys) same
      by Less is (inr h) rest = there y u (put cmp it x ys) (rest h)
      by Equal is (inl same) rest = absurd (true≢false (sym (ap is_eq is) ∙ ap (λ v. is_eq (cmp v x)) same ∙ e))
      by Equal is (inr h) rest = there x u ys h
      by Greater is (inl same) rest = there x u (y ∷ ys) (here y u ys same)
      by Greater is (inr h) rest = there x u (y ∷ ys) (there y u ys h)

  pub without_held : (k u : X) (xs : List X) → IsRising cmp it xs → Contains (without cmp it k xs) u → Contains xs u × (is_eq (cmp u k) ≡ false)
  without_held k u [] r c = absurd (nothing u c)
  without_held k u (y ∷ ys) r c = by (cmp y k) refl c (without_held k u ys r.1)
    where
      by : (a : Ordering) → cmp y k ≡ a → Contains (if is_eq a then ys else y ∷ without cmp it k ys) u
          → (Contains (without cmp it k ys) u → Contains ys u × (is_eq (cmp u k) ≡ false)) → Contains (y ∷ ys) u × (is_eq (cmp u k) ≡ false)
      by Less e c rest = elim (split y u (without cmp it k ys) c) [
        | inl is ↦ (here y u ys is, ap (λ v. is_eq (cmp v k)) (sym is) ∙ ap is_eq e)
        | inr h ↦ (there y u ys (rest h).0, (rest h).1)
      ]
      by Equal e c rest = (there y u ys c, apart_above y k u (after_held y u ys r.0 c) (ap is_lt e))
      by Greater e c rest = elim (split y u (without cmp it k ys) c) [
        | inl is ↦ (here y u ys is, ap (λ v. is_eq (cmp v k)) (sym is) ∙ ap is_eq e)
        | inr h ↦ (there y u ys (rest h).0, (rest h).1)
      ]

  pub held_without : (k u : X) (xs : List X) → Contains xs u → is_eq (cmp u k) ≡ false → Contains (without cmp it k xs) u
  held_without k u [] c e = absurd (nothing u c)
  held_without k u (y ∷ ys) c e = by (cmp y k) refl (split y u ys c) (λ h. held_without k u ys h e)
    where
      by : (a : Ordering) → cmp y k ≡ a → (y ≡ u) ⊎ Contains ys u → (Contains ys u → Contains (without cmp it k ys) u) → Contains (if is_eq a then ys else y ∷ without cmp it k ys) u
      by Less is (inl same) rest = here y u (without cmp it k ys) same
      by Less is (inr h) rest = there y u (without cmp it k ys) (rest h)
      by Equal is (inl same) rest = absurd (true≢false (sym (ap is_eq is) ∙ ap (λ v. is_eq (cmp v k)) same ∙ e))
      by Equal is (inr h) rest = h
      by Greater is (inl same) rest = here y u (without cmp it k ys) same
      by Greater is (inr h) rest = there y u (without cmp it k ys) (rest h)

module _ {K X : Type 0} {cmp : K → K → Ordering} (o : IsTotalOrder cmp) (key : X → K) where
  pub after_has : (y u : X) (ys : List X) → IsAfter cmp key y ys → Contains ys u → cmp (key y) (key u) ≡ Less
  after_has y u [] a c = absurd (nothing u c)
  after_has y u (z ∷ zs) a c = elim (split z u zs c) [
    | inl is ↦ ap (λ w. cmp (key y) (key w)) (sym is) ∙ a.0
    | inr h ↦ after_has y u zs a.1 h
  ]
