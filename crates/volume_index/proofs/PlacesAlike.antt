-- Two lists that hold the same, each once, are of one length.
use Rattle.std.proofs.Common.{◌≡◌, inl, inr, Bool, true, false, true≢false, not, List, [], ◌∷◌, length, filter, arith, ◌∙◌, refl, sym, ap}
use Rattle.std.specs.List.{Contains}
use Rattle.std.specs.Cmp.{IsTotalOrder}
use Rattle.std.specs.declared.cmp.Ordering.{Ordering}
use Rattle.std.specs.Ordering.{is_eq, ordering_reverse}
use Rattle.std.proofs.lemmas.Cmp.{tied_itself}
use Rattle.plain_data.specs.Rows.{IsRising}
use Rattle.volume_index.proofs.HeldValues.{after_has, filter_held, held_filter, here, nothing, split, there}
use Rattle.kube_objects.proofs.RowPlaces.{rising_filter}
use Rattle.volume_index.proofs.PlacesCounted.{count_all, nothing_held, once}

module _ {K X : Type 0} {cmp : K → K → Ordering} (o : IsTotalOrder cmp) (key : X → K) where
  -- two rows of one key are one
  pub one_row : (u x : X) (ys : List X) → IsRising cmp key ys → Contains ys u → Contains ys x → is_eq (cmp (key u) (key x)) ≡ true → u ≡ x
  one_row u x [] r a b e = absurd (nothing u a)
  one_row u x (y ∷ ys) r a b e = elim (split y u ys a) [
    | inl is ↦ elim (split y x ys b) [
      | inl too ↦ sym is ∙ too
      | inr h ↦ absurd (true≢false (sym e ∙ ap (λ w. is_eq (cmp (key w) (key x))) (sym is) ∙ ap is_eq (after_has o key y x ys r.0 h)))
    ]
    | inr g ↦ elim (split y x ys b) [
      | inl too ↦ absurd (true≢false (sym e ∙ ap (λ w. is_eq (cmp (key u) (key w))) (sym too) ∙ ap is_eq (o.antisymm (key u) (key y)) ∙ ap
          (λ a. is_eq (ordering_reverse a)) (after_has o key y u ys r.0 g)))
      | inr h ↦ one_row u x ys r.1 g h e
    ]
  ]

module _ {K L X : Type 0} {cmp : K → K → Ordering} (o : IsTotalOrder cmp) (key : X → K) {other : L → L → Ordering} (p : IsTotalOrder other) (name : X → L) where
  pub same_length : (xs ys : List X) → IsRising cmp key xs → IsRising other name ys → ((u : X) → Contains xs u → Contains ys u) → ((u : X) → Contains ys u → Contains xs u) → length xs ≡ length ys
  same_length [] ys r s in_ys in_xs = sym (nothing_held ys (λ u c. nothing u (in_xs u c)))
  same_length (x ∷ xs) ys r s in_ys in_xs =
      let held = in_ys x (here x x xs refl) in
      let rest = same_length xs (filter apart ys) r.1 (rising_filter p name apart ys s)
      (λ u c. filter_held apart u ys (in_ys u (there x u xs c)) (differs u c (is_eq (other (name u) (name x))) refl))
      (λ u c. left u (held_filter apart u ys c)) in
      let all = count_all (λ u. true) ys (λ u c. refl) in
      let one = once p name (λ u. true) apart x ys s held refl (ap not (ap is_eq (tied_itself p (name x)))) (λ u h. sym (ap not h)) in
      omega (arith, rest, all, one)
    where
      apart : X → Bool
      apart u = not (is_eq (other (name u) (name x)))

      differs : (u : X) → Contains xs u → (b : Bool) → is_eq (other (name u) (name x)) ≡ b → apart u ≡ true
      differs u c false e = ap not e
      differs u c true e =
          let is : u ≡ x = one_row p name u x ys s (in_ys u (there x u xs c)) (in_ys x (here x x xs refl)) e in
          absurd (true≢false (sym (ap is_eq (tied_itself o (key x))) ∙ ap (λ w. is_eq (cmp (key x) (key w))) (sym is) ∙ ap is_eq (after_has o key x u xs r.0 c)))

      left : (u : X) → Contains ys u × (apart u ≡ true) → Contains xs u
      left u h = elim (split x u xs (in_xs u h.0)) [
        | inl is ↦ absurd (true≢false (sym h.1 ∙ ap apart (sym is) ∙ ap not (ap is_eq (tied_itself p (name x)))))
        | inr c ↦ c
      ]
