-- What stands at a place from the start of a level on.
use Rattle.std.proofs.Common.{◌≡◌, ℕ, zero, suc, ◌+◌, ◌<◌, ◌≤◌, ◌==◌, List, [], ◌∷◌, length, get_or, Bool, true, false, Option, Some, None, refl, sym, ◌∙◌, ap, subst, arith, if◌then◌else◌}
use Rattle.std.specs.Prelude.{slice_get}
use Rattle.std.specs.List.{filter}
use Rattle.std.specs.List.Sorted.{IsNonDecreasingBy}
use Rattle.std.proofs.lemmas.Bool.Decides.{nat_tests}
use Rattle.std.proofs.lemmas.Option.{get_or_from_slice_get, slice_get_past, slice_get_within}
use Rattle.kube_parts.specs.declared.parts.Kind.{Kind}
use Rattle.kube_objects.specs.declared.objects.Object.{Object}
use Rattle.kube_objects.specs.Keys.{AreRows, IsKindStart, key_cmp, key_of, kind_index, kind_of, rows_of, same_kind}
use Rattle.kube_objects.proofs.KeyOrder.{kinds_up}
use Rattle.kube_objects.proofs.KindRows.{IsStart, levels_rise, tail_at, tail_of}

module _ {X : Type 0} (level : X → ℕ) (k : ℕ) where
  abbrev pub of_level : List X → List X
  of_level xs = filter (λ x. level x == k) xs

  rest_rises : (y : X) (ys : List X) → IsNonDecreasingBy level (y ∷ ys) → IsNonDecreasingBy level ys
  rest_rises y ys r i j d le lt = r (suc i) (suc j) d (omega arith) (omega arith)

  -- where the first is above the level, so are all
  none_above : (xs : List X) → ((j : ℕ) (d : X) → j < length xs → k < level (get_or xs j d)) → of_level xs ≡ []
  none_above [] above = refl
  none_above (y ∷ ys) above =
      let first : k < level y = above 0 y (omega arith) in
      let other : (level y == k) ≡ false = grind (arith, nat_tests) in
      rw other (none_above ys (λ j d lt. above (suc j) d (omega arith)))

  -- an element, if it is of the level
  abbrev pub kept : Option X → Option X
  kept None = None
  kept (Some x) = if level x == k then Some x else None

  kept_here : (x : X) → (level x == k) ≡ true → kept (Some x) ≡ Some x
  kept_here x e = rw e refl

  kept_none : (x : X) → (level x == k) ≡ false → kept (Some x) ≡ None
  kept_none x e = rw e refl

  -- where all are above the level, none is of it
  none_kept : (xs : List X) (n : ℕ) → ((j : ℕ) (d : X) → j < length xs → k < level (get_or xs j d)) → kept (slice_get xs n) ≡ None
  none_kept xs n above = by (slice_get xs n) refl
    where
      by : (o : Option X) → slice_get xs n ≡ o → kept o ≡ None
      by None at = refl
      by (Some x) at =
          let more : k < level x = subst (λ (z : X). k < level z) (get_or_from_slice_get xs n x x at) (above n x (slice_get_within xs n x at)) in
          let other : (level x == k) ≡ false = grind (arith, nat_tests) in
          kept_none x other

  -- the elements of the level stand, one after another, from its start on
  pub seen_at : (xs : List X) (start place : ℕ) → IsNonDecreasingBy level xs → IsStart level k xs start → start ≤ length xs → slice_get (of_level xs) place ≡ kept (slice_get xs (start + place))
  seen_at [] start place r s le = slice_get_past [] place (omega arith) ∙ sym (ap kept (slice_get_past [] (start + place) (omega arith)))
  seen_at (y ∷ ys) zero place r s le = by (level y == k) refl place (λ p. seen_at ys zero p (rest_rises y ys r) (tail_at level k y ys s) (omega arith))
    where
      by : (b : Bool) → (level y == k) ≡ b → (p : ℕ) → ((q : ℕ) → slice_get (of_level ys) q ≡ kept (slice_get ys (zero + q))) → slice_get (of_level (y ∷ ys)) p ≡ kept (slice_get (y ∷ ys) (zero + p))
      by true e zero rest = rw e refl
      by true e (suc p) rest =
          let next : zero + suc p ≡ suc (zero + p) = omega arith in
          rw (e, next) (rest p)
      by false e p rest =
          let least : k ≤ level y = s.1 0 y (omega arith) (omega arith) in
          let first : k < level y = grind (arith, nat_tests) in
          let above : (j : ℕ) (d : X) → j < length (y ∷ ys) → k < level (get_or (y ∷ ys) j d) = λ j d lt. (let up = r 0 j d (omega arith) lt in omega arith) in
          rw (none_above (y ∷ ys) above) (slice_get_past [] p (omega arith) ∙ sym (none_kept (y ∷ ys) (zero + p) above))
  seen_at (y ∷ ys) (suc i) place r s le =
      let below : level y < k = s.0 0 y (omega arith) (omega arith) in
      let other : (level y == k) ≡ false = grind (arith, nat_tests) in
      let next : suc i + place ≡ suc (i + place) = omega arith in
      rw (other, next) (seen_at ys i place (rest_rises y ys r) (tail_of level k y ys i s) (omega arith))

-- the objects of a kind, by their places from its start on
module _ (rows : List Object) (order : AreRows rows) (kind : Kind) (start place : ℕ) (begins : IsKindStart (kind_index kind) rows start) (within : start ≤ length rows) where
  abbrev pub object_level : Object → ℕ
  object_level o = kind_index (kind_of o)

  seen : slice_get (rows_of kind rows) place ≡ kept object_level (kind_index kind) (slice_get rows (start + place))
  seen = seen_at object_level (kind_index kind) rows start place (levels_rise key_cmp key_of object_level (λ x y e. kinds_up (key_of x) (key_of y) e) rows order) begins within

  pub none_past : length rows ≤ start + place → None ≡ slice_get (rows_of kind rows) place
  none_past past = sym (seen ∙ ap (kept object_level (kind_index kind)) (slice_get_past rows (start + place) past))

  pub one_there : (o : Object) → slice_get rows (start + place) ≡ Some o → same_kind (kind_of o) kind ≡ true → Some o ≡ slice_get (rows_of kind rows) place
  one_there o at same = sym (seen ∙ (ap (kept object_level (kind_index kind)) at ∙ kept_here object_level (kind_index kind) o same))

  pub none_there : (o : Object) → slice_get rows (start + place) ≡ Some o → same_kind (kind_of o) kind ≡ false → None ≡ slice_get (rows_of kind rows) place
  none_there o at other = sym (seen ∙ (ap (kept object_level (kind_index kind)) at ∙ kept_none object_level (kind_index kind) o other))
