-- How many volumes stand before one.
use Rattle.std.proofs.Common.{◌≡◌, ◌≢◌, ◌<◌, ◌≤◌, ◌+◌, inl, inr, Bool, true, false, true≢false, not, List, [], ◌∷◌, length, filter, cond, arith, ◌∙◌, refl, sym, ap, subst}
use Rattle.std.specs.List.{Contains}
use Rattle.std.specs.Cmp.{IsTotalOrder}
use Rattle.std.specs.declared.cmp.Ordering.{Ordering}
use Rattle.std.specs.declared.cmp.Ordering.TheVariants.{Less, Equal, Greater}
use Rattle.std.specs.Ordering.{is_eq, is_gt, is_lt, nat_cmp, ordering_reverse, ordering_then}
use Rattle.std.proofs.lemmas.Cmp.{tied_itself}
use Rattle.plain_data.specs.Pairs.{text_cmp}
use Rattle.plain_data.specs.Rows.{IsRising}
use Rattle.kube_objects.specs.declared.objects.Volume.{Volume as VolumeData}
use Rattle.kube_objects.specs.declared.key.Key.{Key}
use Rattle.kube_objects.specs.declared.objects.Object.TheVariants.{Volume}
use Rattle.kube_objects.specs.Keys.{key_cmp, key_of}
use Rattle.volume_index.specs.VolumeOrders.{name_cmp, need_cmp}
use Rattle.volume_index.proofs.HeldValues.{after_has, here, nothing, split, there}
use Rattle.kube_objects.proofs.KeyOrder.{key_cmp_total}
use Rattle.volume_index.proofs.VolumeOrders.{before_last, both_equal, need_total}
use Rattle.volume_index.specs.VolumePlaces.{count_before}

module _ {X : Type 0} where
  longer : (a b : Bool) (y : X) (xs ys : List X) → a ≡ b → length xs ≡ length ys → length (cond a (y ∷ xs) xs) ≡ length (cond b (y ∷ ys) ys)
  longer true true y xs ys e same = omega arith
  longer true false y xs ys e same = absurd (true≢false e)
  longer false true y xs ys e same = absurd (true≢false (sym e))
  longer false false y xs ys e same = same

  -- what passes two tests alike counts alike
  pub count_alike : (p q : X → Bool) (xs : List X) → ((u : X) → Contains xs u → p u ≡ q u) → length (filter p xs) ≡ length (filter q xs)
  count_alike p q [] alike = refl
  count_alike p q (y ∷ ys) alike = longer (p y) (q y) y (filter p ys) (filter q ys) (alike y (here y y ys refl)) (count_alike p q ys (λ u c. alike u (there y u ys c)))

  pub nothing_held : (xs : List X) → ((u : X) → Contains xs u → ⊥) → length xs ≡ 0
  nothing_held [] none = refl
  nothing_held (y ∷ ys) none = absurd (none y (here y y ys refl))

  pub count_none : (p : X → Bool) (xs : List X) → ((u : X) → Contains xs u → p u ≡ false) → length (filter p xs) ≡ 0
  count_none p [] none = refl
  count_none p (y ∷ ys) none = by (p y) (none y (here y y ys refl)) (count_none p ys (λ u c. none u (there y u ys c)))
    where
      by : (b : Bool) → b ≡ false → length (filter p ys) ≡ 0 → length (cond b (y ∷ filter p ys) (filter p ys)) ≡ 0
      by true e rest = absurd (true≢false e)
      by false e rest = rest

  pub count_all : (p : X → Bool) (xs : List X) → ((u : X) → Contains xs u → p u ≡ true) → length (filter p xs) ≡ length xs
  count_all p [] all = refl
  count_all p (y ∷ ys) all = by (p y) (all y (here y y ys refl)) (count_all p ys (λ u c. all u (there y u ys c)))
    where
      by : (b : Bool) → b ≡ true → length (filter p ys) ≡ length ys → length (cond b (y ∷ filter p ys) (filter p ys)) ≡ length (y ∷ ys)
      by true e rest = omega arith
      by false e rest = absurd (true≢false (sym e))

  pub count_within : (p : X → Bool) (xs : List X) → length (filter p xs) ≤ length xs
  count_within p [] = omega arith
  count_within p (y ∷ ys) = by (p y) (count_within p ys)
    where
      by : (b : Bool) → length (filter p ys) ≤ length ys → length (cond b (y ∷ filter p ys) (filter p ys)) ≤ length (y ∷ ys)
      by true rest = omega arith
      by false rest = omega arith

module _ {K X : Type 0} {cmp : K → K → Ordering} (o : IsTotalOrder cmp) (key : X → K) where
  -- where two tests differ at one row alone, which the first passes, the first passes once more
  pub once : (p q : X → Bool) (w : X) (xs : List X) → IsRising cmp key xs → Contains xs w → p w ≡ true → q w ≡ false
      → ((u : X) → is_eq (cmp (key u) (key w)) ≡ false → p u ≡ q u) → length (filter p xs) ≡ length (filter q xs) + 1
  once p q w [] r c passes fails alike = absurd (nothing w c)
  once p q w (y ∷ ys) r c passes fails alike = elim (split y w ys c) [
    | inl same ↦ at (p y) (q y) (ap p same ∙ passes) (ap q same ∙ fails) (count_alike p q ys (λ u h. alike u (later u (subst (λ z. cmp (key z) (key u) ≡ Less) same (after_has o key y u ys r.0 h)))))
    | inr h ↦ past (p y) (q y) (alike y (ap is_eq (after_has o key y w ys r.0 h))) (once p q w ys r.1 h passes fails alike)
  ]
    where
      later : (u : X) → cmp (key w) (key u) ≡ Less → is_eq (cmp (key u) (key w)) ≡ false
      later u e = ap is_eq (o.antisymm (key u) (key w)) ∙ ap (λ r. is_eq (ordering_reverse r)) e

      at : (a b : Bool) → a ≡ true → b ≡ false → length (filter p ys) ≡ length (filter q ys) → length (cond a (y ∷ filter p ys) (filter p ys)) ≡ length (cond b (y ∷ filter q ys) (filter q ys)) + 1
      at true false e f rest = omega arith
      at true true e f rest = absurd (true≢false f)
      at false b e f rest = absurd (true≢false (sym e))

      past : (a b : Bool) → a ≡ b → length (filter p ys) ≡ length (filter q ys) + 1 → length (cond a (y ∷ filter p ys) (filter p ys)) ≡ length (cond b (y ∷ filter q ys) (filter q ys)) + 1
      past true true e rest = omega arith
      past true false e rest = absurd (true≢false e)
      past false true e rest = absurd (true≢false (sym e))
      past false false e rest = rest

-- ---- volumes

-- the key of a volume
abbrev pub key_of_volume : VolumeData → Key
key_of_volume v = key_of (Volume v)

abbrev upto : VolumeData → VolumeData → Bool
upto w u = not (is_gt (need_cmp u w))

abbrev below : VolumeData → VolumeData → Bool
below w u = is_lt (need_cmp u w)

itself : (w : VolumeData) → need_cmp w w ≡ Equal
itself w = tied_itself need_total w

-- what stands alike has one key
one_key : (u w : VolumeData) → need_cmp u w ≡ Equal → is_eq (key_cmp (key_of_volume u) (key_of_volume w)) ≡ true
one_key u w e =
    let names = both_equal (text_cmp u.meta.name w.meta.name) (text_cmp u.meta.namespace w.meta.namespace) (ap is_eq (both_equal _ (name_cmp u w) (ap is_eq e)).1) in
    λ i. is_eq (ordering_then (ordering_then (nat_cmp 2 2) (names.1 i)) (names.0 i))

differs : (u w : VolumeData) → is_eq (key_cmp (key_of_volume u) (key_of_volume w)) ≡ false → upto w u ≡ below w u
differs u w apart = by (need_cmp u w) refl
  where
    by : (r : Ordering) → need_cmp u w ≡ r → not (is_gt r) ≡ is_lt r
    by Less e = refl
    by Equal e = absurd (true≢false (sym (one_key u w e) ∙ apart))
    by Greater e = refl

not_below : (a b : Ordering) → b ≡ ordering_reverse a → a ≢ Greater → is_lt b ≡ false
not_below Less b e h = ap is_lt e
not_below Equal b e h = ap is_lt e
not_below Greater b e h = absurd (h refl)

module _ (xs : List VolumeData) (r : IsRising key_cmp key_of_volume xs) (w : VolumeData) (held : Contains xs w) where
  -- one more stands not after it than before it
  upto_is : length (filter (upto w) xs) ≡ count_before w xs + 1
  upto_is = once key_cmp_total key_of_volume (upto w) (below w) w xs r held (ap (λ a. not (is_gt a)) (itself w)) (ap is_lt (itself w)) (λ u apart. differs u w apart)

  pub before_within : count_before w xs < length xs
  before_within =
      let le = count_within (upto w) xs in
      let is = upto_is in
      omega (arith, le, is)

  -- before the next one stands one more
  pub before_next : (v : VolumeData) → is_lt (need_cmp w v) ≡ true
      → ((u : VolumeData) → Contains xs u → is_lt (need_cmp w u) ≡ true → need_cmp v u ≢ Greater) → count_before v xs ≡ count_before w xs + 1
  before_next v less first = count_alike (below v) (upto w) xs (λ u c. same u c) ∙ upto_is
    where
      same : (u : VolumeData) → Contains xs u → below v u ≡ upto w u
      same u c = by (need_cmp u w) refl
        where
          by : (a : Ordering) → need_cmp u w ≡ a → below v u ≡ not (is_gt a)
          by Less e = before_last need_total u w v (ap is_gt e) less
          by Equal e = before_last need_total u w v (ap is_gt e) less
          by Greater e =
              let up : is_lt (need_cmp w u) ≡ true = ap is_lt (need_total.antisymm w u) ∙ ap (λ a. is_lt (ordering_reverse a)) e in
              not_below (need_cmp v u) (need_cmp u v) (need_total.antisymm u v) (first u c up)

  -- where none stands behind it, it is the last
  pub none_behind : ((u : VolumeData) → Contains xs u → is_lt (need_cmp w u) ≡ true → ⊥) → length xs ≡ count_before w xs + 1
  none_behind none = sym (count_all (upto w) xs (λ u c. not_after u (need_cmp w u) refl (none u c))) ∙ upto_is
    where
      not_after : (u : VolumeData) (a : Ordering) → need_cmp w u ≡ a → (is_lt a ≡ true → ⊥) → upto w u ≡ true
      not_after u Less e never = absurd (never refl)
      not_after u Equal e never = ap (λ a. not (is_gt a)) (need_total.antisymm u w) ∙ ap (λ a. not (is_gt (ordering_reverse a))) e
      not_after u Greater e never = ap (λ a. not (is_gt a)) (need_total.antisymm u w) ∙ ap (λ a. not (is_gt (ordering_reverse a))) e

-- before the first of all stands none
pub before_first : (xs : List VolumeData) (v : VolumeData) → ((u : VolumeData) → Contains xs u → need_cmp v u ≢ Greater) → count_before v xs ≡ 0
before_first xs v first = count_none (below v) xs (λ u c. not_below (need_cmp v u) (need_cmp u v) (need_total.antisymm u v) (first u c))
