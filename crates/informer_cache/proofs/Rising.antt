-- Objects of which each stands before the next one.
use Rattle.std.proofs.Common.{ℕ, zero, suc, ◌≡◌, ◌∙◌, ◌+◌, ◌-◌, ◌≤◌, Bool, true, true≢false, ◌&&◌, List, [], ◌∷◌, length, drop, refl, sym, ap, subst, arith}
use Rattle.std.specs.declared.cmp.Ordering.{Ordering}
use Rattle.std.specs.declared.cmp.Ordering.TheVariants.{Less, Equal, Greater}
use Rattle.std.specs.Ordering.{is_lt}
use Rattle.std.specs.Prelude.{None, Some, slice_get}
use Rattle.std.proofs.lemmas.Bool.{and_parts}
use Rattle.plain_data.specs.Rows.{IsAfter}
use Rattle.kube_objects.specs.declared.objects.Object.{Object}
use Rattle.kube_objects.specs.Keys.{AreRows, key_cmp, key_of}
use Rattle.kube_objects.proofs.KeyOrder.{key_cmp_total}

-- each stands before the next one
abbrev pub is_rising : List Object → Bool
is_rising [] = true
is_rising (x ∷ []) = true
is_rising (x ∷ y ∷ os) = is_lt (key_cmp (key_of x) (key_of y)) && is_rising (y ∷ os)

less : (o : Ordering) → is_lt o ≡ true → o ≡ Less
less Less e = refl
less Equal e = absurd (true≢false (sym e))
less Greater e = absurd (true≢false (sym e))

after_less : (x y : Object) (os : List Object) → key_cmp (key_of x) (key_of y) ≡ Less → IsAfter key_cmp key_of y os → IsAfter key_cmp key_of x os
after_less x y [] h a = tt
after_less x y (z ∷ os) h a = (key_cmp_total.trans (key_of x) (key_of y) (key_of z) h a.0, after_less x y os h a.1)

-- so they are rows
pub rising_rows : (os : List Object) → is_rising os ≡ true → AreRows os
rising_rows [] e = tt
rising_rows (x ∷ []) e = (tt, tt)
rising_rows (x ∷ y ∷ os) e =
    let parts = and_parts (is_lt (key_cmp (key_of x) (key_of y))) (is_rising (y ∷ os)) e in
    let first = less (key_cmp (key_of x) (key_of y)) parts.0 in
    let rest = rising_rows (y ∷ os) parts.1 in
    ((first, after_less x y os first rest.0), rest)

one : (x y : Object) → Some x ≡ Some y → x ≡ y
one x y e = cc

none_some : {y : Object} → None ≡ Some y → ⊥
none_some e = cc

-- one look at a place and the next one
step : (os : List Object) (i : ℕ) (x y : Object) → slice_get os i ≡ Some x → slice_get os (suc i) ≡ Some y
    → is_lt (key_cmp (key_of x) (key_of y)) ≡ true → is_rising (drop (suc i) os) ≡ is_rising (drop i os)
step [] i x y at next h = absurd (none_some at)
step (a ∷ []) zero x y at next h = absurd (none_some next)
step (a ∷ b ∷ os) zero x y at next h =
    let first : is_lt (key_cmp (key_of a) (key_of b)) ≡ true =
    subst (λ u. is_lt (key_cmp (key_of u) (key_of b)) ≡ true) (sym (one a x at)) (subst (λ u. is_lt (key_cmp (key_of x) (key_of u)) ≡ true) (sym (one b y next)) h) in
    ap (λ t. t && is_rising (b ∷ os)) (sym first)
step (a ∷ os) (suc i) x y at next h = step os i x y at next h

-- what is left at the last place is in order
ends : (os : List Object) (i : ℕ) → length os ≤ i + 1 → is_rising (drop i os) ≡ true
ends [] zero le = refl
ends [] (suc i) le = refl
ends (a ∷ []) zero le = refl
ends (a ∷ b ∷ os) zero le = absurd (omega (arith, le))
ends (a ∷ os) (suc i) le = ends os i (omega (arith, le))

pub rising_step : (os : List Object) (place : ℕ) (x y : Object) → 1 ≤ place → slice_get os (place - 1) ≡ Some x → slice_get os place ≡ Some y
    → is_lt (key_cmp (key_of x) (key_of y)) ≡ true → is_rising (drop (place + 1 - 1) os) ≡ is_rising (drop (place - 1) os)
rising_step os place x y first at next h =
    let here : suc (place - 1) ≡ place = omega (arith, first) in
    let there : suc (place - 1) ≡ place + 1 - 1 = omega (arith, first) in
    ap (λ n. is_rising (drop n os)) (sym there) ∙ step os (place - 1) x y at (subst (λ n. slice_get os n ≡ Some y) (sym here) next) h

pub rising_end : (os : List Object) (place : ℕ) → 1 ≤ place → length os ≤ place → is_rising (drop (place - 1) os) ≡ is_rising os → AreRows os
rising_end os place first last same = rising_rows os (sym same ∙ ends os (place - 1) (omega (arith, first, last)))
