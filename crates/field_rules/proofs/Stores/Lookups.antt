-- A volume clashes with the object alone that has the UID of its reference.
use Rattle.std.proofs.Common.{
  ◌≡◌,
  ◌+◌,
  ℕ,
  suc,
  Bool,
  true,
  false,
  true≢false,
  not,
  cond,
  ◌&&◌,
  ◌||◌,
  List,
  [],
  ◌∷◌,
  length,
  Option,
  Some,
  None,
  is_none,
  nat_eq,
  nat_lt,
  position,
  map,
  refl,
  sym,
  ap,
  ◌∙◌,
  inl,
  inr,
  arith,
}
use Rattle.std.proofs.lemmas.Bool.{or_from}
use Rattle.std.proofs.lemmas.Bool.Decides.{nat_tests}
use Rattle.std.specs.Cmp.{nat_eq_equiv}
use Rattle.std.specs.List.{list_any, position_or_len}
use Rattle.kube_parts.specs.declared.uid.Uid.{Uid}
use Rattle.kube_objects.specs.declared.objects.Ref.{Ref}
use Rattle.kube_objects.specs.declared.objects.Object.{Object}
use Rattle.kube_objects.specs.declared.objects.Object.TheVariants.{Class, Node, Volume, Claim, Pod}
use Rattle.kube_objects.specs.Keys.{meta_of}
use Rattle.kube_objects.specs.Bindings.{is_ended, ref_uid}
use Rattle.binder_model.specs.Imports.{is_claim_named, names_another, reference_of, shares_uid}
use Rattle.model_laws.proofs.Lists.{IsIn}
use Rattle.safety_law.proofs.Law.Passing.{none_of}
use Rattle.field_rules.specs.Stores.Steps.Passing.{clash, clashes, number_of, placed_object, referred, refers_wrongly, uid_number}
use Rattle.field_rules.proofs.Stores.Faults.{none_in}

-- each of the objects has a UID
abbrev pub AreKnown : List Object → Type 0
AreKnown os = (a : Object) → IsIn a os → is_none (meta_of a).uid ≡ false

-- no number of a UID twice
abbrev pub AreApart : List Object → Type 0
AreApart [] = Unit {0}
AreApart (o ∷ os) = (list_any (nat_eq (uid_number o)) (map uid_number os) ≡ false) × AreApart os

-- UIDs are shared where their numbers are one
pub shares_number : (x y : Option Uid) → is_none x ≡ false → is_none y ≡ false → shares_uid x y ≡ nat_eq (number_of x) (number_of y)
shares_number None y e f = absurd (true≢false e)
shares_number (Some u) None e f = absurd (true≢false f)
shares_number (Some u) (Some w) e f = nat_eq_equiv.symm w.0 u.0

-- two tests that answer the same of each element
pub alike : {X : Type 0} (p q : X → Bool) (xs : List X) → ((x : X) → IsIn x xs → p x ≡ q x) → list_any p xs ≡ list_any q xs
alike p q [] same = refl
alike p q (x ∷ xs) same = ap (λ b. b || list_any p xs) (same x (inl refl)) ∙ ap (λ b. q x || b) (alike p q xs (λ y h. same y (inr h)))

-- one test of what a list is mapped to, and another of the list
pub mapped : {X Y : Type 0} (f : X → Y) (p : Y → Bool) (q : X → Bool) (xs : List X) → ((x : X) → IsIn x xs → p (f x) ≡ q x) → list_any p (map f xs) ≡ list_any q xs
mapped f p q [] same = refl
mapped f p q (x ∷ xs) same = ap (λ b. b || list_any p (map f xs)) (same x (inl refl)) ∙ ap (λ b. q x || b) (mapped f p q xs (λ y h. same y (inr h)))

-- ---- clashes are between a volume and the object that has the UID of its reference

names_apart : (r : Option Ref) (o : Object) → shares_uid (ref_uid r) (meta_of o).uid ≡ false → names_another r o ≡ false
names_apart None o e = refl
names_apart (Some r) o e = ap (λ b. b && not (is_claim_named r o)) e

ended_apart : (a s c : Bool) → s ≡ false → (a && s && c) ≡ false
ended_apart true s c e = ap (λ b. b && c) e
ended_apart false s c e = refl

clash_apart : (v o : Object) → shares_uid (ref_uid (reference_of v)) (meta_of o).uid ≡ false → clash v o ≡ false
clash_apart (Class x) o e = refl
clash_apart (Node x) o e = refl
clash_apart (Claim x) o e = refl
clash_apart (Pod x) o e = refl
clash_apart (Volume v) (Class x) e = or_from _ _ (names_apart v.claim_ref (Class x) e) refl
clash_apart (Volume v) (Node x) e = or_from _ _ (names_apart v.claim_ref (Node x) e) refl
clash_apart (Volume v) (Volume x) e = or_from _ _ (names_apart v.claim_ref (Volume x) e) refl
clash_apart (Volume v) (Pod x) e = or_from _ _ (names_apart v.claim_ref (Pod x) e) refl
clash_apart (Volume v) (Claim c) e = or_from _ _ (names_apart v.claim_ref (Claim c) e) (ended_apart (is_ended v.phase) _ _ e)

-- ---- the place of a UID

first : (p : ℕ → Bool) (x : ℕ) (xs : List ℕ) (o : Object) (os : List Object) → p x ≡ true → placed_object (position p (x ∷ xs)) (o ∷ os) ≡ Some o
first p x xs o os e = rw (e, some) refl
  where
    some : nat_lt 0 (suc (length xs)) ≡ true
    some = grind (arith, nat_tests)

later : (p : ℕ → Bool) (x : ℕ) (xs : List ℕ) (o : Object) (os : List Object) → p x ≡ false → placed_object (position p (x ∷ xs)) (o ∷ os) ≡ placed_object (position p xs) os
later p x xs o os e = rw (e, next, less) (by (nat_lt (position_or_len p xs) (length xs)))
  where
    next : 1 + position_or_len p xs ≡ suc (position_or_len p xs)
    next = omega arith

    less : nat_lt (suc (position_or_len p xs)) (suc (length xs)) ≡ nat_lt (position_or_len p xs) (length xs)
    less = grind (arith, nat_tests)

    by : (b : Bool) → placed_object (cond b (Some (suc (position_or_len p xs))) None) (o ∷ os) ≡ placed_object (cond b (Some (position_or_len p xs)) None) os
    by true = refl
    by false = refl

-- ---- the object that is looked up is the one with which the volume may clash

module _ (v : Object) (u : Uid) (is : ref_uid (reference_of v) ≡ Some u) where
  other : (o : Object) → is_none (meta_of o).uid ≡ false → nat_eq u.0 (uid_number o) ≡ false → clash v o ≡ false
  other o known e = clash_apart v o (ap (λ r. shares_uid r (meta_of o).uid) is ∙ shares_number (Some u) (meta_of o).uid refl known ∙ e)

  others : (o : Object) (os : List Object) → nat_eq u.0 (uid_number o) ≡ true → list_any (nat_eq (uid_number o)) (map uid_number os) ≡ false → AreKnown os → list_any (clash v) os ≡ false
  others o os same apart known = none_in (clash v) os (λ a h. other a (known a h) (from a h))
    where
      tests : list_any (λ a. nat_eq (uid_number o) (uid_number a)) os ≡ false
      tests = sym (mapped uid_number (nat_eq (uid_number o)) (λ a. nat_eq (uid_number o) (uid_number a)) os (λ a h. refl)) ∙ apart

      from : (a : Object) → IsIn a os → nat_eq u.0 (uid_number a) ≡ false
      from a h = nat_eq_equiv.congr u.0 (uid_number o) (uid_number a) same ∙ none_of (λ b. nat_eq (uid_number o) (uid_number b)) os a h tests

  found : (os : List Object) → AreApart os → AreKnown os → clashes v (placed_object (position (nat_eq u.0) (map uid_number os)) os) ≡ list_any (clash v) os
  found [] apart known = refl
  found (o ∷ os) apart known = by (nat_eq u.0 (uid_number o)) refl (found os apart.1 (λ a h. known a (inr h)))
    where
      by : (b : Bool) → nat_eq u.0 (uid_number o) ≡ b → clashes v (placed_object (position (nat_eq u.0) (map uid_number os)) os) ≡ list_any (clash v) os
          → clashes v (placed_object (position (nat_eq u.0) (map uid_number (o ∷ os))) (o ∷ os)) ≡ list_any (clash v) (o ∷ os)
      by true e more = ap (clashes v) (first (nat_eq u.0) (uid_number o) (map uid_number os) o os e) ∙ sym (alone (clash v o) (others o os e apart.0 (λ a h. known a (inr h))))
        where
          alone : (b : Bool) → list_any (clash v) os ≡ false → (b || list_any (clash v) os) ≡ b
          alone true none = refl
          alone false none = none
      by false e more =
          ap (clashes v) (later (nat_eq u.0) (uid_number o) (map uid_number os) o os e) ∙ more
          ∙ sym (ap (λ b. b || list_any (clash v) os) (other o (known o (inl refl)) e))

pub looked_up : (os : List Object) (v : Object) → AreApart os → AreKnown os → refers_wrongly (map uid_number os) os v ≡ list_any (clash v) os
looked_up os v apart known = by (ref_uid (reference_of v)) refl
  where
    by : (r : Option Uid) → ref_uid (reference_of v) ≡ r → clashes v (referred (map uid_number os) os r) ≡ list_any (clash v) os
    by None is = sym (none_in (clash v) os (λ a h. clash_apart v a (ap (λ r. shares_uid r (meta_of a).uid) is)))
    by (Some u) is = found v u is os apart known
