-- What passes after others passes alone, and what passes alone passes after those with which it does not clash.
use Rattle.std.proofs.Common.{◌≡◌, Bool, true, false, true≢false, ◌||◌, List, [], ◌∷◌, Option, Some, None, refl, sym, inl, inr}
use Rattle.std.proofs.lemmas.Bool.{or_parts, or_from}
use Rattle.std.specs.List.{list_any}
use Rattle.kube_parts.specs.declared.names.Field.{Field}
use Rattle.kube_parts.specs.declared.names.ImportFault.{ImportFault}
use Rattle.kube_objects.specs.declared.objects.Object.{Object}
use Rattle.kube_objects.specs.Keys.{key_of, meta_of, same_key}
use Rattle.binder_model.specs.Imports.{fault_if, fault_of_field, holds_of_pair, import_fault, is_ended_for, refers_to_another, shares_uid}
use Rattle.model_laws.proofs.Lists.{IsIn, none_some}
use Rattle.field_rules.specs.Stores.Steps.Passing.{clash}

-- no test holds of any element, so none is found
pub none_in : {X : Type 0} (p : X → Bool) (xs : List X) → ((x : X) → IsIn x xs → p x ≡ false) → list_any p xs ≡ false
none_in p [] h = refl
none_in p (x ∷ xs) h = or_from (p x) (list_any p xs) (h x (inl refl)) (none_in p xs (λ y k. h y (inr k)))

-- another test in the place of a test
into : (b c : Bool) (f : ImportFault) (m n : Option ImportFault) → (b ≡ false → c ≡ false) → (m ≡ None → n ≡ None) → fault_if b f m ≡ None → fault_if c f n ≡ None
unfolding fault_if
into true c f m n keep go e = none_some (sym e)
into false true f m n keep go e = absurd (true≢false (keep refl))
into false false f m n keep go e = go e

into_field : (f : Option Field) (m n : Option ImportFault) → (m ≡ None → n ≡ None) → fault_of_field f m ≡ None → fault_of_field f n ≡ None
unfolding fault_of_field
into_field (Some f) m n go e = none_some (sym e)
into_field None m n go e = go e

-- a test of pairs, of the object alone
own : (test : Object → Object → Bool) (before : List Object) (o : Object) → holds_of_pair test before o ≡ false → holds_of_pair test [] o ≡ false
own test before o e =
    or_from (test o o || test o o) false (or_parts (test o o || test o o) (list_any (λ other. test o other || test other o) before) e).0 refl

all : (test : Object → Object → Bool) (before : List Object) (o : Object) → ((a : Object) → IsIn a before → (test o a ≡ false) × (test a o ≡ false))
    → holds_of_pair test [] o ≡ false → holds_of_pair test before o ≡ false
all test before o none e =
    or_from (test o o || test o o) (list_any (λ other. test o other || test other o) before)
    (or_parts (test o o || test o o) false e).0
    (none_in (λ other. test o other || test other o) before (λ a h. or_from (test o a) (test a o) (none a h).0 (none a h).1))

pub passes_alone : (before : List Object) (o : Object) → import_fault before o ≡ None → import_fault [] o ≡ None
unfolding import_fault
passes_alone before o e =
    into _ _ _ _ _ (λ x. x) (into _ _ _ _ _ (λ x. x) (into _ _ _ _ _ (λ x. x) (into_field _ _ _
    (into _ _ _ _ _ (λ _. refl) (into _ _ _ _ _ (λ _. refl)
    (into _ _ _ _ _ (own refers_to_another before o) (into _ _ _ _ _ (own is_ended_for before o) (λ x. x)))))))) e

pub passes_after : (before : List Object) (o : Object) → import_fault [] o ≡ None
    → list_any (λ other. same_key (key_of other) (key_of o)) before ≡ false
    → list_any (λ other. shares_uid (meta_of o).uid (meta_of other).uid) before ≡ false
    → ((a : Object) → IsIn a before → (clash o a ≡ false) × (clash a o ≡ false))
    → import_fault before o ≡ None
unfolding import_fault
passes_after before o alone key uid apart =
    into _ _ _ _ _ (λ x. x) (into _ _ _ _ _ (λ x. x) (into _ _ _ _ _ (λ x. x) (into_field _ _ _
    (into _ _ _ _ _ (λ _. key) (into _ _ _ _ _ (λ _. uid)
    (into _ _ _ _ _ (all refers_to_another before o refers) (into _ _ _ _ _ (all is_ended_for before o ended) (λ x. x)))))))) alone
  where
    refers : (a : Object) → IsIn a before → (refers_to_another o a ≡ false) × (refers_to_another a o ≡ false)
    refers a h = ((or_parts (refers_to_another o a) (is_ended_for o a) (apart a h).0).0, (or_parts (refers_to_another a o) (is_ended_for a o) (apart a h).1).0)

    ended : (a : Object) → IsIn a before → (is_ended_for o a ≡ false) × (is_ended_for a o ≡ false)
    ended a h = ((or_parts (refers_to_another o a) (is_ended_for o a) (apart a h).0).1, (or_parts (refers_to_another a o) (is_ended_for a o) (apart a h).1).1)
