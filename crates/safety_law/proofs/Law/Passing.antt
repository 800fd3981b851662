-- What the tests of imports tell: of each import, and of each two of them.
use Rattle.std.proofs.Common.{sym, refl, subst, inl, inr, ap, ◌∙◌, true≢false, arith}
use Rattle.std.proofs.lemmas.Bool.{or_parts}
use Rattle.std.proofs.lemmas.Bool.Decides.{nat_tests}
use Rattle.std.specs.Prelude.{◌≡◌, ◌≤◌, Bool, true, false, ◌||◌, List, [], ◌∷◌, ◌++◌, Option, Some, None, is_some, is_none}
use Rattle.std.specs.List.{list_any}
use Rattle.kube_parts.specs.declared.uid.Uid.{Uid}
use Rattle.kube_objects.specs.declared.objects.Object.{Object}
use Rattle.kube_objects.specs.Keys.{meta_of, key_of, same_key}
use Rattle.kube_objects.specs.Bindings.{ref_uid, is_uid}
use Rattle.kube_objects.proofs.SameKeys.{same_key-Decides}
use Rattle.binder_model.specs.Fields.{create_fault}
use Rattle.binder_model.specs.Imports.{most_imported, serial_or_zero, reference_of, shares_uid, refers_to_another, is_ended_for, holds_of_pair, import_fault, PassAfter, ImportsPass}
use Rattle.std.proofs.lemmas.List.{append_assoc, append-nil}
use Rattle.safety_law.specs.Invariant.Writes.{IsIn}
use Rattle.model_laws.proofs.Lists.{some_or}
use Rattle.model_laws.proofs.Imported.{Passes, passed}

-- what is known of one import
pub record IsSound (o : Object) : Type 0 where
  pub uid : is_some (meta_of o).uid ≡ true
  pub reference : serial_or_zero (ref_uid (reference_of o)) ≤ most_imported
  pub fields : create_fault false o ≡ None

-- what is known of two, or of one and itself: two of one key or of one UID are one; no reference has another's UID; no
-- volume has ended for a claim that may be bound to it
pub record AreSound (a b : Object) : Type 0 where
  pub key : key_of a ≡ key_of b → a ≡ b
  pub uid : (meta_of a).uid ≡ (meta_of b).uid → a ≡ b
  pub refers : refers_to_another a b ≡ false
  pub ended : is_ended_for a b ≡ false

not_none : (x : Option Uid) → is_none x ≡ false → is_some x ≡ true
not_none None e = absurd (true≢false e)
not_none (Some u) e = refl

sound : (before : List Object) (o : Object) → import_fault before o ≡ None → IsSound o
sound before o e = let p = passed before o e in record { uid = not_none _ p.known; reference = p.reference; fields = p.valid }

sound_after : (before os : List Object) → PassAfter before os → (o : Object) → IsIn o os → IsSound o
sound_after before [] p o h = absurd h
sound_after before (x ∷ os) p o (inl is) = subst IsSound is (sound before x p.0)
sound_after before (x ∷ os) p o (inr more) = sound_after (before ++ x ∷ []) os p.1 o more

-- each import is sound
pub each_sound : (imports : List Object) → ImportsPass imports → (o : Object) → IsIn o imports → IsSound o
each_sound imports p = sound_after [] imports p

-- no test holds of an element where it holds of none
pub none_of : (f : Object → Bool) (xs : List Object) (a : Object) → IsIn a xs → list_any f xs ≡ false → f a ≡ false
none_of f [] a h e = absurd h
none_of f (x ∷ xs) a (inl is) e = ap f (sym is) ∙ (or_parts (f x) (list_any f xs) e).0
none_of f (x ∷ xs) a (inr more) e = none_of f xs a more (or_parts (f x) (list_any f xs) e).1

pub shares_same : (u w : Option Uid) → is_some u ≡ true → w ≡ u → shares_uid u w ≡ true
shares_same None w some is = absurd (true≢false (sym some))
shares_same (Some u) w some is = ap (λ z. is_uid z u) is ∙ itself u
  where
    itself : (x : Uid) → is_uid (Some x) x ≡ true
    itself x = grind (arith, nat_tests)

-- an import and one before it
record AreApart (a b : Object) : Type 0 where
  key : key_of a ≡ key_of b → ⊥
  uid : (meta_of a).uid ≡ (meta_of b).uid → ⊥

apart_from : (before : List Object) (x : Object) → Passes before x → (a : Object) → IsIn a before → AreApart a x
apart_from before x p a h = record {
  key = λ e. true≢false (sym ((same_key-Decides (key_of a) (key_of x)).1 e) ∙ none_of (λ other. same_key (key_of other) (key_of x)) before a h p.new_key);
  uid = λ e. true≢false (sym (shares_same (meta_of x).uid (meta_of a).uid (not_none _ p.known) e) ∙ none_of (λ other. shares_uid (meta_of x).uid (meta_of other).uid) before a h p.new_uid);
}

-- a test of pairs does not hold of the import and it or one before it, either way round
no_pair : (test : Object → Object → Bool) (before : List Object) (x a : Object) → holds_of_pair test before x ≡ false → IsIn a (x ∷ before)
    → (test x a ≡ false) × (test a x ≡ false)
no_pair test before x a e h = or_parts (test x a) (test a x) (none_of (λ other. test x other || test other x) (x ∷ before) a h e)

sound_with : (before : List Object) (x : Object) → Passes before x → (a : Object) → IsIn a (before ++ x ∷ []) → AreSound x a × AreSound a x
sound_with before x p a h = elim (some_or (λ y. y ≡ a) before (x ∷ []) h) [
  | inl old ↦
      let apart = apart_from before x p a old in
      let refers = no_pair refers_to_another before x a p.right (inr old) in
      let ended = no_pair is_ended_for before x a p.wanted (inr old) in (
        record { key = λ e. absurd (apart.key (sym e)); uid = λ e. absurd (apart.uid (sym e)); refers = refers.0; ended = ended.0 },
        record { key = λ e. absurd (apart.key e); uid = λ e. absurd (apart.uid e); refers = refers.1; ended = ended.1 },
      )
  | inr new ↦ elim new [
    | inl is ↦
        let refers = no_pair refers_to_another before x a p.right (inl is) in
        let ended = no_pair is_ended_for before x a p.wanted (inl is) in (
          record { key = λ e. is; uid = λ e. is; refers = refers.0; ended = ended.0 },
          record { key = λ e. sym is; uid = λ e. sym is; refers = refers.1; ended = ended.1 },
        )
    | inr none ↦ absurd none
  ]
]

two_after : (before os : List Object) → PassAfter before os → ((a b : Object) → IsIn a before → IsIn b before → AreSound a b)
    → (a b : Object) → IsIn a (before ++ os) → IsIn b (before ++ os) → AreSound a b
two_after before [] p known a b in_a in_b = known a b (subst (IsIn a) (append-nil before) in_a) (subst (IsIn b) (append-nil before) in_b)
two_after before (x ∷ os) p known a b in_a in_b =
    two_after (before ++ x ∷ []) os p.1 next a b (subst (IsIn a) (sym (append_assoc before (x ∷ []) os)) in_a) (subst (IsIn b) (sym (append_assoc before (x ∷ []) os)) in_b)
  where
    next : (c d : Object) → IsIn c (before ++ x ∷ []) → IsIn d (before ++ x ∷ []) → AreSound c d
    next c d in_c in_d = elim (some_or (λ y. y ≡ c) before (x ∷ []) in_c) [
      | inl c_old ↦ elim (some_or (λ y. y ≡ d) before (x ∷ []) in_d) [
        | inl d_old ↦ known c d c_old d_old
        | inr new ↦ elim new [ inl is ↦ subst (AreSound c) is (sound_with before x (passed before x p.0) c in_c).1 | inr none ↦ absurd none ]
      ]
      | inr new ↦ elim new [ inl is ↦ subst (λ (y : Object). AreSound y d) is (sound_with before x (passed before x p.0) d in_d).0 | inr none ↦ absurd none ]
    ]

-- each two imports are sound with one another
pub two_sound : (imports : List Object) → ImportsPass imports → (a b : Object) → IsIn a imports → IsIn b imports → AreSound a b
two_sound imports p = two_after [] imports p (λ a b none _. absurd none)
