-- Imports pass exactly where each passes alone, no key and no UID comes twice, and no two clash.
use Rattle.std.proofs.Common.{◌≡◌, ℕ, Bool, true, false, true≢false, not, ◌&&◌, ◌||◌, List, [], ◌∷◌, ◌++◌, Option, Some, None, is_none, nat_eq, map, refl, sym, ap, subst, ◌∙◌, inl, inr}
use Rattle.std.specs.Prelude.{◌↔◌, IsTrue}
use Rattle.std.proofs.lemmas.Bool.{and_parts, or_from, not-true}
use Rattle.std.proofs.lemmas.List.{append_assoc, map-append}
use Rattle.std.proofs.lemmas.List.Folds.{list_any-append}
use Rattle.std.specs.Cmp.{nat_eq_equiv}
use Rattle.std.specs.List.{list_any}
use Rattle.kube_objects.specs.declared.key.Key.{Key}
use Rattle.kube_parts.specs.declared.names.ImportFault.{ImportFault}
use Rattle.kube_objects.specs.declared.objects.Object.{Object}
use Rattle.kube_objects.specs.Keys.{key_of, meta_of, same_key}
use Rattle.kube_objects.proofs.SameKeys.{same_key_swapped}
use Rattle.binder_model.specs.Imports.{ImportsPass, PassAfter, import_fault, is_ended_for, refers_to_another, shares_uid}
use Rattle.model_laws.proofs.Imported.{passed}
use Rattle.model_laws.proofs.Lists.{IsIn, some_left, some_or, some_right}
use Rattle.safety_law.proofs.Law.Passing.{none_of, two_sound}
use Rattle.field_rules.specs.Stores.Steps.Passing.{clash, come_new, is_new, refers_wrongly, uid_number}
use Rattle.field_rules.proofs.Stores.Faults.{none_in, passes_after, passes_alone}
use Rattle.field_rules.proofs.Stores.Lookups.{AreApart, AreKnown, alike, looked_up, mapped, shares_number}

-- the keys and the UIDs of those before are those that come before
keys_before : (before : List Object) (o : Object) → list_any (same_key (key_of o)) (map key_of before) ≡ list_any (λ other. same_key (key_of other) (key_of o)) before
keys_before before o = mapped key_of (same_key (key_of o)) (λ other. same_key (key_of other) (key_of o)) before (λ a h. same_key_swapped (key_of o) (key_of a))

uids_before : (before : List Object) (o : Object) → AreKnown before → is_none (meta_of o).uid ≡ false
    → list_any (nat_eq (uid_number o)) (map uid_number before) ≡ list_any (λ other. shares_uid (meta_of o).uid (meta_of other).uid) before
uids_before before o known own =
    mapped uid_number (nat_eq (uid_number o)) (λ other. shares_uid (meta_of o).uid (meta_of other).uid) before (λ a h. sym (shares_number (meta_of o).uid (meta_of a).uid own (known a h)))

known_more : (before : List Object) (o : Object) → AreKnown before → is_none (meta_of o).uid ≡ false → AreKnown (before ++ o ∷ [])
known_more before o known own a h = elim (some_or (λ y. y ≡ a) before (o ∷ []) h) [
  | inl old ↦ known a old
  | inr new ↦ elim new [ inl is ↦ subst (λ (x : Object). is_none (meta_of x).uid ≡ false) is own | inr none ↦ absurd none ]
]

-- what is new passes alone, and its key and its UID are new
record IsNew (keys : List Key) (uids : List ℕ) (o : Object) : Type 0 where
  alone : import_fault [] o ≡ None
  key : list_any (same_key (key_of o)) keys ≡ false
  uid : list_any (nat_eq (uid_number o)) uids ≡ false

nothing : (f : Option ImportFault) → is_none f ≡ true → f ≡ None
nothing None e = refl
nothing (Some f) e = absurd (true≢false (sym e))

new_parts : (keys : List Key) (uids : List ℕ) (o : Object) → is_new keys uids o ≡ true → IsNew keys uids o
new_parts keys uids o e =
    let a = and_parts (is_none (import_fault [] o) && not (list_any (same_key (key_of o)) keys)) (not (list_any (nat_eq (uid_number o)) uids)) e in
    let b = and_parts (is_none (import_fault [] o)) (not (list_any (same_key (key_of o)) keys)) a.0 in
    record { alone = nothing _ b.0; key = not-true _ b.1; uid = not-true _ a.1 }

own_uid : (o : Object) → import_fault [] o ≡ None → is_none (meta_of o).uid ≡ false
own_uid o alone = (passed [] o alone).known

-- ---- imports that pass come new

module _ (o : Object) (before : List Object) where
  keys_more : map key_of (before ++ o ∷ []) ≡ map key_of before ++ key_of o ∷ []
  keys_more = map-append key_of before (o ∷ [])

  uids_more : map uid_number (before ++ o ∷ []) ≡ map uid_number before ++ uid_number o ∷ []
  uids_more = map-append uid_number before (o ∷ [])

pub news : (before os : List Object) → AreKnown before → PassAfter before os → come_new (map key_of before) (map uid_number before) os ≡ true
news before [] known p = refl
news before (o ∷ os) known p =
    let q = passed before o p.0 in
    let alone : is_none (import_fault [] o) ≡ true = ap is_none (passes_alone before o p.0) in
    let key : list_any (same_key (key_of o)) (map key_of before) ≡ false = keys_before before o ∙ q.new_key in
    let uid : list_any (nat_eq (uid_number o)) (map uid_number before) ≡ false = uids_before before o known q.known ∙ q.new_uid in
    let rest = news (before ++ o ∷ []) os (known_more before o known q.known) p.1 in
    rw (alone, key, uid) (subst (λ us. come_new (map key_of before ++ key_of o ∷ []) us os ≡ true) (uids_more o before)
    (subst (λ ks. come_new ks (map uid_number (before ++ o ∷ [])) os ≡ true) (keys_more o before) rest))

-- ---- what comes new passes, where no two clash

pub passes : (before os : List Object) → AreKnown before → come_new (map key_of before) (map uid_number before) os ≡ true
    → ((a b : Object) → IsIn a (before ++ os) → IsIn b (before ++ os) → clash a b ≡ false) → PassAfter before os
passes before [] known new apart = tt
passes before (o ∷ os) known new apart =
    let n = and_parts (is_new (map key_of before) (map uid_number before) o) (come_new (map key_of before ++ key_of o ∷ []) (map uid_number before ++ uid_number o ∷ []) os) new in
    let own = new_parts (map key_of before) (map uid_number before) o n.0 in
    let knows = own_uid o own.alone in
    let rest = subst (λ ks. come_new ks (map uid_number (before ++ o ∷ [])) os ≡ true) (sym (keys_more o before))
    (subst (λ us. come_new (map key_of before ++ key_of o ∷ []) us os ≡ true) (sym (uids_more o before)) n.1) in (
      passes_after before o own.alone (sym (keys_before before o) ∙ own.key) (sym (uids_before before o known knows) ∙ own.uid) (λ a h. (apart o a here (there a h), apart a o (there a h) here)),
      passes (before ++ o ∷ []) os (known_more before o known knows) rest
          (λ a b in_a in_b. apart a b (subst (IsIn a) (append_assoc before (o ∷ []) os) in_a) (subst (IsIn b) (append_assoc before (o ∷ []) os) in_b)),
    )
  where
    here : IsIn o (before ++ o ∷ os)
    here = some_right (λ y. y ≡ o) before (o ∷ os) (inl refl)

    there : (a : Object) → IsIn a before → IsIn a (before ++ o ∷ os)
    there a h = some_left (λ y. y ≡ a) before (o ∷ os) h

-- ---- what comes new has UIDs, none twice

or_true : (b : Bool) → (b || true) ≡ true
or_true true = refl
or_true false = refl

news_known : (keys : List Key) (uids : List ℕ) (os : List Object) → come_new keys uids os ≡ true → AreKnown os
news_known keys uids [] new a h = absurd h
news_known keys uids (o ∷ os) new a h =
    let n = and_parts (is_new keys uids o) (come_new (keys ++ key_of o ∷ []) (uids ++ uid_number o ∷ []) os) new in
    elim h [
      | inl is ↦ subst (λ (x : Object). is_none (meta_of x).uid ≡ false) is (own_uid o (new_parts keys uids o n.0).alone)
      | inr more ↦ news_known (keys ++ key_of o ∷ []) (uids ++ uid_number o ∷ []) os n.1 a more
    ]

-- a UID that came does not come again
no_more : (keys : List Key) (uids : List ℕ) (os : List Object) (u : ℕ) → come_new keys uids os ≡ true → list_any (nat_eq u) uids ≡ true → list_any (nat_eq u) (map uid_number os) ≡ false
no_more keys uids [] u new there = refl
no_more keys uids (o ∷ os) u new there =
    let n = and_parts (is_new keys uids o) (come_new (keys ++ key_of o ∷ []) (uids ++ uid_number o ∷ []) os) new in
    let still : list_any (nat_eq u) (uids ++ uid_number o ∷ []) ≡ true = list_any-append (nat_eq u) uids (uid_number o ∷ []) ∙ ap (λ b. b || list_any (nat_eq u) (uid_number o ∷ [])) there in
    or_from (nat_eq u (uid_number o)) (list_any (nat_eq u) (map uid_number os)) (by (nat_eq u (uid_number o)) refl (new_parts keys uids o n.0).uid)
    (no_more (keys ++ key_of o ∷ []) (uids ++ uid_number o ∷ []) os u n.1 still)
  where
    by : (b : Bool) → nat_eq u (uid_number o) ≡ b → list_any (nat_eq (uid_number o)) uids ≡ false → b ≡ false
    by true e none = absurd (true≢false (sym there ∙ alike (nat_eq u) (nat_eq (uid_number o)) uids (λ x h. nat_eq_equiv.congr u (uid_number o) x e) ∙ none))
    by false e none = refl

news_apart : (keys : List Key) (uids : List ℕ) (os : List Object) → come_new keys uids os ≡ true → AreApart os
news_apart keys uids [] new = tt
news_apart keys uids (o ∷ os) new =
    let n = and_parts (is_new keys uids o) (come_new (keys ++ key_of o ∷ []) (uids ++ uid_number o ∷ []) os) new in
    (no_more (keys ++ key_of o ∷ []) (uids ++ uid_number o ∷ []) os (uid_number o) n.1 stands, news_apart (keys ++ key_of o ∷ []) (uids ++ uid_number o ∷ []) os n.1)
  where
    stands : list_any (nat_eq (uid_number o)) (uids ++ uid_number o ∷ []) ≡ true
    stands = list_any-append (nat_eq (uid_number o)) uids (uid_number o ∷ [])
        ∙ ap (λ b. list_any (nat_eq (uid_number o)) uids || (b || false)) (nat_eq_equiv.refl (uid_number o)) ∙ or_true (list_any (nat_eq (uid_number o)) uids)

-- ---- the answer

any_clash : (imports : List Object) → come_new [] [] imports ≡ true
    → list_any (refers_wrongly (map uid_number imports) imports) imports ≡ list_any (λ v. list_any (clash v) imports) imports
any_clash imports new = alike (refers_wrongly (map uid_number imports) imports) (λ v. list_any (clash v) imports) imports (λ v h. looked_up imports v
    (news_apart [] [] imports new) (news_known [] [] imports new))

pub failing : (imports : List Object) → come_new [] [] imports ≡ false → IsTrue false ↔ ImportsPass imports
failing imports old = (λ e. absurd (true≢false (sym e)), λ p. sym old ∙ news [] imports (λ a h. absurd h) p)

pub passing : (imports : List Object) (uids : List ℕ) → come_new [] [] imports ≡ true → uids ≡ map uid_number imports
    → IsTrue (not (list_any (refers_wrongly uids imports) imports)) ↔ ImportsPass imports
passing imports uids new are = subst (λ us. IsTrue (not (list_any (refers_wrongly us imports) imports)) ↔ ImportsPass imports) (sym are) (to, from)
  where
    none : IsTrue (not (list_any (refers_wrongly (map uid_number imports) imports) imports)) → (a b : Object) → IsIn a imports → IsIn b imports → clash a b ≡ false
    none e a b in_a in_b = none_of (clash a) imports b in_b (none_of (λ v. list_any (clash v) imports) imports a in_a (sym (any_clash imports new) ∙ not-true _ e))

    to : IsTrue (not (list_any (refers_wrongly (map uid_number imports) imports) imports)) → ImportsPass imports
    to e = passes [] imports (λ a h. absurd h) new (none e)

    from : ImportsPass imports → IsTrue (not (list_any (refers_wrongly (map uid_number imports) imports) imports))
    from p = ap not (any_clash imports new ∙ none_in (λ v. list_any (clash v) imports) imports (λ v in_v. none_in (clash v) imports (λ o in_o.
        let s = two_sound imports p v o in_v in_o in or_from (refers_to_another v o) (is_ended_for v o) s.refers s.ended)))
