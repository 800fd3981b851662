-- What is known of the claims of a pod, and of those that are not fixed.
use Rattle.std.proofs.Common.{ℕ, ◌≡◌, ◌≢◌, ◌∙◌, Bool, true, false, true≢false, not, ◌&&◌, ◌||◌, List, [], ◌∷◌, cond, filter, filter_map, Option, Some, None, refl, sym, ap, if◌then◌else◌}
use Rattle.std.specs.Prelude.{bytes_eq, ⊤}
use Rattle.std.specs.List.{cons_option, list_all, list_any}
use Rattle.std.specs.Ordering.{is_gt}
use Rattle.std.proofs.lemmas.Slice.Eq.{bytes_eq-Decides}
use Rattle.std.proofs.lemmas.Bool.{not-true, or_parts}
use Rattle.kube_objects.specs.declared.key.Key.{Key}
use Rattle.kube_objects.specs.declared.objects.Claim.{Claim as ClaimData}
use Rattle.kube_objects.specs.declared.objects.Pod.{Pod as PodData}
use Rattle.kube_objects.specs.declared.objects.Object.{Object}
use Rattle.kube_objects.specs.declared.objects.Object.TheVariants.{Class, Node, Volume, Claim, Pod}
use Rattle.kube_objects.specs.Bindings.{class_of_claim, has_key, has_name, is_completed, is_empty, selected_node}
use Rattle.kube_objects.specs.Keys.{key_of, row_at}
use Rattle.kube_objects.proofs.KeyOrder.{row_at_key}
use Rattle.binder_model.specs.Choice.{by_size, claim_cmp, claim_in, claim_named, claims_of, has_carrier, insert_claim, is_other, is_served_elsewhere, is_under_way}
use Rattle.binder_model.specs.Fields.{has_twice}
use Rattle.binder_model.specs.Matching.{is_delayed}
use Rattle.binder_model.specs.ObjectKeys.{claim_key, class_key}
use Rattle.model_laws.proofs.Lists.{none_some, one}
use Rattle.delayed_binding.specs.Choices.{others_in}
use Rattle.delayed_binding.specs.WriteLaw.{is_known}

-- P holds of each
abbrev pub Each : {X : Type 0} → (X → Type 0) → List X → Type 0
Each P [] = ⊤
Each P (x ∷ xs) = P x × Each P xs

pub each_map : {X : Type 0} {P Q : X → Type 0} → ((x : X) → P x → Q x) → (xs : List X) → Each P xs → Each Q xs
each_map f [] h = tt
each_map f (x ∷ xs) h = (f x h.0, each_map f xs h.1)

pub each_filter : {X : Type 0} (P : X → Type 0) (p : X → Bool) (xs : List X) → Each P xs → Each P (filter p xs)
each_filter P p [] h = tt
each_filter P p (x ∷ xs) h = by (p x) (each_filter P p xs h.1)
  where
    by : (b : Bool) → Each P (filter p xs) → Each P (cond b (x ∷ filter p xs) (filter p xs))
    by true rest = (h.0, rest)
    by false rest = rest

module _ (P : ClaimData → Type 0) where
  each_inserted : (c : ClaimData) (ds : List ClaimData) → P c → Each P ds → Each P (insert_claim c ds)
  each_inserted c [] p h = (p, tt)
  each_inserted c (d ∷ ds) p h = by (is_gt (claim_cmp c d)) (each_inserted c ds p h.1)
    where
      by : (b : Bool) → Each P (insert_claim c ds) → Each P (if b then d ∷ insert_claim c ds else c ∷ d ∷ ds)
      by true rest = (h.0, rest)
      by false rest = (p, h)

  each_by_size : (cs : List ClaimData) → Each P cs → Each P (by_size cs)
  each_by_size [] h = tt
  each_by_size (c ∷ cs) h = each_inserted c (by_size cs) h.0 (each_by_size cs h.1)

-- the claims of a pod stand in the look-up

abbrev pub IsStored : List Object → ClaimData → Type 0
IsStored rows c = row_at (key_of (Claim c)) rows ≡ Some (Claim c)

pub claim_of_row : (o : Option Object) (c : ClaimData) → claim_in o ≡ Some c → o ≡ Some (Claim c)
claim_of_row None c e = none_some e
claim_of_row (Some (Claim d)) c e = ap (λ x. Some (Claim x)) (one d c e)
claim_of_row (Some (Class x)) c e = none_some e
claim_of_row (Some (Node x)) c e = none_some e
claim_of_row (Some (Volume x)) c e = none_some e
claim_of_row (Some (Pod x)) c e = none_some e

module _ (rows : List Object) (namespace : List ℕ) where
  named_key : (name : List ℕ) (c : ClaimData) → claim_named rows namespace name ≡ Some c → key_of (Claim c) ≡ claim_key namespace name
  named_key name c e = row_at_key (claim_key namespace name) (Claim c) rows (claim_of_row (row_at (claim_key namespace name) rows) c e)

  named_stored : (name : List ℕ) (c : ClaimData) → claim_named rows namespace name ≡ Some c → IsStored rows c
  named_stored name c e = ap (λ (k : Key). row_at k rows) (named_key name c e) ∙ claim_of_row (row_at (claim_key namespace name) rows) c e

  all_stored : (names : List (List ℕ)) → Each (IsStored rows) (filter_map (claim_named rows namespace) names)
  all_stored [] = tt
  all_stored (name ∷ names) = by (claim_named rows namespace name) refl (all_stored names)
    where
      by : (o : Option ClaimData) → claim_named rows namespace name ≡ o → Each (IsStored rows) (filter_map (claim_named rows namespace) names)
          → Each (IsStored rows) (cons_option o (filter_map (claim_named rows namespace) names))
      by None e rest = rest
      by (Some c) e rest = (named_stored name c e, rest)

  -- and have the names that the pod gives
  all_named : (names : List (List ℕ)) → Each (λ c. has_name c.meta.name names ≡ true) (filter_map (claim_named rows namespace) names)
  all_named [] = tt
  all_named (name ∷ names) = by (claim_named rows namespace name) refl (each_map (λ c h. later (bytes_eq name c.meta.name) h) (filter_map (claim_named rows namespace) names) (all_named names))
    where
      later : (b : Bool) {x : Bool} → x ≡ true → (b || x) ≡ true
      later true h = refl
      later false h = h

      first : (c : ClaimData) → c.meta.name ≡ name → has_name c.meta.name (name ∷ names) ≡ true
      first c e = ap (λ b. b || has_name c.meta.name names) ((bytes_eq-Decides name c.meta.name).1 (sym e))

      by : (o : Option ClaimData) → claim_named rows namespace name ≡ o
          → Each (λ c. has_name c.meta.name (name ∷ names) ≡ true) (filter_map (claim_named rows namespace) names)
          → Each (λ c. has_name c.meta.name (name ∷ names) ≡ true) (cons_option o (filter_map (claim_named rows namespace) names))
      by None e rest = rest
      by (Some c) e rest = (first c (ap (λ (k : Key). k.name) (named_key name c e)), rest)

-- claims with keys of their own

abbrev pub Differ : ClaimData → ClaimData → Type 0
Differ c d = key_of (Claim c) ≢ key_of (Claim d)

abbrev pub AreApart : List ClaimData → Type 0
AreApart [] = ⊤
AreApart (c ∷ cs) = Each (Differ c) cs × AreApart cs

apart_filter : (p : ClaimData → Bool) (cs : List ClaimData) → AreApart cs → AreApart (filter p cs)
apart_filter p [] h = tt
apart_filter p (c ∷ cs) h = by (p c) (apart_filter p cs h.1)
  where
    by : (b : Bool) → AreApart (filter p cs) → AreApart (cond b (c ∷ filter p cs) (filter p cs))
    by true rest = (each_filter (Differ c) p cs h.0, rest)
    by false rest = rest

apart_inserted : (c : ClaimData) (ds : List ClaimData) → Each (Differ c) ds → AreApart ds → AreApart (insert_claim c ds)
apart_inserted c [] h k = (tt, tt)
apart_inserted c (d ∷ ds) h k = by (is_gt (claim_cmp c d)) (apart_inserted c ds h.1 k.1)
  where
    by : (b : Bool) → AreApart (insert_claim c ds) → AreApart (if b then d ∷ insert_claim c ds else c ∷ d ∷ ds)
    by true rest = (each_inserted (Differ d) c ds (λ e. h.0 (sym e)) k.0, rest)
    by false rest = (h, k)

apart_by_size : (cs : List ClaimData) → AreApart cs → AreApart (by_size cs)
apart_by_size [] h = tt
apart_by_size (c ∷ cs) h = apart_inserted c (by_size cs) (each_by_size (Differ c) cs h.0) (apart_by_size cs h.1)

named_apart : (rows : List Object) (namespace : List ℕ) (names : List (List ℕ)) → has_twice names ≡ false → AreApart (filter_map (claim_named rows namespace) names)
named_apart rows namespace [] once = tt
named_apart rows namespace (name ∷ names) once = by (claim_named rows namespace name) refl (named_apart rows namespace names (or_right (has_name name names) once))
  where
    or_right : (a : Bool) {b : Bool} → (a || b) ≡ false → b ≡ false
    or_right true e = absurd (true≢false e)
    or_right false e = e

    or_left : (a b : Bool) → (a || b) ≡ false → a ≡ false
    or_left true b e = absurd (true≢false e)
    or_left false b e = refl

    other : (c : ClaimData) → c.meta.name ≡ name → (d : ClaimData) → has_name d.meta.name names ≡ true → Differ c d
    other c e d h same =
        let names_are : d.meta.name ≡ name = sym (ap (λ (k : Key). k.name) same) ∙ e in
        true≢false (sym h ∙ ap (λ x. has_name x names) names_are ∙ or_left (has_name name names) (has_twice names) once)

    by : (o : Option ClaimData) → claim_named rows namespace name ≡ o → AreApart (filter_map (claim_named rows namespace) names)
        → AreApart (cons_option o (filter_map (claim_named rows namespace) names))
    by None e rest = rest
    by (Some c) e rest = (each_map (other c (ap (λ (k : Key). k.name) (named_key rows namespace name c e))) (filter_map (claim_named rows namespace) names) (all_named rows namespace names), rest)

-- those that are not fixed

pub others_stored : (rows : List Object) (p : PodData) → Each (IsStored rows) (others_in rows (claims_of rows p))
others_stored rows p = each_by_size (IsStored rows) (filter (is_other rows) (claims_of rows p)) (each_filter (IsStored rows) (is_other rows)
    (claims_of rows p) (all_stored rows p.meta.namespace p.claims))

pub others_apart : (rows : List Object) (p : PodData) → has_twice p.claims ≡ false → AreApart (others_in rows (claims_of rows p))
others_apart rows p once = apart_by_size (filter (is_other rows) (claims_of rows p)) (apart_filter (is_other rows) (claims_of rows p) (named_apart rows p.meta.namespace p.claims once))

-- what the search for a node knows of each of them
pub record IsSought (rows : List Object) (c : ClaimData) : Type 0 where
  pub stored : IsStored rows c
  pub known : is_known c ≡ true
  pub undone : is_completed c ≡ false
  pub uncarried : has_carrier rows c ≡ false
  pub delayed : is_delayed (row_at (class_key (class_of_claim c)) rows) ≡ true

and_left : (a b : Bool) → (a && b) ≡ true → a ≡ true
and_left true b e = refl
and_left false b e = e

pub and_right : (a b : Bool) → (a && b) ≡ true → b ≡ true
and_right true b e = e
and_right false b e = absurd (true≢false (sym e))

is_delayed_one : (done empty delayed : Bool) → done ≡ false → (not done && (not empty || not delayed)) ≡ false → delayed ≡ true
is_delayed_one true empty delayed undone e = absurd (true≢false undone)
is_delayed_one false empty true undone e = refl
is_delayed_one false true false undone e = absurd (true≢false e)
is_delayed_one false false false undone e = absurd (true≢false e)

sought_in : (rows : List Object) (cs : List ClaimData) → Each (IsStored rows) cs → list_all is_known cs ≡ true
    → list_any (is_served_elsewhere rows) cs ≡ false → Each (IsSought rows) (filter (is_other rows) cs)
sought_in rows [] stored known elsewhere = tt
sought_in rows (c ∷ cs) stored known elsewhere =
    by (is_other rows c) refl (sought_in rows cs stored.1 (and_right (is_known c) (list_all is_known cs) known)
    (or_parts (is_served_elsewhere rows c) (list_any (is_served_elsewhere rows) cs) elsewhere).1)
  where
    sought : is_other rows c ≡ true → IsSought rows c
    sought e =
        let undone = not-true (is_completed c) (and_left (not (is_completed c)) (not (has_carrier rows c)) e) in
        record {
          stored = stored.0;
          known = and_left (is_known c) (list_all is_known cs) known;
          undone = undone;
          uncarried = not-true (has_carrier rows c) (and_right (not (is_completed c)) (not (has_carrier rows c)) e);
          delayed = is_delayed_one (is_completed c) (is_empty c.volume_name) (is_delayed (row_at (class_key (class_of_claim c)) rows)) undone
              (or_parts (is_served_elsewhere rows c) (list_any (is_served_elsewhere rows) cs) elsewhere).0;
        }

    by : (b : Bool) → is_other rows c ≡ b → Each (IsSought rows) (filter (is_other rows) cs) → Each (IsSought rows) (cond b (c ∷ filter (is_other rows) cs) (filter (is_other rows) cs))
    by true e rest = (sought e, rest)
    by false e rest = rest

pub others_sought : (rows : List Object) (p : PodData) → list_all is_known (claims_of rows p) ≡ true
    → list_any (is_served_elsewhere rows) (claims_of rows p) ≡ false → Each (IsSought rows) (others_in rows (claims_of rows p))
others_sought rows p known elsewhere = each_by_size (IsSought rows) (filter (is_other rows) (claims_of rows p)) (sought_in rows (claims_of rows p)
    (all_stored rows p.meta.namespace p.claims) known elsewhere)

-- where some claim is not under way, there is one that is not fixed

abbrev pub IsSome : List ClaimData → Type 0
IsSome [] = ⊥
IsSome (c ∷ cs) = ⊤

some_inserted : (c : ClaimData) (ds : List ClaimData) → IsSome (insert_claim c ds)
some_inserted c [] = tt
some_inserted c (d ∷ ds) = by (is_gt (claim_cmp c d))
  where
    by : (b : Bool) → IsSome (if b then d ∷ insert_claim c ds else c ∷ d ∷ ds)
    by true = tt
    by false = tt

some_by_size : (cs : List ClaimData) → IsSome cs → IsSome (by_size cs)
some_by_size [] h = h
some_by_size (c ∷ cs) h = some_inserted c (by_size cs)

some_other : (rows : List Object) (cs : List ClaimData) → list_all (is_under_way rows) cs ≡ false → IsSome (filter (is_other rows) cs)
some_other rows [] e = absurd (true≢false e)
some_other rows (c ∷ cs) e = by (is_completed c) (has_carrier rows c) e (some_other rows cs)
  where
    by : (done carried : Bool) → ((done || carried || has_key selected_node c.meta.annotations) && list_all (is_under_way rows) cs) ≡ false
        → (list_all (is_under_way rows) cs ≡ false → IsSome (filter (is_other rows) cs)) → IsSome (cond (not done && not carried) (c ∷ filter (is_other rows) cs) (filter (is_other rows) cs))
    by false false e rest = tt
    by true true e rest = rest e
    by true false e rest = rest e
    by false true e rest = rest e

pub some_others : (rows : List Object) (p : PodData) → list_all (is_under_way rows) (claims_of rows p) ≡ false → IsSome (others_in rows (claims_of rows p))
some_others rows p e = some_by_size (filter (is_other rows) (claims_of rows p)) (some_other rows (claims_of rows p) e)
