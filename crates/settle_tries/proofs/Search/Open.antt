-- The claims of a pod: those that are not under way, and those that still need a volume.
use Rattle.std.proofs.Common.{◌≡◌, ◌∙◌, ℕ, List, [], ◌∷◌, Bool, true, false, true≢false, Option, Some, None, inl, inr, refl, sym, ap, subst, filter_map, if◌then◌else◌}
use Rattle.std.specs.Prelude.{◌&&◌, ◌||◌, filter}
use Rattle.std.specs.List.{cons_option, list_all, list_any}
use Rattle.std.specs.Ordering.{is_gt}
use Rattle.std.proofs.lemmas.Bool.{and_parts, or_parts}
use Rattle.kube_objects.specs.declared.objects.Claim.{Claim as ClaimData}
use Rattle.kube_objects.specs.declared.objects.Object.{Object}
use Rattle.kube_objects.specs.declared.objects.Object.TheVariants.{Claim}
use Rattle.kube_objects.specs.declared.objects.Pod.{Pod as PodData}
use Rattle.kube_objects.specs.Bindings.{has_key, is_completed, selected_node}
use Rattle.kube_objects.specs.Keys.{row_at}
use Rattle.binder_model.specs.Choice.{by_size, claim_cmp, claim_named, claims_of, has_carrier, insert_claim, is_other, is_under_way, others_of}
use Rattle.binder_model.specs.ObjectKeys.{claim_key}
use Rattle.binder_model.specs.Told.{SomeOf}
use Rattle.model_laws.proofs.Lists.{IsIn}
use Rattle.delayed_binding.proofs.Known.{Each, claim_of_row}
use Rattle.settle_due.proofs.Scheduling.Fewer.{in_passing}
use Rattle.delayed_binding.proofs.Known.{each_filter}

-- ---- lists

pub each_in : {X : Type 0} (P : X → Type 0) (x : X) (xs : List X) → Each P xs → IsIn x xs → P x
each_in P x [] each there = absurd there
each_in P x (y ∷ ys) each (inl is) = subst P is each.0
each_in P x (y ∷ ys) each (inr more) = each_in P x ys each.1 more

pub all_at : {X : Type 0} (f : X → Bool) (x : X) (xs : List X) → list_all f xs ≡ true → IsIn x xs → f x ≡ true
all_at f x [] all there = absurd there
all_at f x (y ∷ ys) all (inl is) = ap f (sym is) ∙ (and_parts (f y) (list_all f ys) all).0
all_at f x (y ∷ ys) all (inr more) = all_at f x ys (and_parts (f y) (list_all f ys) all).1 more

pub any_at : {X : Type 0} (f : X → Bool) (x : X) (xs : List X) → list_any f xs ≡ false → IsIn x xs → f x ≡ false
any_at f x [] none there = absurd there
any_at f x (y ∷ ys) none (inl is) = ap f (sym is) ∙ (or_parts (f y) (list_any f ys) none).0
any_at f x (y ∷ ys) none (inr more) = any_at f x ys (or_parts (f y) (list_any f ys) none).1 more

-- ---- claims by their size

module _ (P : ClaimData → Type 0) where
  each_inserted : (c : ClaimData) (ds : List ClaimData) → P c → Each P ds → Each P (insert_claim c ds)
  each_inserted c [] p h = (p, tt)
  each_inserted c (d ∷ ds) p h = by (is_gt (claim_cmp c d)) (each_inserted c ds p h.1)
    where
      by : (b : Bool) → Each P (insert_claim c ds) → Each P (if b then d ∷ insert_claim c ds else c ∷ d ∷ ds)
      by true rest = (h.0, rest)
      by false rest = (p, h)

  each_by_size : (cs : List ClaimData) → Each P cs → Each P (by_size cs)
  each_by_size [] h = tt
  each_by_size (c ∷ cs) h = each_inserted c (by_size cs) h.0 (each_by_size cs h.1)

  each_uninserted : (c : ClaimData) (ds : List ClaimData) → Each P (insert_claim c ds) → P c × Each P ds
  each_uninserted c [] h = (h.0, tt)
  each_uninserted c (d ∷ ds) h = by (is_gt (claim_cmp c d)) h (each_uninserted c ds)
    where
      by : (b : Bool) → Each P (if b then d ∷ insert_claim c ds else c ∷ d ∷ ds) → (Each P (insert_claim c ds) → P c × Each P ds) → P c × Each P (d ∷ ds)
      by true k rest = let r = rest k.1 in (r.0, (k.0, r.1))
      by false k rest = (k.0, k.1)

  each_unsized : (cs : List ClaimData) → Each P (by_size cs) → Each P cs
  each_unsized [] h = tt
  each_unsized (c ∷ cs) h = let r = each_uninserted c (by_size cs) h in (r.0, each_unsized cs r.1)

-- ---- the claims that a pod names

-- the pod names the claim
pub record IsNamed (rows : List Object) (p : PodData) (c : ClaimData) : Type 0 where
  pub name : List ℕ
  pub among : SomeOf (λ n. n ≡ name) p.claims
  pub there : row_at (claim_key p.meta.namespace name) rows ≡ Some (Claim c)

-- it names one that is not under way
pub record HasOpen (rows : List Object) (p : PodData) : Type 0 where
  pub claim : ClaimData
  pub named : IsNamed rows p claim
  pub undone : is_completed claim ≡ false
  pub uncarried : has_carrier rows claim ≡ false
  pub none : has_key selected_node claim.meta.annotations ≡ false

module _ (rows : List Object) (p : PodData) where
  abbrev those_of : List (List ℕ) → List ClaimData
  those_of names = filter_map (claim_named rows p.meta.namespace) names

  abbrev Covers : List (List ℕ) → Type 0
  Covers names = (name : List ℕ) → SomeOf (λ n. n ≡ name) names → SomeOf (λ n. n ≡ name) p.claims

  those_named : (names : List (List ℕ)) → Covers names → Each (IsNamed rows p) (those_of names)
  those_named [] all = tt
  those_named (name ∷ names) all = by (claim_named rows p.meta.namespace name) refl (those_named names (λ n i. all n (inr i)))
    where
      by : (o : Option ClaimData) → claim_named rows p.meta.namespace name ≡ o
          → Each (IsNamed rows p) (filter_map (claim_named rows p.meta.namespace) names) → Each (IsNamed rows p) (cons_option o (filter_map (claim_named rows p.meta.namespace) names))
      by None at rest = rest
      by (Some c) at rest = (record { name = name; among = all name (inl refl); there = claim_of_row (row_at (claim_key p.meta.namespace name) rows) c at }, rest)

  pub claims_named : Each (IsNamed rows p) (claims_of rows p)
  claims_named = those_named p.claims (λ name i. i)

  -- so each that still needs a volume is named
  pub others_named : Each (IsNamed rows p) (others_of rows p)
  others_named = each_by_size (IsNamed rows p) (filter (is_other rows) (claims_of rows p)) (each_filter (IsNamed rows p) (is_other rows) (claims_of rows p) claims_named)

  in_those : (names : List (List ℕ)) (name : List ℕ) (c : ClaimData) → SomeOf (λ n. n ≡ name) names → claim_named rows p.meta.namespace name ≡ Some c → IsIn c (those_of names)
  in_those [] name c among at = absurd among
  in_those (m ∷ names) name c (inl is) at = subst (λ o. IsIn c (cons_option o (those_of names))) (sym (ap (claim_named rows p.meta.namespace) is ∙ at)) (inl refl)
  in_those (m ∷ names) name c (inr more) at = by (claim_named rows p.meta.namespace m) (in_those names name c more at)
    where
      by : (o : Option ClaimData) → IsIn c (filter_map (claim_named rows p.meta.namespace) names) → IsIn c (cons_option o (filter_map (claim_named rows p.meta.namespace) names))
      by None rest = rest
      by (Some d) rest = inr rest

  pub named_in : (c : ClaimData) → IsNamed rows p c → IsIn c (claims_of rows p)
  named_in c n = in_those p.claims n.name c n.among (ap claim_in n.there)
    where
      claim_in : Option Object → Option ClaimData
      claim_in (Some (Claim d)) = Some d
      claim_in o = None

  -- what holds of each that still needs a volume
  pub other_of : (P : ClaimData → Type 0) → Each P (others_of rows p) → (c : ClaimData) → IsNamed rows p c → is_other rows c ≡ true → P c
  other_of P each c n other = each_in P c (filter (is_other rows) (claims_of rows p)) (each_unsized P (filter (is_other rows) (claims_of rows p))
      each) (in_passing (is_other rows) c (claims_of rows p) (named_in c n) other)

  -- ---- claims that are not under way

  open_in : (names : List (List ℕ)) → Covers names → list_all (is_under_way rows) (those_of names) ≡ false → HasOpen rows p
  open_in [] all e = absurd (true≢false e)
  open_in (name ∷ names) all e = by (claim_named rows p.meta.namespace name) refl e (open_in names (λ n i. all n (inr i)))
    where
      by : (o : Option ClaimData) → claim_named rows p.meta.namespace name ≡ o → list_all (is_under_way rows) (cons_option o (filter_map (claim_named rows p.meta.namespace) names)) ≡ false
          → (list_all (is_under_way rows) (filter_map (claim_named rows p.meta.namespace) names) ≡ false → HasOpen rows p) → HasOpen rows p
      by None at f more = more f
      by (Some c) at f more = test (is_completed c) (has_carrier rows c) (has_key selected_node c.meta.annotations) refl refl refl f
        where
          test : (done carried has : Bool) → is_completed c ≡ done → has_carrier rows c ≡ carried → has_key selected_node c.meta.annotations ≡ has
              → ((done || carried || has) && list_all (is_under_way rows) (filter_map (claim_named rows p.meta.namespace) names)) ≡ false → HasOpen rows p
          test false false false d k n g = record {
            claim = c;
            named = record
                { name = name; among = all name (inl refl); there = claim_of_row (row_at (claim_key p.meta.namespace name) rows) c at };
            undone = d;
            uncarried = k;
            none = n;
          }
          test false false true d k n g = more g
          test false true has d k n g = more g
          test true carried has d k n g = more g

  pub open_of : list_all (is_under_way rows) (claims_of rows p) ≡ false → HasOpen rows p
  open_of e = open_in p.claims (λ name i. i) e

  pub open_waits : HasOpen rows p → list_all (is_under_way rows) (claims_of rows p) ≡ false
  open_waits o = by (list_all (is_under_way rows) (claims_of rows p)) refl
    where
      under : is_under_way rows o.claim ≡ false
      under = rw (o.undone, o.uncarried, o.none) refl

      by : (b : Bool) → list_all (is_under_way rows) (claims_of rows p) ≡ b → b ≡ false
      by false e = refl
      by true e = absurd (true≢false (sym (all_at (is_under_way rows) o.claim (claims_of rows p) e (named_in o.claim o.named)) ∙ under))

-- it needs a volume still
pub open_is_other : (rows : List Object) (c : ClaimData) → is_completed c ≡ false → has_carrier rows c ≡ false → is_other rows c ≡ true
open_is_other rows c undone uncarried = rw (undone, uncarried) refl
