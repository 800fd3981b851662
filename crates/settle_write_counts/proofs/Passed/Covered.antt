-- The claims of a pod that is being prepared: each is under way, or is still to be written.
use Rattle.std.proofs.Common.{
  ◌≡◌,
  ◌∙◌,
  ◌⊎◌,
  ℕ,
  ◌+◌,
  ◌≤◌,
  List,
  [],
  ◌∷◌,
  ◌++◌,
  Bool,
  true,
  false,
  true≢false,
  Option,
  Some,
  None,
  inl,
  inr,
  refl,
  sym,
  ap,
  subst,
  arith,
  length,
  length-append,
  if◌then◌else◌,
}
use Rattle.std.specs.Prelude.{◌&&◌, ◌||◌, filter, filter_map, not}
use Rattle.std.specs.List.{cons_option, list_all}
use Rattle.std.specs.Ordering.{is_gt}
use Rattle.kube_objects.specs.declared.key.Key.{Key}
use Rattle.kube_objects.specs.declared.objects.Claim.{Claim as ClaimData}
use Rattle.kube_objects.specs.declared.objects.Node.{Node as NodeData}
use Rattle.kube_objects.specs.declared.objects.Pod.{Pod as PodData}
use Rattle.kube_objects.specs.declared.objects.Object.{Object}
use Rattle.kube_objects.specs.declared.objects.Object.TheVariants.{Claim}
use Rattle.kube_objects.specs.Bindings.{has_key, is_completed, selected_node}
use Rattle.kube_objects.specs.Keys.{key_of, row_at}
use Rattle.kube_objects.proofs.KeyOrder.{row_at_key}
use Rattle.binder_model.specs.Choice.{AreShares, IsProvisioned, Share, TakesVolume, by_size, claim_cmp, claim_in, claim_named, claims_of, has_carrier, insert_claim, is_other, is_under_way}
use Rattle.binder_model.specs.ObjectKeys.{claim_key}
use Rattle.model_laws.proofs.Lists.{IsIn}
use Rattle.delayed_binding.specs.Choices.{others_in}
use Rattle.delayed_binding.proofs.Known.{Each, claim_of_row, each_map}
use Rattle.settle_pays.proofs.Scheduler.Open.{placed_of}
use Rattle.settle_write_counts.proofs.Scheduler.Begun.{filtered, mapped, sized}
use Rattle.settle_write_counts.proofs.Passed.Costs.{Grows}
use Rattle.settle_due.proofs.Scheduling.Fewer.{in_passing as in_filter}

-- the claim of this name, where it stands, is under way, or one of these
abbrev pub IsCovered : List Object → List ℕ → List ClaimData → List ℕ → Type 0
IsCovered rows namespace cs name = (d : ClaimData) → claim_named rows namespace name ≡ Some d → (is_under_way rows d ≡ true) ⊎ IsIn d cs

-- one of them was written
pub covered_next : (old new : List Object) (namespace : List ℕ) (c : ClaimData) (cs : List ClaimData) → Grows old new
    → ((d : ClaimData) → row_at (key_of (Claim c)) new ≡ Some (Claim d) → is_under_way new d ≡ true)
    → (names : List (List ℕ)) → Each (IsCovered old namespace (c ∷ cs)) names → Each (IsCovered new namespace cs) names
covered_next old new namespace c cs grows written names each = each_map step names each
  where
    step : (name : List ℕ) → IsCovered old namespace (c ∷ cs) name → IsCovered new namespace cs name
    step name was d at = test (is_under_way new d) refl
      where
        key : Key
        key = claim_key namespace name

        now : row_at key new ≡ Some (Claim d)
        now = claim_of_row (row_at key new) d at

        test : (b : Bool) → is_under_way new d ≡ b → (is_under_way new d ≡ true) ⊎ IsIn d cs
        test true e = inl e
        test false e = of (was d (ap claim_in before.0))
          where
            before : (row_at key old ≡ Some (Claim d)) × (is_under_way old d ≡ false)
            before = grows key d now e

            of : (is_under_way old d ≡ true) ⊎ IsIn d (c ∷ cs) → (is_under_way new d ≡ true) ⊎ IsIn d cs
            of (inl under) = absurd (true≢false (sym under ∙ before.1))
            of (inr (inl same)) = inl (written d (ap (λ k. row_at k new) (ap (λ x. key_of (Claim x)) same ∙ row_at_key key (Claim d) new now) ∙ now))
            of (inr (inr more)) = inr more

-- none is left to be written
pub all_under : (rows : List Object) (namespace : List ℕ) (names : List (List ℕ)) → Each (IsCovered rows namespace []) names
    → list_all (is_under_way rows) (filter_map (claim_named rows namespace) names) ≡ true
all_under rows namespace [] each = refl
all_under rows namespace (name ∷ names) each = by (claim_named rows namespace name) refl (all_under rows namespace names each.1)
  where
    by : (o : Option ClaimData) → claim_named rows namespace name ≡ o
        → list_all (is_under_way rows) (filter_map (claim_named rows namespace) names) ≡ true → list_all (is_under_way rows) (cons_option o (filter_map (claim_named rows namespace) names)) ≡ true
    by None at rest = rest
    by (Some d) at rest = of (each.0 d at)
      where
        of : (is_under_way rows d ≡ true) ⊎ IsIn d [] → (is_under_way rows d && list_all (is_under_way rows) (filter_map (claim_named rows namespace) names)) ≡ true
        of (inl under) = rw under rest
        of (inr none) = absurd none

-- ---- when it begins

in_inserted : (d c : ClaimData) (cs : List ClaimData) → IsIn d (c ∷ cs) → IsIn d (insert_claim c cs)
in_inserted d c [] there = there
in_inserted d c (e ∷ es) there = by (is_gt (claim_cmp c e)) there (in_inserted d c es)
  where
    by : (b : Bool) → IsIn d (c ∷ e ∷ es) → (IsIn d (c ∷ es) → IsIn d (insert_claim c es)) → IsIn d (if b then e ∷ insert_claim c es else c ∷ e ∷ es)
    by true (inl is) rest = inr (rest (inl is))
    by true (inr (inl is)) rest = inl is
    by true (inr (inr more)) rest = inr (rest (inr more))
    by false there_ rest = there_

in_by_size : (d : ClaimData) (cs : List ClaimData) → IsIn d cs → IsIn d (by_size cs)
in_by_size d [] there = there
in_by_size d (c ∷ cs) (inl is) = in_inserted d c (by_size cs) (inl is)
in_by_size d (c ∷ cs) (inr more) = in_inserted d c (by_size cs) (inr (in_by_size d cs more))

-- a claim that is not under way still needs a volume
open_other : (rows : List Object) (d : ClaimData) → is_under_way rows d ≡ false → is_other rows d ≡ true
open_other rows d e = by (is_completed d) (has_carrier rows d) (has_key selected_node d.meta.annotations) e
  where
    by : (done carried has : Bool) → (done || carried || has) ≡ false → (not done && not carried) ≡ true
    by false false has f = refl
    by false true has f = absurd (true≢false f)
    by true carried has f = absurd (true≢false f)

module _ (rows : List Object) (namespace : List ℕ) (cs : List ClaimData) where
  named : (names : List (List ℕ)) → ((d : ClaimData) → IsIn d (filter_map (claim_named rows namespace) names) → is_other rows d ≡ true → IsIn d cs) → Each (IsCovered rows namespace cs) names
  named [] all = tt
  named (name ∷ names) all = (here, named names (λ d i other. all d (later (claim_named rows namespace name) d i) other))
    where
      later : (o : Option ClaimData) (d : ClaimData) → IsIn d (filter_map (claim_named rows namespace) names) → IsIn d (cons_option o (filter_map (claim_named rows namespace) names))
      later None d i = i
      later (Some c) d i = inr i

      first : (o : Option ClaimData) (d : ClaimData) → o ≡ Some d → IsIn d (cons_option o (filter_map (claim_named rows namespace) names))
      first o d e = subst (λ x. IsIn d (cons_option x (filter_map (claim_named rows namespace) names))) (sym e) (inl refl)

      here : IsCovered rows namespace cs name
      here d at = test (is_under_way rows d) refl
        where
          test : (b : Bool) → is_under_way rows d ≡ b → (is_under_way rows d ≡ true) ⊎ IsIn d cs
          test true e = inl e
          test false e = inr (all d (first (claim_named rows namespace name) d at) (open_other rows d e))

pub all_covered : (rows : List Object) (p : PodData) (cs : List ClaimData)
    → ((d : ClaimData) → IsIn d (others_in rows (claims_of rows p)) → IsIn d cs) → Each (IsCovered rows p.meta.namespace cs) p.claims
all_covered rows p cs into = named rows p.meta.namespace cs p.claims (λ d i other. into d
    (in_by_size d (filter (is_other rows) (claims_of rows p)) (in_filter (is_other rows) d (claims_of rows p) i other)))

pub others_few : (rows : List Object) (p : PodData) → length (others_in rows (claims_of rows p)) ≤ length p.claims
others_few rows p =
    let a = sized (filter (is_other rows) (claims_of rows p)) in
    let b = filtered (is_other rows) (claims_of rows p) in
    let c = mapped (claim_named rows p.meta.namespace) p.claims in
    omega (arith, a, b, c)

-- ---- those that take a volume, and those that get the node alone

abbrev pub takers_of : List ClaimData → List Share → List ClaimData
takers_of (c ∷ cs) (TakesVolume place ∷ shares) = c ∷ takers_of cs shares
takers_of (c ∷ cs) (IsProvisioned ∷ shares) = takers_of cs shares
takers_of _ _ = []

in_middle : {X : Type 0} (x y : X) (xs ys : List X) → (y ≡ x) ⊎ IsIn x (xs ++ ys) → IsIn x (xs ++ y ∷ ys)
in_middle x y [] ys there = there
in_middle x y (z ∷ zs) ys (inl is) = inr (in_middle x y zs ys (inl is))
in_middle x y (z ∷ zs) ys (inr (inl is)) = inl is
in_middle x y (z ∷ zs) ys (inr (inr more)) = inr (in_middle x y zs ys (inr more))

pub shared_in : (rows : List Object) (n : NodeData) (d : ClaimData) (cs : List ClaimData) (shares : List Share) (taken : List ℕ)
    → AreShares rows n taken cs shares → IsIn d cs → IsIn d (takers_of cs shares ++ placed_of cs shares)
shared_in rows n d [] shares taken are there = absurd there
shared_in rows n d (c ∷ cs) [] taken are there = absurd are
shared_in rows n d (c ∷ cs) (TakesVolume place ∷ shares) taken are (inl is) = inl is
shared_in rows n d (c ∷ cs) (TakesVolume place ∷ shares) taken are (inr more) = inr (shared_in rows n d cs shares (place ∷ taken) are.1 more)
shared_in rows n d (c ∷ cs) (IsProvisioned ∷ shares) taken are (inl is) = in_middle d c (takers_of cs shares) (placed_of cs shares) (inl is)
shared_in rows n d (c ∷ cs) (IsProvisioned ∷ shares) taken are (inr more) = in_middle d c (takers_of cs shares) (placed_of cs shares) (inr (shared_in rows n d cs shares taken are.2 more))

shared_many : (cs : List ClaimData) (shares : List Share) → length (takers_of cs shares) + length (placed_of cs shares) ≤ length cs
shared_many [] shares = omega arith
shared_many (c ∷ cs) [] = omega arith
shared_many (c ∷ cs) (TakesVolume place ∷ shares) = let rest = shared_many cs shares in omega (arith, rest)
shared_many (c ∷ cs) (IsProvisioned ∷ shares) = let rest = shared_many cs shares in omega (arith, rest)

pub shared_few : (cs : List ClaimData) (shares : List Share) → length (takers_of cs shares ++ placed_of cs shares) ≤ length cs
shared_few cs shares =
    let a = shared_many cs shares in
    let b = length-append (takers_of cs shares) (placed_of cs shares) in
    omega (arith, a, b)
