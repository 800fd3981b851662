-- A node that may give fewer volumes than there are claims, each as large as one and of its class, does not serve them.
use Rattle.std.proofs.Common.{
  ℕ,
  zero,
  suc,
  ◌≡◌,
  ◌∙◌,
  ◌<◌,
  ◌≤◌,
  ◌+◌,
  ◌==◌,
  Bool,
  true,
  false,
  true≢false,
  not,
  ◌&&◌,
  ◌||◌,
  List,
  [],
  ◌∷◌,
  drop,
  length,
  Some,
  refl,
  sym,
  ap,
  subst,
  arith,
  bytes_eq,
  nat_le,
  is_none,
}
use Rattle.std.specs.Prelude.{slice_get}
use Rattle.std.specs.Bool.{OnTrue}
use Rattle.std.specs.List.{list_all}
use Rattle.std.proofs.lemmas.Bool.{le-leb, leb-true, and_parts}
use Rattle.std.proofs.lemmas.Bool.Decides.{Decides-eqb}
use Rattle.std.proofs.lemmas.Slice.Eq.{bytes_eq-Decides}
use Rattle.kube_parts.specs.declared.parts.Kind.TheVariants as kinds
use Rattle.kube_parts.specs.declared.parts.VolumePhase.{VolumePhase}
use Rattle.kube_parts.specs.declared.parts.VolumePhase.TheVariants as phases
use Rattle.kube_objects.specs.declared.objects.Claim.{Claim as ClaimData}
use Rattle.kube_objects.specs.declared.objects.Node.{Node as NodeData}
use Rattle.kube_objects.specs.declared.objects.Volume.{Volume as VolumeData}
use Rattle.kube_objects.specs.declared.objects.Object.{Object}
use Rattle.kube_objects.specs.declared.objects.Object.TheVariants.{Volume}
use Rattle.kube_objects.specs.Bindings.{class_of_claim, class_of_volume, is_available, is_deleting, is_ended, is_for, is_protected_volume}
use Rattle.kube_objects.specs.Keys.{row_at, rows_of}
use Rattle.volume_index.specs.VolumeIndex.{as_volume}
use Rattle.label_rules.specs.Selectors.{admits}
use Rattle.binder_model.specs.Choice.{AreShares, IsProvisioned, Share, TakesVolume, can_provision, class_provisions}
use Rattle.binder_model.specs.Matching.{eligible, fits, is_excluded, is_selected, may_serve}
use Rattle.binder_model.specs.ObjectKeys.{class_key}
use Rattle.model_laws.proofs.Lists.{none_some}
use Rattle.volume_match.proofs.Fitting.{fit_of}
use Rattle.delayed_binding.specs.Choices.{set_aside}
use Rattle.delayed_binding.specs.Steps.Counts.{asks_like, count_given, count_left, gives_at, may_give, one_less, one_more}
use Rattle.delayed_binding.specs.Steps.Sharing.{HaveNoShares}
use Rattle.delayed_binding.proofs.Known.{and_right}

module _ (one : ClaimData) (n : NodeData) where
  -- a count goes up or down with its parts

  more_left : (g x y : Bool) (a b : ℕ) → a ≤ b → one_more (g && not (x || y)) a ≤ one_more (g && not y) b
  more_left false x y a b le = le
  more_left true true true a b le = le
  more_left true true false a b le = omega (arith, le)
  more_left true false true a b le = le
  more_left true false false a b le = omega (arith, le)

  less_left : (g x y : Bool) (a b : ℕ) → a < b → one_more (g && not (x || y)) a < one_more (g && not y) b
  less_left false x y a b lt = lt
  less_left true true true a b lt = lt
  less_left true true false a b lt = omega (arith, lt)
  less_left true false true a b lt = lt
  less_left true false false a b lt = omega (arith, lt)

  one_goes : (g x y : Bool) (a b : ℕ) → a ≤ b → g ≡ true → x ≡ true → y ≡ false → one_more (g && not (x || y)) a < one_more (g && not y) b
  one_goes true true false a b le g x y = omega (arith, le)
  one_goes false _ _ a b le g x y = absurd (true≢false (sym g))
  one_goes true false _ a b le g x y = absurd (true≢false (sym x))
  one_goes true true true a b le g x y = absurd (true≢false y)

  fewer : (os : List Object) (at p : ℕ) (taken : List ℕ) → count_left one n (p ∷ taken) at os ≤ count_left one n taken at os
  fewer [] at p taken = omega arith
  fewer (o ∷ os) at p taken = more_left (gives_at one n (as_volume (Some o))) (p == at) (is_excluded taken at) (count_left one n (p ∷ taken) (at + 1)
      os) (count_left one n taken (at + 1) os) (fewer os (at + 1) p taken)

  one_taken : (os : List Object) (at i p : ℕ) (taken : List ℕ) (v : VolumeData) → p ≡ at + i → slice_get os i ≡ Some (Volume v)
      → may_give one n v ≡ true → is_excluded taken p ≡ false → count_left one n (p ∷ taken) at os < count_left one n taken at os
  one_taken [] at i p taken v e there gives out = none_some there
  one_taken (o ∷ os) at zero p taken v e there gives out =
      let here : p ≡ at = omega (arith, e) in
      one_goes (gives_at one n (as_volume (Some o))) (p == at) (is_excluded taken at) (count_left one n (p ∷ taken) (at + 1) os) (count_left one n taken (at + 1) os) (fewer os (at + 1) p taken)
      (ap (λ x. gives_at one n (as_volume x)) there ∙ gives) ((Decides-eqb p at).1 here) (subst (λ k. is_excluded taken k ≡ false) here out)
  one_taken (o ∷ os) at (suc i) p taken v e there gives out =
      less_left (gives_at one n (as_volume (Some o))) (p == at) (is_excluded taken at) (count_left one n (p ∷ taken) (at + 1) os)
      (count_left one n taken (at + 1) os) (one_taken os (at + 1) i p taken v (omega (arith, e)) there gives out)

  -- what is left is no more than there is
  at_most : (os : List Object) (at : ℕ) (taken : List ℕ) → count_left one n taken at os ≤ count_given one n os
  at_most [] at taken = omega arith
  at_most (o ∷ os) at taken = by (gives_at one n (as_volume (Some o))) (is_excluded taken at) (count_left one n taken (at + 1) os) (count_given one n os) (at_most os (at + 1) taken)
    where
      by : (g y : Bool) (a b : ℕ) → a ≤ b → one_more (g && not y) a ≤ one_more g b
      by false y a b le = le
      by true true a b le = omega (arith, le)
      by true false a b le = omega (arith, le)

  -- one look at a place
  counted_from : (os : List Object) (i : ℕ) → count_given one n (drop i os) ≡ one_more (gives_at one n (as_volume (slice_get os i))) (count_given one n (drop (suc i) os))
  counted_from [] zero = refl
  counted_from [] (suc i) = refl
  counted_from (o ∷ os) zero = refl
  counted_from (o ∷ os) (suc i) = counted_from os i

  pub count_next : (os : List Object) (i left after wanted : ℕ) → 0 < left → after ≡ one_less (gives_at one n (as_volume (slice_get os i))) left
      → count_given one n os + left ≡ wanted + count_given one n (drop i os) → count_given one n os + after ≡ wanted + count_given one n (drop (i + 1) os)
  count_next os i left after wanted some is before =
      subst (λ k. count_given one n os + after ≡ wanted + count_given one n (drop k os)) (next i)
      (by (gives_at one n (as_volume (slice_get os i))) (count_given one n os) (count_given one n (drop i os)) (count_given one n (drop (suc i) os)) (counted_from os i) is before)
    where
      next : (k : ℕ) → suc k ≡ k + 1
      next k = omega arith

      by : (g : Bool) (all here rest : ℕ) → here ≡ one_more g rest → after ≡ one_less g left → all + left ≡ wanted + here → all + after ≡ wanted + rest
      by true all here rest e f sum = omega (arith, e, f, sum, some)
      by false all here rest e f sum = omega (arith, e, f, sum)

module _ (rows : List Object) (one : ClaimData) (n : NodeData) (cannot : class_provisions (row_at (class_key (class_of_claim one)) rows) ≡ false) where
  -- what is known of an eligible volume beside what fits
  abbrev OpenTo : VolumeData → Type 0
  OpenTo v = (is_deleting v.meta ≡ false) × (is_ended v.phase ≡ false) × (admits v.terms n.meta.labels ≡ true)

  is_off : (b : Bool) → not b ≡ true → b ≡ false
  is_off false e = refl
  is_off true e = absurd (true≢false (sym e))

  available_goes_on : (p : VolumePhase) → is_available p ≡ true → is_ended p ≡ false
  available_goes_on phases.Available e = refl
  available_goes_on phases.Pending e = refl
  available_goes_on phases.Bound e = refl
  available_goes_on phases.Released e = absurd (true≢false (sym e))
  available_goes_on phases.Failed e = absurd (true≢false (sym e))

  serving_goes_on : (c : ClaimData) (v : VolumeData) → may_serve v c ≡ true → is_ended v.phase ≡ false
  serving_goes_on c v e = by (is_for v c) (is_ended v.phase) (is_available v.phase) (is_none v.claim_ref) refl refl e
    where
      by : (a b x y : Bool) → is_ended v.phase ≡ b → is_available v.phase ≡ x → ((a && not b) || (x && y)) ≡ true → is_ended v.phase ≡ false
      by true false x y p q e = p
      by true true true y p q e = available_goes_on v.phase q
      by true true false y p q e = absurd (true≢false (sym e))
      by false b true y p q e = available_goes_on v.phase q
      by false b false y p q e = absurd (true≢false (sym e))

  open_of : (c : ClaimData) (v : VolumeData) → eligible v c (Some n) ≡ true → OpenTo v
  open_of c v e =
      let deleting = not (is_deleting v.meta) in
      let before = deleting && is_protected_volume v && fits v c && is_selected c.selector v.meta.labels in
      let both = and_parts (before && admits v.terms n.meta.labels) (may_serve v c) e in
      let w = and_parts before (admits v.terms n.meta.labels) both.0 in
      let x = and_parts (deleting && is_protected_volume v && fits v c) (is_selected c.selector v.meta.labels) w.0 in
      let y = and_parts (deleting && is_protected_volume v) (fits v c) x.0 in
      (is_off (is_deleting v.meta) (and_parts deleting (is_protected_volume v) y.0).0, serving_goes_on c v both.1, w.1)

  abbrev Likes : ClaimData → Type 0
  Likes c = (class_of_claim c ≡ class_of_claim one) × (one.amount.bytes ≤ c.amount.bytes)

  likes : (c : ClaimData) → asks_like one c ≡ true → Likes c
  likes c e =
      let x = and_parts (bytes_eq (class_of_claim c) (class_of_claim one)) (nat_le one.amount.bytes c.amount.bytes) e in
      ((bytes_eq-Decides (class_of_claim c) (class_of_claim one)).0 x.0, leb-true one.amount.bytes c.amount.bytes x.1)

  all_four : (a b x y z : Bool) → a ≡ true → b ≡ true → x ≡ false → y ≡ false → z ≡ true → ((a && b && not x && not y) && z) ≡ true
  all_four true true false false true _ _ _ _ _ = refl
  all_four false _ _ _ _ e _ _ _ _ = absurd (true≢false (sym e))
  all_four true false _ _ _ _ e _ _ _ = absurd (true≢false (sym e))
  all_four true true true _ _ _ _ e _ _ = absurd (true≢false e)
  all_four true true false true _ _ _ _ e _ = absurd (true≢false e)
  all_four true true false false false _ _ _ _ e = absurd (true≢false (sym e))

  gives_of : (c : ClaimData) (v : VolumeData) → asks_like one c ≡ true → eligible v c (Some n) ≡ true → may_give one n v ≡ true
  gives_of c v is e =
      let like = likes c is in
      let fit = fit_of c (Some n) v e in
      let open_to = open_of c v e in
      let same : class_of_volume v ≡ class_of_claim one = fit.class ∙ like.0 in
      all_four (bytes_eq (class_of_volume v) (class_of_claim one)) (nat_le one.amount.bytes v.amount.bytes) (is_deleting v.meta) (is_ended v.phase) (admits v.terms n.meta.labels)
      ((bytes_eq-Decides (class_of_volume v) (class_of_claim one)).1 same) (le-leb one.amount.bytes v.amount.bytes (omega (arith, like.1, fit.bytes))) open_to.0 open_to.1 open_to.2

  not_provisioned : (c : ClaimData) → asks_like one c ≡ true → can_provision rows c ≡ true → ⊥
  not_provisioned c is can =
      let own = and_right (is_none c.selector) (class_provisions (row_at (class_key (class_of_claim c)) rows)) can in
      true≢false (sym own ∙ (ap (λ k. class_provisions (row_at (class_key k) rows)) (likes c is).0 ∙ cannot))

  up : (a b d : ℕ) → a ≤ b → b < d → suc a ≤ d
  up a b d le lt = omega (arith, le, lt)

  at_first : (p : ℕ) → p ≡ 0 + p
  at_first p = omega arith

  -- each claim takes one of those that are left
  needed : (cs : List ClaimData) (taken : List ℕ) (shares : List Share) → list_all (asks_like one) cs ≡ true → AreShares rows n taken cs shares
      → length cs ≤ count_left one n taken 0 (rows_of kinds.PersistentVolume rows)
  needed [] taken shares all are = omega arith
  needed (c ∷ cs) taken [] all are = absurd are
  needed (c ∷ cs) taken (TakesVolume p ∷ shares) all are =
      let both = and_parts (asks_like one c) (list_all (asks_like one) cs) all in
      let k = are.0.candidate in
      up (length cs) (count_left one n (p ∷ taken) 0 (rows_of kinds.PersistentVolume rows)) (count_left one n taken 0 (rows_of kinds.PersistentVolume rows)) (needed cs (p ∷ taken) shares both.1 are.1)
      (one_taken one n (rows_of kinds.PersistentVolume rows) 0 p p taken are.0.volume (at_first p) k.there (gives_of c are.0.volume both.0 k.eligible) k.open_to)
  needed (c ∷ cs) taken (IsProvisioned ∷ shares) all are = absurd (not_provisioned c (and_parts (asks_like one c) (list_all (asks_like one) cs) all).0 are.1)

  short : (a b d e : ℕ) → a ≤ b → b ≤ d → d < e → e ≡ a → ⊥
  short a b d e x y z same = omega (arith, x, y, z, same)

  -- so there are enough of them, where the claims have shares
  pub too_few : (cs : List ClaimData) (wanted : ℕ) (fewer : Bool) → list_all (asks_like one) cs ≡ true → wanted ≡ length cs
      → OnTrue fewer (count_given one n (rows_of kinds.PersistentVolume rows) < wanted) → OnTrue fewer (HaveNoShares rows n cs)
  too_few cs wanted true all is less = λ shares are.
      short (length cs) (count_left one n (set_aside rows) 0 (rows_of kinds.PersistentVolume rows)) (count_given one n (rows_of kinds.PersistentVolume rows)) wanted
      (needed cs (set_aside rows) shares all are) (at_most one n (rows_of kinds.PersistentVolume rows) 0 (set_aside rows)) less is
  too_few cs wanted false all is less = tt
