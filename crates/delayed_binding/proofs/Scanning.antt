-- Scans of the objects of one kind, place by place.
use Rattle.std.proofs.Common.{
  ℕ,
  zero,
  suc,
  ◌≡◌,
  ◌∙◌,
  ◌+◌,
  Bool,
  true,
  false,
  true≢false,
  not,
  ◌&&◌,
  ◌||◌,
  List,
  [],
  ◌∷◌,
  ◌++◌,
  ◌==◌,
  drop,
  length,
  cond,
  Some,
  refl,
  sym,
  ap,
  subst,
  arith,
  if◌then◌else◌,
}
use Rattle.std.specs.Prelude.{slice_get}
use Rattle.std.specs.List.{list_all, list_any}
use Rattle.std.proofs.lemmas.List.{drop_all}
use Rattle.std.proofs.lemmas.List.Folds.{list_any-append}
use Rattle.kube_parts.specs.declared.parts.Kind.{Kind}
use Rattle.kube_parts.specs.declared.parts.Kind.TheVariants as kinds
use Rattle.kube_objects.specs.declared.objects.Claim.{Claim as ClaimData}
use Rattle.kube_objects.specs.declared.objects.Node.{Node as NodeData}
use Rattle.kube_objects.specs.declared.objects.Object.{Object}
use Rattle.kube_objects.specs.declared.objects.Object.TheVariants.{Class, Node, Volume, Claim, Pod}
use Rattle.kube_objects.specs.Bindings.{is_empty}
use Rattle.kube_objects.specs.Keys.{is_of_kind, meta_of, rows_of}
use Rattle.binder_model.specs.Choice.{admits_if_carrying, carries_claim}
use Rattle.binder_model.specs.Matching.{is_excluded}
use Rattle.delayed_binding.specs.Choices.{places_from}
use Rattle.delayed_binding.specs.Steps.Places.{admits_at, carries_at, is_in_namespace}
use Rattle.delayed_binding.specs.Steps.Sharing.{AreSame}
use Rattle.volume_index.specs.VolumeIndex.{as_volume}

-- what the objects of other kinds cannot change

any_of_kind : (p : Object → Bool) (kind : Kind) → ((o : Object) → is_of_kind kind o ≡ false → p o ≡ false) → (rows : List Object) → list_any p (rows_of kind rows) ≡ list_any p rows
any_of_kind p kind others [] = refl
any_of_kind p kind others (o ∷ rows) = by (is_of_kind kind o) refl (any_of_kind p kind others rows)
  where
    by : (b : Bool) → is_of_kind kind o ≡ b → list_any p (rows_of kind rows) ≡ list_any p rows → list_any p (cond b (o ∷ rows_of kind rows) (rows_of kind rows)) ≡ (p o || list_any p rows)
    by true e same = ap (λ r. p o || r) same
    by false e same = same ∙ ap (λ b. b || list_any p rows) (sym (others o e))

all_of_kind : (p : Object → Bool) (kind : Kind) → ((o : Object) → is_of_kind kind o ≡ false → p o ≡ true) → (rows : List Object) → list_all p (rows_of kind rows) ≡ list_all p rows
all_of_kind p kind others [] = refl
all_of_kind p kind others (o ∷ rows) = by (is_of_kind kind o) refl (all_of_kind p kind others rows)
  where
    by : (b : Bool) → is_of_kind kind o ≡ b → list_all p (rows_of kind rows) ≡ list_all p rows → list_all p (cond b (o ∷ rows_of kind rows) (rows_of kind rows)) ≡ (p o && list_all p rows)
    by true e same = ap (λ r. p o && r) same
    by false e same = same ∙ ap (λ b. b && list_all p rows) (sym (others o e))

-- one look at a place

next : (i : ℕ) → suc i ≡ i + 1
next i = omega arith

-- only volumes carry a claim
pub carriers_are_volumes : (c : ClaimData) (rows : List Object) → list_any (carries_claim c) (rows_of kinds.PersistentVolume rows) ≡ list_any (carries_claim c) rows
carriers_are_volumes c rows = any_of_kind (carries_claim c) kinds.PersistentVolume others rows
  where
    others : (o : Object) → is_of_kind kinds.PersistentVolume o ≡ false → carries_claim c o ≡ false
    others (Class x) e = refl
    others (Node x) e = refl
    others (Volume x) e = absurd (true≢false e)
    others (Claim x) e = refl
    others (Pod x) e = refl

carries_there : (c : ClaimData) (o : Object) → carries_at c (as_volume (Some o)) ≡ carries_claim c o
carries_there c (Class x) = refl
carries_there c (Node x) = refl
carries_there c (Volume x) = refl
carries_there c (Claim x) = refl
carries_there c (Pod x) = refl

pub carrier_found : (c : ClaimData) (os : List Object) (i : ℕ) → carries_at c (as_volume (slice_get os i)) ≡ true → list_any (carries_claim c) (drop i os) ≡ true
carrier_found c [] i h = absurd (true≢false (sym h))
carrier_found c (o ∷ os) zero h = ap (λ b. b || list_any (carries_claim c) os) (sym (carries_there c o) ∙ h)
carrier_found c (o ∷ os) (suc i) h = carrier_found c os i h

passed : (c : ClaimData) (os : List Object) (i : ℕ) → carries_at c (as_volume (slice_get os i)) ≡ false → list_any (carries_claim c) (drop (suc i) os) ≡ list_any (carries_claim c) (drop i os)
passed c [] zero h = refl
passed c [] (suc i) h = refl
passed c (o ∷ os) zero h = ap (λ b. b || list_any (carries_claim c) os) (sym (sym (carries_there c o) ∙ h))
passed c (o ∷ os) (suc i) h = passed c os i h

pub carrier_passed : (c : ClaimData) (os : List Object) (i : ℕ) → carries_at c (as_volume (slice_get os i)) ≡ false
    → list_any (carries_claim c) (drop (i + 1) os) ≡ list_any (carries_claim c) (drop i os)
carrier_passed c os i h = subst (λ n. list_any (carries_claim c) (drop n os) ≡ list_any (carries_claim c) (drop i os)) (next i) (passed c os i h)

-- only volumes that carry the claim must admit the node
pub admitting_are_volumes : (n : NodeData) (c : ClaimData) (rows : List Object) → list_all (admits_if_carrying n c) (rows_of kinds.PersistentVolume rows) ≡ list_all (admits_if_carrying n c) rows
admitting_are_volumes n c rows = all_of_kind (admits_if_carrying n c) kinds.PersistentVolume others rows
  where
    others : (o : Object) → is_of_kind kinds.PersistentVolume o ≡ false → admits_if_carrying n c o ≡ true
    others (Class x) e = refl
    others (Node x) e = refl
    others (Volume x) e = absurd (true≢false e)
    others (Claim x) e = refl
    others (Pod x) e = refl

admits_there : (n : NodeData) (c : ClaimData) (o : Object) → admits_at n c (as_volume (Some o)) ≡ admits_if_carrying n c o
admits_there n c (Class x) = refl
admits_there n c (Node x) = refl
admits_there n c (Volume x) = refl
admits_there n c (Claim x) = refl
admits_there n c (Pod x) = refl

pub admission_failed : (n : NodeData) (c : ClaimData) (os : List Object) (i : ℕ) → admits_at n c (as_volume (slice_get os i)) ≡ false → list_all (admits_if_carrying n c) (drop i os) ≡ false
admission_failed n c [] i h = absurd (true≢false h)
admission_failed n c (o ∷ os) zero h = ap (λ b. b && list_all (admits_if_carrying n c) os) (sym (admits_there n c o) ∙ h)
admission_failed n c (o ∷ os) (suc i) h = admission_failed n c os i h

admitted : (n : NodeData) (c : ClaimData) (os : List Object) (i : ℕ) → admits_at n c (as_volume (slice_get os i)) ≡ true
    → list_all (admits_if_carrying n c) (drop (suc i) os) ≡ list_all (admits_if_carrying n c) (drop i os)
admitted n c [] zero h = refl
admitted n c [] (suc i) h = refl
admitted n c (o ∷ os) zero h = ap (λ b. b && list_all (admits_if_carrying n c) os) (sym (sym (admits_there n c o) ∙ h))
admitted n c (o ∷ os) (suc i) h = admitted n c os i h

pub admission_passed : (n : NodeData) (c : ClaimData) (os : List Object) (i : ℕ) → admits_at n c (as_volume (slice_get os i)) ≡ true
    → list_all (admits_if_carrying n c) (drop (i + 1) os) ≡ list_all (admits_if_carrying n c) (drop i os)
admission_passed n c os i h = subst (λ k. list_all (admits_if_carrying n c) (drop k os) ≡ list_all (admits_if_carrying n c) (drop i os)) (next i) (admitted n c os i h)

-- places that are set aside

aside_at : (os : List Object) (i at : ℕ) → is_in_namespace (slice_get os i) ≡ true → places_from at (drop i os) ≡ at ∷ places_from (at + 1) (drop (suc i) os)
aside_at [] i at h = absurd (true≢false (sym h))
aside_at (o ∷ os) zero at h = by (is_empty (meta_of o).namespace) h
  where
    by : (b : Bool) → not b ≡ true → (if b then places_from (at + 1) os else at ∷ places_from (at + 1) os) ≡ at ∷ places_from (at + 1) os
    by true e = absurd (true≢false (sym e))
    by false e = refl
aside_at (o ∷ os) (suc i) at h = aside_at os i at h

pub place_aside : (os : List Object) (i : ℕ) → is_in_namespace (slice_get os i) ≡ true → places_from i (drop i os) ≡ i ∷ places_from (i + 1) (drop (i + 1) os)
place_aside os i h = subst (λ k. places_from i (drop i os) ≡ i ∷ places_from (i + 1) (drop k os)) (next i) (aside_at os i i h)

kept_at : (os : List Object) (i at : ℕ) → is_in_namespace (slice_get os i) ≡ false → places_from at (drop i os) ≡ places_from (at + 1) (drop (suc i) os)
kept_at [] zero at h = refl
kept_at [] (suc i) at h = refl
kept_at (o ∷ os) zero at h = by (is_empty (meta_of o).namespace) h
  where
    by : (b : Bool) → not b ≡ false → (if b then places_from (at + 1) os else at ∷ places_from (at + 1) os) ≡ places_from (at + 1) os
    by true e = refl
    by false e = absurd (true≢false e)
kept_at (o ∷ os) (suc i) at h = kept_at os i at h

pub place_kept : (os : List Object) (i : ℕ) → is_in_namespace (slice_get os i) ≡ false → places_from i (drop i os) ≡ places_from (i + 1) (drop (i + 1) os)
place_kept os i h = subst (λ k. places_from i (drop i os) ≡ places_from (i + 1) (drop k os)) (next i) (kept_at os i i h)

or_none : (b : Bool) → (b || false) ≡ b
or_none true = refl
or_none false = refl

drop_whole : (os : List Object) (i : ℕ) → i ≡ length os → drop i os ≡ []
drop_whole os i end = drop_all i os (omega (arith, end))

pub aside_step : (os : List Object) (i : ℕ) (xs after : List ℕ) → AreSame after (if is_in_namespace (slice_get os i) then i ∷ xs else xs)
    → AreSame (after ++ places_from (i + 1) (drop (i + 1) os)) (xs ++ places_from i (drop i os))
aside_step os i xs after more k = list_any-append (λ p. p == k) after (places_from (i + 1) (drop (i + 1) os))
    ∙ (by (is_in_namespace (slice_get os i)) refl more ∙ sym (list_any-append (λ p. p == k) xs (places_from i (drop i os))))
  where
    turned : (a b p : Bool) → ((p || a) || b) ≡ (a || (p || b))
    turned true b true = refl
    turned true b false = refl
    turned false b true = refl
    turned false b false = refl

    by : (b : Bool) → is_in_namespace (slice_get os i) ≡ b → AreSame after (if b then i ∷ xs else xs)
        → (is_excluded after k || is_excluded (places_from (i + 1) (drop (i + 1) os)) k) ≡ (is_excluded xs k || is_excluded (places_from i (drop i os)) k)
    by true h same = ap (λ b. b || is_excluded (places_from (i + 1) (drop (i + 1) os)) k) (same k)
        ∙ (turned (is_excluded xs k) (is_excluded (places_from (i + 1) (drop (i + 1) os)) k) (i == k) ∙ ap (λ ys. is_excluded xs k || is_excluded ys k) (sym (place_aside os i h)))
    by false h same = ap (λ b. b || is_excluded (places_from (i + 1) (drop (i + 1) os)) k) (same k) ∙ ap (λ ys. is_excluded xs k || is_excluded ys k) (sym (place_kept os i h))

-- past the last object no place is set aside
pub aside_end : (os : List Object) (i : ℕ) (xs ys : List ℕ) → i ≡ length os → AreSame (xs ++ places_from i (drop i os)) ys → AreSame xs ys
aside_end os i xs ys end same k = sym (list_any-append (λ p. p == k) xs (places_from i (drop i os)) ∙ ap
    (λ zs. is_excluded xs k || is_excluded (places_from i zs) k) (drop_whole os i end) ∙ or_none (is_excluded xs k)) ∙ same k
