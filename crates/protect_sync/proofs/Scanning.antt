-- A scan of the pods finds one that uses a claim.
use Rattle.std.proofs.Common.{ℕ, zero, suc, ◌≡◌, ◌∙◌, ◌+◌, Bool, true, false, ◌||◌, List, [], ◌∷◌, drop, slice_get, cond, refl, sym, ap, subst, arith}
use Rattle.std.specs.List.{list_any}
use Rattle.kube_parts.specs.declared.parts.Kind.TheVariants as kinds
use Rattle.kube_objects.specs.declared.objects.Claim.{Claim as ClaimData}
use Rattle.kube_objects.specs.declared.objects.Object.{Object}
use Rattle.kube_objects.specs.declared.objects.Object.TheVariants.{Class, Node, Volume, Claim, Pod}
use Rattle.kube_objects.specs.Keys.{is_of_kind, rows_of}
use Rattle.kube_objects.specs.Bindings.{uses}
use Rattle.protect_sync.specs.Steps.Pods.{is_used_by}

others_use_none : (c : ClaimData) (o : Object) → is_of_kind kinds.Pod o ≡ false → uses c o ≡ false
others_use_none c (Class x) h = refl
others_use_none c (Node x) h = refl
others_use_none c (Volume x) h = refl
others_use_none c (Claim x) h = refl
others_use_none c (Pod x) h = cc

-- only pods use a claim
pub of_pods : (c : ClaimData) (rows : List Object) → list_any (uses c) (rows_of kinds.Pod rows) ≡ list_any (uses c) rows
of_pods c [] = refl
of_pods c (o ∷ rows) = by (is_of_kind kinds.Pod o) refl (of_pods c rows)
  where
    by : (b : Bool) → is_of_kind kinds.Pod o ≡ b → list_any (uses c) (rows_of kinds.Pod rows) ≡ list_any (uses c) rows
        → list_any (uses c) (cond b (o ∷ rows_of kinds.Pod rows) (rows_of kinds.Pod rows)) ≡ (uses c o || list_any (uses c) rows)
    by true e same = ap (λ r. uses c o || r) same
    by false e same = same ∙ ap (λ b. b || list_any (uses c) rows) (sym (others_use_none c o e))

pub found_at : (c : ClaimData) (os : List Object) (i : ℕ) → is_used_by c (slice_get os i) ≡ true → list_any (uses c) (drop i os) ≡ true
found_at c [] i h = cc
found_at c (o ∷ os) zero h = ap (λ b. b || list_any (uses c) os) h
found_at c (o ∷ os) (suc i) h = found_at c os i h

passed : (c : ClaimData) (os : List Object) (i : ℕ) → is_used_by c (slice_get os i) ≡ false → list_any (uses c) (drop (suc i) os) ≡ list_any (uses c) (drop i os)
passed c [] zero h = refl
passed c [] (suc i) h = refl
passed c (o ∷ os) zero h = ap (λ b. b || list_any (uses c) os) (sym h)
passed c (o ∷ os) (suc i) h = passed c os i h

pub passed_at : (c : ClaimData) (os : List Object) (i : ℕ) → is_used_by c (slice_get os i) ≡ false → list_any (uses c) (drop (i + 1) os) ≡ list_any (uses c) (drop i os)
passed_at c os i h = subst (λ n. list_any (uses c) (drop n os) ≡ list_any (uses c) (drop i os)) (next i) (passed c os i h)
  where
    next : (n : ℕ) → suc n ≡ n + 1
    next n = omega arith
