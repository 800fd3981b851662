-- Where a claim is put among those that are in order, and what the others of a pod come to, one by one.
use Rattle.std.proofs.Common.{ℕ, zero, suc, ◌≡◌, ◌∙◌, ◌+◌, ◌≤◌, Bool, true, false, List, [], ◌∷◌, ◌++◌, cond, drop, take, filter, length, Some, refl, sym, ap, subst, arith, if◌then◌else◌}
use Rattle.std.specs.Prelude.{slice_get}
use Rattle.std.specs.Ordering.{is_gt}
use Rattle.kube_objects.specs.declared.objects.Claim.{Claim as ClaimData}
use Rattle.kube_objects.specs.declared.objects.Object.{Object}
use Rattle.binder_model.specs.Choice.{by_size, claim_cmp, insert_claim, is_other}
use Rattle.model_laws.proofs.Lists.{none_some, one}
use Rattle.delayed_binding.specs.Choices.{others_in}
use Rattle.delayed_binding.specs.Steps.Sharing.{place_in}

pub place_within : (c : ClaimData) (cs : List ClaimData) → place_in c cs ≤ length cs
place_within c [] = omega arith
place_within c (d ∷ ds) = by (is_gt (claim_cmp c d)) (place_within c ds)
  where
    by : (b : Bool) → place_in c ds ≤ length ds → (if b then suc (place_in c ds) else 0) ≤ suc (length ds)
    by true rest = omega (arith, rest)
    by false rest = omega arith

pub inserted_at : (c : ClaimData) (cs : List ClaimData) → take (place_in c cs) cs ++ c ∷ drop (place_in c cs) cs ≡ insert_claim c cs
inserted_at c [] = refl
inserted_at c (d ∷ ds) = by (is_gt (claim_cmp c d)) (inserted_at c ds)
  where
    by : (b : Bool) → take (place_in c ds) ds ++ c ∷ drop (place_in c ds) ds ≡ insert_claim c ds
        → take (if b then suc (place_in c ds) else 0) (d ∷ ds) ++ c ∷ drop (if b then suc (place_in c ds) else 0) (d ∷ ds) ≡ (if b then d ∷ insert_claim c ds else c ∷ d ∷ ds)
    by true rest = ap (λ xs. d ∷ xs) rest
    by false rest = refl

-- one look at a place
pub drop_at : {X : Type 0} (xs : List X) (i : ℕ) (x : X) → slice_get xs i ≡ Some x → drop i xs ≡ x ∷ drop (i + 1) xs
drop_at {X = X} xs i x at = subst (λ n. drop i xs ≡ x ∷ drop n xs) (next i) (by xs i at)
  where
    next : (n : ℕ) → suc n ≡ n + 1
    next n = omega arith

    by : (ys : List X) (n : ℕ) → slice_get ys n ≡ Some x → drop n ys ≡ x ∷ drop (suc n) ys
    by [] n e = none_some e
    by (y ∷ ys) zero e = ap (λ z. z ∷ ys) (one y x e)
    by (y ∷ ys) (suc n) e = by ys n e

pub split_at : {X : Type 0} (xs : List X) (i : ℕ) (x : X) → slice_get xs i ≡ Some x → take i xs ++ x ∷ drop (i + 1) xs ≡ xs
split_at {X = X} xs i x at = ap (λ ys. take i xs ++ ys) (sym (drop_at xs i x at)) ∙ whole xs i
  where
    whole : (ys : List X) (n : ℕ) → take n ys ++ drop n ys ≡ ys
    whole [] zero = refl
    whole [] (suc n) = refl
    whole (y ∷ ys) zero = refl
    whole (y ∷ ys) (suc n) = ap (λ zs. y ∷ zs) (whole ys n)

pub take_next : {X : Type 0} (xs : List X) (i : ℕ) (x : X) → slice_get xs i ≡ Some x → take (i + 1) xs ≡ take i xs ++ x ∷ []
take_next {X = X} xs i x at = subst (λ n. take n xs ≡ take i xs ++ x ∷ []) (next i) (by xs i at)
  where
    next : (n : ℕ) → suc n ≡ n + 1
    next n = omega arith

    by : (ys : List X) (n : ℕ) → slice_get ys n ≡ Some x → take (suc n) ys ≡ take n ys ++ x ∷ []
    by [] n e = none_some e
    by (y ∷ ys) zero e = ap (λ z. z ∷ []) (one y x e)
    by (y ∷ ys) (suc n) e = ap (λ zs. y ∷ zs) (by ys n e)

module _ (rows : List Object) (cs : List ClaimData) (i : ℕ) (c : ClaimData) (at : slice_get cs i ≡ Some c) where
  pub other_put : is_other rows c ≡ true → others_in rows (drop i cs) ≡ insert_claim c (others_in rows (drop (i + 1) cs))
  other_put is = ap (others_in rows) (drop_at cs i c at) ∙ ap (λ b. by_size (cond b (c ∷ filter (is_other rows) (drop (i + 1) cs)) (filter (is_other rows) (drop (i + 1) cs)))) is

  pub other_passed : is_other rows c ≡ false → others_in rows (drop i cs) ≡ others_in rows (drop (i + 1) cs)
  other_passed is = ap (others_in rows) (drop_at cs i c at) ∙ ap (λ b. by_size (cond b (c ∷ filter (is_other rows) (drop (i + 1) cs)) (filter (is_other rows) (drop (i + 1) cs)))) is
