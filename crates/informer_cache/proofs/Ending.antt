-- A key that comes after the last row would stand at the end.
use Rattle.std.proofs.Common.{ℕ, suc, ◌≡◌, ◌-◌, List, [], ◌∷◌, length, refl, subst, arith}
use Rattle.std.specs.Prelude.{Some, slice_get}
use Rattle.std.specs.Cmp.{IsTotalOrder}
use Rattle.std.specs.declared.cmp.Ordering.{Ordering}
use Rattle.std.specs.declared.cmp.Ordering.TheVariants.{Less}
use Rattle.plain_data.specs.Rows.{IsAfter, IsGap, IsRising}

module _ {K X : Type 0} {cmp : K → K → Ordering} (o : IsTotalOrder cmp) (key : X → K) (k : K) where
  -- the first of rows in order comes before what comes after the last
  before_last : (x y : X) (xs : List X) → IsAfter cmp key x (y ∷ xs) → ((last : X) → slice_get (y ∷ xs) (length xs) ≡ Some last → cmp (key last) k ≡ Less) → cmp (key x) k ≡ Less
  before_last x y [] a past = o.trans _ _ _ a.0 (past y refl)
  before_last x y (z ∷ xs) a past = before_last x z xs a.1 (λ last at. past last at)

  gap_of : (x : X) (xs : List X) → IsRising cmp key (x ∷ xs) → ((last : X) → slice_get (x ∷ xs) (length xs) ≡ Some last → cmp (key last) k ≡ Less) → IsGap cmp key k (x ∷ xs) (suc (length xs))
  gap_of x [] r past = (past x refl, tt)
  gap_of x (y ∷ xs) r past = (before_last x y xs r.0 (λ last at. past last at), gap_of y xs r.1 (λ last at. past last at))

  pub gap_end : (xs : List X) → IsRising cmp key xs → ((last : X) → slice_get xs (length xs - 1) ≡ Some last → cmp (key last) k ≡ Less) → IsGap cmp key k xs (length xs)
  gap_end [] r past = tt
  gap_end (x ∷ xs) r past = gap_of x xs r (λ last at. past last (subst (λ n. slice_get (x ∷ xs) n ≡ Some last) (one_less (length xs)) at))
    where
      one_less : (n : ℕ) → n ≡ suc n - 1
      one_less n = omega arith
