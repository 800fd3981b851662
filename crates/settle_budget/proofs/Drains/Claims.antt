-- Claims do not grow in a drain; and they, the volumes and the pods are counted by the size.
use Rattle.std.proofs.Common.{◌≡◌, ℕ, ◌+◌, ◌≤◌, List, [], ◌∷◌, refl, ap, arith}
use Rattle.kube_objects.specs.declared.key.Key.{Key}
use Rattle.kube_objects.specs.declared.objects.Object.{Object}
use Rattle.kube_objects.specs.declared.objects.Object.TheVariants.{Class, Node, Volume, Claim, Pod}
use Rattle.kube_objects.specs.Keys.{AreRows, key_of, kind_index, kind_of}
use Rattle.kube_objects.proofs.KeyOrder.{row_at_key}
use Rattle.settle_measure.specs.Left.Measure.{claims_in, pods_in, total, volumes_in}
use Rattle.settle_measure.proofs.Left.Sums.{stands}
use Rattle.settle_calls.specs.Slots.Rounds.{names_in}
use Rattle.settle_write_counts.specs.Rounds.Rounds.{pod_size}
use Rattle.settle_write_counts.proofs.Rounds.Growth.{AreGiven, ByNothing, ByOld, IsCovered, IsGiven, IsMade, IsOld, covered, made_kind}

-- ---- the sizes

pub counted_sizes : (rows : List Object) → claims_in rows + volumes_in rows + pods_in rows ≤ total (λ o. 1 + names_in o) rows
counted_sizes [] = omega arith
counted_sizes (Class x ∷ os) = let rest = counted_sizes os in omega (arith, rest)
counted_sizes (Node x ∷ os) = let rest = counted_sizes os in omega (arith, rest)
counted_sizes (Volume x ∷ os) = let rest = counted_sizes os in omega (arith, rest)
counted_sizes (Claim x ∷ os) = let rest = counted_sizes os in omega (arith, rest)
counted_sizes (Pod x ∷ os) = let rest = counted_sizes os in omega (arith, rest)

pub pods_and_claims : (rows : List Object) → claims_in rows + total pod_size rows ≤ total (λ o. 1 + names_in o) rows
pods_and_claims [] = omega arith
pods_and_claims (Class x ∷ os) = let rest = pods_and_claims os in omega (arith, rest)
pods_and_claims (Node x ∷ os) = let rest = pods_and_claims os in omega (arith, rest)
pods_and_claims (Volume x ∷ os) = let rest = pods_and_claims os in omega (arith, rest)
pods_and_claims (Claim x ∷ os) = let rest = pods_and_claims os in omega (arith, rest)
pods_and_claims (Pod x ∷ os) = let rest = pods_and_claims os in omega (arith, rest)

-- ---- claims

abbrev one_claim : Object → ℕ
one_claim (Claim c) = 1
one_claim o = 0

claims_are : (rows : List Object) → total one_claim rows ≡ claims_in rows
claims_are [] = refl
claims_are (Class x ∷ os) = let rest = claims_are os in omega (arith, rest)
claims_are (Node x ∷ os) = let rest = claims_are os in omega (arith, rest)
claims_are (Volume x ∷ os) = let rest = claims_are os in omega (arith, rest)
claims_are (Claim x ∷ os) = let rest = claims_are os in omega (arith, rest)
claims_are (Pod x ∷ os) = let rest = claims_are os in omega (arith, rest)

module _ (first rows : List Object) (before : AreRows first) (order : AreRows rows) (given : AreGiven first rows) where
  pub claims_few : claims_in rows ≤ claims_in first
  claims_few =
      let few = covered one_claim 0 rows first [] order before (λ o i. by o (given (key_of o) o (stands rows order o i))) in
      let now = claims_are rows in
      let then_ = claims_are first in
      omega (arith, few, now, then_)
    where
      of_claim : (was : Object) → kind_index (kind_of was) ≡ 3 → 1 ≤ one_claim was
      of_claim (Claim c) kind = omega arith
      of_claim (Class x) kind = absurd (omega (arith, kind))
      of_claim (Node x) kind = absurd (omega (arith, kind))
      of_claim (Volume x) kind = absurd (omega (arith, kind))
      of_claim (Pod x) kind = absurd (omega (arith, kind))

      by : (o : Object) → IsGiven first (key_of o) o → IsCovered one_claim 0 first [] o
      by (Claim c) (IsOld was there few uid) = ByOld was there (of_claim was (ap (λ (k : Key). kind_index k.kind) (row_at_key (key_of (Claim c)) was first there)))
      by (Claim c) (IsMade i none) = let k = made_kind (key_of (Claim c)) first i in absurd (omega (arith, k))
      by (Class x) g = ByNothing refl
      by (Node x) g = ByNothing refl
      by (Volume x) g = ByNothing refl
      by (Pod x) g = ByNothing refl
