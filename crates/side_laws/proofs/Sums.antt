-- What counted claims use, after one of them is counted, counted no more, or grows.
use Rattle.std.proofs.Common.{ℕ, ◌+◌, ◌≤◌, List, [], ◌∷◌, Bool, true, false, cond, arith, Less, Equal, Greater}
use Rattle.std.specs.declared.cmp.Ordering.{Ordering}
use Rattle.std.specs.Ordering.{is_eq, match_ordering}
use Rattle.plain_data.specs.Rows.{put, without}
use Rattle.kube_objects.specs.declared.key.Key.{Key}
use Rattle.kube_objects.specs.Keys.{key_cmp}
use Rattle.quota_rules.specs.declared.counted.Counted.{Counted}
use Rattle.quota_rules.specs.Counting.{counted_key}
use Rattle.quota_rules.specs.Using.{bytes_by, claims_by, if_in}

module _ (namespace : List ℕ) where
  pub put_bytes : (x : Counted) (xs : List Counted) → bytes_by namespace (put key_cmp counted_key x xs) ≤ bytes_by namespace xs + if_in namespace x.key.namespace x.asked
  put_bytes x [] = omega arith
  put_bytes x (y ∷ ys) = by (key_cmp y.key x.key) (put_bytes x ys)
    where
      by : (o : Ordering) → bytes_by namespace (put key_cmp counted_key x ys) ≤ bytes_by namespace ys + if_in namespace x.key.namespace x.asked
          → bytes_by namespace (match_ordering o (y ∷ put key_cmp counted_key x ys) (x ∷ ys) (x ∷ y ∷ ys))
          ≤ (if_in namespace y.key.namespace y.asked + bytes_by namespace ys) + if_in namespace x.key.namespace x.asked
      by Less rest = omega (arith, rest)
      by Equal rest = omega arith
      by Greater rest = omega arith

  pub put_claims : (x : Counted) (xs : List Counted) → claims_by namespace (put key_cmp counted_key x xs) ≤ claims_by namespace xs + if_in namespace x.key.namespace 1
  put_claims x [] = omega arith
  put_claims x (y ∷ ys) = by (key_cmp y.key x.key) (put_claims x ys)
    where
      by : (o : Ordering) → claims_by namespace (put key_cmp counted_key x ys) ≤ claims_by namespace ys + if_in namespace x.key.namespace 1
          → claims_by namespace (match_ordering o (y ∷ put key_cmp counted_key x ys) (x ∷ ys) (x ∷ y ∷ ys))
          ≤ (if_in namespace y.key.namespace 1 + claims_by namespace ys) + if_in namespace x.key.namespace 1
      by Less rest = omega (arith, rest)
      by Equal rest = omega arith
      by Greater rest = omega arith

  pub without_bytes : (k : Key) (xs : List Counted) → bytes_by namespace (without key_cmp counted_key k xs) ≤ bytes_by namespace xs
  without_bytes k [] = omega arith
  without_bytes k (y ∷ ys) = by (is_eq (key_cmp y.key k)) (without_bytes k ys)
    where
      by : (b : Bool) → bytes_by namespace (without key_cmp counted_key k ys) ≤ bytes_by namespace ys
          → bytes_by namespace (cond b ys (y ∷ without key_cmp counted_key k ys)) ≤ if_in namespace y.key.namespace y.asked + bytes_by namespace ys
      by true rest = omega arith
      by false rest = omega (arith, rest)

  pub without_claims : (k : Key) (xs : List Counted) → claims_by namespace (without key_cmp counted_key k xs) ≤ claims_by namespace xs
  without_claims k [] = omega arith
  without_claims k (y ∷ ys) = by (is_eq (key_cmp y.key k)) (without_claims k ys)
    where
      by : (b : Bool) → claims_by namespace (without key_cmp counted_key k ys) ≤ claims_by namespace ys
          → claims_by namespace (cond b ys (y ∷ without key_cmp counted_key k ys)) ≤ if_in namespace y.key.namespace 1 + claims_by namespace ys
      by true rest = omega arith
      by false rest = omega (arith, rest)
