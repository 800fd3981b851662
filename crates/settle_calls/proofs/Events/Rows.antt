-- What all objects may cost: keys that differ cost no more, and a write adds no more than its object.
use Rattle.std.proofs.Common.{◌≡◌, ◌≢◌, ℕ, ◌+◌, ◌≤◌, List, [], ◌∷◌, Bool, true, false, Option, Some, None, inl, inr, refl, sym, ap, arith}
use Rattle.std.specs.Prelude.{cond, filter, map}
use Rattle.std.specs.declared.cmp.Ordering.{Ordering}
use Rattle.std.specs.declared.cmp.Ordering.TheVariants.{Less, Equal, Greater}
use Rattle.std.specs.Ordering.{is_eq, match_ordering}
use Rattle.plain_data.proofs.RowFacts.{rising_without}
use Rattle.kube_objects.specs.declared.key.Key.{Key}
use Rattle.kube_parts.specs.declared.parts.Kind.{Kind}
use Rattle.kube_objects.specs.declared.objects.Object.{Object}
use Rattle.kube_objects.specs.Keys.{AreRows, is_of_kind, key_cmp, key_of, put_row, row_at, rows_of, without_row}
use Rattle.kube_objects.proofs.KeyOrder.{key_cmp_total, row_at-without_row_other}
use Rattle.call_types.specs.declared.request.SeatKind.{SeatKind}
use Rattle.model_laws.proofs.Lists.{IsIn, none_some, one}
use Rattle.settle_measure.specs.Left.Measure.{total}
use Rattle.settle_measure.proofs.Left.Sums.{stands}
use Rattle.sync_queue.specs.Work.{AreOnce}
use Rattle.settle_calls.specs.Tasks.Costs.{calls_for, calls_if, key_cost, keys_cost}
use Rattle.settle_calls.proofs.Tasks.Works.{cost_without, keys_less}

abbrev pub weigh_if : (Object → ℕ) → Option Object → ℕ
weigh_if f None = 0
weigh_if f (Some o) = f o

module _ (f : Object → ℕ) where
  pub put_total : (o : Object) (rows : List Object) → total f (put_row o rows) ≤ total f rows + f o
  put_total o [] = omega arith
  put_total o (x ∷ xs) = by (key_cmp (key_of x) (key_of o)) (put_total o xs)
    where
      by : (r : Ordering) → total f (put_row o xs) ≤ total f xs + f o → total f (match_ordering r (x ∷ put_row o xs) (o ∷ xs) (o ∷ x ∷ xs)) ≤ (f x + total f xs) + f o
      by Less h = omega (arith, h)
      by Equal h = omega arith
      by Greater h = omega arith

  pub without_total : (k : Key) (rows : List Object) → total f (without_row k rows) ≤ total f rows
  without_total k [] = omega arith
  without_total k (x ∷ xs) = by (is_eq (key_cmp (key_of x) k)) (without_total k xs)
    where
      by : (b : Bool) → total f (without_row k xs) ≤ total f xs → total f (cond b xs (x ∷ without_row k xs)) ≤ f x + total f xs
      by true h = omega arith
      by false h = omega (arith, h)

  -- the row that is taken out
  pub taken_total : (k : Key) (o : Object) (rows : List Object) → row_at k rows ≡ Some o → total f (without_row k rows) + f o ≤ total f rows
  taken_total k o [] e = none_some e
  taken_total k o (x ∷ xs) e = by (is_eq (key_cmp (key_of x) k)) e (taken_total k o xs)
    where
      by : (b : Bool) → cond b (Some x) (row_at k xs) ≡ Some o → (row_at k xs ≡ Some o → total f (without_row k xs) + f o ≤ total f xs)
          → total f (cond b xs (x ∷ without_row k xs)) + f o ≤ f x + total f xs
      by true is rest = let same = ap f (one x o is) in omega (arith, same)
      by false is rest = let h = rest is in omega (arith, h)

  filter_total : (p : Object → Bool) (rows : List Object) → total f (filter p rows) ≤ total f rows
  filter_total p [] = omega arith
  filter_total p (x ∷ xs) = by (p x) (filter_total p xs)
    where
      by : (b : Bool) → total f (filter p xs) ≤ total f xs → total f (cond b (x ∷ filter p xs) (filter p xs)) ≤ f x + total f xs
      by true h = omega (arith, h)
      by false h = omega (arith, h)

  -- keys that differ cost no more than the objects at them
  abbrev pub weigh_at : List Object → Key → ℕ
  weigh_at rows key = weigh_if f (row_at key rows)

  pub distinct_keys : (ks : List Key) (rows : List Object) → AreRows rows → AreOnce ks → keys_cost (weigh_at rows) ks ≤ total f rows
  distinct_keys [] rows order once = omega arith
  distinct_keys (k ∷ ks) rows order once = by (row_at k rows) refl (distinct_keys ks)
    where
      by : (x : Option Object) → row_at k rows ≡ x → ((os : List Object) → AreRows os → AreOnce ks → keys_cost (weigh_at os) ks ≤ total f os)
          → weigh_if f (row_at k rows) + keys_cost (weigh_at rows) ks ≤ total f rows
      by None e rest = let h = rest rows order once.1 in let own : weigh_if f (row_at k rows) ≡ 0 = ap (weigh_if f) e in omega (arith, h, own)
      by (Some o) e rest =
          let h = rest (without_row k rows) (rising_without key_cmp_total key_of k rows order) once.1 in
          let own : weigh_if f (row_at k rows) ≡ f o = ap (weigh_if f) e in
          let taken = taken_total k o rows e in
          let others = cost_without (weigh_at (without_row k rows)) (weigh_at rows) k (λ j other. same j other) ks once.0 in
          omega (arith, h, own, taken, others)
        where
          same : (j : Key) → j ≢ k → weigh_at rows j ≤ weigh_at (without_row k rows) j
          same j other = let e = ap (weigh_if f) (row_at-without_row_other k j rows (λ s. other (sym s))) in omega (arith, e)

-- keys that differ
pub distinct_cost : (kind : SeatKind) (ks : List Key) (rows : List Object) → AreRows rows → AreOnce ks → keys_cost (key_cost kind rows) ks ≤ total (calls_for kind) rows
distinct_cost kind ks rows order once =
    let few = distinct_keys (calls_for kind) ks rows order once in
    let less = keys_less (weigh_at (calls_for kind) rows) (key_cost kind rows) ks (λ key. at (row_at key rows)) in
    omega (arith, few, less)
  where
    at : (x : Option Object) → calls_if kind x ≤ weigh_if (calls_for kind) x
    at None = omega arith
    at (Some o) = omega arith

-- the keys of a kind
pub listed_cost : (kind : SeatKind) (k : Kind) (rows : List Object) → AreRows rows → keys_cost (key_cost kind rows) (map key_of (rows_of k rows)) ≤ total (calls_for kind) rows
listed_cost kind k rows order = let h = in_all rows (λ o i. i) in let f = filter_total (calls_for kind) (is_of_kind k) rows in omega (arith, h, f)
  where
    in_all : (xs : List Object) → ((o : Object) → IsIn o xs → IsIn o rows) → keys_cost (key_cost kind rows) (map key_of (filter (is_of_kind k) xs)) ≤ total (calls_for kind) (filter (is_of_kind k) xs)
    in_all [] within = omega arith
    in_all (x ∷ xs) within = by (is_of_kind k x) (in_all xs (λ o i. within o (inr i)))
      where
        own : key_cost kind rows (key_of x) ≡ calls_for kind x
        own = ap (calls_if kind) (stands rows order x (within x (inl refl)))

        by : (b : Bool) → keys_cost (key_cost kind rows) (map key_of (filter (is_of_kind k) xs)) ≤ total (calls_for kind) (filter (is_of_kind k) xs)
            → keys_cost (key_cost kind rows) (map key_of (cond b (x ∷ filter (is_of_kind k) xs) (filter (is_of_kind k) xs))) ≤ total (calls_for kind)
            (cond b (x ∷ filter (is_of_kind k) xs) (filter (is_of_kind k) xs))
        by true h = omega (arith, h, own)
        by false h = h
