-- What the objects of a kind may cost an actor in a round, and all keys that wait: no more than the objects with which the round began, and the volumes
-- that may be made.
use Rattle.std.proofs.Common.{◌≡◌, ◌≢◌, ◌∙◌, ℕ, ◌+◌, ◌*◌, ◌≤◌, List, [], ◌∷◌, length, Bool, true, false, true≢false, Option, Some, None, inl, inr, refl, sym, ap, arith, if◌then◌else◌}
use Rattle.std.specs.Prelude.{cond, filter, map, ◌||◌}
use Rattle.std.specs.List.{list_any}
use Rattle.kube_objects.specs.declared.key.Key.{Key}
use Rattle.kube_parts.specs.declared.parts.Kind.{Kind}
use Rattle.kube_parts.specs.declared.parts.Kind.TheVariants as kinds
use Rattle.kube_objects.specs.declared.objects.Object.{Object}
use Rattle.kube_objects.specs.declared.objects.Object.TheVariants.{Volume}
use Rattle.kube_objects.specs.Keys.{AreRows, is_of_kind, key_of, kind_index, kind_of, row_at, rows_of, same_key, same_kind}
use Rattle.kube_objects.proofs.KeyOrder.{row_at_key}
use Rattle.kube_objects.proofs.SameKeys.{same_key-Decides, same_kind-Decides}
use Rattle.call_types.specs.declared.request.SeatKind.{SeatKind}
use Rattle.call_types.specs.declared.request.SeatKind.TheVariants as seats
use Rattle.model_laws.proofs.Lists.{IsIn}
use Rattle.settle_measure.specs.Left.Measure.{total}
use Rattle.settle_measure.proofs.Left.Sums.{stands}
use Rattle.sync_queue.specs.Work.{AreOnce}
use Rattle.worker_core.specs.Roles.{kinds_of}
use Rattle.settle_calls.specs.Tasks.Costs.{keys_cost}
use Rattle.settle_calls.proofs.Tasks.Works.{changed_cost}
use Rattle.settle_calls.proofs.Events.Rows.{distinct_keys, weigh_if}
use Rattle.settle_calls.proofs.Events.Sums.{sum_less}
use Rattle.settle_calls.specs.Events.Ahead.{sum_over}
use Rattle.settle_write_counts.proofs.Rounds.Growth.{ByNothing, ByOld, BySpare, IsCovered, IsGiven, IsMade, IsOld, covered, made_keys, made_kind}
use Rattle.settle_write_counts.proofs.Rounds.Sums.{one_more}
use Rattle.settle_round_calls.specs.Slots.Costs.{made_calls, own_calls}
use Rattle.settle_round_calls.proofs.Slots.RoundCosts.{AreKept, any_kind, cost_by, cost_in, cost_or, fresh_cost, is_fresh, is_now, most, now_cost, of_volume, own_same, picked, stood_cost}
use Rattle.settle_measure.proofs.Left.Sums.{total_sum as total_plus}

-- ---- sums over keys

keys_sum : (f g h : Key → ℕ) (ks : List Key) → ((k : Key) → h k ≤ f k + g k) → keys_cost h ks ≤ keys_cost f ks + keys_cost g ks
keys_sum f g h [] each = omega arith
keys_sum f g h (k ∷ ks) each = let a = each k in let rest = keys_sum f g h ks each in omega (arith, a, rest)

no_keys : (f : Key → ℕ) (ks : List Key) → ((k : Key) → f k ≤ 0) → keys_cost f ks ≤ 0
no_keys f [] each = omega arith
no_keys f (k ∷ ks) each = let a = each k in let rest = no_keys f ks each in omega (arith, a, rest)

-- so much for each volume that may be made
fresh_few : (n : ℕ) (made ks : List Key) → AreOnce ks → keys_cost (λ key. fresh_cost n (list_any (same_key key) made)) ks ≤ length made * n
fresh_few n [] ks once = let z = no_keys (λ key. fresh_cost n (list_any (same_key key) [])) ks (λ k. omega arith) in omega (arith, z)
fresh_few n (m ∷ ms) ks once =
    let a = changed_cost (λ key. fresh_cost n (list_any (same_key key) ms)) (λ key. fresh_cost n (list_any (same_key key) (m ∷ ms))) m n others own ks once in
    let b = fresh_few n ms ks once in
    let more = one_more (length ms) n in
    omega (arith, a, b, more)
  where
    others : (k : Key) → k ≢ m → fresh_cost n (list_any (same_key k) (m ∷ ms)) ≤ fresh_cost n (list_any (same_key k) ms)
    others k other = by (same_key k m) refl
      where
        by : (b : Bool) → same_key k m ≡ b → fresh_cost n (b || list_any (same_key k) ms) ≤ fresh_cost n (list_any (same_key k) ms)
        by true e = absurd (other ((same_key-Decides k m).0 e))
        by false e = omega arith

    own : fresh_cost n (list_any (same_key m) (m ∷ ms)) ≤ fresh_cost n (list_any (same_key m) ms) + n
    own = by (list_any (same_key m) (m ∷ ms))
      where
        by : (b : Bool) → fresh_cost n b ≤ fresh_cost n (list_any (same_key m) ms) + n
        by true = omega arith
        by false = omega arith

pub volume_kind : (k : Kind) → kind_index k ≡ 2 → k ≡ kinds.PersistentVolume
volume_kind kinds.PersistentVolume e = refl
volume_kind kinds.PersistentVolumeClaim e = absurd (omega (arith, e))
volume_kind kinds.StorageClass e = absurd (omega (arith, e))
volume_kind kinds.Node e = absurd (omega (arith, e))
volume_kind kinds.Pod e = absurd (omega (arith, e))

-- ---- sums over objects and kinds

no_total : (f : Object → ℕ) (rows : List Object) → ((o : Object) → f o ≤ 0) → total f rows ≤ 0
no_total f [] each = omega arith
no_total f (o ∷ os) each = let a = each o in let rest = no_total f os each in omega (arith, a, rest)

-- the sum over the kinds may be taken first, or that over the objects
by_kinds : (kind : SeatKind) (ks : List Kind) (rows : List Object) → total (λ o. sum_over (λ k. picked kind k o) ks) rows ≡ sum_over (λ k. total (picked kind k) rows) ks
by_kinds kind [] rows = let z = no_total (λ o. 0) rows (λ o. omega arith) in omega (arith, z)
by_kinds kind (k ∷ ks) rows =
    let split = total_plus (picked kind k) (λ o. sum_over (λ j. picked kind j o) ks) rows in
    let rest = by_kinds kind ks rows in
    omega (arith, split, rest)

-- an object costs an actor what it does among the kinds that are followed
own_is : (kind : SeatKind) (o : Object) → sum_over (λ k. picked kind k o) (kinds_of kind) ≡ own_calls kind o
own_is seats.User (Volume x) = omega arith
own_is seats.User _ = omega arith
own_is seats.Binder (Volume x) = omega arith
own_is seats.Binder _ = omega arith
own_is seats.Ops (Volume x) = omega arith
own_is seats.Ops _ = omega arith
own_is seats.Scheduler (Volume x) = omega arith
own_is seats.Scheduler _ = omega arith
own_is seats.ClaimProtect (Volume x) = omega arith
own_is seats.ClaimProtect _ = omega arith
own_is seats.VolumeProtect (Volume x) = omega arith
own_is seats.VolumeProtect _ = omega arith
own_is seats.Agent (Volume x) = omega arith
own_is seats.Agent _ = omega arith

own_total : (kind : SeatKind) (rows : List Object) → sum_over (λ k. total (picked kind k) rows) (kinds_of kind) ≡ total (own_calls kind) rows
own_total kind rows = sym (by_kinds kind (kinds_of kind) rows) ∙ same rows
  where
    same : (os : List Object) → total (λ o. sum_over (λ k. picked kind k o) (kinds_of kind)) os ≡ total (own_calls kind) os
    same [] = refl
    same (o ∷ os) = let own = own_is kind o in let rest = same os in omega (arith, own, rest)

-- the objects of a kind never cost more than those with which the round began, and the volumes that may be made
module _ (kind : SeatKind) (first rows : List Object) (before : AreRows first) (order : AreRows rows) (kept : AreKept kind first rows) (k : Kind) where
  picked_less : (o was : Object) → kind_of o ≡ kind_of was → own_calls kind o ≤ own_calls kind was → picked kind k o ≤ picked kind k was
  picked_less o was same less =
      let is : picked kind k o ≡ (if is_of_kind k was then own_calls kind o else 0) = ap (λ j. if same_kind j k then own_calls kind o else 0) same in
      let few = by (is_of_kind k was) in
      omega (arith, is, few)
    where
      by : (b : Bool) → (if b then own_calls kind o else 0) ≤ (if b then own_calls kind was else 0)
      by true = less
      by false = omega arith

  picked_own : (o : Object) → picked kind k o ≤ own_calls kind o
  picked_own o = by (is_of_kind k o)
    where
      by : (b : Bool) → (if b then own_calls kind o else 0) ≤ own_calls kind o
      by true = omega arith
      by false = omega arith

  stood_kind : (o was : Object) → row_at (key_of o) first ≡ Some was → kind_of o ≡ kind_of was
  stood_kind o was there = ap (λ (key : Key). key.kind) (sym (row_at_key (key_of o) was first there))

  -- by what stands now
  now_most : is_now kind ≡ true → total (picked kind k) rows ≤ total (picked kind k) first
  now_most now = let few = covered (picked kind k) 0 rows first [] order before each in omega (arith, few)
    where
      each : (o : Object) → IsIn o rows → IsCovered (picked kind k) 0 first [] o
      each o i = by (row_at (key_of o) first) refl
        where
          less : own_calls kind o ≤ now_cost kind first (key_of o)
          less =
              let more = kept.no_more now (key_of o) in
              let is : now_cost kind rows (key_of o) ≡ own_calls kind o = ap (weigh_if (own_calls kind)) (stands rows order o i) in
              omega (arith, more, is)

          by : (x : Option Object) → row_at (key_of o) first ≡ x → IsCovered (picked kind k) 0 first [] o
          by (Some was) there =
              let is : now_cost kind first (key_of o) ≡ own_calls kind was = ap (weigh_if (own_calls kind)) there in
              let few = less in
              ByOld was there (picked_less o was (stood_kind o was there) (omega (arith, few, is)))
          by None free =
              let is : now_cost kind first (key_of o) ≡ 0 = ap (weigh_if (own_calls kind)) free in
              let few = less in
              let own = picked_own o in
              ByNothing (omega (arith, few, own, is))

  -- by what stood when the round began
  module _ (then_ : is_now kind ≡ false) where
    by_old : (spare : List Key) (o was : Object) → row_at (key_of o) first ≡ Some was → IsCovered (picked kind k) (made_calls kind) first spare o
    by_old spare o was there = ByOld was there (picked_less o was (stood_kind o was there) (let is = own_same kind then_ o was (stood_kind o was there) in omega (arith, is)))

    light : (o : Object) → kind_index (kind_of o) ≡ 2 → picked kind k o ≤ made_calls kind
    light o two = let few = picked_own o in let own = of_volume kind then_ o two in omega (arith, few, own)

    other_kind : same_kind k kinds.PersistentVolume ≡ false → (o : Object) → kind_index (kind_of o) ≡ 2 → picked kind k o ≡ 0
    other_kind other o two = ap (λ b. if b then own_calls kind o else 0) (by (is_of_kind k o) refl)
      where
        by : (b : Bool) → is_of_kind k o ≡ b → is_of_kind k o ≡ false
        by true e =
            let is : kind_of o ≡ k = (same_kind-Decides (kind_of o) k).0 e in
            let volume : k ≡ kinds.PersistentVolume = sym is ∙ volume_kind (kind_of o) two in
            absurd (true≢false (sym ((same_kind-Decides k kinds.PersistentVolume).1 volume) ∙ other))
        by false e = e

    stood_most : total (picked kind k) rows ≤ most kind first k
    stood_most = by (same_kind k kinds.PersistentVolume) refl
      where
        by : (b : Bool) → same_kind k kinds.PersistentVolume ≡ b → total (picked kind k) rows ≤ total (picked kind k) first + (if b then length (made_keys first) * made_calls kind else 0)
        by true e = covered (picked kind k) (made_calls kind) rows first (made_keys first) order before (λ o i. at o (kept.given (key_of o) o (stands rows order o i)))
          where
            at : (o : Object) → IsGiven first (key_of o) o → IsCovered (picked kind k) (made_calls kind) first (made_keys first) o
            at o (IsOld was there few uid) = by_old (made_keys first) o was there
            at o (IsMade i none) = BySpare i (light o (made_kind (key_of o) first i))
        by false e = let few = covered (picked kind k) (made_calls kind) rows first [] order before (λ o i. at o (kept.given (key_of o) o (stands rows order o i))) in omega (arith, few)
          where
            at : (o : Object) → IsGiven first (key_of o) o → IsCovered (picked kind k) (made_calls kind) first [] o
            at o (IsOld was there few uid) = by_old [] o was there
            at o (IsMade i none) = ByNothing (other_kind e o (made_kind (key_of o) first i))

  pub stays_most : total (picked kind k) rows ≤ most kind first k
  stays_most = by (is_now kind) refl
    where
      by : (b : Bool) → is_now kind ≡ b → total (picked kind k) rows ≤ most kind first k
      by true e = let few = now_most e in omega (arith, few)
      by false e = stood_most e

-- ---- the keys of a kind, and keys that differ

-- volumes are followed where they cost something
with_made : (kind : SeatKind) (f : Kind → ℕ) (n : ℕ)
    → sum_over (λ k. f k + (if same_kind k kinds.PersistentVolume then n * made_calls kind else 0)) (kinds_of kind) ≡ sum_over f (kinds_of kind) + n * made_calls kind
with_made seats.User f n = omega arith
with_made seats.Binder f n = omega arith
with_made seats.Ops f n = omega arith
with_made seats.Scheduler f n = omega arith
with_made seats.ClaimProtect f n = omega arith
with_made seats.VolumeProtect f n = omega arith
with_made seats.Agent f n = omega arith

-- what the kinds cost that an actor follows
pub kinds_cost : (kind : SeatKind) (first : List Object) → sum_over (most kind first) (kinds_of kind) ≡ total (own_calls kind) first + length (made_keys first) * made_calls kind
kinds_cost kind first =
    let own = own_total kind first in
    let all = with_made kind (λ k. total (picked kind k) first) (length (made_keys first)) in
    omega (arith, own, all)

module _ (kind : SeatKind) (first rows : List Object) (before : AreRows first) (order : AreRows rows) (kept : AreKept kind first rows) where
  pub waiting_few : (ks : List Key) → AreOnce ks → keys_cost (cost_in kind first rows) ks ≤ sum_over (most kind first) (kinds_of kind)
  waiting_few ks once = by (is_now kind)
    where
      by : (b : Bool) → keys_cost (cost_by b kind first rows) ks ≤ sum_over (most kind first) (kinds_of kind)
      by true =
          let few = distinct_keys (own_calls kind) ks rows order once in
          let own = own_total kind rows in
          let less = sum_less (most kind first) (λ k. total (picked kind k) rows) (kinds_of kind) (λ k. stays_most kind first rows before order kept k) in
          omega (arith, few, own, less)
      by false =
          let split = keys_sum (λ key. weigh_if (own_calls kind) (row_at key first)) (λ key. fresh_cost (made_calls kind) (is_fresh first key))
          (stood_cost kind first) ks (λ key. at (row_at key first) (fresh_cost (made_calls kind) (is_fresh first key))) in
          let few = distinct_keys (own_calls kind) ks first before once in
          let fresh = fresh_few (made_calls kind) (made_keys first) ks once in
          let all = kinds_cost kind first in
          omega (arith, split, few, fresh, all)
        where
          at : (x : Option Object) (n : ℕ) → cost_or n kind x ≤ weigh_if (own_calls kind) x + n
          at None n = omega arith
          at (Some o) n = omega arith

  -- what stands costs no more than its own
  cost_few : (o : Object) → IsIn o rows → cost_in kind first rows (key_of o) ≤ own_calls kind o
  cost_few o i = by (is_now kind) refl
    where
      stood : is_now kind ≡ false → (x : Option Object) → row_at (key_of o) first ≡ x → (b : Bool) → is_fresh first (key_of o) ≡ b → cost_or (fresh_cost (made_calls kind) b) kind x ≤ own_calls kind o
      stood then_ (Some was) there b fresh = let same = own_same kind then_ o was (ap (λ (key : Key). key.kind) (sym (row_at_key (key_of o) was first there))) in omega (arith, same)
      stood then_ None there true fresh = let own = of_volume kind then_ o (any_kind first (key_of o) fresh) in omega (arith, own)
      stood then_ None there false fresh = omega arith

      by : (b : Bool) → is_now kind ≡ b → cost_by b kind first rows (key_of o) ≤ own_calls kind o
      by true e = let is : weigh_if (own_calls kind) (row_at (key_of o) rows) ≡ own_calls kind o = ap (weigh_if (own_calls kind)) (stands rows order o i) in omega (arith, is)
      by false e = stood e (row_at (key_of o) first) refl (is_fresh first (key_of o)) refl

  pub listed_few : (k : Kind) → keys_cost (cost_in kind first rows) (map key_of (rows_of k rows)) ≤ most kind first k
  listed_few k = let h = in_all rows (λ o i. i) in let m = stays_most kind first rows before order kept k in omega (arith, h, m)
    where
      in_all : (xs : List Object) → ((o : Object) → IsIn o xs → IsIn o rows) → keys_cost (cost_in kind first rows) (map key_of (filter (is_of_kind k) xs)) ≤ total (picked kind k) xs
      in_all [] within = omega arith
      in_all (x ∷ xs) within = by (is_of_kind k x) (cost_few x (within x (inl refl))) (in_all xs (λ o i. within o (inr i)))
        where
          by : (b : Bool) → cost_in kind first rows (key_of x) ≤ own_calls kind x → keys_cost (cost_in kind first rows) (map key_of (filter (is_of_kind k) xs)) ≤ total (picked kind k) xs
              → keys_cost (cost_in kind first rows) (map key_of (cond b (x ∷ filter (is_of_kind k) xs) (filter (is_of_kind k) xs))) ≤ (if b then own_calls kind x else 0) + total (picked kind k) xs
          by true own rest = omega (arith, own, rest)
          by false own rest = omega (arith, rest)
