-- The order of keys is total, and keys of objects in rows.
use Rattle.std.proofs.Common.{◌≡◌, ◌<◌, ◌≤◌, ℕ, zero, suc, List, false, true≢false, Some, None, refl, sym, ap, ◌∙◌, arith, ◌≢◌}
use Rattle.std.specs.Cmp.{IsTotalOrder}
use Rattle.std.specs.declared.cmp.Ordering.{Ordering}
use Rattle.std.specs.declared.cmp.Ordering.TheVariants.{Less, Equal, Greater}
use Rattle.std.specs.Ordering.{is_lt, is_eq, nat_cmp, ordering_then, MatchOrdering}
use Rattle.std.proofs.lemmas.Cmp.{ranked, nat_cmp_total, nat_list_cmp_total, on_total, then_total}
use Rattle.std.proofs.lemmas.Map.Lookups.{exact_unsigned, exact_bytes}
use Rattle.plain_data.specs.Pairs.{text_cmp}
use Rattle.plain_data.proofs.RowLookups.{find-put, find-put_other, find-without, find-without_other, found_key}
use Rattle.kube_parts.specs.declared.parts.Kind.{Kind}
use Rattle.kube_parts.specs.declared.parts.Kind.TheVariants as kinds
use Rattle.kube_objects.specs.declared.key.Key.{Key}
use Rattle.kube_objects.specs.declared.objects.Object.{Object}
use Rattle.kube_objects.specs.Keys.{key_cmp, key_of, kind_index, AreRows, row_at, put_row, without_row}

pub key_cmp_total : IsTotalOrder key_cmp
key_cmp_total = then_total (then_total (on_total (λ (k : Key). kind_index k.kind) nat_cmp_total)
    (on_total (λ (k : Key). k.namespace) nat_list_cmp_total)) (on_total (λ (k : Key). k.name) nat_list_cmp_total)

-- a key of an earlier or the same kind
pub kinds_up : (a b : Key) → key_cmp a b ≡ Less → kind_index a.kind ≤ kind_index b.kind
kinds_up a b = by (nat_cmp (kind_index a.kind) (kind_index b.kind)) (text_cmp a.namespace b.namespace) (text_cmp a.name b.name) (ranked (kind_index a.kind) (kind_index b.kind) _ refl)
  where
    by : (r s t : Ordering) → MatchOrdering r (kind_index a.kind < kind_index b.kind) (kind_index a.kind ≡ kind_index b.kind) (kind_index b.kind <
        kind_index a.kind) → ordering_then (ordering_then r s) t ≡ Less → kind_index a.kind ≤ kind_index b.kind
    by Less s t h e = omega arith
    by Equal s t h e = omega arith
    by Greater s t h e = absurd (true≢false (sym (ap is_lt e)))

pub both_equal : (r s : Ordering) → ordering_then r s ≡ Equal → (r ≡ Equal) × (s ≡ Equal)
both_equal Less s e = absurd (true≢false (sym (ap is_eq e)))
both_equal Equal s e = (refl, e)
both_equal Greater s e = absurd (true≢false (sym (ap is_eq e)))

abbrev kind_at : ℕ → Kind
kind_at zero = kinds.StorageClass
kind_at (suc zero) = kinds.Node
kind_at (suc (suc zero)) = kinds.PersistentVolume
kind_at (suc (suc (suc zero))) = kinds.PersistentVolumeClaim
kind_at n = kinds.Pod

kind_back : (k : Kind) → kind_at (kind_index k) ≡ k
kind_back kinds.StorageClass = refl
kind_back kinds.Node = refl
kind_back kinds.PersistentVolume = refl
kind_back kinds.PersistentVolumeClaim = refl
kind_back kinds.Pod = refl

-- kinds are told apart by their places
pub kinds_alike : (a b : Kind) → kind_index a ≡ kind_index b → a ≡ b
kinds_alike a b e = sym (kind_back a) ∙ ap kind_at e ∙ kind_back b

-- the order tells all keys apart
pub equal_keys : (a b : Key) → key_cmp a b ≡ Equal → a ≡ b
equal_keys a b e =
    let outer = both_equal _ _ e in
    let inner = both_equal _ _ outer.0 in
    let kind : a.kind ≡ b.kind = kinds_alike a.kind b.kind (exact_unsigned _ _ inner.0) in
    let namespace : a.namespace ≡ b.namespace = exact_bytes _ _ inner.1 in
    let name : a.name ≡ b.name = exact_bytes _ _ outer.1 in
    λ i. record { kind = kind i; namespace = namespace i; name = name i }

pub other_key : (a b : Key) → a ≢ b → is_eq (key_cmp a b) ≡ false
other_key a b differs = by (key_cmp a b) (equal_keys a b)
  where
    by : (r : Ordering) → (r ≡ Equal → a ≡ b) → is_eq r ≡ false
    by Less h = refl
    by Equal h = absurd (differs (h refl))
    by Greater h = refl

pub row_at-put_row : (o : Object) (os : List Object) → row_at (key_of o) (put_row o os) ≡ Some o
row_at-put_row o os = find-put key_cmp_total key_of o os

pub row_at-put_row_other : (k : Key) (o : Object) (os : List Object) → key_of o ≢ k → row_at k (put_row o os) ≡ row_at k os
row_at-put_row_other k o os differs = find-put_other key_cmp_total key_of k o os (other_key (key_of o) k differs)

pub row_at-without_row : (k : Key) (os : List Object) → AreRows os → row_at k (without_row k os) ≡ None
row_at-without_row k os rows = find-without key_cmp_total key_of k os rows

pub row_at-without_row_other : (k j : Key) (os : List Object) → k ≢ j → row_at j (without_row k os) ≡ row_at j os
row_at-without_row_other k j os differs = find-without_other key_cmp_total key_of k j os (other_key k j differs)

-- the row at a key has that key
pub row_at_key : (k : Key) (o : Object) (os : List Object) → row_at k os ≡ Some o → key_of o ≡ k
row_at_key k o os h = equal_keys (key_of o) k (found_key key_cmp_total key_of k o os h)
