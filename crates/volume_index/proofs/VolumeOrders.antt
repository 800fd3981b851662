-- The orders of an index are total, and what stands alike in them has one name.
use Rattle.std.proofs.Common.{◌≡◌, true, false, true≢false, refl, sym, ◌∙◌, ap}
use Rattle.std.specs.Cmp.{IsTotalOrder}
use Rattle.std.specs.declared.cmp.Ordering.{Ordering}
use Rattle.std.specs.declared.cmp.Ordering.TheVariants.{Less, Equal, Greater}
use Rattle.std.specs.Ordering.{is_eq, is_lt, is_gt, ordering_then}
use Rattle.std.proofs.lemmas.Cmp.{nat_cmp_total, nat_list_cmp_total, on_total, then_total}
use Rattle.std.proofs.lemmas.Map.Lookups.{exact_bytes}
use Rattle.kube_objects.specs.declared.objects.Volume.{Volume as VolumeData}
use Rattle.kube_objects.specs.declared.objects.Object.TheVariants.{Volume}
use Rattle.kube_objects.specs.Keys.{key_of}
use Rattle.kube_objects.proofs.SameKeys.{same_key-Decides}
use Rattle.kube_objects.specs.Bindings.{count_one, mode_count}
use Rattle.volume_index.specs.VolumeIndex.{same_name}
use Rattle.volume_index.specs.VolumeOrders.{Owner, Size, by_owner, by_size, group_cmp, name_cmp, need_cmp, owner_cmp, owner_of, size_cmp, size_of}

pub group_total : IsTotalOrder group_cmp
group_total = then_total (on_total (λ (s : Size). s.class) nat_list_cmp_total) (on_total (λ (s : Size). count_one s.block) nat_cmp_total)

pub size_total : IsTotalOrder size_cmp
size_total = then_total (then_total group_total (on_total (λ (s : Size). s.modes) nat_cmp_total)) (on_total (λ (s : Size). s.bytes) nat_cmp_total)

pub name_total : IsTotalOrder name_cmp
name_total = then_total (on_total (λ (v : VolumeData). v.meta.name) nat_list_cmp_total) (on_total (λ (v : VolumeData). v.meta.namespace) nat_list_cmp_total)

pub by_size_total : IsTotalOrder by_size
by_size_total = then_total (on_total size_of size_total) name_total

pub owner_total : IsTotalOrder owner_cmp
owner_total = then_total (on_total (λ (w : Owner). w.namespace) nat_list_cmp_total) (on_total (λ (w : Owner). w.name) nat_list_cmp_total)

pub need_total : IsTotalOrder need_cmp
need_total = then_total (then_total (on_total (λ (v : VolumeData). mode_count v.modes) nat_cmp_total) (on_total (λ (v : VolumeData). v.amount.bytes) nat_cmp_total)) name_total

pub by_owner_total : IsTotalOrder by_owner
by_owner_total = then_total (on_total owner_of owner_total) need_total

-- the parts of an order that tells nothing tell nothing
pub both_equal : (r s : Ordering) → is_eq (ordering_then r s) ≡ true → (r ≡ Equal) × (s ≡ Equal)
both_equal Less s e = absurd (true≢false (sym e))
both_equal Equal Less e = absurd (true≢false (sym e))
both_equal Equal Equal e = (refl, refl)
both_equal Equal Greater e = absurd (true≢false (sym e))
both_equal Greater s e = absurd (true≢false (sym e))

-- what is less by two orders in turn is not greater by the first
pub first_no_greater : (r s : Ordering) → ordering_then r s ≡ Less → is_gt r ≡ false
first_no_greater Less s e = refl
first_no_greater Equal s e = refl
first_no_greater Greater s e = absurd (true≢false (sym (ap is_lt e)))

names_alike : (v u : VolumeData) → name_cmp v u ≡ Equal → same_name v u ≡ true
names_alike v u e =
    let parts = both_equal _ _ (ap is_eq e) in
    let name : v.meta.name ≡ u.meta.name = exact_bytes _ _ parts.0 in
    let namespace : v.meta.namespace ≡ u.meta.namespace = exact_bytes _ _ parts.1 in
    (same_key-Decides (key_of (Volume v)) (key_of (Volume u))).1 (λ i. record { kind = (key_of (Volume v)).kind; namespace = namespace i; name = name i })

pub sizes_alike : (v u : VolumeData) → is_eq (by_size v u) ≡ true → same_name v u ≡ true
sizes_alike v u e = names_alike v u (both_equal (size_cmp (size_of v) (size_of u)) (name_cmp v u) e).1

pub owners_alike : (v u : VolumeData) → is_eq (by_owner v u) ≡ true → same_name v u ≡ true
owners_alike v u e =
    let outer = both_equal (owner_cmp (owner_of v) (owner_of u)) (need_cmp v u) e in
    names_alike v u (both_equal _ (name_cmp v u) (ap is_eq outer.1)).1

-- what is not after the middle one, which is before the last, is before the last
pub before_last : {K : Type 0} {cmp : K → K → Ordering} (o : IsTotalOrder cmp) (x y z : K) → is_gt (cmp x y) ≡ false → is_lt (cmp y z) ≡ true → is_lt (cmp x z) ≡ true
before_last {cmp = cmp} o x y z h k = by (cmp x y) refl h (cmp y z) refl k
  where
    by : (r : Ordering) → cmp x y ≡ r → is_gt r ≡ false → (s : Ordering) → cmp y z ≡ s → is_lt s ≡ true → is_lt (cmp x z) ≡ true
    by Less e h Less f k = ap is_lt (o.trans x y z e f)
    by Less e h Equal f k = absurd (true≢false (sym k))
    by Less e h Greater f k = absurd (true≢false (sym k))
    by Equal e h s f k = ap is_lt (o.congr x y z e ∙ f) ∙ k
    by Greater e h s f k = absurd (true≢false h)
