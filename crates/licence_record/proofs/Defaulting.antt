-- The default class of what was told, found in the list.
use Rattle.std.proofs.Common.{◌≡◌, ◌↔◌, IsTrue, ℕ, Bool, true, false, not, List, refl, sym, ap, subst, true≢false}
use Rattle.kube_objects.specs.declared.key.Key.{Key}
use Rattle.kube_objects.specs.declared.objects.Class.{Class as ClassData}
use Rattle.kube_objects.specs.declared.objects.Object.{Object}
use Rattle.kube_objects.specs.declared.objects.Object.TheVariants.{Class, Node, Volume, Claim, Pod}
use Rattle.kube_types.specs.Defaults.{is_default}
use Rattle.kube_objects.specs.Keys.{key_of}
use Rattle.call_types.specs.declared.entry.Entry.{Entry}
use Rattle.binder_model.specs.BinderLicence.{IsToldClass}
use Rattle.binder_model.specs.ObjectKeys.{class_key}
use Rattle.binder_model.specs.Told.{IsNewest}
use Rattle.licence_rows.specs.Asking.{SomeNewest}
use Rattle.licence_rows.proofs.NewestKeys.{newest_keyed}
use Rattle.licence_rows.proofs.Picks.{class_is}
use Rattle.licence_record.specs.Defaulted.{IsBefore, IsClassWith, IsDefaultNamed, IsFirstMarked, IsMarked}

abbrev pub SomeBefore : List Entry → ClassData → Type 0
SomeBefore mine class = SomeNewest (λ o. IsClassWith IsMarked o × IsClassWith (IsBefore class) o) mine

-- a marked class that was told newest and comes before it
before_told : (mine : List Entry) (class : ClassData) → SomeBefore mine class → (other : ClassData) × (IsToldClass mine other × ((is_default other ≡ true) × IsBefore class other))
before_told mine class s = by s.0 s.1.0 s.1.1.0 s.1.1.1
  where
    by : (o : Object) → IsNewest mine (key_of o) o → IsClassWith IsMarked o → IsClassWith (IsBefore class) o → (other : ClassData)
        × (IsToldClass mine other × ((is_default other ≡ true) × IsBefore class other))
    by (Class x) new marked before = (x, (subst (λ n. IsNewest mine (record (class_key x.meta.name) { namespace = n }) (Class x)) marked.0 new, (marked.1, before)))
    by (Node x) new marked before = absurd marked
    by (Volume x) new marked before = absurd marked
    by (Claim x) new marked before = absurd marked
    by (Pod x) new marked before = absurd marked

told_before : (mine : List Entry) (class other : ClassData) → IsToldClass mine other → is_default other ≡ true → IsBefore class other → SomeBefore mine class
told_before mine class other told marked before =
    let keyed : key_of (Class other) ≡ class_key other.meta.name = newest_keyed mine (class_key other.meta.name) (Class other) told in
    (Class other, (subst (λ k. IsNewest mine k (Class other)) (sym keyed) told, ((ap (λ (k : Key). k.namespace) keyed, marked), before)))

pub first_is : (mine : List Entry) (class : ClassData) (b : Bool) → is_default class ≡ true → (IsTrue b ↔ SomeBefore mine class) → (IsTrue (not b) ↔ IsFirstMarked mine class)
first_is mine class true marked is = (
  (λ t. absurd (true≢false (sym t))),
  (λ f. let s = before_told mine class (is.0 refl) in absurd (f.first s.0 s.1.0 s.1.1.0 s.1.1.1)),
)
first_is mine class false marked is = (
  (λ t. record { marked = marked; first = λ other told m before. true≢false (sym (is.1 (told_before mine class other told m before))) }),
  (λ f. refl),
)

-- the class that was told newest of the name is the one that is asked for

own_name : (mine : List Entry) (name : List ℕ) (class : ClassData) → IsNewest mine (class_key name) (Class class) → class.meta.name ≡ name
own_name mine name class new = ap (λ (k : Key). k.name) (newest_keyed mine (class_key name) (Class class) new)

pub named_row : (mine : List Entry) (name : List ℕ) (class : ClassData) (b : Bool) → IsNewest mine (class_key name) (Class class)
    → (IsTrue b ↔ IsFirstMarked mine class) → (IsTrue b ↔ IsDefaultNamed mine name)
named_row mine name class b new is = ((λ t. there (is.0 t)), (λ d. is.1 (back d)))
  where
    there : IsFirstMarked mine class → IsDefaultNamed mine name
    there f = let called = own_name mine name class new in record {
      class = class;
      default = record { there = subst (λ n. IsNewest mine (class_key n) (Class class)) (sym called) new; marked = f.marked; first = f.first };
      named = called;
    }

    back : IsDefaultNamed mine name → IsFirstMarked mine class
    back d =
        let same : d.class ≡ class = class_is mine (class_key name) d.class class (subst (λ n. IsNewest mine (class_key n) (Class d.class)) d.named d.default.there) new in
        subst (IsFirstMarked mine) same (record { marked = d.default.marked; first = d.default.first })

pub named_none : (mine : List Entry) (name : List ℕ) → ((x : ClassData) → IsNewest mine (class_key name) (Class x) → ⊥) → IsDefaultNamed mine name → ⊥
named_none mine name none d = none d.class (subst (λ n. IsNewest mine (class_key n) (Class d.class)) d.named d.default.there)
