-- The scan of the classes finds the default one.
use Rattle.std.proofs.Common.{ℕ, ◌≡◌, ◌<◌, ◌+◌, Bool, true, false, true≢false, List, length, Option, Some, None, slice_get, ◌∙◌, refl, sym, ap, subst}
use Rattle.std.specs.Cmp.{IsTotalOrder}
use Rattle.std.proofs.lemmas.Cmp.{nat_list_cmp_total, on_total, then_total, back_total}
use Rattle.std.proofs.lemmas.Option.{slice_get_within}
use Rattle.kube_parts.specs.declared.parts.Kind.TheVariants as kinds
use Rattle.kube_objects.specs.declared.objects.Class.{Class as ClassData}
use Rattle.kube_objects.specs.declared.objects.Object.{Object}
use Rattle.kube_objects.specs.declared.objects.Object.TheVariants.{Class, Node, Volume, Claim, Pod}
use Rattle.kube_objects.specs.Keys.{AreRows, key_of, rows_of}
use Rattle.kube_types.specs.Defaults.{IsDefaultPlace, StandsIn, class_cmp, is_default}
use Rattle.kube_types.specs.Steps.Scan.{IsDefaultBelow, IsMarkedAt, as_class, class_at, class_is_before, comes_first}
use Rattle.kube_objects.proofs.KeyOrder.{key_cmp_total}
use Rattle.kube_objects.proofs.RowPlaces.{place_of_row, row_at_place}
use Rattle.volume_index.proofs.Scans as scans

pub class_cmp_total : IsTotalOrder class_cmp
class_cmp_total = then_total (on_total (λ (x : ClassData). x.meta.created) (back_total nat_list_cmp_total)) (on_total (λ (x : ClassData). key_of (Class x)) key_cmp_total)

some_class : (x y : ClassData) → Some (Class x) ≡ Some (Class y) → x ≡ y
some_class x y e = cc

one : (rows : List Object) (place : ℕ) (x y : ClassData) → IsMarkedAt rows place x → IsMarkedAt rows place y → x ≡ y
one rows place x y a b = some_class x y (sym a.0 ∙ b.0)

as_class_some : (o : Option Object) (x : ClassData) → as_class o ≡ Some x → o ≡ Some (Class x)
as_class_some None x e = cc
as_class_some (Some (Class y)) x e = cc
as_class_some (Some (Node y)) x e = cc
as_class_some (Some (Volume y)) x e = cc
as_class_some (Some (Claim y)) x e = cc
as_class_some (Some (Pod y)) x e = cc

none_is : (x : ClassData) → None ≡ Some x → ⊥
none_is x e = cc

-- no class stands at the place
pub absent : (rows : List Object) (place : ℕ) (before : Option ℕ) → class_at rows place ≡ None → IsDefaultBelow rows place before → IsDefaultBelow rows (place + 1) before
absent rows place before gone first = scans.passed_over class_cmp_total (one rows) place before (λ x c. none_is x (sym gone ∙ ap as_class c.0)) first

-- the class at the place is not marked
pub unmarked : (rows : List Object) (place : ℕ) (before : Option ℕ) (x : ClassData) → class_at rows place ≡ Some x → is_default x ≡ false
    → IsDefaultBelow rows place before → IsDefaultBelow rows (place + 1) before
unmarked rows place before x there unset first =
    scans.passed_over class_cmp_total (one rows) place before (λ y c. true≢false (sym c.1 ∙ ap is_default (some_class y x (sym c.0 ∙ as_class_some _ x there)) ∙ unset)) first

-- the class at the place is marked, and comes before the first one
pub first_now : (rows : List Object) (place : ℕ) (before : Option ℕ) (x : ClassData) → class_at rows place ≡ Some x → is_default x ≡ true
    → comes_first rows x before ≡ true → IsDefaultBelow rows place before → IsDefaultBelow rows (place + 1) (Some place)
first_now rows place before x there marked less first =
    scans.taken class_cmp_total (one rows) place before x (as_class_some _ x there, marked)
    (λ at y is c. subst (λ o. class_is_before x o ≡ true) (ap as_class c.0) (subst (λ b. comes_first rows x b ≡ true) is less)) first

-- it does not come before the first one
pub not_first : (rows : List Object) (place : ℕ) (before : Option ℕ) (x : ClassData) → class_at rows place ≡ Some x → is_default x ≡ true
    → comes_first rows x before ≡ false → IsDefaultBelow rows place before → IsDefaultBelow rows (place + 1) before
not_first rows place None x there marked more first = absurd (true≢false more)
not_first rows place (Some at) x there marked more first =
    scans.kept class_cmp_total (one rows) place at x (as_class_some _ x there, marked) (λ y c. subst (λ o. class_is_before x o ≡ false) (ap as_class c.0) more) first

-- of all places the first one is the default class
module _ (rows : List Object) (order : AreRows rows) (count : ℕ) (all : count ≡ length (rows_of kinds.StorageClass rows)) where
  placed : (x : ClassData) → StandsIn rows x → (place : ℕ) × (slice_get (rows_of kinds.StorageClass rows) place ≡ Some (Class x))
  placed x stands = place_of_row kinds.StorageClass (key_of (Class x)) (Class x) rows refl stands

  below : (place : ℕ) (x : ClassData) → slice_get (rows_of kinds.StorageClass rows) place ≡ Some (Class x) → place < count
  below place x at = subst (λ (n : ℕ). place < n) (sym all) (slice_get_within (rows_of kinds.StorageClass rows) place (Class x) at)

  no_mark : (b : Bool) → (b ≡ true → ⊥) → b ≡ false
  no_mark true h = absurd (h refl)
  no_mark false h = refl

  pub whole : (answer : Option ℕ) → IsDefaultBelow rows count answer → IsDefaultPlace rows answer
  whole None none = λ x stands. let p = placed x stands in no_mark (is_default x) (λ marked. none p.0 (below p.0 x p.1) x (p.1, marked))
  whole (Some place) first =
      record {
        class = first.it;
        at = first.candidate.0;
        default = record {
          there = row_at_place kinds.StorageClass place (Class first.it) rows order first.candidate.0;
          marked = first.candidate.1;
          first = λ other stands marked. let p = placed other stands in first.first p.0 (below p.0 other p.1) other (p.1, marked);
        };
      }
