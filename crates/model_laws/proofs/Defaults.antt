-- The scan over the classes finds the default one.
use Rattle.std.proofs.Common.{sym, refl, subst, inl, inr, ap, ◌∙◌, true≢false}
use Rattle.std.specs.Prelude.{◌≢◌, ◌≡◌, Bool, true, false, List, [], ◌∷◌, Option, Some, None}
use Rattle.std.specs.declared.cmp.Ordering.{Ordering}
use Rattle.std.specs.declared.cmp.Ordering.TheVariants.{Less, Equal, Greater}
use Rattle.std.specs.Ordering.{is_lt, is_gt, ordering_then, ordering_reverse}
use Rattle.std.proofs.lemmas.Option.{same_Some}
use Rattle.std.proofs.lemmas.Cmp.{upto, tied_itself, nat_list_cmp_total}
use Rattle.std.proofs.lemmas.Bool.{false_from_ne_true}
use Rattle.plain_data.specs.Pairs.{text_cmp}
use Rattle.plain_data.specs.Rows.{IsAfter}
use Rattle.kube_objects.specs.declared.objects.Class.{Class as ClassData}
use Rattle.kube_objects.specs.declared.objects.Object.{Object}
use Rattle.kube_objects.specs.declared.objects.Object.TheVariants.{Class, Node, Volume, Claim, Pod}
use Rattle.kube_objects.specs.Keys.{AreRows, key_cmp, key_of, row_at}
use Rattle.kube_objects.specs.declared.key.Key.{Key}
use Rattle.kube_objects.proofs.KeyOrder.{equal_keys}
use Rattle.kube_types.specs.Defaults.{IsDefault, StandsIn, class_cmp, is_default}
use Rattle.kube_types.proofs.DefaultScan.{class_cmp_total}
use Rattle.volume_index.proofs.Scans.{not_greater}
use Rattle.binder_model.specs.Store.{text_lt, newer_class, default_class}
use Rattle.model_laws.specs.Defaults.{DefaultIsOne}
use Rattle.model_laws.proofs.Lists.{IsIn}
use Rattle.model_laws.proofs.Readings.{after_member, member_stands, found_stands}

-- of the classes of these rows, what the scan found
abbrev Picks : List Object → Option ClassData → Type 0
Picks os None = (y : ClassData) → IsIn (Class y) os → is_default y ≡ true → ⊥
Picks os (Some x) = IsIn (Class x) os × (is_default x ≡ true) × ((y : ClassData) → IsIn (Class y) os → is_default y ≡ true → is_gt (class_cmp x y) ≡ false)

class_is : (o : Object) (y : ClassData) → o ≡ Class y → (x : ClassData) → o ≡ Class x → y ≡ x
class_is o y e x f = ap (of y) (sym e ∙ f)
  where
    of : ClassData → Object → ClassData
    of z (Class w) = w
    of z p = z

-- a later row is no class that is named before this one of the same moment
late : (x y : ClassData) (os : List Object) → IsAfter key_cmp key_of (Class x) os → IsIn (Class y) os → text_lt x.meta.created y.meta.created ≡ false → is_gt (class_cmp x y) ≡ false
late x y os after is e = by (text_cmp y.meta.created x.meta.created) refl
  where
    less : key_cmp (key_of (Class x)) (key_of (Class y)) ≡ Less
    less = after_member (Class x) (Class y) os after is

    turned : (r : Ordering) → r ≡ Greater → is_lt (ordering_reverse r) ≡ true
    turned r g = ap (λ s. is_lt (ordering_reverse s)) g

    by : (r : Ordering) → text_cmp y.meta.created x.meta.created ≡ r → is_gt (ordering_then (text_cmp y.meta.created x.meta.created) (key_cmp (key_of (Class x)) (key_of (Class y)))) ≡ false
    by Less is_r = ap (λ s. is_gt (ordering_then s (key_cmp (key_of (Class x)) (key_of (Class y))))) is_r
    by Equal is_r = ap (λ s. is_gt (ordering_then s (key_cmp (key_of (Class x)) (key_of (Class y))))) is_r ∙ ap is_gt less
    by Greater is_r = absurd (true≢false (sym (turned _ is_r) ∙ ap is_lt (sym (nat_list_cmp_total.antisymm x.meta.created y.meta.created)) ∙ e))

newer : (x y : ClassData) → text_lt x.meta.created y.meta.created ≡ true → is_gt (class_cmp y x) ≡ false
newer x y e = by (text_cmp x.meta.created y.meta.created) refl e
  where
    by : (r : Ordering) → text_cmp x.meta.created y.meta.created ≡ r → is_lt r ≡ true → is_gt (class_cmp y x) ≡ false
    by Less is_r l = ap (λ s. is_gt (ordering_then s (key_cmp (key_of (Class y)) (key_of (Class x))))) is_r
    by Equal is_r l = absurd (true≢false (sym l))
    by Greater is_r l = absurd (true≢false (sym l))

gt_itself : (x : ClassData) → is_gt (class_cmp x x) ≡ false
gt_itself x = ap is_gt (tied_itself class_cmp_total x)

-- one more class that is marked stands before those of the scan
joined : (x : ClassData) (os : List Object) (found : Option ClassData) → is_default x ≡ true → IsAfter key_cmp key_of (Class x) os → Picks os found → Picks (Class x ∷ os) (newer_class x found)
joined x os None marked after p = (inl refl, marked, least)
  where
    least : (y : ClassData) → IsIn (Class y) (Class x ∷ os) → is_default y ≡ true → is_gt (class_cmp x y) ≡ false
    least y (inl is) m = subst (λ (z : ClassData). is_gt (class_cmp x z) ≡ false) (class_is (Class x) x refl y is) (gt_itself x)
    least y (inr more) m = absurd (p y more m)
joined x os (Some z) marked after p = by (text_lt x.meta.created z.meta.created) refl
  where
    least : text_lt x.meta.created z.meta.created ≡ false → (y : ClassData) → IsIn (Class y) (Class x ∷ os) → is_default y ≡ true → is_gt (class_cmp x y) ≡ false
    least e y (inl is) m = subst (λ (w : ClassData). is_gt (class_cmp x w) ≡ false) (class_is (Class x) x refl y is) (gt_itself x)
    least e y (inr more) m = upto class_cmp_total x z y (late x z os after p.0 e) (p.2 y more m)

    other : text_lt x.meta.created z.meta.created ≡ true → (y : ClassData) → IsIn (Class y) (Class x ∷ os) → is_default y ≡ true → is_gt (class_cmp z y) ≡ false
    other e y (inl is) m = subst (λ (w : ClassData). is_gt (class_cmp z w) ≡ false) (class_is (Class x) x refl y is) (newer x z e)
    other e y (inr more) m = p.2 y more m

    by : (b : Bool) → text_lt x.meta.created z.meta.created ≡ b → Picks (Class x ∷ os) (newer_class x (Some z))
    by true e = rw e (inr p.0, p.1, other e)
    by false e = rw e (inl refl, marked, least e)

passed : (o : Object) (os : List Object) (found : Option ClassData) → ((y : ClassData) → o ≡ Class y → is_default y ≡ true → ⊥) → Picks os found → Picks (o ∷ os) found
passed o os None not_it p = λ y h m. elim h [ inl is ↦ not_it y is m | inr more ↦ p y more m ]
passed o os (Some x) not_it p = (inr p.0, p.1, λ y h m. elim h [ inl is ↦ absurd (not_it y is m) | inr more ↦ p.2 y more m ])

abbrev is_class : Object → Bool
is_class (Class x) = true
is_class o = false

no_class : (o : Object) → is_class o ≡ false → (y : ClassData) → o ≡ Class y → is_default y ≡ true → ⊥
no_class o e y is m = true≢false (sym (ap is_class is) ∙ e)

picked : (os : List Object) → AreRows os → Picks os (default_class os)
picked [] rows = λ y h m. absurd h
picked (Class x ∷ os) rows = by (is_default x) refl (picked os rows.1)
  where
    by : (b : Bool) → is_default x ≡ b → Picks os (default_class os) → Picks (Class x ∷ os) (default_class (Class x ∷ os))
    by true e p = rw e (joined x os (default_class os) e rows.0 p)
    by false e p = rw e (passed (Class x) os (default_class os) (λ y is m. true≢false (sym m ∙ sym (ap is_default (class_is (Class x) x refl y is)) ∙ e)) p)
picked (Node x ∷ os) rows = passed (Node x) os (default_class os) (no_class (Node x) refl) (picked os rows.1)
picked (Volume x ∷ os) rows = passed (Volume x) os (default_class os) (no_class (Volume x) refl) (picked os rows.1)
picked (Claim x ∷ os) rows = passed (Claim x) os (default_class os) (no_class (Claim x) refl) (picked os rows.1)
picked (Pod x ∷ os) rows = passed (Pod x) os (default_class os) (no_class (Pod x) refl) (picked os rows.1)

is_picked : (rows : List Object) → AreRows rows → (found : Option ClassData) → Picks rows found → IsDefault (StandsIn rows) found
is_picked rows order None p = λ y stands. false_from_ne_true (is_default y) (p y (found_stands (key_of (Class y)) (Class y) rows stands))
is_picked rows order (Some x) p = record {
  there = member_stands (Class x) rows order p.0;
  marked = p.1;
  first = λ y stands m. not_greater _ (p.2 y (found_stands (key_of (Class y)) (Class y) rows stands) m);
}

pub default_is_found : (rows : List Object) → AreRows rows → IsDefault (StandsIn rows) (default_class rows)
default_is_found rows order = is_picked rows order (default_class rows) (picked rows order)

-- two default classes of the same rows are one class

neither_first : (r : Ordering) → r ≢ Greater → ordering_reverse r ≢ Greater → r ≡ Equal
neither_first Less h k = absurd (k refl)
neither_first Equal h k = refl
neither_first Greater h k = absurd (h refl)

both_tied : (r s : Ordering) → ordering_then r s ≡ Equal → s ≡ Equal
both_tied Less s e = cc
both_tied Equal s e = e
both_tied Greater s e = cc

pub default_is_one : DefaultIsOne
default_is_one rows x y a b =
    let tied : class_cmp x y ≡ Equal = neither_first (class_cmp x y) (a.first y b.there b.marked) (subst (λ r. r ≢ Greater) (class_cmp_total.antisymm y x) (b.first x a.there a.marked)) in
    let keys : key_of (Class x) ≡ key_of (Class y) = equal_keys _ _ (both_tied (text_cmp y.meta.created x.meta.created) (key_cmp (key_of (Class x)) (key_of (Class y))) tied) in
    class_is (Class x) x refl y (same_Some (Class x) (Class y) (sym a.there ∙ ap (λ (k : Key). row_at k rows) keys ∙ b.there))
