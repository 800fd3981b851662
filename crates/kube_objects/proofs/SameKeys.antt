-- The tests of kinds and of keys decide their equality.
use Rattle.std.proofs.Common.{◌≡◌, ◌≢◌, ◌⊎◌, inl, inr, Bool, true, false, true≢false, refl, sym, ◌∙◌, ap, subst}
use Rattle.std.specs.Bool.{Decides}
use Rattle.std.specs.Cmp.{IsEquivalence}
use Rattle.std.specs.declared.cmp.Ordering.TheVariants.{Equal}
use Rattle.std.specs.Ordering.{is_eq}
use Rattle.std.proofs.lemmas.Bool.Decides.{Decides-eqb, Decides-and, Decides-like}
use Rattle.std.proofs.lemmas.Cmp.{tied_itself}
use Rattle.std.proofs.lemmas.Slice.Eq.{bytes_eq-Decides}
use Rattle.kube_parts.specs.declared.parts.Kind.{Kind}
use Rattle.kube_objects.specs.declared.key.Key.{Key}
use Rattle.kube_objects.specs.Keys.{key_cmp, kind_index, same_key, same_kind}
use Rattle.kube_objects.proofs.KeyOrder.{key_cmp_total, kinds_alike, other_key}

pub same_kind-Decides : (a b : Kind) → Decides (same_kind a b) (a ≡ b)
same_kind-Decides a b = Decides-like _ (kinds_alike a b) (ap kind_index) (Decides-eqb (kind_index a) (kind_index b))

pub same_key-Decides : (a b : Key) → Decides (same_key a b) (a ≡ b)
same_key-Decides a b =
    Decides-like _ (λ e i. record { kind = e.0.0 i; namespace = e.0.1 i; name = e.1 i })
    (λ e. ((ap (λ (k : Key). k.kind) e, ap (λ (k : Key). k.namespace) e), ap (λ (k : Key). k.name) e))
    (Decides-and _ _ (Decides-and _ _ (same_kind-Decides a.kind b.kind) (bytes_eq-Decides a.namespace b.namespace)) (bytes_eq-Decides a.name b.name))

-- two keys are one, or they are not
pub data KeyCases (a b : Key) : Type 0 where
  One : same_key a b ≡ true → a ≡ b → KeyCases a b
  Two : same_key a b ≡ false → a ≢ b → KeyCases a b

pub key_cases : (a b : Key) → KeyCases a b
key_cases a b = by (same_key a b) refl
  where
    by : (t : Bool) → same_key a b ≡ t → KeyCases a b
    by true e = One e ((same_key-Decides a b).0 e)
    by false e = Two e (λ is. true≢false (sym ((same_key-Decides a b).1 is) ∙ e))

pub key_tells : (a b : Key) → (a ≡ b) ⊎ (a ≢ b)
key_tells a b = by (key_cases a b)
  where
    by : KeyCases a b → (a ≡ b) ⊎ (a ≢ b)
    by (One e is) = inl is
    by (Two e differs) = inr differs

pub same_key_itself : (k : Key) → same_key k k ≡ true
same_key_itself k = (same_key-Decides k k).1 refl

pub same_key_swapped : (a b : Key) → same_key a b ≡ same_key b a
same_key_swapped a b = by (key_cases a b) (key_cases b a)
  where
    by : KeyCases a b → KeyCases b a → same_key a b ≡ same_key b a
    by (One e is) (One f si) = e ∙ sym f
    by (One e is) (Two f not) = absurd (not (sym is))
    by (Two e not) (One f is) = absurd (not (sym is))
    by (Two e not) (Two f ton) = e ∙ sym f

pub same_key_equivalence : IsEquivalence same_key
same_key_equivalence = record {
  refl = same_key_itself;
  symm = same_key_swapped;
  congr = λ x y z e. ap (λ (k : Key). same_key k z) ((same_key-Decides x y).0 e);
}

-- the test of keys is that of their order
pub same_key_ordered : (a b : Key) → is_eq (key_cmp a b) ≡ same_key a b
same_key_ordered a b = by (key_cases a b)
  where
    by : KeyCases a b → is_eq (key_cmp a b) ≡ same_key a b
    by (One e is) = ap is_eq (subst (λ k. key_cmp a k ≡ Equal) is (tied_itself key_cmp_total a)) ∙ sym e
    by (Two e differs) = other_key a b differs ∙ sym e
