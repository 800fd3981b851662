-- Only volumes that refer to a claim carry it.
use Rattle.std.proofs.Common.{◌≡◌, ◌∙◌, Bool, true, false, true≢false, not, ◌&&◌, ◌||◌, List, [], ◌∷◌, ◌⊎◌, inl, inr, refl, sym, ap}
use Rattle.std.specs.List.{Contains, list_all, list_any}
use Rattle.std.specs.Prelude.{Option, Some, None}
use Rattle.kube_objects.specs.declared.objects.Claim.{Claim as ClaimData}
use Rattle.kube_objects.specs.declared.objects.Node.{Node as NodeData}
use Rattle.kube_objects.specs.declared.objects.Ref.{Ref}
use Rattle.kube_objects.specs.declared.objects.Volume.{Volume as VolumeData}
use Rattle.kube_objects.specs.declared.objects.Object.{Object}
use Rattle.kube_objects.specs.declared.objects.Object.TheVariants.{Class, Node, Volume, Claim, Pod}
use Rattle.kube_objects.specs.Bindings.{carries, names_claim, refers_carrying, uid_carries}
use Rattle.volume_index.specs.VolumeIndex.{HoldsThose, volumes_in}
use Rattle.volume_index.proofs.HeldValues.{here, nothing, split, there}
use Rattle.volume_index.proofs.IndexRows.{held_volume, volume_held}
use Rattle.label_rules.specs.Selectors.{admits}
use Rattle.binder_model.specs.Choice.{admits_if_carrying, carries_claim}
use Rattle.volume_match.specs.Passing.{refers_to_claim}
use Rattle.volume_match.specs.Steps.Choices.{ref_is_to}
use Rattle.delayed_binding.specs.Steps.Places.{admits_unless_other}

-- tests of what a list holds

module _ {X : Type 0} (p : X → Bool) where
  any_held : (xs : List X) → list_any p xs ≡ true → (x : X) × (Contains xs x × (p x ≡ true))
  any_held [] e = absurd (true≢false (sym e))
  any_held (y ∷ ys) e = by (p y) refl e (any_held ys)
    where
      by : (b : Bool) → p y ≡ b → (b || list_any p ys) ≡ true → (list_any p ys ≡ true → (x : X) × (Contains ys x × (p x ≡ true))) → (x : X) × (Contains (y ∷ ys) x × (p x ≡ true))
      by true is e rest = (y, (here y y ys refl, is))
      by false is e rest = let r = rest e in (r.0, (there y r.0 ys r.1.0, r.1.1))

  held_any : (xs : List X) (x : X) → Contains xs x → p x ≡ true → list_any p xs ≡ true
  held_any [] x c e = absurd (nothing x c)
  held_any (y ∷ ys) x c e = elim (split y x ys c) [
    | inl is ↦ ap (λ b. b || list_any p ys) (ap p is ∙ e)
    | inr h ↦ ap (λ b. p y || b) (held_any ys x h e) ∙ or_true (p y)
  ]
    where
      or_true : (b : Bool) → (b || true) ≡ true
      or_true true = refl
      or_true false = refl

  all_held : (xs : List X) → list_all p xs ≡ true → (x : X) → Contains xs x → p x ≡ true
  all_held [] e x c = absurd (nothing x c)
  all_held (y ∷ ys) e x c = by (p y) refl e (split y x ys c) (all_held ys)
    where
      by : (b : Bool) → p y ≡ b → (b && list_all p ys) ≡ true → (y ≡ x) ⊎ Contains ys x → (list_all p ys ≡ true → (u : X) → Contains ys u → p u ≡ true) → p x ≡ true
      by true is e (inl same) rest = ap p (sym same) ∙ is
      by true is e (inr h) rest = rest e x h
      by false is e s rest = absurd (true≢false (sym e))

  held_all : (xs : List X) → ((x : X) → Contains xs x → p x ≡ true) → list_all p xs ≡ true
  held_all [] f = refl
  held_all (y ∷ ys) f = ap (λ b. b && list_all p ys) (f y (here y y ys refl)) ∙ held_all ys (λ x h. f x (there y x ys h))

same_if : (a b : Bool) → (a ≡ true → b ≡ true) → (b ≡ true → a ≡ true) → a ≡ b
same_if true b f g = sym (f refl)
same_if false true f g = g refl
same_if false false f g = refl

module _ (c : ClaimData) where
  -- a volume that carries the claim refers to it
  carrying_refers : (v : VolumeData) → carries v c ≡ true → refers_to_claim c v ≡ true
  carrying_refers v e = by v.claim_ref e
    where
      first : (a b : Bool) → (a && b) ≡ true → a ≡ true
      first true b e = refl
      first false b e = absurd (true≢false (sym e))

      by : (r : Option Ref) → refers_carrying r c ≡ true → ref_is_to c r ≡ true
      by None e = absurd (true≢false (sym e))
      by (Some r) e = first (names_claim r c) (uid_carries r.uid c) e

  module _ (rows : List Object) (part : List VolumeData) (holds : HoldsThose (refers_to_claim c) (volumes_in rows) part) where
    -- so it is enough to look at those that refer to it
    pub carried_in_part : list_any (λ v. carries v c) part ≡ list_any (carries_claim c) rows
    carried_in_part = same_if (list_any (λ v. carries v c) part) (list_any (carries_claim c) rows) to back
      where
        to : list_any (λ v. carries v c) part ≡ true → list_any (carries_claim c) rows ≡ true
        to e =
            let h = any_held (λ v. carries v c) part e in
            held_any (carries_claim c) rows (Volume h.0) (volume_held h.0 rows ((holds h.0).0 h.1.0).0) h.1.1

        by : (o : Object) → Contains rows o → carries_claim c o ≡ true → list_any (λ v. carries v c) part ≡ true
        by (Class x) h e = absurd (true≢false (sym e))
        by (Node x) h e = absurd (true≢false (sym e))
        by (Volume v) h e = held_any (λ v. carries v c) part v ((holds v).1 (held_volume v rows h, carrying_refers v e)) e
        by (Claim x) h e = absurd (true≢false (sym e))
        by (Pod x) h e = absurd (true≢false (sym e))

        back : list_any (carries_claim c) rows ≡ true → list_any (λ v. carries v c) part ≡ true
        back e = let h = any_held (carries_claim c) rows e in by h.0 h.1.0 h.1.1

    pub admitted_in_part : (n : NodeData) → list_all (admits_unless_other n c) part ≡ list_all (admits_if_carrying n c) rows
    admitted_in_part n = same_if (list_all (admits_unless_other n c) part) (list_all (admits_if_carrying n c) rows) to back
      where
        other : (b a : Bool) → (b ≡ true → (not b || a) ≡ true) → (not b || a) ≡ true
        other true a f = f refl
        other false a f = refl

        by : (o : Object) → Contains rows o → list_all (admits_unless_other n c) part ≡ true → admits_if_carrying n c o ≡ true
        by (Class x) h e = refl
        by (Node x) h e = refl
        by (Volume v) h e = other (carries v c) (admits v.terms n.meta.labels) (λ is. all_held (admits_unless_other n c) part e v ((holds v).1 (held_volume v rows h, carrying_refers v is)))
        by (Claim x) h e = refl
        by (Pod x) h e = refl

        to : list_all (admits_unless_other n c) part ≡ true → list_all (admits_if_carrying n c) rows ≡ true
        to e = held_all (admits_if_carrying n c) rows (λ o h. by o h e)

        back : list_all (admits_if_carrying n c) rows ≡ true → list_all (admits_unless_other n c) part ≡ true
        back e = held_all (admits_unless_other n c) part (λ v h. all_held (admits_if_carrying n c) rows e (Volume v) (volume_held v rows ((holds v).0 h).0))
