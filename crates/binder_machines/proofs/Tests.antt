-- What the tests of a binding tell.
use Rattle.std.proofs.Common.{◌≡◌, ℕ, List, [], ◌∷◌, true, false, true≢false, Option, Some, None, refl, sym, ◌∙◌, ap}
use Rattle.std.specs.Prelude.{◌&&◌, ◌||◌, is_none, bytes_eq}
use Rattle.std.proofs.lemmas.Bool.{and_parts}
use Rattle.std.proofs.lemmas.Bool.Decides.{Decides-eqb}
use Rattle.std.proofs.lemmas.Slice.Eq.{bytes_eq-Decides}
use Rattle.kube_parts.specs.declared.uid.Uid.{Uid}
use Rattle.kube_objects.specs.declared.objects.Ref.{Ref}
use Rattle.kube_objects.specs.declared.objects.Volume.{Volume as VolumeData}
use Rattle.kube_objects.specs.declared.objects.Claim.{Claim as ClaimData}
use Rattle.kube_objects.specs.Bindings.{is_empty, is_uid, is_for, carries, names_claim, uid_fits, uid_carries, ref_uid}
use Rattle.binder_model.specs.BinderLicence.{IsFreeFor}

pub empty_is : (xs : List ℕ) → is_empty xs ≡ true → xs ≡ []
empty_is [] e = refl
empty_is (x ∷ xs) e = absurd (true≢false (sym e))

pub filled_is : (xs : List ℕ) → is_empty xs ≡ false → xs ≡ [] → ⊥
filled_is [] e is = true≢false e
filled_is (x ∷ xs) e is = true≢false (sym (ap is_empty is) ∙ e)

pub bytes_differ : (a b : List ℕ) → bytes_eq a b ≡ false → a ≡ b → ⊥
bytes_differ a b e is = true≢false (sym ((bytes_eq-Decides a b).1 is) ∙ e)

pub uid_differs : (given : Option Uid) (uid : Uid) → is_uid given uid ≡ false → given ≡ Some uid → ⊥
uid_differs given uid e is =
    let test : is_uid (Some uid) uid ≡ true = (Decides-eqb uid.0 uid.0).1 refl in
    true≢false (sym (ap (λ u. is_uid u uid) is ∙ test) ∙ e)

-- the UID in the reference of a volume
pub uid_of : (v : VolumeData) (r : Ref) (uid : Uid) → v.claim_ref ≡ Some r → r.uid ≡ Some uid → ref_uid v.claim_ref ≡ Some uid
uid_of v r uid refers known = ap ref_uid refers ∙ known

-- a volume that may be bound and does not carry the claim is free for it
pub free : (o : Option Ref) (c : ClaimData) (v : VolumeData) → v.claim_ref ≡ o → (is_none v.claim_ref || is_for v c) ≡ true → carries v c ≡ false → IsFreeFor o c
free None c v is opened other = tt
free (Some r) c v is opened other = by_uid r.uid refl
  where
    for : is_for v c ≡ true
    for = rw (ap is_none is) at opened

    names : (names_claim r c && uid_fits r.uid c) ≡ true
    names = sym (ap (λ x. is_for (record v { claim_ref = x }) c) is) ∙ for

    not_carried : (names_claim r c && uid_carries r.uid c) ≡ false
    not_carried = sym (ap (λ x. carries (record v { claim_ref = x }) c) is) ∙ other

    by_uid : (uid : Option Uid) → r.uid ≡ uid → (names_claim r c ≡ true) × (r.uid ≡ None)
    by_uid None e = ((and_parts (names_claim r c) (uid_fits r.uid c) names).0, e)
    by_uid (Some uid) e = absurd (true≢false (sym (cc) ∙ not_carried))
