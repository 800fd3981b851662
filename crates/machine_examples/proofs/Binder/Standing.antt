-- What a seat must have been told, computed.
use Rattle.std.proofs.Common.{◌≡◌, ◌⊎◌, refl, inl, inr}
use Rattle.std.specs.Prelude.{List, [], ◌∷◌, true}
use Rattle.kube_objects.specs.declared.objects.Claim.{Claim as ClaimData}
use Rattle.kube_parts.specs.Uids.{uid_of_serial}
use Rattle.call_types.specs.declared.entry.Entry.{Entry}
use Rattle.call_types.specs.declared.request.SeatKind.TheVariants as seats
use Rattle.binder_model.specs.At.{IsElsewhere}
use Rattle.binder_model.specs.BinderDue.{is_reclaimed}
use Rattle.binder_model.specs.BinderLicence.{IsReferring, MayRelease, WasReadGone}
use Rattle.binder_model.specs.Told.{ToldClaim}
use Rattle.model_examples.specs.Samples.{Exchange, a, c, finds_none, key_c, ref_c, seat_of, taken_a, tells_volume, uid_c}
use Rattle.model_examples.proofs.Tellings.{not_get}
use Rattle.machine_examples.specs.Binder.Evidences.{EvidenceExamples}

abbrev mine : List Exchange → List Entry
mine xs = seat_of seats.Binder xs

-- a list of the volumes tells no claim
no_claim : (P : ClaimData → Type 0) → ToldClaim P (mine (tells_volume a ∷ [])) → ⊥
no_claim P (inl t) = by t.1
  where
    by : ⊥ ⊎ ⊥ → ⊥
    by (inl h) = h
    by (inr h) = h
no_claim P (inr h) = h

referring : IsReferring taken_a ref_c taken_a
referring = record { same = record { uid = uid_of_serial 1; first = refl; second = refl }; refers = refl }

released : MayRelease (mine (finds_none key_c ∷ tells_volume taken_a ∷ [])) taken_a
released = record { live = refl; reference = ref_c; uid = uid_c; refers = refl; known = refl; why = inl (inl ((refl, refl, tt), inl (refl, inl referring))) }

too_early : MayRelease (mine (tells_volume taken_a ∷ finds_none key_c ∷ [])) taken_a → ⊥
too_early row = by row.why
  where
    read : WasReadGone (mine (tells_volume taken_a ∷ finds_none key_c ∷ [])) taken_a row.reference row.uid → ⊥
    read (inl h) = not_get h.0.1 refl
    read (inr (inl h)) = h.1
    read (inr (inr h)) = h

    listed : ⊥ ⊎ ⊥ → ⊥
    listed (inl h) = h
    listed (inr h) = h

    told : ToldClaim (IsElsewhere taken_a.meta.name row.uid) (mine (tells_volume taken_a ∷ finds_none key_c ∷ [])) → ⊥
    told (inl t) = listed t.1
    told (inr (inl t)) = t.1
    told (inr (inr h)) = h

    by : WasReadGone (mine (tells_volume taken_a ∷ finds_none key_c ∷ [])) taken_a row.reference row.uid
        ⊎ (ToldClaim (IsElsewhere taken_a.meta.name row.uid) (mine (tells_volume taken_a ∷ finds_none key_c ∷ [])) × (is_reclaimed taken_a ≡ true)) → ⊥
    by (inl h) = read h
    by (inr h) = told h.0

pub evidence_examples : EvidenceExamples
evidence_examples = record {
  binds_what_was_told = (inr (inl (refl, inl refl)), inl (refl, inl refl));
  claim_that_was_not_told_is_not_bound = λ h. no_claim (λ d. d ≡ c) h.1;
  releases_after_the_read = (inr (inl (refl, inl refl)), released);
  not_before_the_volume_was_told = λ h. too_early h.1;
}
