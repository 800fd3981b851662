-- What a seat must have been told, computed.
use Rattle.std.proofs.Common.{refl, sym, inl, inr, true≢false}
use Rattle.std.specs.Prelude.{[], ◌∷◌}
use Rattle.call_types.specs.declared.request.SeatKind.TheVariants as seats
use Rattle.binder_model.specs.GuardLicence.{IsDeletingVersion, TellsUnused}
use Rattle.binder_model.specs.Told.{After, ToldClaim}
use Rattle.model_examples.specs.Samples.{p, seat_of, tells_claim, uid_c}
use Rattle.model_examples.specs.ProtectionRows.{leaving_c, pods}
use Rattle.model_examples.proofs.Tellings.{neither}
use Rattle.machine_examples.specs.Guard.Evidences.{EvidenceExamples}

itself : IsDeletingVersion leaving_c leaving_c
itself = record { same = record { uid = uid_c; first = refl; second = refl }; deleting = refl }

-- a list of the claims is no list of the pods
no_list : After (ToldClaim (IsDeletingVersion leaving_c)) (TellsUnused leaving_c) (seat_of seats.ClaimProtect (tells_claim leaving_c ∷ [])) → ⊥
no_list h = neither (λ x. x.0.1) (λ x. x) h

-- the list told a pod that uses the claim
in_use : After (ToldClaim (IsDeletingVersion leaving_c)) (TellsUnused leaving_c) (seat_of seats.ClaimProtect (pods (p ∷ []) ∷ tells_claim leaving_c ∷ [])) → ⊥
in_use h = neither (λ x. true≢false x.0.1.1) no_list h

pub evidence_examples : EvidenceExamples
evidence_examples = record {
  adds_to_what_was_told = record { told = inl (refl, inl refl); staying = refl; lacks = refl };
  guarded_claim_gets_none = λ h. true≢false h.lacks;
  lists_for_a_leaving_claim = record { told = inl (refl, inl refl); deleting = refl };
  not_for_a_staying_claim = λ h. true≢false (sym h.deleting);
  drops_after_the_list = record { told = inr (inl (refl, inl refl)); deleting = refl; unused = inl ((refl, (refl, refl)), inl (refl, inl itself)) };
  not_by_the_cache_alone = λ h. no_list h.unused;
  not_where_the_list_told_a_pod = λ h. in_use h.unused;
  adds_to_a_volume_that_was_told = record { told = inl (refl, inl refl); staying = refl; lacks = refl };
  drops_from_a_leaving_volume = record { told = inl (refl, inl refl); deleting = refl; loose = refl };
  not_from_a_bound_volume = λ h. true≢false h.loose;
  not_from_a_staying_volume = λ h. true≢false (sym h.deleting);
  volume_that_was_not_told_loses_none = λ h. h.told;
}
