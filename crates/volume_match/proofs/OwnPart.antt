-- The volumes that refer to a claim stand in one part of an index.
use Rattle.std.proofs.Common.{ℕ, ◌≡◌, ◌≤◌, ◌<◌, ◌+◌, ◌-◌, inl, inr, true, false, true≢false, List, length, get_or, Some, None, slice_get, arith, ◌∙◌, sym, ap, subst}
use Rattle.std.specs.List.{AllWithin, Contains, between}
use Rattle.std.specs.Ordering.{is_gt, is_lt}
use Rattle.std.proofs.lemmas.Cmp.{tied_itself}
use Rattle.std.proofs.lemmas.List.{get_or_default}
use Rattle.std.proofs.lemmas.List.Edits.{get_or-between, length-between}
use Rattle.std.proofs.lemmas.Option.{slice_get-get_or}
use Rattle.kube_objects.specs.declared.objects.Claim.{Claim as ClaimData}
use Rattle.kube_objects.specs.declared.objects.Volume.{Volume as VolumeData}
use Rattle.volume_index.specs.IndexPlaces.{IsOwnerStart}
use Rattle.volume_index.specs.VolumeIndex.{HoldsThose, is_owned}
use Rattle.volume_index.specs.VolumeOrders.{AreInOrder, by_owner, need_cmp, owner_cmp, owner_of}
use Rattle.volume_index.proofs.VolumeOrders.{by_owner_total, first_no_greater, owner_total}
use Rattle.volume_match.specs.Passing.{refers_to_claim}
use Rattle.volume_match.specs.Steps.Choices.{claim_owner}
use Rattle.volume_match.proofs.Candidates.{below_or_from, upto_at}
use Rattle.volume_match.proofs.Fitting.{names_owner, past_owner, referring_owned}

module _ (c : ClaimData) (owned : List VolumeData) (start end : ℕ)
    (order : AreInOrder by_owner owned) (from : start ≤ end) (bound : end ≤ length owned)
    (starts : IsOwnerStart (claim_owner c) owned start)
    (named : AllWithin (λ v. refers_to_claim c v ≡ true) owned start end)
    (next : (v : VolumeData) → slice_get owned end ≡ Some v → refers_to_claim c v ≡ false)
    (volumes : List VolumeData) (holds : HoldsThose is_owned volumes owned) where
  abbrev pub part : List VolumeData
  part = between start end owned

  -- what stands in the part
  in_part : (v : VolumeData) → Contains part v → Contains volumes v × (refers_to_claim c v ≡ true)
  in_part v h =
      let within : h.0 < end - start = subst (λ n. h.0 < n) (length-between owned start end bound) h.1 in
      let at : get_or owned (start + h.0) v ≡ v = sym (get_or-between owned start end h.0 v (omega (arith, within))) ∙ h.2 in
      (((holds v).0 (start + h.0, omega (arith, within, bound), at)).0, subst (λ w. refers_to_claim c w ≡ true) at (named (start + h.0) v (omega arith) (omega (arith, within))))

  -- before it stand those of earlier claims
  not_before : (v : VolumeData) (k : ℕ) → k < start → get_or owned k v ≡ v → refers_to_claim c v ≡ true → ⊥
  not_before v k less at e =
      true≢false (sym (subst (λ w. is_lt (owner_cmp (owner_of w) (claim_owner c)) ≡ true) at (starts.0 k v (omega arith) less))
      ∙ ap (λ w. is_lt (owner_cmp w (claim_owner c))) (names_owner c None v.claim_ref e) ∙ ap is_lt (tied_itself owner_total (claim_owner c)))

  -- behind it those of later ones
  not_behind : (v : VolumeData) (k : ℕ) → end ≤ k → k < length owned → get_or owned k v ≡ v → refers_to_claim c v ≡ true → ⊥
  not_behind v k le within at e =
      let there : end < length owned = omega (arith, le, within) in
      let u = get_or owned end v in
      let same : u ≡ get_or owned end u = get_or_default owned end v u there in
      let ge : is_lt (owner_cmp (owner_of u) (claim_owner c)) ≡ false = starts.1 end v from there in
      let held = (holds u).0 (end, there, sym same) in
      past_owner c None u v held.1 ge (next u (slice_get-get_or owned end v there)) (names_owner c None v.claim_ref e)
      (upto_at by_owner_total (λ w. w) owned end k u v order le within same (sym at) (λ w x. owner_cmp (owner_of w) (owner_of x))
      (λ w x h. first_no_greater (owner_cmp (owner_of w) (owner_of x)) (need_cmp w x) h) (λ w. ap is_gt (tied_itself owner_total (owner_of w))))

  -- so each that refers to the claim stands there
  to_part : (v : VolumeData) → Contains volumes v → refers_to_claim c v ≡ true → Contains part v
  to_part v h e =
      let k = (holds v).1 (h, referring_owned c None v.claim_ref e) in
      elim (below_or_from k.0 start) [
        | inl less ↦ absurd (not_before v k.0 less k.2 e)
        | inr le ↦ elim (below_or_from k.0 end) [
          | inl less ↦
              let back : start + (k.0 - start) ≡ k.0 = omega (arith, le) in
              let within : k.0 - start < end - start = omega (arith, le, less) in (
                k.0 - start,
                subst (λ n. k.0 - start < n) (sym (length-between owned start end bound)) within,
                get_or-between owned start end (k.0 - start) v (omega (arith, le, less)) ∙ ap (λ n. get_or owned n v) back ∙ k.2,
              )
          | inr ge ↦ absurd (not_behind v k.0 ge k.1 k.2 e)
        ]
      ]

  pub part_holds : HoldsThose (refers_to_claim c) volumes part
  part_holds v = (in_part v, λ h. to_part v h.0 h.1)
