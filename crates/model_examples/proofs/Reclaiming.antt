-- The reclaimer's rows, computed.
use Rattle.std.proofs.Common.{sym, refl, ap, subst, inl, inr, true≢false, ◌∙◌}
use Rattle.std.specs.Prelude.{ℕ, ◌≡◌, ◌==◌, true, false, List, [], ◌∷◌, Option, Some, None, is_none, codes, bytes_eq, unwrap_or}
use Rattle.kube_parts.specs.declared.parts.Kind.TheVariants as kinds
use Rattle.kube_parts.specs.declared.uid.Uid.{Uid}
use Rattle.kube_objects.specs.declared.objects.DataId.{DataId}
use Rattle.kube_objects.specs.declared.objects.Claim.{Claim as ClaimData}
use Rattle.kube_objects.specs.declared.objects.Volume.{Volume as VolumeData}
use Rattle.kube_objects.specs.declared.objects.Object.TheVariants.{Volume}
use Rattle.kube_objects.specs.Keys.{kind_index}
use Rattle.kube_parts.specs.Uids.{uid_of_serial}
use Rattle.kube_objects.specs.Sources.{data_id_of}
use Rattle.kube_objects.specs.Bindings.{selected_node, is_uid, has_key}
use Rattle.call_types.specs.declared.entry.Entry.{Entry}
use Rattle.call_types.specs.declared.request.SeatKind.TheVariants as seats
use Rattle.call_types.specs.declared.request.Request.TheVariants as requests
use Rattle.call_types.specs.declared.reply.Refusal.TheVariants as refusals
use Rattle.call_types.specs.declared.reply.Reply.TheVariants as replies
use Rattle.binder_model.specs.ObjectKeys.{node_key}
use Rattle.binder_model.specs.At.{IsWrittenAt}
use Rattle.binder_model.specs.Provisioning.{data_name}
use Rattle.binder_model.specs.Told.{SomeOf, ToldVolume, ToldClaim, After, IsNewestAbsent, last_found}
use Rattle.binder_model.specs.OpsLicence.{MayErase, IsToErase, MayFail, IsThisVolume, TellsEraseFailed, MayDelete, IsEndedOver, TellsErased, MayClearNode, IsThisClaim, TellsExhausted, IsUnserved}
use Rattle.binder_model.specs.Licence.{AtVolumeKey, AtClaim}
use Rattle.model_examples.specs.Samples.{
  Exchange,
  heard,
  amount,
  entry_of,
  seat_of,
  unheard,
  lists,
  tells_volume,
  tells_claim,
  tells_node,
  finds,
  c,
  key_a,
  uid_c,
  n1,
  chosen_c,
  volume_at,
  claim_at,
  with_uid,
  ended_a,
  id_a,
  still_bound_a,
  never_bound_a,
  deleting_a,
  failed_a,
}
use Rattle.model_examples.specs.Reclaiming.{
  EraseExamples,
  id_b,
  kept_a,
  FailedExamples,
  erases,
  faults,
  DeleteVolumeExamples,
  done,
  uid_a,
  elsewhere_a,
  ClearNodeExamples,
  exhausts,
  exhausted,
  cleared_c,
  completed_on_node,
  completed_cleared,
  chosen_without_uid,
  later_chosen_c,
}
use Rattle.model_examples.proofs.OpsRows.{names_apart}
use Rattle.model_examples.proofs.Tellings.{differ, neither, sole, own_kind, volume_status_row, claim_row, volumes_in, claims_in, told_volumes, told_claims, told_objects, is_version}

abbrev mine : List Exchange → List Entry
mine xs = seat_of seats.Ops xs

-- Erase

-- the volume that was found last is the row's
erase : (xs : List Exchange) (id : DataId) (v : VolumeData) → last_found id (mine xs) ≡ Some v → MayErase (mine xs) id → IsToErase v
erase xs id v found row = subst (λ o. IsToErase (unwrap_or o v)) (sym row.last ∙ found) row.ended

unfound : (xs : List Exchange) (id : DataId) → last_found id (mine xs) ≡ None → MayErase (mine xs) id → ⊥
unfound xs id none row = differ is_none (sym none ∙ row.last) refl refl

pub erase_examples : EraseExamples
erase_examples = record {
  erases_released = (
    own_kind seats.Ops (finds key_a (Volume ended_a) ∷ []),
    record { volume = ended_a; last = refl; ended = record { ended = refl; policy = refl; referring = refl; staying = refl } },
  );
  erases_failed = (
    own_kind seats.Ops (finds key_a (Volume failed_a) ∷ []),
    record { volume = failed_a; last = refl; ended = record { ended = refl; policy = refl; referring = refl; staying = refl } },
  );
  cached_volume_is_refused = λ l. unfound (tells_volume ended_a ∷ []) id_a refl l.1;
  answer_lost_is_refused = λ l. unfound (unheard (finds key_a (Volume ended_a)) ∷ []) id_a refl l.1;
  other_data_is_refused = λ l. unfound (finds key_a (Volume ended_a) ∷ []) id_b refl l.1;
  data_of_other_driver_is_refused = λ l. unfound (finds key_a (Volume ended_a) ∷ []) (record id_a { driver = codes "local" }) refl l.1;
  bound_volume_is_refused = λ l. true≢false (sym (erase (finds key_a (Volume still_bound_a) ∷ []) id_a still_bound_a refl l.1).ended);
  policy_retain_is_refused = λ l. true≢false (sym (erase (finds key_a (Volume kept_a) ∷ []) id_a kept_a refl l.1).policy);
  volume_without_uid_is_refused = λ l. true≢false (sym (erase (finds key_a (Volume never_bound_a) ∷ []) id_a never_bound_a refl l.1).referring);
  deleting_volume_is_refused = λ l. true≢false (erase (finds key_a (Volume deleting_a) ∷ []) id_a deleting_a refl l.1).staying;
  older_read_is_refused = λ l. true≢false (sym (erase (finds key_a (Volume still_bound_a) ∷ finds key_a (Volume ended_a) ∷ []) id_a still_bound_a refl l.1).ended);
}

-- Failed

fail_at : (xs : List Exchange) (given : Option ℕ) → AtVolumeKey (mine xs) key_a given (λ o. MayFail (mine xs) o)
    → SomeOf (λ o. IsWrittenAt given [] (codes "a") o.meta × MayFail (mine xs) o) (volumes_in (told_objects (mine xs)))
fail_at xs given h = volume_status_row (λ o. MayFail (mine xs) o) (mine xs) key_a given h

abbrev other_fault : Exchange
other_fault = erases id_b (replies.Refused (refusals.BackFault 1))

-- one exchange after the volume was found
abbrev after_found : Exchange → VolumeData → List Exchange
after_found x v = x ∷ finds key_a (Volume v) ∷ []

faulted : (x : Exchange) (v o : VolumeData) → After (ToldVolume (IsThisVolume o)) (TellsEraseFailed (data_id_of o.source)) (mine (after_found x v))
    → TellsEraseFailed (data_id_of o.source) (entry_of seats.Ops x)
faulted x v o (inl h) = h.0
faulted x v o (inr (inl h)) = absurd h.0.1
faulted x v o (inr (inr h)) = absurd h

pub failed_examples : FailedExamples
failed_examples = record {
  fails_after_fault = (
    own_kind seats.Ops (after_found faults ended_a),
    (refl, inr (inl (refl, inl (record { version = refl; placed = refl; named = refl }, record { ended = refl; failed = inl ((refl, refl), inl (refl, inl refl)) })))),
  );
  fails_again = (
    own_kind seats.Ops (after_found faults failed_a),
    (refl, inr (inl (refl, inl (record { version = refl; placed = refl; named = refl }, record { ended = refl; failed = inl ((refl, refl), inl (refl, inl refl)) })))),
  );
  bound_volume_is_refused = λ l. true≢false (sym (sole (fail_at (after_found faults still_bound_a) (Some 8) l.1)).1.ended);
  fails_before_erase_is_refused = λ l. unfaulted (sole (fail_at (finds key_a (Volume ended_a) ∷ []) (Some 8) l.1)).1;
  fault_before_told_is_refused = λ l. too_early (sole (fail_at (finds key_a (Volume ended_a) ∷ faults ∷ []) (Some 8) l.1)).1;
  fault_after_other_version_is_refused = λ l. neither (λ o. other_version o.1) (neither (λ o. differ (is_version 9) o.0.version refl refl) (λ h. h))
      (fail_at (tells_volume (volume_at 9 ended_a) ∷ after_found faults ended_a) (Some 9) l.1);
  fault_of_other_data_is_refused = λ l. other_data (sole (fail_at (after_found other_fault ended_a) (Some 8) l.1)).1;
  erased_is_refused = λ l. (faulted (erases id_a (replies.Erased true)) ended_a ended_a (sole (fail_at (after_found (erases id_a (replies.Erased true)) ended_a) (Some 8) l.1)).1.failed).1;
  answer_lost_is_refused = λ l. true≢false (sym (faulted (unheard faults) ended_a ended_a (sole (fail_at (after_found (unheard faults) ended_a) (Some 8) l.1)).1.failed).0);
  other_version_is_refused = λ l. differ (is_version 7) (sole (fail_at (after_found faults ended_a) (Some 7) l.1)).0.version refl refl;
}
  where
    unfaulted : MayFail (mine (finds key_a (Volume ended_a) ∷ [])) ended_a → ⊥
    unfaulted row = neither (λ h. h.0.1) (λ h. h) row.failed

    too_early : MayFail (mine (finds key_a (Volume ended_a) ∷ faults ∷ [])) ended_a → ⊥
    too_early row = neither (λ h. h.0.1) (neither (λ h. h.1) (λ h. h)) row.failed

    other_version : MayFail (mine (tells_volume (volume_at 9 ended_a) ∷ after_found faults ended_a)) (volume_at 9 ended_a) → ⊥
    other_version row = neither (λ h. h.0.1)
        (neither (λ h. differ (λ v. v.meta.version == 8)
        (sole (told_volumes (IsThisVolume (volume_at 9 ended_a)) (mine (finds key_a (Volume ended_a) ∷ [])) h.1)) refl refl) (neither (λ h. h.1) (λ h. h))) row.failed

    other_data : MayFail (mine (after_found other_fault ended_a)) ended_a → ⊥
    other_data row = differ (λ i. bytes_eq i.id (codes "other")) (faulted other_fault ended_a ended_a row.failed).1 refl refl

-- DeleteVolume

erased : (x : Exchange) (v : VolumeData) (uid : Uid) (row : MayDelete (mine (after_found x v)) uid)
    → After (ToldVolume (IsEndedOver uid row.id)) (TellsErased row.id) (mine (after_found x v)) → TellsErased row.id (entry_of seats.Ops x) × IsEndedOver uid row.id v
erased x v uid row (inl h) = (h.0, sole (told_volumes (IsEndedOver uid row.id) (mine (finds key_a (Volume v) ∷ [])) h.1))
erased x v uid row (inr (inl h)) = absurd h.0.1
erased x v uid row (inr (inr h)) = absurd h

pub delete_volume_examples : DeleteVolumeExamples
delete_volume_examples = record {
  deletes_after_erase = (own_kind seats.Ops (after_found done ended_a), (refl, by_read));
  deletes_what_had_no_data = (
    own_kind seats.Ops (erases id_a (replies.Erased false) ∷ tells_volume failed_a ∷ []),
    (refl, record { id = id_a; erased = inl ((refl, refl), inl (refl, inl (record { same = refl; ended = refl; policy = refl; over = refl }))) }),
  );
  deletes_by_uid_whatever_the_name = (own_kind seats.Ops (after_found done ended_a), (refl, by_read));
  no_uid_given_is_refused = λ l. l.1;
  key_of_other_kind_is_refused = λ l. differ (λ k. kind_index k == 3) l.1.0 refl refl;
  other_uid_is_refused = λ l. differ (λ u. is_uid u uid_a) (erased done ended_a (uid_of_serial 9) l.1.1 l.1.1.erased).1.same refl refl;
  bound_volume_is_refused = λ l. true≢false (sym (erased done still_bound_a uid_a l.1.1 l.1.1.erased).1.ended);
  policy_retain_is_refused = λ l. true≢false (sym (erased done kept_a uid_a l.1.1 l.1.1.erased).1.policy);
  other_data_erased_is_refused = λ l. other_data l.1.1;
  erased_before_told_is_refused = λ l. neither (λ h. h.0.1) (neither (λ h. h.1) (λ h. h)) l.1.1.erased;
  fault_is_refused = λ l. (erased faults ended_a uid_a l.1.1 l.1.1.erased).0.1;
  answer_lost_is_refused = λ l. true≢false (sym (erased (unheard done) ended_a uid_a l.1.1 l.1.1.erased).0.0);
  never_erased_is_refused = λ l. neither (λ h. h.0.1) (λ h. h) l.1.1.erased;
}
  where
    by_read : MayDelete (mine (after_found done ended_a)) uid_a
    by_read = record { id = id_a; erased = inl ((refl, refl), inl (refl, inl (record { same = refl; ended = refl; policy = refl; over = refl }))) }

    other_data : MayDelete (mine (after_found done elsewhere_a)) uid_a → ⊥
    other_data row = let e = erased done elsewhere_a uid_a row row.erased in differ (λ i. bytes_eq i.id (codes "s:/x")) (e.0.1 ∙ sym e.1.over) refl refl

-- SelectedNode, as it is cleared

clear_at : (xs : List Exchange) (new : ClaimData) (given : Option ℕ) → AtClaim (mine xs) new given (λ o. MayClearNode (mine xs) o new)
    → SomeOf (λ o. IsWrittenAt given new.meta.namespace new.meta.name o.meta × MayClearNode (mine xs) o new) (claims_in (told_objects (mine xs)))
clear_at xs new given h = claim_row (λ o. MayClearNode (mine xs) o new) (mine xs) new given h

abbrev other_exhausted : Exchange
other_exhausted = exhausts (data_name (uid_of_serial 9))

abbrev fault : Exchange
fault = heard (requests.Provision (data_name uid_c) (codes "x/y") (amount 3).bytes (Some [])) (replies.Refused (refusals.BackFault 1))

abbrev after_claim : Exchange → ClaimData → List Exchange
after_claim x o = x ∷ tells_claim o ∷ []

abbrev WasExhausted : List Exchange → ClaimData → Uid → Type 0
WasExhausted xs o uid = After (ToldClaim (IsThisClaim o)) (TellsExhausted (data_name uid)) (mine xs)

-- the node of the claim was not told to be absent, so Provision was exhausted
exhausts_of : (xs : List Exchange) (o new : ClaimData) (row : MayClearNode (mine xs) o new) → (IsNewestAbsent (mine xs) (node_key row.node) → ⊥) → WasExhausted xs o row.uid
exhausts_of xs o new row present = by row.why
  where
    by : IsUnserved (mine xs) o row.uid row.node → WasExhausted xs o row.uid
    by (inl h) = h
    by (inr h) = absurd (present h)

-- the exchange after the claim was told is the one that was exhausted
pub record Clears (x : Exchange) : Type 0 where
  pub row : MayClearNode (mine (after_claim x chosen_c)) chosen_c cleared_c
  pub told : TellsExhausted (data_name row.uid) (entry_of seats.Ops x)

clears_first : (x : Exchange) (row : MayClearNode (mine (after_claim x chosen_c)) chosen_c cleared_c) → WasExhausted (after_claim x chosen_c) chosen_c row.uid → Clears x
clears_first x row (inl h) = record { row = row; told = h.0 }
clears_first x row (inr (inl h)) = absurd h.0.1
clears_first x row (inr (inr h)) = absurd h

pub clear_node_examples : ClearNodeExamples
clear_node_examples = record {
  clears_exhausted = (own_kind seats.Ops (after_claim exhausted chosen_c), inr (inl (refl, inl (record { version = refl; placed = refl; named = refl }, by_exhausted))));
  clears_node_that_is_gone = (
    own_kind seats.Ops (tells_claim chosen_c ∷ lists kinds.Node [] 9 ∷ tells_node n1 ∷ []),
    inl
        (refl, inl (record { version = refl; placed = refl; named = refl }, by_absence)),
  );
  completed_claim_is_refused = λ l. true≢false (sole (clear_at (after_claim exhausted completed_on_node) completed_cleared (Some 2) l.1)).1.undone;
  claim_without_uid_is_refused = λ l. differ is_none (sole (clear_at (lists kinds.Node [] 9 ∷ tells_claim chosen_without_uid ∷ []) (with_uid None c) (Some 2) l.1)).1.known refl refl;
  no_node_chosen_is_refused = λ l. differ is_none (sole (clear_at (after_claim exhausted c) cleared_c (Some 2) l.1)).1.selected refl refl;
  never_tried_is_refused = λ l. never_tried (sole (clear_at (tells_claim chosen_c ∷ []) cleared_c (Some 2) l.1)).1;
  node_still_there_is_refused = λ l. still_there (sole (clear_at (tells_claim chosen_c ∷ tells_node n1 ∷ []) cleared_c (Some 2) l.1)).1;
  exhausted_before_told_is_refused = λ l. too_early (sole (clear_at (tells_claim chosen_c ∷ exhausted ∷ []) cleared_c (Some 2) l.1)).1;
  exhausted_after_other_version_is_refused =
      λ l. neither (λ o. other_version o.1) (neither (λ o. differ (is_version 5) o.0.version refl refl) (λ h. h))
      (clear_at (tells_claim later_chosen_c ∷ after_claim exhausted chosen_c) (claim_at 5 c) (Some 5) l.1);
  exhausted_for_other_claim_is_refused = λ l. other_claim (sole (clear_at (after_claim other_exhausted chosen_c) cleared_c (Some 2) l.1)).1;
  fault_is_refused = λ l. faulty (sole (clear_at (after_claim fault chosen_c) cleared_c (Some 2) l.1)).1;
  answer_lost_is_refused = λ l. unanswered (sole (clear_at (after_claim (unheard exhausted) chosen_c) cleared_c (Some 2) l.1)).1;
  keeps_node_is_refused = λ l. differ (λ x. has_key selected_node x.meta.annotations) (sole (clear_at (after_claim exhausted chosen_c) chosen_c (Some 2) l.1)).1.change refl refl;
  other_version_is_refused = λ l. differ (is_version 1) (sole (clear_at (after_claim exhausted chosen_c) cleared_c (Some 1) l.1)).0.version refl refl;
}
  where
    by_exhausted : MayClearNode (mine (after_claim exhausted chosen_c)) chosen_c cleared_c
    by_exhausted = record { undone = refl; uid = uid_c; known = refl; node = codes "n1"; selected = refl; why = inl (inl ((refl, refl), inl (refl, inl refl))); change = refl }

    by_absence : MayClearNode (mine (tells_claim chosen_c ∷ lists kinds.Node [] 9 ∷ tells_node n1 ∷ [])) chosen_c cleared_c
    by_absence = record { undone = refl; uid = uid_c; known = refl; node = codes "n1"; selected = refl; why = inr refl; change = refl }

    never_tried : MayClearNode (mine (tells_claim chosen_c ∷ [])) chosen_c cleared_c → ⊥
    never_tried row = neither (λ h. h.0.1) (λ h. h) (exhausts_of (tells_claim chosen_c ∷ []) chosen_c cleared_c row (λ h. h))

    still_there : MayClearNode (mine (tells_claim chosen_c ∷ tells_node n1 ∷ [])) chosen_c cleared_c → ⊥
    still_there row = neither (λ h. h.0.1) (neither (λ h. h.0.1) (λ h. h)) (exhausts_of (tells_claim chosen_c ∷ tells_node n1 ∷ []) chosen_c cleared_c row present)
      where
        present : IsNewestAbsent (mine (tells_claim chosen_c ∷ tells_node n1 ∷ [])) (node_key row.node) → ⊥
        present h = differ is_none (sym (subst (λ o. IsNewestAbsent (mine (tells_claim chosen_c ∷ tells_node n1 ∷ [])) (node_key (unwrap_or o []))) (sym row.selected) h)) refl refl

    too_early : MayClearNode (mine (tells_claim chosen_c ∷ exhausted ∷ [])) chosen_c cleared_c → ⊥
    too_early row = neither (λ h. h.0.1) (neither (λ h. h.1) (λ h. h)) (exhausts_of (tells_claim chosen_c ∷ exhausted ∷ []) chosen_c cleared_c row (λ h. h))

    other_version : MayClearNode (mine (tells_claim later_chosen_c ∷ after_claim exhausted chosen_c)) later_chosen_c (claim_at 5 c) → ⊥
    other_version row = neither (λ h. h.0.1)
        (neither (λ h. differ (λ x. x.meta.version == 2) (sole (told_claims (IsThisClaim later_chosen_c) (mine (tells_claim chosen_c ∷ [])) h.1)) refl refl) (neither (λ h. h.0.1) (λ h. h)))
        (exhausts_of (tells_claim later_chosen_c ∷ after_claim exhausted chosen_c) later_chosen_c (claim_at 5 c) row (λ h. h))

    other_claim : MayClearNode (mine (after_claim other_exhausted chosen_c)) chosen_c cleared_c → ⊥
    other_claim row =
        let k = clears_first other_exhausted row (exhausts_of (after_claim other_exhausted chosen_c) chosen_c cleared_c row (λ h. h)) in
        names_apart (k.told.1 ∙ ap (λ u. data_name (unwrap_or u uid_c)) (sym k.row.known))

    faulty : MayClearNode (mine (after_claim fault chosen_c)) chosen_c cleared_c → ⊥
    faulty row = (clears_first fault row (exhausts_of (after_claim fault chosen_c) chosen_c cleared_c row (λ h. h))).told.1

    unanswered : MayClearNode (mine (after_claim (unheard exhausted) chosen_c)) chosen_c cleared_c → ⊥
    unanswered row = true≢false (sym (clears_first (unheard exhausted) row (exhausts_of (after_claim (unheard exhausted) chosen_c) chosen_c cleared_c row (λ h. h))).told.0)
