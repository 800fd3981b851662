-- The binder's rows, computed.
use Rattle.std.proofs.Common.{sym, refl, inl, inr, true≢false, ◌∙◌}
use Rattle.std.specs.Prelude.{ℕ, ◌==◌, Bool, true, false, not, List, [], ◌∷◌, Option, Some, None, is_none, is_some, codes, bytes_eq}
use Rattle.kube_parts.specs.declared.parts.Modes.{Modes}
use Rattle.kube_objects.specs.declared.key.Key.{Key}
use Rattle.kube_objects.specs.declared.objects.Amount.{Amount}
use Rattle.kube_objects.specs.declared.objects.Volume.{Volume as VolumeData}
use Rattle.kube_objects.specs.declared.objects.Claim.{Claim as ClaimData}
use Rattle.kube_objects.specs.Keys.{kind_index}
use Rattle.kube_objects.specs.Bindings.{is_delete, is_empty, has_key, bound_by_controller, is_uid}
use Rattle.call_types.specs.declared.entry.Entry.{Entry}
use Rattle.call_types.specs.declared.request.SeatKind.TheVariants as seats
use Rattle.binder_model.specs.At.{IsWrittenAt}
use Rattle.binder_model.specs.ObjectKeys.{volume_key, claim_key}
use Rattle.binder_model.specs.BindWrites.{taken_for, completed_with}
use Rattle.binder_model.specs.Told.{SomeOf}
use Rattle.binder_model.specs.BinderLicence.{MayTake, IsTaken, MayBind, IsHere, MayComplete, IsBoundFor, MayAssignClass, MayShow, IsShown, MayFree}
use Rattle.binder_model.specs.Licence.{AtVolume, AtClaim, AtVolumeKey, AtClaimKey}
use Rattle.model_examples.specs.Samples.{
  Exchange,
  seat_of,
  unheard,
  tells_volume,
  tells_claim,
  tells_both,
  once,
  amount,
  a,
  c,
  other_c,
  naming,
  key_a,
  key_c,
  uid_c,
  taken_a,
  bound_a,
  released_a,
  completed_c,
  prebound_a,
  unguarded_a,
  bound_for_other,
}
use Rattle.model_examples.specs.BinderRows.{
  prebound_in_x,
  bound_for_d,
  bound_in_x,
  ClaimRefExamples,
  failed_a,
  prebound_to_d,
  taken_by_other,
  taken_and_changed,
  taken_unmarked,
  PhaseBoundExamples,
  CompletionExamples,
  bound_by_name,
  completed_elsewhere,
  ClaimStatusExamples,
  bound_b,
  AvailableExamples,
}
use Rattle.model_examples.proofs.Tellings.{
  differ,
  neither,
  sole,
  own_kind,
  told_volumes,
  told_claims,
  volume_row,
  claim_row,
  volume_status_row,
  claim_status_row,
  volumes_in,
  claims_in,
  told_objects,
  is_version,
}

abbrev mine : List Exchange → List Entry
mine xs = seat_of seats.Binder xs

abbrev unmarked : VolumeData → Bool
unmarked v = not (has_key bound_by_controller v.meta.annotations)

-- ClaimRef

take_at : (xs : List Exchange) (new : VolumeData) (given : Option ℕ) → AtVolume (mine xs) new given (λ o. MayTake (mine xs) o new)
    → SomeOf (λ o. IsWrittenAt given new.meta.namespace new.meta.name o.meta × MayTake (mine xs) o new) (volumes_in (told_objects (mine xs)))
take_at xs new given h = volume_row (λ o. MayTake (mine xs) o new) (mine xs) new given h

taken : (xs : List Exchange) (o new : VolumeData) → MayTake (mine xs) o new → SomeOf (IsTaken o new) (claims_in (told_objects (mine xs)))
taken xs o new row = told_claims (IsTaken o new) (mine xs) row.told

take : (x : ClaimData) (v new : VolumeData) (given : Option ℕ) → AtVolume (mine (tells_both x v)) new given (λ o. MayTake (mine (tells_both x v)) o new)
    → IsWrittenAt given new.meta.namespace new.meta.name v.meta × MayTake (mine (tells_both x v)) v new × IsTaken v new x
take x v new given h = let row = sole (take_at (tells_both x v) new given h) in (row.0, row.1, sole (taken (tells_both x v) v new row.1))

pub claim_ref_examples : ClaimRefExamples
unfolding taken_for
claim_ref_examples = record {
  takes_free_volume = (own_kind seats.Binder (tells_both c a), inr (inl (refl, inl (record { version = refl; placed = refl; named = refl }, free))));
  takes_prebound_volume = (own_kind seats.Binder (tells_both c prebound_a), inr (inl (refl, inl (record { version = refl; placed = refl; named = refl }, prebound))));
  takes_ended_volume_is_refused = λ l. true≢false (take c failed_a (taken_for failed_a c) (Some 3) l.1).1.live;
  takes_volume_prebound_to_other_is_refused = λ l. true≢false (sym (take c prebound_to_d (taken_for prebound_to_d c) (Some 3) l.1).2.free.0);
  takes_volume_prebound_in_other_namespace_is_refused = λ l. true≢false (sym (take c prebound_in_x (taken_for prebound_in_x c) (Some 3) l.1).2.free.0);
  takes_over_another_uid_is_refused = λ l. differ is_some (take c taken_by_other (taken_for taken_by_other c) (Some 4) l.1).2.free.1 refl refl;
  takes_for_claim_never_told_is_refused = λ l. taken (tells_volume a ∷ []) a (taken_for a c) (sole (take_at (tells_volume a ∷ []) (taken_for a c) (Some 3) l.1)).1;
  takes_for_claim_in_lost_answer_is_refused =
      λ l. taken (unheard (tells_claim c) ∷ tells_volume a ∷ []) a (taken_for a c) (sole (take_at (unheard (tells_claim c) ∷ tells_volume a ∷ []) (taken_for a c) (Some 3) l.1)).1;
  takes_volume_in_lost_answer_is_refused = λ l. take_at (tells_claim c ∷ unheard (tells_volume a) ∷ []) (taken_for a c) (Some 3) l.1;
  takes_and_changes_policy_is_refused = λ l. differ (λ v. is_delete v.policy) (take c a taken_and_changed (Some 3) l.1).2.change refl refl;
  takes_without_mark_is_refused = λ l. differ unmarked (take c a taken_unmarked (Some 3) l.1).2.change refl refl;
  takes_at_other_version_is_refused = λ l. differ (is_version 2) (take c a (taken_for a c) (Some 2) l.1).0.version refl refl;
  takes_without_version_is_refused = λ l. differ is_none (take c a (taken_for a c) None l.1).0.version refl refl;
}
  where
    free : MayTake (mine (tells_both c a)) a (taken_for a c)
    free = record { live = refl; told = inl (refl, inl (record { known = refl; free = tt; change = refl })) }

    prebound : MayTake (mine (tells_both c prebound_a)) prebound_a (taken_for prebound_a c)
    prebound = record { live = refl; told = inl (refl, inl (record { known = refl; free = (refl, refl); change = refl })) }

-- PhaseBound

abbrev BindAt : List Exchange → Key → Option ℕ → Type 0
BindAt xs key given = AtVolumeKey (mine xs) key given (λ o. MayBind (mine xs) o)

bind_at : (xs : List Exchange) (key : Key) (given : Option ℕ) → BindAt xs key given
    → SomeOf (λ o. IsWrittenAt given key.namespace key.name o.meta × MayBind (mine xs) o) (volumes_in (told_objects (mine xs)))
bind_at xs key given h = volume_status_row (λ o. MayBind (mine xs) o) (mine xs) key given h

here : (xs : List Exchange) (o : VolumeData) (row : MayBind (mine xs) o) → SomeOf (IsHere o.meta.name row.uid) (claims_in (told_objects (mine xs)))
here xs o row = told_claims (IsHere o.meta.name row.uid) (mine xs) row.told

pub record Binds (x : ClaimData) (v : VolumeData) (key : Key) (given : Option ℕ) : Type 0 where
  pub written : IsWrittenAt given key.namespace key.name v.meta
  pub row : MayBind (mine (tells_both x v)) v
  pub claim : IsHere v.meta.name row.uid x

bind : (x : ClaimData) (v : VolumeData) (key : Key) (given : Option ℕ) → BindAt (tells_both x v) key given → Binds x v key given
bind x v key given h = let found = sole (bind_at (tells_both x v) key given h) in record { written = found.0; row = found.1; claim = sole (here (tells_both x v) v found.1) }

pub phase_bound_examples : PhaseBoundExamples
phase_bound_examples = record {
  binds_for_unbound_claim = (own_kind seats.Binder (tells_both c taken_a), (refl, inr (inl (refl, inl (record { version = refl; placed = refl; named = refl }, unbound)))));
  binds_for_claim_that_names_it = (own_kind seats.Binder (tells_both (naming (codes "a") c) taken_a), (refl, inr (inl (refl, inl (record { version = refl; placed = refl; named = refl }, named)))));
  binds_released_volume_is_refused = λ l. true≢false (bind c released_a key_a (Some 8) l.1).row.live;
  binds_unprotected_volume_is_refused = λ l. true≢false (sym (bind c unguarded_a key_a (Some 4) l.1).row.guarded);
  binds_without_uid_is_refused = λ l. differ is_none (bind c prebound_a key_a (Some 3) l.1).row.refers refl refl;
  binds_for_claim_of_other_uid_is_refused = λ l. other_uid (bind other_c taken_a key_a (Some 4) l.1);
  binds_for_claim_elsewhere_is_refused = λ l. neither (λ e. differ (λ n. not (is_empty n)) e refl refl) (λ e. differ (λ n. bytes_eq n (codes "b")) e
      refl refl) (bind (naming (codes "b") c) taken_a key_a (Some 4) l.1).claim.names;
  binds_for_claim_never_told_is_refused = λ l. here (tells_volume taken_a ∷ []) taken_a (sole (bind_at (tells_volume taken_a ∷ []) key_a (Some 4) l.1)).1;
  binds_at_other_version_is_refused = λ l. differ (is_version 3) (bind c taken_a key_a (Some 3) l.1).written.version refl refl;
  binds_without_version_is_refused = λ l. differ is_none (bind c taken_a key_a None l.1).written.version refl refl;
  binds_other_name_is_refused = λ l. differ (λ n. bytes_eq n (codes "a")) (bind c taken_a (volume_key (codes "b")) (Some 4) l.1).written.named refl refl;
  binds_other_namespace_is_refused = λ l. differ is_empty (bind c taken_a (record key_a { namespace = codes "x" }) (Some 4) l.1).written.placed refl refl;
  binds_key_of_other_kind_is_refused = λ l. differ (λ k. kind_index k == 3) l.1.0 refl refl;
}
  where
    unbound : MayBind (mine (tells_both c taken_a)) taken_a
    unbound = record { live = refl; guarded = refl; uid = uid_c; refers = refl; told = inl (refl, inl (record { claim = refl; names = inl refl })) }

    named : MayBind (mine (tells_both (naming (codes "a") c) taken_a)) taken_a
    named = record { live = refl; guarded = refl; uid = uid_c; refers = refl; told = inl (refl, inl (record { claim = refl; names = inr refl })) }

    other_uid : Binds other_c taken_a key_a (Some 4) → ⊥
    other_uid b = differ (λ u. is_uid u uid_c) (b.row.refers ∙ sym b.claim.claim) refl refl

-- Completion

complete_at : (xs : List Exchange) (new : ClaimData) (given : Option ℕ) → AtClaim (mine xs) new given (λ o. MayComplete (mine xs) o new)
    → SomeOf (λ o. IsWrittenAt given new.meta.namespace new.meta.name o.meta × MayComplete (mine xs) o new) (claims_in (told_objects (mine xs)))
complete_at xs new given h = claim_row (λ o. MayComplete (mine xs) o new) (mine xs) new given h

complete : (x : ClaimData) (v : VolumeData) (new : ClaimData) (given : Option ℕ) → AtClaim (mine (tells_both x v)) new given (λ o. MayComplete (mine (tells_both x v)) o new)
    → IsWrittenAt given new.meta.namespace new.meta.name x.meta × IsBoundFor x new v
complete x v new given h = let found = sole (complete_at (tells_both x v) new given h) in (found.0, sole (told_volumes (IsBoundFor x new) (mine (tells_both x v)) found.1))

pub completion_examples : CompletionExamples
unfolding completed_with
completion_examples = record {
  completes_claim_without_volume = (own_kind seats.Binder (tells_both c bound_a), inl (refl, inl (record { version = refl; placed = refl; named = refl }, unnamed)));
  completes_claim_that_names_the_volume = (own_kind seats.Binder (tells_both (naming (codes "a") c) bound_a), inl (refl, inl (record { version = refl; placed = refl; named = refl }, named)));
  completes_by_older_telling = (own_kind seats.Binder (tells_volume released_a ∷ tells_both c bound_a), inr (inl (refl, inl (record { version = refl; placed = refl; named = refl }, older))));
  completes_before_told_bound_is_refused = λ l. true≢false (sym (complete c taken_a (completed_with c taken_a) (Some 2) l.1).1.bound);
  completes_with_volume_of_other_uid_is_refused = λ l. true≢false (sym (complete c bound_for_other (completed_with c bound_for_other) (Some 2) l.1).1.carries);
  completes_with_volume_of_other_name_is_refused = λ l. true≢false (sym (complete c bound_for_d (completed_with c bound_for_d) (Some 2) l.1).1.carries);
  completes_with_volume_of_other_namespace_is_refused = λ l. true≢false (sym (complete c bound_in_x (completed_with c bound_in_x) (Some 2) l.1).1.carries);
  completes_with_volume_without_uid_is_refused = λ l. true≢false (sym (complete c bound_by_name (completed_with c bound_by_name) (Some 2) l.1).1.carries);
  completes_claim_that_names_other_is_refused =
      λ l. neither (λ e. differ (λ n. not (is_empty n)) e refl refl) (λ e. differ (λ n. bytes_eq n (codes "b")) e refl refl)
      (complete (naming (codes "b") c) bound_a (completed_with (naming (codes "b") c) bound_a) (Some 2) l.1).1.names;
  completes_with_volume_never_told_is_refused =
      λ l. told_volumes (IsBoundFor c (completed_with c bound_a)) (mine (tells_claim c ∷ [])) (sole (complete_at (tells_claim c ∷ []) (completed_with c bound_a) (Some 2) l.1)).1;
  completes_under_other_name_is_refused = λ l. differ (λ x. bytes_eq x.volume_name (codes "b")) (complete c bound_a completed_elsewhere (Some 2) l.1).1.change refl refl;
  names_without_completing_is_refused = λ l. true≢false (sym
      (sole (claim_row (λ o. MayAssignClass (mine (tells_both c bound_a)) o (naming (codes "a") c)) (mine (tells_both c bound_a)) (naming (codes "a") c) (Some 2) l.1)).1.classless);
  completes_at_other_version_is_refused = λ l. differ (is_version 1) (complete c bound_a (completed_with c bound_a) (Some 1) l.1).0.version refl refl;
  completes_without_version_is_refused = λ l. differ is_none (complete c bound_a (completed_with c bound_a) None l.1).0.version refl refl;
}
  where
    unnamed : MayComplete (mine (tells_both c bound_a)) c (completed_with c bound_a)
    unnamed = inr (inl (refl, inl (record { bound = refl; carries = refl; names = inl refl; change = refl })))

    named : MayComplete (mine (tells_both (naming (codes "a") c) bound_a)) (naming (codes "a") c) (completed_with (naming (codes "a") c) bound_a)
    named = inr (inl (refl, inl (record { bound = refl; carries = refl; names = inr refl; change = refl })))

    older : MayComplete (mine (tells_volume released_a ∷ tells_both c bound_a)) c (completed_with c bound_a)
    older = inr (inr (inl (refl, inl (record { bound = refl; carries = refl; names = inl refl; change = refl }))))

-- ClaimStatus

abbrev ShowAt : List Exchange → Key → Modes → Option Amount → Option ℕ → Type 0
ShowAt xs key modes got given = AtClaimKey (mine xs) key given (λ o. MayShow (mine xs) o modes got)

show_at : (xs : List Exchange) (key : Key) (modes : Modes) (got : Option Amount) (given : Option ℕ) → ShowAt xs key modes got given
    → SomeOf (λ o. IsWrittenAt given key.namespace key.name o.meta × MayShow (mine xs) o modes got) (claims_in (told_objects (mine xs)))
show_at xs key modes got given h = claim_status_row (λ o. MayShow (mine xs) o modes got) (mine xs) key given h

show : (x : ClaimData) (v : VolumeData) (key : Key) (modes : Modes) (got : Option Amount) (given : Option ℕ) → ShowAt (tells_both x v) key modes got given
    → IsWrittenAt given key.namespace key.name x.meta × MayShow (mine (tells_both x v)) x modes got × IsShown x modes got v
show x v key modes got given h = let found = sole (show_at (tells_both x v) key modes got given h) in (found.0, found.1, sole (told_volumes (IsShown x modes got) (mine (tells_both x v)) found.1.told))

pub claim_status_examples : ClaimStatusExamples
claim_status_examples = record {
  shows_modes_and_amount = (own_kind seats.Binder (tells_both completed_c bound_a), (refl, inl (refl, inl (record { version = refl; placed = refl; named = refl }, row))));
  shows_before_completion_is_refused = λ l. true≢false (sym (show (naming (codes "a") c) bound_a key_c once (Some (amount 5)) (Some 2) l.1).1.completed);
  shows_other_volume_is_refused = λ l. differ (λ n. bytes_eq n (codes "b")) (show completed_c bound_b key_c once (Some (amount 5)) (Some 6) l.1).2.named refl refl;
  shows_before_told_bound_is_refused = λ l. true≢false (sym (show completed_c taken_a key_c once (Some (amount 5)) (Some 6) l.1).2.bound);
  shows_volume_of_other_uid_is_refused = λ l. true≢false (sym (show completed_c bound_for_other key_c once (Some (amount 5)) (Some 6) l.1).2.carries);
  shows_volume_never_told_is_refused = λ l. told_volumes (IsShown completed_c once (Some (amount 5))) (mine (tells_claim completed_c ∷ [])) (sole
      (show_at (tells_claim completed_c ∷ []) key_c once (Some (amount 5)) (Some 6) l.1)).1.told;
  shows_other_modes_is_refused = λ l. differ (λ m. m.rox) (show completed_c bound_a key_c (record once { rox = true }) (Some (amount 5)) (Some 6) l.1).2.same_modes refl refl;
  shows_other_amount_is_refused = λ l. differ (λ x. is_three x) (show completed_c bound_a key_c once (Some (amount 3)) (Some 6) l.1).2.same_amount refl refl;
  shows_no_amount_is_refused = λ l. differ is_none (show completed_c bound_a key_c once None (Some 6) l.1).2.same_amount refl refl;
  shows_at_other_version_is_refused = λ l. differ (is_version 2) (show completed_c bound_a key_c once (Some (amount 5)) (Some 2) l.1).0.version refl refl;
  shows_without_version_is_refused = λ l. differ is_none (show completed_c bound_a key_c once (Some (amount 5)) None l.1).0.version refl refl;
  shows_on_other_name_is_refused = λ l. differ (λ n. bytes_eq n (codes "c")) (show completed_c bound_a (claim_key (codes "default") (codes "d")) once (Some (amount 5)) (Some 6) l.1).0.named refl refl;
  shows_in_other_namespace_is_refused = λ l. differ (λ n. bytes_eq n (codes "default")) (show completed_c bound_a (claim_key (codes "x") (codes "c"))
      once (Some (amount 5)) (Some 6) l.1).0.placed refl refl;
  shows_on_key_of_other_kind_is_refused = λ l. differ (λ k. kind_index k == 4) l.1.0 refl refl;
}
  where
    row : MayShow (mine (tells_both completed_c bound_a)) completed_c once (Some (amount 5))
    row = record { completed = refl; told = inr (inl (refl, inl (record { named = refl; bound = refl; carries = refl; same_modes = refl; same_amount = refl }))) }

    is_three : Option Amount → Bool
    is_three None = false
    is_three (Some x) = x.bytes == (amount 3).bytes

-- Available

free_at : (xs : List Exchange) (key : Key) (given : Option ℕ) → AtVolumeKey (mine xs) key given (λ o. MayFree o)
    → SomeOf (λ o. IsWrittenAt given key.namespace key.name o.meta × MayFree o) (volumes_in (told_objects (mine xs)))
free_at xs key given h = volume_status_row (λ o. MayFree o) (mine xs) key given h

pub available_examples : AvailableExamples
available_examples = record {
  frees_volume_without_reference = (own_kind seats.Binder (tells_volume a ∷ []), (refl, inl (refl, inl (record { version = refl; placed = refl; named = refl }, record { free = refl }))));
  frees_prebound_volume = (own_kind seats.Binder (tells_volume prebound_a ∷ []), (refl, inl (refl, inl (record { version = refl; placed = refl; named = refl }, record { free = refl }))));
  frees_taken_volume_is_refused = λ l. differ is_some (sole (free_at (tells_volume taken_a ∷ []) key_a (Some 4) l.1)).1.free refl refl;
  frees_volume_never_told_is_refused = λ l. free_at [] key_a (Some 3) l.1;
}
