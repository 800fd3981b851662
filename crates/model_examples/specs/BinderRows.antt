-- Where the binder may write and where it may not: for each row cases that hold, and for each of its conditions one
-- that misses it alone. A choice of this project, as the rows are. The newest exchange stands first.
use Rattle.std.specs.Prelude.{ℕ, true, List, [], ◌∷◌, Option, Some, None, codes}
use Rattle.plain_data.specs.Pairs.{Pair}
use Rattle.kube_objects.specs.declared.key.Key.{Key}
use Rattle.kube_parts.specs.declared.parts.Kind.TheVariants as kinds
use Rattle.kube_parts.specs.declared.parts.Policy.TheVariants as policies
use Rattle.kube_parts.specs.declared.parts.Modes.{Modes}
use Rattle.kube_parts.specs.declared.parts.VolumePhase.TheVariants as volumes
use Rattle.kube_parts.specs.declared.parts.ClaimPhase.TheVariants as claims
use Rattle.kube_objects.specs.declared.objects.Amount.{Amount}
use Rattle.kube_objects.specs.declared.objects.Volume.{Volume as VolumeData}
use Rattle.kube_objects.specs.declared.objects.Claim.{Claim as ClaimData}
use Rattle.kube_objects.specs.declared.objects.Object.TheVariants.{Volume, Claim}
use Rattle.kube_objects.specs.Bindings.{bound_by_controller, bind_completed, yes}
use Rattle.call_types.specs.declared.request.NewStatus.TheVariants as statuses
use Rattle.call_types.specs.declared.request.SeatKind.TheVariants as seats
use Rattle.call_types.specs.declared.request.Request.{Request}
use Rattle.call_types.specs.declared.request.Request.TheVariants as requests
use Rattle.binder_model.specs.ObjectKeys.{claim_key, volume_key}
use Rattle.binder_model.specs.BindWrites.{taken_for, completed_with, write_reference, write_bound, write_completion, write_claim_status, write_available}
use Rattle.model_examples.specs.Samples.{
  Allows,
  Refuses,
  unheard,
  tells_volume,
  tells_claim,
  tells_both,
  once,
  amount,
  a,
  c,
  other_c,
  in_phase,
  with_reference,
  naming,
  key_a,
  key_c,
  name_c,
  ref_c,
  other_ref_c,
  taken_a,
  bound_a,
  released_a,
  completed_c,
  bound_for_other,
  prebound_a,
  unguarded_a,
}

-- ClaimRef: the first write of a binding

abbrev pub failed_a : VolumeData
failed_a = in_phase volumes.Failed a

-- prebound to another claim; and taken for a claim of the name with another UID
abbrev pub prebound_to_d : VolumeData
prebound_to_d = with_reference (Some (record name_c { name = codes "d" })) a

abbrev pub taken_by_other : VolumeData
taken_by_other = with_reference (Some other_ref_c) taken_a

abbrev pub prebound_in_x : VolumeData
prebound_in_x = with_reference (Some (record name_c { namespace = codes "x" })) a

-- the first write that changes the policy too; and that does not mark the reference as the controller's
abbrev pub taken_and_changed : VolumeData
taken_and_changed = record taken_a { meta = record taken_a.meta { version = 3 }; policy = policies.Delete }

abbrev pub taken_unmarked : VolumeData
taken_unmarked = with_reference (Some ref_c) a

pub record ClaimRefExamples : Type 0 where
  pub takes_free_volume : Allows seats.Binder (tells_both c a) (write_reference a c)
  pub takes_prebound_volume : Allows seats.Binder (tells_both c prebound_a) (write_reference prebound_a c)
  pub takes_ended_volume_is_refused : Refuses seats.Binder (tells_both c failed_a) (write_reference failed_a c)
  pub takes_volume_prebound_to_other_is_refused : Refuses seats.Binder (tells_both c prebound_to_d) (write_reference prebound_to_d c)
  pub takes_volume_prebound_in_other_namespace_is_refused : Refuses seats.Binder (tells_both c prebound_in_x) (write_reference prebound_in_x c)
  pub takes_over_another_uid_is_refused : Refuses seats.Binder (tells_both c taken_by_other) (write_reference taken_by_other c)
  pub takes_for_claim_never_told_is_refused : Refuses seats.Binder (tells_volume a ∷ []) (write_reference a c)
  pub takes_for_claim_in_lost_answer_is_refused : Refuses seats.Binder (unheard (tells_claim c) ∷ tells_volume a ∷ []) (write_reference a c)
  pub takes_volume_in_lost_answer_is_refused : Refuses seats.Binder (tells_claim c ∷ unheard (tells_volume a) ∷ []) (write_reference a c)
  pub takes_and_changes_policy_is_refused : Refuses seats.Binder (tells_both c a) (requests.Update (Volume taken_and_changed) (Some 3))
  pub takes_without_mark_is_refused : Refuses seats.Binder (tells_both c a) (requests.Update (Volume taken_unmarked) (Some 3))
  pub takes_at_other_version_is_refused : Refuses seats.Binder (tells_both c a) (requests.Update (Volume (taken_for a c)) (Some 2))
  pub takes_without_version_is_refused : Refuses seats.Binder (tells_both c a) (requests.Update (Volume (taken_for a c)) None)

-- PhaseBound: the second write

abbrev pub bind_at : Key → Option ℕ → Request
bind_at key given = requests.UpdateStatus key (statuses.Volume volumes.Bound) given

pub record PhaseBoundExamples : Type 0 where
  pub binds_for_unbound_claim : Allows seats.Binder (tells_both c taken_a) (write_bound taken_a)
  pub binds_for_claim_that_names_it : Allows seats.Binder (tells_both (naming (codes "a") c) taken_a) (write_bound taken_a)
  pub binds_released_volume_is_refused : Refuses seats.Binder (tells_both c released_a) (write_bound released_a)
  pub binds_unprotected_volume_is_refused : Refuses seats.Binder (tells_both c unguarded_a) (write_bound unguarded_a)
  pub binds_without_uid_is_refused : Refuses seats.Binder (tells_both c prebound_a) (write_bound prebound_a)
  pub binds_for_claim_of_other_uid_is_refused : Refuses seats.Binder (tells_both other_c taken_a) (write_bound taken_a)
  pub binds_for_claim_elsewhere_is_refused : Refuses seats.Binder (tells_both (naming (codes "b") c) taken_a) (write_bound taken_a)
  pub binds_for_claim_never_told_is_refused : Refuses seats.Binder (tells_volume taken_a ∷ []) (write_bound taken_a)
  pub binds_at_other_version_is_refused : Refuses seats.Binder (tells_both c taken_a) (bind_at key_a (Some 3))
  pub binds_without_version_is_refused : Refuses seats.Binder (tells_both c taken_a) (bind_at key_a None)
  pub binds_other_name_is_refused : Refuses seats.Binder (tells_both c taken_a) (bind_at (volume_key (codes "b")) (Some 4))
  pub binds_other_namespace_is_refused : Refuses seats.Binder (tells_both c taken_a) (bind_at (record key_a { namespace = codes "x" }) (Some 4))
  pub binds_key_of_other_kind_is_refused : Refuses seats.Binder (tells_both c taken_a) (bind_at (record key_a { kind = kinds.PersistentVolumeClaim }) (Some 4))

-- Completion: the third write

-- Bound for a claim with the UID, of another name and of another namespace
abbrev pub bound_for_d : VolumeData
bound_for_d = with_reference (Some (record ref_c { name = codes "d" })) bound_a

abbrev pub bound_in_x : VolumeData
bound_in_x = with_reference (Some (record ref_c { namespace = codes "x" })) bound_a

-- Bound for a claim of the name without a UID
abbrev pub bound_by_name : VolumeData
bound_by_name = with_reference (Some name_c) bound_a

abbrev pub completed_marks : List Pair
completed_marks = (bind_completed, yes) ∷ (bound_by_controller, yes) ∷ []

abbrev pub completed_elsewhere : ClaimData
completed_elsewhere = naming (codes "b") (completed_with c bound_a)

pub record CompletionExamples : Type 0 where
  pub completes_claim_without_volume : Allows seats.Binder (tells_both c bound_a) (write_completion bound_a c)
  pub completes_claim_that_names_the_volume : Allows seats.Binder (tells_both (naming (codes "a") c) bound_a) (write_completion bound_a (naming (codes "a") c))
  pub completes_by_older_telling : Allows seats.Binder (tells_volume released_a ∷ tells_both c bound_a) (write_completion bound_a c)
  pub completes_before_told_bound_is_refused : Refuses seats.Binder (tells_both c taken_a) (write_completion taken_a c)
  pub completes_with_volume_of_other_uid_is_refused : Refuses seats.Binder (tells_both c bound_for_other) (write_completion bound_for_other c)
  pub completes_with_volume_of_other_name_is_refused : Refuses seats.Binder (tells_both c bound_for_d) (write_completion bound_for_d c)
  pub completes_with_volume_of_other_namespace_is_refused : Refuses seats.Binder (tells_both c bound_in_x) (write_completion bound_in_x c)
  pub completes_with_volume_without_uid_is_refused : Refuses seats.Binder (tells_both c bound_by_name) (write_completion bound_by_name c)
  pub completes_claim_that_names_other_is_refused : Refuses seats.Binder (tells_both (naming (codes "b") c) bound_a) (write_completion bound_a (naming (codes "b") c))
  pub completes_with_volume_never_told_is_refused : Refuses seats.Binder (tells_claim c ∷ []) (write_completion bound_a c)
  pub completes_under_other_name_is_refused : Refuses seats.Binder (tells_both c bound_a) (requests.Update (Claim completed_elsewhere) (Some 2))
  pub names_without_completing_is_refused : Refuses seats.Binder (tells_both c bound_a) (requests.Update (Claim (naming (codes "a") c)) (Some 2))
  pub completes_at_other_version_is_refused : Refuses seats.Binder (tells_both c bound_a) (requests.Update (Claim (completed_with c bound_a)) (Some 1))
  pub completes_without_version_is_refused : Refuses seats.Binder (tells_both c bound_a) (requests.Update (Claim (completed_with c bound_a)) None)

-- ClaimStatus: the fourth write

abbrev pub show_at : Key → Modes → Option Amount → Option ℕ → Request
show_at key modes got given = requests.UpdateStatus key (statuses.Claim claims.Bound modes got) given

-- another volume that is Bound and carries the claim
abbrev pub bound_b : VolumeData
bound_b = let old = bound_a in record old { meta = record old.meta { name = codes "b" } }

pub record ClaimStatusExamples : Type 0 where
  pub shows_modes_and_amount : Allows seats.Binder (tells_both completed_c bound_a) (write_claim_status bound_a completed_c)
  pub shows_before_completion_is_refused : Refuses seats.Binder (tells_both (naming (codes "a") c) bound_a) (write_claim_status bound_a (naming (codes "a") c))
  pub shows_other_volume_is_refused : Refuses seats.Binder (tells_both completed_c bound_b) (write_claim_status bound_b completed_c)
  pub shows_before_told_bound_is_refused : Refuses seats.Binder (tells_both completed_c taken_a) (write_claim_status taken_a completed_c)
  pub shows_volume_of_other_uid_is_refused : Refuses seats.Binder (tells_both completed_c bound_for_other) (write_claim_status bound_for_other completed_c)
  pub shows_volume_never_told_is_refused : Refuses seats.Binder (tells_claim completed_c ∷ []) (write_claim_status bound_a completed_c)
  pub shows_other_modes_is_refused : Refuses seats.Binder (tells_both completed_c bound_a) (show_at key_c (record once { rox = true }) (Some (amount 5)) (Some 6))
  pub shows_other_amount_is_refused : Refuses seats.Binder (tells_both completed_c bound_a) (show_at key_c once (Some (amount 3)) (Some 6))
  pub shows_no_amount_is_refused : Refuses seats.Binder (tells_both completed_c bound_a) (show_at key_c once None (Some 6))
  pub shows_at_other_version_is_refused : Refuses seats.Binder (tells_both completed_c bound_a) (show_at key_c once (Some (amount 5)) (Some 2))
  pub shows_without_version_is_refused : Refuses seats.Binder (tells_both completed_c bound_a) (show_at key_c once (Some (amount 5)) None)
  pub shows_on_other_name_is_refused : Refuses seats.Binder (tells_both completed_c bound_a) (show_at (claim_key (codes "default") (codes "d")) once (Some (amount 5)) (Some 6))
  pub shows_in_other_namespace_is_refused : Refuses seats.Binder (tells_both completed_c bound_a) (show_at (claim_key (codes "x") (codes "c")) once (Some (amount 5)) (Some 6))
  pub shows_on_key_of_other_kind_is_refused : Refuses seats.Binder (tells_both completed_c bound_a) (show_at (record key_c { kind = kinds.Pod }) once (Some (amount 5)) (Some 6))

-- Available

pub record AvailableExamples : Type 0 where
  pub frees_volume_without_reference : Allows seats.Binder (tells_volume a ∷ []) (write_available a)
  pub frees_prebound_volume : Allows seats.Binder (tells_volume prebound_a ∷ []) (write_available prebound_a)
  pub frees_taken_volume_is_refused : Refuses seats.Binder (tells_volume taken_a ∷ []) (write_available taken_a)
  pub frees_volume_never_told_is_refused : Refuses seats.Binder [] (write_available a)
