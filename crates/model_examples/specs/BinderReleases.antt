-- Where the binder may release and unbind a volume, and lose a claim, and where it may not: for each row cases that
-- hold, and for each of its conditions one that misses it alone. A choice of this project, as the rows are.
-- The newest exchange stands first.
use Rattle.std.specs.Prelude.{ℕ, true, [], ◌∷◌, Option, Some, None, codes}
use Rattle.kube_parts.specs.declared.parts.Kind.TheVariants as kinds
use Rattle.kube_parts.specs.declared.parts.Policy.TheVariants as policies
use Rattle.kube_parts.specs.declared.parts.Modes.{Modes}
use Rattle.kube_parts.specs.declared.parts.VolumePhase.TheVariants as volumes
use Rattle.kube_parts.specs.declared.parts.ClaimPhase.TheVariants as claims
use Rattle.kube_objects.specs.declared.key.Key.{Key}
use Rattle.kube_objects.specs.declared.objects.Amount.{Amount}
use Rattle.kube_objects.specs.declared.objects.Volume.{Volume as VolumeData}
use Rattle.kube_objects.specs.declared.objects.Claim.{Claim as ClaimData}
use Rattle.kube_objects.specs.declared.objects.Object.TheVariants.{Volume, Claim}
use Rattle.kube_parts.specs.Uids.{uid_of_serial}
use Rattle.kube_objects.specs.Bindings.{bound_by_controller, provisioned_by, yes}
use Rattle.call_types.specs.declared.request.NewStatus.TheVariants as statuses
use Rattle.call_types.specs.declared.request.SeatKind.TheVariants as seats
use Rattle.call_types.specs.declared.request.Request.{Request}
use Rattle.call_types.specs.declared.request.Request.TheVariants as requests
use Rattle.binder_model.specs.BindWrites.{unbound_volume, write_unbound}
use Rattle.model_examples.specs.Samples.{
  Allows,
  Refuses,
  unheard,
  lists,
  tells_volume,
  tells_claim,
  tells_both,
  finds,
  finds_none,
  once,
  amount,
  a,
  c,
  d,
  other_c,
  in_phase,
  with_reference,
  with_uid,
  naming,
  key_a,
  key_c,
  name_c,
  ref_c,
  taken_a,
  bound_a,
  bound_c,
  bound_for_other,
  elsewhere_c,
  key_b,
  key_d,
  nameless_c,
}

-- Released

abbrev pub release_at : Key → Option ℕ → Request
release_at key given = requests.UpdateStatus key (statuses.Volume volumes.Released) given

abbrev pub release : Request
release = release_at key_a (Some 4)

abbrev pub prebound_a : VolumeData
prebound_a = with_reference (Some name_c) taken_a

abbrev pub failed_a : VolumeData
failed_a = in_phase volumes.Failed taken_a

-- another volume of the name, with the same reference
abbrev pub earlier_a : VolumeData
earlier_a = let old = taken_a in record old { meta = record old.meta { uid = Some (uid_of_serial 9); version = 2 } }

-- made by a provisioner, with policy Delete; and with one of the two alone
abbrev pub provisioned_a : VolumeData
provisioned_a = let old = taken_a in record old { meta = record old.meta { annotations = (bound_by_controller, yes) ∷ (provisioned_by, codes "x/y") ∷ [] } }

abbrev pub reclaimed_a : VolumeData
reclaimed_a = let old = provisioned_a in record old { policy = policies.Delete }

abbrev pub deleted_with_claim : VolumeData
deleted_with_claim = let old = taken_a in record old { policy = policies.Delete }

pub record ReleasedExamples : Type 0 where
  pub releases_after_reading_none : Allows seats.Binder (finds_none key_c ∷ tells_volume taken_a ∷ []) release
  pub releases_after_reading_other_uid : Allows seats.Binder (finds key_c (Claim other_c) ∷ tells_volume taken_a ∷ []) release
  pub releases_reclaimed_of_claim_elsewhere : Allows seats.Binder (tells_both elsewhere_c reclaimed_a) release
  pub releases_with_other_calls_since : Allows seats.Binder (tells_claim d ∷ finds_none key_c ∷ tells_volume taken_a ∷ []) release
  pub releases_ended_is_refused : Refuses seats.Binder (finds_none key_c ∷ tells_volume failed_a ∷ []) release
  pub releases_without_uid_is_refused : Refuses seats.Binder (finds_none key_c ∷ tells_volume prebound_a ∷ []) release
  pub releases_without_reference_is_refused : Refuses seats.Binder (finds_none key_c ∷ tells_volume a ∷ []) (release_at key_a (Some 3))
  pub read_before_told_is_refused : Refuses seats.Binder (tells_volume taken_a ∷ finds_none key_c ∷ []) release
  pub read_that_found_the_claim_is_refused : Refuses seats.Binder (finds key_c (Claim c) ∷ tells_volume taken_a ∷ []) release
  pub read_of_other_key_is_refused : Refuses seats.Binder (finds_none key_d ∷ tells_volume taken_a ∷ []) release
  pub read_without_answer_is_refused : Refuses seats.Binder (unheard (finds_none key_c) ∷ tells_volume taken_a ∷ []) release
  pub absence_in_a_list_is_refused : Refuses seats.Binder (lists kinds.PersistentVolumeClaim [] 9 ∷ tells_volume taken_a ∷ []) release
  pub read_before_told_with_uid_is_refused : Refuses seats.Binder (tells_volume taken_a ∷ finds_none key_c ∷ tells_volume a ∷ []) release
  pub read_after_other_volume_is_refused : Refuses seats.Binder (tells_volume taken_a ∷ finds_none key_c ∷ tells_volume earlier_a ∷ []) release
  pub elsewhere_without_provisioner_is_refused : Refuses seats.Binder (tells_both elsewhere_c deleted_with_claim) release
  pub elsewhere_with_policy_retain_is_refused : Refuses seats.Binder (tells_both elsewhere_c provisioned_a) release
  pub claim_without_volume_is_refused : Refuses seats.Binder (tells_both c reclaimed_a) release
  pub claim_of_this_volume_is_refused : Refuses seats.Binder (tells_both (naming (codes "a") c) reclaimed_a) release
  pub other_claim_elsewhere_is_refused : Refuses seats.Binder (tells_both (naming (codes "b") other_c) reclaimed_a) release
  pub no_claim_told_is_refused : Refuses seats.Binder (tells_volume reclaimed_a ∷ []) release
  pub other_version_is_refused : Refuses seats.Binder (finds_none key_c ∷ tells_volume taken_a ∷ []) (release_at key_a (Some 3))

-- Unbind

-- the user had named the claim; the controller added the UID alone
abbrev pub taken_prebound : VolumeData
taken_prebound = with_reference (Some ref_c) a

abbrev pub update_at : VolumeData → ℕ → Request
update_at v version = requests.Update (Volume v) (Some version)

pub record UnbindExamples : Type 0 where
  pub unbinds_controllers_reference : Allows seats.Binder (tells_both elsewhere_c taken_a) (write_unbound taken_a)
  pub unbinds_users_reference : Allows seats.Binder (tells_both elsewhere_c taken_prebound) (update_at (with_reference (Some name_c) taken_prebound) 3)
  pub unbinds_ended_is_refused : Refuses seats.Binder (tells_both elsewhere_c failed_a) (write_unbound failed_a)
  pub unbinds_without_uid_is_refused : Refuses seats.Binder (tells_both elsewhere_c prebound_a) (write_unbound prebound_a)
  pub unbinds_reclaimed_is_refused : Refuses seats.Binder (tells_both elsewhere_c reclaimed_a) (write_unbound reclaimed_a)
  pub unbinds_from_claim_without_volume_is_refused : Refuses seats.Binder (tells_both c taken_a) (write_unbound taken_a)
  pub unbinds_from_claim_of_this_volume_is_refused : Refuses seats.Binder (tells_both (naming (codes "a") c) taken_a) (write_unbound taken_a)
  pub unbinds_from_other_claim_is_refused : Refuses seats.Binder (tells_both (naming (codes "b") other_c) taken_a) (write_unbound taken_a)
  pub unbinds_from_claim_never_told_is_refused : Refuses seats.Binder (tells_volume taken_a ∷ []) (write_unbound taken_a)
  pub keeps_controllers_name_is_refused : Refuses seats.Binder (tells_both elsewhere_c taken_a) (update_at (with_reference (Some name_c) taken_a) 4)
  pub drops_users_name_is_refused : Refuses seats.Binder (tells_both elsewhere_c taken_prebound) (update_at (with_reference None taken_prebound) 3)
  pub unbinds_at_other_version_is_refused : Refuses seats.Binder (tells_both elsewhere_c taken_a) (update_at (unbound_volume taken_a) 3)

-- Lost

abbrev pub lose_at : Modes → Option Amount → ℕ → Request
lose_at modes got version = requests.UpdateStatus key_c (statuses.Claim claims.Lost modes got) (Some version)

abbrev pub lose : Request
lose = lose_at once (Some (amount 5)) 7

-- the claim shows a status and is not completed
abbrev pub uncompleted_c : ClaimData
uncompleted_c = let old = bound_c in record old { meta = record old.meta { annotations = [] } }

abbrev pub earlier_c : ClaimData
earlier_c = let old = with_uid (Some (uid_of_serial 9)) bound_c in record old { meta = record old.meta { version = 5 } }

pub record LostExamples : Type 0 where
  pub loses_claim_without_volume : Allows seats.Binder (tells_claim nameless_c ∷ []) lose
  pub loses_after_reading_none : Allows seats.Binder (finds_none key_a ∷ tells_claim bound_c ∷ []) lose
  pub loses_after_reading_other_uid : Allows seats.Binder (finds key_a (Volume bound_for_other) ∷ tells_claim bound_c ∷ []) lose
  pub loses_before_completion_is_refused : Refuses seats.Binder (tells_claim (naming [] uncompleted_c) ∷ []) lose
  pub loses_unread_is_refused : Refuses seats.Binder (tells_claim bound_c ∷ []) lose
  pub read_that_found_it_carrying_is_refused : Refuses seats.Binder (finds key_a (Volume bound_a) ∷ tells_claim bound_c ∷ []) lose
  pub read_that_found_it_free_is_refused : Refuses seats.Binder (finds key_a (Volume a) ∷ tells_claim bound_c ∷ []) lose
  pub read_before_told_is_refused : Refuses seats.Binder (tells_claim bound_c ∷ finds_none key_a ∷ []) lose
  pub read_before_told_completed_is_refused : Refuses seats.Binder (tells_claim bound_c ∷ finds_none key_a ∷ tells_claim uncompleted_c ∷ []) lose
  pub read_after_other_claim_is_refused : Refuses seats.Binder (tells_claim bound_c ∷ finds_none key_a ∷ tells_claim earlier_c ∷ []) lose
  pub read_of_other_key_is_refused : Refuses seats.Binder (finds_none key_b ∷ tells_claim bound_c ∷ []) lose
  pub read_without_answer_is_refused : Refuses seats.Binder (unheard (finds_none key_a) ∷ tells_claim bound_c ∷ []) lose
  pub absence_in_a_list_is_refused : Refuses seats.Binder (lists kinds.PersistentVolume [] 9 ∷ tells_claim bound_c ∷ []) lose
  pub other_modes_is_refused : Refuses seats.Binder (finds_none key_a ∷ tells_claim bound_c ∷ []) (lose_at (record once { rox = true }) (Some (amount 5)) 7)
  pub other_amount_is_refused : Refuses seats.Binder (finds_none key_a ∷ tells_claim bound_c ∷ []) (lose_at once None 7)
  pub other_version_is_refused : Refuses seats.Binder (finds_none key_a ∷ tells_claim bound_c ∷ []) (lose_at once (Some (amount 5)) 6)
