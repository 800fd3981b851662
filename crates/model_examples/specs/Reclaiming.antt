-- Where the reclaimer may erase data, write Failed, delete a volume and clear a node, and where it may not: for each
-- row cases that hold, and for each of its conditions one that misses it alone. A choice of this project, as the rows
-- are. The newest exchange stands first.
use Rattle.std.specs.Prelude.{ℕ, true, false, List, [], ◌∷◌, Some, None, codes}
use Rattle.kube_parts.specs.declared.parts.Kind.TheVariants as kinds
use Rattle.kube_parts.specs.declared.parts.VolumePhase.TheVariants as volumes
use Rattle.kube_parts.specs.declared.uid.Uid.{Uid}
use Rattle.kube_objects.specs.declared.objects.DataId.{DataId}
use Rattle.kube_objects.specs.declared.objects.Claim.{Claim as ClaimData}
use Rattle.kube_objects.specs.declared.objects.Volume.{Volume as VolumeData}
use Rattle.kube_objects.specs.declared.objects.Object.TheVariants.{Volume, Claim}
use Rattle.kube_parts.specs.Uids.{uid_of_serial}
use Rattle.kube_objects.specs.Bindings.{bind_completed, selected_node, yes}
use Rattle.call_types.specs.declared.request.NewStatus.TheVariants as statuses
use Rattle.call_types.specs.declared.request.SeatKind.TheVariants as seats
use Rattle.call_types.specs.declared.request.Request.{Request}
use Rattle.call_types.specs.declared.request.Request.TheVariants as requests
use Rattle.call_types.specs.declared.reply.Refusal.TheVariants as refusals
use Rattle.call_types.specs.declared.reply.Reply.{Reply}
use Rattle.call_types.specs.declared.reply.Reply.TheVariants as replies
use Rattle.binder_model.specs.ObjectKeys.{volume_key}
use Rattle.binder_model.specs.Provisioning.{data_name}
use Rattle.model_examples.specs.Samples.{
  Allows,
  Refuses,
  Exchange,
  heard,
  unheard,
  lists,
  tells_volume,
  tells_claim,
  tells_node,
  finds,
  amount,
  c,
  volume_at,
  claim_at,
  with_uid,
  key_a,
  key_c,
  uid_c,
  released_a,
  n1,
  chosen_c,
  ended_a,
  deleting_a,
  failed_a,
  id_a,
  never_bound_a,
  still_bound_a,
}

-- Erase

abbrev pub id_b : DataId
id_b = record { driver = codes "nfs"; id = codes "other" }

abbrev pub kept_a : VolumeData
kept_a = released_a

pub record EraseExamples : Type 0 where
  pub erases_released : Allows seats.Ops (finds key_a (Volume ended_a) ∷ []) (requests.Erase id_a)
  pub erases_failed : Allows seats.Ops (finds key_a (Volume failed_a) ∷ []) (requests.Erase id_a)
  pub cached_volume_is_refused : Refuses seats.Ops (tells_volume ended_a ∷ []) (requests.Erase id_a)
  pub answer_lost_is_refused : Refuses seats.Ops (unheard (finds key_a (Volume ended_a)) ∷ []) (requests.Erase id_a)
  pub other_data_is_refused : Refuses seats.Ops (finds key_a (Volume ended_a) ∷ []) (requests.Erase id_b)
  pub data_of_other_driver_is_refused : Refuses seats.Ops (finds key_a (Volume ended_a) ∷ []) (requests.Erase (record id_a { driver = codes "local" }))
  pub bound_volume_is_refused : Refuses seats.Ops (finds key_a (Volume still_bound_a) ∷ []) (requests.Erase id_a)
  pub policy_retain_is_refused : Refuses seats.Ops (finds key_a (Volume kept_a) ∷ []) (requests.Erase id_a)
  pub volume_without_uid_is_refused : Refuses seats.Ops (finds key_a (Volume never_bound_a) ∷ []) (requests.Erase id_a)
  pub deleting_volume_is_refused : Refuses seats.Ops (finds key_a (Volume deleting_a) ∷ []) (requests.Erase id_a)
  pub older_read_is_refused : Refuses seats.Ops (finds key_a (Volume still_bound_a) ∷ finds key_a (Volume ended_a) ∷ []) (requests.Erase id_a)

-- Failed

abbrev pub erases : DataId → Reply → Exchange
erases id reply = heard (requests.Erase id) reply

abbrev pub faults : Exchange
faults = erases id_a (replies.Refused (refusals.BackFault 1))

abbrev pub fail_at : ℕ → Request
fail_at version = requests.UpdateStatus key_a (statuses.Volume volumes.Failed) (Some version)

pub record FailedExamples : Type 0 where
  pub fails_after_fault : Allows seats.Ops (faults ∷ finds key_a (Volume ended_a) ∷ []) (fail_at 8)
  pub fails_again : Allows seats.Ops (faults ∷ finds key_a (Volume failed_a) ∷ []) (fail_at 8)
  pub bound_volume_is_refused : Refuses seats.Ops (faults ∷ finds key_a (Volume still_bound_a) ∷ []) (fail_at 8)
  pub fails_before_erase_is_refused : Refuses seats.Ops (finds key_a (Volume ended_a) ∷ []) (fail_at 8)
  pub fault_before_told_is_refused : Refuses seats.Ops (finds key_a (Volume ended_a) ∷ faults ∷ []) (fail_at 8)
  pub fault_after_other_version_is_refused : Refuses seats.Ops (tells_volume (volume_at 9 ended_a) ∷ faults ∷ finds key_a (Volume ended_a) ∷ []) (fail_at 9)
  pub fault_of_other_data_is_refused : Refuses seats.Ops (erases id_b (replies.Refused (refusals.BackFault 1)) ∷ finds key_a (Volume ended_a) ∷ []) (fail_at 8)
  pub erased_is_refused : Refuses seats.Ops (erases id_a (replies.Erased true) ∷ finds key_a (Volume ended_a) ∷ []) (fail_at 8)
  pub answer_lost_is_refused : Refuses seats.Ops (unheard faults ∷ finds key_a (Volume ended_a) ∷ []) (fail_at 8)
  pub other_version_is_refused : Refuses seats.Ops (faults ∷ finds key_a (Volume ended_a) ∷ []) (fail_at 7)

-- DeleteVolume

abbrev pub done : Exchange
done = erases id_a (replies.Erased true)

abbrev pub uid_a : Uid
uid_a = uid_of_serial 1

abbrev pub delete_a : Request
delete_a = requests.Delete key_a (Some uid_a)

abbrev pub elsewhere_a : VolumeData
elsewhere_a = let old = ended_a in record old { source = record old.source { second = codes "/y" } }

pub record DeleteVolumeExamples : Type 0 where
  pub deletes_after_erase : Allows seats.Ops (done ∷ finds key_a (Volume ended_a) ∷ []) delete_a
  pub deletes_what_had_no_data : Allows seats.Ops (erases id_a (replies.Erased false) ∷ tells_volume failed_a ∷ []) delete_a
  pub deletes_by_uid_whatever_the_name : Allows seats.Ops (done ∷ finds key_a (Volume ended_a) ∷ []) (requests.Delete (volume_key (codes "b")) (Some uid_a))
  pub no_uid_given_is_refused : Refuses seats.Ops (done ∷ finds key_a (Volume ended_a) ∷ []) (requests.Delete key_a None)
  pub key_of_other_kind_is_refused : Refuses seats.Ops (done ∷ finds key_a (Volume ended_a) ∷ []) (requests.Delete key_c (Some uid_a))
  pub other_uid_is_refused : Refuses seats.Ops (done ∷ finds key_a (Volume ended_a) ∷ []) (requests.Delete key_a (Some (uid_of_serial 9)))
  pub bound_volume_is_refused : Refuses seats.Ops (done ∷ finds key_a (Volume still_bound_a) ∷ []) delete_a
  pub policy_retain_is_refused : Refuses seats.Ops (done ∷ finds key_a (Volume kept_a) ∷ []) delete_a
  pub other_data_erased_is_refused : Refuses seats.Ops (done ∷ finds key_a (Volume elsewhere_a) ∷ []) delete_a
  pub erased_before_told_is_refused : Refuses seats.Ops (finds key_a (Volume ended_a) ∷ done ∷ []) delete_a
  pub fault_is_refused : Refuses seats.Ops (faults ∷ finds key_a (Volume ended_a) ∷ []) delete_a
  pub answer_lost_is_refused : Refuses seats.Ops (unheard done ∷ finds key_a (Volume ended_a) ∷ []) delete_a
  pub never_erased_is_refused : Refuses seats.Ops (finds key_a (Volume ended_a) ∷ []) delete_a

-- SelectedNode, as it is cleared

abbrev pub exhausts : List ℕ → Exchange
exhausts name = heard (requests.Provision name (codes "x/y") (amount 3).bytes (Some [])) (replies.Refused (refusals.Exhausted 0))

abbrev pub exhausted : Exchange
exhausted = exhausts (data_name uid_c)

abbrev pub cleared_c : ClaimData
cleared_c = c

abbrev pub clear : Request
clear = requests.Update (Claim cleared_c) (Some 2)

-- completed, with its node still chosen
abbrev pub completed_on_node : ClaimData
completed_on_node = let old = chosen_c in record old { meta = record old.meta { annotations = (bind_completed, yes) ∷ (selected_node, codes "n1") ∷ [] } }

abbrev pub completed_cleared : ClaimData
completed_cleared = let old = chosen_c in record old { meta = record old.meta { annotations = (bind_completed, yes) ∷ [] } }

abbrev pub chosen_without_uid : ClaimData
chosen_without_uid = with_uid None chosen_c

abbrev pub later_chosen_c : ClaimData
later_chosen_c = claim_at 5 chosen_c

pub record ClearNodeExamples : Type 0 where
  pub clears_exhausted : Allows seats.Ops (exhausted ∷ tells_claim chosen_c ∷ []) clear
  pub clears_node_that_is_gone : Allows seats.Ops (tells_claim chosen_c ∷ lists kinds.Node [] 9 ∷ tells_node n1 ∷ []) clear
  pub completed_claim_is_refused : Refuses seats.Ops (exhausted ∷ tells_claim completed_on_node ∷ []) (requests.Update (Claim completed_cleared) (Some 2))
  pub claim_without_uid_is_refused : Refuses seats.Ops (lists kinds.Node [] 9 ∷ tells_claim chosen_without_uid ∷ []) (requests.Update (Claim (with_uid None c)) (Some 2))
  pub no_node_chosen_is_refused : Refuses seats.Ops (exhausted ∷ tells_claim c ∷ []) clear
  pub never_tried_is_refused : Refuses seats.Ops (tells_claim chosen_c ∷ []) clear
  pub node_still_there_is_refused : Refuses seats.Ops (tells_claim chosen_c ∷ tells_node n1 ∷ []) clear
  pub exhausted_before_told_is_refused : Refuses seats.Ops (tells_claim chosen_c ∷ exhausted ∷ []) clear
  pub exhausted_after_other_version_is_refused : Refuses seats.Ops (tells_claim later_chosen_c ∷ exhausted ∷ tells_claim chosen_c ∷ []) (requests.Update (Claim (claim_at 5 c)) (Some 5))
  pub exhausted_for_other_claim_is_refused : Refuses seats.Ops (exhausts (data_name (uid_of_serial 9)) ∷ tells_claim chosen_c ∷ []) clear
  pub fault_is_refused : Refuses seats.Ops
      (heard (requests.Provision (data_name uid_c) (codes "x/y") (amount 3).bytes (Some [])) (replies.Refused (refusals.BackFault 1)) ∷ tells_claim chosen_c ∷ []) clear
  pub answer_lost_is_refused : Refuses seats.Ops (unheard exhausted ∷ tells_claim chosen_c ∷ []) clear
  pub keeps_node_is_refused : Refuses seats.Ops (exhausted ∷ tells_claim chosen_c ∷ []) (requests.Update (Claim chosen_c) (Some 2))
  pub other_version_is_refused : Refuses seats.Ops (exhausted ∷ tells_claim chosen_c ∷ []) (requests.Update (Claim cleared_c) (Some 1))
