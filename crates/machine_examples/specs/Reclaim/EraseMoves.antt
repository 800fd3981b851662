-- What the reclaimer asks and what it makes of answers: cases that the definitions give, and cases beside them that they give otherwise.
-- A choice of this project, as the machines are.
use Rattle.std.specs.Prelude.{◌≡◌, true, false, Some, None, codes}
use Rattle.kube_parts.specs.declared.parts.SourceKind.TheVariants as sources
use Rattle.kube_parts.specs.declared.parts.VolumePhase.TheVariants as phases
use Rattle.kube_objects.specs.declared.objects.Volume.{Volume as VolumeData}
use Rattle.kube_objects.specs.declared.objects.Object.TheVariants.{Volume, Claim}
use Rattle.call_types.specs.declared.request.NewStatus.TheVariants as statuses
use Rattle.call_types.specs.declared.request.Request.TheVariants as requests
use Rattle.call_types.specs.declared.reply.Refusal.TheVariants as refusals
use Rattle.call_types.specs.declared.reply.Reply.TheVariants.{Done, Erased, Found, Left, Refused}
use Rattle.reclaim_ops.specs.declared.erase.EraseOp.{EraseOp}
use Rattle.reclaim_ops.specs.declared.erase.EraseStep.{EraseStep}
use Rattle.reclaim_ops.specs.declared.erase.EraseStep.TheVariants as steps
use Rattle.reclaim_ops.specs.Erasures.{erase_call, erase_moved, erase_parks}
use Rattle.model_examples.specs.OpsRows.{id_1}
use Rattle.model_examples.specs.Reclaiming.{uid_a}
use Rattle.model_examples.specs.Samples.{c, deleting_a, ended_a, failed_a, id_a, key_a, never_bound_a, released_a, still_bound_a, volume_at}

abbrev pub with_volume : EraseStep → VolumeData → EraseOp
with_volume step v = record { volume = v; step = step }

abbrev pub on_a : EraseStep → EraseOp
on_a step = with_volume step ended_a

-- the volume as the caches still had it, over the data of a driver, and without a UID

abbrev pub older_a : VolumeData
older_a = volume_at 7 ended_a

abbrev pub driven_a : VolumeData
driven_a = let old = ended_a in record old { source = record { kind = sources.Csi; first = codes "x/y"; second = codes "data-1" } }

abbrev pub no_uid_a : VolumeData
no_uid_a = let old = ended_a in record old { meta = record old.meta { uid = None } }

pub record EraseCallExamples : Type 0 where
  pub reads_it : erase_call (on_a steps.ReadsVolume) ≡ Some (requests.Get key_a)
  pub erases_its_data : erase_call (on_a (steps.Erases uid_a)) ≡ Some (requests.Erase id_a)
  pub erases_what_a_driver_gave : erase_call (with_volume (steps.Erases uid_a) driven_a) ≡ Some (requests.Erase id_1)
  pub deletes_it_by_its_uid : erase_call (on_a (steps.Deletes uid_a)) ≡ Some (requests.Delete key_a (Some uid_a))
  pub writes_failed_at_the_version : erase_call (on_a steps.WritesFailed) ≡ Some (requests.UpdateStatus key_a (statuses.Volume phases.Failed) (Some 8))
  pub nothing_is_left_when_done : erase_call (on_a steps.Done) ≡ None
  pub nothing_is_left_when_parked : erase_call (on_a steps.Parked) ≡ None

pub record EraseMoveExamples : Type 0 where
  pub what_was_found_counts : erase_moved (with_volume steps.ReadsVolume older_a) (Found (Volume ended_a)) ≡ on_a (steps.Erases uid_a)
  pub found_failed_is_erased : erase_moved (on_a steps.ReadsVolume) (Found (Volume failed_a)) ≡ with_volume (steps.Erases uid_a) failed_a
  pub found_bound_is_left : erase_moved (on_a steps.ReadsVolume) (Found (Volume still_bound_a)) ≡ on_a steps.Done
  pub found_to_be_kept_is_left : erase_moved (on_a steps.ReadsVolume) (Found (Volume released_a)) ≡ on_a steps.Done
  pub found_deleting_is_left : erase_moved (on_a steps.ReadsVolume) (Found (Volume deleting_a)) ≡ on_a steps.Done
  pub found_that_was_never_bound_is_left : erase_moved (on_a steps.ReadsVolume) (Found (Volume never_bound_a)) ≡ on_a steps.Done
  pub found_without_a_uid_is_left : erase_moved (on_a steps.ReadsVolume) (Found (Volume no_uid_a)) ≡ on_a steps.Done
  pub found_claim_is_left : erase_moved (on_a steps.ReadsVolume) (Found (Claim c)) ≡ on_a steps.Done
  pub absent_volume_parks : erase_moved (on_a steps.ReadsVolume) (Refused refusals.NotFound) ≡ on_a steps.Parked
  pub erased_is_deleted : erase_moved (on_a (steps.Erases uid_a)) (Erased true) ≡ on_a (steps.Deletes uid_a)
  pub what_had_no_data_is_deleted : erase_moved (on_a (steps.Erases uid_a)) (Erased false) ≡ on_a (steps.Deletes uid_a)
  pub fault_is_written : erase_moved (on_a (steps.Erases uid_a)) (Refused (refusals.BackFault 1)) ≡ on_a steps.WritesFailed
  pub fault_is_written_again : erase_moved (with_volume (steps.Erases uid_a) failed_a) (Refused (refusals.BackFault 2)) ≡ with_volume steps.WritesFailed failed_a
  pub fault_of_a_read_parks : erase_moved (on_a steps.ReadsVolume) (Refused (refusals.BackFault 1)) ≡ on_a steps.Parked
  pub deleted_is_done : erase_moved (on_a (steps.Deletes uid_a)) (Done (Volume deleting_a)) ≡ on_a steps.Done
  pub what_left_is_done : erase_moved (on_a (steps.Deletes uid_a)) (Left (Volume deleting_a)) ≡ on_a steps.Done
  pub refused_delete_parks : erase_moved (on_a (steps.Deletes uid_a)) (Refused (refusals.Conflict 9)) ≡ on_a steps.Parked
  pub failed_is_done : erase_moved (on_a steps.WritesFailed) (Done (Volume failed_a)) ≡ on_a steps.Done
  pub stale_write_parks : erase_moved (on_a steps.WritesFailed) (Refused (refusals.Conflict 9)) ≡ on_a steps.Parked
  pub what_is_parked_stays : erase_moved (on_a steps.Parked) (Erased true) ≡ on_a steps.Parked
  pub what_is_done_stays : erase_moved (on_a steps.Done) (Found (Volume ended_a)) ≡ on_a steps.Done
  pub parked_parks : erase_parks steps.Parked ≡ true
  pub done_does_not : erase_parks steps.Done ≡ false
  pub failed_write_does_not : erase_parks steps.WritesFailed ≡ false
