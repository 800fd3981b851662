-- What the reclaimer has under way for one volume: its next call, and what the answer to it makes of the machine.
-- Source: `reclaimVolume`, `deleteVolumeOperation` and `doDeleteVolume` of `pv_controller.go`, which reads the volume again before its data
-- are erased. That a failed erase writes phase Failed anew each time is a choice of this project.
use Rattle.std.specs.Prelude.{Bool, true, false, Option, Some, None, is_some, if◌then◌else◌}
use Rattle.kube_parts.specs.declared.uid.Uid.{Uid}
use Rattle.kube_objects.specs.declared.key.Key.{Key}
use Rattle.kube_parts.specs.declared.parts.VolumePhase.TheVariants as phases
use Rattle.kube_objects.specs.declared.objects.Volume.{Volume as VolumeData}
use Rattle.kube_objects.specs.declared.objects.Object.TheVariants.{Volume}
use Rattle.kube_objects.specs.Keys.{key_of}
use Rattle.kube_objects.specs.Sources.{data_id_of}
use Rattle.call_types.specs.declared.request.NewStatus.TheVariants as statuses
use Rattle.call_types.specs.declared.request.Request.{Request}
use Rattle.call_types.specs.declared.request.Request.TheVariants as requests
use Rattle.call_types.specs.declared.reply.Refusal.TheVariants.{BackFault}
use Rattle.call_types.specs.declared.reply.Reply.{Reply}
use Rattle.call_types.specs.declared.reply.Reply.TheVariants.{Erased, Found, Refused}
use Rattle.binder_model.specs.Due.{reclaim_due}
use Rattle.reclaim_ops.specs.declared.erase.EraseOp.{EraseOp}
use Rattle.reclaim_ops.specs.declared.erase.EraseStep.{EraseStep}
use Rattle.reclaim_ops.specs.declared.erase.EraseStep.TheVariants as steps

-- the key of a volume
abbrev pub key_of_volume : VolumeData → Key
key_of_volume v = key_of (Volume v)

-- the write of phase Failed at the volume that was read
abbrev pub fail_call : VolumeData → Request
fail_call v = requests.UpdateStatus (key_of_volume v) (statuses.Volume phases.Failed) (Some v.meta.version)

-- the call at a step
abbrev pub erase_call_at : EraseStep → VolumeData → Option Request
erase_call_at steps.ReadsVolume v = Some (requests.Get (key_of_volume v))
erase_call_at (steps.Erases uid) v = Some (requests.Erase (data_id_of v.source))
erase_call_at (steps.Deletes uid) v = Some (requests.Delete (key_of_volume v) (Some uid))
erase_call_at steps.WritesFailed v = Some (fail_call v)
erase_call_at steps.Done v = None
erase_call_at steps.Parked v = None

-- the next call, or none where nothing is left to be asked
unfoldable pub erase_call : EraseOp → Option Request
erase_call op = erase_call_at op.step op.volume

-- what was read counts from then on, where it is still to be reclaimed. An object has a UID from its creation on. So that test fails in
-- no history

-- the erasure once the volume was read and its UID is known
abbrev pub at_known : EraseOp → VolumeData → Option Uid → EraseOp
at_known op v None = record op { step = steps.Done }
at_known op v (Some uid) = record { volume = v; step = steps.Erases uid }

-- the erasure once the volume was read: it goes on only while the volume is to be reclaimed
abbrev pub at_found : EraseOp → VolumeData → EraseOp
at_found op v = if is_some (reclaim_due v) then at_known op v v.meta.uid else record op { step = steps.Done }

-- the answer to the erase: the volume is deleted where its data were erased, and phase Failed is written where the back end failed
abbrev pub after_erase : Uid → Reply → EraseStep
after_erase uid (Erased removed) = steps.Deletes uid
after_erase uid (Refused (BackFault planned)) = steps.WritesFailed
after_erase uid (Refused refusal) = steps.Parked
after_erase uid reply = steps.Done

-- where the step leads else: a machine that has ended stays so, and a refusal parks the key
abbrev pub erase_step_after : EraseStep → Reply → EraseStep
erase_step_after steps.Done reply = steps.Done
erase_step_after steps.Parked reply = steps.Parked
erase_step_after (steps.Erases uid) reply = after_erase uid reply
erase_step_after step (Refused refusal) = steps.Parked
erase_step_after step reply = steps.Done

-- the erasure after an answer
abbrev pub moved_at : EraseOp → EraseStep → Reply → EraseOp
moved_at op steps.ReadsVolume (Found (Volume v)) = at_found op v
moved_at op step reply = record op { step = erase_step_after step reply }

-- what the answer to the next call makes of the machine
unfoldable pub erase_moved : EraseOp → Reply → EraseOp
erase_moved op reply = moved_at op op.step reply

-- the key is parked
abbrev pub erase_parks : EraseStep → Bool
erase_parks steps.Parked = true
erase_parks step = false
