-- What volume protection has under way for one volume: its next call, and what the answer to it makes of the machine.
-- Source: `processPV` of the pv-protection controller.
use Rattle.std.specs.Prelude.{Bool, true, false, Option, Some, None}
use Rattle.kube_objects.specs.declared.objects.Volume.{Volume as VolumeData}
use Rattle.kube_objects.specs.declared.objects.Object.TheVariants.{Volume}
use Rattle.kube_objects.specs.Bindings.{pv_protection}
use Rattle.call_types.specs.declared.request.Request.{Request}
use Rattle.call_types.specs.declared.request.Request.TheVariants.{Update}
use Rattle.call_types.specs.declared.reply.Reply.{Reply}
use Rattle.call_types.specs.declared.reply.Reply.TheVariants.{Refused}
use Rattle.binder_model.specs.GuardLicence.{guarded_meta, unguarded_meta}
use Rattle.protect_sync.specs.declared.volumes.VolumeGuardOp.{VolumeGuardOp}
use Rattle.protect_sync.specs.declared.volumes.VolumeGuardStep.{VolumeGuardStep}
use Rattle.protect_sync.specs.declared.volumes.VolumeGuardStep.TheVariants as steps

-- the volume with the finalizer, and without it

-- the volume with its protection finalizer
abbrev pub guarded_volume : VolumeData → VolumeData
guarded_volume v = record v { meta = guarded_meta pv_protection v.meta }

-- the volume without its protection finalizer
abbrev pub unguarded_volume : VolumeData → VolumeData
unguarded_volume v = record v { meta = unguarded_meta pv_protection v.meta }

-- the write of a volume that was told, at its version
abbrev pub volume_write_over : VolumeData → VolumeData → Request
volume_write_over v new = Update (Volume new) (Some v.meta.version)

-- the call at a step
abbrev pub volume_guard_call_at : VolumeGuardStep → VolumeData → Option Request
volume_guard_call_at steps.Adds v = Some (volume_write_over v (guarded_volume v))
volume_guard_call_at steps.Drops v = Some (volume_write_over v (unguarded_volume v))
volume_guard_call_at steps.Done v = None
volume_guard_call_at steps.Parked v = None

-- the next call, or none where nothing is left to be asked
unfoldable pub volume_guard_call : VolumeGuardOp → Option Request
volume_guard_call op = volume_guard_call_at op.step op.volume

-- where the step leads: a machine that has ended stays so, and a refusal parks the key
abbrev pub volume_guard_step_after : VolumeGuardStep → Reply → VolumeGuardStep
volume_guard_step_after steps.Done reply = steps.Done
volume_guard_step_after steps.Parked reply = steps.Parked
volume_guard_step_after step (Refused refusal) = steps.Parked
volume_guard_step_after step reply = steps.Done

-- what the answer to the next call makes of the machine
unfoldable pub volume_moved : VolumeGuardOp → Reply → VolumeGuardOp
volume_moved op reply = record op { step = volume_guard_step_after op.step reply }

-- the key is parked
abbrev pub volume_parks : VolumeGuardStep → Bool
volume_parks steps.Parked = true
volume_parks step = false
