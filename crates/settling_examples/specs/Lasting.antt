-- Which writes and calls last, on single objects.
-- A choice of this project.
use Rattle.std.specs.Prelude.{true, false, [], ◌∷◌, codes}
use Rattle.kube_parts.specs.declared.parts.VolumePhase.TheVariants as volumes
use Rattle.kube_objects.specs.declared.objects.Volume.{Volume as VolumeData}
use Rattle.kube_objects.specs.declared.objects.Object.TheVariants.{Claim, Volume}
use Rattle.call_types.specs.declared.reply.Refusal.TheVariants.{BackFault, Exhausted, NotFound}
use Rattle.call_types.specs.declared.reply.Reply.TheVariants.{Done, Left, Refused}
use Rattle.binder_model.specs.Devices.{Devices, no_devices}
use Rattle.binder_model.specs.Store.{first_moment}
use Rattle.binder_model.specs.World.{World}
use Rattle.settle_measure.specs.Left.Small.{free, open_claim, taken_volume}
use Rattle.settle_writes.specs.Writes.Lasting.{IsBackFault, IsLastingOnDevices, IsLastingWrite}
use Rattle.settle_alike.specs.Alike.Alike.{AreAlike}

-- the volume at another version
abbrev pub at_nine : VolumeData → VolumeData
at_nine v = record v { meta = record v.meta { version = 9 } }

-- data of one id, there or erased
abbrev pub with_data : Devices → Devices
with_data d = record d { stored = (record { id = record { driver = codes "d"; id = codes "data-1" }; name = codes "pvc-1"; pool = 0; bytes = 5; there = true }) ∷ [] }

abbrev pub with_erased : Devices → Devices
with_erased d = record d { stored = (record { id = record { driver = codes "d"; id = codes "data-1" }; name = codes "pvc-1"; pool = 0; bytes = 5; there = false }) ∷ [] }

pub record LastingExamples : Type 0 where
  -- another phase, a new reference, a new object, one that left
  pub phase : IsLastingWrite (Volume (free volumes.Pending) ∷ []) (Done (Volume (at_nine (free volumes.Available))))
  pub reference : IsLastingWrite (Volume (free volumes.Available) ∷ []) (Done (Volume (at_nine (taken_volume volumes.Available))))
  pub new_object : IsLastingWrite [] (Done (Claim open_claim))
  pub gone : IsLastingWrite (Claim open_claim ∷ []) (Left (Claim open_claim))
  pub erased : IsLastingOnDevices (with_data no_devices) (with_erased no_devices)
  pub fault : IsBackFault (Refused (BackFault 3))
  -- but not another version alone, nor a refusal, nor a count of calls, nor a pool that is full
  pub version_alone : IsLastingWrite (Volume (free volumes.Pending) ∷ []) (Done (Volume (at_nine (free volumes.Pending)))) → ⊥
  pub refusal : IsLastingWrite (Volume (free volumes.Pending) ∷ []) (Refused NotFound) → ⊥
  pub count_alone : IsLastingOnDevices no_devices (record no_devices { calls = 7 }) → ⊥
  pub exhausted : IsBackFault (Refused (Exhausted 0)) → ⊥

-- a world of one volume
abbrev pub world_of : VolumeData → Devices → World
world_of v d = record { store = record { rows = Volume v ∷ []; version = v.meta.version }; moment = first_moment; log = []; devices = d }

pub record AlikeExamples : Type 0 where
  -- other versions, counts and epochs
  pub versions : AreAlike (world_of (free volumes.Pending) no_devices) (world_of (at_nine (free volumes.Pending)) no_devices)
  pub counts : AreAlike (world_of (free volumes.Pending) no_devices) (world_of (free volumes.Pending) (record no_devices { calls = 7; epochs = (codes "node", 2) ∷ [] }))
  -- but not another phase, nor other data
  pub phases : AreAlike (world_of (free volumes.Pending) no_devices) (world_of (free volumes.Available) no_devices) → ⊥
  pub data_gone : AreAlike (world_of (free volumes.Pending) (with_data no_devices)) (world_of (free volumes.Pending) (with_erased no_devices)) → ⊥
