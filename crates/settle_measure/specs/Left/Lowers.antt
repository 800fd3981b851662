-- A write that lowers what is left to do, and the objects as they stand when it is made.
-- A choice of this project.
use Rattle.std.specs.Prelude.{ℕ, ◌≡◌, ◌≤◌, ◌+◌, false, Some}
use Rattle.kube_objects.specs.declared.objects.Claim.{Claim as ClaimData}
use Rattle.kube_objects.specs.declared.objects.Volume.{Volume as VolumeData}
use Rattle.kube_objects.specs.declared.objects.Object.{Object}
use Rattle.kube_objects.specs.declared.objects.Object.TheVariants.{Volume, Claim}
use Rattle.kube_parts.specs.declared.uid.Uid.{Uid}
use Rattle.kube_objects.specs.Keys.{AreRows, row_at}
use Rattle.call_types.specs.declared.request.Request.{Request}
use Rattle.call_types.specs.declared.request.SeatKind.{SeatKind}
use Rattle.call_types.specs.declared.setup.Setup.{Setup}
use Rattle.binder_model.specs.ObjectKeys.{claim_key, volume_key}
use Rattle.binder_model.specs.Devices.{DeviceAnswer}
use Rattle.binder_model.specs.Store.{leaves}
use Rattle.binder_model.specs.World.{World, effect, world_after}
use Rattle.safety_law.specs.Invariant.Moves.{written_by}
use Rattle.settle_measure.specs.Left.Measure.{left_of}

-- where the write is made, what is left to do falls by so much
abbrev pub Lowers : Setup → World → SeatKind → Request → ℕ → Type 0
Lowers setup w kind request n = (o : Object) → written_by (effect setup w kind request) ≡ Some o → left_of (world_after w (effect setup w kind request)) + n ≤ left_of w

-- the volume stands, and is not one that has left
pub record StandsVolume (w : World) (v : VolumeData) : Type 0 where
  pub order : AreRows w.store.rows
  pub there : row_at (volume_key v.meta.name) w.store.rows ≡ Some (Volume v)
  pub stays : leaves (Volume v) ≡ false

-- the claim stands, and has a UID
pub record StandsClaim (w : World) (c : ClaimData) : Type 0 where
  pub order : AreRows w.store.rows
  pub there : row_at (claim_key c.meta.namespace c.meta.name) w.store.rows ≡ Some (Claim c)
  pub stays : leaves (Claim c) ≡ false
  pub uid : Uid
  pub has : c.meta.uid ≡ Some uid

-- a device call that was answered so
abbrev pub with_devices : World → DeviceAnswer → World
with_devices w a = record w { devices = a.devices }
