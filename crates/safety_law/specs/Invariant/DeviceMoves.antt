-- How one call moves the devices: epochs and mounts.
-- A choice of this project, as the definitions are; their sources stand in `binder_model`.
use Rattle.std.specs.Prelude.{ℕ, ◌≡◌, ◌⊎◌, ◌+◌, true, false, List}
use Rattle.call_types.specs.declared.request.SeatKind.{SeatKind}
use Rattle.call_types.specs.declared.request.Request.{Request}
use Rattle.call_types.specs.declared.request.Request.TheVariants as requests
use Rattle.call_types.specs.declared.reply.Reply.{Reply}
use Rattle.call_types.specs.declared.reply.Reply.TheVariants as replies
use Rattle.binder_model.specs.Answers.{is_user}
use Rattle.binder_model.specs.Devices.{Devices, MountAt, epoch_of, rows_on}
use Rattle.binder_model.specs.Told.{SomeOf}
use Rattle.binder_model.specs.World.{World, Effect, reply_to, world_after}
use Rattle.call_types.specs.declared.setup.Setup.{Setup}
use Rattle.binder_model.specs.World.{effect}
use Rattle.kube_parts.specs.declared.uid.Uid.{Uid}
use Rattle.binder_model.specs.AgentLicence.{is_of_epoch, lacks_pod, has_row}

-- the mount is among these
abbrev pub MountIn : MountAt → List MountAt → Type 0
MountIn m ms = SomeOf (λ x. x ≡ m) ms

-- the mount was asked by this request, at the node's current epoch
pub record IsMounting (d : Devices) (request : Request) (m : MountAt) : Type 0 where
  pub epoch : ℕ
  pub asked : request ≡ requests.Mount m.node epoch m.row.pod m.row.claims
  pub current : epoch ≡ epoch_of m.node d.epochs

-- the node was taken
pub record IsTaking (d new : Devices) (request : Request) (reply : Reply) (node : List ℕ) : Type 0 where
  pub asked : request ≡ requests.TakeNode node
  pub reply_is : reply ≡ replies.Epoch (epoch_of node d.epochs + 1)
  pub next : epoch_of node new.epochs ≡ epoch_of node d.epochs + 1

-- a told list of the node's mounts is the one that then stands
abbrev pub TellsMounts : Devices → Request → Reply → Type 0
TellsMounts new request reply =
    (node : List ℕ) (epoch : ℕ) (pod : Uid) → is_of_epoch node epoch request ≡ true → lacks_pod pod reply ≡ true → has_row pod (rows_on node new.mounts) ≡ false

-- each epoch is as it was, or this call took the node; each mount was there, or this call made it; a list of mounts is true
pub record DeviceMove (d new : Devices) (request : Request) (reply : Reply) : Type 0 where
  pub epoch : (node : List ℕ) → (epoch_of node new.epochs ≡ epoch_of node d.epochs) ⊎ IsTaking d new request reply node
  pub mount : (m : MountAt) → MountIn m new.mounts → MountIn m d.mounts ⊎ IsMounting d request m
  pub listed : TellsMounts new request reply

-- and a user moves nothing
pub record EffectMove (w : World) (kind : SeatKind) (request : Request) (x : Effect) : Type 0 where
  pub move : DeviceMove w.devices (world_after w x).devices request (reply_to x)
  pub user : is_user kind ≡ true → (world_after w x).devices ≡ w.devices

-- each call moves the devices so
abbrev pub CallsMoveTheDevices : Type 0
CallsMoveTheDevices = (setup : Setup) (w : World) (kind : SeatKind) (request : Request) → EffectMove w kind request (effect setup w kind request)
