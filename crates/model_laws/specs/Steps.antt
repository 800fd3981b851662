-- What one call does to a world.
-- A choice of this project, as the definitions are; their sources stand in `binder_model`.
use Rattle.std.specs.Prelude.{◌≡◌, ◌+◌, ◌⊎◌, ◌∷◌}
use Rattle.kube_objects.specs.Keys.{meta_of}
use Rattle.call_types.specs.declared.setup.Setup.{Setup}
use Rattle.call_types.specs.declared.request.SeatKind.{SeatKind}
use Rattle.call_types.specs.declared.request.Request.{Request}
use Rattle.call_types.specs.declared.reply.Event.{Event}
use Rattle.call_types.specs.declared.reply.Refusal.{Refusal}
use Rattle.call_types.specs.declared.reply.Reply.{Reply}
use Rattle.call_types.specs.declared.reply.Reply.TheVariants.{Done, Left, Refused}
use Rattle.binder_model.specs.Devices.{Devices}
use Rattle.binder_model.specs.World.{World, effect, reply_to, world_after}

-- the devices but for the number of their calls
pub record AreSameButCalls (old new : Devices) : Type 0 where
  pub stored : new.stored ≡ old.stored
  pub epochs : new.epochs ≡ old.epochs
  pub mounts : new.mounts ≡ old.mounts

-- the world but for the number of device calls
pub record IsSameButCalls (old new : World) : Type 0 where
  pub store : new.store ≡ old.store
  pub moment : new.moment ≡ old.moment
  pub log : new.log ≡ old.log
  pub devices : AreSameButCalls old.devices new.devices

-- a refused request leaves the world as it was, but for the count of calls
abbrev pub RefusalsChangeNothing : Type 0
RefusalsChangeNothing =
    (setup : Setup) (w : World) (kind : SeatKind) (request : Request) (refusal : Refusal)
    → reply_to (effect setup w kind request) ≡ Refused refusal
    → IsSameButCalls w (world_after w (effect setup w kind request))

-- the store is as before
pub record KeepsStore (old new : World) : Type 0 where
  pub store : new.store ≡ old.store
  pub log : new.log ≡ old.log

-- one object was written: the version is one more, and the log has the event, which the reply tells
pub record WritesOnce (old new : World) (reply : Reply) : Type 0 where
  pub event : Event
  pub version : new.store.version ≡ old.store.version + 1
  pub log : new.log ≡ event ∷ old.log
  pub at : event.version ≡ (meta_of event.object).version
  pub next : (meta_of event.object).version ≡ old.store.version + 1
  pub told : (reply ≡ Done event.object) ⊎ (reply ≡ Left event.object)

-- each request leaves the store as it was, or is one write that raises its version by one
abbrev pub VersionsCountWrites : Type 0
VersionsCountWrites =
    (setup : Setup) (w : World) (kind : SeatKind) (request : Request)
    → KeepsStore w (world_after w (effect setup w kind request))
    ⊎ WritesOnce w (world_after w (effect setup w kind request)) (reply_to (effect setup w kind request))
