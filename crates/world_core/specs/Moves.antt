-- What the parts of a world stand for, and how one call moves them. A choice of this project.
use Rattle.std.specs.Prelude.{ℕ, ◌≡◌, ◌-◌, ◌<◌, ◌^◌, List, [], ◌∷◌, Option, Some, None}
use Rattle.kube_objects.specs.Keys.{meta_of}
use Rattle.call_types.specs.declared.setup.Setup.{Setup}
use Rattle.call_types.specs.declared.request.SeatKind.{SeatKind}
use Rattle.call_types.specs.declared.request.Request.{Request}
use Rattle.call_types.specs.declared.reply.Change.TheVariants.{Deleted}
use Rattle.call_types.specs.declared.reply.Event.{Event}
use Rattle.call_types.specs.declared.reply.Reply.{Reply}
use Rattle.binder_model.specs.Answers.{Outcome, Says, Stores, Removes, outcome}
use Rattle.binder_model.specs.Devices.{epoch_of}
use Rattle.binder_model.specs.World.{World, base, stale_epoch, effect, reply_to, world_after}
use Rattle.watch_log.specs.Kept.{Log, LogStandsFor}
use Rattle.world_core.specs.declared.parts.Parts.{Parts}

-- the parts are those of this world. The log keeps the newest of its events, and the devices have no use for imports
pub record AreOf (setup : Setup) (parts : Parts) (w : World) : Type 0 where
  pub store : parts.store ≡ w.store
  pub moment : parts.moment ≡ w.moment
  pub devices : parts.devices ≡ record { setup = record { pools = setup.pools; faults = setup.faults; imports = [] }; devices = w.devices }
  pub base : parts.log.base ≡ base setup
  pub version : parts.log.version ≡ w.store.version
  pub log : LogStandsFor parts.log w.log

-- no number is used up, and the log has reached the store's version
pub record MayMove (parts : Parts) : Type 0 where
  pub version : parts.store.version < 2 ^ 62 - 1
  pub calls : parts.devices.devices.calls < 2 ^ 63
  pub epochs : (node : List ℕ) → epoch_of node parts.devices.devices.epochs < 2 ^ 63
  pub logged : parts.log.version ≡ parts.store.version

-- nothing has changed but the room in the log
pub record AreAsBefore (old new : Parts) : Type 0 where
  pub store : new.store ≡ old.store
  pub moment : new.moment ≡ old.moment
  pub devices : new.devices ≡ old.devices
  pub base : new.log.base ≡ old.log.base
  pub version : new.log.version ≡ old.log.version
  pub events : new.log.events ≡ old.log.events

-- what a request comes to on the store of these parts
abbrev pub made_of : Parts → SeatKind → Request → Outcome
made_of parts kind request = outcome parts.store kind request parts.moment (stale_epoch parts.devices.devices request)

-- the event of an outcome that writes
abbrev pub event_of : Outcome → Option Event
event_of (Says reply) = None
event_of (Stores change o) = Some (record { change = change; object = o; version = (meta_of o).version })
event_of (Removes o) = Some (record { change = Deleted; object = o; version = (meta_of o).version })

-- the events, with one more if there is one
abbrev pub with_event : Option Event → List Event → List Event
with_event None events = events
with_event (Some e) events = e ∷ events

-- the version of the event, or the one before it
abbrev pub version_after : Option Event → ℕ → ℕ
version_after None version = version
version_after (Some e) version = e.version

-- the log is one event longer, if there is one
abbrev pub Logs : Log → Log → Option Event → Type 0
Logs old new event = (all : List Event) → LogStandsFor old all → LogStandsFor new (with_event event all)

-- the call has moved the parts from the world that they were of to the world after it, and the reply and its copy are
-- that world's
pub record IsAnswered (old new : Parts) (kind : SeatKind) (request : Request) (replies : Reply × Reply) : Type 0 where
  pub moved : (setup : Setup) (w : World) → AreOf setup old w → AreOf setup new (world_after w (effect setup w kind request))
  pub told : (setup : Setup) (w : World) → AreOf setup old w → replies.0 ≡ reply_to (effect setup w kind request)
  pub kept : (setup : Setup) (w : World) → AreOf setup old w → replies.1 ≡ reply_to (effect setup w kind request)
