-- The world of a history: store, moment, watch log and devices, moved by one whole call at a time.
-- A history's newest entry stands first. A choice of this project: one event is one whole call by one seat.
-- It begins with the imports of its setup, and with nothing where there are none.
use Rattle.std.specs.Prelude.{ℕ, ◌≡◌, nat_lt, nat_le, ◌==◌, Bool, ◌&&◌, List, [], ◌∷◌, Option, Some, None, codes, if◌then◌else◌, ⊤}
use lib.Pointwise.{pointwise}
use Rattle.kube_parts.specs.declared.names.Field.TheVariants as fields
use Rattle.kube_parts.specs.declared.names.Rule.TheVariants as rules
use Rattle.kube_parts.specs.declared.parts.Kind.{Kind}
use Rattle.kube_objects.specs.Keys.{meta_of}
use Rattle.call_types.specs.declared.entry.Entry.{Entry}
use Rattle.call_types.specs.declared.setup.Setup.{Setup}
use Rattle.call_types.specs.declared.request.SeatKind.{SeatKind}
use Rattle.call_types.specs.declared.request.Request.{Request}
use Rattle.call_types.specs.declared.request.Request.TheVariants as requests
use Rattle.call_types.specs.declared.reply.Change.TheVariants.{Deleted}
use Rattle.call_types.specs.declared.reply.Event.{Event}
use Rattle.call_types.specs.declared.reply.Refusal.TheVariants.{Invalid, Forbidden, Gone}
use Rattle.call_types.specs.declared.reply.Reply.{Reply}
use Rattle.call_types.specs.declared.reply.Reply.TheVariants.{Events, Timed, Refused}
use Rattle.binder_model.specs.Store.{State, first_moment}
use Rattle.binder_model.specs.Imports.{base_of, rows_of_imports}
use Rattle.binder_model.specs.Answers.{Outcome, Says, Stores, Removes, is_user, outcome, reply_of, after}
use Rattle.binder_model.specs.Devices.{Devices, DeviceAnswer, no_devices, device_answer, epoch_if_stale}
use Rattle.binder_model.specs.Watching.{oldest, told_events}

-- all that a history changes
pub record World : Type 0 where
  pub store : State
  pub moment : List ℕ
  -- each write, the newest first
  pub log : List Event
  pub devices : Devices

-- the version with which the world begins
abbrev pub base : Setup → ℕ
base setup = base_of setup.imports

-- the world with which a history begins: the imports, if any
abbrev pub first_world : Setup → World
first_world setup = record {
  store = record { rows = rows_of_imports setup.imports setup.imports; version = base setup };
  moment = first_moment;
  log = [];
  devices = no_devices;
}

-- what a request comes to: on the store, on the devices, or on the moment
pub data Effect : Type 0 where
  OnStore : Outcome → Effect
  OnDevices : DeviceAnswer → Effect
  SetsMoment : List ℕ → Effect

-- the byte is a digit where the shape has a 'd', else the very byte of the shape
abbrev pub fits_shape : ℕ → ℕ → Bool
fits_shape shape c = if shape == 100 then nat_le 48 c && nat_le c 57 else shape == c

-- the shape of RFC 3339 in UTC with whole seconds, a 'd' for each digit
abbrev pub is_time : List ℕ → Bool
is_time text = pointwise fits_shape (codes "dddd-dd-ddTdd:dd:ddZ") text

-- the refusal of a verb that is not a user's
abbrev pub refused_rule : Effect
refused_rule = OnStore (Says (Refused (Forbidden rules.Verb)))

-- the moment that the request sets, where the text has the form of one
unfoldable pub set_time : List ℕ → Effect
set_time at = if is_time at then SetsMoment at else OnStore (Says (Refused (Invalid fields.Time)))

-- a watch: refused from a version that is still to come, Gone from one too far back, else the events since
unfoldable pub watch : Setup → World → Kind → ℕ → Effect
watch setup w kind from =
    if nat_lt w.store.version from then OnStore (Says (Refused (Invalid fields.From)))
    else if nat_lt from (oldest (base setup) w.store.version) then OnStore (Says (Refused (Gone (oldest (base setup) w.store.version))))
    else OnStore (Says (Events (told_events kind from w.store.version w.log)))

-- the current epoch of the node that a FinishPod names, where it has another
abbrev pub stale_epoch : Devices → Request → Option ℕ
stale_epoch d (requests.FinishPod key uid node epoch) = epoch_if_stale d node epoch
stale_epoch d _ = None

-- users make no device calls
unfoldable pub on_devices : World → SeatKind → Request → Option DeviceAnswer → Effect
on_devices w kind request (Some answered) = if is_user kind then refused_rule else OnDevices answered
on_devices w kind request None = OnStore (outcome w.store kind request w.moment (stale_epoch w.devices request))

-- what a seat's request comes to in the world
unfoldable pub effect : Setup → World → SeatKind → Request → Effect
effect setup w kind (requests.SetTime at) = set_time at
effect setup w kind (requests.Watch k from) = watch setup w k from
effect setup w kind request = on_devices w kind request (device_answer setup w.devices request)

-- the reply to an effect
unfoldable pub reply_to : Effect → Reply
reply_to (OnStore o) = reply_of o
reply_to (OnDevices a) = a.reply
reply_to (SetsMoment at) = Timed

-- the log after an outcome: an event for each write
unfoldable pub log_after : Outcome → List Event → List Event
log_after (Says reply) log = log
log_after (Stores change o) log = (record { change = change; object = o; version = (meta_of o).version }) ∷ log
log_after (Removes o) log = (record { change = Deleted; object = o; version = (meta_of o).version }) ∷ log

-- the world after an effect
unfoldable pub world_after : World → Effect → World
world_after w (OnStore o) = record w { store = after w.store o; log = log_after o w.log }
world_after w (OnDevices a) = record w { devices = a.devices }
world_after w (SetsMoment at) = record w { moment = at }

-- the world after these entries. Their replies are not looked at
abbrev pub world : Setup → List Entry → World
world setup [] = first_world setup
world setup (e ∷ past) = world_after (world setup past) (effect setup (world setup past) e.kind e.request)

-- each reply is what the world of the entries before it answers
abbrev pub IsHistory : Setup → List Entry → Type 0
IsHistory setup [] = ⊤
IsHistory setup (e ∷ past) = IsHistory setup past × (e.reply ≡ reply_to (effect setup (world setup past) e.kind e.request))
