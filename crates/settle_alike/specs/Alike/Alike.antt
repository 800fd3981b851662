-- Worlds that differ in versions, epochs and the count of device calls alone: the same is due in them.
-- A choice of this project.
use Rattle.std.specs.Prelude.{◌≡◌, ◌⊎◌, ◌++◌, List, map, Option}
use Rattle.kube_parts.specs.declared.names.Due.{Due}
use Rattle.kube_objects.specs.declared.objects.Object.{Object}
use Rattle.kube_objects.specs.Keys.{AreRows}
use Rattle.call_types.specs.declared.entry.Entry.{Entry}
use Rattle.call_types.specs.declared.request.Request.{Request}
use Rattle.call_types.specs.declared.request.SeatKind.{SeatKind}
use Rattle.call_types.specs.declared.setup.Setup.{Setup}
use Rattle.binder_model.specs.Due.{IsDue, IsSettled}
use Rattle.binder_model.specs.World.{IsHistory, World, effect, world, world_after}
use Rattle.settle_writes.specs.Writes.Lasting.{HasLasting, Lasts, content_of}

-- the objects but for their versions
abbrev pub contents_of : List Object → List Object
contents_of rows = map content_of rows

-- the worlds have the same objects but for versions, the same data and the same mounts
pub record AreAlike (old new : World) : Type 0 where
  pub rows : contents_of old.store.rows ≡ contents_of new.store.rows
  pub stored : old.devices.stored ≡ new.devices.stored
  pub mounts : old.devices.mounts ≡ new.devices.mounts

-- what is due for an object is due in a world that is alike, for the object as it stands there
abbrev pub AlikeIsDue : Type 0
AlikeIsDue = (setup : Setup) (old new : World) (o p : Object) (action : Option Due) → AreAlike old new → content_of o ≡ content_of p → IsDue setup old o action → IsDue setup new p action

-- the same is settled
abbrev pub AlikeIsSettled : Type 0
AlikeIsSettled = (setup : Setup) (old new : World) → AreAlike old new → IsSettled setup old → IsSettled setup new

-- a call lasts, or leaves the world alike
abbrev pub CallsLastOrLeaveAlike : Type 0
CallsLastOrLeaveAlike = (setup : Setup) (w : World) (kind : SeatKind) (request : Request) → AreRows w.store.rows → Lasts setup w kind request ⊎ AreAlike w (world_after w (effect setup w kind request))

-- so among some entries one lasts, or the world at their end is like that before them
abbrev pub EntriesLastOrLeaveAlike : Type 0
EntriesLastOrLeaveAlike =
    (setup : Setup) (newer past : List Entry) → IsHistory setup (newer ++ past) → HasLasting setup past (newer ++ past) ⊎ AreAlike (world setup past) (world setup (newer ++ past))
