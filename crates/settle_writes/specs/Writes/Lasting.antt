-- Which calls last: a write that was done and changed more than the version, and a device call that changed data or mounts or
-- was answered BackFault. The newest entry of a history stands first.
-- A choice of this project.
use Rattle.std.specs.Prelude.{◌≡◌, ◌≢◌, ◌⊎◌, List, ◌∷◌, ◌++◌, Option, Some, None, ⊤}
use Rattle.kube_objects.specs.declared.objects.Meta.{Meta}
use Rattle.kube_objects.specs.declared.objects.Object.{Object}
use Rattle.kube_objects.specs.declared.objects.Object.TheVariants.{Class, Node, Volume, Claim, Pod}
use Rattle.kube_objects.specs.Keys.{key_of, row_at}
use Rattle.call_types.specs.declared.entry.Entry.{Entry}
use Rattle.call_types.specs.declared.request.Request.{Request}
use Rattle.call_types.specs.declared.request.SeatKind.{SeatKind}
use Rattle.call_types.specs.declared.setup.Setup.{Setup}
use Rattle.call_types.specs.declared.reply.Refusal.TheVariants.{BackFault}
use Rattle.call_types.specs.declared.reply.Reply.{Reply}
use Rattle.call_types.specs.declared.reply.Reply.TheVariants.{Done, Left, Refused}
use Rattle.binder_model.specs.Devices.{Devices}
use Rattle.binder_model.specs.World.{World, effect, reply_to, world, world_after}

-- the metadata but for the version
abbrev pub without_version : Meta → Meta
without_version m = record m { version = 0 }

-- the object but for its version
abbrev pub content_of : Object → Object
content_of (Class x) = Class (record x { meta = without_version x.meta })
content_of (Node x) = Node (record x { meta = without_version x.meta })
content_of (Volume x) = Volume (record x { meta = without_version x.meta })
content_of (Claim x) = Claim (record x { meta = without_version x.meta })
content_of (Pod x) = Pod (record x { meta = without_version x.meta })

-- the object that was written is another than what stood there, not its version alone
abbrev pub IsChanged : Option Object → Object → Type 0
IsChanged None o = ⊤
IsChanged (Some old) o = content_of old ≢ content_of o

-- a write was done that changed more than the version, or the object left
abbrev pub IsLastingWrite : List Object → Reply → Type 0
IsLastingWrite rows (Done o) = IsChanged (row_at (key_of o) rows) o
IsLastingWrite rows (Left o) = ⊤
IsLastingWrite rows reply = ⊥

-- other data are stored, or other pods are mounted
abbrev pub IsLastingOnDevices : Devices → Devices → Type 0
IsLastingOnDevices old new = (new.stored ≢ old.stored) ⊎ (new.mounts ≢ old.mounts)

-- the answer is a planned fault of the back end
abbrev pub IsBackFault : Reply → Type 0
IsBackFault (Refused (BackFault planned)) = ⊤
IsBackFault reply = ⊥

-- from this world to that one the call with this answer lasts
abbrev pub LastsBetween : World → World → Reply → Type 0
LastsBetween old new reply = IsLastingWrite old.store.rows reply ⊎ (IsLastingOnDevices old.devices new.devices ⊎ IsBackFault reply)

-- the call, made on this world, lasts
abbrev pub Lasts : Setup → World → SeatKind → Request → Type 0
Lasts setup w kind request = LastsBetween w (world_after w (effect setup w kind request)) (reply_to (effect setup w kind request))

-- the entry, after those before it, lasts
abbrev pub IsLasting : Setup → Entry → List Entry → Type 0
IsLasting setup e past = LastsBetween (world setup past) (world setup (e ∷ past)) e.reply

-- among the entries that came since there is one that lasts
pub record HasLasting (setup : Setup) (earlier past : List Entry) : Type 0 where
  pub entry : Entry
  pub newer : List Entry
  pub older : List Entry
  pub are : past ≡ newer ++ (entry ∷ older ++ earlier)
  pub lasts : IsLasting setup entry (older ++ earlier)
