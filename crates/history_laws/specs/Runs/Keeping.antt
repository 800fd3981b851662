-- Worlds that have only values that a text can give, and that each call keeps a world so.
-- A choice of this project: the history format.
use Rattle.std.specs.Prelude.{ℕ, ◌+◌, ◌^◌, ◌<◌, ◌≤◌, List, All}
use Rattle.call_types.specs.declared.setup.Setup.{Setup}
use Rattle.call_types.specs.declared.request.SeatKind.{SeatKind}
use Rattle.call_types.specs.declared.request.Request.{Request}
use Rattle.binder_model.specs.Store.{State}
use Rattle.binder_model.specs.Devices.{Devices, MountAt}
use Rattle.binder_model.specs.World.{World, Effect, effect, reply_to, world_after}
use Rattle.object_laws.specs.Given.{IsGivenObject, IsStamp}
use Rattle.history_laws.specs.Read.Given.{IsEvent, IsMountRow, IsRequest, IsReply, IsSetup}

-- each object is one that a manifest can give, and the version is at most this number
pub record IsGivenStore (most : ℕ) (s : State) : Type 0 where
  pub rows : All IsGivenObject s.rows
  pub version : s.version ≤ most

-- the epoch of a node is at most this number
abbrev pub IsEpoch : ℕ → List ℕ × ℕ → Type 0
IsEpoch most e = e.1 ≤ most

-- a mount that a line can give
abbrev pub IsMount : MountAt → Type 0
IsMount m = IsMountRow m.row

-- epochs and calls are at most this number; what data have, no answer tells but their ids
pub record AreGivenDevices (most : ℕ) (d : Devices) : Type 0 where
  pub epochs : All (IsEpoch most) d.epochs
  pub mounts : All IsMount d.mounts
  pub calls : d.calls ≤ most

-- all that an answer can tell is what a text can give
pub record IsGivenWorld (most : ℕ) (w : World) : Type 0 where
  pub store : IsGivenStore most w.store
  pub moment : IsStamp w.moment
  pub log : All IsEvent w.log
  pub devices : AreGivenDevices most w.devices

-- the answer is one that a text can give, and the world after it is so too
pub record IsGivenEffect (most : ℕ) (w : World) (x : Effect) : Type 0 where
  pub reply : IsReply (reply_to x)
  pub world : IsGivenWorld (most + 1) (world_after w x)

-- a call keeps such a world, whoever makes it, where a text can give the request
abbrev pub CallsKeepGiven : Type 0
CallsKeepGiven =
    (setup : Setup) (most : ℕ) (w : World) (kind : SeatKind) (request : Request)
    → IsSetup setup → most < 2 ^ 62 → IsGivenWorld most w → IsRequest request → IsGivenEffect most w (effect setup w kind request)
