-- Where a drain ended settled, and what must have happened since for something to be due.
-- A choice of this project.
use Rattle.std.specs.Prelude.{◌≡◌, Bool, false, List, ◌++◌, Option, Some, None, length, ⊤}
use Rattle.call_types.specs.declared.entry.Entry.{Entry}
use Rattle.call_types.specs.declared.setup.Setup.{Setup}
use Rattle.call_types.specs.declared.request.Request.{Request}
use Rattle.call_types.specs.declared.request.SeatKind.{SeatKind}
use Rattle.call_types.specs.declared.request.SeatKind.TheVariants as seats
use Rattle.binder_model.specs.Due.{IsSettled}
use Rattle.binder_model.specs.World.{world}
use Rattle.device_model.specs.Kept.{is_for_devices}
use Rattle.script_runs.specs.declared.settled.SettledAt.{SettledAt}

-- whether devices answer such a request of this kind of seat: they answer no user
abbrev pub is_answered_there : SeatKind → Request → Bool
is_answered_there seats.User request = false
is_answered_there _ request = is_for_devices request

-- a call that devices answered
abbrev pub calls_device : Entry → Bool
calls_device e = is_answered_there e.kind e.request

-- the world was settled when there were as many entries, and the store was at this version
pub record WasSettled (setup : Setup) (past : List Entry) (at : SettledAt) : Type 0 where
  pub newer : List Entry
  pub older : List Entry
  pub are : past ≡ newer ++ older
  pub entries : length older ≡ at.entries
  pub version : (world setup older).store.version ≡ at.version
  pub settled : IsSettled setup (world setup older)

-- what was noted, if anything, is so
abbrev pub IsNoted : Setup → List Entry → Option SettledAt → Type 0
IsNoted setup past None = ⊤
IsNoted setup past (Some at) = WasSettled setup past at
