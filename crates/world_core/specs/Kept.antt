-- A world as its callers see it, and what it keeps.
-- A choice of this project.
use Rattle.std.specs.Prelude.{ℕ, ◌<◌, List, length}
use Rattle.call_types.specs.declared.entry.Entry.{Entry}
use Rattle.call_types.specs.declared.setup.Setup.{Setup}
use Rattle.call_types.specs.declared.request.SeatKind.{SeatKind}
use Rattle.call_types.specs.declared.request.Request.{Request}
use Rattle.call_types.specs.declared.reply.Reply.{Reply}
use Rattle.binder_model.specs.Imports.{ImportsPass}
use Rattle.binder_model.specs.World.{world, effect, reply_to, IsHistory}
use Rattle.binder_model.specs.Promises.{most_entries}
use Rattle.world_core.specs.declared.parts.Parts.{Parts}
use Rattle.world_core.specs.Moves.{AreOf}

-- the setup and the entries of a history, and the room for more
pub record History : Type 0 where
  pub setup : Setup
  -- the entries, the newest first
  pub past : List Entry
  -- how many entries there is room for, those that stand included
  pub room : ℕ

-- what the world answers next
abbrev pub reply_in : History → SeatKind → Request → Reply
reply_in h kind request = reply_to (effect h.setup (world h.setup h.past) kind request)

-- the imports pass, the entries are a history, fewer than 2^60, and the parts are those of its world
pub record IsKept (setup : Setup) (past : List Entry) (parts : Parts) : Type 0 where
  pub imports : ImportsPass setup.imports
  pub short : length past < most_entries
  pub history : IsHistory setup past
  pub stand : AreOf setup parts (world setup past)
