-- How many objects a history gives: those that were imported, and those that users ask to create.
-- A choice of this project.
use Rattle.std.specs.Prelude.{ℕ, ◌≤◌, ◌+◌, ◌*◌, Bool, true, false, ◌&&◌, List, count_by, length}
use Rattle.call_types.specs.declared.entry.Entry.{Entry}
use Rattle.call_types.specs.declared.request.Request.{Request}
use Rattle.call_types.specs.declared.request.Request.TheVariants as requests
use Rattle.call_types.specs.declared.setup.Setup.{Setup}
use Rattle.binder_model.specs.Answers.{is_user}
use Rattle.binder_model.specs.Run.{Run}
use Rattle.binder_model.specs.World.{world}

-- the request is to create an object
abbrev pub is_create : Request → Bool
is_create (requests.Create o) = true
is_create request = false

-- a user asks to create an object, whatever the answer is
abbrev pub asks_create : Entry → Bool
asks_create e = is_user e.kind && is_create e.request

-- how many entries do
abbrev pub creations : List Entry → ℕ
creations past = count_by asks_create past

-- an import and a creation give a key, and a UID for which one volume may be made
abbrev pub ObjectsAreFew : Type 0
ObjectsAreFew = (setup : Setup) (past : List Entry) → Run setup past → length (world setup past).store.rows ≤ 2 * (length setup.imports + creations past)
