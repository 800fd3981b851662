-- A gate that holds back Mounts alone: what a command has that lets some pods wait before their volumes are mounted.
-- A choice of this project.
use Rattle.std.specs.Prelude.{◌≡◌, Bool, true, false, List}
use Rattle.call_types.specs.declared.entry.Entry.{Entry}
use Rattle.call_types.specs.declared.request.Request.{Request}
use Rattle.call_types.specs.declared.request.Request.TheVariants as requests
use Rattle.actor_rounds.specs.Rounds.{Lets}

-- the request is a Mount
abbrev pub is_mount : Request → Bool
is_mount (requests.Mount node epoch pod claims) = true
is_mount request = false

-- each other request reaches the world
abbrev pub HoldsMountsAlone : Lets → Type 0
HoldsMountsAlone lets = (h : List Entry) (request : Request) → is_mount request ≡ false → lets h request ≡ true
