-- The printed words of seats and of changes. Source: the words of changes are those of the Kubernetes API, WatchEvent;
-- those of seats are a choice of this project.
use Rattle.std.specs.Prelude.{ℕ, List, codes}
use Rattle.call_types.specs.declared.reply.Change.{Change}
use Rattle.call_types.specs.declared.reply.Change.TheVariants.{Added, Modified, Deleted}
use Rattle.call_types.specs.declared.request.SeatKind.{SeatKind}
use Rattle.call_types.specs.declared.request.SeatKind.TheVariants.{User, Binder, Ops, Scheduler, ClaimProtect, VolumeProtect, Agent}

-- the word by which a kind of client is printed
abbrev pub seat_word : SeatKind → List ℕ
seat_word User = codes "User"
seat_word Binder = codes "Binder"
seat_word Ops = codes "Ops"
seat_word Scheduler = codes "Scheduler"
seat_word ClaimProtect = codes "ClaimProtect"
seat_word VolumeProtect = codes "VolumeProtect"
seat_word Agent = codes "Agent"

-- the word by which the change of an event is printed, as in a watch of Kubernetes
abbrev pub change_word : Change → List ℕ
change_word Added = codes "ADDED"
change_word Modified = codes "MODIFIED"
change_word Deleted = codes "DELETED"
