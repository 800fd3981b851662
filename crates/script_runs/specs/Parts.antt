-- What a script says of an actor: its kind, the seats of its lives, and which of its calls are lost.
-- The users have the first four seats. Then come the lives of the actors that turn lines name, in the order of the actors:
-- one life, and one more for each restart line. Then come the actors of the drains.
-- A choice of this project.
use Rattle.std.specs.Prelude.{ℕ, ◌+◌, List, [], ◌∷◌, ◌++◌, Bool, true, false, bytes_eq, length, map, if◌then◌else◌}
use Rattle.std.specs.List.{flat_map, list_any}
use Rattle.call_types.specs.declared.request.SeatKind.{SeatKind}
use Rattle.call_types.specs.declared.request.SeatKind.TheVariants as seats
use Rattle.worker_core.specs.declared.role.Role.{Role}
use Rattle.script_lines.specs.declared.actors.WorkerKind.{WorkerKind}
use Rattle.script_lines.specs.declared.actors.WorkerKind.TheVariants as workers
use Rattle.script_lines.specs.declared.actors.Actor.{Actor}
use Rattle.script_lines.specs.declared.actors.Actor.TheVariants.{Worker, Agent}
use Rattle.script_text.specs.declared.script.Line.{Line}
use Rattle.script_text.specs.declared.script.Line.TheVariants.{Lose, Turn}
use Rattle.script_text.specs.declared.script.Script.{Script}
use Rattle.script_lines.specs.Actors.{actor_word, all_workers}
use Rattle.script_text.specs.Said.{restarts_of}
use Rattle.actor_rounds.specs.Drainers.{roles_for, seats_for}
use Rattle.actor_turns.specs.declared.loss.Loss.{Loss}
use Rattle.actor_turns.specs.declared.part.Part.{Part}
use Rattle.actor_turns.specs.Parts.{lives_by}

-- the kind of the seats of an actor

-- the kind of client that a worker is
abbrev pub kind_of_worker : WorkerKind → SeatKind
kind_of_worker workers.Binder = seats.Binder
kind_of_worker workers.Ops = seats.Ops
kind_of_worker workers.Scheduler = seats.Scheduler
kind_of_worker workers.Claims = seats.ClaimProtect
kind_of_worker workers.Volumes = seats.VolumeProtect

-- the kind of client that an actor of a line is
abbrev pub seat_kind_of : Actor → SeatKind
seat_kind_of (Worker w) = kind_of_worker w.kind
seat_kind_of (Agent node) = seats.Agent

-- the role of an actor: an agent has its node
abbrev pub role_of : Actor → Role
role_of (Worker w) = record { kind = kind_of_worker w.kind; node = [] }
role_of (Agent node) = record { kind = seats.Agent; node = node }

-- what lines say of the actor of a name

-- the line is a turn of the actor of this name
abbrev pub is_turn_of : List ℕ → Line → Bool
is_turn_of name (Turn actor calls) = bytes_eq (actor_word actor) name
is_turn_of name line = false

-- some turn line names the actor
abbrev pub is_named : List ℕ → List Line → Bool
is_named name lines = list_any (is_turn_of name) lines

-- the loss of a call, where it is this actor's
abbrev pub loss_by : Bool → ℕ → Bool → List Loss
loss_by true call after = record { call = call; after = after } ∷ []
loss_by false call after = []

-- what the line says of lost calls of the actor of this name
abbrev pub loss_in : List ℕ → Line → List Loss
loss_in name (Lose actor call after) = loss_by (bytes_eq (actor_word actor) name) call after
loss_in name line = []

-- its calls that are lost
abbrev pub lost_calls : List ℕ → List Line → List Loss
lost_calls name lines = flat_map (loss_in name) lines

-- how many lives it has
abbrev pub lives_in : List ℕ → List Line → ℕ
lives_in name lines = lives_by (is_named name lines) (length (restarts_of name lines))

-- the seats

-- all actors in the order of their seats: the workers, kind by kind, and then the agents by the names of their nodes
abbrev pub all_actors : Script → List Actor
all_actors script = map (λ w. Worker w) all_workers ++ map (λ node. Agent node) script.node_names

-- the lives of these actors together
abbrev pub all_lives : List Actor → List Line → ℕ
all_lives [] lines = 0
all_lives (actor ∷ actors) lines = lives_in (actor_word actor) lines + all_lives actors lines

-- the lives of those of these actors that stand before the one of a name
abbrev pub lives_before : List ℕ → List Actor → List Line → ℕ
lives_before name [] lines = 0
lives_before name (actor ∷ actors) lines = if bytes_eq (actor_word actor) name then 0 else lives_in (actor_word actor) lines + lives_before name actors lines

-- the first seat after those of the users
abbrev pub first_actor_seat : ℕ
first_actor_seat = 5

-- the part of the actor of a name and kind, which takes part or not, and whose first life has this seat
abbrev pub part_at : Bool → List ℕ → SeatKind → ℕ → List Line → Part
part_at takes name kind first lines = record {
  name = name;
  kind = kind;
  named = takes;
  first = first;
  losses = lost_calls name lines;
  restarts = restarts_of name lines;
}

-- the part of an actor, which takes part where a turn line names it
abbrev pub part_of : Script → Actor → Part
part_of script actor = part_at (is_named (actor_word actor) script.lines) (actor_word actor) (seat_kind_of actor) (first_actor_seat + lives_before
    (actor_word actor) (all_actors script) script.lines) script.lines

-- the drains' actors

-- the first of their seats
abbrev pub drain_seat : Script → ℕ
drain_seat script = first_actor_seat + all_lives (all_actors script) script.lines

-- their seats and their roles, in the order of a round: the scheduler, ops, the binder, claim protection, volume protection, and
-- the agents by the names of their nodes

-- the seats of the actors of a replay's drains
abbrev pub drain_seats : Script → List ℕ
drain_seats script = seats_for (drain_seat script) script.node_names

-- the roles of the actors of drains
abbrev pub drain_roles : Script → List Role
drain_roles script = roles_for script.node_names
