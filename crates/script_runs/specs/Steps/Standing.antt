-- What stands for how far a replay has come: a world, the actors, and the numbers of the drains. A choice of this project.
use Rattle.std.specs.Prelude.{ℕ, ◌≡◌, ◌≤◌, ◌+◌, true, List, [], ◌∷◌, ◌++◌, Option, Some, None, bytes_eq, drop, map, slice_get, if◌then◌else◌}
use Rattle.attention_law.specs.Diligence.{entries}
use Rattle.actor_rounds.specs.declared.drainers.Drainer.{Drainer}
use Rattle.actor_rounds.specs.Drainers.{AreNew, AreStanding}
use Rattle.actor_rounds.specs.Rounds.{all_pass}
use Rattle.world_core.specs.declared.drained.Drained.{Drained}
use Rattle.world_core.specs.declared.drained.Drained.TheVariants.{Settled, Spent}
use Rattle.script_lines.specs.declared.actors.Worker.{Worker as WorkerData}
use Rattle.script_lines.specs.declared.actors.WorkerKind.{WorkerKind}
use Rattle.script_lines.specs.declared.actors.WorkerKind.TheVariants as workers
use Rattle.script_lines.specs.declared.actors.WorkerNumber.{WorkerNumber}
use Rattle.script_lines.specs.declared.actors.WorkerNumber.TheVariants.{One, Two, Three, Four}
use Rattle.script_lines.specs.declared.actors.Actor.{Actor}
use Rattle.script_lines.specs.declared.actors.Actor.TheVariants.{Worker, Agent}
use Rattle.script_text.specs.declared.script.Line.{Line}
use Rattle.script_text.specs.declared.script.Script.{Script}
use Rattle.actor_turns.specs.declared.part.Part.{Part}
use Rattle.actor_turns.specs.declared.player.Player.{Player}
use Rattle.script_runs.specs.declared.stage.Stage.{Stage}
use Rattle.script_runs.specs.Budget.{most_budget}
use Rattle.actor_turns.specs.Parts.{lives_of}
use Rattle.script_runs.specs.Drains.{AreDrainers}
use Rattle.script_runs.specs.Parts.{drain_seat, first_actor_seat, is_named, seat_kind_of, part_at, role_of}
use Rattle.script_lines.specs.Actors.{actor_word, four}
use Rattle.worker_core.specs.declared.role.Role.{Role}
use Rattle.script_runs.specs.Replays.{AreMoves, EndsAs, IsDrain, Progress, first_progress}
use Rattle.actor_turns.specs.Steps.Living.{Lives}
use Rattle.actor_turns.specs.Steps.Playing.{EachPlayer, IsNewPlayer, Plays}
use Rattle.script_runs.specs.Steps.Settled.{IsNoted}

-- all actors, in the order of their seats: four workers of each kind, and then the agents of these nodes

-- the four workers of a kind
abbrev pub workers_of : WorkerKind → List Actor
workers_of kind = map (λ (w : WorkerData). Worker w) (four kind)

-- the agents of these nodes
abbrev pub agents_for : List (List ℕ) → List Actor
agents_for nodes = map (λ (node : List ℕ). Agent node) nodes

-- all actors that lines may name
unfoldable pub actors_for : List (List ℕ) → List Actor
actors_for nodes = workers_of workers.Binder ++ (workers_of workers.Ops ++ (workers_of workers.Scheduler ++ (workers_of workers.Claims ++ (workers_of workers.Volumes ++ agents_for nodes))))

-- the place of an actor among them

-- the place of a kind's first worker among the actors
abbrev pub place_of_kind : WorkerKind → ℕ
place_of_kind workers.Binder = 0
place_of_kind workers.Ops = 4
place_of_kind workers.Scheduler = 8
place_of_kind workers.Claims = 12
place_of_kind workers.Volumes = 16

-- the place of a worker among those of its kind
abbrev pub place_of_number : WorkerNumber → ℕ
place_of_number One = 0
place_of_number Two = 1
place_of_number Three = 2
place_of_number Four = 3

-- the place of the first node of this name
abbrev pub place_of_node : List ℕ → List (List ℕ) → ℕ
place_of_node node [] = 0
place_of_node node (n ∷ nodes) = if bytes_eq n node then 0 else 1 + place_of_node node nodes

-- the place of an actor
abbrev pub place_of : List (List ℕ) → Actor → ℕ
place_of nodes (Worker w) = place_of_kind w.kind + place_of_number w.number
place_of nodes (Agent node) = 20 + place_of_node node nodes

-- the parts of actors by the lines alone: each begins where the one before it ends

-- what the lines say of an actor, whose first life has this seat
abbrev pub part_from : List Line → Actor → ℕ → Part
part_from lines actor first = part_at (is_named (actor_word actor) lines) (actor_word actor) (seat_kind_of actor) first lines

-- the seat past the lives of an actor
abbrev pub end_of : Part → ℕ
end_of part = part.first + lives_of part

-- what the lines say of these actors, one after the other
abbrev pub parts_from : List Line → List Actor → ℕ → List Part
parts_from lines [] first = []
parts_from lines (actor ∷ actors) first = part_from lines actor first ∷ parts_from lines actors (end_of (part_from lines actor first))

-- the seat after those of their lives
abbrev pub seat_past : List Line → List Actor → ℕ → ℕ
seat_past lines [] first = first
seat_past lines (actor ∷ actors) first = seat_past lines actors (end_of (part_from lines actor first))

-- what the lines say of all actors
abbrev pub all_parts : Script → List Part
all_parts script = parts_from script.lines (actors_for script.node_names) first_actor_seat

-- the seat past the lives of all actors
abbrev pub seat_of_drains : Script → ℕ
seat_of_drains script = seat_past script.lines (actors_for script.node_names) first_actor_seat

-- what is said of these players
abbrev pub parts_in : List Player → List Part
parts_in players = map (λ (x : Player). x.part) players

-- players of these actors, before their first calls: each begins where the one before it ends
abbrev pub AreNewPlayers : List Line → List Actor → ℕ → List Player → Type 0
AreNewPlayers lines [] first players = players ≡ []
AreNewPlayers lines (actor ∷ actors) first [] = ⊥
AreNewPlayers lines (actor ∷ actors) first (x ∷ players) = (x.part ≡ part_from lines actor first) × IsNewPlayer (role_of actor) x
    × AreNewPlayers lines actors (end_of (part_from lines actor first)) players

-- such players stand behind those before, and this seat is the one after those of their lives
pub record HasAdded (lines : List Line) (actors : List Actor) (first next : ℕ) (before after : List Player) : Type 0 where
  pub added : List Player
  pub are : after ≡ before ++ added
  pub new : AreNewPlayers lines actors first added
  pub seat : next ≡ seat_past lines actors first

-- Q holds of each player, with the role of its actor
abbrev pub EachWithRole : (Role → Player → Type 0) → List Actor → List Player → Type 0
EachWithRole Q actors players = (place : ℕ) (actor : Actor) (x : Player) → slice_get actors place ≡ Some actor → slice_get players place ≡ Some x → Q (role_of actor) x

-- the budget is the given one, or at most the greatest where none is given
abbrev pub IsBudget : Option ℕ → ℕ → Type 0
IsBudget (Some given) budget = budget ≡ given
IsBudget None budget = budget ≤ most_budget

-- the stage of the code is this progress of the replay
pub record StageStands (script : Script) (option : Option ℕ) (p : Progress) (s : Stage) : Type 0 where
  pub past : s.world.past ≡ p.past
  pub setup : s.world.setup ≡ script.setup
  pub parts : parts_in s.players.items ≡ all_parts script
  pub plays : EachPlayer (λ x. x.part.named ≡ true → Plays x s.world.past (λ seat. entries (p.idle seat))) s.players.items
  pub lives : EachWithRole (λ role x. x.part.named ≡ true → Lives role x s.world.past p.idle) (actors_for script.node_names) s.players.items
  pub made : EachPlayer (λ x. x.made ≡ p.made x.part.name) s.players.items
  pub held : EachPlayer (λ x. x.held ≡ []) s.players.items
  pub drainers : s.drainers ≡ p.drainers
  pub are : AreDrainers script (drain_seat script) option p
  pub standing : AreStanding p.drainers p.past
  pub drained : s.drained ≡ p.drained
  pub budget : s.budget ≡ p.budget
  pub few : s.drained ≤ s.budget
  pub most : IsBudget option s.budget
  pub settled : IsNoted s.world.setup s.world.past s.settled

-- the stage of the code is some progress
pub record SomeStands (script : Script) (option : Option ℕ) (s : Stage) : Type 0 where
  pub progress : Progress
  pub stands : StageStands script option progress s

-- no player has made more calls
abbrev pub MadeAtMost : ℕ → Stage → Type 0
MadeAtMost most s = EachPlayer (λ x. x.made ≤ most) s.players.items

-- the move of a kind leads to the stage
pub record Leads (script : Script) (option : Option ℕ) (Moves : Progress → Progress → Type 0) (before : Progress) (s : Stage) : Type 0 where
  pub after : Progress
  pub move : Moves before after
  pub stands : StageStands script option after s

-- a move of this kind was made
abbrev pub HasMoved : Script → Option ℕ → (Progress → Progress → Type 0) → Stage → Stage → Type 0
HasMoved script option Moves old new = (p : Progress) → StageStands script option p old → Leads script option Moves p new

-- the last drain was made, and so all drains ended
pub record Ended (script : Script) (option : Option ℕ) (before : Progress) (s : Stage) (ending : Drained) : Type 0 where
  pub after : Progress
  pub move : IsDrain all_pass script option before after
  pub stands : StageStands script option after s
  pub ends : EndsAs script.setup after ending

-- how drains ended, with this number of calls
abbrev pub with_made : ℕ → Drained → Drained
with_made made (Settled before) = Settled made
with_made made (Spent before key due) = Spent made key due

-- the lines before a place are done, from new actors of the drains on
pub record SoFar (script : Script) (option : Option ℕ) (place : ℕ) (s : Stage) : Type 0 where
  pub first : List Drainer
  pub new : AreNew (drain_seat script) script.node_names first
  pub progress : Progress
  pub stands : StageStands script option progress s
  pub moves : (end : Progress) → AreMoves script option end (drop place script.lines) progress → AreMoves script option end script.lines (first_progress option first)
