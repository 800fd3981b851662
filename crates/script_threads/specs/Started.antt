-- Which actors a run on threads starts, and what a script says of each.
-- The users have the first four seats. Then come the lives of the actors, in the order of the actors: one life, and one more for
-- each restart line. Then come the actors of the drain. Lines of actors that are not started, turns and drains have no effect.
-- A choice of this project.
use Rattle.std.specs.Prelude.{ℕ, ◌+◌, true, List, [], ◌∷◌, ◌++◌, map, take, ⊤}
use Rattle.script_lines.specs.declared.actors.WorkerKind.{WorkerKind}
use Rattle.script_lines.specs.declared.actors.WorkerKind.TheVariants.{Binder, Ops, Scheduler, Claims, Volumes}
use Rattle.script_lines.specs.declared.actors.Actor.{Actor}
use Rattle.script_lines.specs.declared.actors.Actor.TheVariants.{Worker, Agent}
use Rattle.script_lines.specs.Actors.{actor_word, four}
use Rattle.script_text.specs.declared.script.Line.{Line}
use Rattle.script_text.specs.declared.script.Script.{Script}
use Rattle.actor_turns.specs.declared.part.Part.{Part}
use Rattle.actor_turns.specs.Parts.{lives_of}
use Rattle.script_runs.specs.Parts.{first_actor_seat, part_at, seat_kind_of}

-- ---- which they are

-- the first of the workers of a kind: so many
abbrev pub workers_of : ℕ → WorkerKind → List Actor
workers_of workers kind = take workers (map (λ w. Worker w) (four kind))

-- so many workers of each kind, and then an agent of each of these nodes
abbrev pub started_for : ℕ → List (List ℕ) → List Actor
started_for workers nodes = workers_of workers Binder ++ (workers_of workers Ops ++
    (workers_of workers Scheduler ++ (workers_of workers Claims ++ (workers_of workers Volumes ++ map (λ node. Agent node) nodes))))

-- the actors of a run
abbrev pub started : ℕ → Script → List Actor
started workers script = started_for workers script.node_names

-- ---- their parts

-- the part of an actor whose first life has this seat: it takes part
abbrev pub started_part : List Line → Actor → ℕ → Part
started_part lines actor first = part_at true (actor_word actor) (seat_kind_of actor) first lines

-- the seat after those of the lives of a part
abbrev pub after_lives : Part → ℕ
after_lives part = part.first + lives_of part

-- it is so of each of these actors with its part. The first one's first life has this seat, each other's comes after the lives
-- of the actor before it
abbrev pub EachStarted : (Actor → Part → Type 0) → List Line → ℕ → List Actor → Type 0
EachStarted Is lines first [] = ⊤
EachStarted Is lines first (actor ∷ actors) = Is actor (started_part lines actor first) × EachStarted Is lines (after_lives (started_part lines actor first)) actors

-- the seat after those of the lives of these actors
abbrev pub seat_after : List Line → ℕ → List Actor → ℕ
seat_after lines first [] = first
seat_after lines first (actor ∷ actors) = seat_after lines (after_lives (started_part lines actor first)) actors

-- it is so of each actor of a run
abbrev pub EachActor : (Actor → Part → Type 0) → ℕ → Script → Type 0
EachActor Is workers script = EachStarted Is script.lines first_actor_seat (started workers script)

-- the first seat of the drain
abbrev pub drain_seat : ℕ → Script → ℕ
drain_seat workers script = seat_after script.lines first_actor_seat (started workers script)
