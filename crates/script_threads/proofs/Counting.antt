-- How many seats the lives of a run's actors take.
use Rattle.std.proofs.Common.{◌≡◌, ℕ, ◌+◌, ◌≤◌, List, [], ◌∷◌, ◌++◌, length, length-append, map, sum_by, Bool, true, false, true≢false, if◌then◌else◌, refl, sym, ap, subst, arith}
use Rattle.std.specs.Prelude.{bytes_eq}
use Rattle.std.proofs.lemmas.List.Sums.{sum_by-append, sum_by-cons, sum_by-take-le}
use Rattle.std.proofs.lemmas.Slice.Eq.{bytes_eq-Decides}
use Rattle.script_lines.specs.declared.actors.WorkerKind.{WorkerKind}
use Rattle.script_lines.specs.declared.actors.WorkerKind.TheVariants.{Binder, Ops, Scheduler, Claims, Volumes}
use Rattle.script_lines.specs.declared.actors.Actor.{Actor}
use Rattle.script_lines.specs.Actors.{actor_word}
use Rattle.script_text.specs.declared.script.Line.{Line}
use Rattle.script_text.specs.declared.script.Line.TheVariants as kinds_of_line
use Rattle.script_text.specs.declared.script.Script.{Script}
use Rattle.script_text.specs.Said.{restart_of, restarts_of}
use Rattle.script_runs.specs.Limits.{IsReadable}
use Rattle.script_runs.specs.Parts.{first_actor_seat}
use Rattle.script_runs.specs.Steps.Standing.{actors_for, agents_for, workers_of as all_workers_of}
use Rattle.script_runs.proofs.Casting.{how_many, words_differ}
use Rattle.script_runs.proofs.Orders.{all_differ, differs_from, first_differs}
use Rattle.script_threads.specs.Started.{after_lives, drain_seat, seat_after, started, started_for, started_part, workers_of}

-- ---- the restarts of a line are of one actor

abbrev restarts_at : List Actor → Line → ℕ
restarts_at [] line = 0
restarts_at (actor ∷ actors) line = length (restart_of (actor_word actor) line) + restarts_at actors line

abbrev restarts_in : List Actor → List Line → ℕ
restarts_in [] lines = 0
restarts_in (actor ∷ actors) lines = length (restarts_of (actor_word actor) lines) + restarts_in actors lines

-- a line that restarts nobody
none_at : (line : Line) (actors : List Actor) → ((name : List ℕ) → restart_of name line ≡ []) → restarts_at actors line ≡ 0
none_at line [] none = refl
none_at line (actor ∷ actors) none = let here = ap length (none (actor_word actor)) in let rest = none_at line actors none in omega (arith, here, rest)

-- none of these is the actor
no_other : (actor : Actor) (after : ℕ) (actors : List Actor) → differs_from (actor_word actor) (map actor_word actors) ≡ true → restarts_at actors (kinds_of_line.Restart actor after) ≡ 0
no_other actor after [] differs = refl
no_other actor after (x ∷ actors) differs = by (bytes_eq (actor_word actor) (actor_word x)) differs (no_other actor after actors)
  where
    by : (b : Bool) → (if b then false else differs_from (actor_word actor) (map actor_word actors)) ≡ true
        → (differs_from (actor_word actor) (map actor_word actors) ≡ true → restarts_at actors (kinds_of_line.Restart actor after) ≡ 0)
        → length (if b then after ∷ [] else []) + restarts_at actors (kinds_of_line.Restart actor after) ≡ 0
    by true d rest = absurd (true≢false (sym d))
    by false d rest = let r = rest d in omega (arith, r)

one_at : (actor : Actor) (after : ℕ) (actors : List Actor) → all_differ (map actor_word actors) ≡ true → restarts_at actors (kinds_of_line.Restart actor after) ≤ 1
one_at actor after [] differ = omega arith
one_at actor after (x ∷ actors) differ =
    let names = first_differs (actor_word x) (map actor_word actors) differ in
    by (bytes_eq (actor_word actor) (actor_word x)) refl names.0 (one_at actor after actors names.1)
  where
    by : (b : Bool) → bytes_eq (actor_word actor) (actor_word x) ≡ b → differs_from (actor_word x) (map actor_word actors) ≡ true → restarts_at actors (kinds_of_line.Restart actor after) ≤ 1
        → length (if b then after ∷ [] else []) + restarts_at actors (kinds_of_line.Restart actor after) ≤ 1
    by true is differs rest =
        let same : actor_word x ≡ actor_word actor = sym ((bytes_eq-Decides (actor_word actor) (actor_word x)).0 is) in
        let none = no_other actor after actors (subst (λ (name : List ℕ). differs_from name (map actor_word actors) ≡ true) same differs) in
        omega (arith, none)
    by false is differs rest = omega (arith, rest)

one_line : (line : Line) (actors : List Actor) → all_differ (map actor_word actors) ≡ true → restarts_at actors line ≤ 1
one_line (kinds_of_line.Restart actor after) actors differ = one_at actor after actors differ
one_line (kinds_of_line.Call user request) actors differ = let none = none_at (kinds_of_line.Call user request) actors (λ name. refl) in omega (arith, none)
one_line (kinds_of_line.Lose actor call after) actors differ = let none = none_at (kinds_of_line.Lose actor call after) actors (λ name. refl) in omega (arith, none)
one_line (kinds_of_line.Turn actor calls) actors differ = let none = none_at (kinds_of_line.Turn actor calls) actors (λ name. refl) in omega (arith, none)
one_line kinds_of_line.Drain actors differ = let none = none_at kinds_of_line.Drain actors (λ name. refl) in omega (arith, none)

-- ---- so there are no more of them than lines

no_lines : (actors : List Actor) → restarts_in actors [] ≡ 0
no_lines [] = refl
no_lines (actor ∷ actors) = let rest = no_lines actors in omega (arith, rest)

more_lines : (actors : List Actor) (line : Line) (lines : List Line) → restarts_in actors (line ∷ lines) ≡ restarts_at actors line + restarts_in actors lines
more_lines [] line lines = refl
more_lines (actor ∷ actors) line lines =
    let here = length-append (restart_of (actor_word actor) line) (restarts_of (actor_word actor) lines) in
    let rest = more_lines actors line lines in
    omega (arith, here, rest)

few_restarts : (actors : List Actor) (lines : List Line) → all_differ (map actor_word actors) ≡ true → restarts_in actors lines ≤ length lines
few_restarts actors [] differ = let none = no_lines actors in omega (arith, none)
few_restarts actors (line ∷ lines) differ =
    let split = more_lines actors line lines in
    let here = one_line line actors differ in
    let rest = few_restarts actors lines differ in
    omega (arith, split, here, rest)

-- ---- the lives

abbrev lives : List Line → Actor → ℕ
lives lines actor = 1 + length (restarts_of (actor_word actor) lines)

all_lives : (lines : List Line) (actors : List Actor) → sum_by (lives lines) actors ≡ length actors + restarts_in actors lines
all_lives lines [] = refl
all_lives lines (actor ∷ actors) =
    let here = sum_by-cons (lives lines) actor actors in
    let rest = all_lives lines actors in
    omega (arith, here, rest)

seats_sum : (lines : List Line) (first : ℕ) (actors : List Actor) → seat_after lines first actors ≡ first + sum_by (lives lines) actors
seats_sum lines first [] = omega arith
seats_sum lines first (actor ∷ actors) =
    let here = sum_by-cons (lives lines) actor actors in
    let rest = seats_sum lines (after_lives (started_part lines actor first)) actors in
    omega (arith, here, rest)

-- those of some of the workers of a kind, and of others
some_of_kind : (f : Actor → ℕ) (workers : ℕ) (kind : WorkerKind) (some all : List Actor) → sum_by f some ≤ sum_by f all
    → sum_by f (workers_of workers kind ++ some) ≤ sum_by f (all_workers_of kind ++ all)
some_of_kind f workers kind some all fewer =
    let few = sum_by-take-le f (all_workers_of kind) workers in
    let ones = sum_by-append f (workers_of workers kind) some in
    let others = sum_by-append f (all_workers_of kind) all in
    omega (arith, few, ones, others, fewer)

some_of_all : (f : Actor → ℕ) (workers : ℕ) (nodes : List (List ℕ)) → sum_by f (started_for workers nodes) ≤ sum_by f (actors_for nodes)
unfolding actors_for
some_of_all f workers nodes =
    let some_volumes = workers_of workers Volumes ++ agents_for nodes in
    let all_volumes = all_workers_of Volumes ++ agents_for nodes in
    let some_claims = workers_of workers Claims ++ some_volumes in
    let all_claims = all_workers_of Claims ++ all_volumes in
    let some_schedulers = workers_of workers Scheduler ++ some_claims in
    let all_schedulers = all_workers_of Scheduler ++ all_claims in
    some_of_kind f workers Binder (workers_of workers Ops ++ some_schedulers) (all_workers_of Ops ++ all_schedulers)
    (some_of_kind f workers Ops some_schedulers all_schedulers
    (some_of_kind f workers Scheduler some_claims all_claims
    (some_of_kind f workers Claims some_volumes all_volumes
    (some_of_kind f workers Volumes (agents_for nodes) (agents_for nodes) (omega arith)))))

-- at most 8 agents and 20 workers have one life each, and one more for each restart line
pub few_seats : (script : Script) (workers : ℕ) → IsReadable script → drain_seat workers script ≤ 4129
few_seats script workers readable =
    let nodes = script.node_names in
    let sum = seats_sum script.lines first_actor_seat (started workers script) in
    let some = some_of_all (lives script.lines) workers nodes in
    let all = all_lives script.lines (actors_for nodes) in
    let many = how_many nodes in
    let restarts = few_restarts (actors_for nodes) script.lines (words_differ nodes readable.order) in
    let lines = readable.few in
    let few = readable.nodes in
    omega (arith, sum, some, all, many, restarts, lines, few)

-- and no more than 28 actors are started
pub few_actors : (workers : ℕ) (nodes : List (List ℕ)) → length nodes ≤ 8 → length (started_for workers nodes) ≤ 28
few_actors workers nodes few =
    let one = all_lives [] (started_for workers nodes) in
    let none = no_lines (started_for workers nodes) in
    let some = some_of_all (lives []) workers nodes in
    let all = all_lives [] (actors_for nodes) in
    let no_restarts = no_lines (actors_for nodes) in
    let many = how_many nodes in
    omega (arith, one, none, some, all, no_restarts, many, few)

-- the seats of later actors come after those of earlier ones
pub seats_rise : (lines : List Line) (first : ℕ) (actors : List Actor) → first ≤ seat_after lines first actors
seats_rise lines first actors = let sum = seats_sum lines first actors in omega (arith, sum)
