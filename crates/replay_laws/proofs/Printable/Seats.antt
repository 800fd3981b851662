-- The seats of a script's actors are numbers of 64 bits.
use Rattle.std.proofs.Common.{ap, inl, inr, arith}
use Rattle.std.specs.Prelude.{◌≡◌, ℕ, ◌+◌, ◌*◌, ◌<◌, ◌≤◌, suc, Bool, true, false, bytes_eq, nat_lt, List, [], ◌∷◌, Option, Some, None, length, map, if◌then◌else◌}
use Rattle.std.specs.declared.cmp.Ordering.{Ordering}
use Rattle.std.specs.declared.cmp.Ordering.TheVariants.{Less, Equal, Greater}
use Rattle.std.specs.Ordering.{match_ordering}
use Rattle.std.proofs.lemmas.List.{length-append, length-map}
use Rattle.plain_data.specs.Pairs.{Pair, pair_key, text_cmp}
use Rattle.plain_data.specs.Rows.{put}
use Rattle.kube_objects.specs.declared.objects.Object.{Object}
use Rattle.script_lines.specs.declared.actors.Worker.{Worker as WorkerData}
use Rattle.script_lines.specs.declared.actors.Actor.{Actor}
use Rattle.script_lines.specs.declared.actors.Actor.TheVariants.{Worker, Agent}
use Rattle.script_lines.specs.Actors.{actor_word, agent_word, all_workers}
use Rattle.script_text.specs.declared.script.Line.{Line}
use Rattle.script_text.specs.declared.script.Script.{Script}
use Rattle.script_text.specs.Said.{created_node, imported_node, and_node, imported_after, agents_after, agents_of, nodes_of, restarts_of}
use Rattle.script_laws.specs.Read.Scripts.{IsScript}
use Rattle.script_runs.specs.Parts.{is_named, lives_in, all_actors, lives_before, all_lives, drain_seat, part_of}
use Rattle.actor_turns.specs.Calls.{restarts_before, seat_at}
use Rattle.actor_rounds.specs.Drainers.{seats_for, seats_from}
use Rattle.actor_rounds.specs.Longer.{IsOneOf}
use Rattle.history_laws.specs.Read.Given.{IsNumber}
use Rattle.script_runs.proofs.Casting.{few_restarts, few_lives}

-- ---- how many there are

put_few : (x : Pair) (xs : List Pair) → length (put text_cmp pair_key x xs) ≤ length xs + 1
put_few x [] = omega arith
put_few x (y ∷ ys) = by (text_cmp (pair_key y) (pair_key x)) (put_few x ys)
  where
    by : (o : Ordering) → length (put text_cmp pair_key x ys) ≤ length ys + 1 → length (match_ordering o (y ∷ put text_cmp pair_key x ys) (x ∷ ys) (x ∷ y ∷ ys)) ≤ suc (length ys) + 1
    by Less rest = omega arith
    by Equal rest = omega arith
    by Greater rest = omega arith

and_few : (agents : List Pair) (node : Option (List ℕ)) → length (and_node agents node) ≤ length agents + 1
and_few agents None = omega arith
and_few agents (Some node) = put_few (agent_word node, node) agents

imported_few : (agents : List Pair) (imports : List Object) → length (imported_after agents imports) ≤ length agents + length imports
imported_few agents [] = omega arith
imported_few agents (o ∷ os) =
    let here = and_few agents (imported_node o) in
    let rest = imported_few (and_node agents (imported_node o)) os in
    omega (arith, here, rest)

agents_few : (agents : List Pair) (lines : List Line) → length (agents_after agents lines) ≤ length agents + length lines
agents_few agents [] = omega arith
agents_few agents (line ∷ lines) =
    let here = and_few agents (created_node line) in
    let rest = agents_few (and_node agents (created_node line)) lines in
    omega (arith, here, rest)

in_few : (name : List ℕ) (lines : List Line) → length lines ≤ 4096 → lives_in name lines ≤ 4097
in_few name lines few =
    let lives = few_lives (is_named name lines) (length (restarts_of name lines)) in
    let restarts = few_restarts name lines in
    omega (arith, lives, restarts, few)

before_few : (name : List ℕ) (actors : List Actor) (lines : List Line) → length lines ≤ 4096 → lives_before name actors lines ≤ 4097 * length actors
before_few name [] lines few = omega arith
before_few name (actor ∷ actors) lines few = by (bytes_eq (actor_word actor) name) (before_few name actors lines few) (in_few (actor_word actor) lines few)
  where
    by : (b : Bool) → lives_before name actors lines ≤ 4097 * length actors → lives_in (actor_word actor) lines ≤ 4097
        → (if b then 0 else lives_in (actor_word actor) lines + lives_before name actors lines) ≤ 4097 * suc (length actors)
    by true rest here = omega arith
    by false rest here = omega arith

all_few : (actors : List Actor) (lines : List Line) → length lines ≤ 4096 → all_lives actors lines ≤ 4097 * length actors
all_few [] lines few = omega arith
all_few (actor ∷ actors) lines few =
    let here = in_few (actor_word actor) lines few in
    let rest = all_few actors lines few in
    omega (arith, here, rest)

pub before_restarts : (n : ℕ) (restarts : List ℕ) → restarts_before n restarts ≤ length restarts
before_restarts n [] = omega arith
before_restarts n (after ∷ restarts) = by (nat_lt after n) (before_restarts n restarts)
  where
    by : (b : Bool) → restarts_before n restarts ≤ length restarts → (if b then 1 + restarts_before n restarts else restarts_before n restarts) ≤ suc (length restarts)
    by true rest = omega arith
    by false rest = omega arith

-- ---- of a script

module _ (script : Script) (is : IsScript script) where
  pub lines_few : length script.lines ≤ 4096
  lines_few = let few = is.few_lines in omega (arith, few)

  pub nodes_few : length script.node_names ≤ 4096
  nodes_few =
      let few = is.few_lines in
      let imported = imported_few [] script.setup.imports in
      let agents = agents_few (imported_after [] script.setup.imports) script.lines in
      let long = length-map (agents_of script.setup.imports script.lines) (λ (p : Pair). p.1) in
      let same : length script.node_names ≡ length (nodes_of (agents_of script.setup.imports script.lines)) = ap length is.nodes in
      omega (arith, few, imported, agents, long, same)

  actors_few : length (all_actors script) ≤ 4116
  actors_few =
      let few = nodes_few in
      let agents = length-map script.node_names (λ (node : List ℕ). Agent node) in
      let sum = length-append (map (λ (w : WorkerData). Worker w) all_workers) (map (λ (node : List ℕ). Agent node) script.node_names) in
      omega (arith, few, agents, sum)

  -- a life's seat
  pub life_seat : (actor : Actor) (n : ℕ) → IsNumber (seat_at (part_of script actor) n)
  life_seat actor n =
      let few = actors_few in
      let lines = lines_few in
      let before = before_few (actor_word actor) (all_actors script) script.lines lines_few in
      let restarts = few_restarts (actor_word actor) script.lines in
      let lives = before_restarts n (restarts_of (actor_word actor) script.lines) in
      omega (arith, few, lines, before, restarts, lives)

  pub drain_high : drain_seat script ≤ 16863257
  drain_high =
      let few = actors_few in
      let lives = all_few (all_actors script) script.lines lines_few in
      omega (arith, few, lives)

  seats_below : (from : ℕ) (nodes : List (List ℕ)) (seat : ℕ) → IsOneOf (seats_from from nodes) seat → seat < from + length nodes
  seats_below from [] seat h = absurd h
  seats_below from (node ∷ nodes) seat (inl e) = omega (arith, e)
  seats_below from (node ∷ nodes) seat (inr later) = let rest = seats_below (from + 1) nodes seat later in omega (arith, rest)

  -- the seat of a drain whose first seat is this one
  pub drainer_seat : (first : ℕ) → first ≤ 16863257 → (seat : ℕ) → IsOneOf (seats_for first script.node_names) seat → IsNumber seat
  drainer_seat first high seat h = by nodes_few h
    where
      by : length script.node_names ≤ 4096 → IsOneOf (seats_for first script.node_names) seat → IsNumber seat
      by few (inl e) = omega (arith, high, e)
      by few (inr (inl e)) = omega (arith, high, e)
      by few (inr (inr (inl e))) = omega (arith, high, e)
      by few (inr (inr (inr (inl e)))) = omega (arith, high, e)
      by few (inr (inr (inr (inr (inl e))))) = omega (arith, high, e)
      by few (inr (inr (inr (inr (inr later))))) = let below = seats_below (first + 5) script.node_names seat later in omega (arith, high, few, below)
