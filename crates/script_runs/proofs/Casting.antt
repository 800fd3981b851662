-- The parts of all actors, and the seats of the drains after them.
use Rattle.std.proofs.Common.{◌≡◌, ℕ, ◌+◌, ◌*◌, ◌≤◌, zero, suc, List, [], ◌∷◌, ◌++◌, length, length-append, map, Bool, true, false, true≢false, if◌then◌else◌, Some, refl, sym, ◌∙◌, ap, subst, arith}
use Rattle.std.specs.Prelude.{bytes_eq, slice_get, ◌||◌}
use Rattle.std.specs.declared.cmp.Ordering.TheVariants.{Less, Equal}
use Rattle.std.proofs.lemmas.Cmp.{nat_list_cmp_total, tied_itself}
use Rattle.std.proofs.lemmas.List.{length-map}
use Rattle.std.proofs.lemmas.Slice.Eq.{bytes_eq-Decides}
use Rattle.plain_data.specs.Pairs.{text_cmp}
use Rattle.plain_data.specs.Rows.{IsAfter}
use Rattle.kube_objects.specs.Bindings.{has_name}
use Rattle.model_laws.proofs.Lists.{none_some, one}
use Rattle.worker_core.specs.Roles.{IsBuiltKind}
use Rattle.script_lines.specs.declared.actors.WorkerKind.{WorkerKind}
use Rattle.script_lines.specs.declared.actors.WorkerKind.TheVariants as workers
use Rattle.script_lines.specs.declared.actors.WorkerNumber.{WorkerNumber}
use Rattle.script_lines.specs.declared.actors.WorkerNumber.TheVariants.{One, Two, Three, Four}
use Rattle.script_lines.specs.declared.actors.Actor.{Actor}
use Rattle.script_lines.specs.declared.actors.Actor.TheVariants.{Worker, Agent}
use Rattle.script_text.specs.declared.script.Line.{Line}
use Rattle.script_text.specs.declared.script.Line.TheVariants as kinds_of_line
use Rattle.script_text.specs.declared.script.Script.{Script}
use Rattle.script_lines.specs.Actors.{actor_word, agent_word, kind_prefix, number_word}
use Rattle.script_text.specs.Said.{restart_of, restarts_of}
use Rattle.actor_turns.specs.declared.part.Part.{Part}
use Rattle.script_runs.specs.Limits.{NamesAreInOrder as NamesInOrder, AreWithinLimits, IsKnown, IsWithinLimits, NameKnown, NamesKnown}
use Rattle.actor_turns.specs.Parts.{lives_by}
use Rattle.script_runs.specs.Parts.{all_actors, all_lives, drain_seat, first_actor_seat, is_named, seat_kind_of, kind_of_worker, is_turn_of, lives_before, lives_in, part_of}
use Rattle.script_runs.specs.Steps.Standing.{
  agents_for,
  actors_for,
  all_parts,
  end_of,
  part_from,
  parts_from,
  place_of,
  place_of_kind,
  place_of_node,
  place_of_number,
  seat_of_drains,
  seat_past,
  workers_of,
}
use Rattle.script_runs.proofs.Orders.{AreInOrder, all_differ, all_more, differs_at, differs_from, first_differs}

-- ---- the actors

-- each actor is of a kind of actors
worker_built : (k : WorkerKind) → IsBuiltKind (kind_of_worker k)
worker_built workers.Binder = tt
worker_built workers.Ops = tt
worker_built workers.Scheduler = tt
worker_built workers.Claims = tt
worker_built workers.Volumes = tt

pub actor_built : (actor : Actor) → IsBuiltKind (seat_kind_of actor)
actor_built (Worker w) = worker_built w.kind
actor_built (Agent node) = tt

no_agent : (k : WorkerKind) (n : WorkerNumber) (node : List ℕ) → bytes_eq (kind_prefix k ++ number_word n) (agent_word node) ≡ false
no_agent workers.Binder n node = refl
no_agent workers.Ops n node = refl
no_agent workers.Scheduler n node = refl
no_agent workers.Claims n node = refl
no_agent workers.Volumes n node = refl

are_all : (script : Script) → all_actors script ≡ actors_for script.node_names
unfolding actors_for
are_all script = refl

abbrev all_of_kinds : List Actor
all_of_kinds = workers_of workers.Binder ++ (workers_of workers.Ops ++ (workers_of workers.Scheduler ++ (workers_of workers.Claims ++ workers_of workers.Volumes)))

-- ---- their places

worker_at : (k : WorkerKind) (n : WorkerNumber) (nodes : List (List ℕ)) → slice_get (actors_for nodes) (place_of_kind k + place_of_number n) ≡ Some (Worker (record { kind = k; number = n }))
unfolding actors_for
worker_at workers.Binder One nodes = refl
worker_at workers.Binder Two nodes = refl
worker_at workers.Binder Three nodes = refl
worker_at workers.Binder Four nodes = refl
worker_at workers.Ops One nodes = refl
worker_at workers.Ops Two nodes = refl
worker_at workers.Ops Three nodes = refl
worker_at workers.Ops Four nodes = refl
worker_at workers.Scheduler One nodes = refl
worker_at workers.Scheduler Two nodes = refl
worker_at workers.Scheduler Three nodes = refl
worker_at workers.Scheduler Four nodes = refl
worker_at workers.Claims One nodes = refl
worker_at workers.Claims Two nodes = refl
worker_at workers.Claims Three nodes = refl
worker_at workers.Claims Four nodes = refl
worker_at workers.Volumes One nodes = refl
worker_at workers.Volumes Two nodes = refl
worker_at workers.Volumes Three nodes = refl
worker_at workers.Volumes Four nodes = refl

get_after : (xs ys : List Actor) (n i : ℕ) → n ≡ length xs + i → slice_get (xs ++ ys) n ≡ slice_get ys i
get_after [] ys n i is = ap (slice_get ys) (omega (arith, is))
get_after (x ∷ xs) ys zero i is = absurd (omega (arith, is))
get_after (x ∷ xs) ys (suc n) i is = get_after xs ys n i (omega (arith, is))

agent_among : (nodes : List (List ℕ)) (node : List ℕ) → has_name node nodes ≡ true → slice_get (agents_for nodes) (place_of_node node nodes) ≡ Some (Agent node)
agent_among [] node known = absurd (true≢false (sym known))
agent_among (n ∷ nodes) node known = by (bytes_eq n node) refl known (agent_among nodes node)
  where
    by : (b : Bool) → bytes_eq n node ≡ b → (b || has_name node nodes) ≡ true → (has_name node nodes ≡ true → slice_get (agents_for nodes) (place_of_node node nodes) ≡ Some (Agent node))
        → slice_get (agents_for (n ∷ nodes)) (if b then 0 else 1 + place_of_node node nodes) ≡ Some (Agent node)
    by true is known rest = ap (λ (name : List ℕ). Some (Agent name)) ((bytes_eq-Decides n node).0 is)
    by false is known rest =
        let next : 1 + place_of_node node nodes ≡ suc (place_of_node node nodes) = omega arith in
        subst (λ k. slice_get (agents_for (n ∷ nodes)) k ≡ Some (Agent node)) (sym next) (rest known)

agent_at : (nodes : List (List ℕ)) (node : List ℕ) → has_name node nodes ≡ true → slice_get (actors_for nodes) (20 + place_of_node node nodes) ≡ Some (Agent node)
unfolding actors_for
agent_at nodes node known =
    get_after all_of_kinds (agents_for nodes) (20 + place_of_node node nodes) (place_of_node node nodes) refl ∙ agent_among nodes node known

pub actor_at : (nodes : List (List ℕ)) (actor : Actor) → IsKnown nodes actor → slice_get (actors_for nodes) (place_of nodes actor) ≡ Some actor
actor_at nodes (Worker w) known = worker_at w.kind w.number nodes
actor_at nodes (Agent node) known = agent_at nodes node known

-- ---- their names differ

-- a name of a worker is none of an agent
worker_or_agent : (k : WorkerKind) (n : WorkerNumber) (nodes : List (List ℕ)) → differs_from (kind_prefix k ++ number_word n) (map agent_word nodes) ≡ true
worker_or_agent k n [] = refl
worker_or_agent k n (node ∷ nodes) = rw (no_agent k n node) (worker_or_agent k n nodes)

workers_or_agents : (nodes : List (List ℕ)) (i : ℕ) (name : List ℕ) → slice_get (map actor_word all_of_kinds) i ≡ Some name → differs_from name (map agent_word nodes) ≡ true
workers_or_agents nodes i name at = by i at
  where
    is : (k : WorkerKind) (n : WorkerNumber) → Some (kind_prefix k ++ number_word n) ≡ Some name → differs_from name (map agent_word nodes) ≡ true
    is k n e = subst (λ (x : List ℕ). differs_from x (map agent_word nodes) ≡ true) (one (kind_prefix k ++ number_word n) name e) (worker_or_agent k n nodes)

    by : (j : ℕ) → slice_get (map actor_word all_of_kinds) j ≡ Some name → differs_from name (map agent_word nodes) ≡ true
    by zero e = is workers.Binder One e
    by (suc zero) e = is workers.Binder Two e
    by (suc (suc zero)) e = is workers.Binder Three e
    by (suc (suc (suc zero))) e = is workers.Binder Four e
    by (suc (suc (suc (suc zero)))) e = is workers.Ops One e
    by (suc (suc (suc (suc (suc zero))))) e = is workers.Ops Two e
    by (suc (suc (suc (suc (suc (suc zero)))))) e = is workers.Ops Three e
    by (suc (suc (suc (suc (suc (suc (suc zero))))))) e = is workers.Ops Four e
    by (suc (suc (suc (suc (suc (suc (suc (suc zero)))))))) e = is workers.Scheduler One e
    by (suc (suc (suc (suc (suc (suc (suc (suc (suc zero))))))))) e = is workers.Scheduler Two e
    by (suc (suc (suc (suc (suc (suc (suc (suc (suc (suc zero)))))))))) e = is workers.Scheduler Three e
    by (suc (suc (suc (suc (suc (suc (suc (suc (suc (suc (suc zero))))))))))) e = is workers.Scheduler Four e
    by (suc (suc (suc (suc (suc (suc (suc (suc (suc (suc (suc (suc zero)))))))))))) e = is workers.Claims One e
    by (suc (suc (suc (suc (suc (suc (suc (suc (suc (suc (suc (suc (suc zero))))))))))))) e = is workers.Claims Two e
    by (suc (suc (suc (suc (suc (suc (suc (suc (suc (suc (suc (suc (suc (suc zero)))))))))))))) e = is workers.Claims Three e
    by (suc (suc (suc (suc (suc (suc (suc (suc (suc (suc (suc (suc (suc (suc (suc zero))))))))))))))) e = is workers.Claims Four e
    by (suc (suc (suc (suc (suc (suc (suc (suc (suc (suc (suc (suc (suc (suc (suc (suc zero)))))))))))))))) e = is workers.Volumes One e
    by (suc (suc (suc (suc (suc (suc (suc (suc (suc (suc (suc (suc (suc (suc (suc (suc (suc zero))))))))))))))))) e = is workers.Volumes Two e
    by (suc (suc (suc (suc (suc (suc (suc (suc (suc (suc (suc (suc (suc (suc (suc (suc (suc (suc zero)))))))))))))))))) e = is workers.Volumes Three e
    by (suc (suc (suc (suc (suc (suc (suc (suc (suc (suc (suc (suc (suc (suc (suc (suc (suc (suc (suc zero))))))))))))))))))) e = is workers.Volumes Four e
    by (suc (suc (suc (suc (suc (suc (suc (suc (suc (suc (suc (suc (suc (suc (suc (suc (suc (suc (suc (suc j)))))))))))))))))))) e = none_some e

-- names in order differ
less_differs : (a b : List ℕ) → text_cmp a b ≡ Less → bytes_eq a b ≡ false
less_differs a b less = by (bytes_eq a b) refl
  where
    by : (t : Bool) → bytes_eq a b ≡ t → bytes_eq a b ≡ false
    by true e =
        let same = ap (text_cmp a) (sym ((bytes_eq-Decides a b).0 e)) ∙ tied_itself nat_list_cmp_total a in
        let both : Less ≡ Equal = sym less ∙ same in
        absurd (cc)
    by false e = e

agent_differs : (node : List ℕ) (nodes : List (List ℕ)) → IsAfter text_cmp (λ (name : List ℕ). name) node nodes → differs_from (agent_word node) (map agent_word nodes) ≡ true
agent_differs node [] after = refl
agent_differs node (other ∷ nodes) after = rw (less_differs node other after.0) (agent_differs node nodes after.1)

agents_differ : (nodes : List (List ℕ)) → NamesInOrder nodes → all_differ (map agent_word nodes) ≡ true
agents_differ [] order = refl
agents_differ (node ∷ nodes) order = rw (agent_differs node nodes order.0) (agents_differ nodes order.1)

words_of : (nodes : List (List ℕ)) → map actor_word (agents_for nodes) ≡ map agent_word nodes
words_of [] = refl
words_of (node ∷ nodes) = ap (λ names. agent_word node ∷ names) (words_of nodes)

pub words_differ : (nodes : List (List ℕ)) → NamesInOrder nodes → all_differ (map actor_word (actors_for nodes)) ≡ true
unfolding actors_for
words_differ nodes order =
    ap (λ names. all_differ (map actor_word all_of_kinds ++ names)) (words_of nodes)
    ∙ all_more (map actor_word all_of_kinds) (map agent_word nodes) refl (workers_or_agents nodes) (agents_differ nodes order)

-- ---- the seats of the drains, after all lives

lives_sum : (lines : List Line) (actors : List Actor) (first : ℕ) → seat_past lines actors first ≡ first + all_lives actors lines
lives_sum lines [] first = omega arith
lives_sum lines (actor ∷ actors) first = let rest = lives_sum lines actors (end_of (part_from lines actor first)) in omega (arith, rest)

pub drains_after : (script : Script) → drain_seat script ≡ seat_of_drains script
drains_after script = sym (lives_sum script.lines (all_actors script) first_actor_seat) ∙ ap (λ actors. seat_past script.lines actors first_actor_seat) (are_all script)

-- ---- the parts

if_same : (b : Bool) (lives : ℕ) → b ≡ true → (if b then 0 else lives) ≡ 0
if_same true lives same = refl
if_same false lives same = absurd (true≢false (sym same))

if_other : (b : Bool) (lives : ℕ) → b ≡ false → (if b then 0 else lives) ≡ lives
if_other true lives differs = absurd (true≢false differs)
if_other false lives differs = refl

add_none : (first n : ℕ) → n ≡ 0 → first ≡ first + n
add_none first n none = omega (arith, none)

add_more : (first lives rest n : ℕ) → n ≡ lives + rest → first + lives + rest ≡ first + n
add_more first lives rest n is = omega (arith, is)

-- before an actor there are no lives of itself
before_own : (lines : List Line) (x : Actor) (actors : List Actor) (actor : Actor) → x ≡ actor → lives_before (actor_word actor) (x ∷ actors) lines ≡ 0
before_own lines x actors actor is = if_same (bytes_eq (actor_word x) (actor_word actor)) (lives_in (actor_word x) lines + lives_before
    (actor_word actor) actors lines) ((bytes_eq-Decides (actor_word x) (actor_word actor)).1 (ap actor_word is))

-- but those of each other actor
before_other : (lines : List Line) (x : Actor) (actors : List Actor) (actor : Actor) → bytes_eq (actor_word x) (actor_word actor) ≡ false
    → lives_before (actor_word actor) (x ∷ actors) lines ≡ lives_in (actor_word x) lines + lives_before (actor_word actor) actors lines
before_other lines x actors actor differs = if_other (bytes_eq (actor_word x) (actor_word actor)) (lives_in (actor_word x) lines + lives_before (actor_word actor) actors lines) differs

name_at : (actors : List Actor) (i : ℕ) (actor : Actor) → slice_get actors i ≡ Some actor → slice_get (map actor_word actors) i ≡ Some (actor_word actor)
name_at [] i actor at = none_some at
name_at (x ∷ actors) zero actor at = ap (λ (y : Actor). Some (actor_word y)) (one x actor at)
name_at (x ∷ actors) (suc i) actor at = name_at actors i actor at

-- the part at the place of an actor begins after the lives of the actors before it
part_there : (lines : List Line) (actors : List Actor) (actor : Actor) (first i : ℕ) → all_differ (map actor_word actors) ≡ true → slice_get actors i ≡ Some actor
    → slice_get (parts_from lines actors first) i ≡ Some (part_from lines actor (first + lives_before (actor_word actor) actors lines))
part_there lines [] actor first i differ at = none_some at
part_there lines (x ∷ actors) actor first zero differ at =
    let same = one x actor at in
    let sum : first ≡ first + lives_before (actor_word actor) (x ∷ actors) lines = add_none first _ (before_own lines x actors actor same) in
    ap (λ (y : Actor). Some (part_from lines y first)) same ∙ ap (λ n. Some (part_from lines actor n)) sum
part_there lines (x ∷ actors) actor first (suc i) differ at =
    let names = first_differs (actor_word x) (map actor_word actors) differ in
    let other = differs_at (actor_word x) (map actor_word actors) i (actor_word actor) names.0 (name_at actors i actor at) in
    let passed = before_other lines x actors actor other in
    let sum : end_of (part_from lines x first) + lives_before (actor_word actor) actors lines ≡ first + lives_before (actor_word actor) (x ∷ actors) lines
    = add_more first (lives_in (actor_word x) lines) (lives_before (actor_word actor) actors lines) _ passed in
    part_there lines actors actor (end_of (part_from lines x first)) i names.1 at ∙ ap (λ n. Some (part_from lines actor n)) sum

pub part_of_actor : (script : Script) (actor : Actor) → NamesInOrder script.node_names → IsKnown script.node_names actor
    → slice_get (all_parts script) (place_of script.node_names actor) ≡ Some (part_of script actor)
part_of_actor script actor order known =
    let are = are_all script in
    let differ = ap (λ actors. all_differ (map actor_word actors)) are ∙ words_differ script.node_names order in
    let there = ap (λ actors. slice_get actors (place_of script.node_names actor)) are ∙ actor_at script.node_names actor known in
    subst (λ actors. slice_get (parts_from script.lines actors first_actor_seat) (place_of script.node_names actor) ≡ Some (part_of script actor)) are
    (part_there script.lines (all_actors script) actor first_actor_seat (place_of script.node_names actor) differ there)

-- ---- the parts stand in the order of their seats, and have names of their own

order_of : (lines : List Line) (actors : List Actor) (first : ℕ) → AreInOrder first (parts_from lines actors first) (seat_past lines actors first)
order_of lines [] first = omega arith
order_of lines (actor ∷ actors) first = (omega arith, order_of lines actors (end_of (part_from lines actor first)))

pub in_order : (script : Script) → AreInOrder first_actor_seat (all_parts script) (seat_of_drains script)
in_order script = order_of script.lines (actors_for script.node_names) first_actor_seat

abbrev pub names_in : List Part → List (List ℕ)
names_in ps = map (λ (p : Part). p.name) ps

names_of : (lines : List Line) (actors : List Actor) (first : ℕ) → names_in (parts_from lines actors first) ≡ map actor_word actors
names_of lines [] first = refl
names_of lines (actor ∷ actors) first = ap (λ names. actor_word actor ∷ names) (names_of lines actors (end_of (part_from lines actor first)))

pub names_differ : (script : Script) → NamesInOrder script.node_names → all_differ (names_in (all_parts script)) ≡ true
names_differ script order = ap all_differ (names_of script.lines (actors_for script.node_names) first_actor_seat) ∙ words_differ script.node_names order

-- ---- the seats are small

one_restart : (name : List ℕ) (line : Line) → length (restart_of name line) ≤ 1
one_restart name (kinds_of_line.Restart a after) = by (bytes_eq (actor_word a) name)
  where
    by : (b : Bool) → length (if b then after ∷ [] else []) ≤ 1
    by true = omega arith
    by false = omega arith
one_restart name (kinds_of_line.Call user request) = omega arith
one_restart name (kinds_of_line.Lose a call after) = omega arith
one_restart name (kinds_of_line.Turn a calls) = omega arith
one_restart name kinds_of_line.Drain = omega arith

-- an actor has no more restarts than there are lines
pub few_restarts : (name : List ℕ) (lines : List Line) → length (restarts_of name lines) ≤ length lines
few_restarts name [] = omega arith
few_restarts name (line ∷ lines) =
    let here = one_restart name line in
    let rest = few_restarts name lines in
    let long = length-append (restart_of name line) (restarts_of name lines) in
    omega (arith, here, rest, long)

pub few_lives : (named : Bool) (restarts : ℕ) → lives_by named restarts ≤ 1 + restarts
few_lives true restarts = omega arith
few_lives false restarts = omega arith

pub few_end : (lines : List Line) (actor : Actor) (first : ℕ) → length lines ≤ 4096 → end_of (part_from lines actor first) ≤ first + 4097
few_end lines actor first few =
    let lives = few_lives (is_named (actor_word actor) lines) (length (restarts_of (actor_word actor) lines)) in
    let restarts = few_restarts (actor_word actor) lines in
    omega (arith, lives, restarts, few)

few_past : (lines : List Line) (actors : List Actor) (first : ℕ) → length lines ≤ 4096 → seat_past lines actors first ≤ first + 4097 * length actors
few_past lines [] first few = omega arith
few_past lines (actor ∷ actors) first few =
    let here = few_end lines actor first few in
    let rest = few_past lines actors (end_of (part_from lines actor first)) few in
    omega (arith, here, rest)

pub how_many : (nodes : List (List ℕ)) → length (actors_for nodes) ≡ 20 + length nodes
unfolding actors_for
how_many nodes = length-append all_of_kinds (agents_for nodes) ∙ ap (λ n. 20 + n) (length-map nodes (λ (node : List ℕ). Agent node))

pub small_drains : (script : Script) → length script.lines ≤ 4096 → length script.node_names ≤ 8 → seat_of_drains script ≤ 114721
small_drains script few nodes =
    let past = few_past script.lines (actors_for script.node_names) 5 few in
    let all = how_many script.node_names in
    omega (arith, past, all, nodes)

-- ---- a line at a place

pub named_at : (lines : List Line) (place : ℕ) (actor : Actor) (calls : ℕ) → slice_get lines place ≡ Some (kinds_of_line.Turn actor calls) → is_named (actor_word actor) lines ≡ true
named_at [] place actor calls at = none_some at
named_at (line ∷ lines) zero actor calls at =
    let own : bytes_eq (actor_word actor) (actor_word actor) ≡ true = (bytes_eq-Decides (actor_word actor) (actor_word actor)).1 refl in
    let here : is_turn_of (actor_word actor) line ≡ true = ap (is_turn_of (actor_word actor)) (one line (kinds_of_line.Turn actor calls) at) ∙ own in
    rw here refl
named_at (line ∷ lines) (suc place) actor calls at = by (is_turn_of (actor_word actor) line) (named_at lines place actor calls at)
  where
    by : (b : Bool) → is_named (actor_word actor) lines ≡ true → (b || is_named (actor_word actor) lines) ≡ true
    by true rest = refl
    by false rest = rest

pub within_at : (lines : List Line) (place : ℕ) (line : Line) → AreWithinLimits lines → slice_get lines place ≡ Some line → IsWithinLimits line
within_at [] place line all at = none_some at
within_at (x ∷ lines) zero line all at = subst IsWithinLimits (one x line at) all.0
within_at (x ∷ lines) (suc place) line all at = within_at lines place line all.1 at

pub known_at : (nodes : List (List ℕ)) (lines : List Line) (place : ℕ) (line : Line) → NameKnown nodes lines → slice_get lines place ≡ Some line → NamesKnown nodes line
known_at nodes [] place line all at = none_some at
known_at nodes (x ∷ lines) zero line all at = subst (NamesKnown nodes) (one x line at) all.0
known_at nodes (x ∷ lines) (suc place) line all at = known_at nodes lines place line all.1 at
