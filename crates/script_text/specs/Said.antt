-- What the lines before a line said. A choice of this project: the script format.
use Rattle.std.specs.Prelude.{ℕ, ◌+◌, List, [], ◌∷◌, ◌++◌, length, Bool, true, false, if◌then◌else◌, Option, Some, None, option_and_then, is_some, bytes_eq, map}
use Rattle.std.specs.List.{flat_map, count_by, sum_by, list_any}
use Rattle.std.specs.Ordering.{nat_cmp}
use Rattle.plain_data.specs.Pairs.{Pair}
use Rattle.plain_data.specs.Rows.{put}
use Rattle.kube_objects.specs.Bindings.{is_empty}
use Rattle.kube_objects.specs.declared.objects.Object.{Object}
use Rattle.kube_objects.specs.declared.objects.Object.TheVariants as objects
use Rattle.call_types.specs.declared.request.Request.{Request}
use Rattle.call_types.specs.declared.request.Request.TheVariants as asks
use Rattle.call_types.specs.declared.setup.Pool.{Pool}
use Rattle.script_text.specs.declared.script.Line.{Line}
use Rattle.script_text.specs.declared.script.Line.TheVariants.{Call, Lose, Restart, Turn, Drain}
use Rattle.script_text.specs.declared.script.Meaning.{Meaning}
use Rattle.script_text.specs.declared.script.Meaning.TheVariants as meanings
use Rattle.script_text.specs.declared.script.Numbered.{Numbered}
use Rattle.script_lines.specs.Actors.{actor_word, with_node}

-- the pools in their order with their sizes as they were written, the faults as they rise, the imported objects in their order,
-- and the lines in their order with their numbers
pub record Said : Type 0 where
  pub pools : List Pool
  pub sizes : List (List ℕ)
  pub faults : List ℕ
  pub imports : List Object
  pub lines : List Line
  pub numbers : List ℕ

-- what an empty text says
abbrev pub nothing_said : Said
nothing_said = record { pools = []; sizes = []; faults = []; imports = []; lines = []; numbers = [] }

-- with what a line of this number means
abbrev pub and_said : Said → ℕ → Meaning → Said
and_said said n (meanings.Pool pool size) = record said { pools = said.pools ++ pool ∷ []; sizes = said.sizes ++ size ∷ [] }
and_said said n (meanings.Fault call) = record said { faults = put nat_cmp (λ m. m) call said.faults }
and_said said n (meanings.Import object) = record said { imports = said.imports ++ object ∷ [] }
and_said said n (meanings.Line line) = record said { lines = said.lines ++ line ∷ []; numbers = said.numbers ++ n ∷ [] }

-- ---- whether the calls have begun

-- a call of a user, a turn or a drain: what lines before it said of the start is all that is said of it
abbrev pub begins : Line → Bool
begins (Call user request) = true
begins (Lose actor call after) = false
begins (Restart actor after) = false
begins (Turn actor calls) = true
begins Drain = true

-- one of these lines is such a line
abbrev pub has_begun : List Line → Bool
has_begun lines = list_any begins lines

-- ---- what lines create

-- the object that a request creates
abbrev pub created_by : Request → Option Object
created_by (asks.Create object) = Some object
created_by request = None

-- the object that a line creates
abbrev pub created : Line → Option Object
created (Call user request) = created_by request
created line = None

-- the name of an object that is a node
abbrev pub node_name : Object → Option (List ℕ)
node_name (objects.Node n) = Some n.meta.name
node_name object = None

-- the name of the node that a line creates
abbrev pub created_node : Line → Option (List ℕ)
created_node line = option_and_then node_name (created line)

-- how many of the lines create an object
abbrev pub creates : List Line → ℕ
creates lines = count_by (λ line. is_some (created line)) lines

-- beside the agent of a node, if there is one
abbrev pub and_node : List Pair → Option (List ℕ) → List Pair
and_node agents None = agents
and_node agents (Some node) = with_node node agents

-- the name of the node that an imported object is, or on which it is scheduled
abbrev pub imported_node : Object → Option (List ℕ)
imported_node (objects.Node n) = Some n.meta.name
imported_node (objects.Pod p) = if is_empty p.node then None else Some p.node
imported_node object = None

-- the name of the node that what a line means gives
abbrev pub meaning_node : Meaning → Option (List ℕ)
meaning_node (meanings.Pool pool size) = None
meaning_node (meanings.Fault call) = None
meaning_node (meanings.Import object) = imported_node object
meaning_node (meanings.Line line) = created_node line

-- the agents of the nodes of imported objects, beside others
abbrev pub imported_after : List Pair → List Object → List Pair
imported_after agents [] = agents
imported_after agents (o ∷ os) = imported_after (and_node agents (imported_node o)) os

-- the agents of the nodes that lines create, beside others
abbrev pub agents_after : List Pair → List Line → List Pair
agents_after agents [] = agents
agents_after agents (line ∷ lines) = agents_after (and_node agents (created_node line)) lines

-- the agents of the nodes of imported objects, and of those that lines create
abbrev pub agents_of : List Object → List Line → List Pair
agents_of imports lines = agents_after (imported_after [] imports) lines

-- how many objects are imported and created
abbrev pub objects_of : List Object → List Line → ℕ
objects_of imports lines = length imports + creates lines

-- the nodes of agents, in order
abbrev pub nodes_of : List Pair → List (List ℕ)
nodes_of agents = map (λ p. p.1) agents

-- ---- what lines say of an actor of this name

-- the number of the call that a line loses, where its actor has this name
abbrev pub loss_of : List ℕ → Line → List ℕ
loss_of name (Lose actor call after) = if bytes_eq (actor_word actor) name then call ∷ [] else []
loss_of name line = []

-- the numbers of its calls that are lost
abbrev pub losses_of : List ℕ → List Line → List ℕ
losses_of name lines = flat_map (loss_of name) lines

-- the number of the call after which a line restarts the actor, where its actor has this name
abbrev pub restart_of : List ℕ → Line → List ℕ
restart_of name (Restart actor after) = if bytes_eq (actor_word actor) name then after ∷ [] else []
restart_of name line = []

-- the numbers of calls after which a new life of it begins
abbrev pub restarts_of : List ℕ → List Line → List ℕ
restarts_of name lines = flat_map (restart_of name) lines

-- how many calls the turn of a line has; none where it is no turn
abbrev pub turn_calls : Line → ℕ
turn_calls (Turn actor calls) = calls
turn_calls line = 0

-- the calls of all turns
abbrev pub calls_of : List Line → ℕ
calls_of lines = sum_by turn_calls lines

-- ---- the script

-- the script that was said, and the number of each of its lines in the text
unfoldable pub numbered_of : Said → Numbered
numbered_of said = record {
  script = record {
    setup = record { pools = said.pools; faults = said.faults; imports = said.imports };
    lines = said.lines;
    node_names = nodes_of (agents_of said.imports said.lines);
    sizes = said.sizes;
  };
  numbers = said.numbers;
}
