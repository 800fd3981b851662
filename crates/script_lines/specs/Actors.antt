-- The names of actors. A choice of this project.
use Rattle.std.specs.Prelude.{ℕ, List, [], ◌∷◌, ◌++◌, Option, Some, None, codes, option_map}
use Rattle.kube_parts.specs.Named.{value_named}
use Rattle.plain_data.specs.Pairs.{Pair, put_pair, value_at}
use Rattle.script_lines.specs.declared.actors.WorkerKind.{WorkerKind}
use Rattle.script_lines.specs.declared.actors.WorkerKind.TheVariants.{Binder, Ops, Scheduler, Claims, Volumes}
use Rattle.script_lines.specs.declared.actors.WorkerNumber.{WorkerNumber}
use Rattle.script_lines.specs.declared.actors.WorkerNumber.TheVariants.{One, Two, Three, Four}
use Rattle.script_lines.specs.declared.actors.Worker.{Worker}
use Rattle.script_lines.specs.declared.actors.Actor.{Actor}
use Rattle.script_lines.specs.declared.actors.Actor.TheVariants as actors

-- how the names of workers of a kind begin
abbrev pub kind_prefix : WorkerKind → List ℕ
kind_prefix Binder = codes "binder-"
kind_prefix Ops = codes "ops-"
kind_prefix Scheduler = codes "scheduler-"
kind_prefix Claims = codes "claims-"
kind_prefix Volumes = codes "volumes-"

-- the digit that tells the four workers of a kind apart
abbrev pub number_word : WorkerNumber → List ℕ
number_word One = codes "1"
number_word Two = codes "2"
number_word Three = codes "3"
number_word Four = codes "4"

-- the name of a worker, as `binder-1`
abbrev pub worker_word : Worker → List ℕ
worker_word w = kind_prefix w.kind ++ number_word w.number

-- the name of the agent of a node, as `agent-n1`
abbrev pub agent_word : List ℕ → List ℕ
agent_word node = codes "agent-" ++ node

-- the name of an actor
abbrev pub actor_word : Actor → List ℕ
actor_word (actors.Worker w) = worker_word w
actor_word (actors.Agent node) = agent_word node

-- ---- the actor that a text names

-- the four workers of a kind
abbrev pub four : WorkerKind → List Worker
four kind = record { kind = kind; number = One } ∷ record { kind = kind; number = Two } ∷ record { kind = kind; number = Three } ∷ record { kind = kind; number = Four } ∷ []

-- four workers of each of five kinds
abbrev pub all_workers : List Worker
all_workers = four Binder ++ (four Ops ++ (four Scheduler ++ (four Claims ++ four Volumes)))

-- agents by their names, each with its node; no name twice
abbrev pub with_node : List ℕ → List Pair → List Pair
with_node node agents = put_pair (agent_word node) node agents

-- the agent of this name, if it is one of these
abbrev pub agent_named : List Pair → List ℕ → Option Actor
agent_named agents name = option_map (λ node. actors.Agent node) (value_at name agents)

-- the worker, where the name is that of one; else the agent, if any
abbrev pub worker_or : Option Worker → Option Actor → Option Actor
worker_or (Some w) agent = Some (actors.Worker w)
worker_or None agent = agent

-- one of the workers, or one of these agents
abbrev pub actor_named : List Pair → List ℕ → Option Actor
actor_named agents name = worker_or (value_named worker_word all_workers name) (agent_named agents name)
