-- The state of an actor, and the call that it has given.
-- A choice of this project, after the informers and work queues of client-go.
use Rattle.std.specs.Prelude.{ℕ, Bool, true, false, List, Option, Some, None, is_some, option_map}
use Rattle.std.specs.List.{list_any}
use Rattle.kube_objects.specs.declared.key.Key.{Key}
use Rattle.kube_parts.specs.declared.parts.Kind.{Kind}
use Rattle.kube_objects.specs.Keys.{same_key}
use Rattle.call_types.specs.declared.request.Request.{Request}
use Rattle.call_types.specs.declared.request.Request.TheVariants as requests
use Rattle.call_types.specs.declared.request.SeatKind.{SeatKind}
use Rattle.call_types.specs.declared.request.SeatKind.TheVariants as seats
use Rattle.informer_cache.specs.declared.cache.NextRead.{NextRead}
use Rattle.informer_cache.specs.declared.cache.NextRead.TheVariants as asks
use Rattle.informer_cache.specs.Cache.{ask_of}
use Rattle.informer_cache.specs.All.{AllKnown, cache_of}
use Rattle.sync_queue.specs.Work.{Work}
use Rattle.worker_core.specs.declared.role.Role.{Role}
use Rattle.worker_core.specs.declared.task.Under.{Under}
use Rattle.worker_core.specs.declared.turn.Given.{Given}
use Rattle.worker_core.specs.declared.turn.Given.TheVariants as givens
use Rattle.worker_core.specs.declared.turn.Next.{Next}
use Rattle.worker_core.specs.declared.turn.Next.TheVariants as nexts
use Rattle.worker_core.specs.declared.turn.Pass.{Pass}
use Rattle.worker_core.specs.Memories.{Memory}

-- the state of an actor: its role, caches, work, pass and memory, and what it has given and has under way
pub record ActorState : Type 0 where
  pub role : Role
  pub caches : AllKnown
  pub work : Work
  pub pass : Pass
  pub memory : Memory
  -- what is under way for one key
  pub under : Option Under
  -- the call that was given and is not answered yet
  pub given : Option Given

-- the list of a kind, or the watch of it, as the cache asks it
abbrev pub read_request : Kind → NextRead → Request
read_request kind asks.List = requests.List kind None
read_request kind (asks.Watch from) = requests.Watch kind from

-- the read of a kind: a List, or a Watch from where the last read ended
abbrev pub read_of_kind : AllKnown → Kind → Request
read_of_kind c kind = read_request kind (ask_of (cache_of kind c))

-- an agent begins by taking its node, and by reading what is mounted there
abbrev pub agent_start : List ℕ → Option ℕ → Bool → Option Request
agent_start node None told = Some (requests.TakeNode node)
agent_start node (Some epoch) false = Some (requests.Mounts node epoch)
agent_start node (Some epoch) true = None

-- the call with which an actor of the kind starts, if there is one
abbrev pub start_of : SeatKind → List ℕ → Memory → Option Request
start_of seats.Agent node m = agent_start node m.epoch (is_some m.mounts)
start_of _ node m = None

-- the call of the actor's start that is still to be made
abbrev pub start_call : Role → Memory → Option Request
start_call role m = start_of role.kind role.node m

-- the call of what is under way
abbrev pub call_under : Under → Request
call_under u = u.call

-- the call that was given
abbrev pub given_call : ActorState → Option Given → Option Request
given_call s None = None
given_call s (Some givens.Task) = option_map call_under s.under
given_call s (Some givens.Start) = start_call s.role s.memory
given_call s (Some (givens.Read kind)) = Some (read_of_kind s.caches kind)

-- the call that was given and is not answered yet
abbrev pub asked : ActorState → Option Request
asked s = given_call s s.given

-- the call of an answer
abbrev pub call_in : Next → Option Request
call_in (nexts.Call request) = Some request
call_in nexts.Idle = None

-- the key waits
abbrev pub waits : Key → Work → Bool
waits key w = list_any (same_key key) w.waiting

-- the key is parked
abbrev pub is_parked : Key → Work → Bool
is_parked key w = list_any (same_key key) w.parked
