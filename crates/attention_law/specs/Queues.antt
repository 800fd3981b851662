-- How the queue of an actor stands with what the actor has under way.
-- Source: client-go, util/workqueue: a key waits once, and is in processing or not. That an actor has one key in processing at a
-- time, and that a key can be parked, are choices of this project.
use Rattle.std.specs.Prelude.{◌≡◌, List, [], ◌∷◌, Option, Some, None, map}
use Rattle.kube_objects.specs.declared.key.Key.{Key}
use Rattle.call_types.specs.declared.request.Request.{Request}
use Rattle.informer_cache.specs.All.{AllKnown}
use Rattle.sync_queue.specs.Work.{StandsOnce, Taken, Work}
use Rattle.worker_core.specs.declared.role.Role.{Role}
use Rattle.worker_core.specs.declared.task.Under.{Under}
use Rattle.worker_core.specs.declared.turn.Next.{Next}
use Rattle.worker_core.specs.declared.turn.Outcome.{Outcome}
use Rattle.worker_core.specs.Absorbs.{absorbed, woken}
use Rattle.worker_core.specs.Stands.{IsNew}
use Rattle.worker_core.specs.States.{ActorState}
use Rattle.worker_core.specs.Turns.{IsTurn}

-- the key of a slot that is taken
abbrev pub key_in : Taken → Key
key_in t = t.key

-- the keys that are taken
abbrev pub taken_keys : Work → List Key
taken_keys w = map key_in w.taken

-- the key of what is under way, if anything is
abbrev pub under_keys : Option Under → List Key
under_keys None = []
under_keys (Some u) = u.key ∷ []

-- what is taken is what is under way
abbrev pub OneTaken : ActorState → Type 0
OneTaken s = taken_keys s.work ≡ under_keys s.under

-- each key stands once in the queue: it waits, is taken or is parked; and what is taken is what is under way. So a key that is
-- queued while nothing is under way waits for its decision
pub record QueueStands (s : ActorState) : Type 0 where
  pub once : StandsOnce s.work
  pub taken : OneTaken s

-- ---- a new actor's queue stands, and every step of an actor leaves it so

-- the queue of a new actor stands
abbrev pub NewQueuesStand : Type 0
NewQueuesStand = (role : Role) (s : ActorState) → IsNew role s → QueueStands s

-- a turn leaves a queue that stands so
abbrev pub TurnsKeepQueues : Type 0
TurnsKeepQueues = (s new : ActorState) (answer : Next) → IsTurn s new answer → QueueStands s → QueueStands new

-- an answer leaves a queue that stands so
abbrev pub AnswersKeepQueues : Type 0
AnswersKeepQueues = (s : ActorState) (caches : AllKnown) (request : Request) (outcome : Outcome) → QueueStands s → QueueStands (absorbed s caches request outcome)

-- a wake leaves a queue that stands so
abbrev pub WakesKeepQueues : Type 0
WakesKeepQueues = (s : ActorState) → QueueStands s → QueueStands (woken s)
