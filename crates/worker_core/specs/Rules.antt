-- What the turns and the answers make of waiting and parked keys and of passes, and what a scheduler remembers: rules that follow
-- from how they are defined.
-- A choice of this project.
use Rattle.std.specs.Prelude.{ℕ, ◌≡◌, ◌≢◌, ◌⊎◌, ◌+◌, true, false, List, [], ◌∷◌, Some, None, length, ⊤}
use Rattle.kube_objects.specs.declared.key.Key.{Key}
use Rattle.kube_parts.specs.declared.parts.Kind.{Kind}
use Rattle.call_types.specs.declared.request.Request.{Request}
use Rattle.call_types.specs.declared.request.Request.TheVariants as requests
use Rattle.call_types.specs.declared.request.SeatKind.TheVariants as seats
use Rattle.call_types.specs.declared.reply.Refusal.TheVariants.{Gone}
use Rattle.call_types.specs.declared.reply.Reply.{Reply}
use Rattle.call_types.specs.declared.reply.Reply.TheVariants as replies
use Rattle.call_types.specs.declared.entry.Entry.{Entry}
use Rattle.informer_cache.specs.Cache.{IsTold}
use Rattle.binder_model.specs.Watching.{most_events}
use Rattle.informer_cache.specs.All.{AllKnown, all_objects}
use Rattle.pod_scheduler.specs.Tries.{tries_of}
use Rattle.worker_core.specs.declared.role.Role.{Role}
use Rattle.worker_core.specs.declared.task.First.{First}
use Rattle.worker_core.specs.declared.task.Under.{Under}
use Rattle.worker_core.specs.declared.turn.Given.TheVariants as givens
use Rattle.worker_core.specs.declared.turn.Next.{Next}
use Rattle.worker_core.specs.declared.turn.Next.TheVariants as nexts
use Rattle.worker_core.specs.declared.turn.Outcome.{Outcome}
use Rattle.worker_core.specs.declared.turn.Outcome.TheVariants as outcomes
use Rattle.worker_core.specs.Absorbs.{absorbed, woken}
use Rattle.worker_core.specs.Memories.{memory_of}
use Rattle.worker_core.specs.Roles.{IsBuiltKind}
use Rattle.worker_core.specs.Stands.{AreOwn, StandsFor}
use Rattle.worker_core.specs.States.{ActorState, asked, is_parked, waits}
use Rattle.worker_core.specs.Tasks.{GivesCall, GivesNone, task_parks}
use Rattle.worker_core.specs.Turns.{IsTurn, passing}

-- the keys

-- the decision on the key gave the call that is answered
pub record WasCalled (s : ActorState) (answer : Next) (key : Key) : Type 0 where
  pub under : Under
  pub own : under.key ≡ key
  pub decided : GivesCall s.role s.memory (all_objects s.caches) under
  pub call : answer ≡ nexts.Call under.call

-- the decision on the key gives no call
pub record WasDropped (s : ActorState) (key : Key) : Type 0 where
  pub first : First
  pub none : GivesNone s.role s.memory (all_objects s.caches) key first

-- in a turn a key stops waiting only where its decision on the caches gave a call or gives none, and no key is parked
pub record KeepsKeys (s new : ActorState) (answer : Next) : Type 0 where
  pub stops : (key : Key) → waits key s.work ≡ true → waits key new.work ≡ false → WasCalled s answer key ⊎ WasDropped s key
  pub parks : (key : Key) → is_parked key new.work ≡ true → is_parked key s.work ≡ true

-- so each turn does
abbrev pub TurnsKeepKeys : Type 0
TurnsKeepKeys = (s new : ActorState) (answer : Next) → IsTurn s new answer → KeepsKeys s new answer

-- the call of the key's task was refused, as the task takes no answer that it was, or was lost
abbrev pub Parks : Outcome → Under → Type 0
Parks (outcomes.Told reply) u = task_parks u.task reply ≡ true
Parks outcomes.Lost u = ⊤

-- the answer parked this key
pub record WasParked (s : ActorState) (outcome : Outcome) (key : Key) : Type 0 where
  pub under : Under
  pub there : s.under ≡ Some under
  pub own : under.key ≡ key
  pub given : s.given ≡ Some givens.Task
  pub why : Parks outcome under

-- an answer, or a loss, lets no key stop waiting, and a key is parked only where its call was refused or lost, or where its
-- task parks it
pub record KeepsWaiting (s new : ActorState) (outcome : Outcome) : Type 0 where
  pub stays : (key : Key) → waits key s.work ≡ true → waits key new.work ≡ true
  pub parks : (key : Key) → is_parked key new.work ≡ true → is_parked key s.work ≡ false → WasParked s outcome key

-- so each answer does
abbrev pub AnswersKeepKeys : Type 0
AnswersKeepKeys = (s : ActorState) (caches : AllKnown) (request : Request) (outcome : Outcome) → KeepsWaiting s (absorbed s caches request outcome) outcome

-- a wake lets no key stop waiting, and parks none
pub record WakesKeys (s new : ActorState) : Type 0 where
  pub stays : (key : Key) → waits key s.work ≡ true → waits key new.work ≡ true
  pub parks : (key : Key) → is_parked key new.work ≡ true → is_parked key s.work ≡ true

-- so each wake does
abbrev pub WakesKeepKeys : Type 0
WakesKeepKeys = (s : ActorState) → WakesKeys s (woken s)

-- the memory

-- the nodes that a scheduler remembers are those that the entries of its seat tell
abbrev pub TriesAreTold : Type 0
TriesAreTold = (role : Role) (mine : List Entry) → role.kind ≡ seats.Scheduler → (memory_of role mine).tries ≡ tries_of mine

-- the passes

-- a turn begins a pass only where none is under way, nothing else is to be done and the last one brought an event
abbrev pub PassesBegin : Type 0
PassesBegin = (s new : ActorState) (answer : Next) → IsTurn s new answer → new.pass ≢ s.pass → (s.pass.event ≡ true) × (passing s ≡ None) × (new.pass ≡ record { behind = 0; event = false })

-- the answer to a watch brought events, or the watch was refused, as one from a version that is gone is
abbrev pub BroughtEvent : Request → Outcome → Type 0
BroughtEvent (requests.Watch kind from) (outcomes.Told (replies.Events events)) = events.events ≢ []
BroughtEvent (requests.Watch kind from) (outcomes.Told reply) = ⊤
BroughtEvent request outcome = ⊥

-- a pass has an event only where an answer to a watch brought one
abbrev pub EventsAreBrought : Type 0
EventsAreBrought = (s : ActorState) (caches : AllKnown) (request : Request) (outcome : Outcome)
    → (absorbed s caches request outcome).pass.event ≡ true → s.pass.event ≡ false → BroughtEvent request outcome

-- a watch that has to be made again: it gave as many events as a watch gives at most, was refused or was lost
abbrev pub IsAskedAgain : Outcome → Type 0
IsAskedAgain (outcomes.Told (replies.Events events)) = length events.events ≡ most_events
IsAskedAgain outcome = ⊤

-- a watch that is given is answered by events, or it is from a version that is gone: in a history no watch is refused else
abbrev pub IsWatchAnswer : Reply → Type 0
IsWatchAnswer (replies.Events events) = ⊤
IsWatchAnswer (replies.Refused (Gone oldest)) = ⊤
IsWatchAnswer reply = ⊥

-- a watch of an actor that stands for its entries is answered with events or Gone
abbrev pub WatchesAreAnswered : Type 0
WatchesAreAnswered = (s : ActorState) (mine : List Entry) (kind : Kind) (from : ℕ) (e : Entry) (reply : Reply) → IsBuiltKind s.role.kind → StandsFor s mine → asked s ≡ Some (requests.Watch kind from)
    → IsTold e (requests.Watch kind from) reply → AreOwn (e ∷ mine) → IsWatchAnswer reply

-- once its kind was watched a pass goes on to the next kind, unless the watch has to be made again
abbrev pub PassesGoOn : Type 0
PassesGoOn = (s : ActorState) (caches : AllKnown) (kind : Kind) (from : ℕ) (outcome : Outcome) → s.given ≡ Some (givens.Read kind) → passing s ≡ Some kind
    → ((absorbed s caches (requests.Watch kind from) outcome).pass.behind ≡ s.pass.behind + 1) ⊎ IsAskedAgain outcome

-- a turn gives no watch but that of the pass's kind: a kind that is behind the pass is not watched again in it
abbrev pub WatchesFollowThePass : Type 0
WatchesFollowThePass = (s new : ActorState) (answer : Next) (kind : Kind) (from : ℕ) → IsTurn s new answer → new.given ≡ Some (givens.Read kind)
    → answer ≡ nexts.Call (requests.Watch kind from) → passing new ≡ Some kind

-- after a wake the next turn is no idle one, but that of an agent that was told StaleEpoch
abbrev pub WokenIsBusy : ActorState → Type 0
WokenIsBusy s = (new : ActorState) (answer : Next) → IsTurn s new answer → s.memory.stale ≡ false → answer ≢ nexts.Idle
