-- How an actor's next call comes: of what is under way, then of its start, of the kinds that are not listed, of the pass, of
-- the oldest key that gives one. Where there is none it is idle, or a new pass begins.
-- A choice of this project, after the loop of a controller in client-go.
use Rattle.std.specs.Prelude.{◌≡◌, ◌⊎◌, Bool, true, false, List, [], ◌∷◌, Option, Some, None, is_some, if◌then◌else◌}
use Rattle.kube_objects.specs.declared.key.Key.{Key}
use Rattle.kube_parts.specs.declared.parts.Kind.{Kind}
use Rattle.call_types.specs.declared.request.Request.{Request}
use Rattle.informer_cache.specs.All.{AllKnown, all_objects, cache_of}
use Rattle.sync_queue.specs.Work.{Work, added, begun, finished, oldest_of}
use Rattle.kube_objects.specs.declared.objects.Object.{Object}
use Rattle.worker_core.specs.declared.role.Role.{Role}
use Rattle.worker_core.specs.declared.task.First.{First}
use Rattle.worker_core.specs.declared.task.First.TheVariants as firsts
use Rattle.worker_core.specs.declared.task.Under.{Under}
use Rattle.worker_core.specs.declared.turn.Given.TheVariants as givens
use Rattle.worker_core.specs.declared.turn.Next.{Next}
use Rattle.worker_core.specs.declared.turn.Next.TheVariants as nexts
use Rattle.worker_core.specs.Memories.{Memory}
use Rattle.worker_core.specs.Roles.{kind_in_order, kinds_of}
use Rattle.worker_core.specs.States.{ActorState, read_of_kind, start_call}
use Rattle.worker_core.specs.Tasks.{GivesCall, GivesNone}

-- the oldest key is decided, on the rows of the caches and on what the actor remembers

-- a key whose decision gives no call is dropped; a key that is queued in its place goes last
abbrev pub dropped : First → Key → Work → Work
dropped (firsts.Queues other) key w = finished key (added other (begun w))
dropped _ key w = finished key (begun w)

-- the waiting keys are decided, the oldest first, until one gives a call or none is left. `after` and `under` are the keys
-- and the task then
pub data Decides (role : Role) (memory : Memory) (rows : List Object) (after : Work) (under : Option Under) : Work → Type 0 where
  Nothing : {w : Work} → w.waiting ≡ [] → after ≡ w → under ≡ None → Decides role memory rows after under w
  Begins : {w : Work} (u : Under) → oldest_of w.waiting ≡ Some u.key → GivesCall role memory rows u → after ≡ begun w → under ≡ Some u → Decides role memory rows after under w
  Drops : {w : Work} (key : Key) (first : First) → oldest_of w.waiting ≡ Some key → GivesNone role memory rows key first
      → Decides role memory rows after under (dropped first key w) → Decides role memory rows after under w

-- the first of the kinds that is not listed

-- the kind was listed
abbrev pub is_listed : AllKnown → Kind → Bool
is_listed c kind = is_some (cache_of kind c).from

-- the first of these kinds that was not listed
abbrev pub first_unlisted : AllKnown → List Kind → Option Kind
first_unlisted c [] = None
first_unlisted c (kind ∷ kinds) = if is_listed c kind then first_unlisted c kinds else Some kind

-- the first kind of the actor that was not listed
abbrev pub unlisted : ActorState → Option Kind
unlisted s = first_unlisted s.caches (kinds_of s.role.kind)

-- the kind that the pass under way watches next, or none where no pass is under way
abbrev pub passing : ActorState → Option Kind
passing s = kind_in_order s.role s.pass.behind

-- the turns

-- the turn gives the call of what is under way
pub record GivesUnder (old new : ActorState) (answer : Next) (u : Under) : Type 0 where
  pub call : answer ≡ nexts.Call u.call
  pub state : new ≡ record old { given = Some givens.Task }

-- the turn gives the call with which the actor starts
pub record GivesStart (old new : ActorState) (answer : Next) (request : Request) : Type 0 where
  pub call : answer ≡ nexts.Call request
  pub state : new ≡ record old { given = Some givens.Start }

-- the turn gives a read of the kind
pub record GivesRead (old new : ActorState) (answer : Next) (kind : Kind) : Type 0 where
  pub call : answer ≡ nexts.Call (read_of_kind old.caches kind)
  pub state : new ≡ record old { given = Some (givens.Read kind) }

-- an agent whose epoch is stale asks nothing
pub record IsSilent (old new : ActorState) (answer : Next) : Type 0 where
  pub idle : answer ≡ nexts.Idle
  pub state : new ≡ record old { given = None }

-- the turn begins a task and gives its call
pub record BeginsUnder (old new : ActorState) (answer : Next) (w : Work) (u : Under) : Type 0 where
  pub call : answer ≡ nexts.Call u.call
  pub state : new ≡ record old { work = w; under = Some u; given = Some givens.Task }

-- the last pass brought an event: a new one begins with the first kind
pub record BeginsPass (old new : ActorState) (answer : Next) (w : Work) : Type 0 where
  pub brought : old.pass.event ≡ true
  pub kind : Kind
  pub first : kind_in_order old.role 0 ≡ Some kind
  pub call : answer ≡ nexts.Call (read_of_kind old.caches kind)
  pub state : new ≡ record old { work = w; pass = record { behind = 0; event = false }; given = Some (givens.Read kind) }

-- the last pass brought none
pub record IsIdle (old new : ActorState) (answer : Next) (w : Work) : Type 0 where
  pub quiet : old.pass.event ≡ false
  pub idle : answer ≡ nexts.Idle
  pub state : new ≡ record old { work = w; given = None }

-- what a turn does after the keys were decided: it gives a call, begins a pass, or is idle
abbrev pub AfterKeys : ActorState → ActorState → Next → Work → Option Under → Type 0
AfterKeys old new answer w (Some u) = BeginsUnder old new answer w u
AfterKeys old new answer w None = BeginsPass old new answer w ⊎ IsIdle old new answer w

-- the turn decides waiting keys, and goes on from there
pub record DecidesKeys (old new : ActorState) (answer : Next) : Type 0 where
  pub work : Work
  pub under : Option Under
  pub decides : Decides old.role old.memory (all_objects old.caches) work under old.work
  pub then_ : AfterKeys old new answer work under

-- what applies first
abbrev pub TurnBy : ActorState → ActorState → Next → Bool → Option Under → Option Request → Option Kind → Option Kind → Type 0
TurnBy old new answer true under start lacking passing = IsSilent old new answer
TurnBy old new answer false (Some u) start lacking passing = GivesUnder old new answer u
TurnBy old new answer false None (Some request) lacking passing = GivesStart old new answer request
TurnBy old new answer false None None (Some kind) passing = GivesRead old new answer kind
TurnBy old new answer false None None None (Some kind) = GivesRead old new answer kind
TurnBy old new answer false None None None None = DecidesKeys old new answer

-- a turn of an actor: the state after it, and its answer
abbrev pub IsTurn : ActorState → ActorState → Next → Type 0
IsTurn old new answer = TurnBy old new answer old.memory.stale old.under (start_call old.role old.memory) (unlisted old) (passing old)
