-- What the answer to a call makes of an actor, and what a call that was lost does; and what a wake does.
-- A choice of this project, after client-go: the keys of a list or of events are queued, a refused call parks its key.
use Rattle.std.specs.Prelude.{◌+◌, ◌==◌, Bool, true, false, not, ◌&&◌, ◌||◌, List, [], ◌∷◌, Option, Some, None, is_some, length, map, if◌then◌else◌}
use Rattle.kube_objects.specs.declared.key.Key.{Key}
use Rattle.kube_parts.specs.declared.parts.Kind.{Kind}
use Rattle.kube_objects.specs.Keys.{key_of, same_kind}
use Rattle.call_types.specs.declared.request.Request.{Request}
use Rattle.call_types.specs.declared.request.Request.TheVariants as requests
use Rattle.call_types.specs.declared.reply.Event.{Event}
use Rattle.call_types.specs.declared.reply.Reply.{Reply}
use Rattle.call_types.specs.declared.reply.Reply.TheVariants as replies
use Rattle.binder_model.specs.Watching.{most_events}
use Rattle.informer_cache.specs.Cache.{keys_in, objects_of}
use Rattle.informer_cache.specs.All.{AllKnown, cache_of}
use Rattle.sync_queue.specs.Work.{Work, added, finished, put_off}
use Rattle.worker_core.specs.declared.task.Under.{Under}
use Rattle.worker_core.specs.declared.turn.Given.{Given}
use Rattle.worker_core.specs.declared.turn.Given.TheVariants as givens
use Rattle.worker_core.specs.declared.turn.Outcome.{Outcome}
use Rattle.worker_core.specs.declared.turn.Outcome.TheVariants as outcomes
use Rattle.worker_core.specs.declared.turn.Pass.{Pass}
use Rattle.worker_core.specs.Memories.{memory_after}
use Rattle.worker_core.specs.Roles.{kinds_of}
use Rattle.worker_core.specs.States.{ActorState}
use Rattle.worker_core.specs.Tasks.{task_parks, under_after}
use Rattle.worker_core.specs.Turns.{passing}

-- the keys

-- the work after these keys were queued
abbrev pub all_added : List Key → Work → Work
all_added [] w = w
all_added (key ∷ keys) w = all_added keys (added key w)

-- a key whose call was refused is parked, and one whose task has ended is done
abbrev pub ended_work : Bool → Key → Work → Work
ended_work true key w = put_off key w
ended_work false key w = finished key w

-- the work after the answer to a call: the key is done, parked or queued again once nothing of it is under way
abbrev pub work_after : Under → Reply → Work → Work
work_after u reply w = if is_some (under_after u reply) then w else ended_work (task_parks u.task reply) u.key w

-- the pass

-- the pass watches this kind next
abbrev pub is_passing : Option Kind → Kind → Bool
is_passing None kind = false
is_passing (Some k) kind = same_kind k kind

-- there are no events
abbrev pub is_none_of : List Event → Bool
is_none_of [] = true
is_none_of (e ∷ es) = false

-- a kind that gave a full answer is asked again
abbrev pub watched : Pass → Bool → List Event → Pass
watched pass passes es = record {
  behind = if passes && not (length es == most_events) then pass.behind + 1 else pass.behind;
  event = pass.event || not (is_none_of es);
}

-- a watch that was refused, as one from a version that is gone is, counts as one that brought an event; its kind is asked again
abbrev pub pass_after : Pass → Bool → Request → Reply → Pass
pass_after pass passes (requests.Watch k from) (replies.Events events) = watched pass passes events.events
pass_after pass passes (requests.Watch k from) reply = record { behind = pass.behind; event = true }
pass_after pass passes request reply = pass

-- an answer that was told; the caches are what they have learned

-- an answer that changes nothing but the caches and the memory
abbrev pub learned : ActorState → AllKnown → Request → Reply → ActorState
learned s caches request reply = record s { caches = caches; memory = memory_after s.role request reply s.memory; given = None }

-- the task goes on while it has a next call
abbrev pub task_told : ActorState → Reply → Option Under → ActorState
task_told s reply None = s
task_told s reply (Some u) = record s { work = work_after u reply s.work; under = under_after u reply }

-- the keys of a list or of events are queued, and the pass goes on
abbrev pub read_told : ActorState → Kind → Request → Reply → ActorState
read_told s kind request reply = record s {
  work = all_added (keys_in reply) s.work;
  pass = pass_after s.pass (is_passing (passing s) kind) request reply;
}

-- the state after the answer to the call that was given, by what that call was for
abbrev pub given_told : ActorState → Request → Reply → Option Given → ActorState
given_told s request reply (Some givens.Task) = task_told s reply s.under
given_told s request reply (Some (givens.Read kind)) = read_told s kind request reply
given_told s request reply given = s

-- the state after an answer that was told
abbrev pub told_to : ActorState → AllKnown → Request → Reply → ActorState
told_to s caches request reply = given_told (learned s caches request reply) request reply s.given

-- a call that was lost: its task is dropped and the key parked, and any other call is made again

-- the state after the answer to a task's call was lost: the key is put off
abbrev pub lost_under : ActorState → Option Under → ActorState
lost_under s None = record s { given = None }
lost_under s (Some u) = record s { work = put_off u.key s.work; under = None; given = None }

-- the state after the answer to a call was lost, by what the call was for
abbrev pub lost_given : ActorState → Option Given → ActorState
lost_given s (Some givens.Task) = lost_under s s.under
lost_given s given = record s { given = None }

-- the state after an answer that was lost
abbrev pub lost_to : ActorState → ActorState
lost_to s = lost_given s s.given

-- what came of the call that was given
abbrev pub absorbed : ActorState → AllKnown → Request → Outcome → ActorState
absorbed s caches request (outcomes.Told reply) = told_to s caches request reply
absorbed s caches request outcomes.Lost = lost_to s

-- a wake: every cached key is queued, in the order of the kinds and then of namespace and name, and a pass begins

-- the work after each cached object of the kind was queued
abbrev pub kind_added : AllKnown → Kind → Work → Work
kind_added c kind w = all_added (map key_of (objects_of (cache_of kind c))) w

-- the work after each cached object of these kinds was queued
abbrev pub kinds_added : AllKnown → List Kind → Work → Work
kinds_added c [] w = w
kinds_added c (kind ∷ kinds) w = kinds_added c kinds (kind_added c kind w)

-- the state after a wake: each cached key is queued, and a pass begins
abbrev pub woken : ActorState → ActorState
woken s = record s {
  work = kinds_added s.caches (kinds_of s.role.kind) s.work;
  pass = record { behind = 0; event = false };
}
