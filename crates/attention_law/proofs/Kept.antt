-- The queue of a new actor stands, and a turn, an answer, a loss and a wake leave it so.
use Rattle.std.proofs.Common.{List, [], ◌∷◌, Bool, true, false, Option, Some, None, inl, inr, sym, ◌∙◌, ap, subst, if◌then◌else◌}
use Rattle.std.specs.Prelude.{is_some, map}
use Rattle.kube_objects.specs.declared.key.Key.{Key}
use Rattle.kube_parts.specs.declared.parts.Kind.{Kind}
use Rattle.kube_objects.specs.declared.objects.Object.{Object}
use Rattle.kube_objects.specs.Keys.{key_of}
use Rattle.call_types.specs.declared.request.Request.{Request}
use Rattle.call_types.specs.declared.reply.Reply.{Reply}
use Rattle.informer_cache.specs.Cache.{keys_in, objects_of}
use Rattle.informer_cache.specs.All.{AllKnown, all_objects, cache_of}
use Rattle.sync_queue.specs.Work.{StandsOnce, Work, added, begun}
use Rattle.worker_core.specs.declared.role.Role.{Role}
use Rattle.worker_core.specs.declared.task.First.{First}
use Rattle.worker_core.specs.declared.task.First.TheVariants as firsts
use Rattle.worker_core.specs.declared.task.Under.{Under}
use Rattle.worker_core.specs.declared.turn.Given.{Given}
use Rattle.worker_core.specs.declared.turn.Given.TheVariants as givens
use Rattle.worker_core.specs.declared.turn.Next.{Next}
use Rattle.worker_core.specs.declared.turn.Outcome.{Outcome}
use Rattle.worker_core.specs.declared.turn.Outcome.TheVariants as outcomes
use Rattle.worker_core.specs.Absorbs.{absorbed, all_added, ended_work, given_told, kind_added, kinds_added, learned, lost_given, lost_under, task_told, work_after}
use Rattle.worker_core.specs.Memories.{Memory}
use Rattle.worker_core.specs.Roles.{kinds_of}
use Rattle.worker_core.specs.States.{ActorState, start_call}
use Rattle.worker_core.specs.Tasks.{task_parks, under_after}
use Rattle.worker_core.specs.Turns.{AfterKeys, Begins, Decides, Drops, IsTurn, Nothing, TurnBy, dropped, passing, unlisted}
use Rattle.attention_law.specs.Queues.{AnswersKeepQueues, NewQueuesStand, TurnsKeepQueues, WakesKeepQueues, taken_keys, under_keys}
use Rattle.attention_law.proofs.Once.{added_once, begun_once, finished_once, put_off_once}
use Rattle.attention_law.proofs.Turned.{answer_taken, turn_taken, woken_taken}

abbrev IsOnce : ActorState → Type 0
IsOnce s = StandsOnce s.work

-- ---- the keys of a list, and of the caches

all_once : (ks : List Key) (w : Work) → StandsOnce w → StandsOnce (all_added ks w)
all_once [] w once = once
all_once (k ∷ ks) w once = all_once ks (added k w) (added_once k w once)

cached_once : (c : AllKnown) (kinds : List Kind) (w : Work) → StandsOnce w → StandsOnce (kinds_added c kinds w)
cached_once c [] w once = once
cached_once c (kind ∷ kinds) w once = cached_once c kinds (kind_added c kind w) (all_once (map key_of (objects_of (cache_of kind c))) w once)

-- ---- a turn

dropped_once : (first : First) (k : Key) (w : Work) → StandsOnce w → StandsOnce (dropped first k w)
dropped_once firsts.Drops k w once = finished_once k (begun w) (begun_once w once)
dropped_once (firsts.Queues other) k w once = finished_once k (added other (begun w)) (added_once other (begun w) (begun_once w once))
dropped_once (firsts.Begins task) k w once = finished_once k (begun w) (begun_once w once)

decides_once : (role : Role) (memory : Memory) (rows : List Object) (after : Work) (under : Option Under) (w : Work) → Decides role memory rows after under w → StandsOnce w → StandsOnce after
decides_once role memory rows after under w (Nothing empty same none) once = subst StandsOnce (sym same) once
decides_once role memory rows after under w (Begins u old gives same some) once = subst StandsOnce (sym same) (begun_once w once)
decides_once role memory rows after under w (Drops k first old none rest) once = decides_once role memory rows after under _ rest (dropped_once first k w once)

turn_once : (s new : ActorState) (answer : Next) → IsTurn s new answer → StandsOnce s.work → StandsOnce new.work
turn_once s new answer turn once = by s.memory.stale s.under (start_call s.role s.memory) (unlisted s) (passing s) turn
  where
    keys : (w : Work) (under : Option Under) → StandsOnce w → AfterKeys s new answer w under → IsOnce new
    keys w (Some u) e b = subst IsOnce (sym b.state) e
    keys w None e (inl b) = subst IsOnce (sym b.state) e
    keys w None e (inr b) = subst IsOnce (sym b.state) e

    by : (stale : Bool) (u : Option Under) (start : Option Request) (l p : Option Kind) → TurnBy s new answer stale u start l p → IsOnce new
    by true u start l p t = subst IsOnce (sym t.state) once
    by false (Some u) start l p t = subst IsOnce (sym t.state) once
    by false None (Some request) l p t = subst IsOnce (sym t.state) once
    by false None None (Some kind) p t = subst IsOnce (sym t.state) once
    by false None None None (Some kind) t = subst IsOnce (sym t.state) once
    by false None None None None t = keys t.work t.under (decides_once s.role s.memory (all_objects s.caches) t.work t.under s.work t.decides once) t.then_

-- ---- an answer, and a loss

ended_once : (parks : Bool) (k : Key) (w : Work) → StandsOnce w → StandsOnce (ended_work parks k w)
ended_once true k w once = put_off_once k w once
ended_once false k w once = finished_once k w once

after_once : (u : Under) (reply : Reply) (w : Work) → StandsOnce w → StandsOnce (work_after u reply w)
after_once u reply w once = by (is_some (under_after u reply))
  where
    by : (b : Bool) → StandsOnce (if b then w else ended_work (task_parks u.task reply) u.key w)
    by true = once
    by false = ended_once (task_parks u.task reply) u.key w once

module _ (s : ActorState) (once : StandsOnce s.work) where
  told_once : (caches : AllKnown) (request : Request) (reply : Reply) (g : Option Given) → IsOnce (given_told (learned s caches request reply) request reply g)
  told_once caches request reply None = once
  told_once caches request reply (Some givens.Start) = once
  told_once caches request reply (Some (givens.Read kind)) = all_once (keys_in reply) s.work once
  told_once caches request reply (Some givens.Task) = by s.under
    where
      by : (u : Option Under) → IsOnce (task_told (learned s caches request reply) reply u)
      by None = once
      by (Some u) = after_once u reply s.work once

  lost_once : (g : Option Given) → IsOnce (lost_given s g)
  lost_once None = once
  lost_once (Some givens.Start) = once
  lost_once (Some (givens.Read kind)) = once
  lost_once (Some givens.Task) = by s.under
    where
      by : (u : Option Under) → IsOnce (lost_under s u)
      by None = once
      by (Some u) = put_off_once u.key s.work once

  answer_once : (caches : AllKnown) (request : Request) (outcome : Outcome) → IsOnce (absorbed s caches request outcome)
  answer_once caches request (outcomes.Told reply) = told_once caches request reply s.given
  answer_once caches request outcomes.Lost = lost_once s.given

-- ---- the queue stands

pub new_queues : NewQueuesStand
new_queues role s new = record { once = subst StandsOnce (sym new.work) tt; taken = ap taken_keys new.work ∙ sym (ap under_keys new.under) }

pub turns_queues : TurnsKeepQueues
turns_queues s new answer turn stands = record { once = turn_once s new answer turn stands.once; taken = turn_taken s new answer turn stands.taken }

pub answers_queues : AnswersKeepQueues
answers_queues s caches request outcome stands = record { once = answer_once s stands.once caches request outcome; taken = answer_taken s caches request outcome stands.taken }

pub wakes_queues : WakesKeepQueues
wakes_queues s stands = record { once = cached_once s.caches (kinds_of s.role.kind) s.work stands.once; taken = woken_taken s stands.taken }
