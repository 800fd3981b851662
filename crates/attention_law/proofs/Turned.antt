-- What a turn, an answer and a wake make of what is taken and of the pass, and what an idle turn leaves.
use Rattle.std.proofs.Common.{◌≡◌, List, [], ◌∷◌, Bool, true, false, true≢false, Option, Some, None, inl, inr, refl, sym, ◌∙◌, ap, subst, if◌then◌else◌}
use Rattle.std.specs.Prelude.{is_some}
use Rattle.kube_objects.specs.declared.key.Key.{Key}
use Rattle.kube_parts.specs.declared.parts.Kind.{Kind}
use Rattle.kube_objects.specs.declared.objects.Object.{Object}
use Rattle.call_types.specs.declared.request.Request.{Request}
use Rattle.call_types.specs.declared.reply.Reply.{Reply}
use Rattle.informer_cache.specs.Cache.{keys_in}
use Rattle.informer_cache.specs.All.{AllKnown, all_objects}
use Rattle.model_laws.proofs.Lists.{none_some, one}
use Rattle.sync_queue.specs.Work.{Work, added, begun}
use Rattle.worker_core.specs.declared.role.Role.{Role}
use Rattle.worker_core.specs.declared.task.First.{First}
use Rattle.worker_core.specs.declared.task.First.TheVariants as firsts
use Rattle.worker_core.specs.declared.task.Task.{Task}
use Rattle.worker_core.specs.declared.task.Under.{Under}
use Rattle.worker_core.specs.declared.turn.Given.{Given}
use Rattle.worker_core.specs.declared.turn.Given.TheVariants as givens
use Rattle.worker_core.specs.declared.turn.Next.{Next}
use Rattle.worker_core.specs.declared.turn.Next.TheVariants as nexts
use Rattle.worker_core.specs.declared.turn.Outcome.{Outcome}
use Rattle.worker_core.specs.declared.turn.Outcome.TheVariants as outcomes
use Rattle.worker_core.specs.declared.turn.Pass.{Pass}
use Rattle.worker_core.specs.Absorbs.{absorbed, ended_work, given_told, learned, lost_given, lost_under, task_told, woken}
use Rattle.worker_core.specs.Memories.{Memory}
use Rattle.worker_core.specs.Roles.{kinds_of}
use Rattle.worker_core.specs.States.{ActorState, call_in, start_call}
use Rattle.worker_core.specs.Tasks.{task_call, task_moved, task_parks, under_after, with_call, with_task}
use Rattle.worker_core.specs.Turns.{AfterKeys, Begins, Decides, Drops, IsTurn, Nothing, TurnBy, dropped, passing, unlisted}
use Rattle.attention_law.specs.Queues.{OneTaken, taken_keys, under_keys}
use Rattle.attention_law.proofs.Queues.{added_taken, all_taken, begun_taken, cached_taken, finished_taken, put_off_taken}

-- what is taken is what is under way

dropped_taken : (first : First) (k : Key) (w : Work) → taken_keys (begun w) ≡ k ∷ [] → taken_keys (dropped first k w) ≡ []
dropped_taken firsts.Drops k w e = finished_taken k (begun w) e
dropped_taken (firsts.Queues other) k w e = finished_taken k (added other (begun w)) (added_taken other (begun w) ∙ e)
dropped_taken (firsts.Begins task) k w e = finished_taken k (begun w) e

module _ (role : Role) (memory : Memory) (rows : List Object) (after : Work) (under : Option Under) where
  decides_taken : (w : Work) → Decides role memory rows after under w → taken_keys w ≡ [] → taken_keys after ≡ under_keys under
  decides_taken w (Nothing empty same none) e = ap taken_keys same ∙ e ∙ sym (ap under_keys none)
  decides_taken w (Begins u old gives same some) e = ap taken_keys same ∙ begun_taken u.key w old e ∙ sym (ap under_keys some)
  decides_taken w (Drops k first old none rest) e = decides_taken _ rest (dropped_taken first k w (begun_taken k w old e))

  -- where none gives a call, none is left
  pub decides_all : (w : Work) → Decides role memory rows after under w → under ≡ None → after.waiting ≡ []
  decides_all w (Nothing empty same none) e = ap (λ (x : Work). x.waiting) same ∙ empty
  decides_all w (Begins u old gives same some) e = none_some (sym e ∙ some)
  decides_all w (Drops k first old none rest) e = decides_all _ rest e

-- what a turn leaves as it was

pub data PassAfter (s new : ActorState) : Type 0 where
  Kept : new.pass ≡ s.pass → PassAfter s new
  Renewed : s.pass.event ≡ true → new.pass ≡ record { behind = 0; event = false } → PassAfter s new

abbrev pass_of : ActorState → Pass
pass_of s = s.pass

pub turn_pass : (s new : ActorState) (answer : Next) → IsTurn s new answer → PassAfter s new
turn_pass s new answer = by s.memory.stale s.under (start_call s.role s.memory) (unlisted s) (passing s)
  where
    keys : (w : Work) (under : Option Under) → AfterKeys s new answer w under → PassAfter s new
    keys w (Some u) b = Kept (ap pass_of b.state)
    keys w None (inl b) = Renewed b.brought (ap pass_of b.state)
    keys w None (inr b) = Kept (ap pass_of b.state)

    by : (stale : Bool) (u : Option Under) (start : Option Request) (l p : Option Kind) → TurnBy s new answer stale u start l p → PassAfter s new
    by true u start l p t = Kept (ap pass_of t.state)
    by false (Some u) start l p t = Kept (ap pass_of t.state)
    by false None (Some request) l p t = Kept (ap pass_of t.state)
    by false None None (Some kind) p t = Kept (ap pass_of t.state)
    by false None None None (Some kind) t = Kept (ap pass_of t.state)
    by false None None None None t = keys t.work t.under t.then_

pub turn_taken : (s new : ActorState) (answer : Next) → IsTurn s new answer → OneTaken s → OneTaken new
turn_taken s new answer turn one_ = by s.memory.stale s.under (start_call s.role s.memory) (unlisted s) (passing s) refl turn
  where
    is_taken : ActorState → Type 0
    is_taken x = OneTaken x

    keys : (w : Work) (under : Option Under) → taken_keys w ≡ under_keys under → s.under ≡ None → AfterKeys s new answer w under → OneTaken new
    keys w (Some u) e none b = subst is_taken (sym b.state) e
    keys w None e none (inl b) = subst is_taken (sym b.state) (e ∙ sym (ap under_keys none))
    keys w None e none (inr b) = subst is_taken (sym b.state) (e ∙ sym (ap under_keys none))

    by : (stale : Bool) (u : Option Under) (start : Option Request) (l p : Option Kind) → s.under ≡ u → TurnBy s new answer stale u start l p → OneTaken new
    by true u start l p at t = subst is_taken (sym t.state) one_
    by false (Some u) start l p at t = subst is_taken (sym t.state) one_
    by false None (Some request) l p at t = subst is_taken (sym t.state) one_
    by false None None (Some kind) p at t = subst is_taken (sym t.state) one_
    by false None None None (Some kind) at t = subst is_taken (sym t.state) one_
    by false None None None None at t = keys t.work t.under (decides_taken s.role s.memory (all_objects s.caches) t.work t.under s.work t.decides (one_ ∙ ap under_keys at)) at t.then_

-- a turn that gives a call is none of an agent that was told StaleEpoch
pub calls_fresh : (s new : ActorState) (request : Request) → IsTurn s new (nexts.Call request) → s.memory.stale ≡ false
calls_fresh s new request turn = by s.memory.stale turn
  where
    by : (stale : Bool) → TurnBy s new (nexts.Call request) stale s.under (start_call s.role s.memory) (unlisted s) (passing s) → stale ≡ false
    by true t = none_some (sym (ap call_in t.idle))
    by false t = refl

-- an idle turn

pub record Rests (s new : ActorState) : Type 0 where
  pub passed : passing s ≡ None
  pub quiet : s.pass.event ≡ false
  pub none : new.under ≡ None
  pub empty : new.work.waiting ≡ []
  pub caches : new.caches ≡ s.caches
  pub pass : new.pass ≡ s.pass

pub idle_rests : (s new : ActorState) → IsTurn s new nexts.Idle → s.memory.stale ≡ false → Rests s new
idle_rests s new turn fresh = by s.memory.stale s.under (start_call s.role s.memory) (unlisted s) (passing s) refl refl refl turn
  where
    no_call : (r : Request) → nexts.Idle ≡ nexts.Call r → Rests s new
    no_call r e = none_some (ap call_in e)

    keys : (w : Work) (under : Option Under) → s.under ≡ None → passing s ≡ None → Decides s.role s.memory (all_objects s.caches) w under s.work → AfterKeys s new nexts.Idle w under → Rests s new
    keys w (Some u) eu ep d b = no_call _ b.call
    keys w None eu ep d (inl b) = no_call _ b.call
    keys w None eu ep d (inr b) = record {
      passed = ep;
      quiet = b.quiet;
      none = ap (λ (x : ActorState). x.under) b.state ∙ eu;
      empty = ap (λ (x : ActorState). x.work.waiting) b.state ∙ decides_all s.role s.memory (all_objects s.caches) w None s.work d refl;
      caches = ap (λ (x : ActorState). x.caches) b.state;
      pass = ap pass_of b.state;
    }

    by : (stale : Bool) (u : Option Under) (start : Option Request) (l p : Option Kind) → s.memory.stale ≡ stale → s.under ≡ u → passing s ≡ p → TurnBy s new nexts.Idle stale u start l p → Rests s new
    by true u start l p es eu ep t = absurd (true≢false (sym es ∙ fresh))
    by false (Some u) start l p es eu ep t = no_call _ t.call
    by false None (Some request) l p es eu ep t = no_call _ t.call
    by false None None (Some kind) p es eu ep t = no_call _ t.call
    by false None None None (Some kind) es eu ep t = no_call _ t.call
    by false None None None None es eu ep t = keys t.work t.under eu ep t.decides t.then_

-- answers, losses and wakes

after_key : (u v : Under) (reply : Reply) → under_after u reply ≡ Some v → v.key ≡ u.key
after_key u v reply e = by_task (task_moved u.task reply) e
  where
    by_call : (t : Task) (c : Option Request) → with_call u.key t c ≡ Some v → v.key ≡ u.key
    by_call t None h = none_some h
    by_call t (Some c) h = ap (λ (x : Under). x.key) (sym (one _ v h))

    by_task : (x : Option Task) → with_task u.key x ≡ Some v → v.key ≡ u.key
    by_task None h = none_some h
    by_task (Some t) h = by_call t (task_call t) h

ended_taken : (parks : Bool) (k : Key) (w : Work) → taken_keys w ≡ k ∷ [] → taken_keys (ended_work parks k w) ≡ []
ended_taken true k w e = put_off_taken k w e
ended_taken false k w e = finished_taken k w e

module _ (s : ActorState) (caches : AllKnown) (request : Request) (reply : Reply) (own : OneTaken s) where
  task_taken : (u : Option Under) → s.under ≡ u → OneTaken (task_told (learned s caches request reply) reply u)
  task_taken None at = own
  task_taken (Some u) at = by (under_after u reply) refl
    where
      keys : taken_keys s.work ≡ u.key ∷ []
      keys = own ∙ ap under_keys at

      by : (x : Option Under) → under_after u reply ≡ x → taken_keys (if is_some x then s.work else ended_work (task_parks u.task reply) u.key s.work) ≡ under_keys x
      by None e = ended_taken (task_parks u.task reply) u.key s.work keys
      by (Some v) e = keys ∙ ap (λ k. k ∷ []) (sym (after_key u v reply e))

  told_taken : (g : Option Given) → OneTaken (given_told (learned s caches request reply) request reply g)
  told_taken None = own
  told_taken (Some givens.Task) = task_taken s.under refl
  told_taken (Some givens.Start) = own
  told_taken (Some (givens.Read kind)) = all_taken (keys_in reply) s.work ∙ own

lost_taken : (s : ActorState) (g : Option Given) → OneTaken s → OneTaken (lost_given s g)
lost_taken s None own = own
lost_taken s (Some givens.Start) own = own
lost_taken s (Some (givens.Read kind)) own = own
lost_taken s (Some givens.Task) own = by s.under refl
  where
    by : (u : Option Under) → s.under ≡ u → OneTaken (lost_under s u)
    by None at = own
    by (Some u) at = put_off_taken u.key s.work (own ∙ ap under_keys at)

pub answer_taken : (s : ActorState) (caches : AllKnown) (request : Request) (outcome : Outcome) → OneTaken s → OneTaken (absorbed s caches request outcome)
answer_taken s caches request (outcomes.Told reply) own = told_taken s caches request reply own s.given
answer_taken s caches request outcomes.Lost own = lost_taken s s.given own

pub woken_taken : (s : ActorState) → OneTaken s → OneTaken (woken s)
woken_taken s own = cached_taken s.caches (kinds_of s.role.kind) s.work ∙ own

-- the role stays

pub answer_role : (s : ActorState) (caches : AllKnown) (request : Request) (outcome : Outcome) → (absorbed s caches request outcome).role ≡ s.role
answer_role s caches request (outcomes.Told reply) = by s.given
  where
    task : (u : Option Under) → (task_told (learned s caches request reply) reply u).role ≡ s.role
    task None = refl
    task (Some u) = refl

    by : (g : Option Given) → (given_told (learned s caches request reply) request reply g).role ≡ s.role
    by None = refl
    by (Some givens.Task) = task s.under
    by (Some givens.Start) = refl
    by (Some (givens.Read kind)) = refl
answer_role s caches request outcomes.Lost = by s.given
  where
    task : (u : Option Under) → (lost_under s u).role ≡ s.role
    task None = refl
    task (Some u) = refl

    by : (g : Option Given) → (lost_given s g).role ≡ s.role
    by None = refl
    by (Some givens.Task) = task s.under
    by (Some givens.Start) = refl
    by (Some (givens.Read kind)) = refl
