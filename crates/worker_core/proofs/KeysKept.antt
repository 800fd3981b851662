-- What turns, answers and wakes make of waiting and parked keys.
use Rattle.std.proofs.Common.{◌≡◌, List, Bool, true, false, true≢false, Option, Some, None, inl, inr, refl, sym, ◌∙◌, ap, subst, if◌then◌else◌}
use Rattle.std.specs.Prelude.{is_some}
use Rattle.kube_objects.specs.declared.key.Key.{Key}
use Rattle.kube_parts.specs.declared.parts.Kind.{Kind}
use Rattle.kube_objects.specs.declared.objects.Object.{Object}
use Rattle.call_types.specs.declared.request.Request.{Request}
use Rattle.call_types.specs.declared.reply.Reply.{Reply}
use Rattle.informer_cache.specs.Cache.{keys_in}
use Rattle.informer_cache.specs.All.{AllKnown, all_objects}
use Rattle.model_laws.proofs.Lists.{none_some, one}
use Rattle.sync_queue.specs.Work.{Work, finished, put_off}
use Rattle.worker_core.specs.declared.role.Role.{Role}
use Rattle.worker_core.specs.declared.task.First.{First}
use Rattle.worker_core.specs.declared.task.Under.{Under}
use Rattle.worker_core.specs.declared.turn.Given.{Given}
use Rattle.worker_core.specs.declared.turn.Given.TheVariants as givens
use Rattle.worker_core.specs.declared.turn.Next.{Next}
use Rattle.worker_core.specs.declared.turn.Next.TheVariants as nexts
use Rattle.worker_core.specs.declared.turn.Outcome.{Outcome}
use Rattle.worker_core.specs.declared.turn.Outcome.TheVariants as outcomes
use Rattle.worker_core.specs.Absorbs.{absorbed, all_added, ended_work, given_told, learned, lost_given, lost_under, task_told, woken}
use Rattle.worker_core.specs.Memories.{Memory}
use Rattle.worker_core.specs.Roles.{kinds_of}
use Rattle.worker_core.specs.Rules.{AnswersKeepKeys, KeepsKeys, KeepsWaiting, Parks, TurnsKeepKeys, WakesKeepKeys, WakesKeys}
use Rattle.worker_core.specs.States.{ActorState, is_parked, start_call, waits}
use Rattle.worker_core.specs.Tasks.{GivesCall, GivesNone, task_parks, under_after}
use Rattle.worker_core.specs.Turns.{AfterKeys, Decides, Nothing, Begins, Drops, IsTurn, TurnBy, passing, unlisted}
use Rattle.worker_core.proofs.KeyMoves.{
  all_parks,
  all_waits,
  begun_parks,
  begun_waits,
  cached_parks,
  cached_waits,
  dropped_parks,
  dropped_waits,
  finished_parks,
  finished_waits,
  put_off_parks,
  put_off_waits,
}

-- why a key stopped waiting while keys were decided
data Stopped (role : Role) (memory : Memory) (rows : List Object) (under : Option Under) (key : Key) : Type 0 where
  Called : (u : Under) → under ≡ Some u → u.key ≡ key → GivesCall role memory rows u → Stopped role memory rows under key
  NotCalled : (first : First) → GivesNone role memory rows key first → Stopped role memory rows under key

module _ (role : Role) (memory : Memory) (rows : List Object) (after : Work) (under : Option Under) (key : Key) where
  decides_parks : (w : Work) → Decides role memory rows after under w → is_parked key after ≡ true → is_parked key w ≡ true
  decides_parks w (Nothing empty same none) e = subst (λ (x : Work). is_parked key x ≡ true) same e
  decides_parks w (Begins u old gives same some) e = begun_parks key w (subst (λ (x : Work). is_parked key x ≡ true) same e)
  decides_parks w (Drops k first old none rest) e = dropped_parks first k key w (decides_parks _ rest e)

  decides_stops : (w : Work) → Decides role memory rows after under w → waits key w ≡ true → waits key after ≡ false → Stopped role memory rows under key
  decides_stops w (Nothing empty same none) e f = absurd (true≢false (sym e ∙ sym (ap (waits key) same) ∙ f))
  decides_stops w (Begins u old gives same some) e f = elim (begun_waits u.key key w old e) [
    | inl own ↦ Called u some own gives
    | inr more ↦ absurd (true≢false (sym more ∙ sym (ap (waits key) same) ∙ f))
  ]
  decides_stops w (Drops k first old none rest) e f = elim (dropped_waits first k key w old e) [
    | inl own ↦ NotCalled first (subst (λ j. GivesNone role memory rows j first) own none)
    | inr more ↦ decides_stops _ rest more f
  ]

-- turns

module _ (s new : ActorState) (answer : Next) where
  -- the keys stay as they were
  same_keys : new.work ≡ s.work → KeepsKeys s new answer
  same_keys same = record {
    stops = λ key e f. absurd (true≢false (sym e ∙ sym (ap (waits key) same) ∙ f));
    parks = λ key e. subst (λ (x : Work). is_parked key x ≡ true) same e;
  }

  -- the keys are those that are left once they were decided
  decided_keys : (w : Work) (under : Option Under) → Decides s.role s.memory (all_objects s.caches) w under s.work → new.work ≡ w
      → ((u : Under) → under ≡ Some u → answer ≡ nexts.Call u.call) → KeepsKeys s new answer
  decided_keys w under d same calls = record {
    stops = λ key e f. elim (decides_stops s.role s.memory (all_objects s.caches) w under key s.work d e (sym (ap (waits key) same) ∙ f)) [
      | Called u some own gives ↦ inl (record { under = u; own = own; decided = gives; call = calls u some })
      | NotCalled first none ↦ inr (record { first = first; none = none })
    ];
    parks = λ key e. decides_parks s.role s.memory (all_objects s.caches) w under key s.work d (subst (λ (x : Work). is_parked key x ≡ true) same e);
  }

  abbrev work_of : ActorState → Work
  work_of x = x.work

  pub turn_keys : IsTurn s new answer → KeepsKeys s new answer
  turn_keys = by s.memory.stale s.under (start_call s.role s.memory) (unlisted s) (passing s)
    where
      keys : (w : Work) (under : Option Under) → Decides s.role s.memory (all_objects s.caches) w under s.work → AfterKeys s new answer w under → KeepsKeys s new answer
      keys w (Some u) d b = decided_keys w (Some u) d (ap work_of b.state) (λ v e. b.call ∙ ap (λ (x : Under). nexts.Call x.call) (one u v e))
      keys w None d (inl b) = decided_keys w None d (ap work_of b.state) (λ v e. none_some e)
      keys w None d (inr b) = decided_keys w None d (ap work_of b.state) (λ v e. none_some e)

      by : (stale : Bool) (u : Option Under) (start : Option Request) (l p : Option Kind) → TurnBy s new answer stale u start l p → KeepsKeys s new answer
      by true u start l p t = same_keys (ap work_of t.state)
      by false (Some u) start l p t = same_keys (ap work_of t.state)
      by false None (Some request) l p t = same_keys (ap work_of t.state)
      by false None None (Some kind) p t = same_keys (ap work_of t.state)
      by false None None None (Some kind) t = same_keys (ap work_of t.state)
      by false None None None None t = keys t.work t.under t.decides t.then_

pub turns_keep_keys : TurnsKeepKeys
turns_keep_keys s new answer turn = turn_keys s new answer turn

-- answers

module _ (s : ActorState) (outcome : Outcome) where
  abbrev Kept : ActorState → Type 0
  Kept new = KeepsWaiting s new outcome

  same_waiting : (new : ActorState) → new.work ≡ s.work → Kept new
  same_waiting new same = record {
    stays = λ key e. ap (waits key) same ∙ e;
    parks = λ key e f. absurd (true≢false (sym e ∙ ap (is_parked key) same ∙ f));
  }

  added_waiting : (new : ActorState) (ks : List Key) → new.work ≡ all_added ks s.work → Kept new
  added_waiting new ks same = record {
    stays = λ key e. ap (waits key) same ∙ all_waits ks key s.work e;
    parks = λ key e f. absurd (true≢false (sym (all_parks ks key s.work (sym (ap (is_parked key) same) ∙ e)) ∙ f));
  }

  finished_waiting : (new : ActorState) (k : Key) → new.work ≡ finished k s.work → Kept new
  finished_waiting new k same = record {
    stays = λ key e. ap (waits key) same ∙ finished_waits k key s.work e;
    parks = λ key e f. absurd (true≢false (sym (finished_parks k key s.work (sym (ap (is_parked key) same) ∙ e)) ∙ f));
  }

  put_off_waiting : (new : ActorState) (u : Under) → s.under ≡ Some u → s.given ≡ Some givens.Task → Parks outcome u → new.work ≡ put_off u.key s.work → Kept new
  put_off_waiting new u there given why same = record {
    stays = λ key e. ap (waits key) same ∙ put_off_waits u.key key s.work e;
    parks = λ key e f. elim (put_off_parks u.key key s.work (sym (ap (is_parked key) same) ∙ e)) [
      | inl before ↦ absurd (true≢false (sym before ∙ f))
      | inr own ↦ record { under = u; there = there; own = own; given = given; why = why }
    ];
  }

module _ (s : ActorState) (caches : AllKnown) (request : Request) (reply : Reply) where
  task_keeps : (u : Option Under) → s.under ≡ u → s.given ≡ Some givens.Task → KeepsWaiting s (task_told (learned s caches request reply) reply u) (outcomes.Told reply)
  task_keeps None there given = same_waiting s (outcomes.Told reply) _ refl
  task_keeps (Some u) there given = goes (is_some (under_after u reply)) refl
    where
      new : ActorState
      new = task_told (learned s caches request reply) reply (Some u)

      ends : (b : Bool) → task_parks u.task reply ≡ b → new.work ≡ ended_work b u.key s.work → KeepsWaiting s new (outcomes.Told reply)
      ends true is same = put_off_waiting s (outcomes.Told reply) new u there given is same
      ends false is same = finished_waiting s (outcomes.Told reply) new u.key same

      goes : (b : Bool) → is_some (under_after u reply) ≡ b → KeepsWaiting s new (outcomes.Told reply)
      goes true is = same_waiting s (outcomes.Told reply) new (ap (λ b. if b then s.work else ended_work (task_parks u.task reply) u.key s.work) is)
      goes false is = ends (task_parks u.task reply) refl (ap (λ b. if b then s.work else ended_work (task_parks u.task reply) u.key s.work) is)

  told_keeps : (g : Option Given) → s.given ≡ g → KeepsWaiting s (given_told (learned s caches request reply) request reply g) (outcomes.Told reply)
  told_keeps None is = same_waiting s (outcomes.Told reply) _ refl
  told_keeps (Some givens.Task) is = task_keeps s.under refl is
  told_keeps (Some givens.Start) is = same_waiting s (outcomes.Told reply) _ refl
  told_keeps (Some (givens.Read kind)) is = added_waiting s (outcomes.Told reply) _ (keys_in reply) refl

lost_keeps : (s : ActorState) (g : Option Given) → s.given ≡ g → KeepsWaiting s (lost_given s g) outcomes.Lost
lost_keeps s None is = same_waiting s outcomes.Lost _ refl
lost_keeps s (Some givens.Start) is = same_waiting s outcomes.Lost _ refl
lost_keeps s (Some (givens.Read kind)) is = same_waiting s outcomes.Lost _ refl
lost_keeps s (Some givens.Task) is = by s.under refl
  where
    by : (u : Option Under) → s.under ≡ u → KeepsWaiting s (lost_under s u) outcomes.Lost
    by None there = same_waiting s outcomes.Lost _ refl
    by (Some u) there = put_off_waiting s outcomes.Lost _ u there is tt refl

pub answers_keep_keys : AnswersKeepKeys
answers_keep_keys s caches request (outcomes.Told reply) = told_keeps s caches request reply s.given refl
answers_keep_keys s caches request outcomes.Lost = lost_keeps s s.given refl

pub wakes_keep_keys : WakesKeepKeys
wakes_keep_keys s = record {
  stays = λ key e. cached_waits s.caches (kinds_of s.role.kind) key s.work e;
  parks = λ key e. cached_parks s.caches (kinds_of s.role.kind) key s.work e;
}

-- of the calls

pub absorbed_keys : (s new : ActorState) (request : Request) (outcome : Outcome) → new ≡ absorbed s new.caches request outcome → KeepsWaiting s new outcome
absorbed_keys s new request outcome is = subst (λ (x : ActorState). KeepsWaiting s x outcome) (sym is) (answers_keep_keys s new.caches request outcome)

pub woken_keys : (s new : ActorState) → new ≡ woken s → WakesKeys s new
woken_keys s new is = subst (λ (x : ActorState). WakesKeys s x) (sym is) (wakes_keep_keys s)
