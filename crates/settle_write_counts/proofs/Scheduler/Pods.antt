-- A scheduler that is run with nothing under way decides each pod once, as long as the log reaches back to the beginning of its slot.
use Rattle.std.proofs.Common.{◌≡◌, ◌∙◌, ◌⊎◌, ℕ, ◌+◌, ◌-◌, ◌≤◌, ◌<◌, List, [], ◌∷◌, length, Bool, true, false, true≢false, Option, Some, None, inl, inr, refl, sym, ap, subst, arith}
use Rattle.std.specs.Prelude.{◌==◌, map, option_map}
use Rattle.kube_parts.specs.declared.parts.Kind.{Kind}
use Rattle.kube_objects.specs.declared.objects.Object.{Object}
use Rattle.kube_objects.specs.Keys.{key_of, same_kind}
use Rattle.kube_objects.proofs.SameKeys.{same_kind-Decides}
use Rattle.call_types.specs.declared.entry.Entry.{Entry}
use Rattle.call_types.specs.declared.reply.Event.{Event}
use Rattle.call_types.specs.declared.reply.Reply.{Reply}
use Rattle.call_types.specs.declared.reply.Reply.TheVariants as replies
use Rattle.call_types.specs.declared.request.Request.{Request}
use Rattle.call_types.specs.declared.request.Request.TheVariants as requests
use Rattle.call_types.specs.declared.request.SeatKind.TheVariants as seats
use Rattle.call_types.specs.declared.setup.Setup.{Setup}
use Rattle.call_types.specs.Kinds.{reads_kind}
use Rattle.binder_model.specs.Licence.{Licensed, RowAllows}
use Rattle.binder_model.specs.Reading.{follows}
use Rattle.binder_model.specs.Promises.{IsRunOf}
use Rattle.binder_model.specs.Told.{own}
use Rattle.binder_model.specs.Watching.{most_events, told_events}
use Rattle.binder_model.specs.World.{IsHistory, World, base as base_of, effect, world}
use Rattle.informer_cache.specs.All.{AllKnown}
use Rattle.informer_cache.specs.Cache.{keys_in}
use Rattle.model_laws.proofs.Growing.{runs_are_histories}
use Rattle.model_laws.proofs.Histories.{rows_stand_in_order}
use Rattle.model_laws.proofs.Lists.{IsIn, none_some, one}
use Rattle.model_laws.proofs.Watched.{logs}
use Rattle.safety_law.specs.Invariant.Writes.{Writes}
use Rattle.safety_law.proofs.Invariant.Effects.{effect_form}
use Rattle.settle_measure.specs.Left.Measure.{total}
use Rattle.attention_law.specs.Queues.{taken_keys, under_keys}
use Rattle.attention_law.proofs.Turned.{answer_role, calls_fresh}
use Rattle.worker_core.specs.declared.role.Role.{Role}
use Rattle.worker_core.specs.declared.task.Under.{Under}
use Rattle.worker_core.specs.declared.turn.Given.{Given}
use Rattle.worker_core.specs.declared.turn.Given.TheVariants as givens
use Rattle.worker_core.specs.declared.turn.Next.TheVariants.{Call}
use Rattle.worker_core.specs.declared.turn.Outcome.TheVariants.{Lost, Told}
use Rattle.worker_core.specs.Absorbs.{all_added, given_told, learned, lost_given, lost_to, lost_under, read_told, task_told, told_to, work_after, woken}
use Rattle.worker_core.specs.Roles.{IsBuiltKind, kind_in_order, kinds_of}
use Rattle.worker_core.specs.Stands.{AnyIsUnderWay}
use Rattle.worker_core.specs.States.{ActorState, asked, call_under, given_call, start_of}
use Rattle.worker_core.specs.Tasks.{under_after}
use Rattle.worker_core.specs.Turns.{IsTurn, passing}
use Rattle.worker_core.proofs.Answered.{answer_licensed, passed}
use Rattle.worker_core.proofs.ByKind.{placed}
use Rattle.worker_core.proofs.Machines.{KeepsUnder, keeps_under}
use Rattle.worker_core.proofs.Owning.{stood}
use Rattle.actor_rounds.specs.Rounds.{Asks, IsHeld, IsIdle, IsReady, IsSpent, Lets, Runs, told_entry}
use Rattle.actor_rounds.proofs.RunFacts.{run_grows, still_role}
use Rattle.worker_core.proofs.Answered.{turn_role}
use Rattle.settle_slot.specs.Slot.Slots.{KnowsBehind}
use Rattle.settle_slot.proofs.Slot.Knowing.{lost_knows, sees, told_knows, turned_knows}
use Rattle.settle_slot.proofs.Slot.Slots.{nothing_behind}
use Rattle.settle_calls.specs.Tasks.Costs.{keys_cost, work_cost}
use Rattle.settle_calls.proofs.Tasks.Works.{none_again, put_off_cost, work_less}
use Rattle.settle_calls.specs.Events.Ahead.{from_of}
use Rattle.settle_calls.specs.Events.Telling.{told}
use Rattle.settle_calls.proofs.Events.Calls.{Stays, Wrote, unread_from, watched_from, world_moves}
use Rattle.settle_calls.proofs.Events.Events.{told_so}
use Rattle.settle_calls.proofs.Events.Points.{taken_once, waiting_once}
use Rattle.settle_calls.specs.Passes.Passes.{IsCallGiven}
use Rattle.settle_calls.proofs.Passes.First.{at_most}
use Rattle.settle_calls.proofs.Passes.Given.{FindsGone, GivenSo, GivesRead, GivesStart, GivesTask, IsTold, Lists, Reads, given_so, read_called, task_called}
use Rattle.settle_calls.proofs.Passes.Reaching.{GoesOn, IsBefore, IsPast, PassOn, Stands, TurnOf, at_or_before, first_low, given_at, pass_on, turn_of}
use Rattle.settle_calls.proofs.Passes.Told.{all_added_cost, ended_cost, told_after}
use Rattle.settle_writes.proofs.Done.Doing.{assigned_filled, write_asked}
use Rattle.settle_write_counts.specs.Scheduler.Pods.{SchedulersWriteLittle, pod_writes, pods_writes}
use Rattle.settle_write_counts.proofs.Scheduler.Begun.{call_goes, key_writes, task_writes, under_writes}
use Rattle.settle_write_counts.proofs.Scheduler.Queued.{IsBound, ahead, distinct_few, done_written, follows_all, log_none, no_more, scheduled_none, told_free, turned_few}
use Rattle.settle_progress.proofs.Epochs.Silent.{older_run}

-- ---- histories

-- ---- one call

-- the kind was listed, and its watch has come to this version
record IsReached (base seat : ℕ) (h : List Entry) (kind : Kind) : Type 0 where
  from : ℕ
  is : from_of seat h kind ≡ Some from
  up : base ≤ from

no_start : {X : Type 0} (x : ActorState) (request : Request) → x.role.kind ≡ seats.Scheduler → asked x ≡ Some request → x.given ≡ Some givens.Start → X
no_start x request kind ask eg = none_some (ap (λ k. start_of k x.role.node x.memory) (sym kind) ∙ (ap (given_call x) (sym eg) ∙ ask))

module _ (setup : Setup) (seat base : ℕ) (x : ActorState) (request : Request) (reply : Reply) (h : List Entry)
    (given : IsCallGiven setup seat x request reply h) (kind_is : x.role.kind ≡ seats.Scheduler) (low : base_of setup ≤ base)
    (near : (world setup h).store.version ≤ base + 512) (begun : base ≤ (world setup h).store.version) where
  abbrev entry : Entry
  entry = told_entry seat x request reply

  kept : (k : Kind) → reads_kind k request ≡ false → IsReached base seat h k → IsReached base seat (told_entry seat x request reply ∷ h) k
  kept k unread r = record { from = r.from; is = unread_from seat (told_entry seat x request reply) h refl refl k unread ∙ r.is; up = r.up }

  -- a watch that is answered comes no less far, and to the store's version where its answer is not full
  watched : (k : Kind) (f : ℕ) → from_of seat h k ≡ Some f → base ≤ f → request ≡ requests.Watch k f → f ≤ (world setup h).store.version
      → reply ≡ replies.Events (told_events k f (world setup h).store.version (world setup h).log)
      → IsReached base seat (told_entry seat x request reply ∷ h) k
  watched k f some up asks below answered = by (length (told k f (world setup h).log) == most_events) refl
    where
      now : from_of seat (told_entry seat x request reply ∷ h) k ≡ Some (told_events k f (world setup h).store.version (world setup h).log).upto
      now = watched_from seat (told_entry seat x request reply) h refl refl k f f (world setup h).store.version (world setup h).log asks answered some

      by : (full : Bool) → (length (told k f (world setup h).log) == most_events) ≡ full → IsReached base seat (told_entry seat x request reply ∷ h) k
      by true e = let r = (told_so setup h k f true below e).reached refl in
          record { from = (told_events k f (world setup h).store.version (world setup h).log).upto; is = now; up = omega (arith, r, up) }
      by false e = let r = (told_so setup h k f false below e).whole refl in
          record { from = (told_events k f (world setup h).store.version (world setup h).log).upto; is = now; up = omega (arith, r, begun) }

  -- what a list or a watch does to a kind that was reached
  read_on : (kind : Kind) → Reads setup seat x kind request reply h → (k : Kind) → IsReached base seat h k → IsReached base seat (told_entry seat x request reply ∷ h) k
  read_on kind reads k r = by (same_kind kind k) refl reads
    where
      here : same_kind kind k ≡ true → kind ≡ k
      here e = (same_kind-Decides kind k).0 e

      by : (b : Bool) → same_kind kind k ≡ b → Reads setup seat x kind request reply h → IsReached base seat (told_entry seat x request reply ∷ h) k
      by false other (Lists none asks answered) = kept k (ap (reads_kind k) asks ∙ other) r
      by false other (FindsGone f gone some passes asks old answered) = kept k (ap (reads_kind k) asks ∙ other) r
      by false other (IsTold f some passes asks below within answered) = kept k (ap (reads_kind k) asks ∙ other) r
      by true same (Lists none asks answered) = none_some (sym none ∙ (ap (from_of seat h) (here same) ∙ r.is))
      by true same (FindsGone f gone some passes asks old answered) =
          let is : f ≡ r.from = one f r.from (sym some ∙ (ap (from_of seat h) (here same) ∙ r.is)) in
          let up = r.up in
          absurd (omega (arith, old, is, up, near, low))
      by true same (IsTold f some passes asks below within answered) =
          let is : f ≡ r.from = one f r.from (sym some ∙ (ap (from_of seat h) (here same) ∙ r.is)) in
          let up = r.up in
          subst (IsReached base seat (told_entry seat x request reply ∷ h)) (here same) (watched kind f some (omega (arith, is, up)) asks below answered)

  -- each call
  reached_on : (k : Kind) → IsReached base seat h k → IsReached base seat (told_entry seat x request reply ∷ h) k
  reached_on k r = by (given_so x request given.ask)
    where
      by : GivenSo x → IsReached base seat (told_entry seat x request reply ∷ h) k
      by (GivesTask e) = kept k ((task_called setup seat x request reply h given e).unread k) r
      by (GivesStart e) = no_start x request kind_is given.ask e
      by (GivesRead kind e) = read_on kind (read_called setup seat x request reply h given kind e).reads k r

-- ---- past the first pass

record At (setup : Setup) (seat base : ℕ) (h : List Entry) : Type 0 where
  begun : base ≤ (world setup h).store.version
  reached : (k : Kind) → IsReached base seat h k
  light : (x : Event) → IsIn x (world setup h).log → base < x.version → key_writes (world setup h).store.rows (key_of x.object) ≤ 0

module _ (setup : Setup) (seat : ℕ) (x : ActorState) (request : Request) (reply : Reply) (h : List Entry)
    (given : IsCallGiven setup seat x request reply h) (kind_is : x.role.kind ≡ seats.Scheduler) (run : IsRunOf setup h) (may : RowAllows seats.Scheduler (own seat h) request) where
  abbrev next_h : List Entry
  next_h = told_entry seat x request reply ∷ h

  bound : IsBound request
  bound = by request may
    where
      by : (r : Request) → RowAllows seats.Scheduler (own seat h) r → IsBound r
      by (requests.BindPod key uid node) m = assigned_filled setup seat h run.imports given.history.0 key uid node m
      by _ m = tt

  none : Wrote (world setup h) (world setup (told_entry seat x request reply ∷ h)) reply → (o : Object) → reply ≡ replies.Done o → pod_writes o ≡ 0
  none wrote o done =
      let written = done_written (world setup h) o (effect setup (world setup h) x.role.kind request) wrote.version (sym given.history.1 ∙ done) in
      let writes = write_asked setup (world setup h) x.role.kind request o (effect setup (world setup h) x.role.kind request)
      (effect_form setup (world setup h) x.role.kind request (rows_stand_in_order setup h)) written in
      scheduled_none (world setup h) (own seat h) request o bound may (subst (λ k. Writes (world setup h) k request o) kind_is writes)

  -- the call of a task: a write is one of those that were ahead
  task_on : (caches : AllKnown) → x.given ≡ Some givens.Task
      → (world setup (told_entry seat x request reply ∷ h)).store.version + ahead (world setup (told_entry seat x request reply ∷ h))
      (told_to x caches request reply) ≤ (world setup h).store.version + ahead (world setup h) x
  task_on caches eg = of x.under refl given.stands.under_way (ap (given_call x) (sym eg) ∙ given.ask)
    where
      of : (u : Option Under) → x.under ≡ u → AnyIsUnderWay x.role u (own seat h) → option_map call_under u ≡ Some request
          → (world setup (told_entry seat x request reply ∷ h)).store.version + ahead (world setup (told_entry seat x request reply ∷ h))
          (told_to x caches request reply) ≤ (world setup h).store.version + ahead (world setup h) x
      of None eu way c = none_some c
      of (Some u) eu way c =
          let k : KeepsUnder x.role u (own seat h) = keeps_under x.role u (own seat h) (stood x (own seat h) given.stands) way in
          let goes = call_goes u reply (k.of_kind ∙ kind_is) k.call in
          let under : under_writes x.under ≡ task_writes u.task = ap under_writes eu in
          let is : told_to x caches request reply ≡ task_told (learned x caches request reply) reply (Some u) =
          ap (given_told (learned x caches request reply) request reply) eg ∙ ap (task_told (learned x caches request reply) reply) eu in
          let ended = ended_cost (key_writes (world setup (told_entry seat x request reply ∷ h)).store.rows) u reply x.work in
          subst (λ y. (world setup (told_entry seat x request reply ∷ h)).store.version + ahead
          (world setup (told_entry seat x request reply ∷ h)) y ≤ (world setup h).store.version + ahead (world setup h) x) (sym is)
          (by (world_moves setup (told_entry seat x request reply) h given.history.1) goes under ended)
        where
          by : Stays (world setup h) (world setup (told_entry seat x request reply ∷ h)) request reply ⊎ Wrote (world setup h) (world setup (told_entry seat x request reply ∷ h)) reply
              → under_writes (under_after u reply) + 1 ≤ task_writes u.task → under_writes x.under ≡ task_writes u.task
              → work_cost (key_writes (world setup (told_entry seat x request reply ∷ h)).store.rows) (work_after u reply x.work) ≤ work_cost
              (key_writes (world setup (told_entry seat x request reply ∷ h)).store.rows) x.work
              → (world setup (told_entry seat x request reply ∷ h)).store.version +
              (under_writes (under_after u reply) + work_cost (key_writes (world setup (told_entry seat x request reply ∷ h)).store.rows)
              (work_after u reply x.work)) ≤ (world setup h).store.version + ahead (world setup h) x
          by (inl stays) goes under ended =
              let v = stays.version in
              let same : work_cost (key_writes (world setup (told_entry seat x request reply ∷ h)).store.rows) x.work ≡ work_cost
              (key_writes (world setup h).store.rows) x.work = ap (λ rows. work_cost (key_writes rows) x.work) stays.rows in
              omega (arith, v, same, goes, under, ended)
          by (inr wrote) goes under ended =
              let v = wrote.version in
              let less = work_less (key_writes (world setup h).store.rows)
              (key_writes (world setup (told_entry seat x request reply ∷ h)).store.rows) x.work
              (no_more (world setup h) (world setup (told_entry seat x request reply ∷ h)) reply wrote (rows_stand_in_order setup h) (none wrote)) in
              omega (arith, v, less, goes, under, ended)

  -- a list or a watch tells no pod that is still to be decided
  read_kept : (base : ℕ) (caches : AllKnown) (kind : Kind) → x.given ≡ Some (givens.Read kind) → base_of setup ≤ base → (world setup h).store.version ≤ base + 512 → At setup seat base h
      → (world setup (told_entry seat x request reply ∷ h)).store.version + ahead (world setup (told_entry seat x request reply ∷ h))
      (told_to x caches request reply) ≤ (world setup h).store.version + ahead (world setup h) x
  read_kept base caches kind eg low near at =
      let is : told_to x caches request reply ≡ read_told (learned x caches request reply) kind request reply = ap (given_told (learned x caches request reply) request reply) eg in
      subst (λ y. (world setup (told_entry seat x request reply ∷ h)).store.version + ahead (world setup (told_entry seat x request reply ∷ h)) y ≤
      (world setup h).store.version + ahead (world setup h) x) (sym is) (of (read_called setup seat x request reply h given kind eg).reads)
    where
      stays : Stays (world setup h) (world setup (told_entry seat x request reply ∷ h)) request reply
      stays = (read_called setup seat x request reply h given kind eg).stays

      r : IsReached base seat h kind
      r = at.reached kind

      of : Reads setup seat x kind request reply h
          → (world setup (told_entry seat x request reply ∷ h)).store.version +
          (under_writes x.under + work_cost (key_writes (world setup (told_entry seat x request reply ∷ h)).store.rows)
          (all_added (keys_in reply) x.work)) ≤ (world setup h).store.version + ahead (world setup h) x
      of (Lists none asks answered) = none_some (sym none ∙ r.is)
      of (FindsGone f gone some passes asks old answered) =
          let is : f ≡ r.from = one f r.from (sym some ∙ r.is) in
          let up = r.up in
          absurd (omega (arith, old, is, up, near, low))
      of (IsTold f some passes asks below within answered) =
          let is : f ≡ r.from = one f r.from (sym some ∙ r.is) in
          let up = r.up in
          let v = stays.version in
          let free = told_free (key_writes (world setup h).store.rows) (told kind f (world setup h).log)
          (λ y i. at.light y (told_after kind f (world setup h).log y i).0 (after_base is (told_after kind f (world setup h).log y i).1)) in
          let keys : keys_cost (key_writes (world setup h).store.rows) (keys_in reply) ≡ keys_cost (key_writes (world setup h).store.rows)
          (map (λ (y : Event). key_of y.object) (told kind f (world setup h).log)) = ap (λ a. keys_cost (key_writes (world setup h).store.rows) (keys_in a)) answered in
          let more = all_added_cost (key_writes (world setup h).store.rows) (keys_in reply) x.work (taken_once x.work given.queue.once) in
          let same : work_cost (key_writes (world setup (told_entry seat x request reply ∷ h)).store.rows)
          (all_added (keys_in reply) x.work) ≡ work_cost (key_writes (world setup h).store.rows) (all_added (keys_in reply) x.work) =
          ap (λ rows. work_cost (key_writes rows) (all_added (keys_in reply) x.work)) stays.rows in
          omega (arith, v, free, keys, more, same)
        where
          after_base : {n : ℕ} → f ≡ r.from → f < n → base < n
          after_base is lt = let up = r.up in omega (arith, is, lt, up)

  -- and the point stands
  at_on : (base : ℕ) → base_of setup ≤ base → (world setup h).store.version ≤ base + 512 → At setup seat base h → At setup seat base (told_entry seat x request reply ∷ h)
  at_on base low near at = by (world_moves setup (told_entry seat x request reply) h given.history.1)
    where
      reached : (k : Kind) → IsReached base seat (told_entry seat x request reply ∷ h) k
      reached k = reached_on setup seat base x request reply h given kind_is low near at.begun k (at.reached k)

      by : Stays (world setup h) (world setup (told_entry seat x request reply ∷ h)) request reply
          ⊎ Wrote (world setup h) (world setup (told_entry seat x request reply ∷ h)) reply → At setup seat base (told_entry seat x request reply ∷ h)
      by (inl stays) =
          let v = stays.version in let b = at.begun in
          record {
            begun = omega (arith, v, b);
            reached = reached;
            light = λ y i lt. subst (λ rows. key_writes rows (key_of y.object) ≤ 0) (sym stays.rows) (at.light y (subst (IsIn y) stays.log i) lt);
          }
      by (inr wrote) =
          let v = wrote.version in let b = at.begun in
          record {
            begun = omega (arith, v, b);
            reached = reached;
            light = log_none (world setup h) (world setup (told_entry seat x request reply ∷ h)) reply wrote (rows_stand_in_order setup h) (none wrote) base at.light;
          }

-- a call that was lost
lost_few : (x : ActorState) (w : World) → ahead w (lost_to x) ≤ ahead w x
lost_few x w = by x.given
  where
    lost : (u : Option Under) → x.under ≡ u → ahead w (lost_under x u) ≤ ahead w x
    lost None eu = omega arith
    lost (Some u) eu = let a = put_off_cost (key_writes w.store.rows) u.key x.work in omega (arith, a)

    by : (g : Option Given) → ahead w (lost_given x g) ≤ ahead w x
    by None = omega arith
    by (Some givens.Start) = omega arith
    by (Some givens.Task) = lost x.under refl
    by (Some (givens.Read k)) = omega arith

-- ---- the run

module _ (setup : Setup) (lets : Lets) (seat : ℕ) (after : ActorState) (past : List Entry) (left : ℕ) (idle : Bool) (run : IsRunOf setup past) where
  run_at : (s : ActorState) (h : List Entry) (b : ℕ) → Runs lets seat after past left idle s h b → IsRunOf setup h
  run_at s h b runs = let g = run_grows lets seat after past left idle s h b runs in older_run setup g.longer.added h (subst (IsRunOf setup) g.longer.are run)

  may_at : (s given : ActorState) (h : List Entry) (request : Request) → s.role.kind ≡ seats.Scheduler → IsReady seat s h
      → IsTurn s given (Call request) → RowAllows seats.Scheduler (own seat h) request
  may_at s given h request kind ready turn =
      let l : Licensed s.role.kind (own seat h) request = answer_licensed s given (Call request) (own seat h) (subst IsBuiltKind (sym kind) tt) ready.rows ready.stands.told turn in
      (subst (λ k. Licensed k (own seat h) request) kind l).1

  module _ (base most : ℕ) (few : most ≤ 512) (low : base_of setup ≤ base) where
    second : (s : ActorState) (h : List Entry) (b : ℕ) → Runs lets seat after past left idle s h b → s.role.kind ≡ seats.Scheduler
        → At setup seat base h → KnowsBehind setup seat s.role s.pass h → (world setup h).store.version + ahead (world setup h) s ≤ base + most
        → (world setup past).store.version ≤ base + most
    second s h b (IsSpent none state entries rest busy) kind at knows enough = let e = ap (λ es. (world setup es).store.version) entries in omega (arith, e, enough)
    second s h b (IsIdle some ready turn entries rest calm) kind at knows enough = let e = ap (λ es. (world setup es).store.version) entries in omega (arith, e, enough)
    second s h b (Asks given next request reply some ready turn lets_it absorbs more) kind at knows enough =
        second next (told_entry seat given request reply ∷ h) (b - 1) more next_kind (at_on setup seat given request reply h g given_kind here may base low near at)
        (told_knows setup seat s given request reply h (subst IsBuiltKind (sym kind) tt) ready turn whole knows next absorbs) on
      where
        whole_run : IsRunOf setup (told_entry seat given request reply ∷ h)
        whole_run = run_at next (told_entry seat given request reply ∷ h) (b - 1) more

        whole : IsHistory setup (told_entry seat given request reply ∷ h)
        whole = runs_are_histories setup (told_entry seat given request reply ∷ h) (run_at next (told_entry seat given request reply ∷ h) (b - 1) more).run

        here : IsRunOf setup h
        here = older_run setup (told_entry seat given request reply ∷ []) h whole_run

        g : IsCallGiven setup seat given request reply h
        g = given_at setup seat s given h request reply (subst IsBuiltKind (sym kind) tt) ready turn whole

        given_kind : given.role.kind ≡ seats.Scheduler
        given_kind = ap (λ (r : Role). r.kind) (turn_role s given (Call request) turn) ∙ kind

        next_kind : next.role.kind ≡ seats.Scheduler
        next_kind = ap (λ (r : Role). r.kind) (still_role s given next (Call request) request (Told reply) turn absorbs) ∙ kind

        may : RowAllows seats.Scheduler (own seat h) request
        may = may_at s given h request kind ready turn

        near : (world setup h).store.version ≤ base + 512
        near = omega (arith, enough, few)

        told_on : GivenSo given → (world setup (told_entry seat given request reply ∷ h)).store.version + ahead (world setup
            (told_entry seat given request reply ∷ h)) (told_to given next.caches request reply) ≤ (world setup h).store.version + ahead (world setup h) given
        told_on (GivesTask e) = task_on setup seat given request reply h g given_kind here may next.caches e
        told_on (GivesStart e) = no_start given request given_kind g.ask e
        told_on (GivesRead k e) = read_kept setup seat given request reply h g given_kind here may base next.caches k e low near at

        on : (world setup (told_entry seat given request reply ∷ h)).store.version + ahead (world setup (told_entry seat given request reply ∷ h)) next ≤ base + most
        on =
            let turned = turned_few setup s given request h kind turn (λ over. sees setup seat s h whole.0 ready.stands.told knows over) in
            let told_ = told_on (given_so given request g.ask) in
            let same = ap (ahead (world setup (told_entry seat given request reply ∷ h))) absorbs in
            omega (arith, turned, told_, same, enough)
    second s h b (IsHeld given next request some ready turn held absorbs more) kind at knows enough =
        second next h (b - 1) more (ap (λ (r : Role). r.kind) (still_role s given next (Call request) request Lost turn absorbs) ∙ kind) at
        (lost_knows setup seat given next request h (turned_knows setup seat s given (Call request) h turn knows) absorbs)
        (let turned = turned_few setup s given request h kind turn (λ over. sees setup seat s h (runs_are_histories setup h (run_at next h (b - 1) more).run) ready.stands.told knows over) in
        let lost = lost_few given (world setup h) in
        let same = ap (ahead (world setup h)) absorbs in
        omega (arith, turned, lost, same, enough))

  -- ---- the first pass

  abbrev Behind : ActorState → List Entry → Type 0
  Behind s h = (place : ℕ) (kind : Kind) → place < s.pass.behind → kind_in_order s.role place ≡ Some kind → IsReached (world setup h).store.version seat h kind

  -- past it the second part begins
  begins : (s : ActorState) (h : List Entry) (b : ℕ) → Runs lets seat after past left idle s h b → s.role.kind ≡ seats.Scheduler → IsReady seat s h
      → s.under ≡ None → passing s ≡ None → Behind s h → KnowsBehind setup seat s.role s.pass h → pods_writes (world setup h) ≤ 512
      → (world setup past).store.version ≤ (world setup h).store.version + pods_writes (world setup h)
  begins s h b runs kind ready none over behind knows few =
      second (world setup h).store.version (pods_writes (world setup h)) few (first_low setup h) s h b runs kind point knows
      (let taken : taken_keys s.work ≡ [] = ready.stands.queue.taken ∙ ap under_keys none in
      let again = none_again (key_writes (world setup h).store.rows) s.work.taken taken in
      let waiting = distinct_few s.work.waiting (world setup h).store.rows (rows_stand_in_order setup h) (waiting_once s.work ready.stands.queue.once) in
      let under = ap under_writes none in
      omega (arith, again, waiting, under))
    where
      point : At setup seat (world setup h).store.version h
      point = record {
        begun = omega arith;
        reached = λ k.
            (let p = placed s.role.kind k (ap (λ x. follows x k) kind ∙ follows_all k) in
            let past_ = passed (kinds_of s.role.kind) s.pass.behind over in
            let within = p.within in
            behind p.place k (omega (arith, within, past_)) p.at);
        light = λ y i lt. absurd (let top = at_most 0 (world setup h).store.version (world setup h).log y (logs setup h 0) i in omega (arith, top, lt));
      }

  -- a read of the first pass
  behind_on : (x : ActorState) (request : Request) (reply : Reply) (h : List Entry) (caches : AllKnown) (k : Kind)
      → IsCallGiven setup seat x request reply h → x.role.kind ≡ seats.Scheduler → x.given ≡ Some (givens.Read k) → Behind x h
      → Behind (told_to x caches request reply) (told_entry seat x request reply ∷ h)
  behind_on x request reply h caches k given kind_is eg behind place kind lt there = by (pass_on setup seat x request reply h given caches)
    where
      moved : (kind : Kind) → IsReached (world setup h).store.version seat (told_entry seat x request reply ∷ h) kind
          → IsReached (world setup (told_entry seat x request reply ∷ h)).store.version seat (told_entry seat x request reply ∷ h) kind
      moved kind q = let v = (read_called setup seat x request reply h given k eg).stays.version in let up = q.up in record { from = q.from; is = q.is; up = omega (arith, v, up) }

      there_before : kind_in_order x.role place ≡ Some kind
      there_before = ap (λ (r : Role). kind_in_order r place) (sym (answer_role x caches request (Told reply))) ∙ there

      old : place < x.pass.behind → IsReached (world setup (told_entry seat x request reply ∷ h)).store.version seat (told_entry seat x request reply ∷ h) kind
      old before = moved kind (reached_on setup seat (world setup h).store.version x request reply h given kind_is (first_low setup h) (omega arith)
          (omega arith) kind (behind place kind before there_before))

      by : PassOn seat x (told_to x caches request reply) (told_entry seat x request reply ∷ h) (world setup h).store.version
          → IsReached (world setup (told_entry seat x request reply ∷ h)).store.version seat (told_entry seat x request reply ∷ h) kind
      by (Stands same) = old (omega (arith, lt, same))
      by (GoesOn j at_j reached_j goes) = elim (at_or_before place x.pass.behind (omega (arith, lt, goes))) [
        | inl before ↦ old before
        | inr here ↦
            let j_is = one j kind (sym at_j ∙ (ap (kind_in_order x.role) (sym here) ∙ there_before)) in
            moved kind (subst (IsReached (world setup h).store.version seat (told_entry seat x request reply ∷ h)) j_is
            (record { from = (world setup h).store.version; is = reached_j; up = omega arith }))
      ]

  first : (s : ActorState) (h : List Entry) (b : ℕ) → Runs lets seat after past left idle s h b → s.role.kind ≡ seats.Scheduler → s.under ≡ None
      → Behind s h → KnowsBehind setup seat s.role s.pass h → pods_writes (world setup h) ≤ 512
      → (world setup past).store.version ≤ (world setup h).store.version + pods_writes (world setup h)
  first s h b (IsSpent none state entries rest busy) kind rests behind knows few = let e = ap (λ es. (world setup es).store.version) entries in omega (arith, e)
  first s h b (IsIdle some ready turn entries rest calm) kind rests behind knows few = let e = ap (λ es. (world setup es).store.version) entries in omega (arith, e)
  first s h b (Asks given next request reply some ready turn lets_it absorbs more) kind rests behind knows few =
      by (turn_of s given request turn) (λ nk nu nb nn nf. first next (told_entry seat given request reply ∷ h) (b - 1) more nk nu nb nn nf)
    where
      whole : IsHistory setup (told_entry seat given request reply ∷ h)
      whole = runs_are_histories setup (told_entry seat given request reply ∷ h) (run_at next (told_entry seat given request reply ∷ h) (b - 1) more).run

      g : IsCallGiven setup seat given request reply h
      g = given_at setup seat s given h request reply (subst IsBuiltKind (sym kind) tt) ready turn whole

      given_kind : given.role.kind ≡ seats.Scheduler
      given_kind = ap (λ (r : Role). r.kind) (turn_role s given (Call request) turn) ∙ kind

      by : TurnOf s given
          → (next.role.kind ≡ seats.Scheduler → next.under ≡ None → Behind next (told_entry seat given request reply ∷ h)
          → KnowsBehind setup seat next.role next.pass (told_entry seat given request reply ∷ h) → pods_writes (world setup (told_entry seat given request reply ∷ h)) ≤ 512
          → (world setup past).store.version ≤ (world setup (told_entry seat given request reply ∷ h)).store.version + pods_writes (world setup (told_entry seat given request reply ∷ h)))
          → (world setup past).store.version ≤ (world setup h).store.version + pods_writes (world setup h)
      by (IsPast eu el ep) again = begins s h b (Asks given next request reply some ready turn lets_it absorbs more) kind ready eu ep behind knows few
      by (IsBefore gg e) again = of (given_so given request g.ask)
        where
          no_under : given.under ≡ None
          no_under = ap (λ (y : ActorState). y.under) e ∙ rests

          of : GivenSo given → (world setup past).store.version ≤ (world setup h).store.version + pods_writes (world setup h)
          of (GivesTask eg) = none_some (sym (ap (option_map call_under) no_under) ∙ (ap (given_call given) (sym eg) ∙ g.ask))
          of (GivesStart eg) = no_start given request given_kind g.ask eg
          of (GivesRead k eg) =
              let r = read_called setup seat given request reply h g k eg in
              let v = r.stays.version in
              let p : pods_writes (world setup (told_entry seat given request reply ∷ h)) ≡ pods_writes (world setup h) = ap (total pod_writes) r.stays.rows in
              let is : next ≡ told_to given next.caches request reply = absorbs in
              let is_read : told_to given next.caches request reply ≡ read_told (learned given next.caches request reply) k request reply =
              ap (given_told (learned given next.caches request reply) request reply) eg in
              let here : Behind given h = subst (λ y. Behind y h) (sym e) behind in
              let ih = again (ap (λ (y : Role). y.kind) (still_role s given next (Call request) request (Told reply) turn absorbs) ∙ kind)
              (ap (λ (y : ActorState). y.under) (is ∙ is_read) ∙ no_under)
              (subst (λ y. Behind y (told_entry seat given request reply ∷ h)) (sym is) (behind_on given request reply h next.caches k g given_kind eg here))
              (told_knows setup seat s given request reply h (subst IsBuiltKind (sym kind) tt) ready turn whole knows next absorbs) (omega (arith, p, few)) in
              omega (arith, ih, v, p)
  first s h b (IsHeld given next request some ready turn held absorbs more) kind rests behind knows few = by (turn_of s given request turn) (λ nk nu nb nn. first next h (b - 1) more nk nu nb nn few)
    where
      by : TurnOf s given
          → (next.role.kind ≡ seats.Scheduler → next.under ≡ None → Behind next h → KnowsBehind setup seat next.role next.pass h
          → (world setup past).store.version ≤ (world setup h).store.version + pods_writes (world setup h))
          → (world setup past).store.version ≤ (world setup h).store.version + pods_writes (world setup h)
      by (IsPast eu el ep) again = begins s h b (IsHeld given next request some ready turn held absorbs more) kind ready eu ep behind knows few
      by (IsBefore gg e) again =
          again (ap (λ (y : Role). y.kind) (still_role s given next (Call request) request Lost turn absorbs) ∙ kind) (ap (λ (y : ActorState). y.under) is)
          (subst (λ y. Behind y h) (sym is) (subst (λ y. Behind (record y { under = None; given = None }) h) (sym e) behind))
          (lost_knows setup seat given next request h (turned_knows setup seat s given (Call request) h turn knows) absorbs)
        where
          no_under : given.under ≡ None
          no_under = ap (λ (y : ActorState). y.under) e ∙ rests

          lost_is : (x : Option Given) → lost_given given x ≡ record given { under = None; given = None }
          lost_is None = λ i. record given { under = no_under i; given = None }
          lost_is (Some givens.Start) = λ i. record given { under = no_under i; given = None }
          lost_is (Some (givens.Read k)) = λ i. record given { under = no_under i; given = None }
          lost_is (Some givens.Task) = ap (lost_under given) no_under ∙ (λ i. record given { under = no_under i; given = None })

          is : next ≡ record given { under = None; given = None }
          is = absorbs ∙ lost_is given.given

  -- an actor that is stale makes no call
  stale_still : (s : ActorState) (h : List Entry) (b : ℕ) → Runs lets seat after past left idle s h b → s.memory.stale ≡ true → past ≡ h
  stale_still s h b (IsSpent none state entries rest busy) stale = entries
  stale_still s h b (IsIdle some ready turn entries rest calm) stale = entries
  stale_still s h b (Asks given next request reply some ready turn lets_it absorbs more) stale = absurd (true≢false (sym stale ∙ calls_fresh s given request turn))
  stale_still s h b (IsHeld given next request some ready turn held absorbs more) stale = absurd (true≢false (sym stale ∙ calls_fresh s given request turn))

pub schedulers_write_little : SchedulersWriteLittle
schedulers_write_little setup lets seat old after h past b left idle kind run rests few runs = by old.memory.stale refl
  where
    by : (stale : Bool) → old.memory.stale ≡ stale → (world setup past).store.version ≤ (world setup h).store.version + pods_writes (world setup h)
    by true e = let same = ap (λ es. (world setup es).store.version) (stale_still setup lets seat after past left idle run (woken old) h b runs e) in omega (arith, same)
    by false e =
        let more = first setup lets seat after past left idle run (woken old) h b runs kind (rests e) (λ place k lt there. absurd (omega (arith, lt))) (nothing_behind setup seat old h) few in
        omega (arith, more)
