-- A slot that begins with nothing under way makes few calls: its first pass writes nothing, and past it each call lowers what is still to come.
use Rattle.std.proofs.Common.{◌≡◌, ◌∙◌, ℕ, ◌+◌, ◌*◌, ◌-◌, ◌≤◌, List, [], ◌∷◌, length, Bool, true, false, true≢false, None, inl, inr, refl, sym, ap, subst, arith, if◌then◌else◌}
use Rattle.std.specs.Prelude.{◌/◌}
use Rattle.kube_objects.specs.declared.key.Key.{Key}
use Rattle.kube_parts.specs.declared.parts.Kind.{Kind}
use Rattle.call_types.specs.declared.entry.Entry.{Entry}
use Rattle.call_types.specs.declared.reply.Reply.{Reply}
use Rattle.call_types.specs.declared.request.Request.{Request}
use Rattle.call_types.specs.declared.request.SeatKind.{SeatKind}
use Rattle.call_types.specs.declared.setup.Setup.{Setup}
use Rattle.binder_model.specs.Reading.{follows}
use Rattle.binder_model.specs.Told.{own}
use Rattle.informer_cache.specs.All.{AllKnown}
use Rattle.model_laws.proofs.Histories.{rows_stand_in_order}
use Rattle.model_laws.proofs.Lists.{IsIn, none_some}
use Rattle.model_laws.proofs.Uids.{rises}
use Rattle.model_laws.proofs.Watched.{logs}
use Rattle.settle_measure.specs.Left.Measure.{total}
use Rattle.worker_core.specs.declared.role.Role.{Role}
use Rattle.worker_core.specs.declared.turn.Next.TheVariants.{Call}
use Rattle.worker_core.specs.declared.turn.Outcome.TheVariants.{Lost, Told}
use Rattle.worker_core.specs.Absorbs.{lost_to, told_to}
use Rattle.worker_core.specs.Roles.{IsBuiltKind, kinds_of}
use Rattle.worker_core.specs.States.{ActorState}
use Rattle.worker_core.specs.Turns.{passing, unlisted}
use Rattle.worker_core.proofs.Answered.{gives_asked}
use Rattle.worker_core.proofs.Turning.{turn_stands}
use Rattle.attention_law.specs.Queues.{taken_keys, under_keys}
use Rattle.attention_law.proofs.Turned.{answer_role}
use Rattle.actor_rounds.specs.Rounds.{Asks, IsHeld, IsIdle, IsReady, IsSpent, Lets, Runs, told_entry}
use Rattle.actor_rounds.proofs.RunFacts.{still_role}
use Rattle.worker_core.proofs.Answered.{turn_role}
use Rattle.settle_slot.specs.Slot.Slots.{KnowsBehind, begun}
use Rattle.settle_slot.proofs.Slot.Knowing.{lost_knows, sees, told_knows, turned_knows}
use Rattle.settle_slot.proofs.Slot.Slots.{begun_behind, run_older}
use Rattle.settle_calls.specs.Tasks.Costs.{calls_for}
use Rattle.settle_calls.specs.Events.Counts.{pending}
use Rattle.settle_calls.specs.Tasks.Tasks.{task_left, under_left}
use Rattle.settle_calls.proofs.Events.Calls.{Stays}
use Rattle.settle_calls.proofs.Events.Events.{none_pending}
use Rattle.settle_calls.proofs.Passes.First.{at_most, first_calls_pay, wait_few}
use Rattle.settle_calls.proofs.Passes.Given.{GivenSo, GivesRead, GivesStart, GivesTask, given_so, task_called}
use Rattle.settle_calls.proofs.Events.Points.{point_on, waiting_once}
use Rattle.settle_calls.proofs.Events.Calls.{world_moves}
use Rattle.settle_calls.proofs.Events.Sums.{of_each}
use Rattle.settle_calls.proofs.Tasks.Works.{none_again, put_off_cost}
use Rattle.binder_model.specs.Promises.{IsRunOf}
use Rattle.binder_model.specs.World.{IsHistory, base as base_of, world}
use Rattle.kube_objects.specs.declared.objects.Object.{Object}
use Rattle.kube_objects.specs.Keys.{AreRows}
use Rattle.model_laws.proofs.Growing.{runs_are_histories}
use Rattle.settle_calls.specs.Slots.Slots.{PassesReads, writes_since}
use Rattle.settle_calls.proofs.Slots.HeldCalls.{HeldTask, held_called, held_task, own_read}
use Rattle.settle_calls.proofs.Slots.Slots.{later, start_few}
use Rattle.settle_calls.specs.Events.Ahead.{Point, from_of, sum_over}
use Rattle.settle_calls.proofs.Passes.Reaching.{IsBefore, IsPast, ReachedBehind, TurnOf, behind_on, first_low, given_at, light_of, none_told, reached_all, reached_on, turn_of}
use Rattle.settle_calls.proofs.Passes.Told.{within_five}
use Rattle.settle_calls.specs.Passes.Passes.{IsCallGiven, KindsHaveReached, first_cost, wait_cost}
use Rattle.settle_write_counts.proofs.Rounds.Runs.{IsCalled, called_at, run_at}
use Rattle.settle_write_counts.proofs.Rounds.Made.{IsOrdered, NothingUnder, lost_ordered, told_ordered, turned_ordered}
use Rattle.settle_round_calls.proofs.Slots.Calls.{AtKeys, InPass, IsLess, Stage, kinds_left, pass_left, rest_left, slot_left, sweep_cost}
use Rattle.settle_round_calls.proofs.Slots.KindCosts.{waiting_few}
use Rattle.settle_round_calls.proofs.Slots.RoundCosts.{AreKept, CallMoves, cost_falls, cost_in, kept_on, most}
use Rattle.settle_round_calls.proofs.Slots.Made.{call_moves, reads_stay}
use Rattle.settle_round_calls.proofs.Slots.Passes.{none_read, read_falls, start_falls, start_pays, task_pays}
use Rattle.settle_round_calls.proofs.Slots.Stages.{all_read, nothing_told}
use Rattle.settle_round_calls.proofs.Slots.Turns.{turn_costs}

sum_each : (f g : Kind → ℕ) (ks : List Kind) → ((k : Kind) → IsIn k ks → g k ≤ f k) → sum_over g ks ≤ sum_over f ks
sum_each f g [] each = omega arith
sum_each f g (k ∷ ks) each = let a = each k (inl refl) in let b = sum_each f g ks (λ x i. each x (inr i)) in omega (arith, a, b)

-- past the first pass

module _ (setup : Setup) (lets : Lets) (passes : PassesReads lets) (seat : ℕ) (after : ActorState) (past : List Entry) (left : ℕ) (idle : Bool)
    (run : IsRunOf setup past) (first : List Object) (order : AreRows first) (base m : ℕ) (begins : base_of setup ≤ base) where
  abbrev high : ℕ
  high = (world setup past).store.version

  -- a call that was answered, and what the slot may still cost behind it
  module _ (x : ActorState) (request : Request) (reply : Reply) (h : List Entry) (given : IsCallGiven setup seat x request reply h)
      (at : Point setup x.role.kind base m high h) (reached : KindsHaveReached base seat x.role.kind h)
      (short : (world setup (told_entry seat x request reply ∷ h)).store.version ≤ high) (so : AreKept x.role.kind first (world setup h).store.rows)
      (falls : (key : Key) → cost_in x.role.kind first (world setup (told_entry seat x request reply ∷ h)).store.rows key ≤ cost_in x.role.kind first (world setup h).store.rows key) where
    -- in a pass nothing is written
    module _ (none : x.under ≡ None) (behind : ReachedBehind setup seat (world setup h).store.version x.role x.pass h) where
      version : (world setup (told_entry seat x request reply ∷ h)).store.version ≡ (world setup h).store.version
      version = (reads_stay setup seat x request reply h (own_read x request none given.ask)).0

      stays : Stays (world setup h) (world setup (told_entry seat x request reply ∷ h)) request reply
      stays = elim (world_moves setup (told_entry seat x request reply) h given.history.1) [
        | inl still ↦ still
        | inr wrote ↦ (let more = wrote.version in let same = version in absurd (omega (arith, more, same)))
      ]

      falls_by : (caches : AllKnown) → GivenSo x → rest_left first x.role.kind (world setup (told_entry seat x request reply ∷ h)) (told_to x caches request reply)
          + (kinds_left setup first seat x.role.kind (told_entry seat x request reply ∷ h) + pass_left x.role.kind (told_to x caches request reply).pass) + 1
          ≤ rest_left first x.role.kind (world setup h) x + (kinds_left setup first seat x.role.kind h + pass_left x.role.kind x.pass)
      falls_by caches (GivesTask e) = none_some (sym none ∙ (task_called setup seat x request reply h given e).there)
      falls_by caches (GivesStart e) = start_falls setup first seat base m high x request reply h given at begins reached short order so falls caches e stays
      falls_by caches (GivesRead kind e) = read_falls setup first seat base m high x request reply h given at begins reached short order so falls caches kind e

      pass_pays : (caches : AllKnown) → IsLess setup first seat high (told_to x caches request reply) (told_entry seat x request reply ∷ h) 1 (slot_left setup first seat high x h (InPass none behind))
      pass_pays caches = record {
        stage = InPass (none_told x request reply caches none given.ask) goes_on;
        less = omega (arith, fewer, same, rest, kinds, sweeps, pass);
      }
        where
          role : (told_to x caches request reply).role ≡ x.role
          role = answer_role x caches request (Told reply)

          same : (world setup (told_entry seat x request reply ∷ h)).store.version ≡ (world setup h).store.version
          same = version

          fewer : rest_left first x.role.kind (world setup (told_entry seat x request reply ∷ h)) (told_to x caches request reply)
              + (kinds_left setup first seat x.role.kind (told_entry seat x request reply ∷ h) + pass_left x.role.kind (told_to x caches request reply).pass) + 1
              ≤ rest_left first x.role.kind (world setup h) x + (kinds_left setup first seat x.role.kind h + pass_left x.role.kind x.pass)
          fewer = falls_by caches (given_so x request given.ask)

          rest : rest_left first (told_to x caches request reply).role.kind (world setup (told_entry seat x request reply ∷ h))
              (told_to x caches request reply) ≡ rest_left first x.role.kind (world setup (told_entry seat x request reply ∷ h)) (told_to x caches request reply)
          rest = ap (λ (r : Role). rest_left first r.kind (world setup (told_entry seat x request reply ∷ h)) (told_to x caches request reply)) role

          kinds : kinds_left setup first seat (told_to x caches request reply).role.kind
              (told_entry seat x request reply ∷ h) ≡ kinds_left setup first seat x.role.kind (told_entry seat x request reply ∷ h)
          kinds = ap (λ (r : Role). kinds_left setup first seat r.kind (told_entry seat x request reply ∷ h)) role

          pass : pass_left (told_to x caches request reply).role.kind (told_to x caches request reply).pass ≡ pass_left x.role.kind (told_to x caches request reply).pass
          pass = ap (λ (r : Role). pass_left r.kind (told_to x caches request reply).pass) role

          sweeps : sweep_cost first (told_to x caches request reply).role.kind *
              ((high - (world setup (told_entry seat x request reply ∷ h)).store.version) / 513) ≡ sweep_cost first x.role.kind * ((high - (world setup h).store.version) / 513)
          sweeps = ap (λ (r : Role). sweep_cost first r.kind * ((high - (world setup (told_entry seat x request reply ∷ h)).store.version) / 513))
              role ∙ ap (λ n. sweep_cost first x.role.kind * ((high - n) / 513)) version

          goes_on : ReachedBehind setup seat (world setup (told_entry seat x request reply ∷ h)).store.version (told_to x caches request reply).role
              (told_to x caches request reply).pass (told_entry seat x request reply ∷ h)
          goes_on place kind from lt there is = let reaches =
              behind_on setup seat (world setup h).store.version x request reply h given (omega arith) behind caches place kind from lt there is in omega (arith, reaches, same)

    calls_pay : (caches : AllKnown) (stage : Stage setup seat x h)
        → IsLess setup first seat high (told_to x caches request reply) (told_entry seat x request reply ∷ h) 1 (slot_left setup first seat high x h stage)
    calls_pay caches (InPass none behind) = pass_pays none behind caches
    calls_pay caches (AtKeys read over kinds low few) = by (given_so x request given.ask)
      where
        by : GivenSo x → IsLess setup first seat high (told_to x caches request reply) (told_entry seat x request reply ∷ h) 1 (slot_left setup first seat high x h (AtKeys read over kinds low few))
        by (GivesTask e) = task_pays setup first seat base m high x request reply h given at begins reached short order so falls read over kinds low few caches e
        by (GivesStart e) = start_pays setup first seat base m high x request reply h given at begins reached short order so falls read over kinds low few caches e
        by (GivesRead kind e) = absurd (none_read setup first seat base m high x request reply h given at begins reached short order so falls read over kinds low few kind e)

  -- a call that is held back is a task's
  held_pays : (x : ActorState) (h : List Entry) → HeldTask x → (stage : Stage setup seat x h) → IsLess setup first seat high (lost_to x) h 1 (slot_left setup first seat high x h stage)
  held_pays x h t (InPass none behind) = none_some (sym none ∙ t.there)
  held_pays x h t (AtKeys read over kinds low few) =
      let some_left = t.some in
      let under : under_left x.under ≡ task_left t.under.task = ap under_left t.there in
      let work = put_off_cost (cost_in x.role.kind first (world setup h).store.rows) t.under.key x.work in
      subst (λ y. IsLess setup first seat high y h 1 (slot_left setup first seat high x h (AtKeys read over kinds low few))) (sym t.is)
      (record { stage = AtKeys read over kinds low few; less = omega (arith, some_left, under, work) })

  second_pass : (s : ActorState) (h : List Entry) (b : ℕ) → Runs lets seat after past left idle s h b → IsBuiltKind s.role.kind
      → Point setup s.role.kind base m (world setup past).store.version h → KindsHaveReached base seat s.role.kind h → KnowsBehind setup seat s.role s.pass h
      → IsOrdered s → AreKept s.role.kind first (world setup h).store.rows → (stage : Stage setup seat s h) → b ≤ left + slot_left setup first seat (world setup past).store.version s h stage
  second_pass s h b (IsSpent none state entries rest busy) built at reached knows ordered so stage = omega (arith, none)
  second_pass s h b (IsIdle some ready turn entries rest calm) built at reached knows ordered so stage = omega (arith, rest)
  second_pass s h b (Asks given next request reply some ready turn lets_it absorbs more) built at reached knows ordered so stage =
      let kept = turn_costs setup first seat (world setup past).store.version s given request h so high_enough ready built whole.0 turn
      (λ over. sees setup seat s h whole.0 ready.stands.told knows over) stage in
      let told = calls_pay given request reply h g given_point given_reached short given_kept
      (cost_falls given.role.kind first (world setup h).store.rows (world setup (told_entry seat given request reply ∷ h)).store.rows (rows_stand_in_order setup h) moves) next.caches kept.stage in
      let less = subst (λ y. IsLess setup first seat (world setup past).store.version y (told_entry seat given request reply ∷ h) 1
      (slot_left setup first seat (world setup past).store.version given h kept.stage)) (sym absorbs) told in
      let ih = second_pass next (told_entry seat given request reply ∷ h) (b - 1) more next_built next_at next_reached
      (told_knows setup seat s given request reply h built ready turn whole knows next absorbs)
      (subst IsOrdered (sym absorbs) (told_ordered setup seat given request reply h called next.caches turned)) next_kept less.stage in
      let now = kept.less in
      let then_ = less.less in
      omega (arith, ih, now, then_, some)
    where
      whole_run : IsRunOf setup (told_entry seat given request reply ∷ h)
      whole_run = run_at setup lets seat after past left idle run next (told_entry seat given request reply ∷ h) (b - 1) more

      whole : IsHistory setup (told_entry seat given request reply ∷ h)
      whole = runs_are_histories setup (told_entry seat given request reply ∷ h) (run_at setup lets seat after past left idle run next (told_entry seat given request reply ∷ h) (b - 1) more).run

      g : IsCallGiven setup seat given request reply h
      g = given_at setup seat s given h request reply built ready turn whole

      called : IsCalled setup seat given request reply h
      called = called_at setup lets seat after past left idle run s given h request reply built ready turn
          (run_at setup lets seat after past left idle run next (told_entry seat given request reply ∷ h) (b - 1) more)

      turned : IsOrdered given
      turned = turned_ordered s given request turn ordered

      moves : CallMoves given.role.kind (world setup h).store.rows (world setup (told_entry seat given request reply ∷ h)).store.rows
      moves = call_moves setup seat given request reply h called
          (subst (λ (r : Role). IsBuiltKind r.kind) (sym (turn_role s given (Call request) turn)) built) (turned_knows setup seat s given (Call request) h turn knows) turned

      short : (world setup (told_entry seat given request reply ∷ h)).store.version ≤ (world setup past).store.version
      short = later setup lets seat after past left idle next _ _ more

      high_enough : (world setup h).store.version ≤ (world setup past).store.version
      high_enough = let up = rises setup (told_entry seat given request reply ∷ []) h in let to = short in omega (arith, up, to)

      given_kind : given.role.kind ≡ s.role.kind
      given_kind = ap (λ (r : Role). r.kind) (turn_role s given (Call request) turn)

      next_kind : next.role.kind ≡ s.role.kind
      next_kind = ap (λ (r : Role). r.kind) (still_role s given next (Call request) request (Told reply) turn absorbs)

      next_built : IsBuiltKind next.role.kind
      next_built = subst IsBuiltKind (sym next_kind) built

      given_kept : AreKept given.role.kind first (world setup h).store.rows
      given_kept = subst (λ k. AreKept k first (world setup h).store.rows) (sym given_kind) so

      next_kept : AreKept next.role.kind first (world setup (told_entry seat given request reply ∷ h)).store.rows
      next_kept = subst (λ k. AreKept k first (world setup (told_entry seat given request reply ∷ h)).store.rows) (given_kind ∙ sym next_kind)
          (kept_on given.role.kind first (world setup h).store.rows (world setup (told_entry seat given request reply ∷ h)).store.rows (rows_stand_in_order setup h) moves given_kept)

      given_point : Point setup given.role.kind base m (world setup past).store.version h
      given_point = subst (λ k. Point setup k base m (world setup past).store.version h) (sym given_kind) at

      given_reached : KindsHaveReached base seat given.role.kind h
      given_reached = subst (λ k. KindsHaveReached base seat k h) (sym given_kind) reached

      next_at : Point setup next.role.kind base m (world setup past).store.version (told_entry seat given request reply ∷ h)
      next_at = subst (λ k. Point setup k base m (world setup past).store.version (told_entry seat given request reply ∷ h)) (given_kind ∙ sym next_kind)
          (point_on setup given.role.kind base m (world setup past).store.version (told_entry seat given request reply) h given_point short
          (light_of setup seat base given request reply h g at.begun) (world_moves setup (told_entry seat given request reply) h whole.1))

      next_reached : KindsHaveReached base seat next.role.kind (told_entry seat given request reply ∷ h)
      next_reached kind from f is = reached_on setup seat base given request reply h g at.begun kind from (λ v e. reached kind v (ap (λ k. follows k kind) (sym next_kind) ∙ f) e) is
  second_pass s h b (IsHeld given next request some ready turn held absorbs more) built at reached knows ordered so stage =
      let kept = turn_costs setup first seat (world setup past).store.version s given request h so short ready built before turn
      (λ over. sees setup seat s h before ready.stands.told knows over) stage in
      let lost = held_pays given h t kept.stage in
      let less = subst (λ y. IsLess setup first seat (world setup past).store.version y h 1 (slot_left setup first seat (world setup past).store.version given h kept.stage)) (sym absorbs) lost in
      let ih = second_pass next h (b - 1) more next_built (subst (λ k. Point setup k base m (world setup past).store.version h) (sym next_kind) at)
      (subst (λ k. KindsHaveReached base seat k h) (sym next_kind) reached) (lost_knows setup seat given next request h (turned_knows setup seat s given (Call request) h turn knows) absorbs)
      (subst IsOrdered (sym absorbs) (lost_ordered given (turned_ordered s given request turn ordered))) (subst (λ k. AreKept k first (world setup h).store.rows) (sym next_kind) so) less.stage in
      let now = kept.less in
      let then_ = less.less in
      omega (arith, ih, now, then_, some)
    where
      before : IsHistory setup h
      before = run_older setup lets seat after past left idle next _ _ more (runs_are_histories setup past run.run)

      short : (world setup h).store.version ≤ (world setup past).store.version
      short = later setup lets seat after past left idle next _ _ more

      next_kind : next.role.kind ≡ s.role.kind
      next_kind = ap (λ (r : Role). r.kind) (still_role s given next (Call request) request Lost turn absorbs)

      next_built : IsBuiltKind next.role.kind
      next_built = subst IsBuiltKind (sym next_kind) built

      t : HeldTask given
      t = held_called given (own seat h) request (turn_stands s given (Call request) (own seat h) ready.rows ready.stands.told turn)
          (sym (gives_asked s given (Call request) turn)) (held_task lets given request h passes (sym (gives_asked s given (Call request) turn)) held)

  -- the first pass

  -- what comes after the first pass
  abbrev after_cost : SeatKind → ℕ
  after_cost kind = 8 * ((world setup past).store.version - base) + (sum_over (most kind first) (kinds_of kind) + (sweep_cost first kind * (((world setup past).store.version - base) / 513) + 5))

  -- nothing is written in it
  abbrev cost_first : ActorState → List Entry → ℕ
  cost_first s h = first_cost setup seat s.role.kind base base s h

  -- past the pass the first cost covers what is still to come
  covered : (s : ActorState) (h : List Entry) → IsReady seat s h → IsBuiltKind s.role.kind → IsHistory setup h → (world setup h).store.version ≡ base
      → ReachedBehind setup seat base s.role s.pass h → AreKept s.role.kind first (world setup h).store.rows → s.under ≡ None → unlisted s ≡ None → passing s ≡ None
      → IsLess setup first seat (world setup past).store.version s h 0 (cost_first s h + after_cost s.role.kind)
  covered s h ready built history version behind so none listed over =
      let taken : taken_keys s.work ≡ [] = ready.stands.queue.taken ∙ ap under_keys none in
      let again = none_again (cost_in s.role.kind first (world setup h).store.rows) s.work.taken taken in
      let waiting = waiting_few s.role.kind first (world setup h).store.rows order (rows_stand_in_order setup h) so s.work.waiting (waiting_once s.work ready.stands.queue.once) in
      let under = ap under_left none in
      let event = at_most_five s.pass.event in
      let few_kinds = within_five s.role.kind in
      let writes : 8 * ((world setup past).store.version - (world setup h).store.version) ≡ 8 * ((world setup past).store.version - base) =
      ap (λ n. 8 * ((world setup past).store.version - n)) version in
      let sweeps : sweep_cost first s.role.kind *
      (((world setup past).store.version - (world setup h).store.version) / 513) ≡ sweep_cost first s.role.kind *
      (((world setup past).store.version - base) / 513) = ap (λ n. sweep_cost first s.role.kind * (((world setup past).store.version - n) / 513)) version in
      let told = nothing_told setup seat s h ready built history reached listed over in
      record {
        stage = AtKeys (world setup h).store.version over (all_read setup seat s h ready built history reached listed over) (omega arith) (omega (arith, told));
        less = omega (arith, again, waiting, under, event, few_kinds, writes, sweeps);
      }
    where
      at_most_five : (e : Bool) → (if e then length (kinds_of s.role.kind) else 0) ≤ 5
      at_most_five true = within_five s.role.kind
      at_most_five false = omega arith

      reached : ReachedBehind setup seat (world setup h).store.version s.role s.pass h
      reached place kind from lt there is = let r = behind place kind from lt there is in omega (arith, r, version)

  first_pass : (s : ActorState) (h : List Entry) (b : ℕ) → Runs lets seat after past left idle s h b → IsBuiltKind s.role.kind → s.under ≡ None
      → (world setup h).store.version ≡ base → Point setup s.role.kind base m (world setup past).store.version h
      → ReachedBehind setup seat base s.role s.pass h → KnowsBehind setup seat s.role s.pass h
      → AreKept s.role.kind first (world setup h).store.rows → b ≤ left + (cost_first s h + after_cost s.role.kind)
  first_pass s h b (IsSpent none state entries rest busy) built rests version at behind knows so = omega (arith, none)
  first_pass s h b (IsIdle some ready turn entries rest calm) built rests version at behind knows so = omega (arith, rest)
  first_pass s h b (Asks given next request reply some ready turn lets_it absorbs more) built rests version at behind knows so =
      by (turn_of s given request turn) (λ nb nr nv na nh nk ns. first_pass next (told_entry seat given request reply ∷ h) (b - 1) more nb nr nv na nh nk ns)
    where
      whole : IsHistory setup (told_entry seat given request reply ∷ h)
      whole = run_older setup lets seat after past left idle next _ _ more (runs_are_histories setup past run.run)

      g : IsCallGiven setup seat given request reply h
      g = given_at setup seat s given h request reply built ready turn whole

      short : (world setup (told_entry seat given request reply ∷ h)).store.version ≤ (world setup past).store.version
      short = later setup lets seat after past left idle next _ _ more

      given_role : given.role ≡ s.role
      given_role = turn_role s given (Call request) turn

      next_role : next.role ≡ given.role
      next_role = ap (λ (y : ActorState). y.role) absorbs ∙ answer_role given next.caches request (Told reply)

      given_kind : given.role.kind ≡ s.role.kind
      given_kind = ap (λ (r : Role). r.kind) given_role

      next_kind : next.role.kind ≡ given.role.kind
      next_kind = ap (λ (r : Role). r.kind) next_role

      given_point : Point setup given.role.kind base m (world setup past).store.version h
      given_point = subst (λ k. Point setup k base m (world setup past).store.version h) (sym given_kind) at

      next_at : Point setup next.role.kind base m (world setup past).store.version (told_entry seat given request reply ∷ h)
      next_at = subst (λ k. Point setup k base m (world setup past).store.version (told_entry seat given request reply ∷ h)) (sym next_kind)
          (point_on setup given.role.kind base m (world setup past).store.version (told_entry seat given request reply) h given_point short
          (light_of setup seat base given request reply h g at.begun) (world_moves setup (told_entry seat given request reply) h whole.1))

      next_behind : s.pass ≡ given.pass → ReachedBehind setup seat base next.role next.pass (told_entry seat given request reply ∷ h)
      next_behind same = subst (λ (y : ActorState). ReachedBehind setup seat base y.role y.pass (told_entry seat given request reply ∷ h)) (sym absorbs)
          (behind_on setup seat base given request reply h g at.begun
          (subst (λ (r : Role). ReachedBehind setup seat base r given.pass h) (sym given_role) (subst (λ p. ReachedBehind setup seat base s.role p h) same behind)) next.caches)

      by : TurnOf s given
          → (IsBuiltKind next.role.kind → next.under ≡ None → (world setup (told_entry seat given request reply ∷ h)).store.version ≡ base
          → Point setup next.role.kind base m (world setup past).store.version (told_entry seat given request reply ∷ h)
          → ReachedBehind setup seat base next.role next.pass (told_entry seat given request reply ∷ h)
          → KnowsBehind setup seat next.role next.pass (told_entry seat given request reply ∷ h)
          → AreKept next.role.kind first (world setup (told_entry seat given request reply ∷ h)).store.rows
          → b - 1 ≤ left + (cost_first next (told_entry seat given request reply ∷ h) + after_cost next.role.kind))
          → b ≤ left + (cost_first s h + after_cost s.role.kind)
      by (IsPast eu el ep) more_of =
          let c = covered s h ready built whole.0 version behind so eu el ep in
          let second = second_pass s h b (Asks given next request reply some ready turn lets_it absorbs more) built at
          (reached_all setup seat base s.role s.pass h behind ep) knows (NothingUnder eu) so c.stage in
          let less = c.less in
          omega (arith, second, less)
      by (IsBefore gg e) more_of =
          let given_none : given.under ≡ None = ap (λ (y : ActorState). y.under) e ∙ rests in
          let ask = sym (gives_asked s given (Call request) turn) in
          let stay = reads_stay setup seat given request reply h (own_read given request given_none ask) in
          let next_none : next.under ≡ None = ap (λ (y : ActorState). y.under) absorbs ∙ none_told given request reply next.caches given_none ask in
          let next_version : (world setup (told_entry seat given request reply ∷ h)).store.version ≡ base = stay.0 ∙ version in
          let ih = more_of (subst IsBuiltKind (sym (next_kind ∙ given_kind)) built) next_none next_version next_at
          (next_behind (ap (λ (y : ActorState). y.pass) (sym e)))
          (told_knows setup seat s given request reply h built ready turn whole knows next absorbs)
          (subst (λ k. AreKept k first (world setup (told_entry seat given request reply ∷ h)).store.rows) (sym (next_kind ∙ given_kind)) (subst (AreKept s.role.kind first) (sym stay.1) so)) in
          let pays = first_calls_pay setup seat base base given request reply h next.caches g (omega (arith, next_version)) in
          let same = ap (λ k. first_cost setup seat k base base next (told_entry seat given request reply ∷ h)) next_kind in
          let became = ap (λ y. first_cost setup seat given.role.kind base base y (told_entry seat given request reply ∷ h)) absorbs in
          let was = ap (λ k. first_cost setup seat k base base given h) given_kind in
          let turned = ap (λ y. first_cost setup seat s.role.kind base base y h) e in
          let later_ = ap after_cost (next_kind ∙ given_kind) in
          omega (arith, ih, pays, same, became, was, turned, later_, some)
  first_pass s h b (IsHeld given next request some ready turn held absorbs more) built rests version at behind knows so = by (turn_of s given request turn)
    where
      before : IsHistory setup h
      before = run_older setup lets seat after past left idle next _ _ more (runs_are_histories setup past run.run)

      by : TurnOf s given → b ≤ left + (cost_first s h + after_cost s.role.kind)
      by (IsPast eu el ep) =
          let c = covered s h ready built before version behind so eu el ep in
          let second = second_pass s h b (IsHeld given next request some ready turn held absorbs more) built at
          (reached_all setup seat base s.role s.pass h behind ep) knows (NothingUnder eu) so c.stage in
          let less = c.less in
          omega (arith, second, less)
      by (IsBefore gg e) =
          let given_none : given.under ≡ None = ap (λ (y : ActorState). y.under) e ∙ rests in
          let own = own_read given request given_none (sym (gives_asked s given (Call request) turn)) in
          absurd (true≢false (sym (passes h request own) ∙ held))

-- the slot

-- how many calls a slot makes at most, by the objects with which its round began and by its writes
abbrev pub slot_most : List Object → SeatKind → ℕ → ℕ
slot_most first kind writes = 8 * writes + (sum_over (most kind first) (kinds_of kind) + (sweep_cost first kind * (writes / 513) + 62))

-- of an actor with nothing under way
pub costs_from : (setup : Setup) (lets : Lets) (seat : ℕ) (old after : ActorState) (h past : List Entry) (b left : ℕ) (idle : Bool)
    (first : List Object) → IsBuiltKind old.role.kind → IsRunOf setup past → PassesReads lets → old.under ≡ None → AreRows first
    → AreKept old.role.kind first (world setup h).store.rows → Runs lets seat after past left idle (begun old) h b → b ≤ left + slot_most first old.role.kind (writes_since setup h past)
costs_from setup lets seat old after h past b left idle first built run passes rests order so runs =
    let bound = first_pass setup lets passes seat after past left idle run first order (world setup h).store.version
    (total (calls_for old.role.kind) (world setup h).store.rows + 3 * writes_since setup h past) (first_low setup h)
    (begun old) h b runs built rests refl begun_point (λ place kind from lt. absurd (omega (arith, lt)))
    (begun_behind setup seat old h) so in
    let start = start_few old.role old.memory in
    let waits = of_each old.role.kind (λ k. wait_cost (world setup h).store.version (from_of seat h k)) 10 (λ k. wait_few (world setup h).store.version (from_of seat h k)) in
    let events = of_each old.role.kind (λ k. 9 * pending k (world setup h).store.version (world setup h).log) 0 (λ k. none_yet k) in
    let none : under_left old.under ≡ 0 = ap under_left rests in
    omega (arith, bound, start, waits, events, none)
  where
    up : (world setup h).store.version ≤ (world setup past).store.version
    up = later setup lets seat after past left idle (begun old) h b runs

    none_yet : (k : Kind) → 9 * pending k (world setup h).store.version (world setup h).log ≤ 0
    none_yet k = let n = none_pending k (world setup h).store.version (world setup h).store.version (world setup h).log (omega arith) (logs setup h 0) in omega (arith, n)

    begun_point : Point setup old.role.kind (world setup h).store.version
        (total (calls_for old.role.kind) (world setup h).store.rows + 3 * writes_since setup h past) (world setup past).store.version h
    begun_point = record {
      begun = omega arith;
      light = λ y i lt. absurd (let top = at_most 0 (world setup h).store.version (world setup h).log y (logs setup h 0) i in omega (arith, top, lt));
      heavy = omega (arith, up);
    }
