-- A slot of an actor whose tasks each come to a write costs by its writes alone: its first pass writes nothing, and past it each call leaves less to come.
use Rattle.std.proofs.Common.{◌≡◌, ◌∙◌, ℕ, ◌+◌, ◌*◌, ◌-◌, ◌≤◌, List, [], ◌∷◌, length, Bool, true, false, true≢false, None, refl, sym, ap, subst, arith, if◌then◌else◌}
use Rattle.kube_parts.specs.declared.parts.Kind.{Kind}
use Rattle.call_types.specs.declared.entry.Entry.{Entry}
use Rattle.call_types.specs.declared.request.Request.{Request}
use Rattle.call_types.specs.declared.request.SeatKind.{SeatKind}
use Rattle.call_types.specs.declared.request.SeatKind.TheVariants as seats
use Rattle.call_types.specs.declared.setup.Setup.{Setup}
use Rattle.binder_model.specs.Licence.{Licensed}
use Rattle.binder_model.specs.Promises.{IsRunOf}
use Rattle.binder_model.specs.Reading.{follows}
use Rattle.binder_model.specs.Told.{own}
use Rattle.binder_model.specs.World.{IsHistory, base as base_of, world}
use Rattle.model_laws.proofs.Growing.{runs_are_histories}
use Rattle.model_laws.proofs.Uids.{rises}
use Rattle.model_laws.proofs.Watched.{logs}
use Rattle.worker_core.specs.declared.role.Role.{Role}
use Rattle.worker_core.specs.declared.turn.Next.TheVariants.{Call}
use Rattle.worker_core.specs.declared.turn.Outcome.TheVariants.{Told}
use Rattle.worker_core.specs.Roles.{kinds_of}
use Rattle.worker_core.specs.States.{ActorState}
use Rattle.worker_core.specs.Turns.{IsTurn, passing, unlisted}
use Rattle.worker_core.proofs.Answered.{answer_licensed, gives_asked}
use Rattle.attention_law.proofs.Turned.{answer_role}
use Rattle.actor_rounds.specs.Rounds.{Asks, IsHeld, IsIdle, IsReady, IsSpent, Lets, Runs, told_entry}
use Rattle.actor_rounds.proofs.RunFacts.{still_role}
use Rattle.worker_core.proofs.Answered.{turn_role}
use Rattle.settle_slot.specs.Slot.Gates.{HoldsMountsAlone}
use Rattle.settle_slot.specs.Slot.Slots.{KnowsBehind, begun}
use Rattle.settle_slot.proofs.Slot.Held.{others_pass}
use Rattle.settle_slot.proofs.Slot.Knowing.{sees, told_knows}
use Rattle.settle_slot.proofs.Slot.Slots.{begun_behind, run_older}
use Rattle.settle_calls.specs.Tasks.Tasks.{under_left}
use Rattle.settle_calls.specs.Events.Ahead.{from_of}
use Rattle.settle_calls.specs.Events.Counts.{pending}
use Rattle.settle_calls.proofs.Events.Events.{none_pending}
use Rattle.settle_calls.proofs.Events.Sums.{of_each}
use Rattle.settle_calls.proofs.Passes.First.{first_calls_pay, wait_few}
use Rattle.settle_calls.proofs.Passes.Told.{within_five}
use Rattle.settle_calls.specs.Passes.Passes.{IsCallGiven, KindsHaveReached, first_cost, wait_cost}
use Rattle.settle_calls.specs.Slots.Slots.{writes_since}
use Rattle.settle_calls.proofs.Slots.Slots.{later, start_few}
use Rattle.settle_write_counts.proofs.Rounds.Runs.{silent_run}
use Rattle.settle_due.specs.Begun.Begun.{begins_to_last}
use Rattle.settle_round_calls.proofs.Slots.Calls.{AtKeys, Stage}
use Rattle.settle_round_calls.proofs.Slots.Made.{reads_stay}
use Rattle.settle_calls.proofs.Passes.Reaching.{IsBefore, IsPast, ReachedBehind, TurnOf, behind_on, first_low, given_at, none_told, reached_all, reached_on, turn_of}
use Rattle.settle_calls.proofs.Slots.HeldCalls.{own_read}
use Rattle.settle_round_calls.proofs.Slots.RoundCosts.{key_calls}
use Rattle.settle_round_calls.proofs.Slots.Stages.{all_read, nothing_told}
use Rattle.settle_round_calls.proofs.Sure.Calls.{calls_pay}
use Rattle.settle_round_calls.proofs.Sure.Passes.{none_since}
use Rattle.settle_round_calls.proofs.Sure.Lasting.{sure_built}
use Rattle.settle_round_calls.proofs.Sure.Left.{IsFree, IsLess, Owing, sure_left}
use Rattle.settle_round_calls.proofs.Sure.Turns.{turn_costs}

-- a decision costs at most three calls
key_few : (kind : SeatKind) → key_calls kind ≤ 3
key_few seats.User = omega arith
key_few seats.Binder = omega arith
key_few seats.Ops = omega arith
key_few seats.Scheduler = omega arith
key_few seats.ClaimProtect = omega arith
key_few seats.VolumeProtect = omega arith
key_few seats.Agent = omega arith

-- ---- a slot

module _ (setup : Setup) (lets : Lets) (holds : HoldsMountsAlone lets) (seat : ℕ) (after : ActorState) (past : List Entry) (left : ℕ) (idle : Bool)
    (run : IsRunOf setup past) (base : ℕ) (begins : base_of setup ≤ base) where
  -- no call of such an actor is held back
  not_held : {X : Type 0} (s given : ActorState) (request : Request) (h : List Entry) → begins_to_last s.role.kind ≡ true → IsReady seat s h
      → IsTurn s given (Call request) → lets h request ≡ false → X
  not_held s given request h sure ready turn held =
      absurd (true≢false (sym (others_pass lets seat s given request h holds (sure_built s.role.kind sure) (λ agent. true≢false (sym sure ∙ ap begins_to_last agent)) ready turn) ∙ held))

  -- ---- past the first pass

  second_pass : (s : ActorState) (h : List Entry) (b : ℕ) → Runs lets seat after past left idle s h b → begins_to_last s.role.kind ≡ true
      → base ≤ (world setup h).store.version → KindsHaveReached base seat s.role.kind h → KnowsBehind setup seat s.role s.pass h → (stage : Stage setup seat s h) (owing : Owing setup seat s h)
      → b ≤ left + sure_left setup seat (world setup past).store.version s h stage owing
  second_pass s h b (IsSpent none state entries rest busy) sure begun reached knows stage owing = omega (arith, none)
  second_pass s h b (IsIdle some ready turn entries rest calm) sure begun reached knows stage owing = omega (arith, rest)
  second_pass s h b (IsHeld given next request some ready turn held absorbs more) sure begun reached knows stage owing = not_held s given request h sure ready turn held
  second_pass s h b (Asks given next request reply some ready turn lets_it absorbs more) sure begun reached knows stage owing =
      let kept = turn_costs setup seat (world setup past).store.version s given request h run.imports sure ready whole.0 turn
      (λ over. sees setup seat s h whole.0 ready.stands.told knows over) stage owing in
      let told = calls_pay setup seat base (world setup past).store.version given request reply h g given_sure may begins given_reached short next.caches kept.stage kept.owing in
      let less = subst (λ y. IsLess setup seat (world setup past).store.version y (told_entry seat given request reply ∷ h) 1
      (sure_left setup seat (world setup past).store.version given h kept.stage kept.owing)) (sym absorbs) told in
      let ih = second_pass next (told_entry seat given request reply ∷ h) (b - 1) more next_sure next_begun next_reached
      (told_knows setup seat s given request reply h (sure_built s.role.kind sure) ready turn whole knows next absorbs) less.stage less.owing in
      let now = kept.less in
      let then_ = less.less in
      omega (arith, ih, now, then_, some)
    where
      whole : IsHistory setup (told_entry seat given request reply ∷ h)
      whole = run_older setup lets seat after past left idle next _ _ more (runs_are_histories setup past run.run)

      g : IsCallGiven setup seat given request reply h
      g = given_at setup seat s given h request reply (sure_built s.role.kind sure) ready turn whole

      short : (world setup (told_entry seat given request reply ∷ h)).store.version ≤ (world setup past).store.version
      short = later setup lets seat after past left idle next _ _ more

      given_kind : given.role.kind ≡ s.role.kind
      given_kind = ap (λ (r : Role). r.kind) (turn_role s given (Call request) turn)

      next_kind : next.role.kind ≡ s.role.kind
      next_kind = ap (λ (r : Role). r.kind) (still_role s given next (Call request) request (Told reply) turn absorbs)

      given_sure : begins_to_last given.role.kind ≡ true
      given_sure = ap begins_to_last given_kind ∙ sure

      next_sure : begins_to_last next.role.kind ≡ true
      next_sure = ap begins_to_last next_kind ∙ sure

      may : Licensed given.role.kind (own seat h) request
      may = subst (λ k. Licensed k (own seat h) request) (sym given_kind) (answer_licensed s given (Call request) (own seat h) (sure_built s.role.kind sure) ready.rows ready.stands.told turn)

      given_reached : KindsHaveReached base seat given.role.kind h
      given_reached = subst (λ k. KindsHaveReached base seat k h) (sym given_kind) reached

      next_begun : base ≤ (world setup (told_entry seat given request reply ∷ h)).store.version
      next_begun = let up = rises setup (told_entry seat given request reply ∷ []) h in omega (arith, up, begun)

      next_reached : KindsHaveReached base seat next.role.kind (told_entry seat given request reply ∷ h)
      next_reached kind from f is = reached_on setup seat base given request reply h g begun kind from (λ v e. reached kind v (ap (λ k. follows k kind) (sym next_kind) ∙ f) e) is

  -- ---- the first pass

  -- what comes after it
  abbrev after_cost : SeatKind → ℕ
  after_cost kind = 8 * ((world setup past).store.version - base) + (key_calls kind + 5)

  -- nothing is written in it
  abbrev cost_first : ActorState → List Entry → ℕ
  cost_first s h = first_cost setup seat s.role.kind base base s h

  -- past the pass the first cost covers what is still to come
  covered : (s : ActorState) (h : List Entry) → IsReady seat s h → begins_to_last s.role.kind ≡ true → IsHistory setup h
      → (world setup h).store.version ≡ base → ReachedBehind setup seat base s.role s.pass h → s.under ≡ None → unlisted s ≡ None → passing s ≡ None
      → IsLess setup seat (world setup past).store.version s h 0 (cost_first s h + after_cost s.role.kind)
  covered s h ready sure history version behind none listed over =
      let told = nothing_told setup seat s h ready (sure_built s.role.kind sure) history reached listed over in
      let since = none_since (length (kinds_of s.role.kind)) (world setup h).store.version in
      let writes : 8 * ((world setup past).store.version - (world setup h).store.version) ≡ 8 * ((world setup past).store.version - base) =
      ap (λ n. 8 * ((world setup past).store.version - n)) version in
      let event = at_most_five s.pass.event in
      let few_kinds = within_five s.role.kind in
      record {
        stage = AtKeys (world setup h).store.version over (all_read setup seat s h ready (sure_built s.role.kind sure) history reached listed over) (omega arith) (omega (arith, told));
        owing = IsFree none;
        less = omega (arith, since, writes, event, few_kinds);
      }
    where
      at_most_five : (e : Bool) → (if e then length (kinds_of s.role.kind) else 0) ≤ 5
      at_most_five true = within_five s.role.kind
      at_most_five false = omega arith

      reached : ReachedBehind setup seat (world setup h).store.version s.role s.pass h
      reached place kind from lt there is = let r = behind place kind from lt there is in omega (arith, r, version)

  first_pass : (s : ActorState) (h : List Entry) (b : ℕ) → Runs lets seat after past left idle s h b → begins_to_last s.role.kind ≡ true
      → s.under ≡ None → (world setup h).store.version ≡ base → ReachedBehind setup seat base s.role s.pass h → KnowsBehind setup seat s.role s.pass h
      → b ≤ left + (cost_first s h + after_cost s.role.kind)
  first_pass s h b (IsSpent none state entries rest busy) sure rests version behind knows = omega (arith, none)
  first_pass s h b (IsIdle some ready turn entries rest calm) sure rests version behind knows = omega (arith, rest)
  first_pass s h b (IsHeld given next request some ready turn held absorbs more) sure rests version behind knows = not_held s given request h sure ready turn held
  first_pass s h b (Asks given next request reply some ready turn lets_it absorbs more) sure rests version behind knows =
      by (turn_of s given request turn) (λ nb nr nv nh nk. first_pass next (told_entry seat given request reply ∷ h) (b - 1) more nb nr nv nh nk)
    where
      whole : IsHistory setup (told_entry seat given request reply ∷ h)
      whole = run_older setup lets seat after past left idle next _ _ more (runs_are_histories setup past run.run)

      g : IsCallGiven setup seat given request reply h
      g = given_at setup seat s given h request reply (sure_built s.role.kind sure) ready turn whole

      given_role : given.role ≡ s.role
      given_role = turn_role s given (Call request) turn

      next_kind : next.role.kind ≡ given.role.kind
      next_kind = ap (λ (r : Role). r.kind) (ap (λ (y : ActorState). y.role) absorbs ∙ answer_role given next.caches request (Told reply))

      given_kind : given.role.kind ≡ s.role.kind
      given_kind = ap (λ (r : Role). r.kind) (turn_role s given (Call request) turn)

      next_behind : s.pass ≡ given.pass → ReachedBehind setup seat base next.role next.pass (told_entry seat given request reply ∷ h)
      next_behind same = subst (λ (y : ActorState). ReachedBehind setup seat base y.role y.pass (told_entry seat given request reply ∷ h)) (sym absorbs)
          (behind_on setup seat base given request reply h g (omega (arith, version))
          (subst (λ (r : Role). ReachedBehind setup seat base r given.pass h) (sym given_role) (subst (λ p. ReachedBehind setup seat base s.role p h) same behind)) next.caches)

      by : TurnOf s given
          → (begins_to_last next.role.kind ≡ true → next.under ≡ None → (world setup (told_entry seat given request reply ∷ h)).store.version ≡ base
          → ReachedBehind setup seat base next.role next.pass (told_entry seat given request reply ∷ h)
          → KnowsBehind setup seat next.role next.pass (told_entry seat given request reply ∷ h)
          → b - 1 ≤ left + (cost_first next (told_entry seat given request reply ∷ h) + after_cost next.role.kind))
          → b ≤ left + (cost_first s h + after_cost s.role.kind)
      by (IsPast eu el ep) more_of =
          let c = covered s h ready sure whole.0 version behind eu el ep in
          let second = second_pass s h b (Asks given next request reply some ready turn lets_it absorbs more) sure (omega (arith, version))
          (reached_all setup seat base s.role s.pass h behind ep) knows c.stage c.owing in
          let less = c.less in
          omega (arith, second, less)
      by (IsBefore gg e) more_of =
          let given_none : given.under ≡ None = ap (λ (y : ActorState). y.under) e ∙ rests in
          let ask = sym (gives_asked s given (Call request) turn) in
          let stay = reads_stay setup seat given request reply h (own_read given request given_none ask) in
          let next_none : next.under ≡ None = ap (λ (y : ActorState). y.under) absorbs ∙ none_told given request reply next.caches given_none ask in
          let next_version : (world setup (told_entry seat given request reply ∷ h)).store.version ≡ base = stay.0 ∙ version in
          let ih = more_of (ap begins_to_last (next_kind ∙ given_kind) ∙ sure) next_none next_version
          (next_behind (ap (λ (y : ActorState). y.pass) (sym e))) (told_knows setup seat s given request reply h (sure_built s.role.kind sure) ready turn whole knows next absorbs) in
          let pays = first_calls_pay setup seat base base given request reply h next.caches g (omega (arith, next_version)) in
          let same = ap (λ k. first_cost setup seat k base base next (told_entry seat given request reply ∷ h)) next_kind in
          let became = ap (λ y. first_cost setup seat given.role.kind base base y (told_entry seat given request reply ∷ h)) absorbs in
          let was = ap (λ k. first_cost setup seat k base base given h) given_kind in
          let turned = ap (λ y. first_cost setup seat s.role.kind base base y h) e in
          let later_ = ap after_cost (next_kind ∙ given_kind) in
          omega (arith, ih, pays, same, became, was, turned, later_, some)

-- ---- the slot

-- from where nothing is under way
pub sure_from :
    (setup : Setup) (lets : Lets) (seat : ℕ) (old after : ActorState) (h past : List Entry) (b left : ℕ) (idle : Bool)
    → begins_to_last old.role.kind ≡ true → IsRunOf setup past → HoldsMountsAlone lets → (old.memory.stale ≡ false → old.under ≡ None)
    → Runs lets seat after past left idle (begun old) h b → b ≤ left + (8 * writes_since setup h past + 65)
sure_from setup lets seat old after h past b left idle sure run holds rests runs = by old.memory.stale refl
  where
    none_yet : (k : Kind) → 9 * pending k (world setup h).store.version (world setup h).log ≤ 0
    none_yet k = let n = none_pending k (world setup h).store.version (world setup h).store.version (world setup h).log (omega arith) (logs setup h 0) in omega (arith, n)

    by : (stale : Bool) → old.memory.stale ≡ stale → b ≤ left + (8 * writes_since setup h past + 65)
    by true e = let same = (silent_run setup lets seat after past left idle run (begun old) h b runs e).1 in omega (arith, same)
    by false e =
        let bound = first_pass setup lets holds seat after past left idle run (world setup h).store.version (first_low setup h)
        (begun old) h b runs sure (rests e) refl (λ place kind from lt. absurd (omega (arith, lt))) (begun_behind setup seat old h) in
        let start = start_few old.role old.memory in
        let waits = of_each old.role.kind (λ k. wait_cost (world setup h).store.version (from_of seat h k)) 10 (λ k. wait_few (world setup h).store.version (from_of seat h k)) in
        let events = of_each old.role.kind (λ k. 9 * pending k (world setup h).store.version (world setup h).log) 0 (λ k. none_yet k) in
        let none : under_left old.under ≡ 0 = ap under_left (rests e) in
        let few = key_few old.role.kind in
        omega (arith, bound, start, waits, events, none, few)
