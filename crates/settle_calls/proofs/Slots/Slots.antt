-- A slot makes few calls: its first pass, and what comes after it.
use Rattle.std.proofs.Common.{◌≡◌, ◌∙◌, ℕ, suc, ◌+◌, ◌*◌, ◌-◌, ◌≤◌, List, [], ◌∷◌, Bool, true, false, true≢false, Option, Some, None, inl, inr, refl, sym, ap, subst, arith, if◌then◌else◌}
use Rattle.std.specs.Prelude.{◌/◌, is_some, slice_get}
use Rattle.std.proofs.lemmas.Option.{slice_get_within}
use Rattle.kube_parts.specs.declared.parts.Kind.{Kind}
use Rattle.call_types.specs.declared.entry.Entry.{Entry}
use Rattle.call_types.specs.declared.request.Request.{Request}
use Rattle.call_types.specs.declared.request.Request.TheVariants as requests
use Rattle.call_types.specs.declared.setup.Setup.{Setup}
use Rattle.binder_model.specs.Reading.{follows, following_of}
use Rattle.binder_model.specs.Told.{own}
use Rattle.binder_model.specs.World.{IsHistory, base as base_of, world}
use Rattle.informer_cache.specs.All.{AllKnown, cache_of}
use Rattle.informer_cache.specs.Cache.{watch_from}
use Rattle.model_laws.proofs.Histories.{rows_stand_in_order}
use Rattle.model_laws.proofs.Lists.{IsIn, none_some}
use Rattle.model_laws.proofs.Uids.{rises}
use Rattle.model_laws.proofs.Watched.{logs}
use Rattle.settle_measure.specs.Left.Measure.{total}
use Rattle.worker_core.specs.declared.role.Role.{Role}
use Rattle.worker_core.specs.declared.turn.Next.TheVariants.{Call}
use Rattle.worker_core.specs.declared.turn.Outcome.TheVariants.{Lost, Told}
use Rattle.worker_core.specs.Absorbs.{woken}
use Rattle.worker_core.specs.Memories.{Memory}
use Rattle.worker_core.specs.Roles.{IsBuiltKind, kinds_of}
use Rattle.worker_core.specs.States.{ActorState, start_call}
use Rattle.worker_core.specs.Turns.{first_unlisted, is_listed, passing, unlisted}
use Rattle.worker_core.proofs.Answered.{gives_asked, passed}
use Rattle.worker_core.proofs.Turning.{turn_stands}
use Rattle.attention_law.specs.Queues.{taken_keys, under_keys}
use Rattle.attention_law.proofs.Turned.{answer_role}
use Rattle.actor_rounds.specs.Rounds.{Asks, IsHeld, IsIdle, IsReady, IsSpent, Lets, Runs, told_entry}
use Rattle.actor_rounds.proofs.RunFacts.{run_grows, still_role}
use Rattle.worker_core.proofs.Answered.{turn_role}
use Rattle.settle_slot.specs.Slot.Slots.{KnowsBehind}
use Rattle.settle_slot.proofs.Slot.Knowing.{lost_knows, sees, told_knows, turned_knows}
use Rattle.settle_slot.proofs.Slot.Slots.{nothing_behind, run_older}
use Rattle.settle_calls.specs.Tasks.Costs.{calls_for}
use Rattle.settle_calls.specs.Events.Counts.{pending}
use Rattle.settle_calls.specs.Slots.Slots.{PassesReads, SlotsAreShort, writes_since}
use Rattle.settle_calls.specs.Tasks.Tasks.{task_left, under_left}
use Rattle.settle_calls.proofs.Events.Events.{fewer_pending, none_pending}
use Rattle.settle_calls.proofs.Passes.First.{at_most, first_calls_pay, wait_few}
use Rattle.settle_calls.proofs.Events.Points.{point_on, waiting_once}
use Rattle.settle_calls.proofs.Events.Calls.{world_moves}
use Rattle.settle_calls.proofs.Events.Rows.{distinct_cost}
use Rattle.settle_calls.proofs.Passes.Reaching.{IsBefore, IsPast, ReachedBehind, TurnOf, behind_on, first_low, given_at, light_of, reached_all, reached_on, turn_of}
use Rattle.settle_calls.proofs.Passes.Second.{turn_cost}
use Rattle.settle_calls.proofs.Events.Sums.{div_less, mul_less, of_each}
use Rattle.settle_calls.proofs.Passes.Told.{calls_pay}
use Rattle.settle_calls.proofs.Tasks.Works.{none_again, put_off_cost}
use Rattle.settle_calls.specs.Events.Ahead.{Point, cost_at, from_of, kind_cost, sum_over}
use Rattle.settle_calls.specs.Events.Telling.{told}
use Rattle.settle_calls.specs.Passes.Passes.{KindsHaveReached, IsCallGiven, first_cost, second_cost, wait_cost}
use Rattle.settle_calls.specs.Tasks.Ends.{start_left, starts_left}
use Rattle.settle_calls.proofs.Slots.HeldCalls.{HeldTask, held_called, held_task}

-- the versions that are still to come
pub later : (setup : Setup) (lets : Lets) (seat : ℕ) (after : ActorState) (past : List Entry) (left : ℕ) (idle : Bool) (s : ActorState)
    (h : List Entry) (b : ℕ) → Runs lets seat after past left idle s h b → (world setup h).store.version ≤ (world setup past).store.version
later setup lets seat after past left idle s h b run =
    let g = run_grows lets seat after past left idle s h b run in
    subst (λ es. (world setup h).store.version ≤ (world setup es).store.version) (sym g.longer.are) (rises setup g.longer.added h)

-- ---- the kinds that are followed

pub listed_in : (c : AllKnown) (ks : List Kind) (kind : Kind) → first_unlisted c ks ≡ None → IsIn kind ks → is_listed c kind ≡ true
listed_in c [] kind none i = absurd i
listed_in c (k ∷ ks) kind none i = by (is_listed c k) refl none i (listed_in c ks kind)
  where
    by : (b : Bool) → is_listed c k ≡ b → (if b then first_unlisted c ks else Some k) ≡ None → IsIn kind (k ∷ ks)
        → (first_unlisted c ks ≡ None → IsIn kind ks → is_listed c kind ≡ true) → is_listed c kind ≡ true
    by false e n i rest = none_some (sym n)
    by true e n (inl is) rest = subst (λ x. is_listed c x ≡ true) is e
    by true e n (inr more) rest = rest n more

pub place_in : (ks : List Kind) (kind : Kind) → IsIn kind ks → (place : ℕ) × (slice_get ks place ≡ Some kind)
place_in [] kind i = absurd i
place_in (k ∷ ks) kind (inl is) = (0, ap Some is)
place_in (k ∷ ks) kind (inr i) = let p = place_in ks kind i in (suc p.0, p.1)

-- past the first pass

module _ (setup : Setup) (lets : Lets) (passes : PassesReads lets) (seat : ℕ) (after : ActorState) (past : List Entry) (left : ℕ) (idle : Bool)
    (history : IsHistory setup past) (base m : ℕ) (begins : base_of setup ≤ base) where
  abbrev high : ℕ
  high = (world setup past).store.version

  pub second_pass : (s : ActorState) (h : List Entry) (b : ℕ) → Runs lets seat after past left idle s h b → IsBuiltKind s.role.kind
      → Point setup s.role.kind base m (world setup past).store.version h → KindsHaveReached base seat s.role.kind h → KnowsBehind setup seat s.role s.pass h
      → b ≤ left + second_cost setup seat s.role.kind m (world setup past).store.version s h
  second_pass s h b (IsSpent none state entries rest busy) built at reached knows = omega (arith, none)
  second_pass s h b (IsIdle some ready turn entries rest calm) built at reached knows = omega (arith, rest)
  second_pass s h b (Asks given next request reply some ready turn lets_it absorbs more) built at reached knows =
      let ih = second_pass next (told_entry seat given request reply ∷ h) (b - 1) more next_built next_at next_reached
      (told_knows setup seat s given request reply h built ready turn whole knows next absorbs) in
      let turned = turn_cost setup seat m (world setup past).store.version s given request h turn (λ over. sees setup seat s h whole.0 ready.stands.told knows over) ready.stands.queue.taken in
      let pays = calls_pay setup seat base m (world setup past).store.version given request reply h next.caches g given_point begins given_reached short in
      let same = ap (λ k. second_cost setup seat k m (world setup past).store.version next (told_entry seat given request reply ∷ h)) next_kind in
      let was = ap (λ k. second_cost setup seat k m (world setup past).store.version given h) given_kind in
      let became = ap (λ y. second_cost setup seat given.role.kind m (world setup past).store.version y (told_entry seat given request reply ∷ h)) absorbs in
      let back = ap (λ k. second_cost setup seat k m (world setup past).store.version next (told_entry seat given request reply ∷ h)) given_kind in
      omega (arith, ih, turned, pays, same, was, became, back, some)
    where
      whole : IsHistory setup (told_entry seat given request reply ∷ h)
      whole = run_older setup lets seat after past left idle next _ _ more history

      g : IsCallGiven setup seat given request reply h
      g = given_at setup seat s given h request reply built ready turn whole

      short : (world setup (told_entry seat given request reply ∷ h)).store.version ≤ (world setup past).store.version
      short = later setup lets seat after past left idle next _ _ more

      given_kind : given.role.kind ≡ s.role.kind
      given_kind = ap (λ (r : Role). r.kind) (turn_role s given (Call request) turn)

      next_kind : next.role.kind ≡ s.role.kind
      next_kind = ap (λ (r : Role). r.kind) (still_role s given next (Call request) request (Told reply) turn absorbs)

      next_built : IsBuiltKind next.role.kind
      next_built = subst IsBuiltKind (sym next_kind) built

      given_point : Point setup given.role.kind base m (world setup past).store.version h
      given_point = subst (λ k. Point setup k base m (world setup past).store.version h) (sym given_kind) at

      given_reached : KindsHaveReached base seat given.role.kind h
      given_reached = subst (λ k. KindsHaveReached base seat k h) (sym given_kind) reached

      next_at : Point setup next.role.kind base m (world setup past).store.version (told_entry seat given request reply ∷ h)
      next_at = subst (λ k. Point setup k base m (world setup past).store.version (told_entry seat given request reply ∷ h)) (given_kind ∙ sym next_kind)
          (point_on setup given.role.kind base m (world setup past).store.version (told_entry seat given request reply) h given_point short
          (light_of setup seat base given request reply h g at.begun) (world_moves setup (told_entry seat given request reply) h whole.1))

      next_reached : KindsHaveReached base seat next.role.kind (told_entry seat given request reply ∷ h)
      next_reached kind from f is = reached_on setup seat base given request reply h g at.begun kind from (λ v e. reached kind v (ap (λ k. follows k kind) (sym next_kind) ∙ f) e) is
  second_pass s h b (IsHeld given next request some ready turn held absorbs more) built at reached knows =
      let ih = second_pass next h (b - 1) more next_built (subst (λ k. Point setup k base m (world setup past).store.version h) (sym next_kind) at)
      (subst (λ k. KindsHaveReached base seat k h) (sym next_kind) reached) (lost_knows setup seat given next request h (turned_knows setup seat s given (Call request) h turn knows) absorbs) in
      let turned = turn_cost setup seat m (world setup past).store.version s given request h turn (λ over. sees setup seat s h before ready.stands.told knows over) ready.stands.queue.taken in
      let some_left = t.some in
      let under : under_left given.under ≡ task_left t.under.task = ap under_left t.there in
      let work = put_off_cost (cost_at s.role.kind (world setup h)) t.under.key given.work in
      let same = ap (λ k. second_cost setup seat k m (world setup past).store.version next h) next_kind in
      let became = ap (λ y. second_cost setup seat s.role.kind m (world setup past).store.version y h) (absorbs ∙ t.is) in
      omega (arith, ih, turned, some_left, under, work, same, became, some)
    where
      before : IsHistory setup h
      before = run_older setup lets seat after past left idle next _ _ more history

      next_kind : next.role.kind ≡ s.role.kind
      next_kind = ap (λ (r : Role). r.kind) (still_role s given next (Call request) request Lost turn absorbs)

      next_built : IsBuiltKind next.role.kind
      next_built = subst IsBuiltKind (sym next_kind) built

      t : HeldTask given
      t = held_called given (own seat h) request (turn_stands s given (Call request) (own seat h) ready.rows ready.stands.told turn)
          (sym (gives_asked s given (Call request) turn)) (held_task lets given request h passes (sym (gives_asked s given (Call request) turn)) held)

  -- the first pass

  -- what comes after the first pass costs so much beside its writes
  abbrev after_cost : ℕ
  after_cost = m + 5 * ((m + 7) * (((world setup past).store.version - base) / 513)) + 5

  abbrev cost_first : ActorState → List Entry → ℕ
  cost_first s h = first_cost setup seat s.role.kind base (world setup past).store.version s h

  sum_in : (f g : Kind → ℕ) (d : ℕ) (ks : List Kind) → ((k : Kind) → IsIn k ks → g k ≤ f k + d) → sum_over g ks ≤ sum_over f ks + sum_over (λ k. d) ks
  sum_in f g d [] each = omega arith
  sum_in f g d (k ∷ ks) each = let a = each k (inl refl) in let b = sum_in f g d ks (λ x i. each x (inr i)) in omega (arith, a, b)

  -- past the pass the first cost covers the second
  covered : (s : ActorState) (h : List Entry) → IsReady seat s h → Point setup s.role.kind base m (world setup past).store.version h
      → ReachedBehind setup seat base s.role s.pass h → s.under ≡ None → unlisted s ≡ None → passing s ≡ None
      → second_cost setup seat s.role.kind m (world setup past).store.version s h ≤ cost_first s h + after_cost
  covered s h ready at behind none listed over =
      let taken : taken_keys s.work ≡ [] = ready.stands.queue.taken ∙ ap under_keys none in
      let again = none_again (cost_at s.role.kind (world setup h)) s.work.taken taken in
      let waiting = distinct_cost s.role.kind s.work.waiting (world setup h).store.rows (rows_stand_in_order setup h) (waiting_once s.work ready.stands.queue.once) in
      let heavy = at.heavy in
      let sum = sum_in (λ k. 9 * pending k base (world setup h).log)
      (λ k. kind_cost m (world setup past).store.version (world setup h) k (from_of seat h k)) ((m + 7) * (((world setup past).store.version - base) / 513)) (kinds_of s.role.kind) each in
      let five = of_each s.role.kind (λ k. (m + 7) * (((world setup past).store.version - base) / 513)) ((m + 7) * (((world setup past).store.version - base) / 513)) (λ k. omega arith) in
      let under = ap under_left none in
      let event = at_most_five s.pass.event in
      omega (arith, again, waiting, heavy, sum, five, under, event)
    where
      at_most_five : (e : Bool) → (if e then 5 else 0) ≤ 5
      at_most_five true = omega arith
      at_most_five false = omega arith

      reach : (k : Kind) (from : ℕ) → IsIn k (kinds_of s.role.kind) → from_of seat h k ≡ Some from → base ≤ from
      reach k from i is =
          let p = place_in (kinds_of s.role.kind) k i in
          let lt = slice_get_within (kinds_of s.role.kind) p.0 k p.1 in
          let all = passed (kinds_of s.role.kind) s.pass.behind over in
          behind p.0 k from (omega (arith, lt, all)) p.1 is

      each : (k : Kind) → IsIn k (kinds_of s.role.kind)
          → kind_cost m (world setup past).store.version (world setup h) k (from_of seat h k) ≤ 9 * pending k base (world setup h).log + (m + 7) * (((world setup past).store.version - base) / 513)
      each k i = by (from_of seat h k) refl
        where
          by : (x : Option ℕ) → from_of seat h k ≡ x
              → kind_cost m (world setup past).store.version (world setup h) k x ≤ 9 * pending k base (world setup h).log + (m + 7) * (((world setup past).store.version - base) / 513)
          by None e =
              let known : is_some (cache_of k s.caches).from ≡ true = listed_in s.caches (kinds_of s.role.kind) k listed i in
              let c = (ready.stands.told.caches.each k).from ∙ (ap (λ x. watch_from (following_of (own seat h) x)) (ready.stands.told.caches.kinds k) ∙ e) in
              absurd (true≢false (sym known ∙ ap is_some c))
          by (Some from) e =
              let r = reach k from i e in
              let a = fewer_pending k base from (world setup h).log r in
              let c = mul_less (m + 7) (((world setup past).store.version - from) / 513) (((world setup past).store.version - base) / 513)
              (div_less ((world setup past).store.version - from) ((world setup past).store.version - base) (omega (arith, r))) in
              omega (arith, a, c)

  first_pass : (s : ActorState) (h : List Entry) (b : ℕ) → Runs lets seat after past left idle s h b → IsBuiltKind s.role.kind
      → Point setup s.role.kind base m (world setup past).store.version h → ReachedBehind setup seat base s.role s.pass h → KnowsBehind setup seat s.role s.pass h
      → b ≤ left + (cost_first s h + after_cost)
  first_pass s h b (IsSpent none state entries rest busy) built at behind knows = omega (arith, none)
  first_pass s h b (IsIdle some ready turn entries rest calm) built at behind knows = omega (arith, rest)
  first_pass s h b (Asks given next request reply some ready turn lets_it absorbs more) built at behind knows =
      by (turn_of s given request turn) (λ nb na nr nk. first_pass next (told_entry seat given request reply ∷ h) (b - 1) more nb na nr nk)
    where
      whole : IsHistory setup (told_entry seat given request reply ∷ h)
      whole = run_older setup lets seat after past left idle next _ _ more history

      g : IsCallGiven setup seat given request reply h
      g = given_at setup seat s given h request reply built ready turn whole

      short : (world setup (told_entry seat given request reply ∷ h)).store.version ≤ (world setup past).store.version
      short = later setup lets seat after past left idle next _ _ more

      given_role : given.role ≡ s.role
      given_role = turn_role s given (Call request) turn

      next_role : next.role ≡ given.role
      next_role = ap (λ (y : ActorState). y.role) absorbs ∙ answer_role given next.caches request (Told reply)

      given_kind : given.role.kind ≡ s.role.kind
      given_kind = ap (λ (r : Role). r.kind) given_role

      next_kind : next.role.kind ≡ given.role.kind
      next_kind = ap (λ (r : Role). r.kind) next_role

      given_point : Point setup given.role.kind base m (world setup past).store.version h
      given_point = subst (λ k. Point setup k base m (world setup past).store.version h) (sym given_kind) at

      next_at : Point setup next.role.kind base m (world setup past).store.version (told_entry seat given request reply ∷ h)
      next_at = subst (λ k. Point setup k base m (world setup past).store.version (told_entry seat given request reply ∷ h)) (sym next_kind)
          (point_on setup given.role.kind base m (world setup past).store.version (told_entry seat given request reply) h given_point short
          (light_of setup seat base given request reply h g at.begun) (world_moves setup (told_entry seat given request reply) h whole.1))

      next_behind : s.pass ≡ given.pass → ReachedBehind setup seat base next.role next.pass (told_entry seat given request reply ∷ h)
      next_behind same = subst (λ (y : ActorState). ReachedBehind setup seat base y.role y.pass (told_entry seat given request reply ∷ h)) (sym absorbs)
          (behind_on setup seat base given request reply h g at.begun
          (subst (λ (r : Role). ReachedBehind setup seat base r given.pass h) (sym given_role) (subst (λ p. ReachedBehind setup seat base s.role p h) same behind)) next.caches)

      by : TurnOf s given
          → (IsBuiltKind next.role.kind → Point setup next.role.kind base m (world setup past).store.version (told_entry seat given request reply ∷
          h) → ReachedBehind setup seat base next.role next.pass (told_entry seat given request reply ∷ h)
          → KnowsBehind setup seat next.role next.pass (told_entry seat given request reply ∷ h) → b - 1 ≤ left + (cost_first next (told_entry seat given request reply ∷ h) + after_cost))
          → b ≤ left + (cost_first s h + after_cost)
      by (IsPast eu el ep) more_of =
          let second = second_pass s h b (Asks given next request reply some ready turn lets_it absorbs more) built at (reached_all setup seat base s.role s.pass h behind ep) knows in
          let c = covered s h ready at behind eu el ep in
          omega (arith, second, c)
      by (IsBefore gg e) more_of =
          let ih = more_of (subst IsBuiltKind (sym (next_kind ∙ given_kind)) built) next_at (next_behind (ap (λ (y : ActorState). y.pass) (sym e)))
          (told_knows setup seat s given request reply h built ready turn whole knows next absorbs) in
          let pays = first_calls_pay setup seat base (world setup past).store.version given request reply h next.caches g short in
          let same = ap (λ k. first_cost setup seat k base (world setup past).store.version next (told_entry seat given request reply ∷ h)) next_kind in
          let became = ap (λ y. first_cost setup seat given.role.kind base (world setup past).store.version y (told_entry seat given request reply ∷ h)) absorbs in
          let was = ap (λ k. first_cost setup seat k base (world setup past).store.version given h) given_kind in
          let turned = ap (λ y. first_cost setup seat s.role.kind base (world setup past).store.version y h) e in
          omega (arith, ih, pays, same, became, was, turned, some)
  first_pass s h b (IsHeld given next request some ready turn held absorbs more) built at behind knows =
      by (turn_of s given request turn) (λ nb na nr nk. first_pass next h (b - 1) more nb na nr nk)
    where
      before : IsHistory setup h
      before = run_older setup lets seat after past left idle next _ _ more history

      next_role : next.role ≡ s.role
      next_role = still_role s given next (Call request) request Lost turn absorbs

      next_kind : next.role.kind ≡ s.role.kind
      next_kind = ap (λ (r : Role). r.kind) next_role

      t : HeldTask given
      t = held_called given (own seat h) request (turn_stands s given (Call request) (own seat h) ready.rows ready.stands.told turn)
          (sym (gives_asked s given (Call request) turn)) (held_task lets given request h passes (sym (gives_asked s given (Call request) turn)) held)

      next_pass : s.pass ≡ given.pass → next.pass ≡ s.pass
      next_pass same = ap (λ (y : ActorState). y.pass) (absorbs ∙ t.is) ∙ sym same

      by : TurnOf s given
          → (IsBuiltKind next.role.kind → Point setup next.role.kind base m (world setup past).store.version h
          → ReachedBehind setup seat base next.role next.pass h → KnowsBehind setup seat next.role next.pass h → b - 1 ≤ left + (cost_first next h + after_cost))
          → b ≤ left + (cost_first s h + after_cost)
      by (IsPast eu el ep) more_of =
          let second = second_pass s h b (IsHeld given next request some ready turn held absorbs more) built at (reached_all setup seat base s.role s.pass h behind ep) knows in
          let c = covered s h ready at behind eu el ep in
          omega (arith, second, c)
      by (IsBefore gg e) more_of =
          let p = next_pass (ap (λ (y : ActorState). y.pass) (sym e)) in
          let ih = more_of (subst IsBuiltKind (sym next_kind) built) (subst (λ k. Point setup k base m (world setup past).store.version h) (sym next_kind) at)
          (subst (λ r. ReachedBehind setup seat base r next.pass h) (sym next_role)
          (subst (λ q. ReachedBehind setup seat base s.role q h) (sym p) behind))
          (lost_knows setup seat given next request h (turned_knows setup seat s given (Call request) h turn knows) absorbs) in
          let some_left = t.some in
          let under : under_left given.under ≡ task_left t.under.task = ap under_left t.there in
          let same = ap (λ k. first_cost setup seat k base (world setup past).store.version next h) next_kind in
          let became = ap (λ y. first_cost setup seat s.role.kind base (world setup past).store.version y h) (absorbs ∙ t.is) in
          let turned = ap (λ y. first_cost setup seat s.role.kind base (world setup past).store.version y h) e in
          omega (arith, ih, some_left, under, same, became, turned, some)

-- the slot

starts_few : (x : Option Request) → starts_left x ≤ 2
starts_few None = omega arith
starts_few (Some (requests.TakeNode node)) = omega arith
starts_few (Some _) = omega arith

pub start_few : (role : Role) (m : Memory) → start_left role m ≤ 2
start_few role m = by m.stale
  where
    by : (b : Bool) → (if b then 0 else starts_left (start_call role m)) ≤ 2
    by true = omega arith
    by false = starts_few (start_call role m)

pub slots_are_short : SlotsAreShort
slots_are_short setup lets seat old after h past b left idle built history passes run =
    let bound = first_pass setup lets passes seat after past left idle history (world setup h).store.version
    (total (calls_for old.role.kind) (world setup h).store.rows + 3 * writes_since setup h past) (first_low setup h)
    (woken old) h b run built begun_point (λ place kind from lt. absurd (omega (arith, lt))) (nothing_behind setup seat old h) in
    let start = start_few old.role old.memory in
    let waits = of_each old.role.kind (λ k. wait_cost (world setup h).store.version (from_of seat h k)) 10 (λ k. wait_few (world setup h).store.version (from_of seat h k)) in
    let events = of_each old.role.kind (λ k. 9 * pending k (world setup h).store.version (world setup h).log) 0 (λ k. none_yet k) in
    omega (arith, bound, start, waits, events)
  where
    up : (world setup h).store.version ≤ (world setup past).store.version
    up = later setup lets seat after past left idle (woken old) h b run

    none_yet : (k : Kind) → 9 * pending k (world setup h).store.version (world setup h).log ≤ 0
    none_yet k = let n = none_pending k (world setup h).store.version (world setup h).store.version (world setup h).log (omega arith) (logs setup h 0) in omega (arith, n)

    begun_point : Point setup old.role.kind (world setup h).store.version
        (total (calls_for old.role.kind) (world setup h).store.rows + 3 * writes_since setup h past) (world setup past).store.version h
    begun_point = record {
      begun = omega arith;
      light = λ y i lt. absurd (let top = at_most 0 (world setup h).store.version (world setup h).log y (logs setup h 0) i in omega (arith, top, lt));
      heavy = omega arith;
    }
