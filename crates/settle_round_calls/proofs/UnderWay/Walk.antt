-- What is under way is made, call by call, until it ends, is lost, or the budget is spent.
use Rattle.std.proofs.Common.{◌≡◌, ◌∙◌, ℕ, ◌+◌, ◌-◌, ◌<◌, ◌≤◌, List, [], ◌∷◌, ◌++◌, append_assoc, length, length-append, Bool, true, false, true≢false, Option, Some, None, refl, sym, ap, subst, arith}
use Rattle.kube_objects.specs.declared.objects.Object.{Object}
use Rattle.call_types.specs.declared.entry.Entry.{Entry}
use Rattle.call_types.specs.declared.reply.Reply.{Reply}
use Rattle.call_types.specs.declared.request.Request.{Request}
use Rattle.call_types.specs.declared.request.SeatKind.{SeatKind}
use Rattle.call_types.specs.declared.setup.Setup.{Setup}
use Rattle.binder_model.specs.Promises.{IsRunOf}
use Rattle.binder_model.specs.Told.{own}
use Rattle.binder_model.specs.World.{world}
use Rattle.informer_cache.specs.All.{AllKnown}
use Rattle.model_laws.proofs.Lists.{one}
use Rattle.worker_core.specs.declared.role.Role.{Role}
use Rattle.worker_core.specs.declared.task.Under.{Under}
use Rattle.worker_core.specs.declared.turn.Given.{Given}
use Rattle.worker_core.specs.declared.turn.Given.TheVariants as givens
use Rattle.worker_core.specs.declared.turn.Next.TheVariants.{Call}
use Rattle.worker_core.specs.declared.turn.Outcome.TheVariants.{Lost, Told}
use Rattle.worker_core.specs.Absorbs.{given_told, learned, lost_given}
use Rattle.worker_core.specs.Stands.{AnyIsUnderWay}
use Rattle.worker_core.specs.States.{ActorState, call_in, start_call}
use Rattle.worker_core.specs.Tasks.{task_call, under_after}
use Rattle.worker_core.specs.Turns.{TurnBy, passing, unlisted}
use Rattle.worker_core.proofs.Machines.{KeepsUnder, keeps_under}
use Rattle.worker_core.proofs.Owning.{stood}
use Rattle.actor_rounds.specs.Rounds.{Asks, IsHeld, IsIdle, IsSpent, Lets, Runs, told_entry}
use Rattle.actor_rounds.proofs.RunFacts.{still_role}
use Rattle.worker_core.proofs.Answered.{turn_role}
use Rattle.settle_slot.proofs.Slot.Slots.{task_lost, told_under}
use Rattle.settle_write_counts.proofs.Rounds.Runs.{run_at}
use Rattle.settle_round_calls.specs.UnderWay.Ends.{AreBy, IsBy, volume_write, volume_writes}

-- ---- entries that came

-- some entries of the seat and kind came, by so many calls at most beside one for each write, and so many writes
pub record Made (setup : Setup) (seat : ℕ) (kind : SeatKind) (calls writes volumes : ℕ) (h entries : List Entry) (b budget : ℕ) : Type 0 where
  pub newer : List Entry
  pub are : entries ≡ newer ++ h
  pub by : AreBy seat kind newer
  pub called : length newer + budget ≤ b
  pub few_calls : b + (world setup h).store.version ≤ budget + (calls + (world setup entries).store.version)
  pub few_writes : (world setup entries).store.version ≤ (world setup h).store.version + writes
  pub few_volumes : volume_writes newer ≤ volumes

pub none_made : (setup : Setup) (seat : ℕ) (kind : SeatKind) (calls writes volumes : ℕ) (h entries : List Entry) (b budget : ℕ) → entries ≡ h
    → budget ≤ b → b ≤ budget + calls → Made setup seat kind calls writes volumes h entries b budget
none_made setup seat kind calls writes volumes h entries b budget same low few =
    let v : (world setup entries).store.version ≡ (world setup h).store.version = ap (λ es. (world setup es).store.version) same in
    record { newer = []; are = same; by = tt; called = omega (arith, low); few_calls = omega (arith, v, few); few_writes = omega (arith, v); few_volumes = omega arith }

by_last : (seat : ℕ) (kind : SeatKind) (newer : List Entry) (e : Entry) → AreBy seat kind newer → IsBy seat kind e → AreBy seat kind (newer ++ (e ∷ []))
by_last seat kind [] e all is = (tt, is)
by_last seat kind (x ∷ newer) e all is = (by_last seat kind newer e all.0 is, all.1)

volumes_last : (newer : List Entry) (e : Entry) → volume_writes (newer ++ (e ∷ [])) ≡ volume_writes newer + volume_write e.request e.reply
volumes_last [] e = omega arith
volumes_last (x ∷ newer) e = let rest = volumes_last newer e in omega (arith, rest)

-- and one more before them
pub one_more : (setup : Setup) (seat : ℕ) (kind : SeatKind) (calls more_calls writes more_writes volumes more_volumes : ℕ) (e : Entry)
    (h entries : List Entry) (b budget : ℕ) → 0 < b → IsBy seat kind e
    → calls + 1 + (world setup h).store.version ≤ more_calls + (world setup (e ∷ h)).store.version → (world setup (e ∷ h)).store.version + writes ≤ (world setup h).store.version + more_writes
    → volume_write e.request e.reply + volumes ≤ more_volumes → Made setup seat kind calls writes volumes (e ∷ h) entries (b - 1) budget
    → Made setup seat kind more_calls more_writes more_volumes h entries b budget
one_more setup seat kind calls more_calls writes more_writes volumes more_volumes e h entries b budget some is fewer_calls fewer_writes fewer_volumes m =
    let count = length-append m.newer (e ∷ []) in
    let called = m.called in
    let calls_made = m.few_calls in
    let writes_made = m.few_writes in
    let volumes_made = m.few_volumes in
    let last = volumes_last m.newer e in
    record {
      newer = m.newer ++ (e ∷ []);
      are = m.are ∙ sym (append_assoc m.newer (e ∷ []) h);
      by = by_last seat kind m.newer e m.by is;
      called = omega (arith, count, called, some);
      few_calls = omega (arith, calls_made, fewer_calls, some);
      few_writes = omega (arith, writes_made, fewer_writes);
      few_volumes = omega (arith, volumes_made, fewer_volumes, last);
    }

-- ---- what an answer leaves

-- what it leaves under way makes fewer calls, but for a write, and fewer writes
pub record Moves (setup : Setup) (Keeps : List Entry → Under → Type 0) (calls : List Object → Option Under → ℕ)
    (writes volumes : List Object → Option Under → ℕ) (e : Entry) (h : List Entry) (u : Under) : Type 0 where
  pub kept : (n : Under) → under_after u e.reply ≡ Some n → Keeps (e ∷ h) n
  pub fewer_calls : calls (world setup (e ∷ h)).store.rows (under_after u e.reply) + 1 + (world setup h).store.version ≤ calls (world setup h).store.rows (Some u) + (world setup (e ∷ h)).store.version
  pub fewer_writes : (world setup (e ∷ h)).store.version + writes (world setup (e ∷ h)).store.rows (under_after u e.reply) ≤ (world setup h).store.version + writes (world setup h).store.rows (Some u)
  pub fewer_volumes : volume_write e.request e.reply + volumes (world setup (e ∷ h)).store.rows (under_after u e.reply) ≤ volumes (world setup h).store.rows (Some u)

-- the pass stands while a task's call is answered or lost
module _ (given : ActorState) (request : Request) (reply : Reply) where
  told_pass : (caches : AllKnown) (g : Option Given) (x : Option Under) → g ≡ Some givens.Task
      → (given_told (record (learned given caches request reply) { under = x }) request reply g).pass ≡ given.pass
  told_pass caches g None eg = rw eg refl
  told_pass caches g (Some u) eg = rw eg refl

lost_pass : (given : ActorState) (g : Option Given) (x : Option Under) → g ≡ Some givens.Task → (lost_given (record given { under = x }) g).pass ≡ given.pass
lost_pass given g None eg = rw eg refl
lost_pass given g (Some u) eg = rw eg refl

-- ---- the run

module _ (setup : Setup) (lets : Lets) (seat : ℕ) (after : ActorState) (past : List Entry) (left : ℕ) (idle : Bool) (run : IsRunOf setup past) (role : Role)
    (Keeps : List Entry → Under → Type 0) (calls : List Object → Option Under → ℕ) (writes volumes : List Object → Option Under → ℕ) where
  abbrev MadeFrom : ActorState → (h entries : List Entry) (b budget : ℕ) → Type 0
  MadeFrom s h entries b budget = Made setup seat role.kind (calls (world setup h).store.rows s.under) (writes (world setup h).store.rows s.under)
      (volumes (world setup h).store.rows s.under) h entries b budget

  pub data Ended (s : ActorState) (h : List Entry) (b : ℕ) : Type 0 where
    There : MadeFrom s h past b left → Ended s h b
    Further : (state : ActorState) (entries : List Entry) (budget : ℕ) → Runs lets seat after past left idle state entries budget
        → (state.memory.stale ≡ false → state.under ≡ None) → state.pass ≡ s.pass → state.role ≡ s.role → MadeFrom s h entries b budget → Ended s h b

  module _ (some : (rows : List Object) (u : Under) → task_call u.task ≡ Some u.call → 1 ≤ calls rows (Some u))
      (each : (e : Entry) (h : List Entry) (u : Under) → IsRunOf setup (e ∷ h) → e.request ≡ u.call → e.kind ≡ role.kind
      → KeepsUnder role u (own seat h) → Keeps h u → Moves setup Keeps calls writes volumes e h u) where
    pub walk : (s : ActorState) (h : List Entry) (b : ℕ) → Runs lets seat after past left idle s h b → s.role ≡ role → ((u : Under) → s.under ≡ Some u → Keeps h u) → Ended s h b
    walk s h b (IsSpent none state entries rest busy) is keeps = There (none_made setup seat role.kind _ _ _ h past b left entries (omega (arith, rest)) (omega (arith, rest)))
    walk s h b (IsIdle enough ready turn entries rest calm) is keeps = There (none_made setup seat role.kind _ _ _ h past b left entries (omega (arith, rest)) (omega (arith, rest)))
    walk s h b (Asks given next request reply enough ready turn lets_it absorbs more) is keeps =
        by s.memory.stale s.under refl refl turn (λ r k. walk next (told_entry seat given request reply ∷ h) (b - 1) more r k)
      where
        stays : (s.memory.stale ≡ false → s.under ≡ None) → Ended s h b
        stays none = Further s h b (Asks given next request reply enough ready turn lets_it absorbs more) none refl refl (none_made setup seat role.kind _ _ _ h h b b refl (omega arith) (omega arith))

        by : (stale : Bool) (x : Option Under) → s.memory.stale ≡ stale → s.under ≡ x → TurnBy s given (Call request) stale x (start_call s.role s.memory) (unlisted s) (passing s)
            → (next.role ≡ role → ((u : Under) → next.under ≡ Some u → Keeps (told_entry seat given request reply ∷ h) u) → Ended next (told_entry seat given request reply ∷ h) (b - 1)) → Ended s h b
        by true x stale ex t rest = stays (λ fresh. absurd (true≢false (sym stale ∙ fresh)))
        by false None stale ex t rest = stays (λ fresh. ex)
        by false (Some u) stale ex t rest = joined (rest (next_role ∙ is) (λ n en. moves.kept n (sym next_under ∙ en)))
          where
            e : Entry
            e = told_entry seat given request reply

            task : given.given ≡ Some givens.Task
            task = ap (λ (y : ActorState). y.given) t.state

            given_under : given.under ≡ Some u
            given_under = ap (λ (y : ActorState). y.under) t.state ∙ ex

            next_under : next.under ≡ under_after u reply
            next_under = ap (λ (y : ActorState). y.under) absorbs ∙ told_under given request reply u next.caches given.given given.under task given_under

            next_pass : next.pass ≡ s.pass
            next_pass = ap (λ (y : ActorState). y.pass) absorbs ∙ (told_pass given request reply next.caches given.given given.under task ∙ ap (λ (y : ActorState). y.pass) t.state)

            next_role : next.role ≡ s.role
            next_role = still_role s given next (Call request) request (Told reply) turn absorbs

            kind_is : given.role.kind ≡ role.kind
            kind_is = ap (λ (r : Role). r.kind) (turn_role s given (Call request) turn ∙ is)

            way : KeepsUnder role u (own seat h)
            way = subst (λ r. KeepsUnder r u (own seat h)) is
                (keeps_under s.role u (own seat h) (stood s (own seat h) ready.stands.told) (subst (λ y. AnyIsUnderWay s.role y (own seat h)) ex ready.stands.told.under_way))

            moves : Moves setup Keeps calls writes volumes e h u
            moves = each e h u (run_at setup lets seat after past left idle run next (e ∷ h) (b - 1) more) (one request u.call (ap call_in t.call)) kind_is way (keeps u ex)

            more_made : (entries : List Entry) (budget : ℕ) → MadeFrom next (e ∷ h) entries (b - 1) budget → MadeFrom s h entries b budget
            more_made entries budget m =
                let c = ap (calls (world setup (e ∷ h)).store.rows) next_under in
                let w = ap (writes (world setup (e ∷ h)).store.rows) next_under in
                let v = ap (volumes (world setup (e ∷ h)).store.rows) next_under in
                let c0 = ap (calls (world setup h).store.rows) ex in
                let w0 = ap (writes (world setup h).store.rows) ex in
                let v0 = ap (volumes (world setup h).store.rows) ex in
                let fewer_calls = moves.fewer_calls in
                let fewer_writes = moves.fewer_writes in
                let fewer_volumes = moves.fewer_volumes in
                one_more setup seat role.kind _ _ _ _ _ _ e h entries b budget enough (record { of_seat = refl; of_kind = kind_is; told = refl })
                (omega (arith, c, c0, fewer_calls)) (omega (arith, w, w0, fewer_writes)) (omega (arith, v, v0, fewer_volumes)) m

            joined : Ended next (e ∷ h) (b - 1) → Ended s h b
            joined (There m) = There (more_made past left m)
            joined (Further state entries budget runs none pass role_is m) = Further state entries budget runs none (pass ∙ next_pass) (role_is ∙ next_role) (more_made entries budget m)
    walk s h b (IsHeld given next request enough ready turn held absorbs more) is keeps = by s.memory.stale s.under refl refl turn
      where
        stays : (s.memory.stale ≡ false → s.under ≡ None) → Ended s h b
        stays none = Further s h b (IsHeld given next request enough ready turn held absorbs more) none refl refl (none_made setup seat role.kind _ _ _ h h b b refl (omega arith) (omega arith))

        by : (stale : Bool) (x : Option Under) → s.memory.stale ≡ stale → s.under ≡ x → TurnBy s given (Call request) stale x (start_call s.role s.memory) (unlisted s) (passing s) → Ended s h b
        by true x stale ex t = stays (λ fresh. absurd (true≢false (sym stale ∙ fresh)))
        by false None stale ex t = stays (λ fresh. ex)
        by false (Some u) stale ex t = Further next h (b - 1) more (λ fresh. none) pass (still_role s given next (Call request) request Lost turn
            absorbs) (none_made setup seat role.kind _ _ _ h h b (b - 1) refl (omega arith) (omega (arith, enough, at_least, c0)))
          where
            task : given.given ≡ Some givens.Task
            task = ap (λ (y : ActorState). y.given) t.state

            none : next.under ≡ None
            none = ap (λ (y : ActorState). y.under) absorbs ∙ task_lost given given.given given.under task

            pass : next.pass ≡ s.pass
            pass = ap (λ (y : ActorState). y.pass) absorbs ∙ (lost_pass given given.given given.under task ∙ ap (λ (y : ActorState). y.pass) t.state)

            way : KeepsUnder s.role u (own seat h)
            way = keeps_under s.role u (own seat h) (stood s (own seat h) ready.stands.told) (subst (λ y. AnyIsUnderWay s.role y (own seat h)) ex ready.stands.told.under_way)

            at_least : 1 ≤ calls (world setup h).store.rows (Some u)
            at_least = some (world setup h).store.rows u way.call

            c0 : calls (world setup h).store.rows s.under ≡ calls (world setup h).store.rows (Some u)
            c0 = ap (calls (world setup h).store.rows) ex
