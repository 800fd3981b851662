-- A slot decides a key that is in work when it begins, once that work is over.
use Rattle.std.proofs.Common.{◌≡◌, ◌∙◌, ℕ, ◌-◌, List, [], ◌∷◌, ◌++◌, Bool, true, false, true≢false, Option, Some, None, inl, inr, refl, sym, ap, subst, if◌then◌else◌}
use Rattle.std.specs.Prelude.{cond, is_some, map}
use Rattle.kube_objects.specs.declared.key.Key.{Key}
use Rattle.kube_objects.specs.declared.objects.Object.{Object}
use Rattle.kube_objects.specs.Keys.{row_at}
use Rattle.call_types.specs.declared.entry.Entry.{Entry}
use Rattle.call_types.specs.declared.reply.Reply.{Reply}
use Rattle.call_types.specs.declared.request.Request.{Request}
use Rattle.call_types.specs.declared.setup.Setup.{Setup}
use Rattle.binder_model.specs.World.{IsHistory, effect, world}
use Rattle.binder_model.specs.Reading.{follows}
use Rattle.informer_cache.specs.All.{AllStandFor, all_objects, cache_of}
use Rattle.informer_cache.specs.Cache.{kind_known, objects_of}
use Rattle.model_laws.proofs.Histories.{rows_stand_in_order}
use Rattle.model_laws.proofs.Lists.{none_some, one}
use Rattle.sync_queue.specs.Work.{Taken, Work, is_of, mark_of, oldest_of}
use Rattle.worker_core.specs.declared.role.Role.{Role}
use Rattle.worker_core.specs.declared.task.Under.{Under}
use Rattle.worker_core.specs.declared.turn.Given.TheVariants as givens
use Rattle.worker_core.specs.declared.turn.Next.{Next}
use Rattle.worker_core.specs.declared.turn.Next.TheVariants.{Call, Idle}
use Rattle.worker_core.specs.declared.turn.Outcome.TheVariants.{Lost, Told}
use Rattle.worker_core.specs.Absorbs.{ended_work, given_told, learned, lost_given, lost_under, task_told, work_after, woken}
use Rattle.worker_core.specs.Roles.{IsBuiltKind, kinds_of}
use Rattle.worker_core.specs.States.{ActorState, call_in, start_call, waits}
use Rattle.worker_core.specs.Tasks.{task_parks, under_after}
use Rattle.worker_core.specs.Turns.{IsTurn, TurnBy, passing, unlisted}
use Rattle.worker_core.proofs.ByKind.{placed}
use Rattle.worker_core.proofs.KeyMoves.{is_key}
use Rattle.attention_law.specs.Queues.{OneTaken, key_in, taken_keys, under_keys}
use Rattle.attention_law.proofs.Queues.{row_any}
use Rattle.attention_law.proofs.Turned.{calls_fresh}
use Rattle.actor_rounds.specs.Rounds.{Asks, IsHeld, IsIdle, IsReady, IsSpent, Lets, Runs, told_entry}
use Rattle.actor_rounds.proofs.RunFacts.{run_grows, still_role, turn_memory}
use Rattle.settle_writes.specs.Writes.Lasting.{HasLasting, LastsBetween}
use Rattle.settle_alike.specs.Alike.Alike.{AreAlike}
use Rattle.settle_alike.proofs.Alike.Calls.{LastsOrAlike, calls_last_or_leave_alike, then_alike}
use Rattle.settle_slot.specs.Slot.Slots.{KnowsBehind}
use Rattle.settle_slot.proofs.Slot.Knowing.{lost_knows, told_knows, turned_knows}
use Rattle.settle_slot.proofs.Slot.Slots.{lasting_here, lasting_later, run_older}
use Rattle.settle_calls.proofs.Passes.Given.{in_place}
use Rattle.settle_progress.specs.Wakes.Wakes.{ComesAgain}
use Rattle.settle_progress.proofs.Wakes.Adding.{finished_comes, kinds_come, put_off_comes}

pub come_by : (s : ActorState) (mine : List Entry) (key : Key) (o : Object) → AllStandFor s.caches mine → follows s.role.kind key.kind ≡ true
    → row_at key (all_objects s.caches) ≡ Some o → ComesAgain key (woken s).work
come_by s mine key o c f there =
    let p = placed s.role.kind key.kind f in
    let own_kind : key.kind ≡ kind_known (cache_of key.kind s.caches) = sym (c.kinds key.kind) in
    let row : row_at key (objects_of (cache_of key.kind s.caches)) ≡ Some o = (c.each key.kind).rows key own_kind ∙ (sym (c.rows key) ∙ there) in
    kinds_come s.caches (kinds_of s.role.kind) key.kind key s.work (in_place (kinds_of s.role.kind) p.place key.kind p.at) (row_any key o _ row)

-- a marked key is that of what is under way

data IsUnder (s : ActorState) (key : Key) : Type 0 where
  For : (u : Under) → s.under ≡ Some u → u.key ≡ key → IsUnder s key

under_key : (s : ActorState) (key : Key) → OneTaken s → mark_of key s.work.taken ≡ Some true → IsUnder s key
under_key s key own marked = by s.under refl own
  where
    of : (ts : List Taken) (k : Key) → map key_in ts ≡ k ∷ [] → mark_of key ts ≡ Some true → k ≡ key
    of [] k e m = none_some m
    of (t ∷ ts) k e m = test (is_of key t) refl m
      where
        t_is : t.key ≡ k
        t_is = one t.key k (ap oldest_of e)

        rest : map key_in ts ≡ []
        rest = ap tail e
          where
            tail : List Key → List Key
            tail [] = []
            tail (x ∷ xs) = xs

        none : (us : List Taken) → map key_in us ≡ [] → mark_of key us ≡ None
        none [] h = refl
        none (u ∷ us) h = none_some (sym (ap oldest_of h))

        test : (b : Bool) → is_of key t ≡ b → cond b (Some t.again) (mark_of key ts) ≡ Some true → k ≡ key
        test true is h = sym t_is ∙ sym (is_key key t.key is)
        test false is h = none_some (sym (none ts rest) ∙ h)

    by : (x : Option Under) → s.under ≡ x → taken_keys s.work ≡ under_keys x → IsUnder s key
    by None e t = empty s.work.taken t marked
      where
        empty : (ts : List Taken) → map key_in ts ≡ [] → mark_of key ts ≡ Some true → IsUnder s key
        empty [] h m = none_some m
        empty (u ∷ us) h m = none_some (sym (ap oldest_of h))
    by (Some u) e t = For u e (of s.work.taken u.key t marked)

-- what is under way is asked next
record AsksIt (s new : ActorState) (answer : Next) (u : Under) : Type 0 where
  state : new ≡ record s { given = Some givens.Task }
  call : answer ≡ Call u.call

asks_it : (s new : ActorState) (answer : Next) (u : Under) → IsTurn s new answer → s.memory.stale ≡ false → s.under ≡ Some u → AsksIt s new answer u
asks_it s new answer u turn awake under = by s.memory.stale s.under refl refl turn
  where
    by : (stale : Bool) (x : Option Under) → s.memory.stale ≡ stale → s.under ≡ x → TurnBy s new answer stale x (start_call s.role s.memory) (unlisted s) (passing s) → AsksIt s new answer u
    by true x es ex t = absurd (true≢false (sym es ∙ awake))
    by false None es ex t = none_some (sym ex ∙ under)
    by false (Some v) es ex t = record { state = t.state; call = t.call ∙ ap (λ (x : Under). Call x.call) (one v u (sym ex ∙ under)) }

-- each call of the slot keeps what is kept
abbrev pub StaysKept : ℕ → Role → List Entry → (List Entry → Type 0) → Type 0
StaysKept seat role past Kept =
    (s given : ActorState) (request : Request) (reply : Reply) (h newer : List Entry) → s.role ≡ role → IsReady seat s h
    → IsTurn s given (Call request) → past ≡ newer ++ (told_entry seat given request reply ∷ h) → Kept h → Kept (told_entry seat given request reply ∷ h)

-- wherever the key waits in the slot, an entry lasts
abbrev pub LastsWhereWaiting : Setup → Lets → ℕ → Role → List Entry → Key → ActorState → List Entry → ℕ → (List Entry → Type 0) → Type 0
LastsWhereWaiting setup lets seat role start key after past left Kept =
    (s : ActorState) (h : List Entry) (b : ℕ) → Runs lets seat after past left true s h b → s.role ≡ role
    → AreAlike (world setup start) (world setup h) → KnowsBehind setup seat s.role s.pass h → Kept h → waits key s.work ≡ true → HasLasting setup h past

-- with what is kept at each point of the slot
module _ (setup : Setup) (lets : Lets) (seat : ℕ) (role : Role) (start : List Entry) (key : Key) (built : IsBuiltKind role.kind) (after : ActorState)
    (past : List Entry) (left : ℕ) (history : IsHistory setup past) (fresh : after.memory.stale ≡ false)
    (Kept : List Entry → Type 0) (stays : StaysKept seat role past Kept) (waiting_last : LastsWhereWaiting setup lets seat role start key after past left Kept) where
  -- the work after an answer: the key is in work still, or waits
  ended : (u : Under) (reply : Reply) (w : Work) → u.key ≡ key → mark_of key w.taken ≡ Some true → ComesAgain key (work_after u reply w)
  ended u reply w own marked = by (is_some (under_after u reply)) (task_parks u.task reply)
    where
      by : (a b : Bool) → ComesAgain key (if a then w else ended_work b u.key w)
      by true b = inr marked
      by false true = inl (subst (λ k. waits key (ended_work true k w) ≡ true) (sym own) (put_off_comes key w marked))
      by false false = inl (subst (λ k. waits key (ended_work false k w) ≡ true) (sym own) (finished_comes key w marked))

  pub marked_last : (s : ActorState) (h : List Entry) (b : ℕ) → Runs lets seat after past left true s h b → s.role ≡ role
      → AreAlike (world setup start) (world setup h) → KnowsBehind setup seat s.role s.pass h → Kept h → mark_of key s.work.taken ≡ Some true → HasLasting setup h past
  marked_last s h b (IsSpent none state entries rest busy) is alike knows kept marked = absurd (true≢false busy)
  marked_last s h b (IsIdle some ready turn entries rest calm) is alike knows kept marked = by (under_key s key ready.stands.queue.taken marked)
    where
      awake : s.memory.stale ≡ false
      awake = ap (λ m. m.stale) (sym (turn_memory s after Idle turn)) ∙ fresh

      by : IsUnder s key → HasLasting setup h past
      by (For u under own) = none_some (ap call_in (asks_it s after Idle u turn awake under).call)
  marked_last s h b (Asks given next request reply some ready turn passes absorbs more) is alike knows kept marked =
      by (under_key s key ready.stands.queue.taken marked) (λ r a k m. marked_last next (told_entry seat given request reply ∷ h) (b - 1) more r a k kept_on m)
    where
      kept_on : Kept (told_entry seat given request reply ∷ h)
      kept_on = let grows = run_grows lets seat after past left true next _ _ more in stays s given request reply h grows.longer.added is ready turn grows.longer.are kept

      whole : IsHistory setup (told_entry seat given request reply ∷ h)
      whole = run_older setup lets seat after past left true next _ _ more history

      next_role : next.role ≡ role
      next_role = still_role s given next (Call request) request (Told reply) turn absorbs ∙ is

      built_here : IsBuiltKind s.role.kind
      built_here = subst (λ (r : Role). IsBuiltKind r.kind) (sym is) built

      knows_next : KnowsBehind setup seat next.role next.pass (told_entry seat given request reply ∷ h)
      knows_next = told_knows setup seat s given request reply h built_here ready turn whole knows next absorbs

      comes : (u : Under) → s.under ≡ Some u → u.key ≡ key → ComesAgain key next.work
      comes u under own =
          let a = asks_it s given (Call request) u turn (calls_fresh s given request turn) under in
          let given_under : given.under ≡ Some u = ap (λ (x : ActorState). x.under) a.state ∙ under in
          let given_task : given.given ≡ Some givens.Task = ap (λ (x : ActorState). x.given) a.state in
          let work : given.work ≡ s.work = ap (λ (x : ActorState). x.work) a.state in
          let state : next ≡ task_told (learned given next.caches request reply) reply (Some u) = absorbs
          ∙ (ap (given_told (learned given next.caches request reply) request reply) given_task ∙ ap (task_told (learned given next.caches request reply) reply) given_under) in
          subst (ComesAgain key) (sym (ap (λ (x : ActorState). x.work) state)) (ended u reply given.work own (ap (λ (w : Work). mark_of key w.taken) work ∙ marked))

      -- the entry lasts, or leaves the world alike
      on : (AreAlike (world setup start) (world setup (told_entry seat given request reply ∷ h))
          → HasLasting setup (told_entry seat given request reply ∷ h) past) → LastsOrAlike (world setup h) (effect setup (world setup h) given.role.kind request) → HasLasting setup h past
      on rest (inl lasts) =
          let g = run_grows lets seat after past left true next _ _ more in
          lasting_here setup (told_entry seat given request reply) h past g.longer.added g.longer.are
          (subst (λ r. LastsBetween (world setup h) (world setup (told_entry seat given request reply ∷ h)) r) (sym whole.1) lasts)
      on rest (inr same) = lasting_later setup (told_entry seat given request reply) h past (rest (then_alike _ _ _ alike same))

      split : LastsOrAlike (world setup h) (effect setup (world setup h) given.role.kind request)
      split = calls_last_or_leave_alike setup (world setup h) given.role.kind request (rows_stand_in_order setup h)

      goes : ComesAgain key next.work
          → (next.role ≡ role → AreAlike (world setup start) (world setup (told_entry seat given request reply ∷ h))
          → KnowsBehind setup seat next.role next.pass (told_entry seat given request reply ∷ h) → mark_of key next.work.taken ≡ Some true
          → HasLasting setup (told_entry seat given request reply ∷ h) past)
          → HasLasting setup h past
      goes (inl there) rest = on (λ a. waiting_last next (told_entry seat given request reply ∷ h) (b - 1) more next_role a knows_next kept_on there) split
      goes (inr again) rest = on (λ a. rest next_role a knows_next again) split

      by : IsUnder s key
          → (next.role ≡ role → AreAlike (world setup start) (world setup (told_entry seat given request reply ∷ h))
          → KnowsBehind setup seat next.role next.pass (told_entry seat given request reply ∷ h) → mark_of key next.work.taken ≡ Some true
          → HasLasting setup (told_entry seat given request reply ∷ h) past)
          → HasLasting setup h past
      by (For u under own) rest = goes (comes u under own) rest
  marked_last s h b (IsHeld given next request some ready turn held absorbs more) is alike knows kept marked = by (under_key s key ready.stands.queue.taken marked)
    where
      next_role : next.role ≡ role
      next_role = still_role s given next (Call request) request Lost turn absorbs ∙ is

      by : IsUnder s key → HasLasting setup h past
      by (For u under own) =
          let a = asks_it s given (Call request) u turn (calls_fresh s given request turn) under in
          let given_under : given.under ≡ Some u = ap (λ (x : ActorState). x.under) a.state ∙ under in
          let given_task : given.given ≡ Some givens.Task = ap (λ (x : ActorState). x.given) a.state in
          let work : given.work ≡ s.work = ap (λ (x : ActorState). x.work) a.state in
          let state : next ≡ lost_under given (Some u) = absorbs ∙ (ap (lost_given given) given_task ∙ ap (lost_under given) given_under) in
          let there : waits key next.work ≡ true =
          subst (λ w. waits key w ≡ true) (sym (ap (λ (x : ActorState). x.work) state))
          (subst (λ k. waits key (ended_work true k given.work) ≡ true) (sym own) (put_off_comes key given.work (ap (λ (w : Work). mark_of key w.taken) work ∙ marked))) in
          waiting_last next h (b - 1) more next_role alike (lost_knows setup seat given next request h (turned_knows setup seat s given (Call request) h turn knows) absorbs) kept there
