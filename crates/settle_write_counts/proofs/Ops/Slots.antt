-- In a slot of ops each write lowers the number of its writes: what it decides rests on the store as it is.
use Rattle.std.proofs.Common.{◌≡◌, ◌∙◌, ℕ, ◌+◌, ◌-◌, ◌≤◌, List, ◌∷◌, Bool, true, false, Option, Some, None, inl, inr, refl, sym, ap, subst, arith}
use Rattle.kube_objects.specs.declared.key.Key.{Key}
use Rattle.kube_parts.specs.declared.parts.Kind.{Kind}
use Rattle.kube_objects.specs.declared.objects.Object.{Object}
use Rattle.kube_objects.specs.declared.objects.Object.TheVariants.{Class, Node, Volume, Claim, Pod}
use Rattle.kube_objects.specs.Keys.{key_of, row_at}
use Rattle.kube_objects.proofs.KeyOrder.{row_at_key}
use Rattle.call_types.specs.declared.entry.Entry.{Entry}
use Rattle.call_types.specs.declared.reply.Reply.{Reply}
use Rattle.call_types.specs.declared.request.Request.{Request}
use Rattle.call_types.specs.declared.request.SeatKind.TheVariants as seats
use Rattle.call_types.specs.declared.setup.Setup.{Setup}
use Rattle.binder_model.specs.Licence.{Licensed, RowAllows}
use Rattle.binder_model.specs.Promises.{IsRunOf}
use Rattle.binder_model.specs.Reading.{follows}
use Rattle.binder_model.specs.Told.{own}
use Rattle.binder_model.specs.World.{IsHistory, World, effect, reply_to, world, world_after}
use Rattle.informer_cache.specs.declared.cache.NextRead.{NextRead}
use Rattle.informer_cache.specs.declared.cache.NextRead.TheVariants as asks
use Rattle.informer_cache.specs.All.{AllKnown, all_objects, cache_of}
use Rattle.informer_cache.specs.Cache.{ask_of}
use Rattle.model_laws.proofs.Growing.{runs_are_histories}
use Rattle.model_laws.proofs.Lists.{none_some, one}
use Rattle.sync_queue.specs.Work.{Work}
use Rattle.reclaim_ops.specs.Decisions.{claim_begins, volume_begins}
use Rattle.worker_core.specs.declared.role.Role.{Role}
use Rattle.worker_core.specs.declared.task.First.TheVariants as firsts
use Rattle.worker_core.specs.declared.task.Under.{Under}
use Rattle.worker_core.specs.declared.turn.Given.TheVariants as givens
use Rattle.worker_core.specs.declared.turn.Next.TheVariants.{Call}
use Rattle.worker_core.specs.declared.turn.Outcome.TheVariants.{Lost, Told}
use Rattle.worker_core.specs.Absorbs.{absorbed, lost_given}
use Rattle.worker_core.specs.Memories.{Memory}
use Rattle.worker_core.specs.Roles.{IsBuiltKind}
use Rattle.worker_core.specs.States.{ActorState, call_in, read_of_kind, read_request, start_call, start_of}
use Rattle.worker_core.specs.Tasks.{GivesCall, IsFirstOf, ops_first, under_after}
use Rattle.worker_core.specs.Turns.{AfterKeys, Decides, IsTurn, TurnBy, passing, unlisted}
use Rattle.actor_rounds.specs.Rounds.{Asks, IsHeld, IsIdle, IsReady, IsSpent, Lets, Runs, told_entry}
use Rattle.actor_rounds.proofs.RunFacts.{run_grows, still_role}
use Rattle.worker_core.proofs.Answered.{turn_role}
use Rattle.settle_slot.specs.Slot.Slots.{KnowsBehind, SeesStore, begun}
use Rattle.settle_slot.proofs.Slot.Knowing.{lost_knows, sees, told_knows, turned_knows}
use Rattle.settle_slot.proofs.Slot.Slots.{begun_behind, decides_gives, none_lost, none_told, task_lost, told_under}
use Rattle.settle_calls.specs.Slots.Slots.{writes_since}
use Rattle.settle_write_counts.proofs.Rounds.Failing.{none_begins, under_fails}
use Rattle.settle_write_counts.proofs.Rounds.Runs.{IsCalled, called_at, run_at, silent_run}
use Rattle.settle_write_counts.proofs.Rounds.Slots.{counted}
use Rattle.settle_write_counts.specs.Ops.Ops.{ops_writes}
use Rattle.settle_write_counts.proofs.Ops.Calls.{IsRead, call_lowers, low, read_stays}
use Rattle.settle_write_counts.proofs.Ops.Machines.{Fits, TaskFits, UnderFits, begun_fits, goes_on, nothing_begun}

-- ---- what the next call is

-- it is of what is under way, which fits what stands, or a read of a kind, with nothing under way
data CallsSo (rows : List Object) (before : ℕ) (given : ActorState) (request : Request) : Type 0 where
  OfUnder : (u : Under) → given.under ≡ Some u → given.given ≡ Some givens.Task → request ≡ u.call → UnderFits rows u → under_fails (Some u) ≤ before → CallsSo rows before given request
  Reads : given.under ≡ None → IsRead request → CallsSo rows before given request

read_is : (caches : AllKnown) (k : Kind) → IsRead (read_of_kind caches k)
read_is caches k = by (ask_of (cache_of k caches))
  where
    by : (a : NextRead) → IsRead (read_request k a)
    by asks.List = tt
    by (asks.Watch from) = tt

-- ops has no call of a start
no_start : {X : Type 0} (role : Role) (memory : Memory) (request : Request) → role.kind ≡ seats.Ops → start_call role memory ≡ Some request → X
no_start role memory request kind e = none_some (ap (λ k. start_of k role.node memory) (sym kind) ∙ e)

module _ (setup : Setup) (seat : ℕ) (s : ActorState) (h : List Entry) (kind : s.role.kind ≡ seats.Ops) where
  abbrev stored : List Object
  stored = (world setup h).store.rows

  abbrev cached : List Object
  cached = all_objects s.caches

  -- a row of the caches is the store's where ops follows its kind
  seen : SeesStore setup s h → (key : Key) (o : Object) → row_at key cached ≡ Some o → follows seats.Ops (key_of o).kind ≡ true → row_at key stored ≡ Some o
  seen exact key o row f = sym (exact key (ap (λ k. follows k key.kind) kind ∙ (ap (λ (k : Key). follows seats.Ops k.kind) (sym (row_at_key key o cached row)) ∙ f))) ∙ row

  -- so what a decision begins fits what stands
  decision_fits : (u : Under) → SeesStore setup s h → GivesCall s.role s.memory cached u → UnderFits stored u
  decision_fits u exact gives = record { task = by (row_at u.key cached) refl decided; call = gives.call }
    where
      decided : firsts.Begins u.task ≡ ops_first (claim_begins cached (row_at u.key cached)) (volume_begins (row_at u.key cached))
      decided = subst (λ k. IsFirstOf k s.role.node s.memory cached u.key (firsts.Begins u.task)) kind gives.decided

      by : (row : Option Object) → row_at u.key cached ≡ row → firsts.Begins u.task ≡ ops_first (claim_begins cached row) (volume_begins row) → TaskFits stored u.task
      by (Some (Claim c)) is e = begun_fits stored cached u.task u.key (Some (Claim c)) (seen exact u.key (Claim c) is refl) e
      by (Some (Volume v)) is e = begun_fits stored cached u.task u.key (Some (Volume v)) (seen exact u.key (Volume v) is refl) e
      by (Some (Class x)) is e = begun_fits stored cached u.task u.key (Some (Class x)) (seen exact u.key (Class x) is refl) e
      by (Some (Node x)) is e = begun_fits stored cached u.task u.key (Some (Node x)) (seen exact u.key (Node x) is refl) e
      by (Some (Pod x)) is e = nothing_begun stored cached u.task e
      by None is e = nothing_begun stored cached u.task e

  calls_so : (given : ActorState) (request : Request) → IsHistory setup h → IsReady seat s h → IsTurn s given (Call request)
      → KnowsBehind setup seat s.role s.pass h → Fits stored s.under → CallsSo stored (under_fails s.under) given request
  calls_so given request history ready turn knows fits = by s.memory.stale s.under (start_call s.role s.memory) (unlisted s) (passing s) refl refl refl turn
    where
      asked : (x : Request) → Call request ≡ Call x → request ≡ x
      asked x e = one request x (ap call_in e)

      reads_so : (k : Kind) → given.under ≡ None → Call request ≡ Call (read_of_kind s.caches k) → CallsSo stored (under_fails s.under) given request
      reads_so k none e = Reads none (subst IsRead (sym (asked (read_of_kind s.caches k) e)) (read_is s.caches k))

      keys : (w : Work) (under : Option Under) → s.under ≡ None → passing s ≡ None → Decides s.role s.memory cached w under s.work
          → AfterKeys s given (Call request) w under → CallsSo stored (under_fails s.under) given request
      keys w (Some u) none over d b =
          let gives = decides_gives s.role s.memory cached w (Some u) u s.work d refl in
          let few = none_begins s.role s.memory cached u kind gives in
          OfUnder u (ap (λ (x : ActorState). x.under) b.state) (ap (λ (x : ActorState). x.given) b.state) (asked u.call b.call)
          (decision_fits u (sees setup seat s h history ready.stands.told knows over) gives) (omega (arith, few))
      keys w None none over d (inl b) = reads_so b.kind (ap (λ (x : ActorState). x.under) b.state ∙ none) b.call
      keys w None none over d (inr b) = none_some (sym (ap call_in b.idle))

      by : (stale : Bool) (under : Option Under) (start : Option Request) (l p : Option Kind) → s.under ≡ under → start_call s.role s.memory ≡ start
          → passing s ≡ p → TurnBy s given (Call request) stale under start l p → CallsSo stored (under_fails s.under) given request
      by true under start l p eu est ep t = none_some (sym (ap call_in t.idle))
      by false (Some u) start l p eu est ep t =
          let same = ap under_fails eu in
          OfUnder u (ap (λ (x : ActorState). x.under) t.state ∙ eu) (ap (λ (x : ActorState). x.given) t.state) (asked u.call t.call) (subst (Fits stored) eu fits) (omega (arith, same))
      by false None (Some r) l p eu est ep t = no_start s.role s.memory r kind est
      by false None None (Some k) p eu est ep t = reads_so k (ap (λ (x : ActorState). x.under) t.state ∙ eu) t.call
      by false None None None (Some k) eu est ep t = reads_so k (ap (λ (x : ActorState). x.under) t.state ∙ eu) t.call
      by false None None None None eu est ep t = keys t.work t.under eu ep t.decides t.then_

-- ---- the call, and what is then under way

module _ (setup : Setup) (seat : ℕ) (given next : ActorState) (request : Request) (reply : Reply) (h : List Entry) (before : ℕ)
    (kind : given.role.kind ≡ seats.Ops) (called : IsCalled setup seat given request reply h) (absorbs : next ≡ absorbed given next.caches request (Told reply)) where
  abbrev entry : Entry
  entry = told_entry seat given request reply

  history : IsHistory setup (entry ∷ h)
  history = runs_are_histories setup (entry ∷ h) called.run.run

  -- the number falls with a write, and what is then under way fits
  record Goes : Type 0 where
    fits : Fits (world setup (entry ∷ h)).store.rows next.under
    lowers : low setup (world setup (entry ∷ h)) + under_fails next.under ≤ low setup (world setup h) + before

  goes : CallsSo (world setup h).store.rows before given request → Goes
  goes (OfUnder u under task asked fits few) = record {
    fits = subst (Fits (world setup (entry ∷ h)).store.rows) (sym became)
        (subst (λ w. Fits w.store.rows (under_after u reply)) same
        (subst (λ r. Fits (world_after w (effect setup w seats.Ops u.call)).store.rows (under_after u r)) (sym answered) (goes_on setup w u fits)));
    lowers =
        let low_ = call_lowers setup seat h history.0 u fits (subst (RowAllows seats.Ops (own seat h)) asked (subst (λ k. Licensed k (own seat h) request) kind called.may).1) in
        let a = ap (low setup) same in
        let b = ap under_fails became in
        let c = ap (λ r. under_fails (under_after u r)) answered in
        omega (arith, low_, few, a, b, c);
  }
    where
      w : World
      w = world setup h

      -- it is the call of what is under way
      made : effect setup w given.role.kind request ≡ effect setup w seats.Ops u.call
      made = ap (λ k. effect setup w k request) kind ∙ ap (λ r. effect setup w seats.Ops r) asked

      same : world_after w (effect setup w seats.Ops u.call) ≡ world setup (entry ∷ h)
      same = ap (world_after w) (sym made)

      answered : reply ≡ reply_to (effect setup w seats.Ops u.call)
      answered = history.1 ∙ ap reply_to made

      became : next.under ≡ under_after u reply
      became = ap (λ (x : ActorState). x.under) absorbs ∙ told_under given request reply u next.caches given.given given.under task under
  goes (Reads none read) = record {
    fits = subst (Fits (world setup (entry ∷ h)).store.rows) (sym became) tt;
    lowers =
        let a = read_stays setup (world setup h) given.role.kind request read in
        let b = ap under_fails became in
        omega (arith, a, b);
  }
    where
      became : next.under ≡ None
      became = ap (λ (x : ActorState). x.under) absorbs ∙ none_told given request reply next.caches given.given given.under none

-- a call that was lost leaves nothing under way
lost_none : (rows : List Object) (before : ℕ) (given next : ActorState) (request : Request) → CallsSo rows before given request → next ≡ absorbed given next.caches request Lost → next.under ≡ None
lost_none rows before given next request so absorbs = ap (λ (x : ActorState). x.under) absorbs ∙ by so
  where
    by : CallsSo rows before given request → (lost_given given given.given).under ≡ None
    by (OfUnder u under task asked fits few) = task_lost given given.given given.under task
    by (Reads none read) = none_lost given given.given given.under none

-- ---- the slot

module _ (setup : Setup) (lets : Lets) (seat : ℕ) (after : ActorState) (past : List Entry) (left : ℕ) (idle : Bool) (run : IsRunOf setup past) where
  runs_low : (s : ActorState) (h : List Entry) (b : ℕ) → Runs lets seat after past left idle s h b → s.role.kind ≡ seats.Ops
      → KnowsBehind setup seat s.role s.pass h → Fits (world setup h).store.rows s.under → low setup (world setup past) ≤ low setup (world setup h) + under_fails s.under
  runs_low s h b (IsSpent spent state entries rest busy) kind knows fits = let e = ap (λ es. low setup (world setup es)) entries in omega (arith, e)
  runs_low s h b (IsIdle some ready turn entries rest calm) kind knows fits = let e = ap (λ es. low setup (world setup es)) entries in omega (arith, e)
  runs_low s h b (Asks given next request reply some ready turn passes absorbs more) kind knows fits =
      let built : IsBuiltKind s.role.kind = subst IsBuiltKind (sym kind) tt in
      let whole = run_at setup lets seat after past left idle run next (told_entry seat given request reply ∷ h) (b - 1) more in
      let before = runs_are_histories setup (told_entry seat given request reply ∷ h) whole.run in
      let called = called_at setup lets seat after past left idle run s given h request reply built ready turn whole in
      let so = calls_so setup seat s h kind given request before.0 ready turn knows fits in
      let of_kind : given.role.kind ≡ seats.Ops = ap (λ (r : Role). r.kind) (turn_role s given (Call request) turn) ∙ kind in
      let here = goes setup seat given next request reply h (under_fails s.under) of_kind called absorbs so in
      let next_kind : next.role.kind ≡ seats.Ops = ap (λ (r : Role). r.kind) (still_role s given next (Call request) request (Told reply) turn absorbs) ∙ kind in
      let later = runs_low next (told_entry seat given request reply ∷ h) (b - 1) more next_kind (told_knows setup seat s given request reply h built ready turn before knows next absorbs) here.fits in
      let lowers = here.lowers in
      omega (arith, later, lowers)
  runs_low s h b (IsHeld given next request some ready turn held absorbs more) kind knows fits =
      let before = runs_are_histories setup h (run_at setup lets seat after past left idle run next h (b - 1) more).run in
      let so = calls_so setup seat s h kind given request before ready turn knows fits in
      let gone = lost_none (world setup h).store.rows (under_fails s.under) given next request so absorbs in
      let next_kind : next.role.kind ≡ seats.Ops = ap (λ (r : Role). r.kind) (still_role s given next (Call request) request Lost turn absorbs) ∙ kind in
      let later = runs_low next h (b - 1) more next_kind
      (lost_knows setup seat given next request h (turned_knows setup seat s given (Call request) h turn knows) absorbs) (subst (Fits (world setup h).store.rows) (sym gone) tt) in
      let none = ap under_fails gone in
      omega (arith, later, none)

-- from where nothing is under way
pub falls_from :
    (setup : Setup) (lets : Lets) (seat : ℕ) (old after : ActorState) (h past : List Entry) (b left : ℕ) (idle : Bool) → old.role.kind ≡ seats.Ops
    → IsRunOf setup past → (old.memory.stale ≡ false → old.under ≡ None)
    → Runs lets seat after past left idle (begun old) h b → writes_since setup h past + ops_writes setup (world setup past) ≤ ops_writes setup (world setup h)
unfolding low
falls_from setup lets seat old after h past b left idle kind run rests runs = by old.memory.stale refl
  where
    done : writes_since setup h past + (world setup h).store.version ≡ (world setup past).store.version
    done = let g = run_grows lets seat after past left idle (begun old) h b runs in counted setup g.longer.added h past g.longer.are

    by : (stale : Bool) → old.memory.stale ≡ stale → writes_since setup h past + ops_writes setup (world setup past) ≤ ops_writes setup (world setup h)
    by true stale =
        let same = (silent_run setup lets seat after past left idle run (begun old) h b runs stale).0 in
        let version = ap (λ es. (world setup es).store.version) same in
        let writes = ap (λ es. ops_writes setup (world setup es)) same in
        let d = done in
        omega (arith, version, writes, d)
    by false fresh =
        let lower = runs_low setup lets seat after past left idle run (begun old) h b runs kind (begun_behind setup seat old h) (subst (Fits (world setup h).store.rows) (sym (rests fresh)) tt) in
        let none : under_fails old.under ≡ 0 = ap under_fails (rests fresh) in
        let d = done in
        omega (arith, lower, none, d)
