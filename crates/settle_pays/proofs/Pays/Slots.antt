-- An actor whose decisions pay, run with nothing under way, pays with each of its calls.
use Rattle.std.proofs.Common.{◌≡◌, ◌∙◌, ℕ, ◌-◌, List, [], ◌∷◌, Bool, true, false, Option, Some, None, inl, inr, refl, sym, ap, subst}
use Rattle.std.specs.Prelude.{is_some}
use Rattle.kube_parts.specs.declared.parts.Kind.{Kind}
use Rattle.call_types.specs.declared.entry.Entry.{Entry}
use Rattle.call_types.specs.declared.reply.Reply.{Reply}
use Rattle.call_types.specs.declared.request.Request.{Request}
use Rattle.call_types.specs.declared.request.Request.TheVariants as requests
use Rattle.call_types.specs.declared.request.SeatKind.{SeatKind}
use Rattle.call_types.specs.declared.request.SeatKind.TheVariants as seats
use Rattle.call_types.specs.declared.setup.Setup.{Setup}
use Rattle.binder_model.specs.Promises.{IsRunOf}
use Rattle.binder_model.specs.World.{World, effect, reply_to, world}
use Rattle.informer_cache.specs.declared.cache.NextRead.{NextRead}
use Rattle.informer_cache.specs.declared.cache.NextRead.TheVariants as asks
use Rattle.informer_cache.specs.All.{AllKnown, all_objects, cache_of}
use Rattle.informer_cache.specs.Cache.{ask_of}
use Rattle.model_laws.proofs.Growing.{runs_are_histories}
use Rattle.model_laws.proofs.Lists.{none_some, one}
use Rattle.attention_law.proofs.Turned.{calls_fresh}
use Rattle.sync_queue.specs.Work.{Work}
use Rattle.worker_core.specs.declared.role.Role.{Role}
use Rattle.worker_core.specs.declared.task.Under.{Under}
use Rattle.worker_core.specs.declared.turn.Given.TheVariants as givens
use Rattle.worker_core.specs.declared.turn.Next.TheVariants.{Call}
use Rattle.worker_core.specs.declared.turn.Outcome.TheVariants.{Lost, Told}
use Rattle.worker_core.specs.Absorbs.{absorbed, lost_given, woken}
use Rattle.worker_core.specs.Memories.{Memory}
use Rattle.worker_core.specs.Roles.{IsBuiltKind}
use Rattle.worker_core.specs.States.{ActorState, agent_start, call_in, read_of_kind, read_request, start_call, start_of}
use Rattle.worker_core.specs.Tasks.{under_after}
use Rattle.worker_core.specs.Turns.{AfterKeys, Decides, IsTurn, TurnBy, passing, unlisted}
use Rattle.actor_rounds.specs.Rounds.{Asks, IsHeld, IsIdle, IsReady, IsSpent, Lets, Runs, told_entry}
use Rattle.actor_rounds.proofs.RunFacts.{run_grows, still_role}
use Rattle.worker_core.proofs.Answered.{turn_role}
use Rattle.settle_slot.specs.Slot.Slots.{IsDecisionPoint, KnowsBehind, begun, own_entry}
use Rattle.settle_slot.proofs.Slot.Knowing.{lost_knows, sees, told_knows, turned_knows}
use Rattle.settle_slot.proofs.Slot.Slots.{begun_behind, decides_gives, none_lost, none_told, task_lost, told_under}
use Rattle.settle_pays.specs.Pays.Pays.{DecisionsPay, EachPays, HavePaid, Pays, SlotsPay, WillPay}
use Rattle.settle_pays.proofs.Pays.Calls.{NeverLasts, list_never, mounts_never, take_never, watch_never}
use Rattle.settle_pays.proofs.Pays.Entries.{none_paid, one_paid, then_paid}
use Rattle.settle_progress.proofs.Epochs.Silent.{older_run}

-- the calls of what is under way pay
pub data PaysUnder (setup : Setup) (seat : ℕ) (kind : SeatKind) (h : List Entry) : Option Under → Type 0 where
  NothingUnder : PaysUnder setup seat kind h None
  PaysSo : (u : Under) → WillPay setup seat kind h u → PaysUnder setup seat kind h (Some u)

-- a call is one of what is under way, which will pay, or a read, which never lasts and comes with nothing under way
data CallsSo (setup : Setup) (seat : ℕ) (kind : SeatKind) (h : List Entry) (given : ActorState) (request : Request) : Type 0 where
  OfUnder : (u : Under) → given.under ≡ Some u → given.given ≡ Some givens.Task → request ≡ u.call → WillPay setup seat kind h u → CallsSo setup seat kind h given request
  Reads : given.under ≡ None → ((k : SeatKind) → NeverLasts setup (world setup h) k request) → CallsSo setup seat kind h given request

module _ (setup : Setup) (w : World) where
  pub read_never : (caches : AllKnown) (k : Kind) (kind : SeatKind) → NeverLasts setup w kind (read_of_kind caches k)
  read_never caches k kind = by (ask_of (cache_of k caches))
    where
      by : (a : NextRead) → NeverLasts setup w kind (read_request k a)
      by asks.List = list_never setup w kind k None
      by (asks.Watch from) = watch_never setup w kind k from

  pub start_never : (start : SeatKind) (node : List ℕ) (m : Memory) (request : Request) → start_of start node m ≡ Some request → (kind : SeatKind) → NeverLasts setup w kind request
  start_never seats.Agent node m request is kind = by m.epoch (is_some m.mounts) is
    where
      by : (epoch : Option ℕ) (told : Bool) → agent_start node epoch told ≡ Some request → NeverLasts setup w kind request
      by None told e = subst (NeverLasts setup w kind) (one (requests.TakeNode node) request e) (take_never setup w kind node)
      by (Some epoch) false e = subst (NeverLasts setup w kind) (one (requests.Mounts node epoch) request e) (mounts_never setup w kind node epoch)
      by (Some epoch) true e = none_some e
  start_never seats.User node m request is kind = none_some is
  start_never seats.Binder node m request is kind = none_some is
  start_never seats.Ops node m request is kind = none_some is
  start_never seats.Scheduler node m request is kind = none_some is
  start_never seats.ClaimProtect node m request is kind = none_some is
  start_never seats.VolumeProtect node m request is kind = none_some is

module _ (setup : Setup) (lets : Lets) (seat : ℕ) (role : Role) (built : IsBuiltKind role.kind) (decides : DecisionsPay setup seat role) where
  -- what the next call of an actor is
  calls_so : (s given : ActorState) (request : Request) (h : List Entry) → s.role ≡ role → IsRunOf setup h → IsReady seat s h
      → IsTurn s given (Call request) → KnowsBehind setup seat s.role s.pass h → (s.memory.stale ≡ false → PaysUnder setup seat role.kind h s.under) → CallsSo setup seat role.kind h given request
  calls_so s given request h is run ready turn knows pays =
      by s.memory.stale s.under (start_call s.role s.memory) (unlisted s) (passing s) refl refl refl refl turn (pays (calls_fresh s given request turn))
    where
      asked : (x : Request) → Call request ≡ Call x → request ≡ x
      asked x e = one request x (ap call_in e)

      reads_so : (k : Kind) → given.under ≡ None → Call request ≡ Call (read_of_kind s.caches k) → CallsSo setup seat role.kind h given request
      reads_so k none e = Reads none (λ kind. subst (NeverLasts setup (world setup h) kind) (sym (asked (read_of_kind s.caches k) e)) (read_never setup (world setup h) s.caches k kind))

      point : passing s ≡ None → IsDecisionPoint setup seat role h s h
      point over = let before = runs_are_histories setup h run.run in
          record { role_is = is; history = before; alike = record { rows = refl; stored = refl; mounts = refl }; ready = ready; sees = sees setup seat s h before ready.stands.told knows over }

      keys : (w : Work) (under : Option Under) → s.under ≡ None → passing s ≡ None → Decides s.role s.memory (all_objects s.caches) w under s.work
          → AfterKeys s given (Call request) w under → CallsSo setup seat role.kind h given request
      keys w (Some u) none over d b =
          OfUnder u (ap (λ (x : ActorState). x.under) b.state) (ap (λ (x : ActorState). x.given) b.state) (asked u.call b.call)
          (decides s h u run (point over) (decides_gives s.role s.memory (all_objects s.caches) w (Some u) u s.work d refl))
      keys w None none over d (inl b) = reads_so b.kind (ap (λ (x : ActorState). x.under) b.state ∙ none) b.call
      keys w None none over d (inr b) = none_some (sym (ap call_in b.idle))

      by : (stale : Bool) (under : Option Under) (start : Option Request) (l p : Option Kind) → s.memory.stale ≡ stale → s.under ≡ under
          → start_call s.role s.memory ≡ start → passing s ≡ p → TurnBy s given (Call request) stale under start l p → PaysUnder setup seat role.kind h s.under
          → CallsSo setup seat role.kind h given request
      by true under start l p es eu est ep t pay = none_some (sym (ap call_in t.idle))
      by false (Some u) start l p es eu est ep t pay = under_so (subst (PaysUnder setup seat role.kind h) eu pay)
        where
          under_so : PaysUnder setup seat role.kind h (Some u) → CallsSo setup seat role.kind h given request
          under_so (PaysSo v will) = OfUnder u (ap (λ (x : ActorState). x.under) t.state ∙ eu) (ap (λ (x : ActorState). x.given) t.state) (asked u.call t.call) will
      by false None (Some r) l p es eu est ep t pay =
          Reads (ap (λ (x : ActorState). x.under) t.state ∙ eu)
          (λ kind. subst (NeverLasts setup (world setup h) kind) (sym (asked r t.call)) (start_never setup (world setup h) s.role.kind s.role.node s.memory r est kind))
      by false None None (Some k) p es eu est ep t pay = reads_so k (ap (λ (x : ActorState). x.under) t.state ∙ eu) t.call
      by false None None None (Some k) es eu est ep t pay = reads_so k (ap (λ (x : ActorState). x.under) t.state ∙ eu) t.call
      by false None None None None es eu est ep t pay = keys t.work t.under eu ep t.decides t.then_

  -- the call pays, and what is then under way will
  module _ (given next : ActorState) (request : Request) (reply : Reply) (h : List Entry) (of_kind : given.role.kind ≡ role.kind)
      (said : reply ≡ reply_to (effect setup (world setup h) given.role.kind request)) where
    abbrev entry : Entry
    entry = told_entry seat given request reply

    call_pays : CallsSo setup seat role.kind h given request → Pays setup (world setup h) given.role.kind request
    call_pays (OfUnder u under task asked (EachPays pays on)) = subst (λ k. Pays setup (world setup h) k request) (sym of_kind) (subst (Pays setup (world setup h) role.kind) (sym asked) pays)
    call_pays (Reads none never) = λ lasts. absurd (never given.role.kind lasts)

    told_pays : CallsSo setup seat role.kind h given request → next ≡ absorbed given next.caches request (Told reply) → PaysUnder setup seat role.kind (entry ∷ h) next.under
    told_pays (OfUnder u under task asked (EachPays pays on)) absorbs = subst (PaysUnder setup seat role.kind (entry ∷ h)) (sym after_) (by (under_after u reply) refl)
      where
        after_ : next.under ≡ under_after u reply
        after_ = ap (λ (x : ActorState). x.under) absorbs ∙ told_under given request reply u next.caches given.given given.under task under

        answered : reply ≡ reply_to (effect setup (world setup h) role.kind u.call)
        answered = said ∙ (ap (λ k. reply_to (effect setup (world setup h) k request)) of_kind ∙ ap (λ r. reply_to (effect setup (world setup h) role.kind r)) asked)

        same_entry : own_entry setup seat role.kind h u.call ≡ entry
        same_entry = λ i. record { seat = seat; kind = (sym of_kind) i; request = (sym asked) i; reply = (sym answered) i; told = true }

        by : (x : Option Under) → under_after u reply ≡ x → PaysUnder setup seat role.kind (entry ∷ h) x
        by None e = NothingUnder
        by (Some n) e = PaysSo n (subst (λ x. WillPay setup seat role.kind (x ∷ h) n) same_entry (on n (ap (under_after u) (sym answered) ∙ e)))
    told_pays (Reads none never) absorbs = subst (PaysUnder setup seat role.kind (entry ∷ h)) (sym
        (ap (λ (x : ActorState). x.under) absorbs ∙ none_told given request reply next.caches given.given given.under none)) NothingUnder

  -- a call that was lost leaves nothing under way
  lost_pays : (given next : ActorState) (request : Request) (h : List Entry) → CallsSo setup seat role.kind h given request
      → next ≡ absorbed given next.caches request Lost → PaysUnder setup seat role.kind h next.under
  lost_pays given next request h so absorbs = subst (PaysUnder setup seat role.kind h) (sym (ap (λ (x : ActorState). x.under) absorbs ∙ by so)) NothingUnder
    where
      by : CallsSo setup seat role.kind h given request → (lost_given given given.given).under ≡ None
      by (OfUnder u under task asked will) = task_lost given given.given given.under task
      by (Reads none never) = none_lost given given.given given.under none

  module _ (after : ActorState) (past : List Entry) (left : ℕ) (idle : Bool) (run : IsRunOf setup past) where
    run_before : (s : ActorState) (h : List Entry) (b : ℕ) → Runs lets seat after past left idle s h b → IsRunOf setup h
    run_before s h b runs = let g = run_grows lets seat after past left idle s h b runs in older_run setup g.longer.added h (subst (IsRunOf setup) g.longer.are run)

    runs_pay : (s : ActorState) (h : List Entry) (b : ℕ) → Runs lets seat after past left idle s h b → s.role ≡ role
        → KnowsBehind setup seat s.role s.pass h → (s.memory.stale ≡ false → PaysUnder setup seat role.kind h s.under) → HavePaid setup h past
    runs_pay s h b (IsSpent none state entries rest busy) is knows pays = none_paid setup h past entries
    runs_pay s h b (IsIdle some ready turn entries rest calm) is knows pays = none_paid setup h past entries
    runs_pay s h b (Asks given next request reply some ready turn passes absorbs more) is knows pays =
        let whole = run_before next (told_entry seat given request reply ∷ h) (b - 1) more in
        let before = runs_are_histories setup (told_entry seat given request reply ∷ h) whole.run in
        let so = calls_so s given request h is (older_run setup (told_entry seat given request reply ∷ []) h whole) ready turn knows pays in
        let of_kind : given.role.kind ≡ role.kind = ap (λ (r : Role). r.kind) (turn_role s given (Call request) turn ∙ is) in
        let role_next : next.role ≡ role = still_role s given next (Call request) request (Told reply) turn absorbs ∙ is in
        then_paid setup h (told_entry seat given request reply ∷ h) past (one_paid setup (told_entry seat given request reply) h (call_pays given next request reply h of_kind before.1 so))
        (runs_pay next (told_entry seat given request reply ∷ h) (b - 1) more role_next
        (told_knows setup seat s given request reply h (subst (λ (r : Role). IsBuiltKind r.kind) (sym is) built) ready turn before knows next absorbs)
        (λ fresh. told_pays given next request reply h of_kind before.1 so absorbs))
    runs_pay s h b (IsHeld given next request some ready turn held absorbs more) is knows pays =
        let so = calls_so s given request h is (run_before next h (b - 1) more) ready turn knows pays in
        let role_next : next.role ≡ role = still_role s given next (Call request) request Lost turn absorbs ∙ is in
        runs_pay next h (b - 1) more role_next (lost_knows setup seat given next request h
        (turned_knows setup seat s given (Call request) h turn knows) absorbs) (λ fresh. lost_pays given next request h so absorbs)

-- from where nothing is under way
pub pays_from :
    (setup : Setup) (lets : Lets) (seat : ℕ) (old after : ActorState) (h past : List Entry) (b left : ℕ) (idle : Bool) → IsBuiltKind old.role.kind
    → IsRunOf setup past → Runs lets seat after past left idle (begun old) h b
    → (old.memory.stale ≡ false → old.under ≡ None) → DecisionsPay setup seat old.role → HavePaid setup h past
pays_from setup lets seat old after h past b left idle built run runs rests decides =
    runs_pay setup lets seat old.role built decides after past left idle run (begun old) h b runs refl (begun_behind setup seat old h)
    (λ fresh. subst (PaysUnder setup seat old.role.kind h) (sym (rests fresh)) NothingUnder)

pub slots_pay : SlotsPay
slots_pay setup lets seat old after h past b left idle built run runs rests decides = pays_from setup lets seat (woken old) after h past b left idle built run runs rests decides
