-- A slot decides each cached key, whatever is written in it before.
use Rattle.std.proofs.Common.{◌≡◌, ◌∙◌, ℕ, ◌-◌, List, [], ◌∷◌, ◌++◌, append_assoc, Bool, true, false, true≢false, Some, None, inl, inr, refl, sym, ap, subst}
use Rattle.std.specs.List.{list_any}
use Rattle.kube_objects.specs.declared.key.Key.{Key}
use Rattle.kube_objects.specs.Keys.{row_at, same_key}
use Rattle.kube_objects.specs.declared.objects.Object.{Object}
use Rattle.call_types.specs.declared.entry.Entry.{Entry}
use Rattle.call_types.specs.declared.reply.Reply.{Reply}
use Rattle.call_types.specs.declared.request.Request.{Request}
use Rattle.call_types.specs.declared.request.SeatKind.{SeatKind}
use Rattle.call_types.specs.declared.setup.Setup.{Setup}
use Rattle.binder_model.specs.Told.{own}
use Rattle.binder_model.specs.World.{IsHistory, effect, reply_to, world}
use Rattle.binder_model.specs.Reading.{follows}
use Rattle.model_laws.proofs.Lists.{none_some, one}
use Rattle.sync_queue.specs.Work.{Taken, mark_of, oldest_of}
use Rattle.informer_cache.specs.All.{all_objects}
use Rattle.worker_core.specs.declared.role.Role.{Role}
use Rattle.worker_core.specs.declared.task.Under.{Under}
use Rattle.worker_core.specs.declared.turn.Given.TheVariants as givens
use Rattle.worker_core.specs.declared.turn.Next.TheVariants.{Call, Idle}
use Rattle.worker_core.specs.declared.turn.Outcome.TheVariants.{Lost, Told}
use Rattle.worker_core.specs.Absorbs.{absorbed, woken}
use Rattle.worker_core.specs.Roles.{IsBuiltKind}
use Rattle.worker_core.specs.States.{ActorState, call_in, waits}
use Rattle.worker_core.specs.Tasks.{under_after}
use Rattle.worker_core.specs.Turns.{passing}
use Rattle.worker_core.proofs.KeysKept.{answers_keep_keys}
use Rattle.attention_law.proofs.Turned.{answer_role, calls_fresh, idle_rests}
use Rattle.actor_rounds.specs.Rounds.{Asks, IsHeld, IsIdle, IsReady, IsSpent, Lets, Runs, told_entry}
use Rattle.actor_rounds.proofs.RunFacts.{run_grows, turn_memory}
use Rattle.worker_core.proofs.Answered.{turn_role}
use Rattle.settle_slot.specs.Slot.Slots.{ActsOn, IsDecisionPoint, KnowsBehind, Now, Then, WillLast, own_entry}
use Rattle.settle_slot.specs.Slot.Would.{Here, Leads, On}
use Rattle.settle_slot.proofs.Slot.Knowing.{lost_knows, sees, told_knows, turned_knows}
use Rattle.settle_slot.proofs.Slot.Slots.{ByCall, ByNone, StopsBy, asks_under, nothing_behind, older, run_older, stops_by, told_under, will_pass}
use Rattle.settle_progress.specs.Wakes.Wakes.{ComesAgain}
use Rattle.settle_progress.proofs.Wakes.Wakes.{come_by}
use Rattle.settle_progress.proofs.Wakes.Decided.{ready_at}
use Rattle.attention_law.specs.Queues.{key_in, under_keys}
use Rattle.std.specs.Prelude.{map}
use Rattle.settle_tries.specs.Tries.Deciding.{CachedAreDecided, IsActedOn, IsWithin, Reaches}

-- ---- a key that stops waiting in a turn

-- ---- what is under way and will make a call that lasts makes it

module _ (setup : Setup) (lets : Lets) (seat : ℕ) (kind : SeatKind) (after : ActorState) (past : List Entry) (left : ℕ) (history : IsHistory setup past) (fresh : after.memory.stale ≡ false) where
  abbrev Rest : ActorState → List Entry → Type 0
  Rest next h = (n : Under) → next.role.kind ≡ kind → next.under ≡ Some n → WillLast setup lets seat kind h n → Reaches setup seat kind past h n

  reach_asked : (given next : ActorState) (request : Request) (reply : Reply) (h newer : List Entry) (u : Under) → given.role.kind ≡ kind
      → past ≡ newer ++ (told_entry seat given request reply ∷ h) → given.under ≡ Some u → given.given ≡ Some givens.Task
      → request ≡ u.call → next ≡ absorbed given next.caches request (Told reply) → WillLast setup lets seat kind h u
      → Rest next (told_entry seat given request reply ∷ h) → Reaches setup seat kind past h u
  reach_asked given next request reply h newer u of_kind are under task asked absorbs will rest = by will
    where
      whole : IsHistory setup (told_entry seat given request reply ∷ h)
      whole = older setup newer (told_entry seat given request reply ∷ h) (subst (IsHistory setup) are history)

      said : reply ≡ reply_to (effect setup (world setup h) kind u.call)
      said = whole.1 ∙ (ap (λ k. reply_to (effect setup (world setup h) k request)) of_kind ∙ ap (λ r. reply_to (effect setup (world setup h) kind r)) asked)

      entry : own_entry setup seat kind h u.call ≡ told_entry seat given request reply
      entry = λ i. record { seat = seat; kind = (sym of_kind) i; request = (sym asked) i; reply = (sym said) i; told = true }

      next_kind : next.role.kind ≡ kind
      next_kind = ap (λ (x : ActorState). x.role.kind) absorbs ∙ (ap (λ (r : Role). r.kind) (answer_role given next.caches request (Told reply)) ∙ of_kind)

      next_under : (n : Under) → under_after u (reply_to (effect setup (world setup h) kind u.call)) ≡ Some n → next.under ≡ Some n
      next_under n follows = ap (λ (x : ActorState). x.under) absorbs ∙ (told_under given request reply u next.caches given.given given.under task under ∙ (ap (under_after u) said ∙ follows))

      by : WillLast setup lets seat kind h u → Reaches setup seat kind past h u
      by (Now passes lasts) = record { at = h; last = u; newer = newer; leads = Here; lasts = lasts; are = are ∙ ap (λ e. newer ++ (e ∷ h)) (sym entry) }
      by (Then passes n follows more) =
          let r = rest n next_kind (next_under n follows) (subst (λ e. WillLast setup lets seat kind (e ∷ h) n) entry more) in
          record { at = r.at; last = r.last; newer = r.newer; leads = On n follows (subst (λ e. Leads setup seat kind (e ∷ h) n r.at r.last) (sym entry) r.leads); lasts = r.lasts; are = r.are }

  reach : (s : ActorState) (h : List Entry) (b : ℕ) → Runs lets seat after past left true s h b → (u : Under) → s.role.kind ≡ kind → s.under ≡ Some u
      → WillLast setup lets seat kind h u → Reaches setup seat kind past h u
  reach s h b (IsSpent none state entries rest busy) u of_kind under will = absurd (true≢false busy)
  reach s h b (IsIdle some ready turn entries rest calm) u of_kind under will =
      let awake : s.memory.stale ≡ false = ap (λ m. m.stale) (sym (turn_memory s after Idle turn)) ∙ fresh in
      none_some (ap call_in (asks_under s after Idle u turn awake under).call)
  reach s h b (Asks given next request reply some ready turn passes absorbs more) u of_kind under will =
      let a = asks_under s given (Call request) u turn (calls_fresh s given request turn) under in
      let g = run_grows lets seat after past left true next _ _ more in
      let kind_is : given.role.kind ≡ kind = ap (λ (r : Role). r.kind) (turn_role s given (Call request) turn) ∙ of_kind in
      reach_asked given next request reply h g.longer.added u kind_is g.longer.are a.under a.given
      (one request u.call (ap call_in a.call)) absorbs will (λ n k e w. reach next (told_entry seat given request reply ∷ h) (b - 1) more n k e w)
  reach s h b (IsHeld given next request some ready turn held absorbs more) u of_kind under will =
      let a = asks_under s given (Call request) u turn (calls_fresh s given request turn) under in
      absurd (true≢false (sym (will_pass setup lets seat kind h u will) ∙ (ap (lets h) (sym (one request u.call (ap call_in a.call))) ∙ held)))

-- ---- a key that waits is decided

module _ (setup : Setup) (lets : Lets) (seat : ℕ) (role : Role) (key : Key) (built : IsBuiltKind role.kind) (after : ActorState) (past : List Entry)
    (left : ℕ) (history : IsHistory setup past) (fresh : after.memory.stale ≡ false) where
  abbrev Acts : List Entry → Type 0
  Acts h = (x : List Entry) → IsWithin h x past → ActsOn setup lets seat role x key

  point : (s : ActorState) (h : List Entry) → s.role ≡ role → IsHistory setup h → IsReady seat s h → KnowsBehind setup seat s.role s.pass h → passing s ≡ None → IsDecisionPoint setup seat role h s h
  point s h is before ready knows over = record {
    role_is = is;
    history = before;
    alike = record { rows = refl; stored = refl; mounts = refl };
    ready
        = ready;
    sees = sees setup seat s h before ready.stands.told knows over;
  }

  here : (h newer : List Entry) → past ≡ newer ++ h → IsWithin h h past
  here h newer are = record { newer = newer; older = []; ahead = are; behind = refl }

  -- a point of what is left of the slot is one of the slot
  later : (e : Entry) (h x : List Entry) → IsWithin (e ∷ h) x past → IsWithin h x past
  later e h x w = record { newer = w.newer; older = w.older ++ e ∷ []; ahead = w.ahead; behind = w.behind ∙ sym (append_assoc w.older (e ∷ []) h) }

  acted_later : (e : Entry) (h : List Entry) → IsActedOn setup seat role key (e ∷ h) past → IsActedOn setup seat role key h past
  acted_later e h a = record { state = a.state; point = a.point; within = later e h a.point a.within; sees = a.sees; under = a.under; own = a.own; gives = a.gives; reaches = a.reaches }

  acted : (s : ActorState) (h : List Entry) (b : ℕ) → Runs lets seat after past left true s h b → s.role ≡ role
      → KnowsBehind setup seat s.role s.pass h → Acts h → waits key s.work ≡ true → IsActedOn setup seat role key h past
  acted s h b (IsSpent none state entries rest busy) is knows acts waiting = absurd (true≢false busy)
  acted s h b (IsIdle some ready turn entries rest calm) is knows acts waiting =
      let awake : s.memory.stale ≡ false = ap (λ m. m.stale) (sym (turn_memory s after Idle turn)) ∙ fresh in
      let rests = idle_rests s after turn awake in
      let p = point s h is (subst (IsHistory setup) entries history) ready knows rests.passed in
      let stopped : waits key after.work ≡ false = ap (λ ks. list_any (same_key key) ks) rests.empty in
      by p (stops_by s after Idle key turn waiting stopped)
    where
      by : IsDecisionPoint setup seat role h s h → StopsBy s after Idle key → IsActedOn setup seat role key h past
      by p (ByCall u over under task call own gives) = none_some (ap call_in call)
      by p (ByNone first over none) = absurd ((acts h (here h [] entries)).acts s h first p none)
  acted s h b (Asks given next request reply some ready turn passes absorbs more) is knows acts waiting =
      by (waits key given.work) refl (λ r k a w. acted next (told_entry seat given request reply ∷ h) (b - 1) more r k a w)
    where
      whole : IsHistory setup (told_entry seat given request reply ∷ h)
      whole = run_older setup lets seat after past left true next _ _ more history

      given_role : given.role ≡ s.role
      given_role = turn_role s given (Call request) turn

      next_role : next.role ≡ role
      next_role = ap (λ (x : ActorState). x.role) absorbs ∙ (answer_role given next.caches request (Told reply) ∙ (given_role ∙ is))

      built_here : IsBuiltKind s.role.kind
      built_here = subst (λ (r : Role). IsBuiltKind r.kind) (sym is) built

      at_h : IsWithin h h past
      at_h = let g = run_grows lets seat after past left true next _ _ more in
          here h (g.longer.added ++ told_entry seat given request reply ∷ []) (g.longer.are ∙ sym (append_assoc g.longer.added (told_entry seat given request reply ∷ []) h))

      called : StopsBy s given (Call request) key → IsActedOn setup seat role key h past
      called (ByCall u over under task call own gives) =
          let p = point s h is whole.0 ready knows over in
          let g = run_grows lets seat after past left true next _ _ more in
          let kind_is : given.role.kind ≡ role.kind = ap (λ (r : Role). r.kind) (given_role ∙ is) in
          record {
            state = s;
            point = h;
            within = at_h;
            sees = p;
            under = u;
            own = own;
            gives = gives;
            reaches = reach_asked setup lets seat role.kind after past left history fresh given next request reply h g.longer.added u kind_is
                g.longer.are under task (one request u.call (ap call_in call)) absorbs ((acts h at_h).lasts s h u p own gives)
                (λ n k e w. reach setup lets seat role.kind after past left history fresh next (told_entry seat given request reply ∷ h) (b - 1) more n k e w);
          }
      called (ByNone first over none) = absurd ((acts h at_h).acts s h first (point s h is whole.0 ready knows over) none)

      by : (b : Bool) → waits key given.work ≡ b
          → (next.role ≡ role → KnowsBehind setup seat next.role next.pass (told_entry seat given request reply ∷ h)
          → Acts (told_entry seat given request reply ∷ h) → waits key next.work ≡ true → IsActedOn setup seat role key (told_entry seat given request reply ∷ h) past)
          → IsActedOn setup seat role key h past
      by true still rest =
          acted_later (told_entry seat given request reply) h
          (rest next_role (told_knows setup seat s given request reply h built_here ready turn whole knows next absorbs) (λ x w. acts x (later (told_entry seat given request reply) h x w))
          (subst (λ w. waits key w ≡ true) (sym (ap (λ (x : ActorState). x.work) absorbs)) ((answers_keep_keys given next.caches request (Told reply)).stays key still)))
      by false stopped rest = called (stops_by s given (Call request) key turn waiting stopped)
  acted s h b (IsHeld given next request some ready turn held absorbs more) is knows acts waiting = by (waits key given.work) refl (λ r k w. acted next h (b - 1) more r k acts w)
    where
      before : IsHistory setup h
      before = run_older setup lets seat after past left true next _ _ more history

      next_role : next.role ≡ role
      next_role = ap (λ (x : ActorState). x.role) absorbs ∙ (answer_role given next.caches request Lost ∙ (turn_role s given (Call request) turn ∙ is))

      at_h : IsWithin h h past
      at_h = let g = run_grows lets seat after past left true next _ _ more in here h g.longer.added g.longer.are

      held_so : StopsBy s given (Call request) key → IsActedOn setup seat role key h past
      held_so (ByCall u over under task call own gives) =
          let p = point s h is before ready knows over in
          let asked : request ≡ u.call = one request u.call (ap call_in call) in
          absurd (true≢false (sym (will_pass setup lets seat role.kind h u ((acts h at_h).lasts s h u p own gives)) ∙ (ap (lets h) (sym asked) ∙ held)))
      held_so (ByNone first over none) = absurd ((acts h at_h).acts s h first (point s h is before ready knows over) none)

      by : (b : Bool) → waits key given.work ≡ b
          → (next.role ≡ role → KnowsBehind setup seat next.role next.pass h → waits key next.work ≡ true → IsActedOn setup seat role key h past) → IsActedOn setup seat role key h past
      by true still rest =
          rest next_role (lost_knows setup seat given next request h (turned_knows setup seat s given (Call request) h turn knows) absorbs)
          (subst (λ w. waits key w ≡ true) (sym (ap (λ (x : ActorState). x.work) absorbs)) ((answers_keep_keys given next.caches request Lost).stays key still))
      by false stopped rest = held_so (stops_by s given (Call request) key turn waiting stopped)

-- a key that the actor had cached waits once it is woken
pub cached_waits : (lets : Lets) (seat : ℕ) (key : Key) (o : Object) (old after : ActorState) (h past : List Entry) (b left : ℕ) → old.under ≡ None
    → follows old.role.kind key.kind ≡ true → row_at key (all_objects old.caches) ≡ Some o → Runs lets seat after past left true (woken old) h b → waits key (woken old).work ≡ true
cached_waits lets seat key o old after h past b left idle followed cached run = by (come_by old (own seat h) key o ready.stands.told.caches followed cached)
  where
    ready : IsReady seat (woken old) h
    ready = ready_at lets seat (woken old) after h past b left run

    none_taken : (ts : List Taken) → map key_in ts ≡ [] → mark_of key ts ≡ Some true → waits key (woken old).work ≡ true
    none_taken [] e m = none_some m
    none_taken (t ∷ ts) e m = none_some (sym (ap oldest_of e))

    by : ComesAgain key (woken old).work → waits key (woken old).work ≡ true
    by (inl waiting) = waiting
    by (inr marked) = none_taken (woken old).work.taken (ready.stands.queue.taken ∙ ap under_keys idle) marked

pub cached_are_decided : CachedAreDecided
cached_are_decided setup lets seat key o old after h past b left built history idle followed cached run awake acts =
    acted setup lets seat old.role key built after past left history awake (woken old) h b run refl (nothing_behind setup seat old h) acts
    (cached_waits lets seat key o old after h past b left idle followed cached run)
