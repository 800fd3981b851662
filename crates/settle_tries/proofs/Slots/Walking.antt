-- A slot up to the decision of one key: each call before it is a read, or one of what was decided for another key.
use Rattle.std.proofs.Common.{◌≡◌, ◌∙◌, ℕ, ◌-◌, List, ◌∷◌, ◌++◌, Bool, true, false, true≢false, Option, Some, None, inl, inr, refl, sym, ap, subst, ◌≢◌, ◌⊎◌}
use Rattle.std.specs.List.{list_any}
use Rattle.kube_objects.specs.declared.key.Key.{Key}
use Rattle.kube_parts.specs.declared.parts.Kind.{Kind}
use Rattle.kube_objects.specs.declared.objects.Object.{Object}
use Rattle.kube_objects.specs.Keys.{same_key}
use Rattle.call_types.specs.declared.entry.Entry.{Entry}
use Rattle.call_types.specs.declared.reply.Reply.{Reply}
use Rattle.call_types.specs.declared.request.Request.{Request}
use Rattle.call_types.specs.declared.request.SeatKind.{SeatKind}
use Rattle.call_types.specs.declared.setup.Setup.{Setup}
use Rattle.binder_model.specs.Told.{own}
use Rattle.binder_model.specs.World.{IsHistory, effect, reply_to, world, World}
use Rattle.informer_cache.specs.All.{all_objects, AllKnown, cache_of}
use Rattle.model_laws.proofs.Lists.{none_some, one}
use Rattle.sync_queue.specs.Work.{Work}
use Rattle.worker_core.specs.declared.role.Role.{Role}
use Rattle.worker_core.specs.declared.task.First.{First}
use Rattle.worker_core.specs.declared.task.Under.{Under}
use Rattle.worker_core.specs.declared.turn.Given.TheVariants as givens
use Rattle.worker_core.specs.declared.turn.Next.TheVariants.{Call, Idle}
use Rattle.worker_core.specs.declared.turn.Outcome.TheVariants.{Told}
use Rattle.worker_core.specs.Absorbs.{absorbed}
use Rattle.worker_core.specs.Roles.{IsBuiltKind}
use Rattle.worker_core.specs.States.{ActorState, call_in, start_call, waits, read_of_kind, read_request, start_of}
use Rattle.worker_core.specs.Tasks.{GivesCall, GivesNone, under_after}
use Rattle.worker_core.specs.Turns.{AfterKeys, Decides, IsTurn, TurnBy, passing, unlisted}
use Rattle.worker_core.proofs.KeysKept.{answers_keep_keys}
use Rattle.attention_law.proofs.Turned.{calls_fresh, idle_rests}
use Rattle.actor_rounds.specs.Rounds.{Asks, IsHeld, IsIdle, IsReady, IsSpent, Runs, all_pass, told_entry}
use Rattle.actor_rounds.proofs.RunFacts.{run_grows, turn_memory, still_role}
use Rattle.worker_core.proofs.Answered.{turn_role}
use Rattle.settle_slot.specs.Slot.Slots.{IsDecisionPoint, KnowsBehind, own_entry}
use Rattle.settle_slot.proofs.Slot.Knowing.{sees, told_knows}
use Rattle.settle_slot.proofs.Slot.Slots.{ByCall, ByNone, Called, NotCalled, Stopped, StopsBy, asks_under, decides_gives, decides_stops, none_told, older, run_older, stops_by, told_under}
use Rattle.kube_objects.proofs.SameKeys.{key_tells}
use Rattle.call_types.specs.declared.request.SeatKind.TheVariants as seats
use Rattle.informer_cache.specs.declared.cache.NextRead.{NextRead}
use Rattle.informer_cache.specs.declared.cache.NextRead.TheVariants as asks
use Rattle.informer_cache.specs.Cache.{ask_of}
use Rattle.model_laws.proofs.Histories.{rows_stand_in_order}
use Rattle.safety_law.specs.Invariant.Writes.{Writes}
use Rattle.safety_law.proofs.Invariant.Effects.{effect_form}
use Rattle.settle_writes.proofs.Done.Doing.{write_asked}
use Rattle.settle_write_counts.proofs.Rounds.Slots.{ComesTo, Leaves, Wrote, comes_to}
use Rattle.settle_slot.specs.Slot.Would.{Here}
use Rattle.settle_tries.specs.Tries.Coming.{IsCallOf, IsDecidedIn}
use Rattle.settle_tries.proofs.Slots.Coming.{leads_on}

-- ---- the calls of a slot of the scheduler, by the key for which they are made

module _ (setup : Setup) (seat : ℕ) (role : Role) (kind : role.kind ≡ seats.Scheduler) (key : Key) where
  built : IsBuiltKind role.kind
  built = subst IsBuiltKind (sym kind) tt

  -- the key is decided here without a call
  pub record IsDropped (s : ActorState) (h : List Entry) : Type 0 where
    pub first : First
    pub sees : IsDecisionPoint setup seat role h s h
    pub none : GivesNone s.role s.memory (all_objects s.caches) key first

  -- a key that waits still does, or is decided with a call or without one
  data Keeps (s given : ActorState) (h : List Entry) : Type 0 where
    StillWaits : waits key given.work ≡ true → Keeps s given h
    IsTaken : (u : Under) → given.under ≡ Some u → u.key ≡ key → Keeps s given h
    HasNoCall : IsDropped s h → Keeps s given h

  -- a turn asks what is under way, reads, or decides
  data TurnsSo (s given : ActorState) (request : Request) (h : List Entry) : Type 0 where
    Goes : (u : Under) → s.under ≡ Some u → given.under ≡ Some u → given.given ≡ Some givens.Task → request ≡ u.call → given.work ≡ s.work → TurnsSo s given request h
    Looks : (k : Kind) → given.under ≡ None → request ≡ read_of_kind s.caches k → (waits key s.work ≡ true → Keeps s given h) → TurnsSo s given request h
    Takes : (u : Under) → IsDecisionPoint setup seat role h s h → given.under ≡ Some u → given.given ≡ Some givens.Task → request ≡ u.call
        → GivesCall s.role s.memory (all_objects s.caches) u → (waits key s.work ≡ true → Keeps s given h) → TurnsSo s given request h

  point : (s : ActorState) (h : List Entry) → s.role ≡ role → IsHistory setup h → IsReady seat s h → KnowsBehind setup seat s.role s.pass h → passing s ≡ None → IsDecisionPoint setup seat role h s h
  point s h is before ready knows over = record {
    role_is = is;
    history = before;
    alike = record { rows = refl; stored = refl; mounts = refl };
    ready
        = ready;
    sees = sees setup seat s h before ready.stands.told knows over;
  }

  turns_so : (s given : ActorState) (request : Request) (h : List Entry) → s.role ≡ role → IsHistory setup h → IsReady seat s h
      → IsTurn s given (Call request) → KnowsBehind setup seat s.role s.pass h → TurnsSo s given request h
  turns_so s given request h is history ready turn knows = by s.memory.stale s.under (start_call s.role s.memory) (unlisted s) (passing s) refl refl refl turn
    where
      asked : (x : Request) → Call request ≡ Call x → request ≡ x
      asked x e = one request x (ap call_in e)

      s_kind : s.role.kind ≡ seats.Scheduler
      s_kind = ap (λ (r : Role). r.kind) is ∙ kind

      stopped : (w : Work) (under : Option Under) → passing s ≡ None → given.under ≡ under → Stopped s.role s.memory (all_objects s.caches) under key → Keeps s given h
      stopped w under over at (Called u same own gives) = IsTaken u (at ∙ same) own
      stopped w under over at (NotCalled first none) = HasNoCall (record { first = first; sees = point s h is history ready knows over; none = none })

      keeps : (w : Work) (under : Option Under) → passing s ≡ None → given.under ≡ under → given.work ≡ w
          → Decides s.role s.memory (all_objects s.caches) w under s.work → waits key s.work ≡ true → Keeps s given h
      keeps w under over at work d waiting = test (waits key w) refl
        where
          test : (b : Bool) → waits key w ≡ b → Keeps s given h
          test true e = StillWaits (ap (waits key) work ∙ e)
          test false e = stopped w under over at (decides_stops s.role s.memory (all_objects s.caches) w under key s.work d waiting e)

      read_still : (k : Kind) → given.under ≡ None → given.work ≡ s.work → Call request ≡ Call (read_of_kind s.caches k) → TurnsSo s given request h
      read_still k none work e = Looks k none (asked (read_of_kind s.caches k) e) (λ waiting. StillWaits (ap (waits key) work ∙ waiting))

      keys : (w : Work) (under : Option Under) → s.under ≡ None → passing s ≡ None → Decides s.role s.memory (all_objects s.caches) w under s.work
          → AfterKeys s given (Call request) w under → TurnsSo s given request h
      keys w (Some u) none over d b =
          let at : given.under ≡ Some u = ap (λ (x : ActorState). x.under) b.state in
          Takes u (point s h is history ready knows over) at (ap (λ (x : ActorState). x.given) b.state) (asked u.call b.call)
          (decides_gives s.role s.memory (all_objects s.caches) w (Some u) u s.work d refl) (keeps w (Some u) over at (ap (λ (x : ActorState). x.work) b.state) d)
      keys w None none over d (inl b) =
          let at : given.under ≡ None = ap (λ (x : ActorState). x.under) b.state ∙ none in
          Looks b.kind at (asked (read_of_kind s.caches b.kind) b.call) (keeps w None over at (ap (λ (x : ActorState). x.work) b.state) d)
      keys w None none over d (inr b) = none_some (sym (ap call_in b.idle))

      by : (stale : Bool) (under : Option Under) (begin : Option Request) (l p : Option Kind) → s.under ≡ under → start_call s.role s.memory ≡ begin
          → passing s ≡ p → TurnBy s given (Call request) stale under begin l p → TurnsSo s given request h
      by true under begin l p eu est ep t = none_some (sym (ap call_in t.idle))
      by false (Some u) begin l p eu est ep t =
          Goes u eu (ap (λ (x : ActorState). x.under) t.state ∙ eu) (ap (λ (x : ActorState). x.given) t.state) (asked u.call t.call) (ap (λ (x : ActorState). x.work) t.state)
      by false None (Some r) l p eu est ep t = none_some (ap (λ k. start_of k s.role.node s.memory) (sym s_kind) ∙ est)
      by false None None (Some k) p eu est ep t = read_still k (ap (λ (x : ActorState). x.under) t.state ∙ eu) (ap (λ (x : ActorState). x.work) t.state) t.call
      by false None None None (Some k) eu est ep t = read_still k (ap (λ (x : ActorState). x.under) t.state ∙ eu) (ap (λ (x : ActorState). x.work) t.state) t.call
      by false None None None None eu est ep t = keys t.work t.under eu ep t.decides t.then_

  -- ---- an entry, and what is then under way

  -- an entry leaves the store, or is a call of what was decided from some point on, for another key
  pub data EntrySo (start : List Entry) (e : Entry) (h : List Entry) : Type 0 where
    Reads : (world setup (e ∷ h)).store ≡ (world setup h).store → EntrySo start e h
    Calls : (c : IsCallOf setup seat role start e h) → c.decided.first.key ≢ key → EntrySo start e h

  no_write : (w : World) (k : SeatKind) (x : Kind) (a : NextRead) (o : Object) → Writes w k (read_request x a) o → ⊥
  no_write w k x asks.List o writes = writes
  no_write w k x (asks.Watch from) o writes = writes

  reads : (h : List Entry) (e : Entry) (caches : AllKnown) (k : Kind) → e.request ≡ read_of_kind caches k → (world setup (e ∷ h)).store ≡ (world setup h).store
  reads h e caches k is = by (comes_to (world setup h) (effect setup (world setup h) e.kind e.request))
    where
      by : ComesTo (world setup h) (effect setup (world setup h) e.kind e.request) → (world setup (e ∷ h)).store ≡ (world setup h).store
      by (Leaves same) = same
      by (Wrote o written version moved) =
          let asked = write_asked setup (world setup h) e.kind e.request o (effect setup (world setup h) e.kind e.request)
          (effect_form setup (world setup h) e.kind e.request (rows_stand_in_order setup h)) written in
          absurd (no_write (world setup h) e.kind k (ask_of (cache_of k caches)) o (subst (λ r. Writes (world setup h) e.kind r o) is asked))

  abbrev UnderOthers : List Entry → List Entry → ActorState → Type 0
  UnderOthers start h s = (u : Under) → s.under ≡ Some u → (i : IsDecidedIn setup seat role start h u) × (i.first.key ≢ key)

  module _ (given next : ActorState) (request : Request) (reply : Reply) (h : List Entry) (of_kind : given.role.kind ≡ role.kind)
      (said : reply ≡ reply_to (effect setup (world setup h) given.role.kind request)) (absorbs : next ≡ absorbed given next.caches request (Told reply)) where
    said_so : (u : Under) → request ≡ u.call → reply_to (effect setup (world setup h) role.kind u.call) ≡ reply
    said_so u asked = sym (said ∙ (ap (λ k. reply_to (effect setup (world setup h) k request)) of_kind ∙ ap (λ r. reply_to (effect setup (world setup h) role.kind r)) asked))

    entry_is : (u : Under) → request ≡ u.call → own_entry setup seat role.kind h u.call ≡ told_entry seat given request reply
    entry_is u asked =
        let told = said_so u asked in
        λ i. record { seat = seat; kind = (sym of_kind) i; request = (sym asked) i; reply = told i; told = true }

    follows_so : (u : Under) → given.under ≡ Some u → given.given ≡ Some givens.Task → request ≡ u.call → next.under ≡ under_after u (reply_to (effect setup (world setup h) role.kind u.call))
    follows_so u under task asked = ap (λ (x : ActorState). x.under) absorbs
        ∙ (told_under given request reply u next.caches given.given given.under task under ∙ ap (under_after u) (sym (said_so u asked)))

    none_follows : given.under ≡ None → next.under ≡ None
    none_follows none = ap (λ (x : ActorState). x.under) absorbs ∙ none_told given request reply next.caches given.given given.under none

    goes_under : (start : List Entry) (u : Under) → given.under ≡ Some u → given.given ≡ Some givens.Task → request ≡ u.call
        → (i : IsDecidedIn setup seat role start h u) → i.first.key ≢ key → UnderOthers start (told_entry seat given request reply ∷ h) next
    goes_under start u under task asked i other n e =
        let follows : under_after u (reply_to (effect setup (world setup h) role.kind u.call)) ≡ Some n = sym (follows_so u under task asked) ∙ e in
        subst (λ x. (j : IsDecidedIn setup seat role start (x ∷ h) n) × (j.first.key ≢ key)) (entry_is u asked) (
          record {
            state = i.state;
            point = i.point;
            older = i.older;
            behind = i.behind;
            sees = i.sees;
            first = i.first;
            gives = i.gives;
            leads =
                leads_on setup seat role.kind n i.leads follows;
          },
          other,
        )

    waits_on : waits key given.work ≡ true → waits key next.work ≡ true
    waits_on e = subst (λ w. waits key w ≡ true) (sym (ap (λ (x : ActorState). x.work) absorbs)) ((answers_keep_keys given next.caches request (Told reply)).stays key e)

  -- ---- the walk

  module _ (after : ActorState) (past : List Entry) (left : ℕ) (history : IsHistory setup past) (fresh : after.memory.stale ≡ false) where
    -- what is left of the slot
    pub record OnRun (s : ActorState) (h : List Entry) : Type 0 where
      pub budget : ℕ
      pub runs : Runs all_pass seat after past left true s h budget
      pub role_is : s.role ≡ role
      pub knows : KnowsBehind setup seat s.role s.pass h

    -- the call of what is under way, and the slot behind it
    pub record Asked (h : List Entry) (u : Under) : Type 0 where
      pub next : ActorState
      pub on : OnRun next (own_entry setup seat role.kind h u.call ∷ h)
      pub follows : next.under ≡ under_after u (reply_to (effect setup (world setup h) role.kind u.call))

    -- the key is decided with a call, the first time behind the start
    pub record IsTakenUp (start : List Entry) (I : List Entry → Type 0) : Type 0 where
      pub state : ActorState
      pub point : List Entry
      pub older : List Entry
      pub behind : point ≡ older ++ start
      pub sees : IsDecisionPoint setup seat role point state point
      pub under : Under
      pub own : under.key ≡ key
      pub gives : GivesCall state.role state.memory (all_objects state.caches) under
      pub holds : I point
      pub asked : Asked point under

    asked_by : (s : ActorState) (h : List Entry) (b : ℕ) (u : Under) → Runs all_pass seat after past left true s h b → s.role ≡ role
        → KnowsBehind setup seat s.role s.pass h → s.under ≡ Some u → Asked h u
    asked_by s h b u (IsSpent none state entries rest busy) is knows under = absurd (true≢false busy)
    asked_by s h b u (IsIdle some ready turn entries rest calm) is knows under =
        let awake : s.memory.stale ≡ false = ap (λ m. m.stale) (sym (turn_memory s after Idle turn)) ∙ fresh in
        none_some (ap call_in (asks_under s after Idle u turn awake under).call)
    asked_by s h b u (IsHeld given next request some ready turn held absorbs more) is knows under = absurd (true≢false held)
    asked_by s h b u (Asks given next request reply some ready turn passes absorbs more) is knows under =
        let whole : IsHistory setup (told_entry seat given request reply ∷ h) = run_older setup all_pass seat after past left true next _ _ more history in
        let a = asks_under s given (Call request) u turn (calls_fresh s given request turn) under in
        let asked = one request u.call (ap call_in a.call) in
        let given_role : given.role ≡ role = turn_role s given (Call request) turn ∙ is in
        let of_kind : given.role.kind ≡ role.kind = ap (λ (r : Role). r.kind) given_role in
        let told = told_knows setup seat s given request reply h (subst (λ (r : Role). IsBuiltKind r.kind) (sym is) built) ready turn whole knows next absorbs in
        let on : OnRun next (told_entry seat given request reply ∷ h) =
        record { budget = b - 1; runs = more; role_is = still_role s given next (Call request) request (Told reply) turn absorbs ∙ is; knows = told } in
        record {
          next = next;
          on = subst (λ e. OnRun next (e ∷ h)) (sym (entry_is given next request reply h of_kind whole.1 absorbs u asked)) on;
          follows = follows_so given next request reply h of_kind whole.1 absorbs u a.under a.given asked;
        }

    pub asked_next : (s : ActorState) (h : List Entry) (u : Under) → OnRun s h → s.under ≡ Some u → Asked h u
    asked_next s h u on under = asked_by s h on.budget u on.runs on.role_is on.knows under

    module _ (start : List Entry) (I : List Entry → Type 0) (keep : (e : Entry) (h newer older : List Entry) → past ≡ newer ++ (e ∷ h) → h ≡ older ++ start → EntrySo start e h → I h → I (e ∷ h))
        (must : Bool) (drop : must ≡ true → (s : ActorState) (h older : List Entry) → h ≡ older ++ start → I h → IsDropped s h → ⊥) where
      abbrev Outcome_ : Type 0
      Outcome_ = IsTakenUp start I ⊎ ((must ≡ false) × I past)

      abbrev AgainFrom : ActorState → List Entry → Type 0
      AgainFrom next h = next.role ≡ role → KnowsBehind setup seat next.role next.pass h → UnderOthers start h next → I h → (must ≡ true → waits key next.work ≡ true) → Outcome_

      walk : (s : ActorState) (h older : List Entry) (b : ℕ) → Runs all_pass seat after past left true s h b → h ≡ older ++ start → s.role ≡ role
          → KnowsBehind setup seat s.role s.pass h → UnderOthers start h s → I h → (must ≡ true → waits key s.work ≡ true) → Outcome_
      walk s h older b (IsSpent none state entries rest busy) since is knows others holds waiting = absurd (true≢false busy)
      walk s h older b (IsHeld given next request some ready turn held absorbs more) since is knows others holds waiting = absurd (true≢false held)
      walk s h older b (IsIdle some ready turn entries rest calm) since is knows others holds waiting = by must refl
        where
          awake : s.memory.stale ≡ false
          awake = ap (λ m. m.stale) (sym (turn_memory s after Idle turn)) ∙ fresh

          none_stops : must ≡ true → StopsBy s after Idle key → ⊥
          none_stops m (ByCall u over under task call own gives) = none_some (ap call_in call)
          none_stops m (ByNone first over none) = drop m s h older since holds (record { first = first; sees = point s h is (subst (IsHistory setup) entries history) ready knows over; none = none })

          by : (m : Bool) → must ≡ m → Outcome_
          by false e = inr (e, subst I (sym entries) holds)
          by true e =
              let rests = idle_rests s after turn awake in
              let stopped : waits key after.work ≡ false = ap (λ ks. list_any (same_key key) ks) rests.empty in
              absurd (none_stops e (stops_by s after Idle key turn (waiting e) stopped))
      walk s h older b (Asks given next request reply some ready turn passes absorbs more) since is knows others holds waiting =
          by (turns_so s given request h is whole.0 ready turn knows)
          (λ r k u i w. walk next (told_entry seat given request reply ∷ h) (told_entry seat given request reply ∷ older) (b - 1) more
          (ap (λ es. told_entry seat given request reply ∷ es) since) r k u i w)
        where
          whole : IsHistory setup (told_entry seat given request reply ∷ h)
          whole = run_older setup all_pass seat after past left true next _ _ more history

          given_role : given.role ≡ role
          given_role = turn_role s given (Call request) turn ∙ is

          of_kind : given.role.kind ≡ role.kind
          of_kind = ap (λ (r : Role). r.kind) given_role

          next_role : next.role ≡ role
          next_role = still_role s given next (Call request) request (Told reply) turn absorbs ∙ is

          next_knows : KnowsBehind setup seat next.role next.pass (told_entry seat given request reply ∷ h)
          next_knows = told_knows setup seat s given request reply h (subst (λ (r : Role). IsBuiltKind r.kind) (sym is) built) ready turn whole knows next absorbs

          next_holds : EntrySo start (told_entry seat given request reply) h → I (told_entry seat given request reply ∷ h)
          next_holds so = let g = run_grows all_pass seat after past left true next _ _ more in keep (told_entry seat given request reply) h g.longer.added older g.longer.are since so holds

          next_waits : waits key given.work ≡ true → waits key next.work ≡ true
          next_waits = waits_on given next request reply h of_kind whole.1 absorbs

          still : must ≡ true → ((u : Under) → given.under ≡ Some u → u.key ≡ key → ⊥) → Keeps s given h → waits key given.work ≡ true
          still m none (StillWaits w) = w
          still m none (IsTaken u at own) = absurd (none u at own)
          still m none (HasNoCall d) = absurd (drop m s h older since holds d)

          called : (u : Under) → request ≡ u.call → (i : IsDecidedIn setup seat role start h u) → i.first.key ≢ key → EntrySo start (told_entry seat given request reply) h
          called u asked i other = Calls (record { under = u; decided = i; is = entry_is given next request reply h of_kind whole.1 absorbs u asked }) other

          by_key : (u : Under) → IsDecisionPoint setup seat role h s h → given.under ≡ Some u → given.given ≡ Some givens.Task → request ≡ u.call
              → GivesCall s.role s.memory (all_objects s.caches) u → (waits key s.work ≡ true → Keeps s given h)
              → AgainFrom next (told_entry seat given request reply ∷ h) → (u.key ≡ key) ⊎ (u.key ≢ key) → Outcome_
          by_key u p at task asked gives keeps again (inl own) =
              inl (record {
                state = s;
                point = h;
                older = older;
                behind = since;
                sees = p;
                under = u;
                own = own;
                gives = gives;
                holds = holds;
                asked = record {
                  next = next;
                  on = subst (λ x. OnRun next (x ∷ h)) (sym (entry_is given next request reply h of_kind whole.1 absorbs u asked))
                      (record { budget = b - 1; runs = more; role_is = next_role; knows = next_knows });
                  follows = follows_so given next request reply h of_kind whole.1 absorbs u at task asked;
                };
              })
          by_key u p at task asked gives keeps again (inr other) =
              let i : IsDecidedIn setup seat role start h u = record { state = s; point = h; older = older; behind = since; sees = p; first = u; gives = gives; leads = Here } in
              again next_role next_knows (goes_under given next request reply h of_kind whole.1 absorbs start u at task asked i other) (next_holds (called u asked i other))
              (λ m. next_waits (still m (λ v v_at own. other (ap (λ (x : Under). x.key) (one u v (sym at ∙ v_at)) ∙ own)) (keeps (waiting m))))

          by : TurnsSo s given request h → AgainFrom next (told_entry seat given request reply ∷ h) → Outcome_
          by (Goes u at under task asked work) again =
              let d = others u at in
              again next_role next_knows (goes_under given next request reply h of_kind whole.1 absorbs start u under task asked d.0 d.1)
              (next_holds (called u asked d.0 d.1)) (λ m. next_waits (ap (waits key) work ∙ waiting m))
          by (Looks k none asked keeps) again =
              again next_role next_knows (λ u at. none_some (sym (none_follows given next request reply h of_kind whole.1 absorbs none) ∙ at))
              (next_holds (Reads (reads h (told_entry seat given request reply) s.caches k asked)))
              (λ m. next_waits (still m (λ u at own. none_some (sym none ∙ at)) (keeps (waiting m))))
          by (Takes u p at task asked gives keeps) again = by_key u p at task asked gives keeps again (key_tells u.key key)

      pub walks : (s : ActorState) (h older : List Entry) → OnRun s h → h ≡ older ++ start → UnderOthers start h s → I h → (must ≡ true → waits key s.work ≡ true) → Outcome_
      walks s h older on since others holds waiting = walk s h older on.budget on.runs since on.role_is on.knows others holds waiting
