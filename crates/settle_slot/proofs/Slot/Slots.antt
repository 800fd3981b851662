-- A slot that ends idle decides each key that waits, where it sees the store as it is; so a key on which the actor acts leaves an
-- entry that lasts.
use Rattle.std.proofs.Common.{◌≡◌, ◌∙◌, ℕ, zero, suc, ◌-◌, List, [], ◌∷◌, ◌++◌, append_assoc, Bool, true, false, true≢false, Option, Some, None, inl, inr, refl, sym, ap, subst, arith, ◌≢◌}
use Rattle.std.specs.Prelude.{slice_get, ⊤}
use Rattle.std.specs.List.{list_any}
use Rattle.kube_objects.specs.declared.key.Key.{Key}
use Rattle.kube_parts.specs.declared.parts.Kind.{Kind}
use Rattle.kube_objects.specs.Keys.{same_key}
use Rattle.call_types.specs.declared.entry.Entry.{Entry}
use Rattle.kube_objects.specs.declared.objects.Object.{Object}
use Rattle.call_types.specs.declared.reply.Reply.{Reply}
use Rattle.call_types.specs.declared.request.Request.{Request}
use Rattle.call_types.specs.declared.request.SeatKind.{SeatKind}
use Rattle.call_types.specs.declared.request.SeatKind.TheVariants as seats
use Rattle.call_types.specs.declared.setup.Setup.{Setup}
use Rattle.binder_model.specs.Told.{own}
use Rattle.binder_model.specs.World.{IsHistory, effect, reply_to, world}
use Rattle.informer_cache.specs.All.{AllKnown, all_objects}
use Rattle.model_laws.proofs.Histories.{rows_stand_in_order}
use Rattle.model_laws.proofs.Lists.{IsIn, none_some, one}
use Rattle.worker_core.specs.declared.role.Role.{Role}
use Rattle.sync_queue.specs.Work.{Work}
use Rattle.worker_core.specs.Memories.{Memory}
use Rattle.worker_core.specs.declared.task.First.{First}
use Rattle.worker_core.specs.declared.task.Under.{Under}
use Rattle.worker_core.specs.declared.turn.Given.{Given}
use Rattle.worker_core.specs.declared.turn.Given.TheVariants as givens
use Rattle.worker_core.specs.declared.turn.Next.{Next}
use Rattle.worker_core.specs.declared.turn.Next.TheVariants.{Call, Idle}
use Rattle.worker_core.specs.declared.turn.Outcome.TheVariants.{Lost, Told}
use Rattle.worker_core.specs.Absorbs.{absorbed, given_told, learned, lost_given, woken}
use Rattle.worker_core.specs.Roles.{IsBuiltKind}
use Rattle.worker_core.specs.States.{ActorState, call_in, start_call, waits}
use Rattle.worker_core.specs.Tasks.{GivesCall, GivesNone, under_after}
use Rattle.worker_core.specs.Turns.{AfterKeys, Begins, Decides, Drops, IsTurn, Nothing, TurnBy, passing, unlisted}
use Rattle.worker_core.proofs.KeyMoves.{begun_waits, dropped_waits}
use Rattle.worker_core.proofs.KeysKept.{answers_keep_keys}
use Rattle.attention_law.proofs.Turned.{answer_role, calls_fresh, idle_rests}
use Rattle.actor_rounds.specs.Rounds.{Asks, IsHeld, IsIdle, IsReady, IsSpent, Lets, Runs, told_entry}
use Rattle.actor_rounds.proofs.RunFacts.{run_grows, still_role, turn_memory}
use Rattle.worker_core.proofs.Answered.{turn_role}
use Rattle.settle_writes.specs.Writes.Lasting.{HasLasting, Lasts, LastsBetween}
use Rattle.settle_alike.specs.Alike.Alike.{AreAlike}
use Rattle.settle_alike.proofs.Alike.Calls.{LastsOrAlike, calls_last_or_leave_alike, then_alike}
use Rattle.settle_slot.specs.Slot.Slots.{ActsOn, IsDecisionPoint, KnowsBehind, Now, OthersStayAwake, PassedSeeTheStore, SlotsLast, Then, WillLast, begun, own_entry}
use Rattle.settle_slot.proofs.Slot.Knowing.{lost_knows, sees, told_knows, turned_knows}
pub use Rattle.worker_core.proofs.ByKind.{fresh as memory_awake}

-- a history without its newest entries is one
pub older : (setup : Setup) (newer past : List Entry) → IsHistory setup (newer ++ past) → IsHistory setup past
older setup [] past history = history
older setup (e ∷ newer) past history = older setup newer past history.0

-- what a run began with is a part of what it ended with
pub run_older : (setup : Setup) (lets : Lets) (seat : ℕ) (after : ActorState) (past : List Entry) (left : ℕ) (idle : Bool) (s : ActorState)
    (h : List Entry) (b : ℕ) → Runs lets seat after past left idle s h b → IsHistory setup past → IsHistory setup h
run_older setup lets seat after past left idle s h b run history = let g = run_grows lets seat after past left idle s h b run in
    older setup g.longer.added h (subst (IsHistory setup) g.longer.are history)

-- the kinds behind the pass are known wherever a run comes to
module _ (setup : Setup) (lets : Lets) (seat : ℕ) (after : ActorState) (past : List Entry) (left : ℕ) (idle : Bool) (history : IsHistory setup past) where
  runs_know : (s : ActorState) (h : List Entry) (b : ℕ) → IsBuiltKind s.role.kind → Runs lets seat after past left idle s h b
      → KnowsBehind setup seat s.role s.pass h → KnowsBehind setup seat after.role after.pass past
  runs_know s h b built (IsSpent none state entries rest busy) knows =
      subst (λ x. KnowsBehind setup seat x.role x.pass past) (sym state) (subst (KnowsBehind setup seat s.role s.pass) (sym entries) knows)
  runs_know s h b built (IsIdle some ready turn entries rest calm) knows = subst (KnowsBehind setup seat after.role after.pass) (sym entries) (turned_knows setup seat s after Idle h turn knows)
  runs_know s h b built (Asks given next request reply some ready turn passes absorbs more) knows =
      let role : next.role ≡ s.role = ap (λ (x : ActorState). x.role) absorbs ∙ (answer_role given next.caches request (Told reply) ∙ turn_role s given (Call request) turn) in
      let before : IsHistory setup (told_entry seat given request reply ∷ h) = run_older setup lets seat after past left idle next _ _ more history in
      runs_know next _ _ (subst (λ (r : Role). IsBuiltKind r.kind) (sym role) built) more (told_knows setup seat s given request reply h built ready turn before knows next absorbs)
  runs_know s h b built (IsHeld given next request some ready turn held absorbs more) knows =
      let role : next.role ≡ s.role = ap (λ (x : ActorState). x.role) absorbs ∙ (answer_role given next.caches request Lost ∙ turn_role s given (Call request) turn) in
      runs_know next h _ (subst (λ (r : Role). IsBuiltKind r.kind) (sym role) built) more
      (lost_knows setup seat given next request h (turned_knows setup seat s given (Call request) h turn knows) absorbs)

-- nothing is behind a pass that begins
pub nothing_behind : (setup : Setup) (seat : ℕ) (s : ActorState) (h : List Entry) → KnowsBehind setup seat (woken s).role (woken s).pass h
nothing_behind setup seat s h place kind lt at = absurd (omega (arith, lt))

pub begun_behind : (setup : Setup) (seat : ℕ) (s : ActorState) (h : List Entry) → KnowsBehind setup seat (begun s).role (begun s).pass h
begun_behind setup seat s h place kind lt at = absurd (omega (arith, lt))

pub passed_see_the_store : PassedSeeTheStore
passed_see_the_store setup lets seat old after h past b left idle built history run ready over =
    sees setup seat after past history ready.stands.told (runs_know setup lets seat after past left idle history (woken old) h b built run (nothing_behind setup seat old h)) over

-- a key that stops waiting in a turn

pub data Stopped (role : Role) (memory : Memory) (rows : List Object) (under : Option Under) (key : Key) : Type 0 where
  Called : (u : Under) → under ≡ Some u → u.key ≡ key → GivesCall role memory rows u → Stopped role memory rows under key
  NotCalled : (first : First) → GivesNone role memory rows key first → Stopped role memory rows under key

module _ (role : Role) (memory : Memory) (rows : List Object) (after : Work) (under : Option Under) (key : Key) where
  pub decides_stops : (w : Work) → Decides role memory rows after under w → waits key w ≡ true → waits key after ≡ false → Stopped role memory rows under key
  decides_stops w (Nothing empty same none) e f = absurd (true≢false (sym e ∙ sym (ap (waits key) same) ∙ f))
  decides_stops w (Begins u old gives same some) e f = elim (begun_waits u.key key w old e) [
    | inl own ↦ Called u some own gives
    | inr more ↦ absurd (true≢false (sym more ∙ sym (ap (waits key) same) ∙ f))
  ]
  decides_stops w (Drops k first old none rest) e f = elim (dropped_waits first k key w old e) [
    | inl own ↦ NotCalled first (subst (λ j. GivesNone role memory rows j first) own none)
    | inr more ↦ decides_stops _ rest more f
  ]

-- it does so past the pass: its decision begins what is then under way, or gives no call
pub data StopsBy (s new : ActorState) (answer : Next) (key : Key) : Type 0 where
  ByCall : (u : Under) → passing s ≡ None → new.under ≡ Some u → new.given ≡ Some givens.Task → answer ≡ Call u.call → u.key ≡ key
      → GivesCall s.role s.memory (all_objects s.caches) u → StopsBy s new answer key
  ByNone : (first : First) → passing s ≡ None → GivesNone s.role s.memory (all_objects s.caches) key first → StopsBy s new answer key

pub stops_by : (s new : ActorState) (answer : Next) (key : Key) → IsTurn s new answer → waits key s.work ≡ true → waits key new.work ≡ false → StopsBy s new answer key
stops_by s new answer key turn waiting stopped = by s.memory.stale s.under (start_call s.role s.memory) (unlisted s) (passing s) refl turn
  where
    no_change : {G : Type 0} → new.work ≡ s.work → G
    no_change same = absurd (true≢false (sym waiting ∙ (ap (waits key) (sym same) ∙ stopped)))

    keys : (w : Work) (under : Option Under) → passing s ≡ None → Decides s.role s.memory (all_objects s.caches) w under s.work → AfterKeys s new answer w under → StopsBy s new answer key
    keys w (Some u) over d b = found (decides_stops s.role s.memory (all_objects s.caches) w (Some u) key s.work d waiting (sym (ap (λ (x : ActorState). waits key x.work) b.state) ∙ stopped))
      where
        found : Stopped s.role s.memory (all_objects s.caches) (Some u) key → StopsBy s new answer key
        found (Called v same own gives) =
            let is : u ≡ v = one u v same in
            ByCall v over (ap (λ (x : ActorState). x.under) b.state ∙ ap Some is) (ap (λ (x : ActorState). x.given) b.state) (b.call ∙ ap (λ (x : Under). Call x.call) is) own gives
        found (NotCalled first none) = ByNone first over none
    keys w None over d (inl b) = found (decides_stops s.role s.memory (all_objects s.caches) w None key s.work d waiting (sym (ap (λ (x : ActorState). waits key x.work) b.state) ∙ stopped))
      where
        found : Stopped s.role s.memory (all_objects s.caches) None key → StopsBy s new answer key
        found (Called v same own gives) = none_some same
        found (NotCalled first none) = ByNone first over none
    keys w None over d (inr b) = found (decides_stops s.role s.memory (all_objects s.caches) w None key s.work d waiting (sym (ap (λ (x : ActorState). waits key x.work) b.state) ∙ stopped))
      where
        found : Stopped s.role s.memory (all_objects s.caches) None key → StopsBy s new answer key
        found (Called v same own gives) = none_some same
        found (NotCalled first none) = ByNone first over none

    by : (stale : Bool) (u : Option Under) (start : Option Request) (l p : Option Kind) → passing s ≡ p → TurnBy s new answer stale u start l p → StopsBy s new answer key
    by true u start l p over t = no_change (ap (λ (x : ActorState). x.work) t.state)
    by false (Some u) start l p over t = no_change (ap (λ (x : ActorState). x.work) t.state)
    by false None (Some request) l p over t = no_change (ap (λ (x : ActorState). x.work) t.state)
    by false None None (Some kind) p over t = no_change (ap (λ (x : ActorState). x.work) t.state)
    by false None None None (Some kind) over t = no_change (ap (λ (x : ActorState). x.work) t.state)
    by false None None None None over t = keys t.work t.under over t.decides t.then_

-- what is under way is asked next
pub record AsksUnder (s new : ActorState) (answer : Next) (u : Under) : Type 0 where
  pub under : new.under ≡ Some u
  pub given : new.given ≡ Some givens.Task
  pub call : answer ≡ Call u.call

pub asks_under : (s new : ActorState) (answer : Next) (u : Under) → IsTurn s new answer → s.memory.stale ≡ false → s.under ≡ Some u → AsksUnder s new answer u
asks_under s new answer u turn awake under = by s.memory.stale s.under refl refl turn
  where
    by : (stale : Bool) (x : Option Under) → s.memory.stale ≡ stale → s.under ≡ x → TurnBy s new answer stale x (start_call s.role s.memory) (unlisted s) (passing s) → AsksUnder s new answer u
    by true x es ex t = absurd (true≢false (sym es ∙ awake))
    by false None es ex t = none_some (sym ex ∙ under)
    by false (Some v) es ex t =
        let is : v ≡ u = one v u (sym ex ∙ under) in
        record { under = ap (λ (x : ActorState). x.under) t.state ∙ under; given = ap (λ (x : ActorState). x.given) t.state; call = t.call ∙ ap (λ (x : Under). Call x.call) is }

-- what was decided gives a call
pub decides_gives : (role : Role) (memory : Memory) (rows : List Object) (after : Work) (under : Option Under) (u : Under) (w : Work)
    → Decides role memory rows after under w → under ≡ Some u → GivesCall role memory rows u
decides_gives role memory rows after under u w (Nothing empty same none) e = none_some (sym none ∙ e)
decides_gives role memory rows after under u w (Begins v old gives same some) e = subst (GivesCall role memory rows) (one v u (sym some ∙ e)) gives
decides_gives role memory rows after under u w (Drops k first old none rest) e = decides_gives role memory rows after under u _ rest e

-- what is under way behind a call that was told
module _ (given : ActorState) (request : Request) (reply : Reply) where
  pub told_under : (u : Under) (caches : AllKnown) (g : Option Given) (x : Option Under) → g ≡ Some givens.Task → x ≡ Some u
      → (given_told (record (learned given caches request reply) { under = x }) request reply g).under ≡ under_after u reply
  told_under u caches g x eg ex = rw (eg, ex) refl

  pub none_told : (caches : AllKnown) (g : Option Given) (x : Option Under) → x ≡ None → (given_told (record (learned given caches request reply) { under = x }) request reply g).under ≡ None
  none_told caches g x ex = rw ex (by g)
    where
      by : (y : Option Given) → (given_told (record (learned given caches request reply) { under = None }) request reply y).under ≡ None
      by None = refl
      by (Some givens.Start) = refl
      by (Some givens.Task) = refl
      by (Some (givens.Read k)) = refl

-- a call that was lost leaves nothing under way
pub task_lost : (given : ActorState) (g : Option Given) (x : Option Under) → g ≡ Some givens.Task → (lost_given (record given { under = x }) g).under ≡ None
task_lost given g None eg = rw eg refl
task_lost given g (Some u) eg = rw eg refl

pub none_lost : (given : ActorState) (g : Option Given) (x : Option Under) → x ≡ None → (lost_given (record given { under = x }) g).under ≡ None
none_lost given g x ex = rw ex (by g)
  where
    by : (y : Option Given) → (lost_given (record given { under = None }) y).under ≡ None
    by None = refl
    by (Some givens.Start) = refl
    by (Some givens.Task) = refl
    by (Some (givens.Read k)) = refl

-- one entry that lasts, and more behind it
pub lasting_here : (setup : Setup) (e : Entry) (h past newer : List Entry) → past ≡ newer ++ (e ∷ h) → LastsBetween (world setup h) (world setup (e ∷ h)) e.reply → HasLasting setup h past
lasting_here setup e h past newer are lasts = record { entry = e; newer = newer; older = []; are = are; lasts = lasts }

pub lasting_later : (setup : Setup) (e : Entry) (h past : List Entry) → HasLasting setup (e ∷ h) past → HasLasting setup h past
lasting_later setup e h past l = record {
  entry = l.entry;
  newer = l.newer;
  older = l.older ++ e ∷ [];
  are = l.are ∙ ap
      (λ es. l.newer ++ (l.entry ∷ es)) (sym (append_assoc l.older (e ∷ []) h));
  lasts =
      subst (λ es. LastsBetween (world setup es) (world setup (l.entry ∷ es)) l.entry.reply) (sym (append_assoc l.older (e ∷ []) h)) l.lasts;
}

-- its next call reaches the world
pub will_pass : (setup : Setup) (lets : Lets) (seat : ℕ) (kind : SeatKind) (h : List Entry) (u : Under) → WillLast setup lets seat kind h u → lets h u.call ≡ true
will_pass setup lets seat kind h u (Now passes lasts) = passes
will_pass setup lets seat kind h u (Then passes n follows more) = passes

-- what is under way and will make a call that lasts makes it
module _ (setup : Setup) (lets : Lets) (seat : ℕ) (kind : SeatKind) (after : ActorState) (past : List Entry) (left : ℕ) (history : IsHistory setup past) (fresh : after.memory.stale ≡ false) where
  abbrev Rest : ActorState → List Entry → Type 0
  Rest next h = (n : Under) → next.role.kind ≡ kind → next.under ≡ Some n → WillLast setup lets seat kind h n → HasLasting setup h past

  -- one call of it
  asked_so : (given next : ActorState) (request : Request) (reply : Reply) (h newer : List Entry) (u : Under) → given.role.kind ≡ kind
      → past ≡ newer ++ (told_entry seat given request reply ∷ h) → given.under ≡ Some u → given.given ≡ Some givens.Task
      → request ≡ u.call → next ≡ absorbed given next.caches request (Told reply) → WillLast setup lets seat kind h u → Rest next (told_entry seat given request reply ∷ h) → HasLasting setup h past
  asked_so given next request reply h newer u of_kind are under task asked absorbs (Now passes lasts) rest =
      lasting_here setup (told_entry seat given request reply) h past newer are
      (subst (λ r. LastsBetween (world setup h) (world setup (told_entry seat given request reply ∷ h)) r) (sym whole.1)
      (subst (λ k. Lasts setup (world setup h) k request) (sym of_kind) (subst (λ r. Lasts setup (world setup h) kind r) (sym asked) lasts)))
    where
      whole : IsHistory setup (told_entry seat given request reply ∷ h)
      whole = older setup newer (told_entry seat given request reply ∷ h) (subst (IsHistory setup) are history)
  asked_so given next request reply h newer u of_kind are under task asked absorbs (Then passes n follows more) rest =
      lasting_later setup (told_entry seat given request reply) h past (rest n next_kind next_under (subst (λ e. WillLast setup lets seat kind (e ∷ h) n) entry more))
    where
      whole : IsHistory setup (told_entry seat given request reply ∷ h)
      whole = older setup newer (told_entry seat given request reply ∷ h) (subst (IsHistory setup) are history)

      said : reply ≡ reply_to (effect setup (world setup h) kind u.call)
      said = whole.1 ∙ (ap (λ k. reply_to (effect setup (world setup h) k request)) of_kind ∙ ap (λ r. reply_to (effect setup (world setup h) kind r)) asked)

      entry : own_entry setup seat kind h u.call ≡ told_entry seat given request reply
      entry = λ i. record { seat = seat; kind = (sym of_kind) i; request = (sym asked) i; reply = (sym said) i; told = true }

      next_kind : next.role.kind ≡ kind
      next_kind = ap (λ (x : ActorState). x.role.kind) absorbs ∙ (ap (λ (r : Role). r.kind) (answer_role given next.caches request (Told reply)) ∙ of_kind)

      next_under : next.under ≡ Some n
      next_under = ap (λ (x : ActorState). x.under) absorbs ∙ (told_under given request reply u next.caches given.given given.under task under ∙ (ap (under_after u) said ∙ follows))

  follow : (s : ActorState) (h : List Entry) (b : ℕ) → Runs lets seat after past left true s h b → (u : Under) → s.role.kind ≡ kind
      → s.under ≡ Some u → WillLast setup lets seat kind h u → HasLasting setup h past
  follow s h b (IsSpent none state entries rest busy) u of_kind under will = absurd (true≢false busy)
  follow s h b (IsIdle some ready turn entries rest calm) u of_kind under will =
      let awake : s.memory.stale ≡ false = ap (λ m. m.stale) (sym (turn_memory s after Idle turn)) ∙ fresh in
      none_some (ap call_in (asks_under s after Idle u turn awake under).call)
  follow s h b (Asks given next request reply some ready turn passes absorbs more) u of_kind under will =
      let a = asks_under s given (Call request) u turn (calls_fresh s given request turn) under in
      let g = run_grows lets seat after past left true next _ _ more in
      let kind_is : given.role.kind ≡ kind = ap (λ (r : Role). r.kind) (turn_role s given (Call request) turn) ∙ of_kind in
      asked_so given next request reply h g.longer.added u kind_is g.longer.are a.under a.given (one request u.call (ap call_in a.call)) absorbs will
      (λ n k e w. follow next (told_entry seat given request reply ∷ h) (b - 1) more n k e w)
  follow s h b (IsHeld given next request some ready turn held absorbs more) u of_kind under will =
      let a = asks_under s given (Call request) u turn (calls_fresh s given request turn) under in
      absurd (true≢false (sym (will_pass setup lets seat kind h u will) ∙ (ap (lets h) (sym (one request u.call (ap call_in a.call))) ∙ held)))

-- with what is kept at each point of the slot, on which decisions may rest too
module _ (setup : Setup) (lets : Lets) (seat : ℕ) (role : Role) (start : List Entry) (key : Key) (Kept : List Entry → Type 0)
    (lasts : (s : ActorState) (h : List Entry) (u : Under) → IsDecisionPoint setup seat role start s h → Kept h → u.key ≡ key
    → GivesCall s.role s.memory (all_objects s.caches) u → WillLast setup lets seat role.kind h u)
    (acts : (s : ActorState) (h : List Entry) (first : First) → IsDecisionPoint setup seat role start s h → Kept h → GivesNone s.role s.memory (all_objects s.caches) key first → ⊥)
    (built : IsBuiltKind role.kind) (after : ActorState) (past : List Entry) (left : ℕ) (history : IsHistory setup past) (fresh : after.memory.stale ≡ false)
    (stays : (s given : ActorState) (request : Request) (reply : Reply) (h newer : List Entry) → s.role ≡ role → IsReady seat s h
    → IsTurn s given (Call request) → past ≡ newer ++ (told_entry seat given request reply ∷ h) → Kept h
    → Kept (told_entry seat given request reply ∷ h)) where
  point : (s : ActorState) (h : List Entry) → s.role ≡ role → IsHistory setup h → AreAlike (world setup start) (world setup h) → IsReady seat s h
      → KnowsBehind setup seat s.role s.pass h → passing s ≡ None → IsDecisionPoint setup seat role start s h
  point s h is before alike ready knows over = record { role_is = is; history = before; alike = alike; ready = ready; sees = sees setup seat s h before ready.stands.told knows over }

  pub last_kept : (s : ActorState) (h : List Entry) (b : ℕ) → Runs lets seat after past left true s h b → s.role ≡ role
      → AreAlike (world setup start) (world setup h) → KnowsBehind setup seat s.role s.pass h → Kept h → waits key s.work ≡ true
      → HasLasting setup h past
  last_kept s h b (IsSpent none state entries rest busy) is alike knows kept waiting = absurd (true≢false busy)
  last_kept s h b (IsIdle some ready turn entries rest calm) is alike knows kept waiting =
      let awake : s.memory.stale ≡ false = ap (λ m. m.stale) (sym (turn_memory s after Idle turn)) ∙ fresh in
      let rests = idle_rests s after turn awake in
      let p = point s h is (subst (IsHistory setup) entries history) alike ready knows rests.passed in
      let stopped : waits key after.work ≡ false = ap (λ ks. list_any (same_key key) ks) rests.empty in
      by p (stops_by s after Idle key turn waiting stopped)
    where
      by : IsDecisionPoint setup seat role start s h → StopsBy s after Idle key → HasLasting setup h past
      by p (ByCall u over under task call own gives) = none_some (ap call_in call)
      by p (ByNone first over none) = absurd (acts s h first p kept none)
  last_kept s h b (Asks given next request reply some ready turn passes absorbs more) is alike knows kept waiting =
      by (waits key given.work) refl (λ r a k w. last_kept next (told_entry seat given request reply ∷ h) (b - 1) more r a k kept_on w)
    where
      kept_on : Kept (told_entry seat given request reply ∷ h)
      kept_on = let g = run_grows lets seat after past left true next _ _ more in stays s given request reply h g.longer.added is ready turn g.longer.are kept

      whole : IsHistory setup (told_entry seat given request reply ∷ h)
      whole = run_older setup lets seat after past left true next _ _ more history

      given_role : given.role ≡ s.role
      given_role = turn_role s given (Call request) turn

      next_role : next.role ≡ role
      next_role = ap (λ (x : ActorState). x.role) absorbs ∙ (answer_role given next.caches request (Told reply) ∙ (given_role ∙ is))

      built_here : IsBuiltKind s.role.kind
      built_here = subst (λ (r : Role). IsBuiltKind r.kind) (sym is) built

      on : (next.role ≡ role → AreAlike (world setup start) (world setup (told_entry seat given request reply ∷ h))
          → KnowsBehind setup seat next.role next.pass (told_entry seat given request reply ∷ h) → waits key next.work ≡ true
          → HasLasting setup (told_entry seat given request reply ∷ h) past)
          → waits key given.work ≡ true → LastsOrAlike (world setup h) (effect setup (world setup h) given.role.kind request) → HasLasting setup h past
      on rest still (inl lasts) =
          let g = run_grows lets seat after past left true next _ _ more in
          lasting_here setup (told_entry seat given request reply) h past g.longer.added g.longer.are
          (subst (λ r. LastsBetween (world setup h) (world setup (told_entry seat given request reply ∷ h)) r) (sym whole.1) lasts)
      on rest still (inr same) =
          lasting_later setup (told_entry seat given request reply) h past
          (rest next_role (then_alike _ _ _ alike same) (told_knows setup seat s given request reply h built_here ready turn whole knows next absorbs)
          (subst (λ w. waits key w ≡ true) (sym (ap (λ (x : ActorState). x.work) absorbs)) ((answers_keep_keys given next.caches request (Told reply)).stays key still)))

      called : StopsBy s given (Call request) key → HasLasting setup h past
      called (ByCall u over under task call own gives) =
          let p = point s h is whole.0 alike ready knows over in
          let g = run_grows lets seat after past left true next _ _ more in
          let kind_is : given.role.kind ≡ role.kind = ap (λ (r : Role). r.kind) (given_role ∙ is) in
          asked_so setup lets seat role.kind after past left history fresh given next request reply h g.longer.added u kind_is g.longer.are under
          task (one request u.call (ap call_in call)) absorbs (lasts s h u p kept own gives)
          (λ n k e w. follow setup lets seat role.kind after past left history fresh next (told_entry seat given request reply ∷ h) (b - 1) more n k e w)
      called (ByNone first over none) = absurd (acts s h first (point s h is whole.0 alike ready knows over) kept none)

      by : (b : Bool) → waits key given.work ≡ b
          → (next.role ≡ role → AreAlike (world setup start) (world setup (told_entry seat given request reply ∷ h))
          → KnowsBehind setup seat next.role next.pass (told_entry seat given request reply ∷ h) → waits key next.work ≡ true
          → HasLasting setup (told_entry seat given request reply ∷ h) past)
          → HasLasting setup h past
      by true still rest = on rest still (calls_last_or_leave_alike setup (world setup h) given.role.kind request (rows_stand_in_order setup h))
      by false stopped rest = called (stops_by s given (Call request) key turn waiting stopped)
  last_kept s h b (IsHeld given next request some ready turn held absorbs more) is alike knows kept waiting = by (waits key given.work) refl (λ r k w. last_kept next h (b - 1) more r alike k kept w)
    where
      before : IsHistory setup h
      before = run_older setup lets seat after past left true next _ _ more history

      next_role : next.role ≡ role
      next_role = ap (λ (x : ActorState). x.role) absorbs ∙ (answer_role given next.caches request Lost ∙ (turn_role s given (Call request) turn ∙ is))

      by : (b : Bool) → waits key given.work ≡ b → (next.role ≡ role → KnowsBehind setup seat next.role next.pass h → waits key next.work ≡ true → HasLasting setup h past) → HasLasting setup h past
      by true still rest =
          rest next_role (lost_knows setup seat given next request h (turned_knows setup seat s given (Call request) h turn knows) absorbs)
          (subst (λ w. waits key w ≡ true) (sym (ap (λ (x : ActorState). x.work) absorbs)) ((answers_keep_keys given next.caches request Lost).stays key still))
      by false stopped rest = held_so (stops_by s given (Call request) key turn waiting stopped)
        where
          held_so : StopsBy s given (Call request) key → HasLasting setup h past
          held_so (ByCall u over under task call own gives) =
              let p = point s h is before alike ready knows over in
              let asked : request ≡ u.call = one request u.call (ap call_in call) in
              absurd (true≢false (sym (will_pass setup lets seat role.kind h u (lasts s h u p kept own gives)) ∙ (ap (lets h) (sym asked) ∙ held)))
          held_so (ByNone first over none) = absurd (acts s h first (point s h is before alike ready knows over) kept none)

-- with nothing kept beside
module _ (setup : Setup) (lets : Lets) (seat : ℕ) (role : Role) (start : List Entry) (key : Key) (acts : ActsOn setup lets seat role start key)
    (built : IsBuiltKind role.kind) (after : ActorState) (past : List Entry) (left : ℕ) (history : IsHistory setup past) (fresh : after.memory.stale ≡ false) where
  pub last : (s : ActorState) (h : List Entry) (b : ℕ) → Runs lets seat after past left true s h b → s.role ≡ role
      → AreAlike (world setup start) (world setup h) → KnowsBehind setup seat s.role s.pass h → waits key s.work ≡ true → HasLasting setup h past
  last s h b run is alike knows waiting =
      last_kept setup lets seat role start key (λ x. ⊤) (λ x y u p k own gives. acts.lasts x y u p own gives)
      (λ x y first p k none. acts.acts x y first p none) built after past left history fresh (λ x given request reply y newer r ready turn are k. tt) s h b run is alike knows tt waiting

pub slots_last : SlotsLast
slots_last setup lets seat start key old after h past b left built history alike run fresh acts waiting =
    last setup lets seat old.role start key acts built after past left history fresh (woken old) h b run refl alike (nothing_behind setup seat old h) waiting

-- cached keys

pub kind_in : (xs : List Kind) (place : ℕ) (kind : Kind) → slice_get xs place ≡ Some kind → IsIn kind xs
kind_in [] place kind at = none_some at
kind_in (x ∷ xs) zero kind at = inl (one x kind at)
kind_in (x ∷ xs) (suc place) kind at = inr (kind_in xs place kind at)

-- no actor but an agent remembers that its epoch is stale

module _ (lets : Lets) (seat : ℕ) (after : ActorState) (past : List Entry) (left : ℕ) where
  awake_by : (s : ActorState) (h : List Entry) (b : ℕ) → s.role.kind ≢ seats.Agent → Runs lets seat after past left true s h b → after.memory.stale ≡ false
  awake_by s h b other (IsSpent none state entries rest busy) = absurd (true≢false busy)
  awake_by s h b other (IsIdle some ready turn entries rest calm) = ap (λ m. m.stale) (turn_memory s after Idle turn)
      ∙ (ap (λ m. m.stale) ready.stands.told.memory ∙ memory_awake s.role (own seat h) other)
  awake_by s h b other (Asks given next request reply some ready turn passes absorbs more) =
      awake_by next _ _ (subst (λ (r : Role). r.kind ≢ seats.Agent) (sym (still_role s given next (Call request) request (Told reply) turn absorbs)) other) more
  awake_by s h b other (IsHeld given next request some ready turn held absorbs more) =
      awake_by next _ _ (subst (λ (r : Role). r.kind ≢ seats.Agent) (sym (still_role s given next (Call request) request Lost turn absorbs)) other) more

pub others_stay_awake : OthersStayAwake
others_stay_awake lets seat s after h past b left other run = awake_by lets seat after past left s h b other run
