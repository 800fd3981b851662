-- What the scheduler is told in a slot: past its first pass it is told of each kind what was written since the slot before began, or what stands.
use Rattle.kube_objects.specs.declared.objects.Claim.{Claim as ClaimData}
use Rattle.kube_objects.specs.declared.objects.Object.{Object}
use Rattle.kube_objects.specs.declared.objects.Object.TheVariants.{Claim}
use Rattle.kube_objects.specs.Keys.{AreRows, key_of, meta_of, put_row, row_at}
use Rattle.kube_objects.proofs.KeyOrder.{row_at-put_row}
use Rattle.call_types.specs.declared.reply.Change.{Change}
use Rattle.call_types.specs.declared.reply.Change.TheVariants as changes
use Rattle.call_types.specs.declared.reply.Event.{Event}
use Rattle.binder_model.specs.Answers.{Removes, Says, Stores, after, reply_of}
use Rattle.binder_model.specs.Devices.{Devices, device_answer}
use Rattle.binder_model.specs.Licence.{Licensed}
use Rattle.binder_model.specs.Told.{objects_in, objects_of_event, objects_of_events}
use Rattle.binder_model.specs.World.{Effect, OnDevices, OnStore, SetsMoment, World, effect, log_after, reply_to, world_after}
use Rattle.model_laws.specs.Steps.{KeepsStore, WritesOnce}
use Rattle.model_laws.proofs.Lists.{some_is}
use Rattle.model_laws.proofs.Truths.{TellsIt, events_some}
use Rattle.model_laws.proofs.Versions.{versions_count_writes}
use Rattle.settle_calls.proofs.Passes.Told.{told_after}
use Rattle.safety_law.specs.Invariant.Writes.{EffectOf, is_watch}
use Rattle.safety_law.proofs.Invariant.Effects.{effect_form}
use Rattle.worker_core.proofs.Answered.{answer_licensed}
use Rattle.std.proofs.Common.{◌++◌, append_assoc}
use Rattle.std.specs.Prelude.{⊤}
use Rattle.std.proofs.Common.{◌≡◌, ◌∙◌, ◌⊎◌, ℕ, ◌-◌, ◌≤◌, ◌<◌, List, [], ◌∷◌, Bool, true, false, true≢false, Some, None, inl, inr, refl, sym, ap, subst, arith}
use Rattle.kube_parts.specs.declared.parts.Kind.{Kind}
use Rattle.kube_objects.proofs.SameKeys.{same_kind-Decides}
use Rattle.call_types.specs.declared.entry.Entry.{Entry}
use Rattle.call_types.specs.declared.reply.Reply.{Reply}
use Rattle.call_types.specs.declared.request.Request.{Request}
use Rattle.call_types.specs.declared.request.Request.TheVariants as requests
use Rattle.call_types.specs.declared.request.SeatKind.TheVariants as seats
use Rattle.call_types.specs.declared.setup.Setup.{Setup}
use Rattle.call_types.specs.Kinds.{reads_kind}
use Rattle.binder_model.specs.Reading.{follows}
use Rattle.binder_model.specs.Told.{own}
use Rattle.binder_model.specs.World.{IsHistory, world}
use Rattle.model_laws.proofs.Histories.{rows_stand_in_order}
use Rattle.model_laws.proofs.Lists.{IsIn, none_some}
use Rattle.model_laws.proofs.Uids.{rises}
use Rattle.worker_core.specs.declared.role.Role.{Role}
use Rattle.worker_core.specs.declared.turn.Next.TheVariants.{Call, Idle}
use Rattle.worker_core.specs.declared.turn.Outcome.TheVariants.{Told}
use Rattle.worker_core.specs.declared.turn.Pass.{Pass}
use Rattle.worker_core.specs.Absorbs.{absorbed, woken}
use Rattle.worker_core.specs.Memories.{Memory}
use Rattle.worker_core.specs.Roles.{IsBuiltKind, kind_in_order}
use Rattle.worker_core.specs.States.{ActorState}
use Rattle.worker_core.specs.Turns.{IsTurn}
use Rattle.attention_law.proofs.Turned.{Kept, PassAfter, Renewed, answer_role, idle_rests, turn_pass}
use Rattle.actor_rounds.specs.Rounds.{all_pass, Asks, IsHeld, IsIdle, IsReady, IsSpent, Runs, told_entry}
use Rattle.actor_rounds.proofs.RunFacts.{still_role, turn_memory}
use Rattle.worker_core.proofs.Answered.{turn_role}
use Rattle.settle_slot.proofs.Slot.Slots.{run_older}
use Rattle.settle_calls.proofs.Passes.Given.{FindsGone, GivenSo, GivesRead, GivesStart, GivesTask, IsTold, Lists, Reads, given_so, read_called, start_called, task_called}
use Rattle.settle_calls.specs.Events.Telling.{told}
use Rattle.settle_calls.specs.Passes.Passes.{KindsHaveReached, IsCallGiven}
use Rattle.settle_calls.proofs.Passes.Reaching.{ReachedBehind, behind_on as behind_told, given_at, reached_all, reached_on}

module _ (setup : Setup) (seat base : ℕ) where
  -- one call on
  module _ (s given next : ActorState) (request : Request) (reply : Reply) (h : List Entry) (built : IsBuiltKind s.role.kind)
      (ready : IsReady seat s h) (turn : IsTurn s given (Call request)) (whole : IsHistory setup (told_entry seat given request reply ∷ h))
      (absorbs : next ≡ absorbed given next.caches request (Told reply)) (begun : base ≤ (world setup h).store.version) where
    g : IsCallGiven setup seat given request reply h
    g = given_at setup seat s given h request reply built ready turn whole

    given_role : given.role ≡ s.role
    given_role = turn_role s given (Call request) turn

    next_role : next.role ≡ given.role
    next_role = ap (λ (y : ActorState). y.role) absorbs ∙ answer_role given next.caches request (Told reply)

    -- what all have reached they have reached still
    pub all_on : KindsHaveReached base seat s.role.kind h → KindsHaveReached base seat next.role.kind (told_entry seat given request reply ∷ h)
    all_on reached kind from f is =
        reached_on setup seat base given request reply h g begun kind from (λ v e. reached kind v (ap (λ (r : Role). follows r.kind kind) (sym (next_role ∙ given_role)) ∙ f) e) is

    turned : ReachedBehind setup seat base s.role s.pass h → ReachedBehind setup seat base given.role given.pass h
    turned behind place kind from lt there is = by (turn_pass s given (Call request) turn)
      where
        by : PassAfter s given → base ≤ from
        by (Kept same) = behind place kind from (subst (λ (q : Pass). place < q.behind) same lt) (ap (λ (r : Role). kind_in_order r place) (sym given_role) ∙ there) is
        by (Renewed brought same) = let none = subst (λ (q : Pass). place < q.behind) same lt in absurd (omega (arith, none))

    pub behind_on : ReachedBehind setup seat base s.role s.pass h → ReachedBehind setup seat base next.role next.pass (told_entry seat given request reply ∷ h)
    behind_on behind = subst (λ (y : ActorState). ReachedBehind setup seat base y.role y.pass (told_entry seat given request reply ∷ h))
        (sym absorbs) (behind_told setup seat base given request reply h g begun (turned behind) next.caches)

-- ---- a slot that begins at this version leaves each kind so

module _ (setup : Setup) (seat : ℕ) (after : ActorState) (past : List Entry) (left : ℕ) (history : IsHistory setup past) (fresh : after.memory.stale ≡ false) (base : ℕ) where
  reaches : (s : ActorState) (h : List Entry) (b : ℕ) → Runs all_pass seat after past left true s h b → IsBuiltKind s.role.kind
      → base ≤ (world setup h).store.version → ReachedBehind setup seat base s.role s.pass h → KindsHaveReached base seat s.role.kind past
  reaches s h b (IsSpent none state entries rest busy) built begun behind = absurd (true≢false busy)
  reaches s h b (IsIdle some ready turn entries rest calm) built begun behind =
      let awake : s.memory.stale ≡ false = ap (λ (m : Memory). m.stale) (sym (turn_memory s after Idle turn)) ∙ fresh in
      subst (KindsHaveReached base seat s.role.kind) (sym entries) (reached_all setup seat base s.role s.pass h behind (idle_rests s after turn awake).passed)
  reaches s h b (Asks given next request reply some ready turn passes absorbs more) built begun behind =
      let whole : IsHistory setup (told_entry seat given request reply ∷ h) = run_older setup all_pass seat after past left true next _ _ more history in
      let role : next.role ≡ s.role = next_role setup seat base s given next request reply h built ready turn whole absorbs begun
      ∙ given_role setup seat base s given next request reply h built ready turn whole absorbs begun in
      let up = rises setup (told_entry seat given request reply ∷ []) h in
      subst (λ (r : Role). KindsHaveReached base seat r.kind past) role
      (reaches next (told_entry seat given request reply ∷ h) (b - 1) more (subst (λ (r : Role). IsBuiltKind r.kind) (sym role) built)
      (omega (arith, begun, up)) (behind_on setup seat base s given next request reply h built ready turn whole absorbs begun behind))
  reaches s h b (IsHeld given next request some ready turn held absorbs more) built begun behind = absurd (true≢false held)

pub slot_reaches : (setup : Setup) (seat : ℕ) (old after : ActorState) (h past : List Entry) (b left : ℕ) → IsHistory setup past
    → after.memory.stale ≡ false → IsBuiltKind old.role.kind → Runs all_pass seat after past left true (woken old) h b → KindsHaveReached (world setup h).store.version seat old.role.kind past
slot_reaches setup seat old after h past b left history fresh built runs =
    reaches setup seat after past left history fresh (world setup h).store.version (woken old) h b runs built (omega arith) (λ place kind from lt there is. absurd (omega (arith, lt)))

-- ---- what is told is late

-- each event is at the version of its object
log_versions : (setup : Setup) (past : List Entry) (y : Event) → IsIn y (world setup past).log → y.version ≡ (meta_of y.object).version
log_versions setup [] y i = absurd i
log_versions setup (e ∷ past) y i = by (versions_count_writes setup (world setup past) e.kind e.request) (log_versions setup past y)
  where
    by : KeepsStore (world setup past) (world setup (e ∷ past))
        ⊎ WritesOnce (world setup past) (world setup (e ∷ past)) (reply_to (effect setup (world setup past) e.kind e.request))
        → (IsIn y (world setup past).log → y.version ≡ (meta_of y.object).version) → y.version ≡ (meta_of y.object).version
    by (inl k) before = before (subst (IsIn y) k.log i)
    by (inr k) before = elim (subst (IsIn y) k.log i) [
      | inl is ↦ subst (λ (z : Event). z.version ≡ (meta_of z.object).version) is k.at
      | inr more ↦ before more
    ]

is_told_by : (o : Object) (y : Event) → TellsIt o y → y.object ≡ o
is_told_by o y t = by y.change t
  where
    by : (c : Change) → IsIn o (objects_of_event c y.object) → y.object ≡ o
    by changes.Added i = elim i [ inl is ↦ is | inr none ↦ absurd none ]
    by changes.Modified i = elim i [ inl is ↦ is | inr none ↦ absurd none ]
    by changes.Deleted i = absurd i

told_late : (setup : Setup) (h : List Entry) (kind : Kind) (from : ℕ) (o : Object) → IsIn o (objects_of_events (told kind from (world setup h).log)) → from < (meta_of o).version
told_late setup h kind from o i =
    let s = some_is (TellsIt o) (told kind from (world setup h).log) (events_some o (told kind from (world setup h).log) i) in
    let a = told_after kind from (world setup h).log s.0 s.1.0 in
    let late = a.1 in
    let version = log_versions setup h s.0 a.0 in
    let same : (meta_of s.0.object).version ≡ (meta_of o).version = ap (λ x. (meta_of x).version) (is_told_by o s.0 s.1.1) in
    omega (arith, late, version, same)

no_device : (d : Devices) (setup : Setup) (mine : List Entry) (r : Request) → Licensed seats.Scheduler mine r → device_answer setup d r ≡ None
unfolding device_answer
no_device d setup mine (requests.Update o given) may = refl
no_device d setup mine (requests.BindPod key uid node) may = refl
no_device d setup mine (requests.List k namespace) may = refl
no_device d setup mine (requests.Watch k from) may = refl
no_device d setup mine (requests.Get key) may = refl
no_device d setup mine _ may = absurd may.1

-- what stands there, before the call or behind it
abbrev IsNow : World → World → Object → Type 0
IsNow old new o = (row_at (key_of o) old.store.rows ≡ Some o) ⊎ (row_at (key_of o) new.store.rows ≡ Some o)

plain_tells : (setup : Setup) (w : World) (mine : List Entry) (r : Request) (o : Object) → AreRows w.store.rows → Licensed seats.Scheduler mine r
    → is_watch r ≡ false → IsIn o (objects_in (reply_to (effect setup w seats.Scheduler r))) → IsNow w (world_after w (effect setup w seats.Scheduler r)) o
unfolding reply_to reply_of world_after after log_after
plain_tells setup w mine r o order may plain i = by (effect setup w seats.Scheduler r) (effect_form setup w seats.Scheduler r order) i
  where
    by : (x : Effect) → EffectOf setup w seats.Scheduler r x → IsIn o (objects_in (reply_to x)) → IsNow w (world_after w x) o
    by (OnStore (Says reply)) form i = inl (form plain o i)
    by (OnStore (Stores change new)) form i = elim i [
      | inl is ↦ inr (subst (λ z. row_at (key_of z) (put_row new w.store.rows) ≡ Some z) is (row_at-put_row new w.store.rows))
      | inr none ↦ absurd none
    ]
    by (OnStore (Removes last)) form i = absurd i
    by (OnDevices a) form i = none_some (sym (no_device w.devices setup mine r may) ∙ form.1)
    by (SetsMoment at) form i = absurd i

not_watch : (r : Request) → ((k : Kind) → reads_kind k r ≡ false) → is_watch r ≡ false
not_watch (requests.Watch k from) e = absurd (true≢false (sym ((same_kind-Decides k k).1 refl) ∙ e k))
not_watch _ e = refl

module _ (setup : Setup) (seat base : ℕ) where
  -- a claim that the entry tells stands there, or was written later than the version
  abbrev pub TellsLate : Entry → List Entry → Type 0
  TellsLate e g = (c : ClaimData) → IsIn (Claim c) (objects_in e.reply) → IsNow (world setup g) (world setup (e ∷ g)) (Claim c) ⊎ (base < c.meta.version)

  abbrev pub AllLate : List Entry → List Entry → Type 0
  AllLate [] h = ⊤
  AllLate (e ∷ newer) h = TellsLate e (newer ++ h) × AllLate newer h

  late_with : (newer : List Entry) (e : Entry) (h : List Entry) → AllLate newer (e ∷ h) → TellsLate e h → AllLate (newer ++ (e ∷ [])) h
  late_with [] e h all here = (here, tt)
  late_with (x ∷ newer) e h all here = (subst (TellsLate x) (sym (append_assoc newer (e ∷ []) h)) all.0, late_with newer e h all.1 here)

  pub late_at : (newer : List Entry) (e : Entry) (older h : List Entry) → AllLate (newer ++ (e ∷ older)) h → TellsLate e (older ++ h)
  late_at [] e older h all = all.0
  late_at (x ∷ newer) e older h all = late_at newer e older h all.1

  pub record HaveLate (h past : List Entry) : Type 0 where
    pub newer : List Entry
    pub are : past ≡ newer ++ h
    pub all : AllLate newer h

  tells_late : (s given : ActorState) (request : Request) (reply : Reply) (h : List Entry) → s.role.kind ≡ seats.Scheduler → IsReady seat s h
      → IsTurn s given (Call request) → IsHistory setup (told_entry seat given request reply ∷ h) → KindsHaveReached base seat given.role.kind h → TellsLate (told_entry seat given request reply) h
  tells_late s given request reply h kind ready turn whole reached c i = by (given_so given request g.ask)
    where
      built : IsBuiltKind s.role.kind
      built = subst IsBuiltKind (sym kind) tt

      g : IsCallGiven setup seat given request reply h
      g = given_at setup seat s given h request reply built ready turn whole

      given_kind : given.role.kind ≡ seats.Scheduler
      given_kind = ap (λ (r : Role). r.kind) (turn_role s given (Call request) turn) ∙ kind

      may : Licensed seats.Scheduler (own seat h) request
      may = subst (λ k. Licensed k (own seat h) request) kind (answer_licensed s given (Call request) (own seat h) built ready.rows ready.stands.told turn)

      said : reply ≡ reply_to (effect setup (world setup h) seats.Scheduler request)
      said = whole.1 ∙ ap (λ k. reply_to (effect setup (world setup h) k request)) given_kind

      plain : is_watch request ≡ false → IsNow (world setup h) (world setup (told_entry seat given request reply ∷ h)) (Claim c) ⊎ (base < c.meta.version)
      plain other =
          inl (subst (λ k. IsNow (world setup h) (world_after (world setup h) (effect setup (world setup h) k request)) (Claim c)) (sym given_kind)
          (plain_tells setup (world setup h) (own seat h) request (Claim c) (rows_stand_in_order setup h) may other (subst (λ r. IsIn (Claim c) (objects_in r)) said i)))

      read : (k : Kind) → follows given.role.kind k ≡ true → Reads setup seat given k request reply h
          → IsNow (world setup h) (world setup (told_entry seat given request reply ∷ h)) (Claim c) ⊎ (base < c.meta.version)
      read k f (Lists none asks answered) = plain (ap is_watch asks)
      read k f (FindsGone from version some passes asks old answered) = absurd (subst (λ r. IsIn (Claim c) (objects_in r)) answered i)
      read k f (IsTold from some passes asks low within answered) =
          let up = reached k from f some in
          let late = told_late setup h k from (Claim c) (subst (λ r. IsIn (Claim c) (objects_in r)) answered i) in
          inr (omega (arith, up, late))

      by : GivenSo given → IsNow (world setup h) (world setup (told_entry seat given request reply ∷ h)) (Claim c) ⊎ (base < c.meta.version)
      by (GivesTask eg) = plain (not_watch request (task_called setup seat given request reply h g eg).unread)
      by (GivesStart eg) = plain (not_watch request (start_called setup seat given request reply h g eg).unread)
      by (GivesRead k eg) = let r = read_called setup seat given request reply h g k eg in read k r.follows_it r.reads

  module _ (after : ActorState) (past : List Entry) (left : ℕ) (idle : Bool) (history : IsHistory setup past) where
    run_late : (s : ActorState) (h : List Entry) (b : ℕ) → Runs all_pass seat after past left idle s h b → s.role.kind ≡ seats.Scheduler
        → base ≤ (world setup h).store.version → KindsHaveReached base seat s.role.kind h → HaveLate h past
    run_late s h b (IsSpent none state entries rest busy) kind begun reached = record { newer = []; are = entries; all = tt }
    run_late s h b (IsIdle some ready turn entries rest calm) kind begun reached = record { newer = []; are = entries; all = tt }
    run_late s h b (IsHeld given next request some ready turn held absorbs more) kind begun reached = absurd (true≢false held)
    run_late s h b (Asks given next request reply some ready turn passes absorbs more) kind begun reached =
        let whole : IsHistory setup (told_entry seat given request reply ∷ h) = run_older setup all_pass seat after past left idle next _ _ more history in
        let up = rises setup (told_entry seat given request reply ∷ []) h in
        let next_kind : next.role.kind ≡ seats.Scheduler = ap (λ (r : Role). r.kind) (still_role s given next (Call request) request (Told reply) turn absorbs) ∙ kind in
        let given_reached : KindsHaveReached base seat given.role.kind h = subst (λ (r : Role). KindsHaveReached base seat r.kind h) (sym (turn_role s given (Call request) turn)) reached in
        let rest = run_late next (told_entry seat given request reply ∷ h) (b - 1) more next_kind (omega (arith, begun, up))
        (all_on setup seat base s given next request reply h (subst IsBuiltKind (sym kind) tt) ready turn whole absorbs begun reached) in
        record {
          newer = rest.newer ++ (told_entry seat given request reply ∷ []);
          are = rest.are ∙ sym (append_assoc rest.newer (told_entry seat given request reply ∷ []) h);
          all = late_with rest.newer (told_entry seat given request reply) h rest.all (tells_late s given request reply h kind ready turn whole given_reached);
        }

pub slot_late : (setup : Setup) (seat base : ℕ) (old after : ActorState) (h past : List Entry) (b left : ℕ) → IsHistory setup past
    → old.role.kind ≡ seats.Scheduler → base ≤ (world setup h).store.version → KindsHaveReached base seat old.role.kind h
    → Runs all_pass seat after past left true (woken old) h b → HaveLate setup seat base h past
slot_late setup seat base old after h past b left history kind begun reached runs = run_late setup seat base after past left true history (woken old) h b runs kind begun reached
