-- A slot of a scheduler in which no call of it is held back: each of its calls reads, or is of what is under way, which costs no more writes than
-- the pods may.
use Rattle.std.proofs.Common.{◌≡◌, ◌≢◌, ◌∙◌, ℕ, ◌+◌, ◌-◌, ◌≤◌, List, ◌∷◌, Bool, true, false, true≢false, Option, Some, None, inl, inr, refl, sym, ap, subst, arith, if◌then◌else◌}
use Rattle.std.specs.Prelude.{nat_lt}
use Rattle.kube_parts.specs.declared.names.Field.TheVariants as fields
use Rattle.kube_parts.specs.declared.parts.Kind.{Kind}
use Rattle.call_types.specs.declared.entry.Entry.{Entry}
use Rattle.call_types.specs.declared.reply.Refusal.TheVariants as refusals
use Rattle.call_types.specs.declared.reply.Reply.{Reply}
use Rattle.call_types.specs.declared.reply.Reply.TheVariants as replies
use Rattle.call_types.specs.declared.request.Request.{Request}
use Rattle.call_types.specs.declared.request.SeatKind.{SeatKind}
use Rattle.call_types.specs.declared.request.SeatKind.TheVariants as seats
use Rattle.call_types.specs.declared.setup.Setup.{Setup}
use Rattle.binder_model.specs.Answers.{Says, after, list, outcome}
use Rattle.binder_model.specs.Devices.{device_answer}
use Rattle.binder_model.specs.Imports.{ImportsPass}
use Rattle.binder_model.specs.Promises.{IsRunOf}
use Rattle.binder_model.specs.Watching.{oldest, told_events}
use Rattle.binder_model.specs.World.{Effect, IsHistory, OnStore, World, base, effect, on_devices, reply_to, watch, world, world_after}
use Rattle.informer_cache.specs.declared.cache.NextRead.{NextRead}
use Rattle.informer_cache.specs.declared.cache.NextRead.TheVariants as asks
use Rattle.informer_cache.specs.All.{AllKnown, all_objects, cache_of}
use Rattle.informer_cache.specs.Cache.{ask_of}
use Rattle.model_laws.proofs.Growing.{runs_are_histories}
use Rattle.model_laws.proofs.Lists.{none_some, one}
use Rattle.attention_law.proofs.Turned.{calls_fresh}
use Rattle.sync_queue.specs.Work.{Work}
use Rattle.worker_core.specs.declared.role.Role.{Role}
use Rattle.worker_core.specs.declared.task.Under.{Under}
use Rattle.worker_core.specs.declared.turn.Given.{Given}
use Rattle.worker_core.specs.declared.turn.Given.TheVariants as givens
use Rattle.worker_core.specs.declared.turn.Next.TheVariants.{Call}
use Rattle.worker_core.specs.declared.turn.Outcome.TheVariants.{Told}
use Rattle.worker_core.specs.Absorbs.{absorbed, given_told, learned}
use Rattle.worker_core.specs.Roles.{IsBuiltKind}
use Rattle.worker_core.specs.States.{ActorState, call_in, read_of_kind, read_request, start_call, start_of}
use Rattle.worker_core.specs.Tasks.{under_after}
use Rattle.worker_core.specs.Turns.{AfterKeys, Decides, IsTurn, TurnBy, passing, unlisted}
use Rattle.actor_rounds.specs.Rounds.{Asks, IsHeld, IsIdle, IsReady, IsSpent, Lets, Runs, told_entry}
use Rattle.actor_rounds.proofs.RunFacts.{run_grows, still_role}
use Rattle.worker_core.proofs.Answered.{turn_role}
use Rattle.settle_slot.specs.Slot.Gates.{HoldsMountsAlone}
use Rattle.settle_slot.specs.Slot.Slots.{IsDecisionPoint, KnowsBehind, begun, own_entry}
use Rattle.settle_slot.proofs.Slot.Held.{others_pass}
use Rattle.settle_slot.proofs.Slot.Knowing.{sees, told_knows}
use Rattle.settle_slot.proofs.Slot.Slots.{begun_behind, decides_gives}
use Rattle.settle_progress.proofs.Epochs.Silent.{older_run}
use Rattle.settle_write_counts.specs.Scheduler.Pods.{pods_writes}
use Rattle.settle_write_counts.proofs.Passed.Costs.{costs_bounded, costs_on}
use Rattle.settle_write_counts.proofs.Passed.Deciding.{decision_spends}
use Rattle.settle_write_counts.proofs.Passed.Spending.{EachSpends, Spends}

-- a read leaves the store
module _ (setup : Setup) (w : World) (kind : SeatKind) where
  abbrev watched : Kind → ℕ → Bool → Bool → Effect
  watched k from ahead gone =
      if ahead then OnStore (Says (replies.Refused (refusals.Invalid fields.From)))
      else if gone then OnStore (Says (replies.Refused (refusals.Gone (oldest (base setup) w.store.version))))
      else OnStore (Says (replies.Events (told_events k from w.store.version w.log)))

  read_stays : (k : Kind) (a : NextRead) → (world_after w (effect setup w kind (read_request k a))).store ≡ w.store
  unfolding effect on_devices device_answer outcome list watch world_after after
  read_stays k asks.List = refl
  read_stays k (asks.Watch from) = by (nat_lt w.store.version from) (nat_lt from (oldest (base setup) w.store.version))
    where
      by : (ahead gone : Bool) → (world_after w (watched k from ahead gone)).store ≡ w.store
      by true gone = refl
      by false true = refl
      by false false = refl

abbrev is_scheduler : SeatKind → Bool
is_scheduler seats.Scheduler = true
is_scheduler kind = false

module _ (setup : Setup) (seat : ℕ) (role : Role) (kind : role.kind ≡ seats.Scheduler) (pass : ImportsPass setup.imports) (bound : ℕ) where
  -- the version and what is still to be written are within the bound
  data IsWithin (h : List Entry) : Option Under → Type 0 where
    Rests : (world setup h).store.version + costs_on (world setup h).store.rows ≤ bound → IsWithin h None
    Goes : (u : Under) (n : ℕ) → Spends setup seat n h u → (world setup h).store.version + n ≤ bound → IsWithin h (Some u)

  low : (h : List Entry) (x : Option Under) → IsWithin h x → (world setup h).store.version ≤ bound
  low h x (Rests le) = omega (arith, le)
  low h x (Goes u n spends le) = omega (arith, le)

  resting : (h : List Entry) → IsWithin h None → (world setup h).store.version + costs_on (world setup h).store.rows ≤ bound
  resting h (Rests le) = le

  -- a call is of what is under way, or a read
  data CallsSo (h : List Entry) (given : ActorState) (request : Request) : Type 0 where
    OfUnder : (u : Under) (n : ℕ) → given.under ≡ Some u → given.given ≡ Some givens.Task → request ≡ u.call → Spends setup seat n h u
        → (world setup h).store.version + n ≤ bound → CallsSo h given request
    Reads : (caches : AllKnown) (k : Kind) → given.under ≡ None → request ≡ read_of_kind caches k
        → (world setup h).store.version + costs_on (world setup h).store.rows ≤ bound → CallsSo h given request

  calls_so : (s given : ActorState) (request : Request) (h : List Entry) → s.role ≡ role → IsHistory setup h → IsReady seat s h
      → IsTurn s given (Call request) → KnowsBehind setup seat s.role s.pass h → IsWithin h s.under → CallsSo h given request
  calls_so s given request h is history ready turn knows within = by s.memory.stale s.under (start_call s.role s.memory) (unlisted s) (passing s) refl refl refl turn
    where
      asked : (x : Request) → Call request ≡ Call x → request ≡ x
      asked x e = one request x (ap call_in e)

      rests : s.under ≡ None → (world setup h).store.version + costs_on (world setup h).store.rows ≤ bound
      rests none = resting h (subst (IsWithin h) none within)

      reads_so : (k : Kind) → s.under ≡ None → given.under ≡ s.under → Call request ≡ Call (read_of_kind s.caches k) → CallsSo h given request
      reads_so k none same e = Reads s.caches k (same ∙ none) (asked (read_of_kind s.caches k) e) (rests none)

      keys : (w : Work) (under : Option Under) → s.under ≡ None → passing s ≡ None → Decides s.role s.memory (all_objects s.caches) w under s.work
          → AfterKeys s given (Call request) w under → CallsSo h given request
      keys w (Some u) none over d b =
          let point : IsDecisionPoint setup seat role h s h =
          record {
            role_is = is;
            history = history;
            alike = record { rows = refl; stored = refl; mounts = refl };
            ready = ready;
            sees =
                sees setup seat s h history ready.stands.told knows over;
          } in
          OfUnder u (costs_on (world setup h).store.rows) (ap (λ (x : ActorState). x.under) b.state) (ap (λ (x : ActorState). x.given) b.state) (asked u.call b.call)
          (decision_spends setup seat role kind s h u pass point (decides_gives s.role s.memory (all_objects s.caches) w (Some u) u s.work d refl)) (rests none)
      keys w None none over d (inl b) = reads_so b.kind none (ap (λ (x : ActorState). x.under) b.state) b.call
      keys w None none over d (inr b) = none_some (sym (ap call_in b.idle))

      by : (stale : Bool) (under : Option Under) (start : Option Request) (l p : Option Kind) → s.under ≡ under → start_call s.role s.memory ≡ start
          → passing s ≡ p → TurnBy s given (Call request) stale under start l p → CallsSo h given request
      by true under start l p eu est ep t = none_some (sym (ap call_in t.idle))
      by false (Some u) start l p eu est ep t = goes (subst (IsWithin h) eu within)
        where
          goes : IsWithin h (Some u) → CallsSo h given request
          goes (Goes v n spends le) = OfUnder u n (ap (λ (x : ActorState). x.under) t.state ∙ eu) (ap (λ (x : ActorState). x.given) t.state) (asked u.call t.call) spends le
      by false None (Some r) l p eu est ep t = none_some (ap (λ k. start_of k s.role.node s.memory) (sym (ap (λ (x : Role). x.kind) is ∙ kind)) ∙ est)
      by false None None (Some k) p eu est ep t = reads_so k eu (ap (λ (x : ActorState). x.under) t.state) t.call
      by false None None None (Some k) eu est ep t = reads_so k eu (ap (λ (x : ActorState). x.under) t.state) t.call
      by false None None None None eu est ep t = keys t.work t.under eu ep t.decides t.then_

  -- so it goes on behind the call
  module _ (given next : ActorState) (request : Request) (reply : Reply) (h : List Entry) (of_kind : given.role.kind ≡ seats.Scheduler)
      (said : reply ≡ reply_to (effect setup (world setup h) given.role.kind request)) (absorbs : next ≡ absorbed given next.caches request (Told reply)) where
    abbrev entry : Entry
    entry = told_entry seat given request reply

    told_under : (u : Under) (caches : AllKnown) (g : Option Given) (x : Option Under) → g ≡ Some givens.Task → x ≡ Some u
        → (given_told (record (learned given caches request reply) { under = x }) request reply g).under ≡ under_after u reply
    told_under u caches g x eg ex = rw (eg, ex) refl

    none_told : (caches : AllKnown) (g : Option Given) (x : Option Under) → x ≡ None → (given_told (record (learned given caches request reply) { under = x }) request reply g).under ≡ None
    none_told caches g x ex = rw ex (by g)
      where
        by : (y : Option Given) → (given_told (record (learned given caches request reply) { under = None }) request reply y).under ≡ None
        by None = refl
        by (Some givens.Start) = refl
        by (Some givens.Task) = refl
        by (Some (givens.Read k)) = refl

    goes_on : CallsSo h given request → IsWithin (entry ∷ h) next.under
    goes_on (OfUnder u n under task asked (EachSpends m version goes ends) le) = subst (IsWithin (entry ∷ h)) (sym became) (by (under_after u reply) refl)
      where
        became : next.under ≡ under_after u reply
        became = ap (λ (x : ActorState). x.under) absorbs ∙ told_under u next.caches given.given given.under task under

        answered : reply ≡ reply_to (effect setup (world setup h) seats.Scheduler u.call)
        answered = said ∙ (ap (λ k. reply_to (effect setup (world setup h) k request)) of_kind ∙ ap (λ r. reply_to (effect setup (world setup h) seats.Scheduler r)) asked)

        same_entry : own_entry setup seat seats.Scheduler h u.call ≡ entry
        same_entry = λ i. record { seat = seat; kind = (sym of_kind) i; request = (sym asked) i; reply = (sym answered) i; told = true }

        lower : (world setup (entry ∷ h)).store.version + m ≤ bound
        lower = let v = ap (λ x. (world setup (x ∷ h)).store.version) same_entry in omega (arith, version, le, v)

        by : (x : Option Under) → under_after u reply ≡ x → IsWithin (entry ∷ h) x
        by None e =
            let few = ends (ap (under_after u) (sym answered) ∙ e) in
            let same = ap (λ x. costs_on (world setup (x ∷ h)).store.rows) same_entry in
            Rests (omega (arith, lower, few, same))
        by (Some v) e = Goes v m (subst (λ x. Spends setup seat m (x ∷ h) v) same_entry (goes v (ap (under_after u) (sym answered) ∙ e))) lower
    goes_on (Reads caches k none asked le) = subst (IsWithin (entry ∷ h)) (sym (ap (λ (x : ActorState). x.under) absorbs ∙ none_told next.caches given.given given.under none)) (Rests still)
      where
        same : (world setup (entry ∷ h)).store ≡ (world setup h).store
        same = ap (λ r. (world_after (world setup h) (effect setup (world setup h) given.role.kind r)).store) asked ∙ read_stays setup (world setup h) given.role.kind k (ask_of (cache_of k caches))

        still : (world setup (entry ∷ h)).store.version + costs_on (world setup (entry ∷ h)).store.rows ≤ bound
        still =
            let version = ap (λ t. t.version) same in
            let costs = ap (λ t. costs_on t.rows) same in
            omega (arith, le, version, costs)

  module _ (lets : Lets) (holds : HoldsMountsAlone lets) (after_ : ActorState) (past : List Entry) (left : ℕ) (idle : Bool) (run : IsRunOf setup past) where
    built : (s : ActorState) → s.role ≡ role → IsBuiltKind s.role.kind
    built s is = subst (λ (r : Role). IsBuiltKind r.kind) (sym is) (subst IsBuiltKind (sym kind) tt)

    not_agent : (s : ActorState) → s.role ≡ role → s.role.kind ≢ seats.Agent
    not_agent s is agent = true≢false (sym (ap is_scheduler (ap (λ (r : Role). r.kind) is ∙ kind)) ∙ ap is_scheduler agent)

    runs_low : (s : ActorState) (h : List Entry) (b : ℕ) → Runs lets seat after_ past left idle s h b → s.role ≡ role
        → KnowsBehind setup seat s.role s.pass h → (world setup h).store.version ≤ bound → (s.memory.stale ≡ false → IsWithin h s.under) → (world setup past).store.version ≤ bound
    runs_low s h b (IsSpent spent state entries rest busy) is knows le within = subst (λ es. (world setup es).store.version ≤ bound) (sym entries) le
    runs_low s h b (IsIdle some ready turn entries rest calm) is knows le within = subst (λ es. (world setup es).store.version ≤ bound) (sym entries) le
    runs_low s h b (IsHeld given next request some ready turn held absorbs more) is knows le within =
        absurd (true≢false (sym (others_pass lets seat s given request h holds (built s is) (not_agent s is) ready turn) ∙ held))
    runs_low s h b (Asks given next request reply some ready turn lets_it absorbs more) is knows le within =
        let g = run_grows lets seat after_ past left idle next (told_entry seat given request reply ∷ h) (b - 1) more in
        let whole = runs_are_histories setup (told_entry seat given request reply ∷ h)
        (older_run setup g.longer.added (told_entry seat given request reply ∷ h) (subst (IsRunOf setup) g.longer.are run)).run in
        let given_role : given.role ≡ role = turn_role s given (Call request) turn ∙ is in
        let of_kind : given.role.kind ≡ seats.Scheduler = ap (λ (r : Role). r.kind) given_role ∙ kind in
        let so = calls_so s given request h is whole.0 ready turn knows (within (calls_fresh s given request turn)) in
        let on = goes_on given next request reply h of_kind whole.1 absorbs so in
        runs_low next (told_entry seat given request reply ∷ h) (b - 1) more (still_role s given next (Call request) request (Told reply) turn absorbs ∙ is)
        (told_knows setup seat s given request reply h (built s is) ready turn whole knows next absorbs) (low (told_entry seat given request reply ∷ h) next.under on) (λ fresh. on)

-- from where nothing is under way
pub writes_from :
    (setup : Setup) (lets : Lets) (seat : ℕ) (old after : ActorState) (h past : List Entry) (b left : ℕ) (idle : Bool)
    → old.role.kind ≡ seats.Scheduler → IsRunOf setup past → HoldsMountsAlone lets → (old.memory.stale ≡ false → old.under ≡ None)
    → Runs lets seat after past left idle (begun old) h b → (world setup past).store.version ≤ (world setup h).store.version + pods_writes (world setup h)
writes_from setup lets seat old after_ h past b left idle kind run holds rests runs =
    let costs = costs_bounded (world setup h).store.rows in
    let bound = (world setup h).store.version + pods_writes (world setup h) in
    runs_low setup seat old.role kind run.imports bound lets holds after_ past left idle run (begun old) h b runs refl (begun_behind setup seat old h) (omega arith)
    (λ fresh. subst (IsWithin setup seat old.role kind run.imports bound h) (sym (rests fresh)) (Rests (omega (arith, costs))))
