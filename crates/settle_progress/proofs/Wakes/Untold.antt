-- A key that the actor has not seen is told in the pass, by a list or by events, and waits then: whatever its own calls tell.
use Rattle.std.proofs.Common.{◌≡◌, ◌∙◌, ◌⊎◌, ℕ, ◌+◌, ◌-◌, ◌≤◌, ◌<◌, List, [], ◌∷◌, Bool, true, false, true≢false, Option, Some, None, inl, inr, refl, sym, ap, subst, arith, if◌then◌else◌}
use Rattle.std.specs.Prelude.{◌==◌, ◌&&◌, ◌||◌, length, map, nat_lt, not, option_map}
use Rattle.std.specs.List.{list_any}
use Rattle.std.proofs.lemmas.Bool.{and_from}
use Rattle.std.proofs.lemmas.Bool.Decides.{nat_tests}
use Rattle.kube_objects.specs.declared.key.Key.{Key}
use Rattle.kube_parts.specs.declared.parts.Kind.{Kind}
use Rattle.kube_objects.specs.declared.objects.Object.{Object}
use Rattle.kube_objects.specs.Keys.{is_of_kind, key_of, kind_of, row_at, rows_of, same_key, same_kind}
use Rattle.kube_objects.proofs.KeyOrder.{row_at_key}
use Rattle.kube_objects.proofs.SameKeys.{same_key-Decides, same_kind-Decides}
use Rattle.call_types.specs.declared.entry.Entry.{Entry}
use Rattle.call_types.specs.declared.reply.Event.{Event}
use Rattle.call_types.specs.declared.reply.Events.{Events as EventsData}
use Rattle.call_types.specs.declared.reply.Reply.{Reply}
use Rattle.call_types.specs.declared.reply.Reply.TheVariants as replies
use Rattle.call_types.specs.declared.request.Request.{Request}
use Rattle.call_types.specs.declared.request.Request.TheVariants as requests
use Rattle.call_types.specs.declared.setup.Setup.{Setup}
use Rattle.call_types.specs.Kinds.{reads_kind}
use Rattle.binder_model.specs.Reading.{follows, following_of}
use Rattle.binder_model.specs.Told.{Telling, newest, object_of, own}
use Rattle.binder_model.specs.Watching.{is_later, most_events, told_events}
use Rattle.binder_model.specs.World.{IsHistory, World, effect, world}
use Rattle.informer_cache.specs.All.{AllKnown, all_objects}
use Rattle.informer_cache.specs.Cache.{keys_in}
use Rattle.model_laws.proofs.Histories.{rows_stand_in_order}
use Rattle.model_laws.proofs.Lists.{IsIn, none_some, one}
use Rattle.settle_measure.proofs.Left.Sums.{found_in}
use Rattle.settle_slot.specs.Told.Knowing.{HasReached}
use Rattle.settle_slot.specs.Told.Telling.{IsTrue, IsTrueIfAny, changed_at}
use Rattle.settle_slot.proofs.Told.Allowed.{watches_on}
use Rattle.settle_slot.proofs.Told.Exact.{changed_below, caught}
use Rattle.settle_slot.proofs.Told.Telling.{newest_is_true}
use Rattle.worker_core.specs.declared.role.Role.{Role}
use Rattle.worker_core.specs.declared.task.Under.{Under}
use Rattle.worker_core.specs.declared.turn.Given.{Given}
use Rattle.worker_core.specs.declared.turn.Given.TheVariants as givens
use Rattle.worker_core.specs.declared.turn.Next.TheVariants.{Call, Idle}
use Rattle.worker_core.specs.declared.turn.Outcome.TheVariants.{Lost, Told}
use Rattle.worker_core.specs.declared.turn.Pass.{Pass}
use Rattle.worker_core.specs.Absorbs.{given_told, is_passing, learned, lost_given, lost_to, lost_under, pass_after, task_told, told_to}
use Rattle.worker_core.specs.Memories.{Memory}
use Rattle.worker_core.specs.Roles.{IsBuiltKind, kind_in_order, kinds_of}
use Rattle.worker_core.specs.States.{ActorState, waits}
use Rattle.worker_core.specs.Turns.{passing}
use Rattle.worker_core.proofs.Answered.{gives_asked, passed}
use Rattle.worker_core.proofs.ByKind.{placed}
use Rattle.worker_core.proofs.PassRules.{watches_follow}
use Rattle.worker_core.proofs.Turning.{turn_stands}
use Rattle.attention_law.specs.Queues.{taken_keys, under_keys}
use Rattle.attention_law.proofs.Kept.{turns_queues}
use Rattle.attention_law.proofs.Queues.{all_self}
use Rattle.attention_law.proofs.Turned.{Kept, PassAfter, Renewed, answer_role, calls_fresh, idle_rests, turn_pass}
use Rattle.actor_rounds.specs.Rounds.{Asks, IsHeld, IsIdle, IsReady, IsSpent, Lets, Runs, told_entry}
use Rattle.actor_rounds.proofs.RunFacts.{run_grows, still_role, turn_memory}
use Rattle.worker_core.proofs.Answered.{turn_role}
use Rattle.settle_writes.specs.Writes.Lasting.{HasLasting, LastsBetween, content_of}
use Rattle.settle_alike.specs.Alike.Alike.{AreAlike}
use Rattle.settle_alike.proofs.Alike.Calls.{LastsOrAlike, calls_last_or_leave_alike, then_alike}
use Rattle.settle_alike.proofs.Alike.Rows.{row_plain}
use Rattle.settle_slot.specs.Slot.Slots.{KnowsBehind}
use Rattle.settle_slot.proofs.Slot.Knowing.{at_or_before, lost_knows, told_knows, turned_knows, watches_from}
use Rattle.settle_slot.proofs.Slot.Slots.{lasting_here, lasting_later, run_older}
use Rattle.settle_calls.specs.Events.Ahead.{from_of}
use Rattle.settle_calls.specs.Events.Telling.{told}
use Rattle.settle_calls.proofs.Events.Calls.{Stays, gone_from, unread_from, watched_from, world_moves}
use Rattle.settle_calls.proofs.Events.Events.{told_or_later, told_so}
use Rattle.settle_calls.specs.Passes.Passes.{IsCallGiven}
use Rattle.settle_progress.proofs.Wakes.Wakes.{LastsWhereWaiting, StaysKept}
use Rattle.settle_calls.proofs.Passes.Given.{FindsGone, GivenSo, GivesRead, GivesStart, GivesTask, IsTold, Lists, Reads, from_same, given_so, read_called, start_called, task_called}
use Rattle.model_laws.proofs.Readings.{filter_keeps as in_kind}

-- the kind of the key has not been read as far as the key's last change
abbrev pub IsUntold : Setup → ℕ → List Entry → Key → Type 0
IsUntold setup seat h key = (from : ℕ) → from_of seat h key.kind ≡ Some from → from < changed_at key (world setup h).log

-- nor is it behind the pass
abbrev pub IsAhead : Role → Pass → Key → Type 0
IsAhead role pass key = (place : ℕ) → place < pass.behind → kind_in_order role place ≡ Some key.kind → ⊥

-- what stands in a world stands in one that is alike
pub data Stands (w : World) (key : Key) : Type 0 where
  There : (o : Object) → row_at key w.store.rows ≡ Some o → Stands w key

pub stands_alike : (old new : World) (key : Key) (o : Object) → AreAlike old new → row_at key old.store.rows ≡ Some o → Stands new key
stands_alike old new key o alike there = by (row_at key new.store.rows) refl
  where
    by : (x : Option Object) → row_at key new.store.rows ≡ x → Stands new key
    by (Some p) e = There p e
    by None e = none_some (sym (ap (option_map content_of) e) ∙
        (sym (row_plain key new.store.rows) ∙ (ap (row_at key) (sym alike.rows) ∙ (row_plain key old.store.rows ∙ ap (option_map content_of) there))))

-- what an actor has not seen, and what stands, it was not told
pub untold : (setup : Setup) (seat : ℕ) (s : ActorState) (h : List Entry) (key : Key) (o : Object) → IsHistory setup h → IsBuiltKind s.role.kind
    → IsReady seat s h → row_at key (world setup h).store.rows ≡ Some o → row_at key (all_objects s.caches) ≡ None → IsUntold setup seat h key
untold setup seat s h key o history built ready there unseen from is =
    by ((caught setup h seat key.kind history
    (watches_on setup h seat key.kind history (watches_from s.role.kind (own seat h) key.kind built ready.stands.told.licensed)) from
    (sym (from_same (following_of (own seat h) key.kind)) ∙ is)).1 key refl)
  where
    none : object_of (newest (own seat h) key) ≡ None
    none = sym (ready.stands.told.caches.rows key) ∙ unseen

    true_of : (t : Telling) → newest (own seat h) key ≡ Some t → IsTrue (world setup h) key t
    true_of t e = subst (IsTrueIfAny (world setup h) key) e (newest_is_true setup h seat key history)

    by : (from < changed_at key (world setup h).log) ⊎ HasReached (changed_at key (world setup h).log) (newest (own seat h) key) → from < changed_at key (world setup h).log
    by (inl late) = late
    by (inr reached) =
        let now = (true_of reached.telling reached.is).now reached.up in
        none_some (sym none ∙ (ap object_of reached.is ∙ (now ∙ there)))

-- the last change of a key is an event of it
changed_by : (key : Key) (from : ℕ) (log : List Event) → from < changed_at key log → (y : Event) × (IsIn y log × ((key_of y.object ≡ key) × (y.version ≡ changed_at key log)))
changed_by key from [] lt = absurd (omega (arith, lt))
changed_by key from (x ∷ xs) lt = by (same_key (key_of x.object) key) refl lt (changed_by key from xs)
  where
    by : (b : Bool) → same_key (key_of x.object) key ≡ b → from < (if b then x.version else changed_at key xs)
        → (from < changed_at key xs → (y : Event) × (IsIn y xs × ((key_of y.object ≡ key) × (y.version ≡ changed_at key xs))))
        → (y : Event) × (IsIn y (x ∷ xs) × ((key_of y.object ≡ key) × (y.version ≡ (if same_key (key_of x.object) key then x.version else changed_at key xs))))
    by true e l rest = (x, (inl refl, ((same_key-Decides (key_of x.object) key).0 e, rw e refl)))
    by false e l rest = let r = rest l in (r.0, (inr r.1.0, (r.1.1.0, r.1.1.1 ∙ rw e refl)))

-- a key is among the keys of its objects
among : (key : Key) (o : Object) (os : List Object) → IsIn o os → key_of o ≡ key → list_any (same_key key) (map key_of os) ≡ true
among key o [] i e = absurd i
among key o (x ∷ xs) (inl is) e = let h : same_key key (key_of x) ≡ true = (same_key-Decides key (key_of x)).1 (sym (ap key_of is ∙ e)) in rw h refl
among key o (x ∷ xs) (inr more) e = by (same_key key (key_of x)) (among key o xs more e)
  where
    by : (b : Bool) → list_any (same_key key) (map key_of xs) ≡ true → (b || list_any (same_key key) (map key_of xs)) ≡ true
    by true h = refl
    by false h = h

among_events : (key : Key) (y : Event) (es : List Event) → IsIn y es → key_of y.object ≡ key → list_any (same_key key) (map (λ (e : Event). key_of e.object) es) ≡ true
among_events key y [] i e = absurd i
among_events key y (x ∷ xs) (inl is) e = let h : same_key key (key_of x.object) ≡ true = (same_key-Decides key (key_of x.object)).1 (sym (ap (λ (z : Event). key_of z.object) is ∙ e)) in rw h refl
among_events key y (x ∷ xs) (inr more) e = by (same_key key (key_of x.object)) (among_events key y xs more e)
  where
    by : (b : Bool) → list_any (same_key key) (map (λ (z : Event). key_of z.object) xs) ≡ true → (b || list_any (same_key key) (map (λ (z : Event). key_of z.object) xs)) ≡ true
    by true h = refl
    by false h = h

-- a pass goes on by one kind at most, past the one that it watches
pass_further : (pass : Pass) (passes : Bool) (request : Request) (reply : Reply) → ((pass_after pass passes request reply).behind ≡ pass.behind)
    ⊎ ((passes ≡ true) × ((pass_after pass passes request reply).behind ≡ pass.behind + 1))
pass_further pass passes (requests.Watch k from) (replies.Events events) = by passes (length events.events == most_events) refl
  where
    by : (a b : Bool) → passes ≡ a → ((if a && not b then pass.behind + 1 else pass.behind) ≡ pass.behind)
        ⊎ ((passes ≡ true) × ((if a && not b then pass.behind + 1 else pass.behind) ≡ pass.behind + 1))
    by true false e = inr (e, refl)
    by true true e = inl refl
    by false b e = inl refl
pass_further pass passes (requests.Watch k from) _ = inl refl
pass_further pass passes _ reply = inl refl

pass_full : (pass : Pass) (passes : Bool) (kind : Kind) (from : ℕ) (events : EventsData) → (length events.events == most_events) ≡ true
    → (pass_after pass passes (requests.Watch kind from) (replies.Events events)).behind ≡ pass.behind
pass_full pass true kind from events e = ap (λ f. if true && not f then pass.behind + 1 else pass.behind) e
pass_full pass false kind from events e = refl

same_kind-flip : (a b : Kind) → same_kind a b ≡ same_kind b a
same_kind-flip a b = by (same_kind a b) (same_kind b a) refl refl
  where
    by : (x y : Bool) → same_kind a b ≡ x → same_kind b a ≡ y → x ≡ y
    by true true ex ey = refl
    by false false ex ey = refl
    by true false ex ey = absurd (true≢false (sym ((same_kind-Decides b a).1 (sym ((same_kind-Decides a b).0 ex))) ∙ ey))
    by false true ex ey = absurd (true≢false (sym ((same_kind-Decides a b).1 (sym ((same_kind-Decides b a).0 ey))) ∙ ex))

data After (setup : Setup) (seat : ℕ) (next : ActorState) (entries : List Entry) (key : Key) : Type 0 where
  WaitsNow : waits key next.work ≡ true → After setup seat next entries key
  IsStill : IsUntold setup seat entries key → IsAhead next.role next.pass key → After setup seat next entries key

-- one call
module _ (setup : Setup) (seat : ℕ) (x : ActorState) (request : Request) (reply : Reply) (h : List Entry) (key : Key) (o : Object)
    (given : IsCallGiven setup seat x request reply h) (there : row_at key (world setup h).store.rows ≡ Some o) (still : IsUntold setup seat h key) (ahead : IsAhead x.role x.pass key) where
  -- a call that reads another kind, or none, leaves it untold
  other_call : reads_kind key.kind request ≡ false → IsUntold setup seat (told_entry seat x request reply ∷ h) key
  other_call unread from is =
      let before = still from (sym (unread_from seat (told_entry seat x request reply) h refl refl key.kind unread) ∙ is) in
      elim (world_moves setup (told_entry seat x request reply) h given.history.1) [
        | inl stays ↦ let same = ap (changed_at key) stays.log in omega (arith, before, same)
        | inr wrote ↦ let up = grown wrote.event wrote.at in let same = ap (changed_at key) wrote.log in omega (arith, before, same, up)
      ]
    where
      grown : (e : Event) → e.version ≡ (world setup h).store.version + 1 → changed_at key (world setup h).log ≤ changed_at key (e ∷ (world setup h).log)
      grown e at = by (same_key (key_of e.object) key)
        where
          by : (b : Bool) → changed_at key (world setup h).log ≤ (if b then e.version else changed_at key (world setup h).log)
          by true = let low = changed_below setup h key in omega (arith, low, at)
          by false = omega arith

  taken_none : x.under ≡ None → taken_keys x.work ≡ []
  taken_none idle = given.queue.taken ∙ ap under_keys idle

  role_is : (caches : AllKnown) → (told_to x caches request reply).role ≡ x.role
  role_is caches = answer_role x caches request (Told reply)

  ahead_by : (next : ActorState) → next.role ≡ x.role → next.pass.behind ≡ x.pass.behind → IsAhead next.role next.pass key
  ahead_by next role pass place lt at = ahead place (omega (arith, lt, pass)) (ap (λ (r : Role). kind_in_order r place) (sym role) ∙ at)

  -- the key is among those that were read, and nothing is in work
  read_waits : (caches : AllKnown) (kind : Kind) → x.given ≡ Some (givens.Read kind) → x.under ≡ None
      → list_any (same_key key) (keys_in reply) ≡ true → waits key (told_to x caches request reply).work ≡ true
  read_waits caches kind eg idle told_it =
      subst (λ w. waits key w ≡ true) (sym (ap (λ (y : ActorState). y.work) (ap (given_told (learned x caches request reply) request reply) eg)))
      (all_self (keys_in reply) key x.work told_it (taken_none idle))

  pass_is : (caches : AllKnown) (kind : Kind) → x.given ≡ Some (givens.Read kind) → (told_to x caches request reply).pass ≡ pass_after x.pass (is_passing (passing x) kind) request reply
  pass_is caches kind eg = ap (λ (y : ActorState). y.pass) (ap (given_told (learned x caches request reply) request reply) eg)

  own_kind : (kind : Kind) → kind ≡ key.kind → is_of_kind kind o ≡ true
  own_kind kind k_is = (same_kind-Decides (kind_of o) kind).1 (ap (λ (k : Key). k.kind) (row_at_key key o (world setup h).store.rows there) ∙ sym k_is)

  read_own : (caches : AllKnown) (kind : Kind) → x.given ≡ Some (givens.Read kind) → x.under ≡ None → kind ≡ key.kind
      → Reads setup seat x kind request reply h → Stays (world setup h) (world setup (told_entry seat x request reply ∷ h)) request reply
      → After setup seat (told_to x caches request reply) (told_entry seat x request reply ∷ h) key
  read_own caches kind eg idle k_is (Lists none asks answered) stays =
      let mine = in_kind (is_of_kind kind) o (world setup h).store.rows (found_in key (world setup h).store.rows o there) (own_kind kind k_is) in
      WaitsNow (read_waits caches kind eg idle
      (ap (λ a. list_any (same_key key) (keys_in a)) answered ∙ among key o (rows_of kind (world setup h).store.rows) mine (row_at_key key o (world setup h).store.rows there)))
  read_own caches kind eg idle k_is (FindsGone from gone some passes asks old answered) stays =
      let now = gone_from seat (told_entry seat x request reply) h refl refl kind from gone asks answered in
      let behind = ap (λ (p : Pass). p.behind) (pass_is caches kind eg)
      ∙ (ap (λ q. (pass_after x.pass (is_passing (passing x) kind) q reply).behind) asks
      ∙ ap (λ a. (pass_after x.pass (is_passing (passing x) kind) (requests.Watch kind from) a).behind) answered) in
      IsStill (λ f is. none_some (sym now ∙ (ap (from_of seat (told_entry seat x request reply ∷ h)) k_is ∙ is))) (ahead_by (told_to x caches request reply) (role_is caches) behind)
  read_own caches kind eg idle k_is (IsTold from some passes asks low within answered) stays =
      let c = changed_by key from (world setup h).log (still from (ap (from_of seat h) (sym k_is) ∙ some)) in
      by c.0 c.1.0 c.1.1.0 c.1.1.1 (length (told kind from (world setup h).log) == most_events) refl
    where
      lt : from < changed_at key (world setup h).log
      lt = still from (ap (from_of seat h) (sym k_is) ∙ some)

      by : (y : Event) → IsIn y (world setup h).log → key_of y.object ≡ key → y.version ≡ changed_at key (world setup h).log → (full : Bool)
          → (length (told kind from (world setup h).log) == most_events) ≡ full
          → After setup seat (told_to x caches request reply) (told_entry seat x request reply ∷ h) key
      by y i own at full e = elim (told_or_later setup h kind from y low i later) [
        | inl t ↦ WaitsNow (read_waits caches kind eg idle (ap (λ a. list_any (same_key key) (keys_in a)) answered ∙ among_events key y (told kind from (world setup h).log) t own))
        | inr late ↦ then_late full e late
      ]
        where
          later : is_later kind from y ≡ true
          later = and_from (nat_lt from y.version) (is_of_kind kind y.object) (let l = lt in grind (arith, nat_tests, l, at))
              ((same_kind-Decides (kind_of y.object) kind).1 (ap (λ (k : Key). k.kind) own ∙ sym k_is))

          then_late : (f : Bool) → (length (told kind from (world setup h).log) == most_events) ≡ f
              → (told_events kind from (world setup h).store.version (world setup h).log).upto < y.version → After setup seat (told_to x caches request reply) (told_entry seat x request reply ∷ h) key
          then_late false ef late =
              let whole = (told_so setup h kind from false low ef).whole refl in
              let top = changed_below setup h key in
              absurd (omega (arith, whole, top, late, at))
          then_late true ef late =
              let now = watched_from seat (told_entry seat x request reply) h refl refl kind from from (world setup h).store.version (world setup h).log asks answered some in
              let behind = ap (λ (p : Pass). p.behind) (pass_is caches kind eg)
              ∙ (ap (λ q. (pass_after x.pass (is_passing (passing x) kind) q reply).behind) asks
              ∙ (ap (λ a. (pass_after x.pass (is_passing (passing x) kind) (requests.Watch kind from) a).behind) answered
              ∙ pass_full x.pass (is_passing (passing x) kind) kind from (told_events kind from (world setup h).store.version (world setup h).log) ef)) in
              IsStill (nearer now late) (ahead_by (told_to x caches request reply) (role_is caches) behind)
            where
              nearer : from_of seat (told_entry seat x request reply ∷ h) kind ≡ Some
                  (told_events kind from (world setup h).store.version (world setup h).log).upto
                  → (told_events kind from (world setup h).store.version (world setup h).log).upto < y.version → IsUntold setup seat (told_entry seat x request reply ∷ h) key
              nearer now late f is =
                  let u = one (told_events kind from (world setup h).store.version (world setup h).log).upto f (sym now ∙ (ap (from_of seat (told_entry seat x request reply ∷ h)) k_is ∙ is)) in
                  let same = ap (changed_at key) stays.log in
                  omega (arith, u, same, late, at)

  read_other : (caches : AllKnown) (kind : Kind) → x.given ≡ Some (givens.Read kind) → same_kind kind key.kind ≡ false
      → Reads setup seat x kind request reply h → After setup seat (told_to x caches request reply) (told_entry seat x request reply ∷ h) key
  read_other caches kind eg other reads = IsStill (other_call (unread reads)) (further (pass_further x.pass (is_passing (passing x) kind) request reply))
    where
      unread : Reads setup seat x kind request reply h → reads_kind key.kind request ≡ false
      unread (Lists none asks answered) = ap (reads_kind key.kind) asks ∙ other
      unread (FindsGone from gone some passes asks old answered) = ap (reads_kind key.kind) asks ∙ other
      unread (IsTold from some passes asks low within answered) = ap (reads_kind key.kind) asks ∙ other

      behind : (told_to x caches request reply).pass.behind ≡ (pass_after x.pass (is_passing (passing x) kind) request reply).behind
      behind = ap (λ (p : Pass). p.behind) (pass_is caches kind eg)

      -- the pass has gone on past the kind that was read
      not_it : is_passing (passing x) kind ≡ true → kind_in_order x.role x.pass.behind ≡ Some key.kind → ⊥
      not_it p at = true≢false (sym (sym (ap (λ k. is_passing k kind) at) ∙ p) ∙ ((same_kind-flip key.kind kind) ∙ other))

      further : ((pass_after x.pass (is_passing (passing x) kind) request reply).behind ≡ x.pass.behind)
          ⊎ ((is_passing (passing x) kind ≡ true) × ((pass_after x.pass (is_passing (passing x) kind) request reply).behind ≡ x.pass.behind + 1))
          → IsAhead (told_to x caches request reply).role (told_to x caches request reply).pass key
      further (inl same) place lt at = ahead_by (told_to x caches request reply) (role_is caches) (behind ∙ same) place lt at
      further (inr on) place lt at = elim (at_or_before place x.pass.behind (let b = behind in let s = on.1 in omega (arith, lt, b, s))) [
        | inl before ↦ ahead place before (ap (λ (r : Role). kind_in_order r place) (sym (role_is caches)) ∙ at)
        | inr here ↦ not_it on.0 (ap (kind_in_order x.role) (sym here) ∙ (ap (λ (r : Role). kind_in_order r place) (sym (role_is caches)) ∙ at))
      ]

  after_call : (caches : AllKnown) → After setup seat (told_to x caches request reply) (told_entry seat x request reply ∷ h) key
  after_call caches = by (given_so x request given.ask)
    where
      by_kind : (kind : Kind) → x.given ≡ Some (givens.Read kind) → (b : Bool) → same_kind kind key.kind ≡ b
          → After setup seat (told_to x caches request reply) (told_entry seat x request reply ∷ h) key
      by_kind kind eg true e = let r = read_called setup seat x request reply h given kind eg in read_own caches kind eg r.idle ((same_kind-Decides kind key.kind).0 e) r.reads r.stays
      by_kind kind eg false e = read_other caches kind eg e (read_called setup seat x request reply h given kind eg).reads

      by : GivenSo x → After setup seat (told_to x caches request reply) (told_entry seat x request reply ∷ h) key
      by (GivesTask eg) =
          let t = task_called setup seat x request reply h given eg in
          IsStill (other_call (t.unread key.kind))
          (ahead_by (told_to x caches request reply) (role_is caches)
          (ap (λ (y : ActorState). y.pass.behind) (ap (given_told (learned x caches request reply) request reply) eg ∙ ap (task_told (learned x caches request reply) reply) t.there)))
      by (GivesStart eg) =
          IsStill (other_call ((start_called setup seat x request reply h given eg).unread key.kind))
          (ahead_by (told_to x caches request reply) (role_is caches) (ap (λ (y : ActorState). y.pass.behind) (ap (given_told (learned x caches request reply) request reply) eg)))
      by (GivesRead kind eg) = by_kind kind eg (same_kind kind key.kind) refl

lost_pass : (x : ActorState) → (lost_to x).pass ≡ x.pass
lost_pass x = by x.given
  where
    by_under : (u : Option Under) → (lost_under x u).pass ≡ x.pass
    by_under None = refl
    by_under (Some u) = refl

    by : (g : Option Given) → (lost_given x g).pass ≡ x.pass
    by None = refl
    by (Some givens.Start) = refl
    by (Some (givens.Read kind)) = refl
    by (Some givens.Task) = by_under x.under

module _ (setup : Setup) (lets : Lets) (seat : ℕ) (role : Role) (start : List Entry) (key : Key) (o : Object) (built : IsBuiltKind role.kind)
    (followed : follows role.kind key.kind ≡ true) (there : row_at key (world setup start).store.rows ≡ Some o)
    (after : ActorState) (past : List Entry) (left : ℕ) (history : IsHistory setup past) (fresh : after.memory.stale ≡ false)
    (Held : List Entry → Type 0) (stays : StaysKept seat role past Held) (waiting_last : LastsWhereWaiting setup lets seat role start key after past left Held) where
  pub untold_last : (s : ActorState) (h : List Entry) (b : ℕ) → Runs lets seat after past left true s h b → s.role ≡ role
      → AreAlike (world setup start) (world setup h) → KnowsBehind setup seat s.role s.pass h → Held h → IsUntold setup seat h key → IsAhead s.role s.pass key → HasLasting setup h past
  untold_last s h b (IsSpent none state entries rest busy) is alike knows kept still ahead = absurd (true≢false busy)
  untold_last s h b (IsIdle some ready turn entries rest calm) is alike knows kept still ahead =
      let awake : s.memory.stale ≡ false = ap (λ m. m.stale) (sym (turn_memory s after Idle turn)) ∙ fresh in
      let rests = idle_rests s after turn awake in
      let p = placed s.role.kind key.kind (ap (λ (r : Role). follows r.kind key.kind) is ∙ followed) in
      let within = p.within in
      let all = passed (kinds_of s.role.kind) s.pass.behind rests.passed in
      absurd (ahead p.place (omega (arith, within, all)) p.at)
  untold_last s h b (Asks given next request reply some ready turn passes absorbs more) is alike knows kept still ahead =
      on (λ r a k u d. untold_last next (told_entry seat given request reply ∷ h) (b - 1) more r a k kept_on u d)
      (calls_last_or_leave_alike setup (world setup h) given.role.kind request (rows_stand_in_order setup h))
    where
      kept_on : Held (told_entry seat given request reply ∷ h)
      kept_on = let grows = run_grows lets seat after past left true next _ _ more in stays s given request reply h grows.longer.added is ready turn grows.longer.are kept

      whole : IsHistory setup (told_entry seat given request reply ∷ h)
      whole = run_older setup lets seat after past left true next _ _ more history

      built_here : IsBuiltKind s.role.kind
      built_here = subst (λ (r : Role). IsBuiltKind r.kind) (sym is) built

      given_role : given.role ≡ s.role
      given_role = turn_role s given (Call request) turn

      next_role : next.role ≡ role
      next_role = still_role s given next (Call request) request (Told reply) turn absorbs ∙ is

      knows_next : KnowsBehind setup seat next.role next.pass (told_entry seat given request reply ∷ h)
      knows_next = told_knows setup seat s given request reply h built_here ready turn whole knows next absorbs

      g : IsCallGiven setup seat given request reply h
      g = record {
        built = subst (λ (r : Role). IsBuiltKind r.kind) (sym given_role) built_here;
        stands = turn_stands s given (Call request) (own seat h) ready.rows ready.stands.told turn;
        queue = turns_queues s given (Call request) turn ready.stands.queue;
        ask = sym (gives_asked s given (Call request) turn);
        fresh = ap (λ (m : Memory). m.stale) (turn_memory s given (Call request) turn) ∙ calls_fresh s given request turn;
        history = whole;
        passes = λ kind from eg asks. watches_follow s given (Call request) kind from turn eg (ap Call asks);
      }

      given_ahead : IsAhead given.role given.pass key
      given_ahead = subst (λ r. IsAhead r given.pass key) (sym given_role) (by (turn_pass s given (Call request) turn))
        where
          by : PassAfter s given → IsAhead s.role given.pass key
          by (Kept same) = subst (λ p. IsAhead s.role p key) (sym same) ahead
          by (Renewed brought new) = subst (λ p. IsAhead s.role p key) (sym new) (λ place lt at. absurd (omega (arith, lt)))

      called : After setup seat next (told_entry seat given request reply ∷ h) key
      called = subst (λ y. After setup seat y (told_entry seat given request reply ∷ h) key) (sym absorbs) (by (stands_alike (world setup start) (world setup h) key o alike there))
        where
          by : Stands (world setup h) key → After setup seat (told_to given next.caches request reply) (told_entry seat given request reply ∷ h) key
          by (There p at) = after_call setup seat given request reply h key p g at still given_ahead next.caches

      then_ : After setup seat next (told_entry seat given request reply ∷ h) key → AreAlike (world setup start) (world setup (told_entry seat given request reply ∷ h))
          → (next.role ≡ role → AreAlike (world setup start) (world setup (told_entry seat given request reply ∷ h))
          → KnowsBehind setup seat next.role next.pass (told_entry seat given request reply ∷ h)
          → IsUntold setup seat (told_entry seat given request reply ∷ h) key → IsAhead next.role next.pass key
          → HasLasting setup (told_entry seat given request reply ∷ h) past)
          → HasLasting setup (told_entry seat given request reply ∷ h) past
      then_ (WaitsNow waiting) a rest = waiting_last next (told_entry seat given request reply ∷ h) (b - 1) more next_role a knows_next kept_on waiting
      then_ (IsStill u d) a rest = rest next_role a knows_next u d

      on : (next.role ≡ role → AreAlike (world setup start) (world setup (told_entry seat given request reply ∷ h))
          → KnowsBehind setup seat next.role next.pass (told_entry seat given request reply ∷ h) → IsUntold setup seat (told_entry seat given request reply ∷ h) key → IsAhead next.role next.pass key
          → HasLasting setup (told_entry seat given request reply ∷ h) past)
          → LastsOrAlike (world setup h) (effect setup (world setup h) given.role.kind request) → HasLasting setup h past
      on rest (inl lasts) =
          let grows = run_grows lets seat after past left true next _ _ more in
          lasting_here setup (told_entry seat given request reply) h past grows.longer.added grows.longer.are
          (subst (λ r. LastsBetween (world setup h) (world setup (told_entry seat given request reply ∷ h)) r) (sym whole.1) lasts)
      on rest (inr same) = lasting_later setup (told_entry seat given request reply) h past (then_ called (then_alike _ _ _ alike same) rest)
  untold_last s h b (IsHeld given next request some ready turn held absorbs more) is alike knows kept still ahead =
      untold_last next h (b - 1) more (still_role s given next (Call request) request Lost turn absorbs ∙ is) alike
      (lost_knows setup seat given next request h (turned_knows setup seat s given (Call request) h turn knows) absorbs) kept still
      (subst (λ r. IsAhead r next.pass key) (sym (still_role s given next (Call request) request Lost turn absorbs))
      (subst (λ p. IsAhead s.role p key) (sym (ap (λ (y : ActorState). y.pass) absorbs ∙ lost_pass given)) (by (turn_pass s given (Call request) turn))))
    where
      by : PassAfter s given → IsAhead s.role given.pass key
      by (Kept same) = subst (λ p. IsAhead s.role p key) (sym same) ahead
      by (Renewed brought new) = subst (λ p. IsAhead s.role p key) (sym new) (λ place lt at. absurd (omega (arith, lt)))
