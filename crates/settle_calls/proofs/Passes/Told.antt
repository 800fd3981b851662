-- Past the first pass, each call whose answer is told lowers what is still to come.
use Rattle.std.proofs.Common.{◌≡◌, ◌∙◌, ◌⊎◌, ℕ, ◌+◌, ◌*◌, ◌-◌, ◌≤◌, ◌<◌, List, [], ◌∷◌, length, Bool, true, false, Option, Some, None, inl, inr, refl, sym, ap, subst, arith, if◌then◌else◌}
use Rattle.std.specs.Prelude.{◌/◌, ◌==◌, ◌&&◌, ◌||◌, is_some, map, not}
use Rattle.std.proofs.lemmas.Bool.Decides.{nat_tests}
use Rattle.kube_objects.specs.declared.key.Key.{Key}
use Rattle.kube_parts.specs.declared.parts.Kind.{Kind}
use Rattle.kube_objects.specs.Keys.{key_of, rows_of, same_kind}
use Rattle.kube_objects.proofs.SameKeys.{same_kind-Decides}
use Rattle.call_types.specs.declared.entry.Entry.{Entry}
use Rattle.call_types.specs.declared.reply.Event.{Event}
use Rattle.call_types.specs.declared.reply.Reply.{Reply}
use Rattle.call_types.specs.declared.reply.Reply.TheVariants as replies
use Rattle.call_types.specs.declared.request.Request.{Request}
use Rattle.call_types.specs.declared.request.Request.TheVariants as requests
use Rattle.call_types.specs.declared.request.SeatKind.{SeatKind}
use Rattle.call_types.specs.declared.request.SeatKind.TheVariants as seats
use Rattle.call_types.specs.declared.setup.Setup.{Setup}
use Rattle.call_types.specs.Kinds.{reads_kind}
use Rattle.binder_model.specs.Reading.{follows}
use Rattle.binder_model.specs.Told.{own}
use Rattle.binder_model.specs.Watching.{most_events, told_events}
use Rattle.binder_model.specs.World.{base as base_of, world}
use Rattle.informer_cache.specs.All.{AllKnown}
use Rattle.informer_cache.specs.Cache.{keys_in}
use Rattle.model_laws.proofs.Histories.{rows_stand_in_order}
use Rattle.model_laws.proofs.Lists.{IsIn}
use Rattle.sync_queue.specs.Work.{AreOnce, Work, added}
use Rattle.worker_core.specs.declared.role.Role.{Role}
use Rattle.worker_core.specs.declared.task.Under.{Under}
use Rattle.worker_core.specs.declared.turn.Given.TheVariants as givens
use Rattle.worker_core.specs.declared.turn.Pass.{Pass}
use Rattle.worker_core.specs.Absorbs.{all_added, ended_work, given_told, is_passing, learned, pass_after, read_told, task_told, work_after}
use Rattle.worker_core.specs.Memories.{memory_after}
use Rattle.worker_core.specs.Roles.{kind_in_order, kinds_of}
use Rattle.worker_core.specs.States.{ActorState}
use Rattle.worker_core.specs.Tasks.{task_parks, under_after}
use Rattle.worker_core.specs.Turns.{passing}
use Rattle.attention_law.specs.Queues.{taken_keys}
use Rattle.attention_law.proofs.Queues.{added_taken}
use Rattle.settle_calls.specs.Tasks.Costs.{key_cost, keys_cost, work_cost}
use Rattle.settle_calls.specs.Events.Counts.{pending}
use Rattle.settle_calls.specs.Tasks.Tasks.{task_left, under_left}
use Rattle.settle_calls.proofs.Events.Points.{taken_once}
use Rattle.settle_calls.proofs.Tasks.Works.{added_cost, finished_cost, put_off_cost}
use Rattle.std.specs.Prelude.{filter, nat_lt}
use Rattle.std.proofs.lemmas.Bool.{and_parts}
use Rattle.std.proofs.lemmas.Option.{slice_get_within}
use Rattle.kube_objects.specs.Keys.{is_of_kind}
use Rattle.call_types.specs.declared.reply.Events.{Events as EventsData}
use Rattle.binder_model.specs.Watching.{events_after, is_later}
use Rattle.model_laws.proofs.Lists.{some_filter, some_reverse, some_take}
use Rattle.model_laws.proofs.Uids.{rises}
use Rattle.model_laws.proofs.Watched.{logs}
use Rattle.settle_slot.proofs.Told.Exact.{filter_passes}
use Rattle.worker_core.specs.Absorbs.{is_none_of, told_to}
use Rattle.actor_rounds.specs.Rounds.{told_entry}
use Rattle.settle_calls.proofs.Events.Calls.{Stays, gone_from, listed_from, unread_from, watched_from, world_moves}
use Rattle.settle_calls.proofs.Events.Events.{none_pending, told_so}
use Rattle.settle_calls.specs.Passes.Passes.{CallsPay}
use Rattle.settle_calls.proofs.Passes.Given.{FindsGone, GivenSo, GivesRead, GivesStart, GivesTask, IsTold, Lists, ReadCalled, Reads, given_so, read_called, start_called, task_called}
use Rattle.settle_calls.proofs.Events.Points.{call_pays}
use Rattle.settle_calls.proofs.Events.Rows.{listed_cost}
use Rattle.settle_calls.proofs.Events.Sums.{div_falls, div_less, mul_falls, mul_less, sum_falls}
use Rattle.settle_calls.proofs.Tasks.Tasks.{done_few}
use Rattle.settle_calls.specs.Events.Ahead.{Point, cost_at, from_of, kind_cost, kinds_cost, pass_cost}
use Rattle.settle_calls.specs.Tasks.Ends.{start_left}
use Rattle.settle_calls.specs.Events.Telling.{told}
use Rattle.settle_calls.specs.Passes.Passes.{KindsHaveReached, IsCallGiven, second_cost}

-- the answers

pub all_added_cost : (f : Key → ℕ) (ks : List Key) (w : Work) → AreOnce (taken_keys w) → work_cost f (all_added ks w) ≤ work_cost f w + keys_cost f ks
all_added_cost f [] w once = omega arith
all_added_cost f (k ∷ ks) w once =
    let a = added_cost f k w once in
    let b = all_added_cost f ks (added k w) (subst AreOnce (sym (added_taken k w)) once) in
    omega (arith, a, b)

pub ended_cost : (f : Key → ℕ) (u : Under) (reply : Reply) (w : Work) → work_cost f (work_after u reply w) ≤ work_cost f w
ended_cost f u reply w = by (is_some (under_after u reply)) (task_parks u.task reply)
  where
    by : (a b : Bool) → work_cost f (if a then w else ended_work b u.key w) ≤ work_cost f w
    by true b = omega arith
    by false true = put_off_cost f u.key w
    by false false = finished_cost f u.key w

-- the keys of events that cost little
told_cost : (f : Key → ℕ) (es : List Event) → ((y : Event) → IsIn y es → f (key_of y.object) ≤ 3) → keys_cost f (map (λ (y : Event). key_of y.object) es) ≤ 3 * length es
told_cost f [] each = omega arith
told_cost f (y ∷ ys) each = let a = each y (inl refl) in let b = told_cost f ys (λ z i. each z (inr i)) in omega (arith, a, b)

-- what was told came after the version
pub told_after : (kind : Kind) (from : ℕ) (log : List Event) (y : Event) → IsIn y (told kind from log) → IsIn y log × (from < y.version)
told_after kind from log y i =
    let r = some_take (λ z. z ≡ y) most_events (events_after kind from log) i in
    let f = some_reverse (λ z. z ≡ y) (filter (is_later kind from) log) r in
    let p = filter_passes (is_later kind from) y log f in
    let n = (and_parts (nat_lt from y.version) (is_of_kind kind y.object) p).0 in
    (some_filter (λ z. z ≡ y) (is_later kind from) log f, grind (arith, nat_tests, n))

pub within_five : (seat : SeatKind) → length (kinds_of seat) ≤ 5
within_five seats.User = omega arith
within_five seats.Binder = omega arith
within_five seats.Ops = omega arith
within_five seats.Scheduler = omega arith
within_five seats.ClaimProtect = omega arith
within_five seats.VolumeProtect = omega arith
within_five seats.Agent = omega arith

-- the pass after a watch that was answered

abbrev watched_cost : Pass → Bool → Bool → Bool → List Event → ℕ
watched_cost pass passes full event es = pass_cost (record { behind = if passes && not full then pass.behind + 1 else pass.behind; event = event || not (is_none_of es) })

pass_less : (role : Role) (pass : Pass) (kind : Kind) (from : ℕ) (events : EventsData) → kind_in_order role pass.behind ≡ Some kind
    → (((length events.events == most_events) ≡ true)
    × (pass_cost (pass_after pass (is_passing (kind_in_order role pass.behind) kind) (requests.Watch kind from) (replies.Events events)) ≤ pass_cost pass + 5))
    ⊎ (((length events.events == most_events) ≡ false)
    × (pass_cost (pass_after pass (is_passing (kind_in_order role pass.behind) kind) (requests.Watch kind from) (replies.Events events)) + 1 ≤ pass_cost pass + 5 * length events.events))
pass_less role pass kind from events at = by (length events.events == most_events) refl
  where
    passing_it : is_passing (kind_in_order role pass.behind) kind ≡ true
    passing_it = ap (λ k. is_passing k kind) at ∙ (same_kind-Decides kind kind).1 refl

    behind : pass.behind < 5
    behind = let a = slice_get_within (kinds_of role.kind) pass.behind kind at in let b = within_five role.kind in omega (arith, a, b)

    is : (full : Bool) → (length events.events == most_events) ≡ full
        → pass_cost (pass_after pass (is_passing (kind_in_order role pass.behind) kind) (requests.Watch kind from) (replies.Events events)) ≡ watched_cost pass true full pass.event events.events
    is full e = ap (λ p. watched_cost pass p (length events.events == most_events) pass.event events.events) passing_it ∙ ap (λ b. watched_cost pass true b pass.event events.events) e

    less : (event : Bool) (es : List Event) → watched_cost pass true false event es + 1 ≤ ((5 - pass.behind) + (if event then 5 else 0)) + 5 * length es
    less true es = omega (arith, behind)
    less false [] = omega (arith, behind)
    less false (y ∷ ys) = omega (arith, behind)

    more : (event : Bool) (es : List Event) → watched_cost pass true true event es ≤ ((5 - pass.behind) + (if event then 5 else 0)) + 5
    more true es = omega arith
    more false [] = omega arith
    more false (y ∷ ys) = omega arith

    by : (full : Bool) → (length events.events == most_events) ≡ full
        → (((length events.events == most_events) ≡ true)
        × (pass_cost (pass_after pass (is_passing (kind_in_order role pass.behind) kind) (requests.Watch kind from) (replies.Events events)) ≤ pass_cost pass + 5))
        ⊎ (((length events.events == most_events) ≡ false)
        × (pass_cost (pass_after pass (is_passing (kind_in_order role pass.behind) kind) (requests.Watch kind from) (replies.Events events)) + 1 ≤ pass_cost pass + 5 * length events.events))
    by true e = let a = is true e in let b = more pass.event events.events in inl (e, omega (arith, a, b))
    by false e = let a = is false e in let b = less pass.event events.events in inr (e, omega (arith, a, b))

-- a call that reads leaves the world, and so what the other kinds may cost
pub kind_still : (setup : Setup) (m high : ℕ) (e : Entry) (h : List Entry) (k : Kind) (x : Option ℕ)
    → Stays (world setup h) (world setup (e ∷ h)) e.request e.reply → kind_cost m high (world setup (e ∷ h)) k x ≡ kind_cost m high (world setup h) k x
kind_still setup m high e h k None stays = ap (λ n. (m + 1) + (m + 7) * ((high - n) / 513)) stays.version
kind_still setup m high e h k (Some from) stays = ap (λ l. 9 * pending k from l + (m + 7) * ((high - from) / 513)) stays.log

module _ (setup : Setup) (seat base m high : ℕ) (x : ActorState) (request : Request) (reply : Reply) (h : List Entry)
    (given : IsCallGiven setup seat x request reply h) (at : Point setup x.role.kind base m high h)
    (begins : base_of setup ≤ base) (reached : KindsHaveReached base seat x.role.kind h) (short : (world setup (told_entry seat x request reply ∷ h)).store.version ≤ high) where
  abbrev entry : Entry
  entry = told_entry seat x request reply

  abbrev cost : ActorState → List Entry → ℕ
  cost y es = second_cost setup seat x.role.kind m high y es

  pub task_pays : (caches : AllKnown) → x.given ≡ Some givens.Task → cost (told_to x caches request reply) (told_entry seat x request reply ∷ h) + 1 ≤ cost x h
  task_pays caches eg =
      let t = task_called setup seat x request reply h given eg in
      let is : told_to x caches request reply ≡ task_told (learned x caches request reply) reply (Some t.under) =
      ap (given_told (learned x caches request reply) request reply) eg ∙ ap (task_told (learned x caches request reply) reply) t.there in
      let pays = call_pays setup x.role.kind base m high
      (told_entry seat x request reply) h at short t.light seat refl refl t.unread x.work given.queue.once (done_few request reply)
      (world_moves setup (told_entry seat x request reply) h given.history.1) in
      let goes = t.goes in
      let start = t.start in
      let work = ended_cost (cost_at x.role.kind (world setup (told_entry seat x request reply ∷ h))) t.under reply x.work in
      let under : under_left x.under ≡ task_left t.under.task = ap under_left t.there in
      subst (λ y. cost y (told_entry seat x request reply ∷ h) + 1 ≤ cost x h) (sym is) (omega (arith, pays, goes, start, work, under))

  pub start_pays : (caches : AllKnown) → x.given ≡ Some givens.Start → cost (told_to x caches request reply) (told_entry seat x request reply ∷ h) + 1 ≤ cost x h
  start_pays caches eg =
      let t = start_called setup seat x request reply h given eg in
      let is : told_to x caches request reply ≡ learned x caches request reply = ap (given_told (learned x caches request reply) request reply) eg in
      let pays = call_pays setup x.role.kind base m high
      (told_entry seat x request reply) h at short t.light seat refl refl t.unread x.work given.queue.once (done_few request reply)
      (world_moves setup (told_entry seat x request reply) h given.history.1) in
      let less = t.less in
      subst (λ y. cost y (told_entry seat x request reply ∷ h) + 1 ≤ cost x h) (sym is) (omega (arith, pays, less))

  -- a list, or a watch
  read_sum : (kind : Kind) (n : ℕ) → Stays (world setup h) (world setup (told_entry seat x request reply ∷ h)) request reply
      → IsIn kind (kinds_of x.role.kind) → ((k : Kind) → same_kind kind k ≡ false → reads_kind k request ≡ false)
      → kind_cost m high (world setup h) kind (from_of seat (told_entry seat x request reply ∷ h) kind) + n ≤ kind_cost m high (world setup h) kind (from_of seat h kind)
      → kinds_cost setup seat x.role.kind m high (told_entry seat x request reply ∷ h) + n ≤ kinds_cost setup seat x.role.kind m high h
  read_sum kind n stays i unread own = sum_falls (λ k. kind_cost m high (world setup h) k (from_of seat h k)) (λ k. kind_cost m high
      (world setup (told_entry seat x request reply ∷ h)) k (from_of seat (told_entry seat x request reply ∷ h) k)) n kind (kinds_of x.role.kind) others mine i
    where
      others : (k : Kind) → same_kind kind k ≡ false
          → kind_cost m high (world setup (told_entry seat x request reply ∷ h)) k (from_of seat (told_entry seat x request reply ∷ h) k) ≤ kind_cost m high (world setup h) k (from_of seat h k)
      others k other =
          let a = kind_still setup m high (told_entry seat x request reply) h k (from_of seat (told_entry seat x request reply ∷ h) k) stays in
          let b = ap (kind_cost m high (world setup h) k) (unread_from seat (told_entry seat x request reply) h refl refl k (unread k other)) in
          omega (arith, a, b)

      mine : kind_cost m high (world setup (told_entry seat x request reply ∷ h)) kind
          (from_of seat (told_entry seat x request reply ∷ h) kind) + n ≤ kind_cost m high (world setup h) kind (from_of seat h kind)
      mine = let a = kind_still setup m high (told_entry seat x request reply) h kind (from_of seat (told_entry seat x request reply ∷ h) kind) stays in omega (arith, a, own)

  pub read_pays : (caches : AllKnown) (kind : Kind) → x.given ≡ Some (givens.Read kind) → cost (told_to x caches request reply) (told_entry seat x request reply ∷ h) + 1 ≤ cost x h
  read_pays caches kind eg = subst (λ y. cost y (told_entry seat x request reply ∷ h) + 1 ≤ cost x h) (sym is) (by r.reads)
    where
      is : told_to x caches request reply ≡ read_told (learned x caches request reply) kind request reply
      is = ap (given_told (learned x caches request reply) request reply) eg

      r : ReadCalled setup seat x kind request reply h
      r = read_called setup seat x request reply h given kind eg

      follows_it : follows x.role.kind kind ≡ true
      follows_it = (read_called setup seat x request reply h given kind eg).follows_it

      stays : Stays (world setup h) (world setup (told_entry seat x request reply ∷ h)) request reply
      stays = (read_called setup seat x request reply h given kind eg).stays

      start : start_left x.role (memory_after x.role request reply x.memory) ≤ start_left x.role x.memory
      start = (read_called setup seat x request reply h given kind eg).start

      followed : IsIn kind (kinds_of x.role.kind)
      followed = (read_called setup seat x request reply h given kind eg).followed

      version : 16 * (high - (world setup (told_entry seat x request reply ∷ h)).store.version) ≡ 16 * (high - (world setup h).store.version)
      version = ap (λ n. 16 * (high - n)) (read_called setup seat x request reply h given kind eg).stays.version

      -- the keys that were told
      keys : keys_cost (cost_at x.role.kind (world setup h)) (keys_in reply) ≡ keys_cost (cost_at x.role.kind (world setup (told_entry seat x request reply ∷ h))) (keys_in reply)
      keys = ap (λ rows. keys_cost (key_cost x.role.kind rows) (keys_in reply)) (sym (read_called setup seat x request reply h given kind eg).stays.rows)

      waiting : work_cost (cost_at x.role.kind (world setup (told_entry seat x request reply ∷ h))) x.work ≡ work_cost (cost_at x.role.kind (world setup h)) x.work
      waiting = ap (λ rows. work_cost (key_cost x.role.kind rows) x.work) (read_called setup seat x request reply h given kind eg).stays.rows

      added_keys : work_cost (cost_at x.role.kind (world setup (told_entry seat x request reply ∷ h))) (all_added (keys_in reply) x.work) ≤ work_cost
          (cost_at x.role.kind (world setup (told_entry seat x request reply ∷ h))) x.work + keys_cost (cost_at x.role.kind (world setup (told_entry seat x request reply ∷ h))) (keys_in reply)
      added_keys = all_added_cost (cost_at x.role.kind (world setup (told_entry seat x request reply ∷ h))) (keys_in reply) x.work (taken_once x.work given.queue.once)

      -- so much of the kind, and of the pass, pays for the keys
      paid : (n a b : ℕ) → kinds_cost setup seat x.role.kind m high (told_entry seat x request reply ∷ h) + n ≤ kinds_cost setup seat x.role.kind m high h
          → keys_cost (cost_at x.role.kind (world setup h)) (keys_in reply) ≤ a
          → pass_cost (pass_after x.pass (is_passing (passing x) kind) request reply) + 1 ≤ pass_cost x.pass + b → a + b ≤ n
          → cost (read_told (learned x caches request reply) kind request reply) (told_entry seat x request reply ∷ h) + 1 ≤ cost x h
      paid n a b sum few pass enough =
          let s = start in let v = version in let k = keys in let w = waiting in let more = added_keys in
          omega (arith, s, v, k, w, more, sum, few, pass, enough)

      unread_list : (k : Kind) → request ≡ requests.List kind None → same_kind kind k ≡ false → reads_kind k request ≡ false
      unread_list k e other = ap (reads_kind k) e ∙ other

      unread_watch : (k : Kind) (from : ℕ) → request ≡ requests.Watch kind from → same_kind kind k ≡ false → reads_kind k request ≡ false
      unread_watch k from e other = ap (reads_kind k) e ∙ other

      by : Reads setup seat x kind request reply h → cost (read_told (learned x caches request reply) kind request reply) (told_entry seat x request reply ∷ h) + 1 ≤ cost x h
      by (Lists none asks answered) =
          let now = listed_from seat (told_entry seat x request reply) h refl refl kind (rows_of kind (world setup h).store.rows) (world setup h).store.version asks answered in
          let pend = none_pending kind (world setup h).store.version (world setup h).store.version (world setup h).log (omega arith) (logs setup h 0) in
          let before : kind_cost m high (world setup h) kind (from_of seat h kind) ≡ (m + 1) + (m + 7) *
          ((high - (world setup h).store.version) / 513) = ap (kind_cost m high (world setup h) kind) none in
          let after : kind_cost m high (world setup h) kind (from_of seat (told_entry seat x request reply ∷ h) kind) ≡ 9 * pending kind
          (world setup h).store.version (world setup h).log + (m + 7) * ((high - (world setup h).store.version) / 513) = ap (kind_cost m high (world setup h) kind) now in
          let sum = read_sum kind (m + 1) stays followed (λ k other. unread_list k asks other) (omega (arith, pend, before, after)) in
          let all = listed_cost x.role.kind kind (world setup h).store.rows (rows_stand_in_order setup h) in
          let heavy = at.heavy in
          let few : keys_cost (cost_at x.role.kind (world setup h)) (keys_in reply) ≡ keys_cost (cost_at x.role.kind (world setup h))
          (map key_of (rows_of kind (world setup h).store.rows)) = ap (λ a. keys_cost (cost_at x.role.kind (world setup h)) (keys_in a)) answered in
          let pass : pass_cost (pass_after x.pass (is_passing (passing x) kind) request reply) ≡ pass_cost x.pass =
          ap (λ q. pass_cost (pass_after x.pass (is_passing (passing x) kind) q reply)) asks in
          paid (m + 1) m 1 sum (omega (arith, all, heavy, few)) (omega (arith, pass)) (omega arith)
      by (FindsGone from gone some passes asks old answered) =
          let now = gone_from seat (told_entry seat x request reply) h refl refl kind from gone asks answered in
          let low = reached kind from follows_it some in
          let far : (high - (world setup h).store.version) + 513 ≤ high - from = (let up = rises setup (told_entry seat x request reply ∷ []) h in omega (arith, old, low, begins, short, up)) in
          let falls = mul_falls (m + 7) ((high - (world setup h).store.version) / 513) ((high - from) / 513) (div_falls (high - (world setup h).store.version) (high - from) far) in
          let before : kind_cost m high (world setup h) kind (from_of seat h kind) ≡ 9 * pending kind from (world setup h).log + (m + 7) *
          ((high - from) / 513) = ap (kind_cost m high (world setup h) kind) some in
          let after : kind_cost m high (world setup h) kind (from_of seat (told_entry seat x request reply ∷ h) kind) ≡ (m + 1) + (m + 7) *
          ((high - (world setup h).store.version) / 513) = ap (kind_cost m high (world setup h) kind) now in
          let sum = read_sum kind 6 stays followed (λ k other. unread_watch k from asks other) (omega (arith, falls, before, after)) in
          let few : keys_cost (cost_at x.role.kind (world setup h)) (keys_in reply) ≡ 0 = ap (λ a. keys_cost (cost_at x.role.kind (world setup h)) (keys_in a)) answered in
          let pass : pass_cost (pass_after x.pass (is_passing (passing x) kind) request reply) ≡ (5 - x.pass.behind) + 5 =
          ap (λ q. pass_cost (pass_after x.pass (is_passing (passing x) kind) q reply)) asks
          ∙ ap (λ a. pass_cost (pass_after x.pass (is_passing (passing x) kind) (requests.Watch kind from) a)) answered in
          paid 6 0 6 sum (omega (arith, few)) (omega (arith, pass)) (omega arith)
      by (IsTold from some passes asks low within answered) = told_by (length (told kind from (world setup h).log) == most_events) refl
        where
          j : ℕ
          j = length (told kind from (world setup h).log)

          told_by : (full : Bool) → (length (told kind from (world setup h).log) == most_events) ≡ full
              → cost (read_told (learned x caches request reply) kind request reply) (told_entry seat x request reply ∷ h) + 1 ≤ cost x h
          told_by full e =
              let so = told_so setup h kind from full low e in
              let now = watched_from seat (told_entry seat x request reply) h refl refl kind from from (world setup h).store.version (world setup h).log asks answered some in
              let up : from ≤ (told_events kind from (world setup h).store.version (world setup h).log).upto = not_below full so.reached so.whole in
              let less = mul_less (m + 7) ((high - (told_events kind from (world setup h).store.version (world setup h).log).upto) / 513)
              ((high - from) / 513) (div_less (high - (told_events kind from (world setup h).store.version (world setup h).log).upto) (high - from) (omega (arith, up))) in
              let before : kind_cost m high (world setup h) kind (from_of seat h kind) ≡ 9 * pending kind from (world setup h).log + (m + 7) *
              ((high - from) / 513) = ap (kind_cost m high (world setup h) kind) some in
              let after : kind_cost m high (world setup h) kind (from_of seat (told_entry seat x request reply ∷ h) kind) ≡ 9 * pending kind
              (told_events kind from (world setup h).store.version (world setup h).log).upto (world setup h).log + (m + 7) *
              ((high - (told_events kind from (world setup h).store.version (world setup h).log).upto) / 513) = ap (kind_cost m high (world setup h) kind) now in
              let fewer = so.fewer in
              let sum = read_sum kind (9 * length (told kind from (world setup h).log)) stays followed (λ k other. unread_watch k from asks other) (omega (arith, less, before, after, fewer)) in
              let light = told_cost (cost_at x.role.kind (world setup h)) (told kind from (world setup h).log)
              (λ y i. at.light y (told_after kind from (world setup h).log y i).0 (after_base (told_after kind from (world setup h).log y i).1)) in
              let few : keys_cost (cost_at x.role.kind (world setup h)) (keys_in reply) ≡ keys_cost (cost_at x.role.kind (world setup h))
              (map (λ (y : Event). key_of y.object) (told kind from (world setup h).log)) = ap (λ a. keys_cost (cost_at x.role.kind (world setup h)) (keys_in a)) answered in
              let pass_is : pass_cost (pass_after x.pass (is_passing (passing x) kind) request reply) ≡ pass_cost
              (pass_after x.pass (is_passing (passing x) kind) (requests.Watch kind from) (replies.Events (told_events kind from (world setup h).store.version (world setup h).log))) =
              ap (λ q. pass_cost (pass_after x.pass (is_passing (passing x) kind) q reply)) asks
              ∙ ap (λ a. pass_cost (pass_after x.pass (is_passing (passing x) kind) (requests.Watch kind from) a)) answered in
              elim (pass_less x.role x.pass kind from (told_events kind from (world setup h).store.version (world setup h).log) passes) [
                | inl p ↦
                    let n : length (told kind from (world setup h).log) ≡ most_events = counted p.0 in
                    let less_pass = p.1 in
                    paid (9 * length (told kind from (world setup h).log)) (3 * length (told kind from (world setup h).log)) 6 sum
                    (omega (arith, light, few)) (omega (arith, pass_is, less_pass)) (omega (arith, n))
                | inr p ↦
                    let less_pass = p.1 in
                    paid (9 * length (told kind from (world setup h).log)) (3 * length (told kind from (world setup h).log))
                    (5 * length (told kind from (world setup h).log)) sum (omega (arith, light, few)) (omega (arith, pass_is, less_pass)) (omega arith)
              ]
            where
              counted : (length (told kind from (world setup h).log) == most_events) ≡ true → length (told kind from (world setup h).log) ≡ most_events
              counted is_full = grind (arith, nat_tests, is_full)

              after_base : {n : ℕ} → from < n → base < n
              after_base lt = let r = reached kind from follows_it some in omega (arith, lt, r)

              not_below : (b : Bool) → (b ≡ true → from + most_events ≤
                  (told_events kind from (world setup h).store.version (world setup h).log).upto)
                  → (b ≡ false → (told_events kind from (world setup h).store.version (world setup h).log).upto ≡ (world setup h).store.version)
                  → from ≤ (told_events kind from (world setup h).store.version (world setup h).log).upto
              not_below true reaches whole = let r = reaches refl in omega (arith, r)
              not_below false reaches whole = let r = whole refl in omega (arith, r, low)

pub calls_pay : CallsPay
calls_pay setup seat base m high x request reply h caches given at begins reached short = by (given_so x request given.ask)
  where
    by : GivenSo x → second_cost setup seat x.role.kind m high (told_to x caches request reply) (told_entry seat x request reply ∷ h) + 1 ≤ second_cost setup seat x.role.kind m high x h
    by (GivesTask e) = task_pays setup seat base m high x request reply h given at begins reached short caches e
    by (GivesStart e) = start_pays setup seat base m high x request reply h given at begins reached short caches e
    by (GivesRead kind e) = read_pays setup seat base m high x request reply h given at begins reached short caches kind e
