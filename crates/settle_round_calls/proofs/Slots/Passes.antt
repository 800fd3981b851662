-- Past the first pass, each call whose answer is told lowers what is still to come.
use Rattle.std.proofs.Common.{◌≡◌, ◌∙◌, ◌⊎◌, ℕ, ◌+◌, ◌*◌, ◌-◌, ◌≤◌, ◌<◌, List, [], ◌∷◌, length, Bool, true, false, Option, Some, None, inl, inr, refl, sym, ap, subst, arith, if◌then◌else◌}
use Rattle.std.specs.Prelude.{◌==◌, ◌&&◌, ◌||◌, map, nat_lt, not}
use Rattle.std.proofs.lemmas.Bool.Decides.{nat_tests}
use Rattle.std.proofs.Math.Nat.{mul-add}
use Rattle.std.proofs.lemmas.Nat.{mul-le}
use Rattle.kube_objects.specs.declared.key.Key.{Key}
use Rattle.kube_parts.specs.declared.parts.Kind.{Kind}
use Rattle.kube_objects.specs.declared.objects.Object.{Object}
use Rattle.kube_objects.specs.Keys.{AreRows, key_of, rows_of, same_kind}
use Rattle.kube_objects.proofs.SameKeys.{same_kind-Decides}
use Rattle.call_types.specs.declared.entry.Entry.{Entry}
use Rattle.call_types.specs.declared.reply.Event.{Event}
use Rattle.call_types.specs.declared.reply.Reply.{Reply}
use Rattle.call_types.specs.declared.reply.Reply.TheVariants as replies
use Rattle.call_types.specs.declared.request.Request.{Request}
use Rattle.call_types.specs.declared.request.Request.TheVariants as requests
use Rattle.call_types.specs.declared.request.SeatKind.{SeatKind}
use Rattle.call_types.specs.declared.setup.Setup.{Setup}
use Rattle.call_types.specs.Kinds.{reads_kind}
use Rattle.binder_model.specs.Reading.{follows}
use Rattle.binder_model.specs.Told.{own}
use Rattle.binder_model.specs.Watching.{most_events, told_events}
use Rattle.binder_model.specs.World.{base as base_of, world}
use Rattle.informer_cache.specs.All.{AllKnown}
use Rattle.informer_cache.specs.Cache.{keys_in}
use Rattle.model_laws.proofs.Histories.{rows_stand_in_order}
use Rattle.model_laws.proofs.Lists.{IsIn, none_some}
use Rattle.worker_core.specs.declared.role.Role.{Role}
use Rattle.worker_core.specs.declared.turn.Given.TheVariants as givens
use Rattle.worker_core.specs.declared.turn.Pass.{Pass}
use Rattle.worker_core.specs.Absorbs.{all_added, given_told, is_passing, learned, pass_after, read_told, task_told}
use Rattle.worker_core.specs.Memories.{memory_after}
use Rattle.worker_core.specs.Roles.{kind_in_order, kinds_of}
use Rattle.worker_core.specs.States.{ActorState}
use Rattle.worker_core.specs.Turns.{passing}
use Rattle.settle_calls.specs.Tasks.Costs.{keys_cost, work_cost}
use Rattle.settle_calls.specs.Events.Counts.{pending}
use Rattle.settle_calls.specs.Tasks.Tasks.{task_left, under_left}
use Rattle.settle_calls.proofs.Events.Points.{taken_once}
use Rattle.settle_calls.proofs.Tasks.Works.{work_less}
use Rattle.std.proofs.lemmas.Option.{slice_get_within}
use Rattle.call_types.specs.declared.reply.Events.{Events as EventsData}
use Rattle.model_laws.proofs.Watched.{logs}
use Rattle.worker_core.specs.Absorbs.{is_none_of, told_to}
use Rattle.actor_rounds.specs.Rounds.{told_entry}
use Rattle.settle_calls.proofs.Events.Calls.{Stays, Wrote, gone_from, listed_from, unread_from, watched_from, world_moves}
use Rattle.settle_calls.proofs.Events.Events.{none_pending, told_so}
use Rattle.settle_calls.proofs.Passes.Told.{all_added_cost, ended_cost, told_after}
use Rattle.settle_calls.proofs.Passes.Given.{FindsGone, IsTold, Lists, ReadCalled, Reads, read_called, start_called, task_called}
use Rattle.settle_calls.proofs.Events.Sums.{sum_falls, sum_less}
use Rattle.settle_calls.proofs.Tasks.Tasks.{done_few}
use Rattle.settle_calls.specs.Events.Ahead.{Point, from_of, sum_over}
use Rattle.settle_calls.specs.Tasks.Ends.{done_by, start_left}
use Rattle.settle_calls.specs.Events.Telling.{told}
use Rattle.settle_calls.specs.Passes.Passes.{KindsHaveReached, IsCallGiven}
use Rattle.settle_write_counts.proofs.Rounds.Sums.{one_more}
use Rattle.settle_round_calls.proofs.Slots.Calls.{AtKeys, IsLess, call_pays, few_on, kind_left, kinds_left, low_on, pass_left, rest_left, slot_left, told_cost_or}
use Rattle.settle_round_calls.proofs.Slots.KindCosts.{listed_few}
use Rattle.settle_round_calls.proofs.Slots.RoundCosts.{AreKept, cost_in, cost_light, event_calls, key_calls, most}

-- the answers

-- the keys of events that cost little
told_cost : (f : Key → ℕ) (n : ℕ) (es : List Event) → ((y : Event) → IsIn y es → f (key_of y.object) ≤ n) → keys_cost f (map (λ (y : Event). key_of y.object) es) ≤ length es * n
told_cost f n [] each = omega arith
told_cost f n (y ∷ ys) each = let a = each y (inl refl) in let b = told_cost f n ys (λ z i. each z (inr i)) in let more = one_more (length ys) n in omega (arith, a, b, more)

-- the pass after a watch that was answered

abbrev watched_cost : SeatKind → Pass → Bool → Bool → Bool → List Event → ℕ
watched_cost kind pass passes full event es = pass_left kind (record { behind = if passes && not full then pass.behind + 1 else pass.behind; event = event || not (is_none_of es) })

pub pass_less : (role : Role) (pass : Pass) (kind : Kind) (from : ℕ) (events : EventsData) → kind_in_order role pass.behind ≡ Some kind
    → (((length events.events == most_events) ≡ true)
    × (pass_left role.kind (pass_after pass (is_passing (kind_in_order role pass.behind) kind) (requests.Watch kind from)
    (replies.Events events)) ≤ pass_left role.kind pass + length (kinds_of role.kind)))
    ⊎ (((length events.events == most_events) ≡ false)
    × (pass_left role.kind (pass_after pass (is_passing (kind_in_order role pass.behind) kind) (requests.Watch kind from)
    (replies.Events events)) + 1 ≤ pass_left role.kind pass + length events.events * length (kinds_of role.kind)))
pass_less role pass kind from events at = by (length events.events == most_events) refl
  where
    passing_it : is_passing (kind_in_order role pass.behind) kind ≡ true
    passing_it = ap (λ k. is_passing k kind) at ∙ (same_kind-Decides kind kind).1 refl

    behind : pass.behind < length (kinds_of role.kind)
    behind = slice_get_within (kinds_of role.kind) pass.behind kind at

    is : (full : Bool) → (length events.events == most_events) ≡ full
        → pass_left role.kind (pass_after pass (is_passing (kind_in_order role pass.behind) kind) (requests.Watch kind from) (replies.Events events))
        ≡ watched_cost role.kind pass true full pass.event events.events
    is full e = ap (λ p. watched_cost role.kind pass p (length events.events == most_events) pass.event events.events) passing_it
        ∙ ap (λ b. watched_cost role.kind pass true b pass.event events.events) e

    less : (event : Bool) (es : List Event)
        → watched_cost role.kind pass true false event es + 1 ≤
        ((length (kinds_of role.kind) - pass.behind) + (if event then length (kinds_of role.kind) else 0)) + length es * length (kinds_of role.kind)
    less true es = omega (arith, behind)
    less false [] = omega (arith, behind)
    less false (y ∷ ys) = let more = one_more (length ys) (length (kinds_of role.kind)) in omega (arith, behind, more)

    more : (event : Bool) (es : List Event)
        → watched_cost role.kind pass true true event es ≤ ((length (kinds_of role.kind) - pass.behind) + (if event then length (kinds_of role.kind) else 0)) + length (kinds_of role.kind)
    more true es = omega arith
    more false [] = omega arith
    more false (y ∷ ys) = omega arith

    by : (full : Bool) → (length events.events == most_events) ≡ full
        → (((length events.events == most_events) ≡ true)
        × (pass_left role.kind (pass_after pass (is_passing (kind_in_order role pass.behind) kind) (requests.Watch kind from)
        (replies.Events events)) ≤ pass_left role.kind pass + length (kinds_of role.kind)))
        ⊎ (((length events.events == most_events) ≡ false)
        × (pass_left role.kind (pass_after pass (is_passing (kind_in_order role pass.behind) kind) (requests.Watch kind from)
        (replies.Events events)) + 1 ≤ pass_left role.kind pass + length events.events * length (kinds_of role.kind)))
    by true e = let a = is true e in let b = more pass.event events.events in inl (e, omega (arith, a, b))
    by false e = let a = is false e in let b = less pass.event events.events in inr (e, omega (arith, a, b))

-- a call that reads leaves the world, and so what the other kinds may cost
kind_still : (setup : Setup) (kind : SeatKind) (keys : ℕ) (e : Entry) (h : List Entry) (k : Kind) (x : Option ℕ)
    → Stays (world setup h) (world setup (e ∷ h)) e.request e.reply → kind_left kind keys (world setup (e ∷ h)) k x ≡ kind_left kind keys (world setup h) k x
kind_still setup kind keys e h k None stays = refl
kind_still setup kind keys e h k (Some from) stays =
    ap (λ n. told_cost_or kind (nat_lt (from + 512) n) keys (pending k from (world setup (e ∷ h)).log)) stays.version
    ∙ ap (λ l. told_cost_or kind (nat_lt (from + 512) (world setup h).store.version) keys (pending k from l)) stays.log

module _ (setup : Setup) (first : List Object) (seat base m high : ℕ) (x : ActorState) (request : Request) (reply : Reply) (h : List Entry)
    (given : IsCallGiven setup seat x request reply h) (at : Point setup x.role.kind base m high h)
    (begins : base_of setup ≤ base) (reached : KindsHaveReached base seat x.role.kind h)
    (short : (world setup (told_entry seat x request reply ∷ h)).store.version ≤ high) (order : AreRows first) (so : AreKept x.role.kind first (world setup h).store.rows)
    (falls : (key : Key) → cost_in x.role.kind first (world setup (told_entry seat x request reply ∷ h)).store.rows key ≤ cost_in x.role.kind first (world setup h).store.rows key) where
  moves : Stays (world setup h) (world setup (told_entry seat x request reply ∷ h)) request reply ⊎ Wrote (world setup h) (world setup (told_entry seat x request reply ∷ h)) reply
  moves = world_moves setup (told_entry seat x request reply) h given.history.1

  -- ---- while keys are decided

  module _ (read : ℕ) (over : passing x ≡ None) (kinds : (kind : Kind) → IsIn kind (kinds_of x.role.kind) → from_of seat h kind ≡ Some read) (low : read ≤ (world setup h).store.version)
      (few : sum_over (λ k. pending k read (world setup h).log) (kinds_of x.role.kind) ≤ (world setup h).store.version - read) where
    unread_kinds : ((kind : Kind) → reads_kind kind request ≡ false) → (kind : Kind) → IsIn kind (kinds_of x.role.kind) → from_of seat (told_entry seat x request reply ∷ h) kind ≡ Some read
    unread_kinds unread kind i = unread_from seat (told_entry seat x request reply) h refl refl kind (unread kind) ∙ kinds kind i

    pays : 8 * (high - (world setup (told_entry seat x request reply ∷ h)).store.version) + work_cost
        (cost_in x.role.kind first (world setup (told_entry seat x request reply ∷ h)).store.rows) x.work + 7 *
        ((world setup (told_entry seat x request reply ∷ h)).store.version - read) + done_by request reply
        ≤ 8 * (high - (world setup h).store.version) + work_cost (cost_in x.role.kind first (world setup h).store.rows) x.work + 7 * ((world setup h).store.version - read)
    pays = call_pays setup first x.role.kind high read (told_entry seat x request reply) h short low falls x.work (done_few request reply) moves

    low_after : read ≤ (world setup (told_entry seat x request reply ∷ h)).store.version
    low_after = low_on setup x.role.kind read (told_entry seat x request reply) h low moves

    few_after : sum_over (λ k. pending k read (world setup (told_entry seat x request reply ∷ h)).log) (kinds_of x.role.kind) ≤ (world setup (told_entry seat x request reply ∷ h)).store.version - read
    few_after = few_on setup x.role.kind read (told_entry seat x request reply) h low moves few

    pub task_pays : (caches : AllKnown) → x.given ≡ Some givens.Task
        → IsLess setup first seat high (told_to x caches request reply) (told_entry seat x request reply ∷ h) 1 (slot_left setup first seat high x h (AtKeys read over kinds low few))
    task_pays caches eg =
        let t = task_called setup seat x request reply h given eg in
        let is : told_to x caches request reply ≡ task_told (learned x caches request reply) reply (Some t.under) =
        ap (given_told (learned x caches request reply) request reply) eg ∙ ap (task_told (learned x caches request reply) reply) t.there in
        let less = pays in
        let goes = t.goes in
        let start = t.start in
        let work = ended_cost (cost_in x.role.kind first (world setup (told_entry seat x request reply ∷ h)).store.rows) t.under reply x.work in
        let under : under_left x.under ≡ task_left t.under.task = ap under_left t.there in
        subst (λ y. IsLess setup first seat high y (told_entry seat x request reply ∷ h) 1 (slot_left setup first seat high x h (AtKeys read over kinds low few))) (sym is)
        (record { stage = AtKeys read over (unread_kinds t.unread) low_after few_after; less = omega (arith, less, goes, start, work, under) })

    pub start_pays : (caches : AllKnown) → x.given ≡ Some givens.Start
        → IsLess setup first seat high (told_to x caches request reply) (told_entry seat x request reply ∷ h) 1 (slot_left setup first seat high x h (AtKeys read over kinds low few))
    start_pays caches eg =
        let t = start_called setup seat x request reply h given eg in
        let is : told_to x caches request reply ≡ learned x caches request reply = ap (given_told (learned x caches request reply) request reply) eg in
        let less = pays in
        let fewer = t.less in
        subst (λ y. IsLess setup first seat high y (told_entry seat x request reply ∷ h) 1 (slot_left setup first seat high x h (AtKeys read over kinds low few))) (sym is)
        (record { stage = AtKeys read over (unread_kinds t.unread) low_after few_after; less = omega (arith, less, fewer) })

    -- no kind is read there
    pub none_read : (kind : Kind) → x.given ≡ Some (givens.Read kind) → ⊥
    none_read kind eg = by (read_called setup seat x request reply h given kind eg).reads
      where
        by : Reads setup seat x kind request reply h → ⊥
        by (Lists none asks answered) = none_some (sym none ∙ kinds kind (read_called setup seat x request reply h given kind eg).followed)
        by (FindsGone from gone some passes asks old answered) = none_some (sym over ∙ passes)
        by (IsTold from some passes asks low_ within answered) = none_some (sym over ∙ passes)

  -- ---- in a pass

  -- what is under way, the kinds and the pass
  abbrev cost : ActorState → List Entry → ℕ
  cost y es = rest_left first x.role.kind (world setup es) y + (kinds_left setup first seat x.role.kind es + pass_left x.role.kind y.pass)

  pub start_falls : (caches : AllKnown) → x.given ≡ Some givens.Start
      → Stays (world setup h) (world setup (told_entry seat x request reply ∷ h)) request reply → cost (told_to x caches request reply) (told_entry seat x request reply ∷ h) + 1 ≤ cost x h
  start_falls caches eg stays =
      let t = start_called setup seat x request reply h given eg in
      let is : told_to x caches request reply ≡ learned x caches request reply = ap (given_told (learned x caches request reply) request reply) eg in
      let work = work_less (cost_in x.role.kind first (world setup h).store.rows) (cost_in x.role.kind first (world setup (told_entry seat x request reply ∷ h)).store.rows) x.work falls in
      let kinds = sum_less (λ k. kind_left x.role.kind (most x.role.kind first k) (world setup h) k (from_of seat h k))
      (λ k. kind_left x.role.kind (most x.role.kind first k) (world setup (told_entry seat x request reply ∷ h)) k
      (from_of seat (told_entry seat x request reply ∷ h) k)) (kinds_of x.role.kind) (λ k. each k (t.unread k)) in
      let less = t.less in
      subst (λ y. cost y (told_entry seat x request reply ∷ h) + 1 ≤ cost x h) (sym is) (omega (arith, work, kinds, less))
    where
      each : (k : Kind) → reads_kind k request ≡ false
          → kind_left x.role.kind (most x.role.kind first k) (world setup (told_entry seat x request reply ∷ h)) k
          (from_of seat (told_entry seat x request reply ∷ h) k) ≤ kind_left x.role.kind (most x.role.kind first k) (world setup h) k (from_of seat h k)
      each k unread =
          let a = kind_still setup x.role.kind (most x.role.kind first k) (told_entry seat x request reply) h k (from_of seat (told_entry seat x request reply ∷ h) k) stays in
          let b = ap (kind_left x.role.kind (most x.role.kind first k) (world setup h) k) (unread_from seat (told_entry seat x request reply) h refl refl k unread) in
          omega (arith, a, b)

  -- a list, or a watch
  read_sum : (kind : Kind) (n : ℕ) → Stays (world setup h) (world setup (told_entry seat x request reply ∷ h)) request reply
      → IsIn kind (kinds_of x.role.kind) → ((k : Kind) → same_kind kind k ≡ false → reads_kind k request ≡ false)
      → kind_left x.role.kind (most x.role.kind first kind) (world setup h) kind
      (from_of seat (told_entry seat x request reply ∷ h) kind) + n ≤ kind_left x.role.kind (most x.role.kind first kind) (world setup h) kind (from_of seat h kind)
      → kinds_left setup first seat x.role.kind (told_entry seat x request reply ∷ h) + n ≤ kinds_left setup first seat x.role.kind h
  read_sum kind n stays i unread own = sum_falls (λ k. kind_left x.role.kind (most x.role.kind first k) (world setup h) k (from_of seat h k)) (λ k.
      kind_left x.role.kind (most x.role.kind first k) (world setup (told_entry seat x request reply ∷ h)) k
      (from_of seat (told_entry seat x request reply ∷ h) k)) n kind (kinds_of x.role.kind) others mine i
    where
      others : (k : Kind) → same_kind kind k ≡ false
          → kind_left x.role.kind (most x.role.kind first k) (world setup (told_entry seat x request reply ∷ h)) k
          (from_of seat (told_entry seat x request reply ∷ h) k) ≤ kind_left x.role.kind (most x.role.kind first k) (world setup h) k (from_of seat h k)
      others k other =
          let a = kind_still setup x.role.kind (most x.role.kind first k) (told_entry seat x request reply) h k (from_of seat (told_entry seat x request reply ∷ h) k) stays in
          let b = ap (kind_left x.role.kind (most x.role.kind first k) (world setup h) k) (unread_from seat (told_entry seat x request reply) h refl refl k (unread k other)) in
          omega (arith, a, b)

      mine : kind_left x.role.kind (most x.role.kind first kind) (world setup (told_entry seat x request reply ∷ h)) kind
          (from_of seat (told_entry seat x request reply ∷ h) kind) + n ≤ kind_left x.role.kind (most x.role.kind first kind) (world setup h) kind (from_of seat h kind)
      mine = let a = kind_still setup x.role.kind (most x.role.kind first kind) (told_entry seat x request reply) h kind
          (from_of seat (told_entry seat x request reply ∷ h) kind) stays in omega (arith, a, own)

  pub read_falls : (caches : AllKnown) (kind : Kind) → x.given ≡ Some (givens.Read kind) → cost (told_to x caches request reply) (told_entry seat x request reply ∷ h) + 1 ≤ cost x h
  read_falls caches kind eg = subst (λ y. cost y (told_entry seat x request reply ∷ h) + 1 ≤ cost x h) (sym is) (by r.reads)
    where
      is : told_to x caches request reply ≡ read_told (learned x caches request reply) kind request reply
      is = ap (given_told (learned x caches request reply) request reply) eg

      r : ReadCalled setup seat x kind request reply h
      r = read_called setup seat x request reply h given kind eg

      follows_it : follows x.role.kind kind ≡ true
      follows_it = (read_called setup seat x request reply h given kind eg).follows_it

      stays : Stays (world setup h) (world setup (told_entry seat x request reply ∷ h)) request reply
      stays = (read_called setup seat x request reply h given kind eg).stays

      start : start_left x.role (memory_after x.role request reply x.memory) ≤ start_left x.role x.memory
      start = (read_called setup seat x request reply h given kind eg).start

      followed : IsIn kind (kinds_of x.role.kind)
      followed = (read_called setup seat x request reply h given kind eg).followed

      -- the keys that were told
      keys : keys_cost (cost_in x.role.kind first (world setup h).store.rows) (keys_in reply) ≡ keys_cost
          (cost_in x.role.kind first (world setup (told_entry seat x request reply ∷ h)).store.rows) (keys_in reply)
      keys = ap (λ rows. keys_cost (cost_in x.role.kind first rows) (keys_in reply)) (sym (read_called setup seat x request reply h given kind eg).stays.rows)

      waiting : work_cost (cost_in x.role.kind first (world setup (told_entry seat x request reply ∷ h)).store.rows) x.work ≡ work_cost (cost_in x.role.kind first (world setup h).store.rows) x.work
      waiting = ap (λ rows. work_cost (cost_in x.role.kind first rows) x.work) (read_called setup seat x request reply h given kind eg).stays.rows

      added_keys : work_cost (cost_in x.role.kind first (world setup (told_entry seat x request reply ∷ h)).store.rows)
          (all_added (keys_in reply) x.work) ≤ work_cost
          (cost_in x.role.kind first (world setup (told_entry seat x request reply ∷ h)).store.rows) x.work + keys_cost
          (cost_in x.role.kind first (world setup (told_entry seat x request reply ∷ h)).store.rows) (keys_in reply)
      added_keys = all_added_cost (cost_in x.role.kind first (world setup (told_entry seat x request reply ∷ h)).store.rows) (keys_in reply) x.work (taken_once x.work given.queue.once)

      -- so much of the kind, and of the pass, pays for the keys
      paid : (n a b : ℕ) → kinds_left setup first seat x.role.kind (told_entry seat x request reply ∷ h) + n ≤ kinds_left setup first seat x.role.kind h
          → keys_cost (cost_in x.role.kind first (world setup h).store.rows) (keys_in reply) ≤ a
          → pass_left x.role.kind (pass_after x.pass (is_passing (passing x) kind) request reply) + 1 ≤ pass_left x.role.kind x.pass + b → a + b ≤ n
          → cost (read_told (learned x caches request reply) kind request reply) (told_entry seat x request reply ∷ h) + 1 ≤ cost x h
      paid n a b sum few pass enough = let s = start in let k = keys in let w = waiting in let more = added_keys in omega (arith, s, k, w, more, sum, few, pass, enough)

      unread_list : (k : Kind) → request ≡ requests.List kind None → same_kind kind k ≡ false → reads_kind k request ≡ false
      unread_list k e other = ap (reads_kind k) e ∙ other

      unread_watch : (k : Kind) (from : ℕ) → request ≡ requests.Watch kind from → same_kind kind k ≡ false → reads_kind k request ≡ false
      unread_watch k from e other = ap (reads_kind k) e ∙ other

      -- its events are kept
      kept_from : (from : ℕ) → (world setup h).store.version ≤ from + 512
          → kind_left x.role.kind (most x.role.kind first kind) (world setup h) kind (Some from) ≡ 7 * pending kind from (world setup h).log
      kept_from from near = let no : nat_lt (from + 512) (world setup h).store.version ≡ false = grind (arith, nat_tests, near) in
          ap (λ b. told_cost_or x.role.kind b (most x.role.kind first kind) (pending kind from (world setup h).log)) no

      by : Reads setup seat x kind request reply h → cost (read_told (learned x caches request reply) kind request reply) (told_entry seat x request reply ∷ h) + 1 ≤ cost x h
      by (Lists none asks answered) =
          let now = listed_from seat (told_entry seat x request reply) h refl refl kind (rows_of kind (world setup h).store.rows) (world setup h).store.version asks answered in
          let pend = none_pending kind (world setup h).store.version (world setup h).store.version (world setup h).log (omega arith) (logs setup h 0) in
          let before : kind_left x.role.kind (most x.role.kind first kind) (world setup h) kind
          (from_of seat h kind) ≡ most x.role.kind first kind + 1 = ap (kind_left x.role.kind (most x.role.kind first kind) (world setup h) kind) none in
          let after : kind_left x.role.kind (most x.role.kind first kind) (world setup h) kind
          (from_of seat (told_entry seat x request reply ∷ h) kind) ≡ 7 * pending kind (world setup h).store.version (world setup h).log =
          ap (kind_left x.role.kind (most x.role.kind first kind) (world setup h) kind) now ∙ kept_from (world setup h).store.version (omega arith) in
          let sum = read_sum kind (most x.role.kind first kind + 1) stays followed (λ k other. unread_list k asks other) (omega (arith, pend, before, after)) in
          let all = listed_few x.role.kind first (world setup h).store.rows order (rows_stand_in_order setup h) so kind in
          let few : keys_cost (cost_in x.role.kind first (world setup h).store.rows) (keys_in reply) ≡ keys_cost
          (cost_in x.role.kind first (world setup h).store.rows) (map key_of (rows_of kind (world setup h).store.rows)) =
          ap (λ a. keys_cost (cost_in x.role.kind first (world setup h).store.rows) (keys_in a)) answered in
          let pass : pass_left x.role.kind (pass_after x.pass (is_passing (passing x) kind) request reply) ≡ pass_left x.role.kind x.pass =
          ap (λ q. pass_left x.role.kind (pass_after x.pass (is_passing (passing x) kind) q reply)) asks in
          paid (most x.role.kind first kind + 1) (most x.role.kind first kind) 1 sum (omega (arith, all, few)) (omega (arith, pass)) (omega arith)
      by (FindsGone from gone some passes asks old answered) =
          let now = gone_from seat (told_entry seat x request reply) h refl refl kind from gone asks answered in
          let low = reached kind from follows_it some in
          let far : from + 512 < (world setup h).store.version = omega (arith, old, low, begins) in
          let is_gone : nat_lt (from + 512) (world setup h).store.version ≡ true = grind (arith, nat_tests, far) in
          let before : kind_left x.role.kind (most x.role.kind first kind) (world setup h) kind (from_of seat h kind) ≡ most x.role.kind first kind +
          (2 + length (kinds_of x.role.kind)) = ap (kind_left x.role.kind (most x.role.kind first kind) (world setup h) kind) some
          ∙ ap (λ b. told_cost_or x.role.kind b (most x.role.kind first kind) (pending kind from (world setup h).log)) is_gone in
          let after : kind_left x.role.kind (most x.role.kind first kind) (world setup h) kind
          (from_of seat (told_entry seat x request reply ∷ h) kind) ≡ most x.role.kind first kind + 1 = ap (kind_left x.role.kind (most x.role.kind first kind) (world setup h) kind) now in
          let sum = read_sum kind (1 + length (kinds_of x.role.kind)) stays followed (λ k other. unread_watch k from asks other) (omega (arith, before, after)) in
          let few : keys_cost (cost_in x.role.kind first (world setup h).store.rows) (keys_in reply) ≡ 0 =
          ap (λ a. keys_cost (cost_in x.role.kind first (world setup h).store.rows) (keys_in a)) answered in
          let pass : pass_left x.role.kind (pass_after x.pass (is_passing (passing x) kind) request reply) ≡ (length (kinds_of x.role.kind) -
          x.pass.behind) + length (kinds_of x.role.kind) =
          ap (λ q. pass_left x.role.kind (pass_after x.pass (is_passing (passing x) kind) q reply)) asks
          ∙ ap (λ a. pass_left x.role.kind (pass_after x.pass (is_passing (passing x) kind) (requests.Watch kind from) a)) answered in
          paid (1 + length (kinds_of x.role.kind)) 0 (1 + length (kinds_of x.role.kind)) sum (omega (arith, few)) (omega (arith, pass)) (omega arith)
      by (IsTold from some passes asks low within answered) = told_by (length (told kind from (world setup h).log) == most_events) refl
        where
          j : ℕ
          j = length (told kind from (world setup h).log)

          told_by : (full : Bool) → (length (told kind from (world setup h).log) == most_events) ≡ full
              → cost (read_told (learned x caches request reply) kind request reply) (told_entry seat x request reply ∷ h) + 1 ≤ cost x h
          told_by full e =
              let so = told_so setup h kind from full low e in
              let now = watched_from seat (told_entry seat x request reply) h refl refl kind from from (world setup h).store.version (world setup h).log asks answered some in
              let up : from ≤ (told_events kind from (world setup h).store.version (world setup h).log).upto = not_below full so.reached so.whole in
              let near : (world setup h).store.version ≤ from + 512 = omega (arith, within) in
              let before : kind_left x.role.kind (most x.role.kind first kind) (world setup h) kind (from_of seat h kind) ≡ 7 * pending kind from
              (world setup h).log = ap (kind_left x.role.kind (most x.role.kind first kind) (world setup h) kind) some ∙ kept_from from near in
              let after : kind_left x.role.kind (most x.role.kind first kind) (world setup h) kind
              (from_of seat (told_entry seat x request reply ∷ h) kind) ≡ 7 * pending kind (told_events kind from (world setup h).store.version (world setup h).log).upto (world setup h).log =
              ap (kind_left x.role.kind (most x.role.kind first kind) (world setup h) kind) now
              ∙ kept_from (told_events kind from (world setup h).store.version (world setup h).log).upto (omega (arith, near, up)) in
              let fewer = so.fewer in
              let sum = read_sum kind (7 * length (told kind from (world setup h).log)) stays followed (λ k other. unread_watch k from asks other) (omega (arith, before, after, fewer)) in
              let light = told_cost (cost_in x.role.kind first (world setup h).store.rows) (key_calls x.role.kind)
              (told kind from (world setup h).log) (λ y i. cost_light x.role.kind first (world setup h).store.rows (key_of y.object)
              (at.light y (told_after kind from (world setup h).log y i).0 (after_base (told_after kind from (world setup h).log y i).1))) in
              let few : keys_cost (cost_in x.role.kind first (world setup h).store.rows) (keys_in reply) ≡ keys_cost
              (cost_in x.role.kind first (world setup h).store.rows)
              (map (λ (y : Event). key_of y.object) (told kind from (world setup h).log)) = ap (λ a. keys_cost (cost_in x.role.kind first (world setup h).store.rows) (keys_in a)) answered in
              let pass_is : pass_left x.role.kind (pass_after x.pass (is_passing (passing x) kind) request reply) ≡ pass_left x.role.kind
              (pass_after x.pass (is_passing (passing x) kind) (requests.Watch kind from) (replies.Events (told_events kind from (world setup h).store.version (world setup h).log))) =
              ap (λ q. pass_left x.role.kind (pass_after x.pass (is_passing (passing x) kind) q reply)) asks
              ∙ ap (λ a. pass_left x.role.kind (pass_after x.pass (is_passing (passing x) kind) (requests.Watch kind from) a)) answered in
              let all = mul-le (length (told kind from (world setup h).log)) (key_calls x.role.kind + length (kinds_of x.role.kind))
              (length (told kind from (world setup h).log)) 7 (omega arith) (event_calls x.role.kind) in
              let both = mul-add (length (told kind from (world setup h).log)) (key_calls x.role.kind) (length (kinds_of x.role.kind)) in
              elim (pass_less x.role x.pass kind from (told_events kind from (world setup h).store.version (world setup h).log) passes) [
                | inl p ↦
                    let n : length (told kind from (world setup h).log) ≡ most_events = counted p.0 in
                    let many : length (told kind from (world setup h).log) * length (kinds_of x.role.kind) ≡ 64 * length (kinds_of x.role.kind) = ap (λ j. j * length (kinds_of x.role.kind)) n in
                    let some_kind = slice_get_within (kinds_of x.role.kind) x.pass.behind kind passes in
                    let less_pass = p.1 in
                    paid (7 * length (told kind from (world setup h).log)) (length (told kind from (world setup h).log) * key_calls x.role.kind)
                    (length (kinds_of x.role.kind) + 1) sum (omega (arith, light, few)) (omega (arith, pass_is, less_pass)) (omega (arith, all, both, many, some_kind))
                | inr p ↦
                    let less_pass = p.1 in
                    paid (7 * length (told kind from (world setup h).log)) (length (told kind from (world setup h).log) * key_calls x.role.kind)
                    (length (told kind from (world setup h).log) * length (kinds_of x.role.kind)) sum (omega (arith, light, few)) (omega (arith, pass_is, less_pass)) (omega (arith, all, both))
              ]
            where
              counted : (length (told kind from (world setup h).log) == most_events) ≡ true → length (told kind from (world setup h).log) ≡ most_events
              counted is_full = grind (arith, nat_tests, is_full)

              after_base : {n : ℕ} → from < n → base < n
              after_base lt = let r = reached kind from follows_it some in omega (arith, lt, r)

              not_below : (b : Bool) → (b ≡ true → from + most_events ≤
                  (told_events kind from (world setup h).store.version (world setup h).log).upto)
                  → (b ≡ false → (told_events kind from (world setup h).store.version (world setup h).log).upto ≡ (world setup h).store.version)
                  → from ≤ (told_events kind from (world setup h).store.version (world setup h).log).upto
              not_below true reaches whole = let r = reaches refl in omega (arith, r)
              not_below false reaches whole = let r = whole refl in omega (arith, r, low)
