-- Until its first pass is over an actor lists and watches its kinds, and ends what it has under way: each call lowers what is still to come.
use Rattle.std.proofs.Common.{◌≡◌, ◌∙◌, ◌⊎◌, ℕ, ◌+◌, ◌*◌, ◌-◌, ◌≤◌, ◌<◌, List, [], ◌∷◌, length, Bool, true, false, Option, Some, None, inl, inr, refl, sym, ap, subst, arith, if◌then◌else◌}
use Rattle.std.specs.Prelude.{◌/◌, ◌==◌, not}
use Rattle.std.proofs.lemmas.Bool.Decides.{nat_tests}
use Rattle.kube_parts.specs.declared.parts.Kind.{Kind}
use Rattle.kube_objects.specs.Keys.{kind_of, rows_of, same_kind}
use Rattle.kube_objects.proofs.SameKeys.{same_kind-Decides}
use Rattle.call_types.specs.declared.entry.Entry.{Entry}
use Rattle.call_types.specs.declared.reply.Event.{Event}
use Rattle.call_types.specs.declared.reply.Reply.{Reply}
use Rattle.call_types.specs.declared.reply.Reply.TheVariants as replies
use Rattle.call_types.specs.declared.request.Request.{Request}
use Rattle.call_types.specs.declared.request.Request.TheVariants as requests
use Rattle.call_types.specs.declared.request.SeatKind.{SeatKind}
use Rattle.call_types.specs.declared.setup.Setup.{Setup}
use Rattle.call_types.specs.Kinds.{reads_kind}
use Rattle.binder_model.specs.Told.{own}
use Rattle.binder_model.specs.Watching.{most_events, told_events}
use Rattle.binder_model.specs.World.{base as base_of, world}
use Rattle.informer_cache.specs.All.{AllKnown}
use Rattle.model_laws.proofs.Lists.{IsIn}
use Rattle.worker_core.specs.declared.turn.Given.TheVariants as givens
use Rattle.worker_core.specs.Absorbs.{given_told, is_passing, learned, pass_after, read_told, task_told}
use Rattle.worker_core.specs.Roles.{kinds_of}
use Rattle.worker_core.specs.States.{ActorState}
use Rattle.worker_core.specs.Turns.{passing}
use Rattle.settle_calls.specs.Events.Counts.{pending}
use Rattle.settle_calls.specs.Tasks.Tasks.{task_left, under_left}
use Rattle.std.specs.Prelude.{nat_lt}
use Rattle.std.proofs.lemmas.Option.{slice_get_within}
use Rattle.model_laws.proofs.Uids.{rises}
use Rattle.model_laws.proofs.Watched.{logs}
use Rattle.worker_core.specs.Absorbs.{told_to}
use Rattle.actor_rounds.specs.Rounds.{told_entry}
use Rattle.settle_calls.proofs.Events.Calls.{Stays, gone_from, listed_from, unread_from, watched_from, world_moves}
use Rattle.settle_calls.proofs.Events.Events.{told_so}
use Rattle.settle_calls.specs.Passes.Passes.{FirstCallsPay}
use Rattle.settle_calls.proofs.Passes.Given.{FindsGone, GivenSo, GivesRead, GivesStart, GivesTask, IsTold, Lists, Reads, given_so, read_called, start_called, task_called}
use Rattle.settle_calls.proofs.Events.Sums.{sum_falls}
use Rattle.settle_calls.proofs.Tasks.Tasks.{done_few}
use Rattle.std.specs.Prelude.{◌++◌, min}
use Rattle.std.proofs.Math.Nat.{add-div_right}
use Rattle.binder_model.specs.Watching.{last_version}
use Rattle.model_laws.proofs.Watched.{AreBetween}
use Rattle.settle_calls.proofs.Events.Calls.{Wrote}
use Rattle.settle_calls.proofs.Events.Events.{one_more}
use Rattle.settle_calls.proofs.Events.Sums.{at_kind, full_falls, full_less, of_each, once, sum_less, sum_more}
use Rattle.settle_calls.proofs.Passes.Told.{told_after, within_five}
use Rattle.settle_calls.specs.Events.Ahead.{from_of, sum_over}
use Rattle.settle_calls.specs.Tasks.Ends.{done_by}
use Rattle.settle_calls.specs.Events.Telling.{IsToldSo, told}
use Rattle.settle_calls.specs.Passes.Passes.{IsCallGiven, events_cost, first_cost, wait_cost, waits_cost}

add_full : (n : ℕ) → (n + 64) / 64 ≡ n / 64 + 1
add_full n = let e = add-div_right n {k = 64} (omega arith) in omega (arith, e)

pub nil_right : (es : List Entry) → es ++ [] ≡ es
nil_right [] = refl
nil_right (e ∷ es) = ap (λ xs. e ∷ xs) (nil_right es)

-- a watch reaches no further than the store

pub at_most : (low high : ℕ) (es : List Event) (y : Event) → AreBetween low high es → IsIn y es → y.version ≤ high
at_most low high [] y b i = absurd i
at_most low high (e ∷ es) y b (inl is) = subst (λ (z : Event). z.version ≤ high) is b.1
at_most low high (e ∷ es) y b (inr i) = at_most low high es y b.2 i

last_below : (low high : ℕ) (es : List Event) → low ≤ high → ((y : Event) → IsIn y es → y.version ≤ high) → last_version low es ≤ high
last_below low high [] le each = le
last_below low high (e ∷ es) le each = last_below e.version high es (each e (inl refl)) (λ y i. each y (inr i))

upto_below : (setup : Setup) (h : List Entry) (kind : Kind) (from : ℕ) → from ≤ (world setup h).store.version
    → (told_events kind from (world setup h).store.version (world setup h).log).upto ≤ (world setup h).store.version
upto_below setup h kind from low = by (length (told kind from (world setup h).log) == most_events) refl
  where
    by : (b : Bool) → (length (told kind from (world setup h).log) == most_events) ≡ b → (told_events kind from (world setup h).store.version (world setup h).log).upto ≤ (world setup h).store.version
    by true e = rw e (last_below (world setup h).store.version (world setup h).store.version (told kind from (world setup h).log) (omega arith)
        (λ y i. at_most 0 (world setup h).store.version (world setup h).log y (logs setup h 0) (told_after kind from (world setup h).log y i).0))
    by false e = rw e (omega arith)

pub wait_few : (version : ℕ) (x : Option ℕ) → wait_cost version x ≤ 10
wait_few version None = omega arith
wait_few version (Some from) = by (nat_lt from version)
  where
    by : (b : Bool) → (if b then 2 + min (version - from) 512 / 64 else 0) ≤ 10
    by true = let h = full_less (min (version - from) 512) 512 (omega arith) in omega (arith, h)
    by false = omega arith

-- one version more
wait_more : (version : ℕ) (x : Option ℕ) → wait_cost (version + 1) x ≤ wait_cost version x + 2
wait_more version None = omega arith
wait_more version (Some from) = by (nat_lt from version) (nat_lt from (version + 1)) refl
  where
    by : (a b : Bool) → nat_lt from version ≡ a → (if b then 2 + min ((version + 1) - from) 512 / 64 else 0) ≤ (if a then 2 + min (version - from) 512 / 64 else 0) + 2
    by true true e = let h = full_less (min ((version + 1) - from) 512) (min (version - from) 512 + 64) (omega arith) in let f = add_full (min (version - from) 512) in omega (arith, h, f)
    by true false e = omega arith
    by false true e =
        let low : version ≤ from = grind (arith, nat_tests, e) in
        let h = full_less (min ((version + 1) - from) 512) 1 (omega (arith, low)) in
        omega (arith, h)
    by false false e = omega arith

twice_five : (seat : SeatKind) → sum_over (λ k. 2) (kinds_of seat) ≤ 10
twice_five seat = of_each seat (λ k. 2) 2 (λ k. omega arith)

module _ (setup : Setup) (seat base high : ℕ) (x : ActorState) (request : Request) (reply : Reply) (h : List Entry)
    (given : IsCallGiven setup seat x request reply h) (short : (world setup (told_entry seat x request reply ∷ h)).store.version ≤ high) where
  abbrev entry : Entry
  entry = told_entry seat x request reply

  abbrev cost : ActorState → List Entry → ℕ
  cost y es = first_cost setup seat x.role.kind base high y es

  -- a write pays for the watches that it brings
  write_pays : ((k : Kind) → reads_kind k request ≡ false) → Stays (world setup h) (world setup (told_entry seat x request reply ∷ h)) request reply
      ⊎ Wrote (world setup h) (world setup (told_entry seat x request reply ∷ h)) reply
      → 20 * (high - (world setup (told_entry seat x request reply ∷ h)).store.version) +
      (waits_cost setup seat x.role.kind (told_entry seat x request reply ∷ h) + events_cost setup x.role.kind base (told_entry seat x request reply ∷ h)) + done_by request reply
      ≤ 20 * (high - (world setup h).store.version) + (waits_cost setup seat x.role.kind h + events_cost setup x.role.kind base h)
  write_pays unread (inl stays) =
      let a = sum_less (λ k. wait_cost (world setup h).store.version (from_of seat h k))
      (λ k. wait_cost (world setup (told_entry seat x request reply ∷ h)).store.version (from_of seat (told_entry seat x request reply ∷ h) k)) (kinds_of x.role.kind) waits in
      let b : events_cost setup x.role.kind base (told_entry seat x request reply ∷ h) ≡ events_cost setup x.role.kind base h =
      ap (λ l. sum_over (λ k. 9 * pending k base l) (kinds_of x.role.kind)) stays.log in
      let v = stays.version in let none = stays.none in
      omega (arith, a, b, v, none)
    where
      waits : (k : Kind) → wait_cost (world setup (told_entry seat x request reply ∷ h)).store.version
          (from_of seat (told_entry seat x request reply ∷ h) k) ≤ wait_cost (world setup h).store.version (from_of seat h k)
      waits k =
          let a = ap (λ n. wait_cost n (from_of seat (told_entry seat x request reply ∷ h) k)) stays.version in
          let b = ap (wait_cost (world setup h).store.version) (unread_from seat (told_entry seat x request reply) h refl refl k (unread k)) in
          omega (arith, a, b)
  write_pays unread (inr wrote) =
      let a = sum_more (λ k. wait_cost (world setup h).store.version (from_of seat h k))
      (λ k. wait_cost (world setup (told_entry seat x request reply ∷ h)).store.version (from_of seat (told_entry seat x request reply ∷ h) k)) (λ k. 2) (kinds_of x.role.kind) waits in
      let two = twice_five x.role.kind in
      let b = sum_more (λ k. 9 * pending k base (world setup h).log)
      (λ k. 9 * pending k base (world setup (told_entry seat x request reply ∷ h)).log) (at_kind (kind_of wrote.event.object)) (kinds_of x.role.kind) events in
      let nine = once x.role.kind (kind_of wrote.event.object) in
      let v = wrote.version in let few = done_few request reply in
      omega (arith, a, two, b, nine, v, few, short)
    where
      waits : (k : Kind) → wait_cost (world setup (told_entry seat x request reply ∷ h)).store.version
          (from_of seat (told_entry seat x request reply ∷ h) k) ≤ wait_cost (world setup h).store.version (from_of seat h k) + 2
      waits k =
          let a = ap (λ n. wait_cost n (from_of seat (told_entry seat x request reply ∷ h) k)) wrote.version in
          let b = ap (wait_cost ((world setup h).store.version + 1)) (unread_from seat (told_entry seat x request reply) h refl refl k (unread k)) in
          let c = wait_more (world setup h).store.version (from_of seat h k) in
          omega (arith, a, b, c)

      events : (k : Kind) → 9 * pending k base (world setup (told_entry seat x request reply ∷ h)).log ≤ 9 * pending k base (world setup h).log + at_kind (kind_of wrote.event.object) k
      events k =
          let a = ap (pending k base) wrote.log in
          let b = one_more k base wrote.event (world setup h).log in
          omega (arith, a, b)

  pub task_pays_first : (caches : AllKnown) → x.given ≡ Some givens.Task → cost (told_to x caches request reply) (told_entry seat x request reply ∷ h) + 1 ≤ cost x h
  task_pays_first caches eg =
      let t = task_called setup seat x request reply h given eg in
      let is : told_to x caches request reply ≡ task_told (learned x caches request reply) reply (Some t.under) =
      ap (given_told (learned x caches request reply) request reply) eg ∙ ap (task_told (learned x caches request reply) reply) t.there in
      let pays = write_pays t.unread (world_moves setup (told_entry seat x request reply) h given.history.1) in
      let goes = t.goes in
      let start = t.start in
      let under : under_left x.under ≡ task_left t.under.task = ap under_left t.there in
      subst (λ y. cost y (told_entry seat x request reply ∷ h) + 1 ≤ cost x h) (sym is) (omega (arith, pays, goes, start, under))

  pub start_pays_first : (caches : AllKnown) → x.given ≡ Some givens.Start → cost (told_to x caches request reply) (told_entry seat x request reply ∷ h) + 1 ≤ cost x h
  start_pays_first caches eg =
      let t = start_called setup seat x request reply h given eg in
      let is : told_to x caches request reply ≡ learned x caches request reply = ap (given_told (learned x caches request reply) request reply) eg in
      let pays = write_pays t.unread (world_moves setup (told_entry seat x request reply) h given.history.1) in
      let less = t.less in
      subst (λ y. cost y (told_entry seat x request reply ∷ h) + 1 ≤ cost x h) (sym is) (omega (arith, pays, less))

  pub read_pays_first : (caches : AllKnown) (kind : Kind) → x.given ≡ Some (givens.Read kind) → cost (told_to x caches request reply) (told_entry seat x request reply ∷ h) + 1 ≤ cost x h
  read_pays_first caches kind eg = subst (λ y. cost y (told_entry seat x request reply ∷ h) + 1 ≤ cost x h) (sym is) (by (read_called setup seat x request reply h given kind eg).reads)
    where
      is : told_to x caches request reply ≡ read_told (learned x caches request reply) kind request reply
      is = ap (given_told (learned x caches request reply) request reply) eg

      -- so much of the kind pays for the call, or the pass goes on
      paid : (n : ℕ) → wait_cost (world setup h).store.version (from_of seat (told_entry seat x request reply ∷ h) kind) + n ≤ wait_cost (world setup h).store.version (from_of seat h kind)
          → ((k : Kind) → same_kind kind k ≡ false → reads_kind k request ≡ false)
          → (5 - (pass_after x.pass (is_passing (passing x) kind) request reply).behind) + 1 ≤ (5 - x.pass.behind) + n
          → cost (read_told (learned x caches request reply) kind request reply) (told_entry seat x request reply ∷ h) + 1 ≤ cost x h
      paid n own unread pass =
          let r = read_called setup seat x request reply h given kind eg in
          let a = sum_falls (λ k. wait_cost (world setup h).store.version (from_of seat h k))
          (λ k. wait_cost (world setup (told_entry seat x request reply ∷ h)).store.version
          (from_of seat (told_entry seat x request reply ∷ h) k)) n kind (kinds_of x.role.kind) others mine r.followed in
          let b : events_cost setup x.role.kind base (told_entry seat x request reply ∷ h) ≡ events_cost setup x.role.kind base h =
          ap (λ l. sum_over (λ k. 9 * pending k base l) (kinds_of x.role.kind)) r.stays.log in
          let v : 20 * (high - (world setup (told_entry seat x request reply ∷ h)).store.version) ≡ 20 * (high - (world setup h).store.version) = ap (λ n. 20 * (high - n)) r.stays.version in
          let s = r.start in
          omega (arith, a, b, v, s, pass)
        where
          others : (k : Kind) → same_kind kind k ≡ false
              → wait_cost (world setup (told_entry seat x request reply ∷ h)).store.version
              (from_of seat (told_entry seat x request reply ∷ h) k) ≤ wait_cost (world setup h).store.version (from_of seat h k)
          others k other =
              let a = ap (λ n. wait_cost n (from_of seat (told_entry seat x request reply ∷ h) k)) (read_called setup seat x request reply h given kind eg).stays.version in
              let b = ap (wait_cost (world setup h).store.version) (unread_from seat (told_entry seat x request reply) h refl refl k (unread k other)) in
              omega (arith, a, b)

          mine : wait_cost (world setup (told_entry seat x request reply ∷ h)).store.version
              (from_of seat (told_entry seat x request reply ∷ h) kind) + n ≤ wait_cost (world setup h).store.version (from_of seat h kind)
          mine = let a = ap (λ n. wait_cost n (from_of seat (told_entry seat x request reply ∷ h) kind)) (read_called setup seat x request reply h given kind eg).stays.version in omega (arith, a, own)

      unread_list : (k : Kind) → request ≡ requests.List kind None → same_kind kind k ≡ false → reads_kind k request ≡ false
      unread_list k e other = ap (reads_kind k) e ∙ other

      unread_watch : (k : Kind) (from : ℕ) → request ≡ requests.Watch kind from → same_kind kind k ≡ false → reads_kind k request ≡ false
      unread_watch k from e other = ap (reads_kind k) e ∙ other

      -- what has reached the store waits for nothing
      none : (n v : ℕ) → v ≤ n → wait_cost v (Some n) ≡ 0
      none n v le = let is : nat_lt n v ≡ false = grind (arith, nat_tests, le) in rw is refl

      behind : (n v : ℕ) → n < v → wait_cost v (Some n) ≡ 2 + min (v - n) 512 / 64
      behind n v lt = let is : nat_lt n v ≡ true = grind (arith, nat_tests, lt) in rw is refl

      by : Reads setup seat x kind request reply h → cost (read_told (learned x caches request reply) kind request reply) (told_entry seat x request reply ∷ h) + 1 ≤ cost x h
      by (Lists no_list asks answered) =
          let now = ap (wait_cost (world setup h).store.version)
          (listed_from seat (told_entry seat x request reply) h refl refl kind (rows_of kind (world setup h).store.rows) (world setup h).store.version asks answered) in
          let was = ap (wait_cost (world setup h).store.version) no_list in
          let z = none (world setup h).store.version (world setup h).store.version (omega arith) in
          let pass = ap (λ q. 5 - (pass_after x.pass (is_passing (passing x) kind) q reply).behind) asks in
          paid 1 (omega (arith, now, was, z)) (λ k other. unread_list k asks other) (omega (arith, pass))
      by (FindsGone from gone some passes asks old answered) =
          let now = ap (wait_cost (world setup h).store.version) (gone_from seat (told_entry seat x request reply) h refl refl kind from gone asks answered) in
          let was = ap (wait_cost (world setup h).store.version) some in
          let z = behind from (world setup h).store.version (omega (arith, old, first_low)) in
          let pass = ap (λ q. 5 - (pass_after x.pass (is_passing (passing x) kind) q reply).behind) asks
          ∙ ap (λ a. 5 - (pass_after x.pass (is_passing (passing x) kind) (requests.Watch kind from) a).behind) answered in
          paid 1 (omega (arith, now, was, z)) (λ k other. unread_watch k from asks other) (omega (arith, pass))
        where
          first_low : base_of setup ≤ (world setup h).store.version
          first_low = subst (λ es. base_of setup ≤ (world setup es).store.version) (nil_right h) (rises setup h [])
      by (IsTold from some passes asks low within answered) = told_by (length (told kind from (world setup h).log) == most_events) refl
        where
          told_by : (full : Bool) → (length (told kind from (world setup h).log) == most_events) ≡ full
              → cost (read_told (learned x caches request reply) kind request reply) (told_entry seat x request reply ∷ h) + 1 ≤ cost x h
          told_by full e =
              let so = told_so setup h kind from full low e in
              let now = ap (wait_cost (world setup h).store.version)
              (watched_from seat (told_entry seat x request reply) h refl refl kind from from (world setup h).store.version (world setup h).log asks answered some) in
              let was = ap (wait_cost (world setup h).store.version) some in
              let pass = ap (λ q. 5 - (pass_after x.pass (is_passing (passing x) kind) q reply).behind) asks
              ∙ ap (λ a. 5 - (pass_after x.pass (is_passing (passing x) kind) (requests.Watch kind from) a).behind) answered in
              with_full full e so now was pass
            where
              upto : ℕ
              upto = (told_events kind from (world setup h).store.version (world setup h).log).upto

              after_pass : ℕ
              after_pass = (pass_after x.pass (is_passing (passing x) kind) (requests.Watch kind from)
                  (replies.Events (told_events kind from (world setup h).store.version (world setup h).log))).behind

              goes : (b : Bool) → (length (told kind from (world setup h).log) == most_events) ≡ b
                  → (pass_after x.pass (is_passing (passing x) kind) (requests.Watch kind from)
                  (replies.Events (told_events kind from (world setup h).store.version (world setup h).log))).behind ≡ (if not b then x.pass.behind + 1 else x.pass.behind)
              goes b e2 =
                  let is_p : is_passing (passing x) kind ≡ true = ap (λ k. is_passing k kind) passes ∙ (same_kind-Decides kind kind).1 refl in
                  ap (λ p. (pass_after x.pass p (requests.Watch kind from)
                  (replies.Events (told_events kind from (world setup h).store.version (world setup h).log))).behind) is_p ∙ ap (λ f. if not f then x.pass.behind + 1 else x.pass.behind) e2

              room : x.pass.behind < 5
              room = let a = slice_get_within (kinds_of x.role.kind) x.pass.behind kind passes in let b = within_five x.role.kind in omega (arith, a, b)

              nearer : (u : ℕ) → from + most_events ≤ u → wait_cost (world setup h).store.version (Some u) + 1 ≤ 2 + min ((world setup h).store.version - from) 512 / 64
              nearer u reach = at_u (nat_lt u (world setup h).store.version) refl
                where
                  at_u : (b : Bool) → nat_lt u (world setup h).store.version ≡ b
                      → (if b then 2 + min ((world setup h).store.version - u) 512 / 64 else 0) + 1 ≤ 2 + min ((world setup h).store.version - from) 512 / 64
                  at_u false e2 = omega arith
                  at_u true e2 =
                      let lt : u < (world setup h).store.version = grind (arith, nat_tests, e2) in
                      let f = full_falls (min ((world setup h).store.version - u) 512) (min ((world setup h).store.version - from) 512) (omega (arith, reach, within, lt)) in
                      omega (arith, f)

              with_full : (b : Bool) → (length (told kind from (world setup h).log) == most_events) ≡ b → IsToldSo kind from (world setup h).store.version (world setup h).log b
                  → wait_cost (world setup h).store.version (from_of seat (told_entry seat x request reply ∷ h) kind) ≡ wait_cost
                  (world setup h).store.version (Some (told_events kind from (world setup h).store.version (world setup h).log).upto)
                  → wait_cost (world setup h).store.version (from_of seat h kind) ≡ wait_cost (world setup h).store.version (Some from)
                  → (5 - (pass_after x.pass (is_passing (passing x) kind) request reply).behind)
                  ≡ (5 - (pass_after x.pass (is_passing (passing x) kind) (requests.Watch kind from)
                  (replies.Events (told_events kind from (world setup h).store.version (world setup h).log))).behind)
                  → cost (read_told (learned x caches request reply) kind request reply) (told_entry seat x request reply ∷ h) + 1 ≤ cost x h
              with_full false e2 so now was pass =
                  let whole = so.whole refl in
                  let z = none (told_events kind from (world setup h).store.version (world setup h).log).upto (world setup h).store.version (omega (arith, whole)) in
                  let g = goes false e2 in let r = room in
                  paid 0 (omega (arith, now, was, z)) (λ k other. unread_watch k from asks other) (omega (arith, pass, g, r))
              with_full true e2 so now was pass =
                  let reach = so.reached refl in
                  let g = goes true e2 in
                  let below = upto_below setup h kind from low in
                  let z = behind from (world setup h).store.version (omega (arith, reach, below)) in
                  let less = nearer (told_events kind from (world setup h).store.version (world setup h).log).upto reach in
                  paid 1 (omega (arith, now, was, z, less)) (λ k other. unread_watch k from asks other) (omega (arith, pass, g))

pub first_calls_pay : FirstCallsPay
first_calls_pay setup seat base high x request reply h caches given short = by (given_so x request given.ask)
  where
    by : GivenSo x → first_cost setup seat x.role.kind base high (told_to x caches request reply) (told_entry seat x request reply ∷ h) + 1 ≤ first_cost setup seat x.role.kind base high x h
    by (GivesTask e) = task_pays_first setup seat base high x request reply h given short caches e
    by (GivesStart e) = start_pays_first setup seat base high x request reply h given short caches e
    by (GivesRead kind e) = read_pays_first setup seat base high x request reply h given short caches kind e
