-- Past the first pass each call that is answered leaves less to come: a read of the pass, a call of a task that will write, its write, and a call behind it.
use Rattle.std.proofs.Common.{◌≡◌, ◌∙◌, ◌⊎◌, ℕ, ◌+◌, ◌*◌, ◌-◌, ◌≤◌, List, ◌∷◌, length, true, true≢false, Option, Some, None, inl, inr, refl, sym, ap, subst, arith}
use Rattle.std.specs.Prelude.{option_map}
use Rattle.std.proofs.Math.Nat.{mul-add}
use Rattle.kube_parts.specs.declared.parts.Kind.{Kind}
use Rattle.call_types.specs.declared.entry.Entry.{Entry}
use Rattle.call_types.specs.declared.reply.Reply.{Reply}
use Rattle.call_types.specs.declared.request.Request.{Request}
use Rattle.call_types.specs.declared.request.SeatKind.{SeatKind}
use Rattle.call_types.specs.declared.request.SeatKind.TheVariants as seats
use Rattle.call_types.specs.declared.setup.Setup.{Setup}
use Rattle.binder_model.specs.Licence.{Licensed}
use Rattle.binder_model.specs.Told.{own}
use Rattle.binder_model.specs.World.{base as base_of, effect, reply_to, world}
use Rattle.informer_cache.specs.All.{AllKnown}
use Rattle.model_laws.proofs.Lists.{IsIn, none_some, one}
use Rattle.worker_core.specs.declared.role.Role.{Role}
use Rattle.worker_core.specs.declared.task.Under.{Under}
use Rattle.worker_core.specs.declared.turn.Given.TheVariants as givens
use Rattle.worker_core.specs.declared.turn.Outcome.TheVariants.{Told}
use Rattle.worker_core.specs.Absorbs.{given_told, learned, task_told, told_to}
use Rattle.worker_core.specs.Memories.{Memory}
use Rattle.worker_core.specs.Roles.{kinds_of}
use Rattle.worker_core.specs.States.{ActorState, call_under, given_call, start_of}
use Rattle.worker_core.specs.Tasks.{under_after}
use Rattle.worker_core.specs.Turns.{passing}
use Rattle.attention_law.proofs.Turned.{answer_role}
use Rattle.actor_rounds.specs.Rounds.{all_pass, told_entry}
use Rattle.settle_writes.specs.Writes.Lasting.{Lasts}
use Rattle.settle_slot.specs.Slot.Slots.{Now, Then, WillLast, own_entry}
use Rattle.settle_calls.specs.Tasks.Tasks.{task_left, under_left}
use Rattle.settle_calls.proofs.Tasks.Tasks.{done_few}
use Rattle.settle_calls.specs.Events.Ahead.{from_of, sum_over}
use Rattle.settle_calls.specs.Events.Counts.{pending}
use Rattle.settle_calls.proofs.Events.Calls.{Stays, Wrote, unread_from, world_moves}
use Rattle.settle_calls.proofs.Passes.Given.{FindsGone, GivenSo, GivesRead, GivesStart, GivesTask, IsTold, Lists, Reads, TaskCalled, given_so, read_called, task_called}
use Rattle.settle_calls.specs.Passes.Passes.{IsCallGiven, KindsHaveReached}
use Rattle.settle_due.specs.Begun.Begun.{begins_to_last}
use Rattle.settle_round_calls.proofs.Slots.Calls.{AtKeys, InPass, Stage, few_on, low_on, pass_left}
use Rattle.settle_round_calls.proofs.Slots.Made.{reads_stay}
use Rattle.settle_calls.proofs.Passes.Reaching.{ReachedBehind, behind_on, none_told}
use Rattle.settle_calls.proofs.Slots.HeldCalls.{own_read}
use Rattle.settle_round_calls.proofs.Slots.RoundCosts.{event_calls, key_calls}
use Rattle.settle_round_calls.proofs.Sure.Passes.{read_falls}
use Rattle.settle_round_calls.proofs.Sure.Lasting.{lasting_rises}
use Rattle.settle_round_calls.proofs.Sure.Left.{HasWritten, IsFree, IsLess, Owing, WillWrite, all_asks_left, owed, sure_left}

-- such an actor has no start
no_start : (kind : SeatKind) (node : List ℕ) (m : Memory) (request : Request) → begins_to_last kind ≡ true → start_of kind node m ≡ Some request → ⊥
no_start seats.Agent node m request sure e = absurd (true≢false (sym sure))
no_start seats.User node m request sure e = none_some e
no_start seats.Binder node m request sure e = none_some e
no_start seats.Ops node m request sure e = none_some e
no_start seats.Scheduler node m request sure e = none_some e
no_start seats.ClaimProtect node m request sure e = none_some e
no_start seats.VolumeProtect node m request sure e = none_some e

-- ---- a call

module _ (setup : Setup) (seat base high : ℕ) (x : ActorState) (request : Request) (reply : Reply) (h : List Entry)
    (given : IsCallGiven setup seat x request reply h) (sure : begins_to_last x.role.kind ≡ true) (may : Licensed x.role.kind (own seat h) request)
    (begins : base_of setup ≤ base) (reached : KindsHaveReached base seat x.role.kind h) (short : (world setup (told_entry seat x request reply ∷ h)).store.version ≤ high) where
  moves : Stays (world setup h) (world setup (told_entry seat x request reply ∷ h)) request reply ⊎ Wrote (world setup h) (world setup (told_entry seat x request reply ∷ h)) reply
  moves = world_moves setup (told_entry seat x request reply) h given.history.1

  -- ---- while keys are decided

  module _ (caches : AllKnown) (eg : x.given ≡ Some givens.Task) (t : TaskCalled x request reply) (read : ℕ) (over : passing x ≡ None)
      (kinds : (kind : Kind) → IsIn kind (kinds_of x.role.kind) → from_of seat h kind ≡ Some read) (low : read ≤ (world setup h).store.version)
      (few : sum_over (λ k. pending k read (world setup h).log) (kinds_of x.role.kind) ≤ (world setup h).store.version - read) where
    -- what the answer makes of the actor
    abbrev next : ActorState
    next = task_told (learned x caches request reply) reply (Some t.under)

    is : told_to x caches request reply ≡ next
    is = ap (given_told (learned x caches request reply) request reply) eg ∙ ap (task_told (learned x caches request reply) reply) t.there

    asks_it : (u : Under) → x.under ≡ Some u → u.call ≡ request
    asks_it u there = one u.call request (ap (option_map call_under) (sym there) ∙ (ap (given_call x) (sym eg) ∙ given.ask))

    abbrev stage : Stage setup seat next (told_entry seat x request reply ∷ h)
    stage = AtKeys read over (λ kind i. unread_from seat (told_entry seat x request reply) h refl refl kind (t.unread kind) ∙ kinds kind i)
        (low_on setup x.role.kind read (told_entry seat x request reply) h low moves) (few_on setup x.role.kind read (told_entry seat x request reply) h low moves few)

    -- a write is one of those that are ahead: it pays for the pass that tells it, for a further call, and for the slack of the next task
    wrote_pays : Wrote (world setup h) (world setup (told_entry seat x request reply ∷ h)) reply
        → 8 * (high - (world setup (told_entry seat x request reply ∷ h)).store.version) +
        (length (kinds_of x.role.kind) * ((world setup (told_entry seat x request reply ∷ h)).store.version - read) + (key_calls x.role.kind + 1))
        ≤ 8 * (high - (world setup h).store.version) + length (kinds_of x.role.kind) * ((world setup h).store.version - read)
    wrote_pays wrote =
        let version = wrote.version in
        let since : (world setup (told_entry seat x request reply ∷ h)).store.version - read ≡ ((world setup h).store.version - read) + 1 = omega (arith, version, low) in
        let times : length (kinds_of x.role.kind) * ((world setup (told_entry seat x request reply ∷ h)).store.version - read) ≡ length
        (kinds_of x.role.kind) * (((world setup h).store.version - read) + 1) = ap (λ n. length (kinds_of x.role.kind) * n) since in
        let more = mul-add (length (kinds_of x.role.kind)) ((world setup h).store.version - read) 1 in
        let once : length (kinds_of x.role.kind) * 1 ≡ length (kinds_of x.role.kind) = omega arith in
        let seven = event_calls x.role.kind in
        omega (arith, version, times, more, once, seven, short)

    stays_same : Stays (world setup h) (world setup (told_entry seat x request reply ∷ h)) request reply
        → 8 * (high - (world setup (told_entry seat x request reply ∷ h)).store.version) + length (kinds_of x.role.kind) * ((world setup (told_entry seat x request reply ∷ h)).store.version - read)
        ≡ 8 * (high - (world setup h).store.version) + length (kinds_of x.role.kind) * ((world setup h).store.version - read)
    stays_same stays = ap (λ n. 8 * (high - n) + length (kinds_of x.role.kind) * (n - read)) stays.version

    -- what is known of a task behind its write
    record GoesOn : Type 0 where
      owing : Owing setup seat next (told_entry seat x request reply ∷ h)
      light : owed setup seat next (told_entry seat x request reply ∷ h) owing
          ≤ key_calls x.role.kind + under_left (under_after t.under reply)

    goes_on : GoesOn
    goes_on = by (under_after t.under reply) refl
      where
        by : (n : Option Under) → under_after t.under reply ≡ n → GoesOn
        by None e = record { owing = IsFree e; light = omega arith }
        by (Some n) e = let left = ap under_left e in record { owing = HasWritten n e; light = omega (arith, left) }

    -- its write, or a call behind it
    writes : (most : ℕ) → task_left t.under.task ≤ most → Wrote (world setup h) (world setup (told_entry seat x request reply ∷ h)) reply
        → IsLess setup seat high next (told_entry seat x request reply ∷ h) 1
        (8 * (high - (world setup h).store.version) + (length (kinds_of x.role.kind) * ((world setup h).store.version - read) + (pass_left x.role.kind x.pass + most)))
    writes most left wrote =
        let pays = wrote_pays wrote in
        let goes = t.goes in
        let one_done = done_few request reply in
        let on = goes_on.light in
        record { stage = stage; owing = goes_on.owing; less = omega (arith, pays, goes, one_done, on, left) }

    -- one that has written already
    later : (u : Under) → x.under ≡ Some u → Stays (world setup h) (world setup (told_entry seat x request reply ∷ h)) request reply
        → IsLess setup seat high next (told_entry seat x request reply ∷ h) 1
        (8 * (high - (world setup h).store.version) +
        (length (kinds_of x.role.kind) * ((world setup h).store.version - read) + (pass_left x.role.kind x.pass + (key_calls x.role.kind + task_left u.task))))
    later u there stays =
        let same = stays_same stays in
        let none = stays.none in
        let goes = t.goes in
        let on = goes_on.light in
        let of_it : task_left t.under.task ≡ task_left u.task = ap under_left (sym t.there ∙ there) in
        record { stage = stage; owing = goes_on.owing; less = omega (arith, same, none, goes, on, of_it) }

    -- one that is still to write
    earlier : (u n : Under) → x.under ≡ Some u → under_after u (reply_to (effect setup (world setup h) x.role.kind u.call)) ≡ Some n
        → WillLast setup all_pass seat x.role.kind (own_entry setup seat x.role.kind h u.call ∷ h) n
        → Stays (world setup h) (world setup (told_entry seat x request reply ∷ h)) request reply
        → IsLess setup seat high next (told_entry seat x request reply ∷ h) 1
        (8 * (high - (world setup h).store.version) + (length (kinds_of x.role.kind) * ((world setup h).store.version - read) + (pass_left x.role.kind x.pass + task_left u.task)))
    earlier u n there follows more stays =
        let same = stays_same stays in
        let none = stays.none in
        let goes = t.goes in
        let of_it : t.under ≡ u = one t.under u (sym t.there ∙ there) in
        let asked = asks_it u there in
        let answered : reply ≡ reply_to (effect setup (world setup h) x.role.kind u.call) = given.history.1 ∙ ap (λ r. reply_to (effect setup (world setup h) x.role.kind r)) (sym asked) in
        let after : under_after t.under reply ≡ Some n = ap (λ v. under_after v reply) of_it ∙ (ap (under_after u) answered ∙ follows) in
        let entry : own_entry setup seat x.role.kind h u.call ≡ told_entry seat x request reply =
        ap (λ a. record { seat = seat; kind = x.role.kind; request = u.call; reply = a; told = true }) (sym answered)
        ∙ ap (λ r. record { seat = seat; kind = x.role.kind; request = r; reply = reply; told = true }) asked in
        let left = ap under_left after in
        let was : task_left t.under.task ≡ task_left u.task = ap (λ (v : Under). task_left v.task) of_it in
        record { stage = stage; owing = WillWrite n after (subst (λ e. WillLast setup all_pass seat x.role.kind (e ∷ h) n) entry more); less = omega (arith, same, none, goes, left, was) }

    -- what lasts is written
    lasting_writes_it : (u : Under) → x.under ≡ Some u → WillLast setup all_pass seat x.role.kind h u → Stays (world setup h) (world setup (told_entry seat x request reply ∷ h)) request reply
        → IsLess setup seat high next (told_entry seat x request reply ∷ h) 1
        (8 * (high - (world setup h).store.version) + (length (kinds_of x.role.kind) * ((world setup h).store.version - read) + (pass_left x.role.kind x.pass + task_left u.task)))
    lasting_writes_it u there (Now passes lasts) stays =
        let rises = lasting_rises setup (world setup h) x.role.kind (own seat h) request sure may (subst (λ r. Lasts setup (world setup h) x.role.kind r) (asks_it u there) lasts) in
        let same = stays.version in
        absurd (omega (arith, rises, same))
    lasting_writes_it u there (Then passes n follows more) stays = earlier u n there follows more stays

    of_it : (u : Under) → x.under ≡ Some u → task_left t.under.task ≤ task_left u.task
    of_it u there = let same : task_left t.under.task ≡ task_left u.task = ap under_left (sym t.there ∙ there) in omega (arith, same)

    task_pays : (owing : Owing setup seat x h)
        → IsLess setup seat high (told_to x caches request reply) (told_entry seat x request reply ∷ h) 1 (sure_left setup seat high x h (AtKeys read over kinds low few) owing)
    task_pays owing = subst (λ y. IsLess setup seat high y (told_entry seat x request reply ∷ h) 1 (sure_left setup seat high x h (AtKeys read over kinds low few) owing)) (sym is) (by owing moves)
      where
        by : (o : Owing setup seat x h) → Stays (world setup h) (world setup (told_entry seat x request reply ∷ h)) request reply
            ⊎ Wrote (world setup h) (world setup (told_entry seat x request reply ∷ h)) reply
            → IsLess setup seat high next (told_entry seat x request reply ∷ h) 1 (sure_left setup seat high x h (AtKeys read over kinds low few) o)
        by (IsFree none) m = none_some (sym none ∙ t.there)
        by (WillWrite u there lasts) (inl stays) = lasting_writes_it u there lasts stays
        by (WillWrite u there lasts) (inr wrote) = writes (task_left u.task) (of_it u there) wrote
        by (HasWritten u there) (inl stays) = later u there stays
        by (HasWritten u there) (inr wrote) = let left = of_it u there in writes (key_calls x.role.kind + task_left u.task) (omega (arith, left)) wrote

  -- no kind is read there
  none_read : (read : ℕ) → passing x ≡ None → ((kind : Kind) → IsIn kind (kinds_of x.role.kind) → from_of seat h kind ≡ Some read) → (kind : Kind) → x.given ≡ Some (givens.Read kind) → ⊥
  none_read read over kinds kind eg = by (read_called setup seat x request reply h given kind eg).reads
    where
      by : Reads setup seat x kind request reply h → ⊥
      by (Lists none asks answered) = none_some (sym none ∙ kinds kind (read_called setup seat x request reply h given kind eg).followed)
      by (FindsGone from gone some passes asks old answered) = none_some (sym over ∙ passes)
      by (IsTold from some passes asks low within answered) = none_some (sym over ∙ passes)

  -- ---- in a pass nothing is written

  module _ (none : x.under ≡ None) (behind : ReachedBehind setup seat (world setup h).store.version x.role x.pass h) where
    version : (world setup (told_entry seat x request reply ∷ h)).store.version ≡ (world setup h).store.version
    version = (reads_stay setup seat x request reply h (own_read x request none given.ask)).0

    free : (owing : Owing setup seat x h) → owed setup seat x h owing ≡ key_calls x.role.kind
    free (IsFree none_) = refl
    free (WillWrite u there lasts) = none_some (sym none ∙ there)
    free (HasWritten u there) = none_some (sym none ∙ there)

    pass_pays : (caches : AllKnown) (kind : Kind) → x.given ≡ Some (givens.Read kind) → (owing : Owing setup seat x h)
        → IsLess setup seat high (told_to x caches request reply) (told_entry seat x request reply ∷ h) 1 (sure_left setup seat high x h (InPass none behind) owing)
    pass_pays caches kind eg owing =
        let fewer = read_falls setup seat base x request reply h given begins reached caches kind eg in
        let same = version in
        let of_it = free owing in
        record {
          stage = InPass (none_told x request reply caches none given.ask) still;
          owing =
              IsFree (none_told x request reply caches none given.ask);
          less = omega (arith, fewer, same, of_it, asks, pass, keys);
        }
      where
        role : (told_to x caches request reply).role ≡ x.role
        role = answer_role x caches request (Told reply)

        asks : all_asks_left setup seat (told_to x caches request reply).role.kind (told_entry seat x request reply ∷ h) ≡ all_asks_left setup seat x.role.kind (told_entry seat x request reply ∷ h)
        asks = ap (λ (r : Role). all_asks_left setup seat r.kind (told_entry seat x request reply ∷ h)) role

        pass : pass_left (told_to x caches request reply).role.kind (told_to x caches request reply).pass ≡ pass_left x.role.kind (told_to x caches request reply).pass
        pass = ap (λ (r : Role). pass_left r.kind (told_to x caches request reply).pass) role

        keys : key_calls (told_to x caches request reply).role.kind ≡ key_calls x.role.kind
        keys = ap (λ (r : Role). key_calls r.kind) role

        still : ReachedBehind setup seat (world setup (told_entry seat x request reply ∷ h)).store.version (told_to x caches request reply).role
            (told_to x caches request reply).pass (told_entry seat x request reply ∷ h)
        still place kind from lt there is = let reaches =
            behind_on setup seat (world setup h).store.version x request reply h given (omega arith) behind caches place kind from lt there is in let same = version in omega (arith, reaches, same)

  pub calls_pay : (caches : AllKnown) (stage : Stage setup seat x h) (owing : Owing setup seat x h)
      → IsLess setup seat high (told_to x caches request reply) (told_entry seat x request reply ∷ h) 1 (sure_left setup seat high x h stage owing)
  calls_pay caches (InPass none behind) owing = by (given_so x request given.ask)
    where
      by : GivenSo x → IsLess setup seat high (told_to x caches request reply) (told_entry seat x request reply ∷ h) 1 (sure_left setup seat high x h (InPass none behind) owing)
      by (GivesTask e) = none_some (sym none ∙ (task_called setup seat x request reply h given e).there)
      by (GivesStart e) = absurd (no_start x.role.kind x.role.node x.memory request sure (ap (given_call x) (sym e) ∙ given.ask))
      by (GivesRead kind e) = pass_pays none behind caches kind e owing
  calls_pay caches (AtKeys read over kinds low few) owing = by (given_so x request given.ask)
    where
      by : GivenSo x → IsLess setup seat high (told_to x caches request reply) (told_entry seat x request reply ∷ h) 1 (sure_left setup seat high x h (AtKeys read over kinds low few) owing)
      by (GivesTask e) = task_pays caches e (task_called setup seat x request reply h given e) read over kinds low few owing
      by (GivesStart e) = absurd (no_start x.role.kind x.role.node x.memory request sure (ap (given_call x) (sym e) ∙ given.ask))
      by (GivesRead kind e) = absurd (none_read read over kinds kind e)
