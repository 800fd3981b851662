-- The kinds that an actor follows: past a pass all are as they stand, a new pass is paid for by the writes since the last one, and each read of it leaves
-- less to be asked.
use Rattle.std.proofs.Common.{◌≡◌, ◌∙◌, ℕ, ◌+◌, ◌*◌, ◌-◌, ◌≤◌, ◌<◌, List, [], ◌∷◌, length, Bool, true, false, Option, Some, None, inl, inr, refl, sym, ap, subst, arith, mul_comm}
use Rattle.std.specs.Prelude.{◌==◌, nat_lt}
use Rattle.std.proofs.lemmas.Bool.Decides.{nat_tests}
use Rattle.std.proofs.lemmas.Option.{slice_get_within}
use Rattle.std.proofs.Math.Nat.{mul-add}
use Rattle.kube_parts.specs.declared.parts.Kind.{Kind}
use Rattle.kube_objects.specs.Keys.{rows_of, same_kind}
use Rattle.call_types.specs.declared.entry.Entry.{Entry}
use Rattle.call_types.specs.declared.reply.Reply.{Reply}
use Rattle.call_types.specs.declared.reply.Reply.TheVariants as replies
use Rattle.call_types.specs.declared.request.Request.{Request}
use Rattle.call_types.specs.declared.request.Request.TheVariants as requests
use Rattle.call_types.specs.declared.request.SeatKind.{SeatKind}
use Rattle.call_types.specs.declared.setup.Setup.{Setup}
use Rattle.call_types.specs.Kinds.{reads_kind}
use Rattle.binder_model.specs.Watching.{most_events, told_events}
use Rattle.binder_model.specs.World.{IsHistory, base as base_of, world}
use Rattle.informer_cache.specs.All.{AllKnown}
use Rattle.model_laws.proofs.Lists.{IsIn}
use Rattle.model_laws.proofs.Watched.{logs}
use Rattle.worker_core.specs.declared.turn.Given.TheVariants as givens
use Rattle.worker_core.specs.Absorbs.{given_told, is_passing, learned, pass_after, read_told, told_to}
use Rattle.worker_core.specs.Roles.{IsBuiltKind, kinds_of}
use Rattle.worker_core.specs.States.{ActorState}
use Rattle.worker_core.specs.Turns.{passing, unlisted}
use Rattle.actor_rounds.specs.Rounds.{IsReady, told_entry}
use Rattle.settle_calls.specs.Events.Ahead.{from_of, sum_over}
use Rattle.settle_calls.specs.Events.Counts.{pending}
use Rattle.settle_calls.specs.Events.Telling.{told}
use Rattle.settle_calls.proofs.Events.Calls.{Stays, gone_from, listed_from, unread_from, watched_from}
use Rattle.settle_calls.proofs.Events.Events.{none_pending, told_so}
use Rattle.settle_calls.proofs.Events.Sums.{mul_less, sum_falls}
use Rattle.settle_calls.proofs.Passes.Given.{FindsGone, IsTold, Lists, ReadCalled, Reads, read_called}
use Rattle.settle_calls.proofs.Passes.Told.{within_five}
use Rattle.settle_calls.specs.Passes.Passes.{IsCallGiven, KindsHaveReached}
use Rattle.settle_write_counts.proofs.Rounds.Sums.{one_more}
use Rattle.settle_round_calls.proofs.Slots.Calls.{AtKeys, InPass, Stage, pass_left}
use Rattle.settle_round_calls.proofs.Slots.Passes.{pass_less}
use Rattle.settle_round_calls.proofs.Slots.Stages.{all_read, nothing_told, sum_same}
use Rattle.settle_round_calls.proofs.Sure.Left.{all_asks_left, asks_left, kinds_owed, told_or}

-- ---- numbers

times_sum : (n : ℕ) (f : Kind → ℕ) (ks : List Kind) → sum_over (λ k. n * f k) ks ≡ n * sum_over f ks
times_sum n f [] = omega arith
times_sum n f (k ∷ ks) = let rest = times_sum n f ks in let both = mul-add n (f k) (sum_over f ks) in omega (arith, rest, both)

same_sum : (n : ℕ) (ks : List Kind) → sum_over (λ k. n) ks ≡ length ks * n
same_sum n [] = omega arith
same_sum n (k ∷ ks) =
    let rest = same_sum n ks in
    let more = one_more (length ks) n in
    omega (arith, rest, more)

none_times : (n : ℕ) → n * 0 ≡ 0
none_times n = omega arith

pub none_since : (n v : ℕ) → n * (v - v) ≡ 0
none_since n v = let z : v - v ≡ 0 = omega arith in ap (λ m. n * m) z ∙ none_times n

-- ---- a pass is over

-- the keys are decided with all kinds as they were read
pub record IsAtKeys (setup : Setup) (seat : ℕ) (s : ActorState) (h : List Entry) (ahead : ℕ) : Type 0 where
  pub read : ℕ
  pub over : passing s ≡ None
  pub kinds : (kind : Kind) → IsIn kind (kinds_of s.role.kind) → from_of seat h kind ≡ Some read
  pub low : read ≤ (world setup h).store.version
  pub few : sum_over (λ k. pending k read (world setup h).log) (kinds_of s.role.kind) ≤ (world setup h).store.version - read
  pub less : length (kinds_of s.role.kind) * ((world setup h).store.version - read) ≤ ahead

pub keys_of : (setup : Setup) (seat : ℕ) (s : ActorState) (h : List Entry) → IsReady seat s h → IsBuiltKind s.role.kind → IsHistory setup h
    → unlisted s ≡ None → passing s ≡ None → (stage : Stage setup seat s h) → IsAtKeys setup seat s h (kinds_owed setup seat s h stage)
keys_of setup seat s h ready built history listed over (AtKeys read past kinds low few) = record { read = read; over = past; kinds = kinds; low = low; few = few; less = omega arith }
keys_of setup seat s h ready built history listed over (InPass none behind) =
    let told = nothing_told setup seat s h ready built history behind listed over in
    let since = none_since (length (kinds_of s.role.kind)) (world setup h).store.version in
    record {
      read = (world setup h).store.version;
      over = over;
      kinds = all_read setup seat s h ready built history behind listed over;
      low = omega arith;
      few = omega (arith, told);
      less = omega (arith, since);
    }

-- ---- a new pass

-- its kinds are listed again where 513 writes were made, or what is told of them is no more than was written
pub pass_begins : (setup : Setup) (seat : ℕ) (s : ActorState) (h : List Entry) (ahead : ℕ) → IsAtKeys setup seat s h ahead → all_asks_left setup seat s.role.kind h ≤ ahead
pass_begins setup seat s h ahead at = by (nat_lt (at.read + 512) (world setup h).store.version) refl
  where
    each : (gone : Bool) → nat_lt (at.read + 512) (world setup h).store.version ≡ gone → (k : Kind) → IsIn k (kinds_of s.role.kind)
        → asks_left s.role.kind (world setup h) k (from_of seat h k) ≡ told_or s.role.kind gone (pending k at.read (world setup h).log)
    each gone is k i = ap (asks_left s.role.kind (world setup h) k) (at.kinds k i) ∙ ap (λ b. told_or s.role.kind b (pending k at.read (world setup h).log)) is

    by : (gone : Bool) → nat_lt (at.read + 512) (world setup h).store.version ≡ gone → all_asks_left setup seat s.role.kind h ≤ ahead
    by true is =
        let far : at.read + 512 < (world setup h).store.version = grind (arith, nat_tests, is) in
        let same = sum_same (λ k. asks_left s.role.kind (world setup h) k (from_of seat h k)) (λ k. 2 + length (kinds_of s.role.kind)) (kinds_of s.role.kind) (each true is) in
        let all = same_sum (2 + length (kinds_of s.role.kind)) (kinds_of s.role.kind) in
        let five = within_five s.role.kind in
        let few = mul_less (length (kinds_of s.role.kind)) (2 + length (kinds_of s.role.kind)) ((world setup h).store.version - at.read) (omega (arith, far, five)) in
        let less = at.less in
        omega (arith, same, all, few, less)
    by false is =
        let same = sum_same (λ k. asks_left s.role.kind (world setup h) k (from_of seat h k))
        (λ k. length (kinds_of s.role.kind) * pending k at.read (world setup h).log) (kinds_of s.role.kind) (each false is) in
        let times = times_sum (length (kinds_of s.role.kind)) (λ k. pending k at.read (world setup h).log) (kinds_of s.role.kind) in
        let few = mul_less (length (kinds_of s.role.kind)) (sum_over (λ k. pending k at.read (world setup h).log) (kinds_of s.role.kind)) ((world setup h).store.version - at.read) at.few in
        let less = at.less in
        omega (arith, same, times, few, less)

-- ---- a read of the pass

asks_still : (setup : Setup) (kind : SeatKind) (e : Entry) (h : List Entry) (k : Kind) (x : Option ℕ)
    → Stays (world setup h) (world setup (e ∷ h)) e.request e.reply → asks_left kind (world setup (e ∷ h)) k x ≡ asks_left kind (world setup h) k x
asks_still setup kind e h k None stays = refl
asks_still setup kind e h k (Some from) stays =
    ap (λ n. told_or kind (nat_lt (from + 512) n) (pending k from (world setup (e ∷ h)).log)) stays.version
    ∙ ap (λ l. told_or kind (nat_lt (from + 512) (world setup h).store.version) (pending k from l)) stays.log

module _ (setup : Setup) (seat base : ℕ) (x : ActorState) (request : Request) (reply : Reply) (h : List Entry)
    (given : IsCallGiven setup seat x request reply h) (begins : base_of setup ≤ base) (reached : KindsHaveReached base seat x.role.kind h) where
  -- the kinds and the pass
  abbrev cost : ActorState → List Entry → ℕ
  cost y es = all_asks_left setup seat x.role.kind es + pass_left x.role.kind y.pass

  pub read_falls : (caches : AllKnown) (kind : Kind) → x.given ≡ Some (givens.Read kind) → cost (told_to x caches request reply) (told_entry seat x request reply ∷ h) + 1 ≤ cost x h
  read_falls caches kind eg = subst (λ y. cost y (told_entry seat x request reply ∷ h) + 1 ≤ cost x h) (sym is) (by r.reads)
    where
      is : told_to x caches request reply ≡ read_told (learned x caches request reply) kind request reply
      is = ap (given_told (learned x caches request reply) request reply) eg

      r : ReadCalled setup seat x kind request reply h
      r = read_called setup seat x request reply h given kind eg

      -- so much of the kind pays for the pass
      paid : (n b : ℕ) → asks_left x.role.kind (world setup h) kind
          (from_of seat (told_entry seat x request reply ∷ h) kind) + n ≤ asks_left x.role.kind (world setup h) kind (from_of seat h kind)
          → ((k : Kind) → same_kind kind k ≡ false → reads_kind k request ≡ false)
          → pass_left x.role.kind (pass_after x.pass (is_passing (passing x) kind) request reply) + 1 ≤ pass_left x.role.kind x.pass + b → b ≤ n
          → cost (read_told (learned x caches request reply) kind request reply) (told_entry seat x request reply ∷ h) + 1 ≤ cost x h
      paid n b own unread pass enough =
          let sum = sum_falls (λ k. asks_left x.role.kind (world setup h) k (from_of seat h k))
          (λ k. asks_left x.role.kind (world setup (told_entry seat x request reply ∷ h)) k
          (from_of seat (told_entry seat x request reply ∷ h) k)) n kind (kinds_of x.role.kind) others mine followed in
          omega (arith, sum, pass, enough)
        where
          stays : Stays (world setup h) (world setup (told_entry seat x request reply ∷ h)) request reply
          stays = (read_called setup seat x request reply h given kind eg).stays

          followed : IsIn kind (kinds_of x.role.kind)
          followed = (read_called setup seat x request reply h given kind eg).followed

          others : (k : Kind) → same_kind kind k ≡ false
              → asks_left x.role.kind (world setup (told_entry seat x request reply ∷ h)) k
              (from_of seat (told_entry seat x request reply ∷ h) k) ≤ asks_left x.role.kind (world setup h) k (from_of seat h k)
          others k other =
              let a = asks_still setup x.role.kind (told_entry seat x request reply) h k (from_of seat (told_entry seat x request reply ∷ h) k) stays in
              let b = ap (asks_left x.role.kind (world setup h) k) (unread_from seat (told_entry seat x request reply) h refl refl k (unread k other)) in
              omega (arith, a, b)

          mine : asks_left x.role.kind (world setup (told_entry seat x request reply ∷ h)) kind
              (from_of seat (told_entry seat x request reply ∷ h) kind) + n ≤ asks_left x.role.kind (world setup h) kind (from_of seat h kind)
          mine = let a = asks_still setup x.role.kind (told_entry seat x request reply) h kind (from_of seat (told_entry seat x request reply ∷ h) kind) stays in omega (arith, a, own)

      unread_watch : (k : Kind) (from : ℕ) → request ≡ requests.Watch kind from → same_kind kind k ≡ false → reads_kind k request ≡ false
      unread_watch k from e other = ap (reads_kind k) e ∙ other

      -- its events are kept
      kept_from : (from : ℕ) → (world setup h).store.version ≤ from + 512
          → asks_left x.role.kind (world setup h) kind (Some from) ≡ length (kinds_of x.role.kind) * pending kind from (world setup h).log
      kept_from from near = let no : nat_lt (from + 512) (world setup h).store.version ≡ false = grind (arith, nat_tests, near) in
          ap (λ b. told_or x.role.kind b (pending kind from (world setup h).log)) no

      by : Reads setup seat x kind request reply h → cost (read_told (learned x caches request reply) kind request reply) (told_entry seat x request reply ∷ h) + 1 ≤ cost x h
      by (Lists none asks answered) =
          let now = listed_from seat (told_entry seat x request reply) h refl refl kind (rows_of kind (world setup h).store.rows) (world setup h).store.version asks answered in
          let pend = none_pending kind (world setup h).store.version (world setup h).store.version (world setup h).log (omega arith) (logs setup h 0) in
          let before : asks_left x.role.kind (world setup h) kind (from_of seat h kind) ≡ 1 = ap (asks_left x.role.kind (world setup h) kind) none in
          let after : asks_left x.role.kind (world setup h) kind (from_of seat (told_entry seat x request reply ∷ h) kind) ≡ 0 =
          ap (asks_left x.role.kind (world setup h) kind) now
          ∙ (kept_from (world setup h).store.version (omega arith) ∙ (ap (λ n. length (kinds_of x.role.kind) * n) pend ∙ none_times (length (kinds_of x.role.kind)))) in
          let pass : pass_left x.role.kind (pass_after x.pass (is_passing (passing x) kind) request reply) ≡ pass_left x.role.kind x.pass =
          ap (λ q. pass_left x.role.kind (pass_after x.pass (is_passing (passing x) kind) q reply)) asks in
          paid 1 1 (omega (arith, before, after)) (λ k other. ap (reads_kind k) asks ∙ other) (omega (arith, pass)) (omega arith)
      by (FindsGone from gone some passes asks old answered) =
          let now = gone_from seat (told_entry seat x request reply) h refl refl kind from gone asks answered in
          let low = reached kind from (read_called setup seat x request reply h given kind eg).follows_it some in
          let far : from + 512 < (world setup h).store.version = omega (arith, old, low, begins) in
          let is_gone : nat_lt (from + 512) (world setup h).store.version ≡ true = grind (arith, nat_tests, far) in
          let before : asks_left x.role.kind (world setup h) kind (from_of seat h kind) ≡ 2 + length (kinds_of x.role.kind) =
          ap (asks_left x.role.kind (world setup h) kind) some ∙ ap (λ b. told_or x.role.kind b (pending kind from (world setup h).log)) is_gone in
          let after : asks_left x.role.kind (world setup h) kind (from_of seat (told_entry seat x request reply ∷ h) kind) ≡ 1 = ap (asks_left x.role.kind (world setup h) kind) now in
          let pass : pass_left x.role.kind (pass_after x.pass (is_passing (passing x) kind) request reply) ≡ (length (kinds_of x.role.kind) -
          x.pass.behind) + length (kinds_of x.role.kind) =
          ap (λ q. pass_left x.role.kind (pass_after x.pass (is_passing (passing x) kind) q reply)) asks
          ∙ ap (λ a. pass_left x.role.kind (pass_after x.pass (is_passing (passing x) kind) (requests.Watch kind from) a)) answered in
          paid (1 + length (kinds_of x.role.kind)) (1 + length (kinds_of x.role.kind)) (omega (arith, before, after)) (λ k other. unread_watch k from asks other) (omega (arith, pass)) (omega arith)
      by (IsTold from some passes asks low within answered) = told_by (length (told kind from (world setup h).log) == most_events) refl
        where
          told_by : (full : Bool) → (length (told kind from (world setup h).log) == most_events) ≡ full
              → cost (read_told (learned x caches request reply) kind request reply) (told_entry seat x request reply ∷ h) + 1 ≤ cost x h
          told_by full e =
              let so = told_so setup h kind from full low e in
              let now = watched_from seat (told_entry seat x request reply) h refl refl kind from from (world setup h).store.version (world setup h).log asks answered some in
              let up : from ≤ (told_events kind from (world setup h).store.version (world setup h).log).upto = not_below full so.reached so.whole in
              let near : (world setup h).store.version ≤ from + 512 = omega (arith, within) in
              let before : asks_left x.role.kind (world setup h) kind (from_of seat h kind) ≡ length (kinds_of x.role.kind) * pending kind from
              (world setup h).log = ap (asks_left x.role.kind (world setup h) kind) some ∙ kept_from from near in
              let after : asks_left x.role.kind (world setup h) kind (from_of seat (told_entry seat x request reply ∷ h) kind) ≡ length
              (kinds_of x.role.kind) * pending kind (told_events kind from (world setup h).store.version (world setup h).log).upto (world setup h).log =
              ap (asks_left x.role.kind (world setup h) kind) now ∙ kept_from (told_events kind from (world setup h).store.version (world setup h).log).upto (omega (arith, near, up)) in
              let both = mul-add (length (kinds_of x.role.kind)) (length (told kind from (world setup h).log))
              (pending kind (told_events kind from (world setup h).store.version (world setup h).log).upto (world setup h).log) in
              let fewer = mul_less (length (kinds_of x.role.kind))
              (length (told kind from (world setup h).log) + pending kind
              (told_events kind from (world setup h).store.version (world setup h).log).upto (world setup h).log) (pending kind from (world setup h).log) so.fewer in
              let turned = mul_comm (length (told kind from (world setup h).log)) (length (kinds_of x.role.kind)) in
              let pass_is : pass_left x.role.kind (pass_after x.pass (is_passing (passing x) kind) request reply) ≡ pass_left x.role.kind
              (pass_after x.pass (is_passing (passing x) kind) (requests.Watch kind from) (replies.Events (told_events kind from (world setup h).store.version (world setup h).log))) =
              ap (λ q. pass_left x.role.kind (pass_after x.pass (is_passing (passing x) kind) q reply)) asks
              ∙ ap (λ a. pass_left x.role.kind (pass_after x.pass (is_passing (passing x) kind) (requests.Watch kind from) a)) answered in
              let own : asks_left x.role.kind (world setup h) kind (from_of seat (told_entry seat x request reply ∷ h) kind) + length
              (kinds_of x.role.kind) * length (told kind from (world setup h).log) ≤ asks_left x.role.kind (world setup h) kind (from_of seat h kind) = omega (arith, before, after, both, fewer) in
              elim (pass_less x.role x.pass kind from (told_events kind from (world setup h).store.version (world setup h).log) passes) [
                | inl p ↦
                    let n : length (told kind from (world setup h).log) ≡ most_events = counted p.0 in
                    let many : length (told kind from (world setup h).log) * length (kinds_of x.role.kind) ≡ 64 * length (kinds_of x.role.kind) = ap (λ j. j * length (kinds_of x.role.kind)) n in
                    let some_kind = slice_get_within (kinds_of x.role.kind) x.pass.behind kind passes in
                    let less_pass = p.1 in
                    paid (length (kinds_of x.role.kind) * length (told kind from (world setup h).log)) (length (kinds_of x.role.kind) + 1) own
                    (λ k other. unread_watch k from asks other) (omega (arith, pass_is, less_pass)) (omega (arith, turned, many, some_kind))
                | inr p ↦
                    let less_pass = p.1 in
                    paid (length (kinds_of x.role.kind) * length (told kind from (world setup h).log))
                    (length (told kind from (world setup h).log) * length (kinds_of x.role.kind)) own (λ k other. unread_watch k from asks other)
                    (omega (arith, pass_is, less_pass)) (omega (arith, turned))
              ]
            where
              counted : (length (told kind from (world setup h).log) == most_events) ≡ true → length (told kind from (world setup h).log) ≡ most_events
              counted is_full = grind (arith, nat_tests, is_full)

              not_below : (b : Bool) → (b ≡ true → from + most_events ≤
                  (told_events kind from (world setup h).store.version (world setup h).log).upto)
                  → (b ≡ false → (told_events kind from (world setup h).store.version (world setup h).log).upto ≡ (world setup h).store.version)
                  → from ≤ (told_events kind from (world setup h).store.version (world setup h).log).upto
              not_below true reaches whole = let r = reaches refl in omega (arith, r)
              not_below false reaches whole = let r = whole refl in omega (arith, r, low)
