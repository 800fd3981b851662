-- What is still to come at a point of a slot past its first pass, and what one call that reads no whole kind does to it: a write is one of those
-- that are still ahead, and pays for its event, for the pass that tells it and for the decision on it.
use Rattle.std.proofs.Common.{◌≡◌, ◌⊎◌, ℕ, ◌+◌, ◌*◌, ◌-◌, ◌≤◌, ◌<◌, List, [], ◌∷◌, length, Bool, Option, Some, None, inl, inr, refl, ap, arith, if◌then◌else◌}
use Rattle.std.specs.Prelude.{◌/◌, cond, nat_lt}
use Rattle.kube_objects.specs.declared.key.Key.{Key}
use Rattle.kube_parts.specs.declared.parts.Kind.{Kind}
use Rattle.kube_objects.specs.declared.objects.Object.{Object}
use Rattle.kube_objects.specs.Keys.{kind_of, same_kind}
use Rattle.call_types.specs.declared.entry.Entry.{Entry}
use Rattle.call_types.specs.declared.request.SeatKind.{SeatKind}
use Rattle.call_types.specs.declared.setup.Setup.{Setup}
use Rattle.binder_model.specs.World.{World, world}
use Rattle.model_laws.proofs.Lists.{IsIn}
use Rattle.sync_queue.specs.Work.{Work}
use Rattle.worker_core.specs.Roles.{kind_in_order, kinds_of}
use Rattle.worker_core.specs.States.{ActorState}
use Rattle.worker_core.specs.Turns.{passing}
use Rattle.settle_calls.specs.Tasks.Costs.{work_cost}
use Rattle.settle_calls.specs.Tasks.Ends.{done_by, start_left}
use Rattle.settle_calls.specs.Tasks.Tasks.{under_left}
use Rattle.worker_core.specs.declared.turn.Pass.{Pass}
use Rattle.settle_calls.specs.Events.Ahead.{from_of, sum_over}
use Rattle.settle_calls.specs.Events.Counts.{pending}
use Rattle.settle_calls.proofs.Tasks.Works.{work_less}
use Rattle.settle_calls.proofs.Events.Calls.{Stays, Wrote}
use Rattle.settle_calls.proofs.Events.Events.{one_more}
use Rattle.settle_calls.proofs.Events.Sums.{at_kind, once, sum_more}
use Rattle.settle_round_calls.proofs.Slots.RoundCosts.{cost_in, most}

-- ---- what is still to come

-- what may still be asked of a kind in a pass: where its events are no longer kept, a watch says so, the kind is listed, and a pass comes after
-- this one; else the events that are to be told
abbrev pub told_cost_or : SeatKind → Bool → ℕ → ℕ → ℕ
told_cost_or kind gone keys events = if gone then keys + (2 + length (kinds_of kind)) else 7 * events

abbrev pub kind_left : SeatKind → ℕ → World → Kind → Option ℕ → ℕ
kind_left kind keys w k None = keys + 1
kind_left kind keys w k (Some from) = told_cost_or kind (nat_lt (from + 512) w.store.version) keys (pending k from w.log)

-- of all kinds that the actor follows
abbrev pub kinds_left : Setup → List Object → ℕ → SeatKind → List Entry → ℕ
kinds_left setup first seat kind h = sum_over (λ k. kind_left kind (most kind first k) (world setup h) k (from_of seat h k)) (kinds_of kind)

-- the watches of the pass, and those of the next one where it brought an event
abbrev pub pass_left : SeatKind → Pass → ℕ
pass_left kind p = (length (kinds_of kind) - p.behind) + (if p.event then length (kinds_of kind) else 0)

-- of what is under way, of the start and of the keys that wait
abbrev pub rest_left : List Object → SeatKind → World → ActorState → ℕ
rest_left first kind w s = under_left s.under + (start_left s.role s.memory + work_cost (cost_in kind first w.store.rows) s.work)

-- what a sweep costs, in which all kinds are listed again since 513 writes were made after the pass before: each of these writes has seven calls
-- left for an event that is never told
pub sweep_cost : List Object → SeatKind → ℕ
sweep_cost first kind = sum_over (λ k. most kind first k + (2 + length (kinds_of kind))) (kinds_of kind) - 7 * 513

pub sweep_is : (first : List Object) (kind : SeatKind) → sweep_cost first kind ≡ sum_over (λ k. most kind first k + (2 + length (kinds_of kind))) (kinds_of kind) - 7 * 513
unfolding sweep_cost
sweep_is first kind = refl

-- where a slot stands past its first pass: in a further pass, in which nothing is written, so that each kind behind it was read as it stands; or at
-- the keys, with all kinds as they were read in the pass before
pub data Stage (setup : Setup) (seat : ℕ) (s : ActorState) (h : List Entry) : Type 0 where
  InPass : s.under ≡ None → ((place : ℕ) (kind : Kind) (from : ℕ) → place < s.pass.behind → kind_in_order s.role place ≡ Some kind → from_of seat h
      kind ≡ Some from → (world setup h).store.version ≤ from) → Stage setup seat s h
  AtKeys : (read : ℕ) → passing s ≡ None → ((kind : Kind) → IsIn kind (kinds_of s.role.kind) → from_of seat h kind ≡ Some read) → read ≤ (world setup h).store.version
      → sum_over (λ k. pending k read (world setup h).log) (kinds_of s.role.kind) ≤ (world setup h).store.version - read → Stage setup seat s h

-- what the kinds still cost: those of the pass, or the writes since the last one, and the sweeps that are ahead
abbrev pub kinds_ahead : (setup : Setup) (first : List Object) (seat high : ℕ) (s : ActorState) (h : List Entry) → Stage setup seat s h → ℕ
kinds_ahead setup first seat high s h (InPass none behind) = kinds_left setup first seat s.role.kind h + sweep_cost first s.role.kind * ((high - (world setup h).store.version) / 513)
kinds_ahead setup first seat high s h (AtKeys read over kinds low few) = 7 * ((world setup h).store.version - read) + sweep_cost first s.role.kind * ((high - read) / 513)

-- with the writes that are still ahead, the rest and the pass
abbrev pub slot_left : (setup : Setup) (first : List Object) (seat high : ℕ) (s : ActorState) (h : List Entry) → Stage setup seat s h → ℕ
slot_left setup first seat high s h stage =
    8 * (high - (world setup h).store.version) + (rest_left first s.role.kind (world setup h) s + (kinds_ahead setup first seat high s h stage + pass_left s.role.kind s.pass))

-- so much less than a number
pub record IsLess (setup : Setup) (first : List Object) (seat high : ℕ) (s : ActorState) (h : List Entry) (fewer most_left : ℕ) : Type 0 where
  pub stage : Stage setup seat s h
  pub less : slot_left setup first seat high s h stage + fewer ≤ most_left

-- ---- one kind is written

abbrev is_at : Kind → Kind → ℕ
is_at kind k = cond (same_kind kind k) 1 0

nine_times : (f : Kind → ℕ) (ks : List Kind) → sum_over (λ k. 9 * f k) ks ≡ 9 * sum_over f ks
nine_times f [] = omega arith
nine_times f (k ∷ ks) = let rest = nine_times f ks in omega (arith, rest)

-- a kind is followed once
followed_once : (kind : SeatKind) (k : Kind) → sum_over (is_at k) (kinds_of kind) ≤ 1
followed_once kind k =
    let nine = once kind k in
    let a : sum_over (at_kind k) (kinds_of kind) ≡ 9 * sum_over (is_at k) (kinds_of kind) = nine_times (is_at k) (kinds_of kind) in
    omega (arith, nine, a)

-- ---- a call

module _ (setup : Setup) (kind : SeatKind) (read : ℕ) (e : Entry) (h : List Entry) (low : read ≤ (world setup h).store.version) where
  -- the store is no older behind it
  pub low_on : Stays (world setup h) (world setup (e ∷ h)) e.request e.reply ⊎ Wrote (world setup h) (world setup (e ∷ h)) e.reply → read ≤ (world setup (e ∷ h)).store.version
  low_on (inr wrote) = let version = wrote.version in omega (arith, version, low)
  low_on (inl stays) = let version = stays.version in omega (arith, version, low)

  -- no more events are to be told than there were writes
  pub few_on : Stays (world setup h) (world setup (e ∷ h)) e.request e.reply ⊎ Wrote (world setup h) (world setup (e ∷ h)) e.reply
      → sum_over (λ k. pending k read (world setup h).log) (kinds_of kind) ≤ (world setup h).store.version - read
      → sum_over (λ k. pending k read (world setup (e ∷ h)).log) (kinds_of kind) ≤ (world setup (e ∷ h)).store.version - read
  few_on (inr wrote) few =
      let sum = sum_more (λ k. pending k read (world setup h).log) (λ k. pending k read (world setup (e ∷ h)).log) (λ k. is_at (kind_of wrote.event.object) k) (kinds_of kind) each in
      let one = followed_once kind (kind_of wrote.event.object) in
      let version = wrote.version in
      omega (arith, sum, one, version, few, low)
    where
      each : (k : Kind) → pending k read (world setup (e ∷ h)).log ≤ pending k read (world setup h).log + is_at (kind_of wrote.event.object) k
      each k =
          let more = one_more k read wrote.event (world setup h).log in
          let log : pending k read (world setup (e ∷ h)).log ≡ pending k read (wrote.event ∷ (world setup h).log) = ap (pending k read) wrote.log in
          omega (arith, more, log)
  few_on (inl stays) few =
      let version = stays.version in
      let log : sum_over (λ k. pending k read (world setup (e ∷ h)).log) (kinds_of kind) ≡ sum_over (λ k. pending k read (world setup h).log)
      (kinds_of kind) = ap (λ l. sum_over (λ k. pending k read l) (kinds_of kind)) stays.log in
      omega (arith, version, log, few)

module _ (setup : Setup) (first : List Object) (kind : SeatKind) (high read : ℕ) (e : Entry) (h : List Entry)
    (short : (world setup (e ∷ h)).store.version ≤ high) (low : read ≤ (world setup h).store.version)
    (falls : (key : Key) → cost_in kind first (world setup (e ∷ h)).store.rows key ≤ cost_in kind first (world setup h).store.rows key) where
  -- a write is one of those ahead, and pays for what it brings
  pub call_pays : (work : Work) → done_by e.request e.reply ≤ 1 → Stays (world setup h) (world setup (e ∷ h)) e.request e.reply ⊎ Wrote (world setup h) (world setup (e ∷ h)) e.reply
      → 8 * (high - (world setup (e ∷ h)).store.version) + work_cost (cost_in kind first (world setup (e ∷ h)).store.rows) work + 7 *
      ((world setup (e ∷ h)).store.version - read) + done_by e.request e.reply
      ≤ 8 * (high - (world setup h).store.version) + work_cost (cost_in kind first (world setup h).store.rows) work + 7 * ((world setup h).store.version - read)
  call_pays work few (inr wrote) =
      let a = work_less (cost_in kind first (world setup h).store.rows) (cost_in kind first (world setup (e ∷ h)).store.rows) work falls in
      let version = wrote.version in
      omega (arith, a, version, short, few, low)
  call_pays work few (inl stays) =
      let a = work_less (cost_in kind first (world setup h).store.rows) (cost_in kind first (world setup (e ∷ h)).store.rows) work falls in
      let version = stays.version in
      let none = stays.none in
      omega (arith, a, version, none)
