-- Past a pass all kinds are as they stand, and a new pass is paid for by the writes that were made since the last one.
use Rattle.std.proofs.Common.{◌≡◌, ◌∙◌, ℕ, ◌+◌, ◌*◌, ◌-◌, ◌≤◌, ◌<◌, List, [], ◌∷◌, length, Bool, true, false, true≢false, Option, Some, None, inl, inr, refl, sym, ap, arith}
use Rattle.std.specs.Prelude.{◌/◌, is_some, nat_lt}
use Rattle.std.proofs.lemmas.Bool.Decides.{nat_tests}
use Rattle.std.proofs.lemmas.Option.{slice_get_within}
use Rattle.kube_parts.specs.declared.parts.Kind.{Kind}
use Rattle.kube_objects.specs.declared.objects.Object.{Object}
use Rattle.call_types.specs.declared.entry.Entry.{Entry}
use Rattle.call_types.specs.declared.setup.Setup.{Setup}
use Rattle.binder_model.specs.Reading.{following_of}
use Rattle.binder_model.specs.Told.{own}
use Rattle.binder_model.specs.World.{IsHistory, world}
use Rattle.informer_cache.specs.All.{cache_of}
use Rattle.informer_cache.specs.Cache.{watch_from}
use Rattle.model_laws.proofs.Lists.{IsIn}
use Rattle.model_laws.proofs.Watched.{logs}
use Rattle.settle_slot.proofs.Told.Allowed.{watches_on}
use Rattle.settle_slot.proofs.Told.Exact.{caught}
use Rattle.worker_core.specs.Roles.{IsBuiltKind, kind_in_order, kinds_of}
use Rattle.worker_core.specs.States.{ActorState}
use Rattle.worker_core.specs.Turns.{passing, unlisted}
use Rattle.worker_core.proofs.Answered.{passed}
use Rattle.actor_rounds.specs.Rounds.{IsReady}
use Rattle.settle_slot.proofs.Slot.Knowing.{watches_from}
use Rattle.settle_calls.specs.Events.Ahead.{from_of, sum_over}
use Rattle.settle_calls.specs.Events.Counts.{pending}
use Rattle.settle_calls.proofs.Events.Events.{none_pending}
use Rattle.settle_calls.proofs.Events.Sums.{div_falls, div_less, mul_falls, mul_less}
use Rattle.settle_calls.proofs.Passes.Given.{from_same}
use Rattle.settle_calls.proofs.Slots.Slots.{listed_in, place_in}
use Rattle.settle_round_calls.proofs.Slots.Calls.{AtKeys, InPass, Stage, kind_left, kinds_ahead, kinds_left, sweep_cost, sweep_is, told_cost_or}
use Rattle.settle_round_calls.proofs.Slots.RoundCosts.{most}

-- ---- the kinds

pub sum_none : (f : Kind → ℕ) (ks : List Kind) → ((k : Kind) → f k ≡ 0) → sum_over f ks ≡ 0
sum_none f [] each = refl
sum_none f (k ∷ ks) each = let a = each k in let rest = sum_none f ks each in omega (arith, a, rest)

pub sum_same : (f g : Kind → ℕ) (ks : List Kind) → ((k : Kind) → IsIn k ks → f k ≡ g k) → sum_over f ks ≡ sum_over g ks
sum_same f g [] each = refl
sum_same f g (k ∷ ks) each = let a = each k (inl refl) in let rest = sum_same f g ks (λ x i. each x (inr i)) in omega (arith, a, rest)

seven_times : (f : Kind → ℕ) (ks : List Kind) → sum_over (λ k. 7 * f k) ks ≡ 7 * sum_over f ks
seven_times f [] = omega arith
seven_times f (k ∷ ks) = let rest = seven_times f ks in omega (arith, rest)

module _ (setup : Setup) (seat : ℕ) (s : ActorState) (h : List Entry) (ready : IsReady seat s h) (built : IsBuiltKind s.role.kind) (history : IsHistory setup h) where
  -- what was read is no newer than the store
  low_from : (kind : Kind) (from : ℕ) → from_of seat h kind ≡ Some from → from ≤ (world setup h).store.version
  low_from kind from is =
      let on = watches_on setup h seat kind history (watches_from s.role.kind (own seat h) kind built ready.stands.told.licensed) in
      (caught setup h seat kind history on from (sym (from_same (following_of (own seat h) kind)) ∙ is)).0

  -- each kind was read as it stands where a pass is over
  module _ (behind : (place : ℕ) (kind : Kind) (from : ℕ) → place < s.pass.behind → kind_in_order s.role place ≡ Some kind
      → from_of seat h kind ≡ Some from → (world setup h).store.version ≤ from) (listed : unlisted s ≡ None) (over : passing s ≡ None) where
    pub all_read : (kind : Kind) → IsIn kind (kinds_of s.role.kind) → from_of seat h kind ≡ Some (world setup h).store.version
    all_read kind followed = by (from_of seat h kind) refl
      where
        by : (x : Option ℕ) → from_of seat h kind ≡ x → from_of seat h kind ≡ Some (world setup h).store.version
        by None e =
            let known : is_some (cache_of kind s.caches).from ≡ true = listed_in s.caches (kinds_of s.role.kind) kind listed followed in
            let c = (ready.stands.told.caches.each kind).from ∙ (ap (λ x. watch_from (following_of (own seat h) x)) (ready.stands.told.caches.kinds kind) ∙ e) in
            absurd (true≢false (sym known ∙ ap is_some c))
        by (Some from) e =
            let p = place_in (kinds_of s.role.kind) kind followed in
            let within = slice_get_within (kinds_of s.role.kind) p.0 kind p.1 in
            let all = passed (kinds_of s.role.kind) s.pass.behind over in
            let high_enough = behind p.0 kind from (omega (arith, within, all)) p.1 e in
            let low = low_from kind from e in
            let is : from ≡ (world setup h).store.version = omega (arith, high_enough, low) in
            e ∙ ap Some is

    -- and nothing of them is still to be told
    pub nothing_told : sum_over (λ k. pending k (world setup h).store.version (world setup h).log) (kinds_of s.role.kind) ≡ 0
    nothing_told = sum_none (λ k. pending k (world setup h).store.version (world setup h).log) (kinds_of s.role.kind)
        (λ k. none_pending k (world setup h).store.version (world setup h).store.version (world setup h).log (omega arith) (logs setup h 0))

-- the keys are decided with all kinds as they were read
pub record IsAtKeys (setup : Setup) (first : List Object) (seat high : ℕ) (s : ActorState) (h : List Entry) (ahead : ℕ) : Type 0 where
  pub read : ℕ
  pub over : passing s ≡ None
  pub kinds : (kind : Kind) → IsIn kind (kinds_of s.role.kind) → from_of seat h kind ≡ Some read
  pub low : read ≤ (world setup h).store.version
  pub few : sum_over (λ k. pending k read (world setup h).log) (kinds_of s.role.kind) ≤ (world setup h).store.version - read
  pub less : 7 * ((world setup h).store.version - read) + sweep_cost first s.role.kind * ((high - read) / 513) ≤ ahead

pub keys_of : (setup : Setup) (first : List Object) (seat high : ℕ) (s : ActorState) (h : List Entry) → IsReady seat s h → IsBuiltKind s.role.kind
    → IsHistory setup h → unlisted s ≡ None → passing s ≡ None → (stage : Stage setup seat s h)
    → IsAtKeys setup first seat high s h (kinds_ahead setup first seat high s h stage)
keys_of setup first seat high s h ready built history listed over (AtKeys read past kinds low few) = record { read = read; over = past; kinds = kinds; low = low; few = few; less = omega arith }
keys_of setup first seat high s h ready built history listed over (InPass none behind) =
    let told = nothing_told setup seat s h ready built history behind listed over in
    record {
      read = (world setup h).store.version;
      over = over;
      kinds = all_read setup seat s h ready built history behind listed over;
      low = omega arith;
      few = omega (arith, told);
      less = omega arith;
    }

-- ---- a new pass

-- its kinds are listed again where 513 writes were made, or what is told of them is no more than was written
pub pass_begins : (setup : Setup) (first : List Object) (seat high : ℕ) (s : ActorState) (h : List Entry) (ahead : ℕ) → (world setup h).store.version ≤ high → IsAtKeys setup first seat high s h ahead
    → kinds_left setup first seat s.role.kind h + sweep_cost first s.role.kind * ((high - (world setup h).store.version) / 513) ≤ ahead
pass_begins setup first seat high s h ahead short at = by (nat_lt (at.read + 512) (world setup h).store.version) refl
  where
    each : (gone : Bool) → nat_lt (at.read + 512) (world setup h).store.version ≡ gone → (k : Kind) → IsIn k (kinds_of s.role.kind)
        → kind_left s.role.kind (most s.role.kind first k) (world setup h) k (from_of seat h k) ≡ told_cost_or s.role.kind gone (most s.role.kind first k) (pending k at.read (world setup h).log)
    each gone is k i = ap (kind_left s.role.kind (most s.role.kind first k) (world setup h) k) (at.kinds k i)
        ∙ ap (λ b. told_cost_or s.role.kind b (most s.role.kind first k) (pending k at.read (world setup h).log)) is

    by : (gone : Bool) → nat_lt (at.read + 512) (world setup h).store.version ≡ gone
        → kinds_left setup first seat s.role.kind h + sweep_cost first s.role.kind * ((high - (world setup h).store.version) / 513) ≤ ahead
    by true is =
        let far : at.read + 512 < (world setup h).store.version = grind (arith, nat_tests, is) in
        let same = sum_same (λ k. kind_left s.role.kind (most s.role.kind first k) (world setup h) k (from_of seat h k))
        (λ k. most s.role.kind first k + (2 + length (kinds_of s.role.kind))) (kinds_of s.role.kind) (each true is) in
        let all = sweep_is first s.role.kind in
        let falls = mul_falls (sweep_cost first s.role.kind) ((high - (world setup h).store.version) / 513) ((high - at.read) / 513)
        (div_falls (high - (world setup h).store.version) (high - at.read) (omega (arith, far, short))) in
        let less = at.less in
        omega (arith, far, same, all, falls, less)
    by false is =
        let same = sum_same (λ k. kind_left s.role.kind (most s.role.kind first k) (world setup h) k (from_of seat h k))
        (λ k. 7 * pending k at.read (world setup h).log) (kinds_of s.role.kind) (each false is) in
        let seven = seven_times (λ k. pending k at.read (world setup h).log) (kinds_of s.role.kind) in
        let low = at.low in
        let few = at.few in
        let falls = mul_less (sweep_cost first s.role.kind) ((high - (world setup h).store.version) / 513) ((high - at.read) / 513)
        (div_less (high - (world setup h).store.version) (high - at.read) (omega (arith, low))) in
        let less = at.less in
        omega (arith, same, seven, few, falls, less)
