-- A round makes few calls beside its writes: the sum of its slots.
use Rattle.std.proofs.Common.{◌≡◌, ℕ, suc, ◌+◌, ◌*◌, ◌≤◌, List, length, Bool, true, false, None, refl, sym, ap, subst, arith}
use Rattle.std.specs.Prelude.{◌/◌}
use Rattle.std.proofs.Math.Nat.{add-mul, mul-add}
use Rattle.std.proofs.lemmas.Nat.{div-add-mod', le-div, mul-le}
use Rattle.kube_objects.specs.declared.objects.Object.{Object}
use Rattle.call_types.specs.declared.entry.Entry.{Entry}
use Rattle.call_types.specs.declared.request.SeatKind.TheVariants as seats
use Rattle.call_types.specs.declared.setup.Setup.{Setup}
use Rattle.binder_model.specs.Promises.{IsRunOf}
use Rattle.binder_model.specs.World.{world}
use Rattle.model_laws.proofs.Growing.{runs_are_histories}
use Rattle.model_laws.proofs.Histories.{rows_stand_in_order}
use Rattle.settle_measure.specs.Left.Measure.{total}
use Rattle.worker_core.specs.Absorbs.{woken}
use Rattle.worker_core.specs.Roles.{IsBuiltKind}
use Rattle.actor_rounds.specs.declared.drainers.Drainer.{Drainer}
use Rattle.actor_rounds.specs.Drainers.{AreAtRest, roles_of}
use Rattle.actor_rounds.specs.Rounds.{Ends, IsRound, Lets, Runs, Turns}
use Rattle.actor_rounds.proofs.RoundFacts.{AreBuilt, round_grows}
use Rattle.actor_rounds.proofs.RunFacts.{run_grows}
use Rattle.settle_calls.specs.Tasks.Costs.{calls_for}
use Rattle.settle_calls.specs.Tasks.Tasks.{under_left}
use Rattle.settle_calls.specs.Slots.Slots.{PassesReads, slot_cost, writes_since}
use Rattle.settle_calls.proofs.Slots.Rounds.{cheaper, total_less, total_sized}
use Rattle.settle_calls.proofs.Slots.Slots.{slots_are_short}
use Rattle.settle_progress.proofs.Epochs.Silent.{older_run}
use Rattle.settle_write_counts.proofs.Rounds.Runs.{silent_run}
use Rattle.settle_write_counts.proofs.Rounds.Slots.{counted}
use Rattle.settle_write_counts.specs.Rounds.Rounds.{most_size}
use Rattle.settle_write_counts.proofs.Rounds.Growth.{AreGiven, given_few}
use Rattle.settle_write_counts.proofs.Rounds.Made.{slot_given}

-- ---- numbers

-- two quotients are no more than that of the sum
quotients : (a b : ℕ) → a / 513 + b / 513 ≤ (a + b) / 513
quotients a b =
    let x = div-add-mod' a 513 in
    let y = div-add-mod' b 513 in
    le-div (a / 513 + b / 513) (a + b) 513 (omega arith) (omega (arith, x, y))

pub swept : (m a b : ℕ) → m * (a / 513) + m * (b / 513) ≤ m * ((a + b) / 513)
swept m a b =
    let split : m * (a / 513 + b / 513) ≡ m * (a / 513) + m * (b / 513) = mul-add m (a / 513) (b / 513) in
    let most = mul-le m (a / 513 + b / 513) m ((a + b) / 513) (omega arith) (quotients a b) in
    omega (arith, split, most)

pub one_more : (n p : ℕ) → suc n * p ≡ p + n * p
one_more n p =
    let e = add-mul n 1 p in
    let one_time : 1 * p ≡ p = omega arith in
    let same : suc n * p ≡ (n + 1) * p = ap (λ k. k * p) (let s : suc n ≡ n + 1 = omega arith in s) in
    omega (arith, e, one_time, same)

-- what one slot costs, by all writes of the round
slot_part : (objects size writes all : ℕ) → writes ≤ all → objects ≤ 3 * size → slot_cost 0 objects writes ≤ 23 * writes + (3 * size + 62) + 5 * ((3 * size + 3 * all + 7) * (writes / 513))
slot_part objects size writes all few small =
    let p = mul-le (objects + 3 * writes + 7) (writes / 513) (3 * size + 3 * all + 7) (writes / 513) (omega (arith, few, small)) (omega arith) in
    omega (arith, p, small)

-- ---- the sum

module _ (setup : Setup) (lets : Lets) (past : List Entry) (left : ℕ) (run : IsRunOf setup past) where
  middle_run : (ds : List Drainer) (h : List Entry) (b : ℕ) (after : List Drainer) (whole : Bool) → IsRound lets past left ds h b after whole → IsRunOf setup h
  middle_run ds h b after whole round = let g = round_grows lets past left ds h b after whole round in older_run setup g.longer.added h (subst (IsRunOf setup) g.longer.are run)

  -- each new object is the volume of a claim that stood
  pub round_given : (first : List Object) (ds : List Drainer) (h : List Entry) (b : ℕ) (after : List Drainer) (whole : Bool)
      → IsRound lets past left ds h b after whole → AreBuilt (roles_of ds) → AreAtRest ds → AreGiven first (world setup h).store.rows → AreGiven first (world setup past).store.rows
  round_given first _ h b _ _ (Ends entries rest) built rests given = subst (λ es. AreGiven first (world setup es).store.rows) (sym entries) given
  round_given first _ h b _ _ (Turns {ds = ds} {after = after} {whole = whole} d ran middle rest idle seat runs more) built rests given =
      let here = middle_run ds middle rest after whole more in
      round_given first ds middle rest after whole more built.1 (λ place x at. rests (suc place) x at)
      (slot_given setup lets d.seat d.actor ran.actor h middle b rest idle first here built.0 (rests 0 d refl) runs given)

  module _ (passes : PassesReads lets) (start : List Entry) where
    -- what all objects may cost an actor, wherever the round has come to
    light : (h : List Entry) (d : Drainer) → AreGiven (world setup start).store.rows (world setup h).store.rows
        → total (calls_for d.actor.role.kind) (world setup h).store.rows ≤ 3 * most_size (world setup start)
    light h d given =
        let cheap = total_less (calls_for seats.Agent) (calls_for d.actor.role.kind) (world setup h).store.rows (cheaper d.actor.role.kind) in
        let three = total_sized (world setup h).store.rows in
        let few = given_few (world setup start).store.rows (world setup h).store.rows (rows_stand_in_order setup start) (rows_stand_in_order setup h) given in
        omega (arith, cheap, three, few)

    slot : (all : ℕ) (d ran : Drainer) (h middle : List Entry) (b rest : ℕ) (idle : Bool) → IsRunOf setup middle → IsBuiltKind d.actor.role.kind
        → (d.actor.memory.stale ≡ false → d.actor.under ≡ None) → Runs lets d.seat ran.actor middle rest idle (woken d.actor) h b
        → writes_since setup h middle ≤ all → AreGiven (world setup start).store.rows (world setup h).store.rows
        → b ≤ rest + (23 * writes_since setup h middle + (3 * most_size (world setup start) + 62) + 5 * ((3 * most_size (world setup start) + 3 * all + 7) * (writes_since setup h middle / 513)))
    slot all d ran h middle b rest idle here built rests runs few given = by d.actor.memory.stale refl
      where
        by : (stale : Bool) → d.actor.memory.stale ≡ stale
            → b ≤ rest + (23 * writes_since setup h middle + (3 * most_size (world setup start) + 62) + 5 * ((3 * most_size (world setup start) + 3 * all + 7) * (writes_since setup h middle / 513)))
        by true e = let same = (silent_run setup lets d.seat ran.actor middle rest idle here (woken d.actor) h b runs e).1 in omega (arith, same)
        by false e =
            let short = slots_are_short setup lets d.seat d.actor ran.actor h middle b rest idle built (runs_are_histories setup middle here.run) passes runs in
            let none : under_left d.actor.under ≡ 0 = ap under_left (rests e) in
            let free = ap (λ n. slot_cost n (total (calls_for d.actor.role.kind) (world setup h).store.rows) (writes_since setup h middle)) none in
            let part = slot_part (total (calls_for d.actor.role.kind) (world setup h).store.rows) (most_size (world setup start)) (writes_since setup h middle) all few (light h d given) in
            omega (arith, short, free, part)

    pub sum : (all : ℕ) (ds : List Drainer) (h : List Entry) (b : ℕ) (after : List Drainer) (whole : Bool)
        → IsRound lets past left ds h b after whole → AreBuilt (roles_of ds) → AreAtRest ds → writes_since setup h past ≤ all → AreGiven (world setup start).store.rows (world setup h).store.rows
        → b ≤ left + (23 * writes_since setup h past + length ds * (3 * most_size (world setup start) + 62) + 5 *
        ((3 * most_size (world setup start) + 3 * all + 7) * (writes_since setup h past / 513)))
    sum all _ h b _ _ (Ends entries rest) built rests few given = omega (arith, rest)
    sum all _ h b _ _ (Turns {ds = ds} {after = after} {whole = whole} d ran middle rest idle seat runs more) built rests few given =
        let here = middle_run ds middle rest after whole more in
        let g = run_grows lets d.seat ran.actor middle rest idle (woken d.actor) h b runs in
        let m = counted setup g.longer.added h middle g.longer.are in
        let gg = round_grows lets past left ds middle rest after whole more in
        let n = counted setup gg.longer.added middle past gg.longer.are in
        let split : writes_since setup h past ≡ writes_since setup h middle + writes_since setup middle past = omega (arith, m, n) in
        let later = sum all ds middle rest after whole more built.1 (λ place x at. rests (suc place) x at) (omega (arith, split, few))
        (slot_given setup lets d.seat d.actor ran.actor h middle b rest idle (world setup start).store.rows here built.0 (rests 0 d refl) runs given) in
        let first = slot all d ran h middle b rest idle here built.0 (rests 0 d refl) runs (omega (arith, split, few)) given in
        let sweeps = swept (3 * most_size (world setup start) + 3 * all + 7) (writes_since setup h middle) (writes_since setup middle past) in
        let whole_ = ap (λ k. (3 * most_size (world setup start) + 3 * all + 7) * (k / 513)) split in
        let actors = one_more (length ds) (3 * most_size (world setup start) + 62) in
        omega (arith, later, first, split, sweeps, whole_, actors)
