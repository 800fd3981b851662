-- A drain costs little beside its rounds: its writes, and what is swept after many of them, are paid by what its rounds leave less to do.
use Rattle.std.proofs.Common.{◌≡◌, ◌∙◌, ℕ, zero, suc, ◌+◌, ◌*◌, ◌≤◌, List, ◌++◌, length, true, false, refl, ap, subst, arith, Bool}
use Rattle.std.specs.Prelude.{◌/◌}
use Rattle.std.proofs.Math.Nat.{mul-add}
use Rattle.std.proofs.lemmas.Nat.{div-add-mod'}
use Rattle.call_types.specs.declared.entry.Entry.{Entry}
use Rattle.call_types.specs.declared.setup.Setup.{Setup}
use Rattle.binder_model.specs.Promises.{IsRunOf}
use Rattle.binder_model.specs.World.{world}
use Rattle.model_laws.proofs.Histories.{rows_stand_in_order}
use Rattle.settle_measure.specs.Left.Measure.{claims_in, work_left}
use Rattle.actor_rounds.specs.declared.drainers.Drainer.{Drainer}
use Rattle.actor_rounds.specs.Drainers.{AreAtRest, roles_of}
use Rattle.actor_rounds.specs.Rounds.{Drains, Goes, IsRound, IsSpent, Lets, NothingDue, round_of}
use Rattle.actor_rounds.proofs.DrainFacts.{drains_grow}
use Rattle.actor_rounds.proofs.RoundFacts.{roles_built, round_part, round_seats, same_length}
use Rattle.settle_calls.specs.Slots.Slots.{PassesReads, writes_since}
use Rattle.settle_write_counts.specs.Scheduler.Pods.{pods_writes}
use Rattle.settle_progress.proofs.Epochs.Silent.{older_run}
use Rattle.settle_progress.specs.Drains.Settling.{MayDrain}
use Rattle.settle_progress.proofs.Drains.Leaving.{rounds_leave_drainers}
use Rattle.settle_pays.specs.Drains.All.{ImportsAllow}
use Rattle.settle_pays.proofs.Drains.Rounds.{payer_at, rounds_pay}
use Rattle.settle_write_counts.specs.Rounds.Counts.{nodes_in, to_write}
use Rattle.settle_write_counts.proofs.Rounds.Ordered.{nodes_are_few}
use Rattle.settle_write_counts.proofs.Rounds.Rounds.{rounds_write_little}
use Rattle.settle_write_counts.specs.Rounds.Rounds.{most_size, pods_size}
use Rattle.settle_write_counts.proofs.Rounds.Growth.{AreGiven, given_first, pods_few}
use Rattle.settle_write_counts.proofs.Rounds.Sums.{round_given, sum}
use Rattle.settle_budget.specs.Drains.Drains.{rounds_in}
use Rattle.settle_budget.specs.Drains.Budget.{AreAlwaysInOrder, DrainsCostLittle, round_calls, round_writes}
use Rattle.settle_budget.proofs.Drains.Claims.{claims_few}
use Rattle.settle_budget.proofs.Drains.Drains.{writes_few}

-- a sweep pays for what is written though no work is done
rarely : (sweeps writes before now most : ℕ) → 513 * sweeps ≤ writes → writes + now ≤ before + most → now ≤ before → 513 * sweeps + now ≤ before + most * sweeps
rarely zero writes before now most swept done less = omega (arith, less)
rarely (suc n) writes before now most swept done less = omega (arith, swept, done)

-- one round more
one_more : (rounds cost : ℕ) → (1 + rounds) * cost ≡ cost + rounds * cost
one_more rounds cost = omega arith

-- so many quotients
whole_times : (writes : ℕ) → 513 * (writes / 513) ≤ writes
whole_times writes = let d = div-add-mod' writes 513 in omega (arith, d)

module _ (setup : Setup) (lets : Lets) (after : List Drainer) (past : List Entry) (left : ℕ) (run : IsRunOf setup past) (allow : ImportsAllow setup)
    (passes : PassesReads lets) (order : AreAlwaysInOrder setup past) (start : List Entry) (few : pods_size (world setup start) ≤ 512) (actors : ℕ) where
  -- what is known wherever the drain has come to
  record IsAt (ds : List Drainer) (h : List Entry) : Type 0 where
    may : MayDrain setup h ds
    rests : AreAtRest ds
    many : length ds ≡ actors
    low : work_left setup (world setup h) ≤ work_left setup (world setup start)
    given : AreGiven (world setup start).store.rows (world setup h).store.rows

  -- what the drain costs from there on
  record Costs (h : List Entry) (b rounds : ℕ) : Type 0 where
    sweeps : ℕ
    paid : 513 * sweeps + work_left setup (world setup past) ≤ work_left setup (world setup h) + (claims_in (world setup start).store.rows + 2 * pods_size (world setup start)) * sweeps
    calls : b + 23 * to_write setup (world setup past)
        ≤ left + (23 * to_write setup (world setup h) + rounds * round_calls actors (most_size (world setup start))
        (pods_size (world setup start)) + 5 * ((3 * most_size (world setup start) + 3 * round_writes setup (world setup start) + 7) * sweeps))

  light : (h : List Entry) → AreGiven (world setup start).store.rows (world setup h).store.rows → pods_writes (world setup h) ≤ pods_size (world setup start)
  light h given =
      let fewer = writes_few (world setup h).store.rows in
      let same = pods_few (world setup start).store.rows (world setup h).store.rows (rows_stand_in_order setup start) (rows_stand_in_order setup h) given in
      omega (arith, fewer, same)

  selected : (newer h : List Entry) → past ≡ newer ++ h → AreGiven (world setup start).store.rows (world setup h).store.rows → nodes_in (world setup h) ≤ claims_in (world setup start).store.rows
  selected newer h are given =
      let nodes = nodes_are_few (world setup h) (rows_stand_in_order setup h) (order newer h are) in
      let claims = claims_few (world setup start).store.rows (world setup h).store.rows (rows_stand_in_order setup start) (rows_stand_in_order setup h) given in
      omega (arith, nodes, claims)

  -- what one round costs
  record RoundCosts (h middle : List Entry) (b rest : ℕ) : Type 0 where
    sweeps : ℕ
    stays : work_left setup (world setup middle) ≤ work_left setup (world setup h)
    paid : 513 * sweeps + work_left setup (world setup middle) ≤ work_left setup (world setup h) + (claims_in (world setup start).store.rows + 2 * pods_size (world setup start)) * sweeps
    calls : b + 23 * to_write setup (world setup middle)
        ≤ rest + (23 * to_write setup (world setup h) + round_calls actors (most_size (world setup start)) (pods_size (world setup start)) + 5 *
        ((3 * most_size (world setup start) + 3 * round_writes setup (world setup start) + 7) * sweeps))

  round_costs : (ds between : List Drainer) (newer h middle : List Entry) (b rest : ℕ) (whole : Bool) → past ≡ newer ++ h → IsRunOf setup middle
      → IsAt ds h → IsRound lets middle rest ds h b between whole → RoundCosts h middle b rest
  round_costs ds between newer h middle b rest whole are here at round =
      record {
        sweeps = writes_since setup h middle / 513;
        stays = less;
        paid =
            rarely (writes_since setup h middle / 513) (writes_since setup h middle) (work_left setup (world setup h))
            (work_left setup (world setup middle)) (claims_in (world setup start).store.rows + 2 * pods_size (world setup start)) (whole_times (writes_since setup h middle)) all less;
        calls = called;
      }
    where
      pods : pods_writes (world setup h) ≤ pods_size (world setup start)
      pods = light h at.given

      nodes : nodes_in (world setup h) ≤ claims_in (world setup start).store.rows
      nodes = selected newer h are at.given

      written : writes_since setup h middle + to_write setup (world setup middle) ≤ to_write setup (world setup h) + 2 * pods_writes (world setup h)
      written = let p = pods in rounds_write_little setup lets (round_of round) at.may.stand.roles here (payer_at setup allow
          ds at.may.stand.roles at.rests) (omega (arith, p, few))

      less : work_left setup (world setup middle) ≤ work_left setup (world setup h)
      less = (rounds_pay setup lets (round_of round) allow at.may.stand.roles at.rests here).fallen.stays

      all : writes_since setup h middle + work_left setup (world setup middle) ≤ work_left setup (world setup h) + (claims_in (world setup start).store.rows + 2 * pods_size (world setup start))
      all = let w = written in let p = pods in let n = nodes in omega (arith, w, p, n)

      within : writes_since setup h middle ≤ round_writes setup (world setup start)
      within = let a = all in let l = at.low in omega (arith, a, l)

      one_round : b ≤ rest + (23 * writes_since setup h middle + actors * (3 * most_size (world setup start) + 62) + 5 *
          ((3 * most_size (world setup start) + 3 * round_writes setup (world setup start) + 7) * (writes_since setup h middle / 513)))
      one_round =
          subst (λ k. b ≤ rest + (23 * writes_since setup h middle + k * (3 * most_size (world setup start) + 62) + 5 *
          ((3 * most_size (world setup start) + 3 * round_writes setup (world setup start) + 7) * (writes_since setup h middle / 513)))) at.many
          (sum setup lets middle rest here passes start (round_writes setup (world setup start)) ds h b between whole round (roles_built (roles_of ds) at.may.stand.roles) at.rests within at.given)

      called : b + 23 * to_write setup (world setup middle)
          ≤ rest + (23 * to_write setup (world setup h) + round_calls actors (most_size (world setup start)) (pods_size (world setup start)) + 5 *
          ((3 * most_size (world setup start) + 3 * round_writes setup (world setup start) + 7) * (writes_since setup h middle / 513)))
      called = let o = one_round in let w = written in let p = pods in omega (arith, o, w, p)

  -- nothing is left to cost
  ended : (h : List Entry) (b : ℕ) → past ≡ h → left ≡ b → Costs h b 0
  ended h b same rest = record {
    sweeps = 0;
    paid = (let work = ap (λ es. work_left setup (world setup es)) same in omega (arith, work));
    calls =
        (let work = ap (λ es. to_write setup (world setup es)) same in omega (arith, work, rest));
  }

  -- a round and what comes after it
  joined : (h middle : List Entry) (b rest rounds : ℕ) → RoundCosts h middle b rest → Costs middle rest rounds → Costs h b (1 + rounds)
  joined h middle b rest rounds first later = record {
    sweeps = first.sweeps + later.sweeps;
    paid =
        (let now = first.paid in
        let then_ = later.paid in
        let split = mul-add (claims_in (world setup start).store.rows + 2 * pods_size (world setup start)) first.sweeps later.sweeps in
        omega (arith, now, then_, split));
    calls =
        (let now = first.calls in
        let then_ = later.calls in
        let split = mul-add (3 * most_size (world setup start) + 3 * round_writes setup (world setup start) + 7) first.sweeps later.sweeps in
        let one_ = one_more rounds (round_calls actors (most_size (world setup start)) (pods_size (world setup start))) in
        omega (arith, now, then_, split, one_));
  }

  costs : (ds : List Drainer) (h : List Entry) (b : ℕ) → IsAt ds h → (drained : Drains lets setup after past left ds h b) → Costs h b (rounds_in lets setup after past left ds h b drained)
  costs ds h b at (NothingDue settled same entries rest) = ended h b entries rest
  costs ds h b at (IsSpent first due none same entries rest) = ended h b entries rest
  costs ds h b at (Goes first due some between middle rest true round drained) =
      let all = drains_grow lets setup after past left ds h b (Goes first due some between middle rest true round drained) in
      let g = drains_grow lets setup after past left between middle rest drained in
      let here = older_run setup g.longer.added middle (subst (IsRunOf setup) g.longer.are run) in
      let now = round_costs ds between all.longer.added h middle b rest true all.longer.are here at round in
      let leaves = rounds_leave_drainers setup lets ds between h middle b rest at.may here round in
      let stays = now.stays in
      let low = at.low in
      let next : IsAt between middle = record {
        may = leaves.0;
        rests = leaves.1;
        many = same_length between ds (round_seats lets middle rest ds h b between true round) ∙ at.many;
        low = omega (arith, stays, low);
        given = round_given setup lets middle rest here (world setup start).store.rows ds h b between true round (roles_built (roles_of ds) at.may.stand.roles) at.rests at.given;
      } in
      joined h middle b rest (rounds_in lets setup after past left between middle rest drained) now (costs between middle rest next drained)
  costs ds h b at (Goes first due some between middle rest false round drained) =
      let all = drains_grow lets setup after past left ds h b (Goes first due some between middle rest false round drained) in
      let g = drains_grow lets setup after past left between middle rest drained in
      let here = older_run setup g.longer.added middle (subst (IsRunOf setup) g.longer.are run) in
      let now = round_costs ds between all.longer.added h middle b rest false all.longer.are here at round in
      let spent = round_part lets middle rest ds h b between false round refl in
      joined h middle b rest (rounds_in lets setup after past left between middle rest drained) now (last between middle rest spent drained)
    where
      -- with no call left a drain makes no round
      last : (ds : List Drainer) (h : List Entry) (b : ℕ) → b ≡ 0 → (drained : Drains lets setup after past left ds h b) → Costs h b (rounds_in lets setup after past left ds h b drained)
      last ds h b spent (NothingDue settled same entries rest) = ended h b entries rest
      last ds h b spent (IsSpent first due none same entries rest) = ended h b entries rest
      last ds h b spent (Goes first due some between middle rest whole round drained) = absurd (omega (arith, some, spent))

pub drains_cost_little : DrainsCostLittle
drains_cost_little setup lets ds after h past b left allow may rests run passes order few drained =
    let c = costs setup lets after past left run allow passes order h few (length ds) ds h b
    (record { may = may; rests = rests; many = refl; low = omega arith; given = given_first (world setup h).store.rows }) drained in
    record { sweeps = c.sweeps; paid = c.paid; calls = c.calls }
