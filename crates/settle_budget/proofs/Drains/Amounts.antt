-- The stated budget is more than what few rounds cost.
use Rattle.std.proofs.Common.{◌≡◌, ℕ, ◌+◌, ◌*◌, ◌-◌, ◌≤◌, ◌<◌, sym, subst, arith}
use Rattle.std.proofs.lemmas.Nat.{mul-le}
use Rattle.settle_budget.specs.Drains.Budget.{enough_calls, round_calls}

-- what is swept comes to so many rows and tests
abbrev pub swept_rows : ℕ → ℕ → ℕ → ℕ → ℕ
swept_rows claims size work pods = 3 * (size + claims) + 3 * (work + claims + 2 * pods) + 7

-- one round
one_round : (claims others pods actors : ℕ) → pods ≤ others → actors ≤ 13 → round_calls actors (claims + others + claims) pods ≤ 78 * claims + 85 * others + 806
one_round claims others pods actors few many =
    let m = mul-le actors (3 * (claims + others + claims) + 62) 13 (3 * (claims + others + claims) + 62) many (omega arith) in
    omega (arith, few, m)

-- all rounds
all_rounds : (claims others faults rounds cost : ℕ) → rounds ≤ 200 * claims + 120 * others + 10 * faults + 10 → cost ≤ 78 * claims + 85 * others + 806
    → rounds * cost ≤ 15600 * (claims * claims) + 26360 * (claims * others) + 10200 * (others * others) + 780 * (claims * faults) + 850 *
    (others * faults) + 161980 * claims + 97570 * others + 8060 * faults + 8060
all_rounds claims others faults rounds cost few cheap =
    let m = mul-le rounds cost (200 * claims + 120 * others + 10 * faults + 10) (78 * claims + 85 * others + 806) few cheap in
    omega (arith, m)

-- a part of the budget, multiplied out
budget_over : (claims others faults : ℕ)
    → 16384 * (claims * claims) + 32768 * (claims * others) + 16384 * (others * others) + 524288 * (claims * faults) + 524288 *
    (others * faults) + 524288 * claims + 524288 * others + 4194304 * faults + 4194304 ≤ enough_calls (claims + others) faults
budget_over claims others faults = omega arith

-- each sweep is paid by one thing that was to be done for each claim, and by one more
sweeps_paid : (claims others work pods sweeps : ℕ) → 2 * (claims + others) ≤ 512 → pods ≤ others → 513 * sweeps ≤ work + (claims + 2 * pods) * sweeps → claims * sweeps + sweeps ≤ work
sweeps_paid claims others work pods sweeps small few paid =
    let m = mul-le (claims + 1 + (claims + 2 * pods)) sweeps 513 sweeps (omega (arith, small, few)) (omega arith) in
    omega (arith, m, paid)

-- so all of them cost little
all_sweeps : (claims others faults work sweeps cost : ℕ) → faults ≤ 512 → work ≤ 18 * claims + 10 * others + faults → claims * sweeps + sweeps ≤ work
    → cost ≤ 63 * claims + 39 * others + 3 * faults + 7
    → cost * sweeps ≤ 702 * (claims * others) + 390 * (others * others) + 54 * (claims * faults) + 69 * (others * faults) + 1260 * claims + 700 * others + 1606 * faults
all_sweeps claims others faults work sweeps cost small few paid cheap =
    let all : sweeps ≤ 18 * claims + 10 * others + faults = omega (arith, few, paid) in
    let m = mul-le cost sweeps (63 * claims + 39 * others + 3 * faults + 7) sweeps cheap (omega arith) in
    let o = mul-le others sweeps others (18 * claims + 10 * others + faults) (omega arith) all in
    let f = mul-le faults sweeps faults (18 * claims + 10 * others + faults) (omega arith) all in
    let square = mul-le faults faults 512 faults small (omega arith) in
    omega (arith, few, paid, m, o, f, square)

module _ (claims faults work nodes pods rounds actors sweeps : ℕ) where
  enough_with : (others : ℕ) → 2 * (claims + others) + faults ≤ 512 → work ≤ 18 * claims + 10 * others + faults → nodes ≤ claims → pods ≤ others
      → actors ≤ 13 → rounds ≤ 10 * work + 20 * (claims + others) + 10 → 513 * sweeps ≤ work + (claims + 2 * pods) * sweeps
      → 23 * (work + nodes) + (rounds * round_calls actors (claims + others + claims) pods + 5 * (swept_rows claims (claims + others) work pods * sweeps)) < enough_calls (claims + others) faults
  enough_with others small work_few nodes_few pods_few actors_few rounds_few paid =
      let round = one_round claims others pods actors pods_few actors_few in
      let rounds_ = all_rounds claims others faults rounds (round_calls actors (claims + others + claims) pods) (omega (arith, rounds_few, work_few)) round in
      let each = sweeps_paid claims others work pods sweeps (omega (arith, small)) pods_few paid in
      let sweeps_ = all_sweeps claims others faults work sweeps (swept_rows claims (claims + others) work pods) (omega (arith, small)) work_few each (omega (arith, work_few, pods_few)) in
      let over = budget_over claims others faults in
      omega (arith, rounds_, sweeps_, over, work_few, nodes_few)

  -- what few rounds cost is less than the budget
  pub budget_is_enough : (size : ℕ) → claims ≤ size → 2 * size + faults ≤ 512 → work ≤ 8 * claims + 10 * size + faults → nodes ≤ claims
      → claims + pods ≤ size → actors ≤ 13 → rounds ≤ 10 * work + 20 * size + 10 → 513 * sweeps ≤ work + (claims + 2 * pods) * sweeps
      → 23 * (work + nodes) + (rounds * round_calls actors (size + claims) pods + 5 * (swept_rows claims size work pods * sweeps)) < enough_calls size faults
  budget_is_enough size within small work_few nodes_few pods_few actors_few rounds_few paid =
      let same : size ≡ claims + (size - claims) = omega (arith, within) in
      let enough = enough_with (size - claims) (omega (arith, within, small)) (omega (arith, within, work_few)) nodes_few
      (omega (arith, within, pods_few)) actors_few (omega (arith, within, rounds_few)) paid in
      subst (λ s. 23 * (work + nodes) + (rounds * round_calls actors (s + claims) pods + 5 * (swept_rows claims s work pods * sweeps)) < enough_calls s faults) (sym same) enough
