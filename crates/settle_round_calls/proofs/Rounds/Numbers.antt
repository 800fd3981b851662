-- The stated number covers what a round calls for, by its writes and by what stands as it begins.
use Rattle.std.proofs.Common.{ℕ, ◌+◌, ◌*◌, ◌≤◌, arith}
use Rattle.std.specs.Prelude.{◌/◌}
use Rattle.std.proofs.lemmas.Nat.{mul-le}
use Rattle.settle_round_calls.specs.Rest.ShortRounds.{agent_sweep_calls, sweep_calls}
use Rattle.settle_round_calls.proofs.Rest.Short.{agents_swept, ops_swept}

-- what an agent calls for beside its writes: for what is under way, for its pods, and in its passes
abbrev pub agent_calls : ℕ → ℕ → ℕ
agent_calls claims pods = 2 * claims + 3 * pods + 68

-- and ops, by what stands when its slot begins, one volume more where one was under way; after each 513 writes it lists anew
abbrev pub ops_calls : ℕ → ℕ → ℕ → ℕ
ops_calls claims volumes times = 2 * claims + 3 * (volumes + 1) + 65 + sweep_calls claims (volumes + 1) * (times / 513)

-- how often it may write then
abbrev pub ops_times : ℕ → ℕ → ℕ → ℕ
ops_times claims volumes faults = 2 * claims + (volumes + 1) + faults

-- the scheduler, ops, three that guard and so many agents
abbrev pub round_calls : ℕ → ℕ → ℕ → ℕ → ℕ → ℕ → ℕ
round_calls agents claims volumes pods pod_count faults =
    68 + (ops_calls claims volumes (ops_times claims volumes faults) + (3 * 68 + (agents * agent_calls claims pods + agent_sweep_calls pods * (pod_count / 513))))

-- eight calls for each write besides. Only objects stand in products with objects
pub stated : (size claims volumes pods pod_count faults writes agents : ℕ) → claims + volumes + pods ≤ size → claims + volumes + pod_count ≤ 8192
    → pod_count ≤ pods → agents ≤ 8 → writes ≤ 20 * claims + 14 * volumes + 5 * pod_count + pods + faults + 272
    → 8 * writes + round_calls agents claims volumes pods pod_count faults ≤ 256 * (size + faults + 16)
stated size claims volumes pods pod_count faults writes agents counted small pods_less few written =
    let each = mul-le agents (agent_calls claims pods) 8 (agent_calls claims pods) few (omega arith) in
    let ops = ops_swept claims (volumes + 1) pod_count faults (ops_times claims volumes faults) (omega (arith, small)) (omega arith) in
    let swept = agents_swept pods pod_count (omega (arith, small)) in
    omega (arith, each, ops, swept, counted, small, pods_less, written)
