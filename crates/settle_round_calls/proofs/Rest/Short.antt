-- How often what stands is listed again, and what stands among what is counted.
use Rattle.std.proofs.Common.{◌≡◌, ℕ, ◌+◌, ◌*◌, ◌-◌, ◌≤◌, List, [], ◌∷◌, length, refl, arith}
use Rattle.std.specs.Prelude.{◌/◌}
use Rattle.std.proofs.Math.Nat.{mul-add}
use Rattle.std.proofs.lemmas.Nat.{div-add-mod', mul-le}
use Rattle.kube_objects.specs.declared.objects.Object.{Object}
use Rattle.kube_objects.specs.declared.objects.Object.TheVariants.{Class, Node, Volume, Claim, Pod}
use Rattle.call_types.specs.declared.entry.Entry.{Entry}
use Rattle.call_types.specs.declared.setup.Setup.{Setup}
use Rattle.settle_measure.specs.Left.Measure.{claims_in, pods_in, total, volumes_in}
use Rattle.actor_rounds.specs.declared.drainers.Drainer.{Drainer}
use Rattle.actor_rounds.specs.Rounds.{Drains, Goes, IsSpent, Lets, NothingDue}
use Rattle.settle_calls.specs.Slots.Rounds.{names_in}
use Rattle.settle_write_counts.specs.Rounds.Rounds.{pod_size}
use Rattle.settle_round_calls.specs.Rest.ShortRounds.{EachRoundIsShort, SmallWorldsHaveShortRounds, agent_sweep_calls, sweep_calls}

-- ---- numbers

-- claims, volumes, pods and the claims that these name are among what is counted
pub sizes : (rows : List Object) → claims_in rows + volumes_in rows + total pod_size rows ≤ total (λ o. 1 + names_in o) rows
sizes [] = omega arith
sizes (Class x ∷ os) = let rest = sizes os in omega (arith, rest)
sizes (Node x ∷ os) = let rest = sizes os in omega (arith, rest)
sizes (Volume x ∷ os) = let rest = sizes os in omega (arith, rest)
sizes (Claim x ∷ os) = let rest = sizes os in omega (arith, rest)
sizes (Pod x ∷ os) = let rest = sizes os in omega (arith, rest)

pub pods_few : (rows : List Object) → pods_in rows ≤ total pod_size rows
pods_few [] = omega arith
pods_few (Class x ∷ os) = let rest = pods_few os in omega (arith, rest)
pods_few (Node x ∷ os) = let rest = pods_few os in omega (arith, rest)
pods_few (Volume x ∷ os) = let rest = pods_few os in omega (arith, rest)
pods_few (Claim x ∷ os) = let rest = pods_few os in omega (arith, rest)
pods_few (Pod x ∷ os) = let rest = pods_few os in omega (arith, rest)

-- what ops lists again, and an agent
pub sweep_is : (claims volumes : ℕ) → sweep_calls claims volumes ≡ (2 * claims + 3 * volumes + 24) - 7 * 513
unfolding sweep_calls
sweep_is claims volumes = refl

pub agent_sweep_is : (pods : ℕ) → agent_sweep_calls pods ≡ (3 * pods + 3) - 7 * 513
unfolding agent_sweep_calls
agent_sweep_is pods = refl

-- claims, volumes and pods are objects
pub objects : (rows : List Object) → claims_in rows + volumes_in rows + pods_in rows ≤ length rows
objects [] = omega arith
objects (Class x ∷ os) = let rest = objects os in omega (arith, rest)
objects (Node x ∷ os) = let rest = objects os in omega (arith, rest)
objects (Volume x ∷ os) = let rest = objects os in omega (arith, rest)
objects (Claim x ∷ os) = let rest = objects os in omega (arith, rest)
objects (Pod x ∷ os) = let rest = objects os in omega (arith, rest)

-- each object is counted
all_counted : (rows : List Object) → length rows ≤ total (λ o. 1 + names_in o) rows
all_counted [] = omega arith
all_counted (o ∷ os) = let rest = all_counted os in omega (arith, rest)

-- ops is swept 32 times at most, and once more for each 513 names and faults, where a volume was made; an agent 15 times
pub ops_swept : (claims volumes pod_count more times : ℕ) → claims + volumes + pod_count ≤ 8193 → times ≤ 2 * claims + volumes + pod_count + more
    → sweep_calls claims volumes * (times / 513) ≤ ((2 * claims + 3 * volumes + 24) - 7 * 513) * 32 + 41 * more
ops_swept claims volumes pod_count more times counted few =
    let is = sweep_is claims volumes in
    let whole = div-add-mod' times 513 in
    let beyond = div-add-mod' more 513 in
    let low = mul-le (sweep_calls claims volumes) (times / 513) (sweep_calls claims volumes) (32 + more / 513) (omega arith) (omega (arith, whole, beyond, few, counted)) in
    let split : sweep_calls claims volumes * (32 + more / 513) ≡ sweep_calls claims volumes * 32 + sweep_calls claims volumes * (more / 513) = mul-add (sweep_calls claims volumes) 32 (more / 513) in
    let each = mul-le (sweep_calls claims volumes) (more / 513) 21012 (more / 513) (omega (arith, is, counted)) (omega arith) in
    omega (arith, is, low, split, each, beyond)

pub agents_swept : (pods pod_count : ℕ) → pod_count ≤ 8192 → agent_sweep_calls pods * (pod_count / 513) ≤ ((3 * pods + 3) - 7 * 513) * 15
agents_swept pods pod_count few =
    let is = agent_sweep_is pods in
    let whole = div-add-mod' pod_count 513 in
    let low = mul-le (agent_sweep_calls pods) (pod_count / 513) (agent_sweep_calls pods) 15 (omega arith) (omega (arith, whole, few)) in
    omega (arith, is, low)

pub small_worlds_have_short_rounds : SmallWorldsHaveShortRounds
small_worlds_have_short_rounds w small = let all = all_counted w.store.rows in omega (arith, all, small)

-- ---- drains

-- no further round comes where no call is left
pub none_more : (lets : Lets) (setup : Setup) (after : List Drainer) (past : List Entry) (left : ℕ) (ds : List Drainer) (h : List Entry) (b : ℕ)
    → b ≡ 0 → (drained : Drains lets setup after past left ds h b) → EachRoundIsShort lets setup after past left ds h b drained
none_more lets setup after past left ds h b none (NothingDue settled same entries rest) = tt
none_more lets setup after past left ds h b none (IsSpent first due empty same entries rest) = tt
none_more lets setup after past left ds h b none (Goes first due some between middle rest whole round more) = absurd (omega (arith, none, some))
