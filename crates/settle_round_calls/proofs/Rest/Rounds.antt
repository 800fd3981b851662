-- A round makes few calls beside its writes: the sum of its slots, role by role.
use Rattle.std.proofs.Common.{◌≡◌, ℕ, suc, ◌+◌, ◌*◌, ◌≤◌, List, [], ◌∷◌, length, Bool, true, false, None, refl, sym, ap, subst, arith}
use Rattle.std.specs.Prelude.{◌/◌, map}
use Rattle.std.proofs.lemmas.Nat.{mul-le}
use Rattle.kube_objects.specs.declared.objects.Object.{Object}
use Rattle.kube_objects.specs.declared.objects.Object.TheVariants.{Class, Node, Volume, Claim, Pod}
use Rattle.call_types.specs.declared.entry.Entry.{Entry}
use Rattle.call_types.specs.declared.request.SeatKind.TheVariants as seats
use Rattle.call_types.specs.declared.setup.Setup.{Setup}
use Rattle.binder_model.specs.Promises.{IsRunOf}
use Rattle.binder_model.specs.World.{world}
use Rattle.model_laws.proofs.Histories.{rows_stand_in_order}
use Rattle.settle_measure.specs.Left.Measure.{claims_in, total, volumes_in}
use Rattle.worker_core.specs.Absorbs.{woken}
use Rattle.worker_core.specs.Roles.{IsBuiltKind, kinds_of}
use Rattle.worker_core.specs.States.{ActorState}
use Rattle.actor_rounds.specs.declared.drainers.Drainer.{Drainer}
use Rattle.actor_rounds.specs.Drainers.{agent_of, roles_of}
use Rattle.actor_rounds.specs.Rounds.{IsRound, Lets, Runs}
use Rattle.actor_rounds.proofs.RoundFacts.{round_grows}
use Rattle.actor_rounds.proofs.RunFacts.{run_grows}
use Rattle.settle_slot.specs.Slot.Gates.{HoldsMountsAlone}
use Rattle.settle_slot.specs.Slot.Slots.{begun}
use Rattle.settle_calls.specs.Events.Ahead.{sum_over}
use Rattle.settle_calls.proofs.Events.Sums.{div_less, mul_less}
use Rattle.settle_calls.specs.Slots.Slots.{writes_since}
use Rattle.settle_calls.proofs.Slots.HeldCalls.{reads_pass}
use Rattle.settle_progress.proofs.Epochs.Silent.{older_run}
use Rattle.settle_write_counts.proofs.Rounds.Runs.{silent_run}
use Rattle.settle_write_counts.proofs.Rounds.Slots.{counted}
use Rattle.settle_write_counts.specs.Rounds.Rounds.{pod_size}
use Rattle.settle_write_counts.proofs.Rounds.Sums.{swept}
use Rattle.settle_round_calls.specs.Slots.Costs.{own_calls}
use Rattle.settle_round_calls.specs.Slots.Slots.{ops_sweep_calls}
use Rattle.settle_round_calls.proofs.Slots.Alone.{with_pass}
use Rattle.settle_round_calls.proofs.Slots.Calls.{sweep_cost, sweep_is}
use Rattle.settle_round_calls.proofs.Slots.KindCosts.{kinds_cost}
use Rattle.settle_round_calls.proofs.Slots.Ops.{ended_few}
use Rattle.settle_round_calls.proofs.Slots.RoundCosts.{kept_first, most}
use Rattle.settle_round_calls.proofs.Slots.Slots.{costs_from}
use Rattle.settle_round_calls.specs.Rest.ShortRounds.{agent_sweep_calls, sweep_calls}

-- ---- what a slot costs

-- an agent decides pods alone
agents_few : (rows : List Object) → total (own_calls seats.Agent) rows ≤ 3 * total pod_size rows
agents_few [] = omega arith
agents_few (Class x ∷ os) = let rest = agents_few os in omega (arith, rest)
agents_few (Node x ∷ os) = let rest = agents_few os in omega (arith, rest)
agents_few (Volume x ∷ os) = let rest = agents_few os in omega (arith, rest)
agents_few (Claim x ∷ os) = let rest = agents_few os in omega (arith, rest)
agents_few (Pod x ∷ os) = let rest = agents_few os in omega (arith, rest)

agent_kinds : (first : List Object) (pods : ℕ) → total pod_size first ≤ pods → sum_over (most seats.Agent first) (kinds_of seats.Agent) ≤ 3 * pods
agent_kinds first pods few =
    let kinds = kinds_cost seats.Agent first in
    let own = agents_few first in
    omega (arith, kinds, own, few)

agent_sweeps : (first : List Object) (pods : ℕ) → total pod_size first ≤ pods → sweep_cost first seats.Agent ≤ agent_sweep_calls pods
unfolding agent_sweep_calls
agent_sweeps first pods few =
    let is = sweep_is first seats.Agent in
    let pass = with_pass seats.Agent (most seats.Agent first) in
    let kinds = agent_kinds first pods few in
    omega (arith, is, pass, kinds)

-- an agent, from where nothing is under way. One that was told that its epoch is stale makes no call
pub agent_costs_from :
    (setup : Setup) (lets : Lets) (seat : ℕ) (old after : ActorState) (h past : List Entry) (b left : ℕ) (idle : Bool) (pods : ℕ)
    → old.role.kind ≡ seats.Agent → IsRunOf setup past → HoldsMountsAlone lets → (old.memory.stale ≡ false → old.under ≡ None)
    → total pod_size (world setup h).store.rows ≤ pods → Runs lets seat after past left idle (begun old) h b
    → b ≤ left + (8 * writes_since setup h past + (3 * pods + 62) + agent_sweep_calls pods * (writes_since setup h past / 513))
agent_costs_from setup lets seat old after h past b left idle pods kind run holds rests few runs = by old.memory.stale refl
  where
    by : (stale : Bool) → old.memory.stale ≡ stale → b ≤ left + (8 * writes_since setup h past + (3 * pods + 62) + agent_sweep_calls pods * (writes_since setup h past / 513))
    by true e = let same = (silent_run setup lets seat after past left idle run (begun old) h b runs e).1 in omega (arith, same)
    by false e =
        let rows = rows_stand_in_order setup h in
        let less = costs_from setup lets seat old after h past b left idle (world setup h).store.rows (subst IsBuiltKind (sym kind) tt) run
        (reads_pass lets holds) (rests e) rows (kept_first old.role.kind (world setup h).store.rows) runs in
        let kinds = agent_kinds (world setup h).store.rows pods few in
        let of_kind : sum_over (most old.role.kind (world setup h).store.rows) (kinds_of old.role.kind) ≡ sum_over
        (most seats.Agent (world setup h).store.rows) (kinds_of seats.Agent) = ap (λ k. sum_over (most k (world setup h).store.rows) (kinds_of k)) kind in
        let sweeps = mul-le (sweep_cost (world setup h).store.rows seats.Agent) (writes_since setup h past / 513) (agent_sweep_calls pods)
        (writes_since setup h past / 513) (agent_sweeps (world setup h).store.rows pods few) (omega arith) in
        let as_agent = ap (λ k. sweep_cost (world setup h).store.rows k * (writes_since setup h past / 513)) kind in
        omega (arith, less, kinds, of_kind, sweeps, as_agent)

-- the writes of an agent are among the pods
pub agents_sweep : (pods n before now : ℕ) → n + now ≤ before → agent_sweep_calls pods * (n / 513) + agent_sweep_calls pods * (now / 513) ≤ agent_sweep_calls pods * (before / 513)
agents_sweep pods n before now few =
    let two = swept (agent_sweep_calls pods) n now in
    let less = mul_less (agent_sweep_calls pods) ((n + now) / 513) (before / 513) (div_less (n + now) before few) in
    omega (arith, two, less)

-- volumes that have ended are volumes
pub ops_sweeps : (rows : List Object) (claims volumes : ℕ) → claims_in rows ≤ claims → volumes_in rows ≤ volumes → ops_sweep_calls rows ≤ sweep_calls claims volumes
unfolding ops_sweep_calls sweep_calls
ops_sweeps rows claims volumes few fewer = let ended = ended_few rows in omega (arith, few, fewer, ended)

-- ---- the sum

module _ (setup : Setup) (lets : Lets) (past : List Entry) (left : ℕ) (run : IsRunOf setup past) (holds : HoldsMountsAlone lets) (start : List Entry) where
  abbrev first : List Object
  first = (world setup start).store.rows

  abbrev pods : ℕ
  pods = total pod_size (world setup start).store.rows

  pub middle_run : (ds : List Drainer) (h : List Entry) (b : ℕ) (after : List Drainer) (whole : Bool) → IsRound lets past left ds h b after whole → IsRunOf setup h
  middle_run ds h b after whole round = let g = round_grows lets past left ds h b after whole round in older_run setup g.longer.added h (subst (IsRunOf setup) g.longer.are run)

  -- the writes of a slot, and those after it
  pub split : (d ran : Drainer) (ds : List Drainer) (h middle : List Entry) (b rest : ℕ) (idle : Bool) (after : List Drainer) (whole : Bool)
      → Runs lets d.seat ran.actor middle rest idle (woken d.actor) h b → IsRound lets past left ds middle rest after whole
      → writes_since setup h past ≡ writes_since setup h middle + writes_since setup middle past
  split d ran ds h middle b rest idle after whole runs more =
      let g = run_grows lets d.seat ran.actor middle rest idle (woken d.actor) h b runs in
      let m = counted setup g.longer.added h middle g.longer.are in
      let gg = round_grows lets past left ds middle rest after whole more in
      let n = counted setup gg.longer.added middle past gg.longer.are in
      omega (arith, m, n)

-- ---- all roles of a drain

pub lengths : (ds : List Drainer) → length (roles_of ds) ≡ length ds
lengths [] = refl
lengths (d ∷ ds) = ap suc (lengths ds)

pub nodes_many : (nodes : List (List ℕ)) → length (map agent_of nodes) ≡ length nodes
nodes_many [] = refl
nodes_many (node ∷ nodes) = ap suc (nodes_many nodes)
