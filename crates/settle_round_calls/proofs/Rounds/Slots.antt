-- What a slot costs and writes: first what was under way as it began, and then what comes from where nothing is under way.
use Rattle.std.proofs.Common.{◌≡◌, ◌≢◌, ◌∙◌, ℕ, ◌+◌, ◌*◌, ◌≤◌, List, [], ◌∷◌, length, Bool, true, true≢false, refl, sym, ap, subst, arith}
use Rattle.std.specs.Prelude.{◌/◌}
use Rattle.std.proofs.lemmas.Nat.{mul-le}
use Rattle.kube_objects.specs.declared.objects.Object.{Object}
use Rattle.call_types.specs.declared.entry.Entry.{Entry}
use Rattle.call_types.specs.declared.reply.Reply.{Reply}
use Rattle.call_types.specs.declared.request.Request.{Request}
use Rattle.call_types.specs.declared.request.Request.TheVariants as requests
use Rattle.call_types.specs.declared.request.SeatKind.{SeatKind}
use Rattle.call_types.specs.declared.request.SeatKind.TheVariants as seats
use Rattle.call_types.specs.declared.setup.Setup.{Setup}
use Rattle.binder_model.specs.Licence.{AreOfKind}
use Rattle.binder_model.specs.Promises.{IsRunOf}
use Rattle.binder_model.specs.World.{World, world}
use Rattle.model_laws.proofs.Histories.{rows_stand_in_order}
use Rattle.settle_measure.specs.Left.Measure.{claims_in, faults_left, total, volumes_in, work_left}
use Rattle.worker_core.specs.declared.role.Role.{Role}
use Rattle.worker_core.specs.Absorbs.{woken}
use Rattle.worker_core.specs.Roles.{IsBuiltKind}
use Rattle.worker_core.specs.States.{ActorState}
use Rattle.actor_rounds.specs.Rounds.{Lets, Runs, told_entry}
use Rattle.actor_rounds.proofs.RunFacts.{run_grows}
use Rattle.settle_slot.specs.Slot.Gates.{HoldsMountsAlone}
use Rattle.settle_slot.specs.Slot.Slots.{begun}
use Rattle.settle_calls.proofs.Events.Sums.{div_less, mul_less}
use Rattle.settle_calls.specs.Slots.Slots.{writes_since}
use Rattle.settle_calls.proofs.Slots.HeldCalls.{reads_pass}
use Rattle.settle_write_counts.proofs.Passed.Slots.{writes_from}
use Rattle.settle_write_counts.specs.Rounds.Counts.{nodes_in}
use Rattle.settle_write_counts.specs.Rounds.Rounds.{pod_size}
use Rattle.settle_write_counts.proofs.Rounds.Ordered.{nodes_are_few}
use Rattle.settle_write_counts.proofs.Rounds.Rounds.{is_plain, no_ops, no_scheduler}
use Rattle.settle_write_counts.proofs.Rounds.Runs.{IsCalled, run_at, run_moves}
use Rattle.settle_write_counts.proofs.Rounds.Slots.{counted, ops_slot, other_slot}
use Rattle.settle_write_counts.proofs.Ops.Bounds.{ops_writes_are_bounded}
use Rattle.settle_write_counts.proofs.Ops.Slots.{falls_from}
use Rattle.settle_pays.specs.Drains.All.{ImportsAllow}
use Rattle.settle_pays.proofs.Drains.Actors.{actors_pay}
use Rattle.settle_due.specs.Begun.Begun.{begins_to_last}
use Rattle.settle_budget.specs.Drains.Budget.{AreAlwaysInOrder}
use Rattle.settle_budget.proofs.Drains.Drains.{writes_few}
use Rattle.settle_round_calls.specs.Slots.Slots.{ops_sweep_calls}
use Rattle.settle_round_calls.proofs.Slots.Ops.{ended_few, ops_costs_from}
use Rattle.settle_round_calls.proofs.Slots.RoundCosts.{is_agent}
use Rattle.settle_round_calls.proofs.Sure.Slots.{sure_from}
use Rattle.settle_round_calls.specs.Rest.ShortRounds.{agent_sweep_calls, sweep_calls}
use Rattle.settle_round_calls.proofs.Rest.Rounds.{agent_costs_from, ops_sweeps}
use Rattle.settle_round_calls.specs.Rise.Rises.{erase_rise, erases_rise, most_rise, untaken_in}
use Rattle.settle_round_calls.proofs.Rise.Rising.{entries_raise_little, schedulers_raise_little, untaken_are_volumes}
use Rattle.settle_round_calls.specs.UnderWay.Ends.{AndGoesOn, AreBy, AreFew, EndsThere, GoesOn, HasEnded, leftover_calls, leftover_writes}
use Rattle.settle_round_calls.proofs.UnderWay.Ending.{leftovers_end}
use Rattle.settle_round_calls.proofs.Rounds.Counts.{Fewer, entries_fewer}
use Rattle.settle_round_calls.proofs.Rounds.Numbers.{agent_calls, ops_calls, ops_times}

-- ---- kinds

-- one that guards: a binder or a protection controller. What it has under way writes so often at most
pub record IsGuard (most : ℕ) (kind : SeatKind) : Type 0 where
  pub plain : is_plain kind ≡ true
  pub sure : begins_to_last kind ≡ true
  pub rise : most_rise kind ≡ 28
  pub writes : (rows : List Object) → leftover_writes kind rows ≡ most

no_agent : (kind : SeatKind) → begins_to_last kind ≡ true → kind ≢ seats.Agent
no_agent kind sure is = true≢false (sym sure ∙ ap begins_to_last is)

three : (kind : SeatKind) (rows : List Object) → kind ≢ seats.Agent → leftover_calls kind rows ≡ 3
three seats.User rows other = refl
three seats.Binder rows other = refl
three seats.Ops rows other = refl
three seats.Scheduler rows other = refl
three seats.ClaimProtect rows other = refl
three seats.VolumeProtect rows other = refl
three seats.Agent rows other = absurd (other refl)

of_kinds : (seat : ℕ) (kind : SeatKind) (newer : List Entry) → AreBy seat kind newer → AreOfKind kind newer
of_kinds seat kind [] each = tt
of_kinds seat kind (e ∷ newer) each = (each.1.of_kind, of_kinds seat kind newer each.0)

-- an entry erases once at most
erases_once : (request : Request) → erase_rise request ≤ 1
erases_once (requests.Erase id) = omega arith
erases_once _ = omega arith

erases_few : (newer : List Entry) → erases_rise newer ≤ length newer
erases_few [] = omega arith
erases_few (e ∷ newer) = let rest = erases_few newer in let one = erases_once e.request in omega (arith, rest, one)

-- what is left to do rises by 3 at most for each volume that carries no claim, and is taken
abbrev PaysUntaken : Setup → World → World → Type 0
PaysUntaken setup w v = work_left setup v + 3 * untaken_in v.store.rows ≤ work_left setup w + 3 * untaken_in w.store.rows

module _ (setup : Setup) (lets : Lets) (seat : ℕ) (old after : ActorState) (h past : List Entry) (b left : ℕ) (idle : Bool)
    (built : IsBuiltKind old.role.kind) (allow : ImportsAllow setup) (run : IsRunOf setup past) (holds : HoldsMountsAlone lets) (runs : Runs lets seat after past left idle (woken old) h b) where
  -- ---- what was under way, and the rest

  abbrev Rests : Type 0
  Rests = GoesOn setup lets seat after past left idle (woken old) h b

  abbrev Few : List Entry → ℕ → Type 0
  Few entries budget = AreFew setup seat old.role.kind h entries b budget

  ended : HasEnded setup lets seat after past left idle (woken old) h b
  ended = leftovers_end setup lets seat (woken old) after h past b left idle built run runs

  rest_runs : (g : Rests) → Runs lets seat after past left idle (begun g.state) g.entries g.budget
  rest_runs g = subst (λ p. Runs lets seat after past left idle (record g.state { pass = p }) g.entries g.budget) g.pass g.runs

  rest_kind : (g : Rests) → g.state.role.kind ≡ old.role.kind
  rest_kind g = ap (λ (r : Role). r.kind) g.role

  rest_built : (g : Rests) → IsBuiltKind g.state.role.kind
  rest_built g = subst IsBuiltKind (sym (rest_kind g)) built

  left_run : (g : Rests) → IsRunOf setup g.entries
  left_run g = run_at setup lets seat after past left idle run g.state g.entries g.budget g.runs

  left_writes : (entries : List Entry) (budget : ℕ) → Few entries budget → writes_since setup h entries + (world setup h).store.version ≡ (world setup entries).store.version
  left_writes entries budget few = counted setup few.newer h entries few.are

  -- the writes of both
  parts : (g : Rests) → writes_since setup h past ≡ writes_since setup h g.entries + writes_since setup g.entries past
  parts g =
      let m = left_writes g.entries g.budget g.few in
      let grown = run_grows lets seat after past left idle g.state g.entries g.budget g.runs in
      let n = counted setup grown.longer.added g.entries past grown.longer.are in
      omega (arith, m, n)

  left_fewer : (g : Rests) → Fewer setup (world setup h) (world setup g.entries)
  left_fewer g =
      subst (λ es. Fewer setup (world setup h) (world setup es)) (sym g.few.are)
      (entries_fewer setup seat old.role.kind g.few.newer h built g.few.by (subst (IsRunOf setup) g.few.are (left_run g)))

  -- what was under way leaves little more to do: 28 for each write, and one for each Erase
  left_rises : (entries : List Entry) (budget : ℕ) (few : Few entries budget) → IsRunOf setup entries → old.role.kind ≢ seats.Agent → most_rise old.role.kind ≡ 28
      → work_left setup (world setup entries) ≤ work_left setup (world setup h) + 28 * writes_since setup h entries + length few.newer
  left_rises entries budget few here agent rise =
      let all = entries_raise_little setup old.role.kind few.newer h allow built agent (of_kinds seat old.role.kind few.newer few.by) (subst (IsRunOf setup) few.are here) in
      let at_end = subst (λ es. work_left setup (world setup es) ≤ work_left setup (world setup h) + most_rise old.role.kind * writes_since setup h es + erases_rise few.newer) (sym few.are) all in
      let numbered = subst (λ n. work_left setup (world setup entries) ≤ work_left setup (world setup h) + n * writes_since setup h entries + erases_rise few.newer) rise at_end in
      let erased = erases_few few.newer in
      omega (arith, numbered, erased)

  left_pays : (most : ℕ) (entries : List Entry) (budget : ℕ) → Few entries budget → IsRunOf setup entries → old.role.kind ≢ seats.Agent
      → most_rise old.role.kind ≡ 28 → leftover_writes old.role.kind (world setup h).store.rows ≡ most
      → writes_since setup h entries + work_left setup (world setup entries) ≤ work_left setup (world setup h) + (37 * most + 3)
  left_pays most entries budget few here agent rise as_many =
      let rises = left_rises entries budget few here agent rise in
      let called = few.called in
      let calls = few.calls in
      let writes = few.writes in
      let own = three old.role.kind (world setup h).store.rows agent in
      omega (arith, rises, called, calls, writes, own, as_many)

  -- ---- what begins to last: the scheduler, and those that guard

  pub sure_costs : begins_to_last old.role.kind ≡ true → b ≤ left + (8 * writes_since setup h past + 68)
  sure_costs sure = by ended (three old.role.kind (world setup h).store.rows (no_agent old.role.kind sure))
    where
      by : HasEnded setup lets seat after past left idle (woken old) h b → leftover_calls old.role.kind (world setup h).store.rows ≡ 3 → b ≤ left + (8 * writes_since setup h past + 68)
      by (EndsThere few) own = let calls = few.calls in omega (arith, calls, own)
      by (AndGoesOn g) own =
          let calls = g.few.calls in
          let rest = sure_from setup lets seat g.state after g.entries past g.budget left idle (ap begins_to_last (rest_kind g) ∙ sure) run holds g.none (rest_runs g) in
          let both = parts g in
          omega (arith, calls, own, rest, both)

  pub guard_writes : (most : ℕ) → IsGuard most old.role.kind → writes_since setup h past + work_left setup (world setup past) ≤ work_left setup (world setup h) + (37 * most + 3)
  guard_writes most guard = by ended
    where
      by : HasEnded setup lets seat after past left idle (woken old) h b → writes_since setup h past + work_left setup (world setup past) ≤ work_left setup (world setup h) + (37 * most + 3)
      by (EndsThere few) = left_pays most past left few run (no_agent old.role.kind guard.sure) guard.rise (guard.writes (world setup h).store.rows)
      by (AndGoesOn g) =
          let first = left_pays most g.entries g.budget g.few (left_run g) (no_agent old.role.kind guard.sure) guard.rise (guard.writes (world setup h).store.rows) in
          let plain = ap is_plain (rest_kind g) ∙ guard.plain in
          let rest = other_slot setup lets seat g.state after g.entries past g.budget left idle run (rest_runs g) (rest_built g)
          (no_scheduler g.state.role.kind plain) (no_ops g.state.role.kind plain) g.none (actors_pay setup seat g.state.role (rest_built g) allow) in
          let both = parts g in
          omega (arith, first, rest, both)

  -- ---- the scheduler

  pub scheduler_writes : old.role.kind ≡ seats.Scheduler
      → writes_since setup h past ≤ claims_in (world setup h).store.rows + volumes_in (world setup h).store.rows + 1 + total pod_size (world setup h).store.rows
  scheduler_writes kind = by ended (ap (λ k. leftover_writes k (world setup h).store.rows) kind)
    where
      by : HasEnded setup lets seat after past left idle (woken old) h b
          → leftover_writes old.role.kind (world setup h).store.rows ≡ claims_in (world setup h).store.rows + volumes_in (world setup h).store.rows + 1
          → writes_since setup h past ≤ claims_in (world setup h).store.rows + volumes_in (world setup h).store.rows + 1 + total pod_size (world setup h).store.rows
      by (EndsThere few) own = let writes = few.writes in omega (arith, writes, own)
      by (AndGoesOn g) own =
          let writes = g.few.writes in
          let rest = writes_from setup lets seat g.state after g.entries past g.budget left idle (rest_kind g ∙ kind) run holds g.none (rest_runs g) in
          let scheduled = writes_few (world setup g.entries).store.rows in
          let fewer = (left_fewer g).pods in
          let both = parts g in
          omega (arith, writes, own, rest, scheduled, fewer, both)

  -- no call of it raises what is left to do but where it takes a volume that carries no claim
  pub scheduler_work : old.role.kind ≡ seats.Scheduler → work_left setup (world setup past) ≤ work_left setup (world setup h) + 3 * volumes_in (world setup h).store.rows
  scheduler_work kind =
      let all = run_moves setup lets seat after past left idle run old.role built (PaysUntaken setup) (λ w. omega arith)
      (λ u v w first then_. omega (arith, first, then_)) calls (woken old) h b runs refl in
      let few = untaken_are_volumes (world setup h).store.rows in
      omega (arith, all, few)
    where
      calls : (x : ActorState) (request : Request) (reply : Reply) (g : List Entry) → x.role ≡ old.role → IsCalled setup seat x request reply g
          → PaysUntaken setup (world setup g) (world setup (told_entry seat x request reply ∷ g))
      calls x request reply g is called = schedulers_raise_little setup (told_entry seat x request reply ∷ []) g (ap (λ (r : Role). r.kind) is ∙ kind, tt) called.run

  -- ---- ops

  module _ (kind : old.role.kind ≡ seats.Ops) (order : AreAlwaysInOrder setup past) where
    no_agent_ops : old.role.kind ≢ seats.Agent
    no_agent_ops is = true≢false (sym (ap is_agent (sym kind ∙ is)))

    ops_once : leftover_writes old.role.kind (world setup h).store.rows ≡ 1
    ops_once = ap (λ k. leftover_writes k (world setup h).store.rows) kind

    -- no claim has two nodes
    left_nodes : (g : Rests) → nodes_in (world setup g.entries) ≤ claims_in (world setup h).store.rows
    left_nodes g =
        let grown = run_grows lets seat after past left idle g.state g.entries g.budget g.runs in
        let nodes = nodes_are_few (world setup g.entries) (rows_stand_in_order setup g.entries) (order grown.longer.added g.entries grown.longer.are) in
        let fewer = (left_fewer g).claims in
        omega (arith, nodes, fewer)

    pub ops_work : writes_since setup h past + work_left setup (world setup past) ≤ work_left setup (world setup h) + (claims_in (world setup h).store.rows + 40)
    ops_work = by ended
      where
        by : HasEnded setup lets seat after past left idle (woken old) h b
            → writes_since setup h past + work_left setup (world setup past) ≤ work_left setup (world setup h) + (claims_in (world setup h).store.rows + 40)
        by (EndsThere few) = let all = left_pays 1 past left few run no_agent_ops (ap most_rise kind) ops_once in omega (arith, all)
        by (AndGoesOn g) =
            let first = left_pays 1 g.entries g.budget g.few (left_run g) no_agent_ops (ap most_rise kind) ops_once in
            let rest = ops_slot setup lets seat g.state after g.entries past g.budget left idle run (rest_runs g) (rest_kind g ∙ kind) g.none
            (actors_pay setup seat g.state.role (rest_built g) allow) in
            let nodes = left_nodes g in
            let both = parts g in
            omega (arith, first, rest, nodes, both)

    pub ops_costs : (claims volumes faults : ℕ) → claims_in (world setup h).store.rows ≤ claims → volumes_in (world setup h).store.rows ≤ volumes → faults_left setup (world setup h).devices ≤ faults
        → b ≤ left + (8 * writes_since setup h past + ops_calls claims volumes (ops_times claims volumes faults))
    ops_costs claims volumes faults few_claims few_volumes few_faults = by ended (three old.role.kind (world setup h).store.rows no_agent_ops)
      where
        by : HasEnded setup lets seat after past left idle (woken old) h b → leftover_calls old.role.kind (world setup h).store.rows ≡ 3
            → b ≤ left + (8 * writes_since setup h past + ops_calls claims volumes (ops_times claims volumes faults))
        by (EndsThere few) own = let calls = few.calls in omega (arith, calls, own)
        by (AndGoesOn g) own =
            let calls = g.few.calls in
            let writes = g.few.writes in
            let once = ops_once in
            let count = left_writes g.entries g.budget g.few in
            let fewer = left_fewer g in
            let fewer_claims = fewer.claims in
            let more_volumes = fewer.volumes in
            let fewer_faults = fewer.faults in
            let nodes = left_nodes g in
            let rest = ops_costs_from setup lets seat g.state after g.entries past g.budget left idle (rest_kind g ∙ kind) run (reads_pass lets holds) g.none (rest_runs g) in
            let falls = falls_from setup lets seat g.state after g.entries past g.budget left idle (rest_kind g ∙ kind) run g.none (rest_runs g) in
            let bounded = ops_writes_are_bounded setup (world setup g.entries) in
            let end_volumes = ended_few (world setup g.entries).store.rows in
            let sweeps = ops_sweeps (world setup g.entries).store.rows claims (volumes + 1) (omega (arith, few_claims, fewer_claims)) (omega (arith, few_volumes, more_volumes, count, writes, once)) in
            let times = div_less (writes_since setup g.entries past) (ops_times claims volumes faults)
            (omega (arith, falls, bounded, nodes, few_claims, few_volumes, few_faults, fewer_claims, more_volumes, fewer_faults, count, writes, once)) in
            let less = mul-le (ops_sweep_calls (world setup g.entries).store.rows) (writes_since setup g.entries past / 513)
            (sweep_calls claims (volumes + 1)) (ops_times claims volumes faults / 513) sweeps times in
            let both = parts g in
            omega (arith, calls, own, rest, less, both, end_volumes, few_claims, few_volumes, fewer_claims, more_volumes, count, writes, once)

  -- ---- agents

  pub agent_costs : (claims pods : ℕ) → old.role.kind ≡ seats.Agent → claims_in (world setup h).store.rows ≤ claims → total pod_size (world setup h).store.rows ≤ pods
      → b ≤ left + (8 * writes_since setup h past + agent_calls claims pods + agent_sweep_calls pods * (writes_since setup h past / 513))
  agent_costs claims pods kind few_claims few_pods = by ended (ap (λ k. leftover_calls k (world setup h).store.rows) kind)
    where
      by : HasEnded setup lets seat after past left idle (woken old) h b → leftover_calls old.role.kind (world setup h).store.rows ≡ 2 * claims_in (world setup h).store.rows + 6
          → b ≤ left + (8 * writes_since setup h past + agent_calls claims pods + agent_sweep_calls pods * (writes_since setup h past / 513))
      by (EndsThere few) own = let calls = few.calls in omega (arith, calls, own, few_claims)
      by (AndGoesOn g) own =
          let calls = g.few.calls in
          let fewer = (left_fewer g).pods in
          let rest = agent_costs_from setup lets seat g.state after g.entries past g.budget left idle pods (rest_kind g ∙ kind) run holds g.none (omega (arith, fewer, few_pods)) (rest_runs g) in
          let both = parts g in
          let sweeps = mul_less (agent_sweep_calls pods) (writes_since setup g.entries past / 513) (writes_since setup h past / 513)
          (div_less (writes_since setup g.entries past) (writes_since setup h past) (omega (arith, both))) in
          omega (arith, calls, own, rest, both, sweeps, few_claims)
