-- A round makes few calls, whatever its actors have under way as it begins: the sum of its slots, role by role.
use Rattle.std.proofs.Common.{◌≡◌, ℕ, ◌+◌, ◌*◌, ◌≤◌, List, [], ◌∷◌, ◌++◌, append_assoc, length, Bool, refl, sym, ◌∙◌, ap, subst, arith}
use Rattle.std.specs.Prelude.{◌/◌, map, ⊤}
use Rattle.kube_objects.specs.declared.objects.Object.{Object}
use Rattle.call_types.specs.declared.entry.Entry.{Entry}
use Rattle.call_types.specs.declared.request.SeatKind.TheVariants as seats
use Rattle.call_types.specs.declared.setup.Setup.{Setup}
use Rattle.binder_model.specs.Promises.{IsRunOf}
use Rattle.binder_model.specs.World.{world}
use Rattle.settle_measure.specs.Left.Measure.{claims_in, faults_left, pods_in, total, volumes_in, work_left}
use Rattle.settle_measure.proofs.Left.Bounds.{left_is_bounded}
use Rattle.worker_core.specs.declared.role.Role.{Role}
use Rattle.worker_core.specs.Roles.{IsBuiltKind}
use Rattle.actor_rounds.specs.declared.drainers.Drainer.{Drainer}
use Rattle.actor_rounds.specs.Drainers.{AreRoles, agent_of, roles_of}
use Rattle.actor_rounds.specs.Rounds.{Ends, IsRound, Lets, RoundOf, Turns}
use Rattle.actor_rounds.proofs.RoundFacts.{round_grows}
use Rattle.settle_slot.specs.Slot.Gates.{HoldsMountsAlone}
use Rattle.settle_calls.proofs.Events.Sums.{div_less, mul_less}
use Rattle.settle_calls.specs.Slots.Rounds.{names_in}
use Rattle.settle_calls.specs.Slots.Slots.{writes_since}
use Rattle.settle_write_counts.specs.Rounds.Rounds.{pod_size}
use Rattle.settle_write_counts.proofs.Rounds.Sums.{one_more}
use Rattle.settle_write_counts.proofs.Agents.Slots.{agents_write_little, slots_add_no_pod}
use Rattle.settle_pays.specs.Drains.All.{ImportsAllow}
use Rattle.settle_due.specs.Begun.Begun.{begins_to_last}
use Rattle.settle_budget.specs.Drains.Budget.{AreAlwaysInOrder}
use Rattle.settle_round_calls.proofs.Sure.Lasting.{sure_built}
use Rattle.settle_round_calls.specs.Rest.ShortRounds.{HasShortRounds, agent_sweep_calls, stated_calls}
use Rattle.settle_round_calls.proofs.Rest.Kept.{scheduler_keeps}
use Rattle.settle_round_calls.proofs.Rest.Rounds.{agents_sweep, lengths, middle_run, nodes_many, split}
use Rattle.settle_round_calls.proofs.Rest.Short.{objects, pods_few, sizes}
use Rattle.settle_round_calls.specs.Rounds.EveryRound.{EveryRoundIsShort}
use Rattle.settle_round_calls.proofs.Rounds.Counts.{slot_fewer}
use Rattle.settle_round_calls.proofs.Rounds.Numbers.{agent_calls, ops_calls, ops_times, round_calls, stated}
use Rattle.settle_round_calls.proofs.Rounds.Slots.{IsGuard, agent_costs, guard_writes, ops_costs, ops_work, scheduler_work, scheduler_writes, sure_costs}

-- ---- roles

abbrev AreAgents : List Role → Type 0
AreAgents [] = ⊤
AreAgents (r ∷ rs) = (r.kind ≡ seats.Agent) × AreAgents rs

-- some that guard, each with how often it writes at most what it has under way; behind them agents
abbrev GuardFirst : List ℕ → List Role → Type 0
GuardFirst [] rs = AreAgents rs
GuardFirst (most ∷ mosts) [] = ⊥
GuardFirst (most ∷ mosts) (r ∷ rs) = IsGuard most r.kind × GuardFirst mosts rs

-- what they cost beside their writes, and by how much they may raise what is left to do
abbrev guard_calls : List ℕ → ℕ
guard_calls [] = 0
guard_calls (most ∷ mosts) = 68 + guard_calls mosts

abbrev risen : List ℕ → ℕ
risen [] = 0
risen (most ∷ mosts) = 37 * most + 3 + risen mosts

-- a binder and two protection controllers
abbrev guards : List ℕ
guards = 4 ∷ 1 ∷ 1 ∷ []

-- a scheduler, then ops, then these
abbrev StandSo : List Role → Type 0
StandSo [] = ⊥
StandSo (scheduler ∷ []) = ⊥
StandSo (scheduler ∷ (ops ∷ others)) = (scheduler.kind ≡ seats.Scheduler) × ((ops.kind ≡ seats.Ops) × GuardFirst guards others)

are_agents : (nodes : List (List ℕ)) → AreAgents (map agent_of nodes)
are_agents [] = tt
are_agents (node ∷ nodes) = (refl, are_agents nodes)

binder_guards : IsGuard 4 seats.Binder
binder_guards = record { plain = refl; sure = refl; rise = refl; writes = λ rows. refl }

claims_guarded : IsGuard 1 seats.ClaimProtect
claims_guarded = record { plain = refl; sure = refl; rise = refl; writes = λ rows. refl }

volumes_guarded : IsGuard 1 seats.VolumeProtect
volumes_guarded = record { plain = refl; sure = refl; rise = refl; writes = λ rows. refl }

stand_so : (roles : List Role) → AreRoles roles → StandSo roles
stand_so roles these = subst StandSo (sym these.are) (refl, (refl, (binder_guards, (claims_guarded, (volumes_guarded, are_agents these.nodes)))))

-- ---- the sum

-- what is always in order was so before
pub older_in_order : (setup : Setup) (newer h past : List Entry) → past ≡ newer ++ h → AreAlwaysInOrder setup past → AreAlwaysInOrder setup h
older_in_order setup newer h past are order between older split_ = order (newer ++ between) older (are ∙ (ap (λ es. newer ++ es) split_ ∙ sym (append_assoc newer between older)))

module _ (setup : Setup) (lets : Lets) (past : List Entry) (left : ℕ) (allow : ImportsAllow setup) (run : IsRunOf setup past)
    (holds : HoldsMountsAlone lets) (order : AreAlwaysInOrder setup past) (start : List Entry) where
  -- from here on so many calls are made beside the writes, and so many writes done
  record IsFew (h : List Entry) (b calls writes : ℕ) : Type 0 where
    costs : b ≤ left + (8 * writes_since setup h past + calls)
    done : writes_since setup h past ≤ writes

  run_here : (ds : List Drainer) (h : List Entry) (b : ℕ) (after : List Drainer) (whole : Bool) → IsRound lets past left ds h b after whole → IsRunOf setup h
  run_here ds h b after whole round = middle_run setup lets past left run holds start ds h b after whole round

  order_here : (ds : List Drainer) (h : List Entry) (b : ℕ) (after : List Drainer) (whole : Bool) → IsRound lets past left ds h b after whole → AreAlwaysInOrder setup h
  order_here ds h b after whole round =
      let g = round_grows lets past left ds h b after whole round in
      older_in_order setup g.longer.added h past g.longer.are order

  none_done : (h : List Entry) → past ≡ h → (world setup past).store.version ≡ (world setup h).store.version
  none_done h entries = ap (λ es. (world setup es).store.version) entries

  module _ (claims pods : ℕ) where
    -- what agents list anew
    abbrev swept_at : List Entry → ℕ
    swept_at h = agent_sweep_calls pods * (pods_in (world setup h).store.rows / 513)

    swept_less : (h middle : List Entry) → pods_in (world setup middle).store.rows ≤ pods_in (world setup h).store.rows → swept_at middle ≤ swept_at h
    swept_less h middle stay =
        mul_less (agent_sweep_calls pods) (pods_in (world setup middle).store.rows / 513) (pods_in (world setup h).store.rows / 513)
        (div_less (pods_in (world setup middle).store.rows) (pods_in (world setup h).store.rows) stay)

    agents_round : (ds : List Drainer) (h : List Entry) (b : ℕ) (after : List Drainer) (whole : Bool) → IsRound lets past left ds h b after whole
        → AreAgents (roles_of ds) → claims_in (world setup h).store.rows ≤ claims → total pod_size (world setup h).store.rows ≤ pods
        → IsFew h b (length ds * agent_calls claims pods + swept_at h) (pods_in (world setup h).store.rows)
    agents_round _ h b _ _ (Ends entries rest) agents few_claims few_pods = let none = none_done h entries in record { costs = omega (arith, rest); done = omega (arith, none) }
    agents_round _ h b _ _ (Turns {ds = ds} {after = after} {whole = whole} d ran middle rest idle seat runs more) agents few_claims few_pods =
        let built : IsBuiltKind d.actor.role.kind = subst IsBuiltKind (sym agents.0) tt in
        let here = run_here ds middle rest after whole more in
        let n = split setup lets past left run holds start d ran ds h middle b rest idle after whole runs more in
        let fewer = slot_fewer setup lets d.seat d.actor ran.actor h middle b rest idle built here runs in
        let fewer_claims = fewer.claims in
        let fewer_pods = fewer.pods in
        let now = agent_costs setup lets d.seat d.actor ran.actor h middle b rest idle built allow here holds runs claims pods agents.0 few_claims few_pods in
        let leave = agents_write_little setup lets d.seat d.actor ran.actor h middle b rest idle agents.0 here runs in
        let sweeps = agents_sweep pods (writes_since setup h middle) (pods_in (world setup h).store.rows) (pods_in (world setup middle).store.rows) leave in
        let later = agents_round ds middle rest after whole more agents.1 (omega (arith, few_claims, fewer_claims)) (omega (arith, few_pods, fewer_pods)) in
        let costs_later = later.costs in
        let done_later = later.done in
        let own = one_more (length ds) (agent_calls claims pods) in
        record { costs = omega (arith, n, now, sweeps, costs_later, own); done = omega (arith, n, leave, done_later) }

    -- ---- the binder, the protection controllers and the agents

    guards_round : (mosts : List ℕ) (agents : ℕ) (ds : List Drainer) (h : List Entry) (b : ℕ) (after : List Drainer) (whole : Bool)
        → IsRound lets past left ds h b after whole → GuardFirst mosts (roles_of ds) → length ds ≡ length mosts + agents
        → claims_in (world setup h).store.rows ≤ claims → total pod_size (world setup h).store.rows ≤ pods
        → IsFew h b (guard_calls mosts + (agents * agent_calls claims pods + swept_at h)) (work_left setup (world setup h) + risen mosts + pods_in (world setup h).store.rows)
    guards_round [] agents ds h b after whole round so many few_claims few_pods =
        let all = agents_round ds h b after whole round so few_claims few_pods in
        let costs_all = all.costs in
        let done_all = all.done in
        let own = ap (λ n. n * agent_calls claims pods) many in
        record { costs = omega (arith, costs_all, own); done = omega (arith, done_all) }
    guards_round (most ∷ mosts) agents _ h b _ _ (Ends entries rest) so many few_claims few_pods = absurd so
    guards_round (most ∷ mosts) agents _ h b _ _ (Turns {ds = ds} {after = after} {whole = whole} d ran middle rest idle seat runs more) so many few_claims few_pods =
        let guard : IsGuard most d.actor.role.kind = so.0 in
        let built : IsBuiltKind d.actor.role.kind = sure_built d.actor.role.kind guard.sure in
        let here = run_here ds middle rest after whole more in
        let n = split setup lets past left run holds start d ran ds h middle b rest idle after whole runs more in
        let fewer = slot_fewer setup lets d.seat d.actor ran.actor h middle b rest idle built here runs in
        let fewer_claims = fewer.claims in
        let fewer_pods = fewer.pods in
        let now = sure_costs setup lets d.seat d.actor ran.actor h middle b rest idle built allow here holds runs guard.sure in
        let pays = guard_writes setup lets d.seat d.actor ran.actor h middle b rest idle built allow here holds runs most guard in
        let stay = slots_add_no_pod setup lets d.seat d.actor ran.actor h middle b rest idle built here runs in
        let sweeps = swept_less h middle stay in
        let later = guards_round mosts agents ds middle rest after whole more so.1 (omega (arith, many)) (omega (arith, few_claims, fewer_claims)) (omega (arith, few_pods, fewer_pods)) in
        let costs_later = later.costs in
        let done_later = later.done in
        record { costs = omega (arith, n, now, sweeps, costs_later); done = omega (arith, n, pays, stay, done_later) }

    -- ---- ops before them

    ops_round : (volumes faults agents : ℕ) (role : Role) (ds : List Drainer) (h : List Entry) (b : ℕ) (after : List Drainer) (whole : Bool)
        → IsRound lets past left ds h b after whole → StandSo (role ∷ roles_of ds) → length ds ≡ 4 + agents
        → claims_in (world setup h).store.rows ≤ claims → total pod_size (world setup h).store.rows ≤ pods
        → volumes_in (world setup h).store.rows ≤ volumes → faults_left setup (world setup h).devices ≤ faults
        → IsFew h b (ops_calls claims volumes (ops_times claims volumes faults) + (3 * 68 + (agents * agent_calls claims pods + swept_at h)))
        (work_left setup (world setup h) + claims + 271 + pods_in (world setup h).store.rows)
    ops_round volumes faults agents role _ h b _ _ (Ends entries rest) so many few_claims few_pods few_volumes few_faults = absurd so
    ops_round volumes faults agents role _ h b _ _ (Turns {ds = ds} {after = after} {whole = whole} d ran middle rest idle seat runs more) so many few_claims few_pods few_volumes few_faults =
        let built : IsBuiltKind d.actor.role.kind = subst IsBuiltKind (sym so.1.0) tt in
        let here = run_here ds middle rest after whole more in
        let in_order = order_here ds middle rest after whole more in
        let n = split setup lets past left run holds start d ran ds h middle b rest idle after whole runs more in
        let fewer = slot_fewer setup lets d.seat d.actor ran.actor h middle b rest idle built here runs in
        let fewer_claims = fewer.claims in
        let fewer_pods = fewer.pods in
        let now = ops_costs setup lets d.seat d.actor ran.actor h middle b rest idle built allow here holds runs so.1.0 in_order claims volumes faults few_claims few_volumes few_faults in
        let pays = ops_work setup lets d.seat d.actor ran.actor h middle b rest idle built allow here holds runs so.1.0 in_order in
        let stay = slots_add_no_pod setup lets d.seat d.actor ran.actor h middle b rest idle built here runs in
        let sweeps = swept_less h middle stay in
        let later = guards_round guards agents ds middle rest after whole more so.1.1 (omega (arith, many)) (omega (arith, few_claims, fewer_claims)) (omega (arith, few_pods, fewer_pods)) in
        let costs_later = later.costs in
        let done_later = later.done in
        record { costs = omega (arith, n, now, sweeps, costs_later); done = omega (arith, n, pays, stay, done_later, few_claims) }

  -- ---- the scheduler first

  whole_round : (agents : ℕ) (ds : List Drainer) (h : List Entry) (b : ℕ) (after : List Drainer) (whole : Bool)
      → IsRound lets past left ds h b after whole → StandSo (roles_of ds) → length ds ≡ 5 + agents
      → IsFew h b (round_calls agents (claims_in (world setup h).store.rows) (volumes_in (world setup h).store.rows)
      (total pod_size (world setup h).store.rows) (pods_in (world setup h).store.rows) (faults_left setup (world setup h).devices))
      (work_left setup (world setup h) + 2 * claims_in (world setup h).store.rows + 4 * volumes_in (world setup h).store.rows + total pod_size
      (world setup h).store.rows + 272 + pods_in (world setup h).store.rows)
  whole_round agents _ h b _ _ (Ends entries rest) so many = absurd so
  whole_round agents _ h b _ _ (Turns {ds = ds} {after = after} {whole = whole} d ran middle rest idle seat runs more) so many =
      let kind = first_kind (roles_of ds) so in
      let built : IsBuiltKind d.actor.role.kind = subst IsBuiltKind (sym kind) tt in
      let here = run_here ds middle rest after whole more in
      let n = split setup lets past left run holds start d ran ds h middle b rest idle after whole runs more in
      let fewer = slot_fewer setup lets d.seat d.actor ran.actor h middle b rest idle built here runs in
      let kept = scheduler_keeps setup lets d.seat d.actor ran.actor h middle b rest idle kind here runs in
      let now = sure_costs setup lets d.seat d.actor ran.actor h middle b rest idle built allow here holds runs (ap begins_to_last kind) in
      let writes = scheduler_writes setup lets d.seat d.actor ran.actor h middle b rest idle built allow here holds runs kind in
      let work = scheduler_work setup lets d.seat d.actor ran.actor h middle b rest idle built allow here holds runs kind in
      let stay = slots_add_no_pod setup lets d.seat d.actor ran.actor h middle b rest idle built here runs in
      let sweeps = swept_less (claims_in (world setup h).store.rows) (total pod_size (world setup h).store.rows) h middle stay in
      let later = ops_round (claims_in (world setup h).store.rows) (total pod_size (world setup h).store.rows)
      (volumes_in (world setup h).store.rows) (faults_left setup (world setup h).devices) agents d.actor.role ds middle rest after whole more so
      (omega (arith, many)) kept.claims fewer.pods kept.volumes kept.faults in
      let costs_later = later.costs in
      let done_later = later.done in
      record { costs = omega (arith, n, now, sweeps, costs_later); done = omega (arith, n, writes, work, stay, done_later) }
    where
      first_kind : (roles : List Role) → StandSo (d.actor.role ∷ roles) → d.actor.role.kind ≡ seats.Scheduler
      first_kind [] s = absurd s
      first_kind (r ∷ roles) s = s.0

-- ---- all roles of a drain

module _ (setup : Setup) (lets : Lets) (round : RoundOf lets) where
  -- what stands as the round begins
  abbrev rows : List Object
  rows = (world setup round.start).store.rows

  -- the planned faults that are ahead then
  abbrev faults : ℕ
  faults = faults_left setup (world setup round.start).devices

  -- its calls, summed, are no more than the stated number
  summed : ImportsAllow setup → AreRoles (roles_of round.drainers) → IsRunOf setup round.past → HoldsMountsAlone lets → length round.drainers ≤ 13 → AreAlwaysInOrder setup round.past
      → HasShortRounds (world setup round.start) → round.budget ≤ round.left + stated_calls setup (world setup round.start)
  summed allow roles run holds few order small =
      let many : length round.drainers ≡ 5 + length roles.nodes = (let a = lengths round.drainers in
      let c = ap (λ (rs : List Role). length rs) roles.are in let d = nodes_many roles.nodes in omega (arith, a, c, d)) in
      let all = whole_round setup lets round.past round.left allow run holds order round.start (length roles.nodes) round.drainers round.start round.budget round.after round.whole
      round.is_round (stand_so (roles_of round.drainers) roles) many in
      let costs_all = all.costs in
      let done_all = all.done in
      let counts = sizes rows in
      let stand = objects rows in
      let pods = pods_few rows in
      let most = left_is_bounded rows (world setup round.start).devices in
      let number = stated (total (λ o. 1 + names_in o) rows) (claims_in rows) (volumes_in rows) (total pod_size rows) (pods_in rows) faults (writes_since setup round.start round.past)
      (length roles.nodes) counts (omega (arith, stand, small)) pods (omega (arith, many, few)) (omega (arith, done_all, most)) in
      omega (arith, costs_all, number)

pub every_round_is_short : EveryRoundIsShort
every_round_is_short setup lets round allow roles run holds few order small = summed setup lets round allow roles run holds few order small
