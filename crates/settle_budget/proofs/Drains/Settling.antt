-- A drain of few rounds ends settled with the stated budget.
use Rattle.std.proofs.Common.{◌≡◌, ◌⊎◌, ◌+◌, ◌*◌, ◌≤◌, length, inl, inr, arith}
use Rattle.call_types.specs.declared.setup.Setup.{Setup}
use Rattle.binder_model.specs.Due.{IsSettled}
use Rattle.binder_model.specs.World.{World, world}
use Rattle.model_laws.proofs.Histories.{rows_stand_in_order}
use Rattle.settle_measure.specs.Left.Measure.{claims_in, faults_left, work_left}
use Rattle.settle_measure.proofs.Left.Bounds.{left_is_bounded}
use Rattle.actor_rounds.proofs.DrainFacts.{drains_grow}
use Rattle.settle_calls.specs.Slots.Rounds.{size_of_world}
use Rattle.settle_write_counts.specs.Rounds.Counts.{nodes_in}
use Rattle.settle_write_counts.proofs.Rounds.Ordered.{nodes_are_few}
use Rattle.settle_write_counts.specs.Rounds.Rounds.{pods_size}
use Rattle.settle_budget.specs.Drains.Drains.{rounds_in}
use Rattle.settle_budget.specs.Drains.Budget.{FewRoundsSettle}
use Rattle.settle_budget.proofs.Drains.Amounts.{budget_is_enough}
use Rattle.settle_budget.proofs.Drains.Claims.{counted_sizes, pods_and_claims}
use Rattle.settle_budget.proofs.Drains.Costs.{drains_cost_little}
use Rattle.settle_budget.proofs.Drains.Drains.{ends_so}

-- what is to be done, by the claims and by the size
work_few : (setup : Setup) (w : World) → work_left setup w ≤ 8 * claims_in w.store.rows + 10 * size_of_world w + faults_left setup w.devices
work_few setup w =
    let most = left_is_bounded w.store.rows w.devices in
    let sizes = counted_sizes w.store.rows in
    omega (arith, most, sizes)

pub few_rounds_settle : FewRoundsSettle
few_rounds_settle setup lets ds after h past b left allow may rests run passes order small few drained rounds enough = by (ends_so setup lets after past left ds h b drained)
  where
    pods_few : claims_in (world setup h).store.rows + pods_size (world setup h) ≤ size_of_world (world setup h)
    pods_few = pods_and_claims (world setup h).store.rows

    by : IsSettled setup (world setup past) ⊎ (left ≡ 0) → IsSettled setup (world setup past)
    by (inl settled) = settled
    by (inr none) =
        let p = pods_few in
        let c = drains_cost_little setup lets ds after h past b left allow may rests run passes order (omega (arith, p, small)) drained in
        let paid = c.paid in
        let calls = c.calls in
        let g = drains_grow lets setup after past left ds h b drained in
        let nodes = nodes_are_few (world setup h) (rows_stand_in_order setup h) (order g.longer.added h g.longer.are) in
        let less =
        budget_is_enough (claims_in (world setup h).store.rows) (faults_left setup (world setup h).devices) (work_left setup (world setup h))
        (nodes_in (world setup h)) (pods_size (world setup h)) (rounds_in lets setup after past left ds h b drained) (length ds) c.sweeps (size_of_world (world setup h))
        (omega (arith, p)) small (work_few setup (world setup h)) nodes p few rounds (omega (arith, paid)) in
        absurd (omega (arith, calls, less, none, enough))
