-- A drain that selects few nodes ends settled with the stated budget; and it selects none where no class binds late and provisions.
use Rattle.std.proofs.Common.{refl, arith}
use Rattle.binder_model.specs.World.{world}
use Rattle.model_laws.proofs.Histories.{rows_stand_in_order}
use Rattle.actor_rounds.specs.Drainers.{roles_of}
use Rattle.actor_rounds.specs.Rounds.{all_pass}
use Rattle.actor_rounds.proofs.RoundFacts.{roles_built}
use Rattle.settle_write_counts.proofs.Rounds.Ordered.{nodes_are_few}
use Rattle.settle_budget.proofs.Drains.Claims.{pods_and_claims}
use Rattle.settle_budget.proofs.Drains.Settling.{few_rounds_settle}
use Rattle.settle_budget.specs.Drains.Selections.{FewSelectionsSettle, StaticDrainsSettle}
use Rattle.settle_budget.proofs.Drains.Counting.{rounds_are_counted}
use Rattle.settle_budget.proofs.Drains.Static.{drain_none}

pub few_selections_settle : FewSelectionsSettle
few_selections_settle setup ds after h past newer b left allow at has run order are few drained =
    let counted = rounds_are_counted setup ds after h past newer b left allow at run are drained in
    let nodes = nodes_are_few (world setup h) (rows_stand_in_order setup h) (order newer h are) in
    let sizes = pods_and_claims (world setup h).store.rows in
    few_rounds_settle setup all_pass ds after h past b left allow at.may at.rests run (λ g request own_read. refl) order has.small has.few drained
    (omega (arith, counted, nodes, sizes, few)) has.enough

pub static_drains_settle : StaticDrainsSettle
static_drains_settle setup ds after h past b left allow at has run order late drained =
    let n = drain_none setup all_pass after past left run late ds h b (roles_built (roles_of ds) at.may.stand.roles) drained in
    let none = n.none in
    few_selections_settle setup ds after h past n.newer b left allow at has run order n.are (omega (arith, none)) drained
