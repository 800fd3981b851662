use Rattle.actor_rounds.proofs.NewFacts.{all_new, new_differ, new_stand}
use Rattle.actor_rounds.proofs.drainers.Drainers.new.Goals as goal

pub returns-clause-are : goal.returns-clause-are
returns-clause-are c =
    all_new c.args.first_seat c.args.nodes.now _ _ _ _ _ _ _ c.new-list.ensures.items c.in_ok-add_worker.ensures c.in_ok-add_worker-2.ensures
    c.in_ok-add_worker-3.ensures c.in_ok-add_worker-4.ensures c.in_ok-add_worker-5.ensures
    c.in_ok-add_agents.ensures

pub invariant_of-result : goal.invariant_of-result
invariant_of-result c =
    new_differ c.args.first_seat c.args.nodes.now _
    (all_new c.args.first_seat c.args.nodes.now _ _ _ _ _ _ _ c.new-list.ensures.items c.in_ok-add_worker.ensures c.in_ok-add_worker-2.ensures
    c.in_ok-add_worker-3.ensures c.in_ok-add_worker-4.ensures c.in_ok-add_worker-5.ensures
    c.in_ok-add_agents.ensures)

pub returns-clause-stand : goal.returns-clause-stand
returns-clause-stand c = new_stand c.args.first_seat c.args.nodes.now _ (returns-clause-are c)
