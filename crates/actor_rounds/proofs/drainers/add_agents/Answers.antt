use Rattle.std.proofs.Common.{arith}
use Rattle.actor_rounds.proofs.NewFacts.{added_more, all_added}
use Rattle.actor_rounds.proofs.drainers.add_agents.Goals as goal

pub loop-node-preserved : goal.loop-node-preserved
loop-node-preserved c =
    let i = c.loop-node.invariant in
    record {
      seat = omega (arith, i.seat);
      added = added_more c.args.first c.loop-node.seat c.args.nodes.now c.as_slice-node-items.result.now c.loop-node.node-index c.args.list.now.items c.loop-node.list.items c.push.new.self.items
          c.node-item.result c.in_ok-agent.agent c.loop-node-test.true c.node-item.is c.in_ok-agent.ensures c.in_ok-push.ensures.items i.added;
    }

pub returns : goal.returns
returns c =
    all_added c.args.first c.loop-node.seat c.args.nodes.now c.as_slice-node-items.result.now c.loop-node.node-index c.args.list.now.items
    c.loop-node.list.items (omega (arith, c.loop-node-test.false)) c.loop-node.invariant.added
