use Rattle.std.proofs.Common.{◌≡◌, ◌+◌, ◌++◌, List, drop}
use Rattle.actor_rounds.specs.declared.drainers.Drainer.{Drainer}
use Rattle.actor_rounds.specs.Drainers.{AreAdded, AreNewAgents}
use Rattle.actor_rounds.proofs.drainers.add_agents.Given as goal

-- with agents of the nodes ahead all are added
abbrev pub invariant-loop-node : goal.invariant-loop-node
invariant-loop-node l = record {
  seat : l.seat ≡ l.first + l.node-index;
  added : (agents : List Drainer) → AreNewAgents l.seat (drop l.node-index l.node-items) agents → AreAdded l.first l.nodes l.initial.list.items (l.list.items ++ agents);
}
