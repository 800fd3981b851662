use Rattle.std.proofs.Common.{◌≡◌, ◌++◌, map, take}
use Rattle.script_lines.specs.declared.actors.Actor.TheVariants.{Agent}
use Rattle.script_threads.proofs.crew.add_agents.Given as goal

abbrev pub invariant-loop-node : goal.invariant-loop-node
invariant-loop-node l = l.actors.items ≡ l.initial.actors.items ++ map (λ node. Agent node) (take l.node-index l.node-items)
