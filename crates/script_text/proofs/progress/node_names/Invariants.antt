use Rattle.std.proofs.Common.{◌≡◌, take, map}
use Rattle.script_text.proofs.progress.node_names.Given as goal

-- the names of the nodes so far
abbrev pub invariant-loop-agent : goal.invariant-loop-agent
invariant-loop-agent l = l.names ≡ map (λ p. p.1) (take l.agent-index l.agent-items)
