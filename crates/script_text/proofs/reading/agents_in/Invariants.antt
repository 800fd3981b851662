use Rattle.std.proofs.Common.{◌≡◌, drop, map}
use Rattle.script_text.specs.Grammar.{agents_beside, agents_in}
use Rattle.script_text.proofs.reading.agents_in.Given as goal

-- what is left goes on from the agents so far
abbrev pub invariant-loop-line : goal.invariant-loop-line
invariant-loop-line l = agents_beside l.agents (map (λ line. line.now) (drop l.line-index l.lines)) ≡ agents_in (map (λ line. line.now) l.lines)
