use Rattle.std.proofs.Common.{◌≡◌, drop}
use Rattle.node_agent.specs.Agents.{is_volume_read}
use Rattle.node_agent.proofs.reads.is_volume_read.Given as goal

-- what is to be found is still ahead
abbrev pub invariant-loop-one : goal.invariant-loop-one
invariant-loop-one l = is_volume_read l.name l.ready ≡ is_volume_read l.name (drop l.one-index l.ready)
