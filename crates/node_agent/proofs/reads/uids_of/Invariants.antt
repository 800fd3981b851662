use Rattle.std.proofs.Common.{◌≡◌, take}
use Rattle.node_agent.specs.Agents.{uids_of}
use Rattle.node_agent.proofs.reads.uids_of.Given as goal

-- the UIDs of those before
abbrev pub invariant-loop-one : goal.invariant-loop-one
invariant-loop-one l = l.uids ≡ uids_of (take l.one-index l.ready)
