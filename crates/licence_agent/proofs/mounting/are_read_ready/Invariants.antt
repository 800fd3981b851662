use Rattle.std.proofs.Common.{◌↔◌, ◌≤◌, ◌-◌, drop, length, reverse}
use Rattle.binder_model.specs.AgentLicence.{AreReadReady}
use Rattle.licence_agent.proofs.mounting.are_read_ready.Given as goal

-- what is left of both is to be tested still
abbrev pub invariant-loop-place : goal.invariant-loop-place
invariant-loop-place l = record {
  within : l.place ≤ length l.names;
  left : AreReadReady (reverse l.recent) l.namespace (drop l.place l.names) (drop l.place l.uids) ↔ AreReadReady (reverse l.recent) l.namespace l.names l.uids;
}

abbrev pub decreases-loop-place : goal.decreases-loop-place
decreases-loop-place l = length l.names - l.place
