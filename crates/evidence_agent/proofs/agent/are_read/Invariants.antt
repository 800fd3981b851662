use Rattle.std.proofs.Common.{◌≤◌, ◌-◌, List, drop, length, reverse}
use Rattle.call_types.specs.declared.entry.Entry.{Entry}
use Rattle.binder_model.specs.AgentLicence.{AreReadReady}
use Rattle.evidence_agent.specs.Places.Steps.Since.{Above}
use Rattle.evidence_agent.proofs.agent.are_read.Given as goal

-- what is left of both is to be tested still
abbrev pub invariant-loop-place : goal.invariant-loop-place
invariant-loop-place l = record {
  within : l.place ≤ length l.names;
  left : (recent : List Entry) → Above l.behind (reverse l.entries) recent
      → AreReadReady recent l.namespace (drop l.place l.names) (drop l.place l.uids) → AreReadReady recent l.namespace l.names l.uids;
}

abbrev pub decreases-loop-place : goal.decreases-loop-place
decreases-loop-place l = length l.names - l.place
