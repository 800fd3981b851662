use Rattle.std.proofs.Common.{◌≤◌, ◌-◌, length, reverse, take}
use Rattle.binder_model.specs.AgentLicence.{ListedPods}
use Rattle.licence_agent.proofs.mounting.first_list.Given as goal

-- none of the entries so far told a list of all pods
abbrev pub invariant-loop-place : goal.invariant-loop-place
invariant-loop-place l = record {
  within : l.place ≤ length l.since;
  before : ListedPods (reverse (take l.place l.since)) → ⊥;
}

abbrev pub decreases-loop-place : goal.decreases-loop-place
decreases-loop-place l = length l.since - l.place
