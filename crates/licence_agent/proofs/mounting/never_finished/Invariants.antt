use Rattle.std.proofs.Common.{◌≡◌, ◌≤◌, length, reverse, take}
use Rattle.binder_model.specs.AgentLicence.{never_finished}
use Rattle.licence_agent.proofs.mounting.never_finished.Given as goal

-- what is asked of all is asked of the older ones
abbrev pub invariant-loop-left : goal.invariant-loop-left
invariant-loop-left l = record {
  within : l.left ≤ length l.mine;
  older : never_finished l.pod (reverse l.mine) ≡ never_finished l.pod (reverse (take l.left l.mine));
}

abbrev pub decreases-loop-left : goal.decreases-loop-left
decreases-loop-left l = l.left
