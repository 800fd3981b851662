use Rattle.std.proofs.Common.{◌≡◌, ◌≤◌, length, reverse, take}
use Rattle.binder_model.specs.AgentLicence.{was_told_unmounted}
use Rattle.licence_agent.proofs.agent.was_told_unmounted.Given as goal

-- what is asked of all is asked of the older ones
abbrev pub invariant-loop-left : goal.invariant-loop-left
invariant-loop-left l = record {
  within : l.left ≤ length l.since;
  older : was_told_unmounted l.node l.epoch l.pod (reverse l.since) ≡ was_told_unmounted l.node l.epoch l.pod (reverse (take l.left l.since));
}

abbrev pub decreases-loop-left : goal.decreases-loop-left
decreases-loop-left l = l.left
