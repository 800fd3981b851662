use Rattle.std.proofs.Common.{◌≤◌, ◌-◌, length, drop, reverse, take}
use Rattle.licence_agent.specs.Mounting.{IsShownIn}
use Rattle.licence_agent.proofs.mounting.is_shown_in.Given as goal

-- none of the entries so far told such a pod
abbrev pub invariant-loop-place : goal.invariant-loop-place
invariant-loop-place l = record {
  within : l.place ≤ length l.listed;
  none : IsShownIn (reverse l.mine) l.node l.uid l.claims (reverse (drop l.place l.listed)) (reverse (take l.place l.listed)) → ⊥;
}

abbrev pub decreases-loop-place : goal.decreases-loop-place
decreases-loop-place l = length l.listed - l.place
