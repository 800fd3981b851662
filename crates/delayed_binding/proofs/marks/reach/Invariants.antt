use Rattle.std.proofs.Common.{◌≡◌, ◌+◌, ◌-◌, vec_len}
use Rattle.delayed_binding.specs.Steps.Marks.{marked}
use Rattle.delayed_binding.proofs.marks.reach.Given as goal

-- the places have stayed
abbrev pub invariant-marks : goal.invariant-marks
invariant-marks l = marked 0 l.marks.items ≡ marked 0 l.initial.marks.items

abbrev pub decreases-marks : goal.decreases-marks
decreases-marks l = l.place + 1 - vec_len l.marks
