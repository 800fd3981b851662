use Rattle.benches.specs.UserCalls.{OthersStay}
use Rattle.benches.proofs.large.fill.Given as goal

abbrev pub invariant-loop-number : goal.invariant-loop-number
invariant-loop-number l = OthersStay l.fn.world.past l.world.past

abbrev pub invariant-loop-number-2 : goal.invariant-loop-number-2
invariant-loop-number-2 l = OthersStay l.fn.world.past l.world.past
