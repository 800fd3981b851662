use Rattle.std.proofs.Common.{◌≡◌, drop}
use Rattle.actor_turns.specs.Fates.{fate_of}
use Rattle.actor_turns.proofs.loss.fate_of.Given as goal

abbrev pub invariant-loop-loss : goal.invariant-loop-loss
invariant-loop-loss l = fate_of (drop l.loss-index l.losses) l.number ≡ fate_of l.losses l.number
