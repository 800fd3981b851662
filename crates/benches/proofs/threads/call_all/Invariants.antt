use Rattle.shared_world.specs.Passes.{IsOf}
use Rattle.benches.proofs.threads.call_all.Given as goal

abbrev pub invariant-loop-number : goal.invariant-loop-number
invariant-loop-number g l = IsOf l.shared l.pass
