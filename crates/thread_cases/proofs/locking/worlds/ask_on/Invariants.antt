use Rattle.shared_world.specs.Passes.{IsOf}
use Rattle.thread_cases.proofs.locking.worlds.ask_on.Given as goal

abbrev pub invariant-loop : goal.invariant-loop
invariant-loop g l = IsOf l.shared l.pass
