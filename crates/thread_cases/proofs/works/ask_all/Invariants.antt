use Rattle.shared_world.specs.Passes.{IsOf}
use Rattle.thread_cases.proofs.works.ask_all.Given as goal

abbrev pub invariant-loop-line : goal.invariant-loop-line
invariant-loop-line g l = IsOf l.shared l.user
