use Rattle.extended_runs.specs.Works.{given_of}
use Rattle.extended_play.specs.Steps.Walking.{WorksSoFar}
use Rattle.extended_play.proofs.play.play.Given as goal

abbrev pub invariant-loop-side : goal.invariant-loop-side
invariant-loop-side l = WorksSoFar l.extended.script (given_of l.extended) l.budget l.extended.sides l.side-index l.walk
