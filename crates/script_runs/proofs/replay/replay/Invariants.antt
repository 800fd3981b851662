use Rattle.std.proofs.Common.{◌*◌}
use Rattle.size_law.specs.Calls.Calls.{AreByActors}
use Rattle.script_runs.specs.Steps.Standing.{MadeAtMost, SoFar, SomeStands}
use Rattle.script_runs.proofs.replay.replay.Given as goal

abbrev pub invariant-loop-place : goal.invariant-loop-place
invariant-loop-place l = record {
  some : SomeStands l.script l.budget l.stage;
  actors : AreByActors l.stage.world.past;
  so_far : SoFar l.script l.budget l.place l.stage;
  made : MadeAtMost (1000 * l.place) l.stage;
}
