use Rattle.std.proofs.Common.{◌≡◌, ◌++◌, drop}
use Rattle.script_runs.specs.Parts.{lost_calls}
use Rattle.script_runs.proofs.parts.losses_in.Given as goal

abbrev pub invariant-loop-line : goal.invariant-loop-line
invariant-loop-line l = l.losses ++ lost_calls l.name (drop l.line-index l.lines) ≡ lost_calls l.name l.lines
