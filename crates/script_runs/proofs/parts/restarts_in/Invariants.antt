use Rattle.std.proofs.Common.{◌≡◌, ◌++◌, drop}
use Rattle.script_text.specs.Said.{restarts_of}
use Rattle.script_runs.proofs.parts.restarts_in.Given as goal

abbrev pub invariant-loop-line : goal.invariant-loop-line
invariant-loop-line l = l.restarts ++ restarts_of l.name (drop l.line-index l.lines) ≡ restarts_of l.name l.lines
