use Rattle.std.proofs.Common.{◌≡◌, drop}
use Rattle.script_runs.specs.Parts.{is_named}
use Rattle.script_runs.proofs.parts.is_named.Given as goal

abbrev pub invariant-loop-line : goal.invariant-loop-line
invariant-loop-line l = is_named l.name (drop l.line-index l.lines) ≡ is_named l.name l.lines
