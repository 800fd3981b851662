use Rattle.std.proofs.Common.{◌≡◌, drop}
use Rattle.history_text.specs.Output.{with_lines}
use Rattle.script_print.specs.Printing.{pool_lines}
use Rattle.script_print.proofs.printing.push_pools.Given as goal

abbrev pub invariant-loop-i : goal.invariant-loop-i
invariant-loop-i l = with_lines l.lines (pool_lines (drop l.i l.pools) (drop l.i l.sizes)) ≡ with_lines l.initial.lines (pool_lines l.pools l.sizes)
