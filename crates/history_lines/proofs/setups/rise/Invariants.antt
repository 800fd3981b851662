use Rattle.std.proofs.Common.{◌≡◌, drop, None}
use Rattle.history_lines.specs.Entries.{rise_from}
use Rattle.history_lines.proofs.setups.rise.Given as goal

abbrev pub invariant-loop-number : goal.invariant-loop-number
invariant-loop-number l = rise_from l.last (drop l.number-index l.numbers) ≡ rise_from None l.numbers
