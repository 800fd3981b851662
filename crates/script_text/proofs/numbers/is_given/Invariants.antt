use Rattle.std.proofs.Common.{◌≡◌, drop}
use Rattle.script_lines.specs.Members.{is_given}
use Rattle.script_text.proofs.numbers.is_given.Given as goal

-- the number is none of those that came before
abbrev pub invariant-loop-given : goal.invariant-loop-given
invariant-loop-given l = is_given l.number (drop l.given-index l.numbers) ≡ is_given l.number l.numbers
