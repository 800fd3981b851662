use Rattle.std.proofs.Common.{◌≡◌, ◌+◌, drop, length}
use Rattle.json.specs.Print.{escape, quoted}
use Rattle.json_text.proofs.sizes.after_escaped.Given as goal

-- what is left of the room is short of it by what was counted
abbrev pub invariant-loop-byte : goal.invariant-loop-byte
invariant-loop-byte l = l.left + length (quoted l.text) ≡ l.room + length (escape (drop l.byte-index l.text))
