use Rattle.std.proofs.Common.{◌≡◌, drop}
use Rattle.std.specs.List.{list_all}
use Rattle.script_text.specs.Grammar.{is_blank}
use Rattle.script_text.proofs.reading.are_blank.Given as goal

-- the bytes that came before are blank
abbrev pub invariant-loop-byte : goal.invariant-loop-byte
invariant-loop-byte l = list_all is_blank (drop l.byte-index l.line) ≡ list_all is_blank l.line
