use Rattle.std.proofs.Common.{◌≡◌, ◌+◌, drop, map, take}
use Rattle.extended_text.specs.Extended.{blanked, sides_from, sides_in}
use Rattle.extended_text.specs.Steps.Read.{read_so_far}
use Rattle.extended_text.proofs.reading.sides_in.Given as goal

-- the lines so far were given to the script's reader, and what is left goes on from what the side's lines said so far
abbrev pub invariant-loop-line : goal.invariant-loop-line
invariant-loop-line l = record {
  number : l.number ≡ l.line-index + 1;
  script : map (λ line. line.now) l.script.items ≡ map blanked (map (λ line. line.now) (take l.line-index l.lines));
  rest : sides_from l.number (map (λ line. line.now) (drop l.line-index l.lines)) (read_so_far l.sides) ≡ sides_in (map (λ line. line.now) l.lines);
}
