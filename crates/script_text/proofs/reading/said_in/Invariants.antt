use Rattle.std.proofs.Common.{◌≡◌, ◌+◌, drop, map}
use Rattle.script_text.specs.Grammar.{agents_in, said_from, said_in}
use Rattle.script_text.specs.Steps.Indexed.{ProgressStands, said_by}
use Rattle.script_text.specs.Steps.Known.{IsKnown}
use Rattle.script_text.proofs.reading.said_in.Given as goal

-- what is left goes on from what was said so far
abbrev pub invariant-loop-line : goal.invariant-loop-line
invariant-loop-line l = record {
  number : l.number ≡ l.line-index + 1;
  known : IsKnown l.known (map (λ line. line.now) l.lines);
  stands : ProgressStands l.progress;
  rest : said_from (agents_in (map (λ line. line.now) l.lines)) l.number (map (λ line. line.now) (drop l.line-index l.lines)) (said_by l.progress) ≡ said_in (map (λ line. line.now) l.lines);
}
