use Rattle.std.proofs.Common.{List, ℕ, [], ◌++◌, false}
use Rattle.plain_data.specs.Pairs.{Pair}
use Rattle.json_text.specs.Splitting.{RowsThen}
use Rattle.json_text.proofs.member_texts.split_rows.Given as goal

-- whatever rows follow, with those before they are the rows of the whole
abbrev pub invariant-loop : goal.invariant-loop
invariant-loop l = (rest : List ℕ) (more : List Pair) → RowsThen 32 l.later l.last more rest l.left → RowsThen 32 false [] (l.rows.items ++ more) rest l.text
