-- Lines, each with its line feed, and what the text gives of them.
use Rattle.std.proofs.Common.{◌≡◌, ℕ, ◌+◌, List, [], ◌∷◌, ◌++◌, refl, ap, ◌∙◌, append_assoc}
use Rattle.std.specs.List.{All, slice_split}
use Rattle.std.proofs.lemmas.List.Elements.{All-head, All-tail}
use Rattle.std.proofs.lemmas.List.Splits.{slice_split_at, length-slice_split}
use Rattle.json_text.specs.Canonical.{IsLine}
use Rattle.history_text.proofs.Joined.{joined, is_feed, no_feed}
use Rattle.history_read.specs.Grammar.{lines_in, lines_of}
use Rattle.history_read.proofs.FirstLine.{lines_more}

-- a line that ends in a line feed
pub line_first : (line rest : List ℕ) → IsLine line → lines_of (line ++ 10 ∷ rest) ≡ line ∷ lines_of rest
unfolding lines_of
line_first line rest h = ap lines_in (slice_split_at is_feed line 10 rest (no_feed line h) refl) ∙ lines_more line (slice_split is_feed rest) _ (length-slice_split is_feed rest)

pub lines_first : (lines : List (List ℕ)) (rest : List ℕ) → All IsLine lines → lines_of (joined lines ++ rest) ≡ lines ++ lines_of rest
lines_first [] rest h = refl
lines_first (line ∷ lines) rest h =
    ap lines_of (append_assoc line (10 ∷ joined lines) rest)
    ∙ line_first line (joined lines ++ rest) (All-head IsLine line lines h)
    ∙ ap (λ l. line ∷ l) (lines_first lines rest (All-tail IsLine line lines h))
