-- Lines that are joined, each with its line feed.
use Rattle.std.proofs.Common.{◌≡◌, ℕ, List, [], ◌∷◌, ◌++◌, Bool, false, eqb, refl, sym, ap, ◌∙◌, append_assoc, append-nil}
use Rattle.std.specs.List.{All}
use Rattle.std.proofs.lemmas.Bool.{ne_eqb}
use Rattle.std.proofs.lemmas.List.Elements.{All-nil, All-cons}
use Rattle.json_text.specs.Canonical.{IsLine}
use Rattle.history_text.specs.Output.{with_line, with_lines}

abbrev pub joined : List (List ℕ) → List ℕ
joined [] = []
joined (line ∷ lines) = line ++ 10 ∷ joined lines

pub with_joined : (done : List ℕ) (lines : List (List ℕ)) → with_lines done lines ≡ done ++ joined lines
with_joined done [] = sym (append-nil done)
with_joined done (line ∷ lines) =
    with_joined (with_line done line) lines ∙ append_assoc done (line ++ 10 ∷ []) (joined lines)
    ∙ ap (λ l. done ++ l) (append_assoc line (10 ∷ []) (joined lines))

abbrev pub is_feed : ℕ → Bool
is_feed b = eqb b 10

pub no_feed : (line : List ℕ) → IsLine line → All (λ b. is_feed b ≡ false) line
unfolding IsLine
no_feed [] h = All-nil (λ b. is_feed b ≡ false)
no_feed (x ∷ xs) h = All-cons (λ b. is_feed b ≡ false) x xs (ne_eqb x 10 h.0) (no_feed xs h.1)
