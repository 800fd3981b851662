-- Lines put one after another.
use Rattle.std.proofs.Common.{◌≡◌, ℕ, List, [], ◌∷◌, ◌++◌, false, refl, sym, ap, ◌∙◌, append_assoc, append-nil}
use Rattle.serde_json.specs.Data.{Data}
use Rattle.serde_json.specs.Written.{compact_text}
use Rattle.json_text.specs.Writing.{with_value, with_text, after_comma, line_ended}
use Rattle.history_text.specs.Output.{with_line, with_lines}

pub with_lines_append : (done : List ℕ) (xs ys : List (List ℕ)) → with_lines done (xs ++ ys) ≡ with_lines (with_lines done xs) ys
with_lines_append done [] ys = refl
with_lines_append done (x ∷ xs) ys = with_lines_append (with_line done x) xs ys

pub with_lines_behind : (done : List ℕ) (xs : List (List ℕ)) → with_lines done xs ≡ done ++ with_lines [] xs
with_lines_behind done [] = sym (append-nil done)
with_lines_behind done (x ∷ xs) =
    with_lines_behind (with_line done x) xs ∙ append_assoc done (x ++ 10 ∷ []) (with_lines [] xs) ∙ ap (λ s. done ++ s) (sym (with_lines_behind (x ++ 10 ∷ []) xs))

-- a text and a line feed are a line
pub ends_text : (done line : List ℕ) → (line_ended (with_text line (done, false))).0 ≡ with_line done line
unfolding line_ended with_text after_comma
ends_text done line = append_assoc (done ++ []) line (10 ∷ []) ∙ ap (λ s. s ++ (line ++ 10 ∷ [])) (append-nil done)

pub ends_value : (done : List ℕ) (d : Data) → (line_ended (with_value d (done, false))).0 ≡ with_line done (compact_text d)
ends_value done d = ends_text done (compact_text d)
