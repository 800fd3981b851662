-- Lines of one number more.
use Rattle.std.proofs.Common.{◌≡◌, ℕ, ◌+◌, List, [], ◌∷◌, ◌++◌, refl, ap, sym, ◌∙◌, add-one, append_assoc}
use Rattle.std.proofs.lemmas.List.{append-nil}
use Rattle.script_text.specs.declared.script.Line.{Line}
use Rattle.script_gen.specs.Generated.{each_below}

each_below_more : (i : ℕ) (lines : ℕ → List Line) → each_below (i + 1) lines ≡ each_below i lines ++ lines i
unfolding each_below
each_below_more i lines = rw add-one refl

no_lines : (lines : ℕ → List Line) → each_below 0 lines ≡ []
unfolding each_below
no_lines lines = refl

-- before the first number
pub none_yet : (xs : List Line) (lines : ℕ → List Line) → xs ≡ xs ++ each_below 0 lines
none_yet xs lines = rw (no_lines lines, append-nil) refl

-- after one number more
pub one_more : (xs ys : List Line) (i : ℕ) (lines : ℕ → List Line) (now : List Line) → ys ≡ xs ++ each_below i lines → now ≡ ys ++ lines i → now ≡ xs ++ each_below (i + 1) lines
one_more xs ys i lines now before put =
    put ∙ ap (λ (zs : List Line). zs ++ lines i) before ∙ append_assoc xs (each_below i lines) (lines i) ∙ ap (λ (zs : List Line). xs ++ zs) (sym (each_below_more i lines))

-- after the one line of one number more
pub one_line : (xs ys : List Line) (i : ℕ) (line : ℕ → Line) (now : List Line) (pushed : Line)
    → ys ≡ xs ++ each_below i (λ j. line j ∷ []) → now ≡ ys ++ pushed ∷ [] → pushed ≡ line i
    → now ≡ xs ++ each_below (i + 1) (λ j. line j ∷ [])
one_line xs ys i line now pushed before put is =
    one_more xs ys i (λ j. line j ∷ []) now before (put ∙ ap (λ (l : Line). ys ++ l ∷ []) is)

-- and after two
pub two_lines : (xs ys : List Line) (i : ℕ) (line next : ℕ → Line) (middle now : List Line) (pushed then_pushed : Line)
    → ys ≡ xs ++ each_below i (λ j. line j ∷ next j ∷ []) → middle ≡ ys ++ pushed ∷ [] → pushed ≡ line i → now ≡ middle ++ then_pushed ∷ [] → then_pushed ≡ next i
    → now ≡ xs ++ each_below (i + 1) (λ j. line j ∷ next j ∷ [])
two_lines xs ys i line next middle now pushed then_pushed before put is put_next next_is =
    let both : (ys ++ pushed ∷ []) ++ then_pushed ∷ [] ≡ ys ++ pushed ∷ then_pushed ∷ [] = append_assoc ys (pushed ∷ []) (then_pushed ∷ []) in
    one_more xs ys i (λ j. line j ∷ next j ∷ []) now before
    (put_next ∙ ap (λ (zs : List Line). zs ++ then_pushed ∷ []) put ∙ both ∙ (λ k. ys ++ is k ∷ next_is k ∷ []))
