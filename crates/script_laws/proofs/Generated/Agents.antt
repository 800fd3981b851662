-- Which nodes and how many objects lists of lines create.
use Rattle.std.proofs.Common.{◌≡◌, ℕ, zero, suc, ◌+◌, ◌*◌, cond, is_some, List, [], ◌∷◌, ◌++◌, refl, ap, ◌∙◌, arith}
use Rattle.std.proofs.lemmas.List.Sums.{sum_by-append}
use Rattle.plain_data.specs.Pairs.{Pair}
use Rattle.script_text.specs.declared.script.Line.{Line}
use Rattle.script_text.specs.Said.{agents_after, and_node, created, created_node, creates}
use Rattle.script_gen.specs.Generated.{each_below}

pub agents_append : (agents : List Pair) (xs ys : List Line) → agents_after agents (xs ++ ys) ≡ agents_after (agents_after agents xs) ys
agents_append agents [] ys = refl
agents_append agents (line ∷ xs) ys = agents_append (and_node agents (created_node line)) xs ys

-- the lines create no node
abbrev pub MakesNoNode : List Line → Type 0
MakesNoNode lines = (agents : List Pair) → agents_after agents lines ≡ agents

pub none_below : (n : ℕ) (lines : ℕ → List Line) → ((i : ℕ) → MakesNoNode (lines i)) → MakesNoNode (each_below n lines)
unfolding each_below
none_below zero lines none = λ agents. refl
none_below (suc n) lines none = λ agents.
    agents_append agents (each_below n lines) (lines n)
    ∙ ap (λ (rows : List Pair). agents_after rows (lines n)) (none_below n lines none agents)
    ∙ none n agents

pub creates_append : (xs ys : List Line) → creates (xs ++ ys) ≡ creates xs + creates ys
creates_append xs ys = sum_by-append (λ (line : Line). cond (is_some (created line)) 1 0) xs ys

-- so many of each number
pub creates_below : (k : ℕ) (lines : ℕ → List Line) (n : ℕ) → ((i : ℕ) → creates (lines i) ≡ k) → creates (each_below n lines) ≡ n * k
unfolding each_below
creates_below k lines zero each = let none : creates (each_below zero lines) ≡ 0 = refl in omega (arith, none)
creates_below k lines (suc n) each =
    let here : creates (lines n) ≡ k = each n in
    let before : creates (each_below n lines) ≡ n * k = creates_below k lines n each in
    let both : creates (each_below n lines ++ lines n) ≡ creates (each_below n lines) + creates (lines n) = creates_append (each_below n lines) (lines n) in
    grind (arith, here, before, both)
