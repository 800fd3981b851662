-- What was written, without the lines at fault and those that the fence refused, is one history.
-- A choice of this project: the protocol of the store, whose answers are the lines of a history.
use Rattle.std.specs.Prelude.{ℕ, ◌≡◌, List, [], ◌∷◌, ◌++◌, Bool, IfSome, codes, reverse}
use Rattle.history_text.specs.Entries.{entry_line, setup_line}
use Rattle.history_text.specs.Output.{history_lines}
use Rattle.store_server.specs.Answers.{StepAnswer, Begins, Enters, Refuses, Faults}
use Rattle.store_server.specs.Serving.{Served, AreAnswered}
use Rattle.store_serving.specs.Serving.{unserved}

-- the line of an answer that the history has
abbrev pub kept_line : StepAnswer → List (List ℕ)
kept_line (Begins setup) = setup_line setup ∷ []
kept_line (Enters e) = entry_line e ∷ []
kept_line (Refuses seat rule) = []
kept_line (Faults fault) = []

-- the lines of answers that it has, in order
abbrev pub kept_lines : List StepAnswer → List (List ℕ)
kept_lines [] = []
kept_lines (answer ∷ answers) = kept_line answer ++ kept_lines answers

-- once a setup was read they are, with the line end, those of the history of the entries, the oldest first
abbrev pub OneHistoryIsWritten : Type 0
OneHistoryIsWritten =
    (fenced : Bool) (lines : List (List ℕ)) (answers : List StepAnswer) (s : Served) → AreAnswered (unserved fenced) lines answers s
    → IfSome s.opened (λ o. kept_lines answers ++ codes "end" ∷ [] ≡ history_lines o.setup (reverse o.past))
