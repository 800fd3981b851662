-- What is printed of the faults of a history.
-- A choice of this project: one line for each fault that the reader does not know already; where there is no fault of any
-- kind, what an audit says.
use Rattle.std.specs.Prelude.{ℕ, ◌≡◌, List, [], ◌∷◌, ◌++◌, Bool, true, false, not, if◌then◌else◌, bytes_eq, codes, decimal, length, reverse, Ok, Err}
use Rattle.std.specs.List.{list_any}
use Rattle.call_types.specs.declared.histories.History.{History}
use Rattle.history_text.specs.Output.{with_line, with_lines}
use Rattle.history_read.specs.declared.errors.BadHistoryLine.{BadHistoryLine}
use Rattle.history_read.specs.Grammar.{history_of}
use Rattle.history_read.specs.Refusals.{refusal_line}
use Rattle.audit_check.specs.Words.{audit_word}
use Rattle.store_judge.specs.declared.faults.EntryFault.{EntryFault}
use Rattle.store_judge.specs.declared.printing.JudgeOptions.{JudgeOptions}
use Rattle.store_judge.specs.declared.answering.JudgeAnswer.{JudgeAnswer}
use Rattle.store_judge.specs.declared.answering.JudgeAnswer.TheVariants.{Judged, NoHistory}
use Rattle.store_judge.specs.Faults.{FaultsIn}

-- a fault, in words or as JSON
unfoldable pub fault_line : Bool → EntryFault → List ℕ
fault_line false f = codes "entry " ++ (decimal f.entry ++ (codes " " ++ audit_word f.rule))
fault_line true f = codes "{\"entry\":" ++ (decimal f.entry ++ (codes ",\"rule\":\"" ++ (audit_word f.rule ++ codes "\"}")))

-- that there is no fault, in words or as JSON
unfoldable pub yes_line : Bool → ℕ → List ℕ
yes_line false count = codes "yes " ++ (decimal count ++ codes " entries")
yes_line true count = codes "{\"yes\":" ++ (decimal count ++ codes "}")

-- its rule is none of those that are left out
abbrev pub is_shown : JudgeOptions → EntryFault → Bool
is_shown options f = not (list_any (λ word. bytes_eq word (audit_word f.rule)) options.without)

-- a line for each fault that is shown
abbrev pub fault_lines : JudgeOptions → List EntryFault → List (List ℕ)
fault_lines options [] = []
fault_lines options (f ∷ faults) = if is_shown options f then fault_line options.json f ∷ fault_lines options faults else fault_lines options faults

-- what is printed of all faults of so many entries
abbrev pub judge_lines : JudgeOptions → ℕ → List EntryFault → List (List ℕ)
judge_lines options count [] = yes_line options.json count ∷ []
judge_lines options count (f ∷ faults) = fault_lines options (f ∷ faults)

-- ---- the promise

-- the input is a history, and its faults were printed, one of which is shown or none
pub record IsJudged (options : JudgeOptions) (input text : List ℕ) (shown : Bool) : Type 0 where
  pub history : History
  pub faults : List EntryFault
  pub read : history_of input ≡ Ok history
  pub found : FaultsIn history.setup (reverse history.entries) faults
  pub printed : text ≡ with_lines [] (judge_lines options (length history.entries) faults)
  pub shows : shown ≡ list_any (is_shown options) faults

-- the input is no history, and the first line at fault was printed
pub record IsNoHistory (input text : List ℕ) : Type 0 where
  pub bad : BadHistoryLine
  pub read : history_of input ≡ Err bad
  pub printed : text ≡ with_line [] (refusal_line bad)

-- what came of an input
abbrev pub AnswersJudge : JudgeOptions → List ℕ → JudgeAnswer → Type 0
AnswersJudge options input (Judged text shown) = IsJudged options input text shown
AnswersJudge options input (NoHistory text) = IsNoHistory input text
