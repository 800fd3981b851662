-- What a call that may want memory answers, against what it would answer otherwise. A choice of this project.
use Rattle.std.specs.Prelude.{◌≡◌, ℕ, Ok, Err, ⊤}
use Rattle.std.specs.declared.result.Result.{Result}
use Rattle.history_read.specs.declared.errors.HistoryReason.{HistoryReason}
use Rattle.history_read.specs.declared.errors.BadHistoryLine.{BadHistoryLine}
use Rattle.history_read.specs.declared.errors.HistoryLineError.{HistoryLineError}
use Rattle.history_read.specs.declared.errors.HistoryLineError.TheVariants as lines
use Rattle.history_read.specs.declared.errors.HistoryError.{HistoryError}
use Rattle.history_read.specs.declared.errors.HistoryError.TheVariants as histories

-- a call that ends with this error is right: the refusal is the answer; of a call that ran out of memory nothing is said
abbrev pub LineFails : {X : Type 0} → HistoryLineError → Result X HistoryReason → Type 0
LineFails lines.OutOfMemory answer = ⊤
LineFails (lines.Refused reason) answer = answer ≡ Err reason

-- the result is this answer, unless memory was wanting
abbrev pub LineGives : {X : Type 0} → Result X HistoryLineError → Result X HistoryReason → Type 0
LineGives (Ok x) answer = answer ≡ Ok x
LineGives (Err e) answer = LineFails e answer

-- the same of a whole history, where the refusal names the line
abbrev pub HistoryFails : {X : Type 0} → HistoryError → Result X BadHistoryLine → Type 0
HistoryFails histories.OutOfMemory answer = ⊤
HistoryFails (histories.BadLine b) answer = answer ≡ Err b

-- the result of reading a history is this answer, unless memory ran out
abbrev pub HistoryGives : {X : Type 0} → Result X HistoryError → Result X BadHistoryLine → Type 0
HistoryGives (Ok x) answer = answer ≡ Ok x
HistoryGives (Err e) answer = HistoryFails e answer

-- the error of a line, with its number
abbrev pub error_at : ℕ → HistoryLineError → HistoryError
error_at n lines.OutOfMemory = histories.OutOfMemory
error_at n (lines.Refused reason) = histories.BadLine (record { line = n; reason = reason })
