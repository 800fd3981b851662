-- What an audit promises, and what it writes. The words and the form of the lines are a choice of this project.
use Rattle.std.specs.Prelude.{ℕ, ◌≡◌, ⊤, List, [], ◌++◌, codes, decimal, length, reverse, Ok, Err}
use Rattle.std.specs.declared.result.Result.{Result}
use Rattle.call_types.specs.declared.entry.Entry.{Entry}
use Rattle.call_types.specs.declared.setup.Setup.{Setup}
use Rattle.binder_model.specs.Safe.{Safe}
use Rattle.call_types.specs.declared.histories.History.{History}
use Rattle.history_text.specs.Output.{with_line}
use Rattle.history_read.specs.declared.errors.BadHistoryLine.{BadHistoryLine}
use Rattle.history_read.specs.declared.errors.HistoryError.{HistoryError}
use Rattle.history_read.specs.declared.errors.HistoryError.TheVariants.{BadLine, OutOfMemory}
use Rattle.history_read.specs.Grammar.{history_of}
use Rattle.history_read.specs.Refusals.{refusal_line}
use Rattle.history_laws.specs.Read.Given.{IsTextHistory}
use Rattle.history_laws.specs.Read.Texts.{IsTextOf}
use Rattle.audit_check.specs.declared.verdict.Verdict.{Verdict}
use Rattle.audit_check.specs.declared.verdict.Verdict.TheVariants.{Yes, No}
use Rattle.audit_check.specs.Verdicts.{IsVerdict}
use Rattle.audit_check.specs.Words.{audit_word}
use Rattle.binder_console.specs.declared.status.Status.{Status}
use Rattle.binder_console.specs.declared.status.Status.TheVariants.{Done, AuditNo}

-- ---- what is written

-- yes and the number of entries; or the number of the first entry that breaks the history, from 1, and its rule
unfoldable pub verdict_line : Verdict → ℕ → List ℕ
verdict_line Yes count = codes "yes " ++ (decimal count ++ codes " entries")
verdict_line (No number rule) count = codes "no: entry " ++ (decimal number ++ (codes " " ++ audit_word rule))

-- what is printed of a verdict
abbrev pub verdict_text : Verdict → ℕ → List ℕ
verdict_text verdict count = with_line [] (verdict_line verdict count)

-- the status of a verdict
abbrev pub verdict_status : Verdict → Status
verdict_status Yes = Done
verdict_status (No number rule) = AuditNo

-- what is printed of a history that is refused
abbrev pub history_refusal_text : BadHistoryLine → List ℕ
history_refusal_text bad = with_line [] (refusal_line bad)

-- ---- the promise

-- The input is the text of one history, and the text and the status tell its verdict: whether it is a run, else the first
-- entry that breaks it. A history that is a run is safe at every point.
pub record Audits (status : Status) (input text : List ℕ) : Type 0 where
  pub history : History
  pub verdict : Verdict
  pub read : history_of input ≡ Ok history
  -- the text has no other history
  pub only : (setup : Setup) (entries : List Entry) → IsTextHistory setup entries → IsTextOf input setup entries → (setup ≡ history.setup) × (entries ≡ history.entries)
  pub judged : IsVerdict history.setup history.entries verdict
  pub safe : verdict ≡ Yes → Safe history.setup (reverse history.entries)
  pub printed : text ≡ verdict_text verdict (length history.entries)
  pub ends : status ≡ verdict_status verdict

-- the input is no history, and this is the line that says why: the first line at fault, with the first of its reasons
pub record RefusesHistory (input text : List ℕ) : Type 0 where
  pub bad : BadHistoryLine
  pub refused : history_of input ≡ Err bad
  pub printed : text ≡ history_refusal_text bad

-- where the input is no history, this holds of why
abbrev pub IfNoHistory : {X : Type 0} → Result X HistoryError → (BadHistoryLine → Type 0) → Type 0
IfNoHistory (Ok x) holds = ⊤
IfNoHistory (Err OutOfMemory) holds = ⊤
IfNoHistory (Err (BadLine bad)) holds = holds bad
