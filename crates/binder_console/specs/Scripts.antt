-- The inputs that are no script, and what is printed for one. A choice of this project.
use Rattle.std.specs.Prelude.{ℕ, ◌≡◌, ⊤, List, [], Ok, Err}
use Rattle.std.specs.declared.result.Result.{Result}
use Rattle.script_lines.specs.declared.errors.BadLine.{BadLine as BadLineData}
use Rattle.script_lines.specs.declared.errors.ScriptError.{ScriptError}
use Rattle.script_lines.specs.declared.errors.ScriptError.TheVariants.{BadLine, OutOfMemory}
use Rattle.script_lines.specs.Refusals.{refusal_line}
use Rattle.script_text.specs.Grammar.{script_of}
use Rattle.history_text.specs.Output.{with_line}

-- what is printed of a script that is refused
abbrev pub script_refusal_text : BadLineData → List ℕ
script_refusal_text bad = with_line [] (refusal_line bad)

-- the input is no script, and this is the line that says why: the first line at fault, with the first of its reasons
pub record RefusesScript (input text : List ℕ) : Type 0 where
  pub bad : BadLineData
  pub refused : script_of input ≡ Err bad
  pub printed : text ≡ script_refusal_text bad

-- where the input is no script, this holds of why
abbrev pub IfNotReplayed : {X : Type 0} → Result X ScriptError → (BadLineData → Type 0) → Type 0
IfNotReplayed (Ok x) holds = ⊤
IfNotReplayed (Err OutOfMemory) holds = ⊤
IfNotReplayed (Err (BadLine bad)) holds = holds bad
