-- What was read so far of the side's lines, and what readers of them answer.
use Rattle.std.specs.Prelude.{◌≡◌, Ok, Err, Option, Some, None}
use Rattle.std.specs.declared.result.Result.{Result}
use Rattle.serde_json.specs.Data.{Data}
use Rattle.json_text.specs.Trees.{tree_data}
use Rattle.script_lines.specs.declared.errors.BadLine.{BadLine}
use Rattle.script_lines.specs.declared.errors.LineError.{LineError}
use Rattle.script_lines.specs.declared.errors.Reason.{Reason}
use Rattle.script_lines.specs.Answers.{MemberFails}
use Rattle.extended_text.specs.declared.line_readers.SideText.{SideText}
use Rattle.extended_text.specs.declared.progress.SideSaid.{SideSaid}
use Rattle.extended_text.specs.declared.progress.SidesRead.{SidesRead}
use Rattle.extended_text.specs.declared.sides.SideWord.{SideWord}

-- the word and the object of a line of the side that was read
abbrev pub side_view : SideText → SideWord × Data
side_view text = (text.word, tree_data text.tree)

-- what was said, unless a line was refused
abbrev pub said_or : SideSaid → Option BadLine → Result SideSaid BadLine
said_or said None = Ok said
said_or said (Some bad) = Err bad

-- what was read so far
abbrev pub read_so_far : SidesRead → Result SideSaid BadLine
read_so_far read = said_or read.said read.fault

-- what is said now is this, unless the line is refused
abbrev pub TakesSide : Result Unit LineError → SideSaid → Result SideSaid Reason → Type 0
TakesSide (Ok u) said answer = answer ≡ Ok said
TakesSide (Err e) said answer = MemberFails e answer
