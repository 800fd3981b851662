-- What a line of a program that is attached is: a setup, an ask, or a user's line of a script; or why it is none.
-- A choice of this project: the protocol of the store, over the formats of scripts and histories.
use Rattle.std.specs.Prelude.{ℕ, nat_lt, List, [], ◌∷◌, true, length, is_some, if◌then◌else◌, Ok, Err, Option, Some, None, codes, ⊤}
use Rattle.std.specs.declared.result.Result.{Result}
use Rattle.serde_json.specs.Data.{Data}
use Rattle.serde_json.specs.Find.{get}
use Rattle.call_types.specs.declared.request.SeatKind.TheVariants.{User}
use Rattle.call_types.specs.declared.setup.Setup.{Setup}
use Rattle.binder_model.specs.Imports.{ImportsPass}
use Rattle.object_text.specs.declared.errors.ObjectError.{ObjectError}
use Rattle.object_text.specs.Reading.{is_object, value_of}
use Rattle.script_lines.specs.declared.errors.BadLine.{BadLine}
use Rattle.script_text.specs.declared.script.Line.TheVariants.{Call}
use Rattle.script_text.specs.declared.script.Line.{Line}
use Rattle.script_text.specs.declared.script.Script.{Script}
use Rattle.script_text.specs.Grammar.{script_of}
use Rattle.history_lines.specs.Entries.{setup_of}
use Rattle.store_asks.specs.declared.asks.StoreAsk.{StoreAsk}
use Rattle.store_asks.specs.declared.errors.AskMember.{AskMember}
use Rattle.store_asks.specs.Asks.{ask_in}
use Rattle.store_lines.specs.declared.faults.LineFault.{LineFault}
use Rattle.store_lines.specs.declared.faults.LineFault.TheVariants.{TooLong, NotJson, NotObject, UnknownLine, BadSetup, BadAsk, BadScript, NotCall}
use Rattle.store_lines.specs.declared.reading.StoreLine.{StoreLine}
use Rattle.store_lines.specs.declared.reading.StoreLine.TheVariants as lines

infixl 10 ◌>>=◌
-- the first fault, else what the next step makes of the value
abbrev pub ◌>>=◌ : {A B : Type 0} → Result A LineFault → (A → Result B LineFault) → Result B LineFault
(Ok x) >>= f = f x
(Err fault) >>= f = Err fault

-- how many bytes a line may have: 4 MiB, as in a history
abbrev pub most_store_line_bytes : ℕ
most_store_line_bytes = 4194304

-- ---- the JSON object that a line is

-- the value of a line
abbrev pub json_in : Result Data ObjectError → Result Data LineFault
json_in (Ok d) = Ok d
json_in (Err e) = Err NotJson

-- the value, where it is an object
abbrev pub object_or_fault : Data → Result Data LineFault
object_or_fault d = if is_object d then Ok d else Err NotObject

-- the value of a line, which has to be an object
abbrev pub object_in : List ℕ → Result Data LineFault
object_in line = json_in (value_of line) >>= λ d. object_or_fault d

-- ---- setups, asks, and users' lines of scripts

-- a setup, by its printed line
abbrev pub as_setup : Option Setup → Result StoreLine LineFault
as_setup None = Err BadSetup
as_setup (Some s) = Ok (lines.Setup s)

-- an ask, by its members
abbrev pub as_ask : Result StoreAsk AskMember → Result StoreLine LineFault
as_ask (Ok a) = Ok (lines.Ask a)
as_ask (Err m) = Err (BadAsk m)

-- a user's call is the ask of a user, who is told the answer
abbrev pub call_of : Line → Result StoreLine LineFault
call_of (Call user request) = Ok (lines.Ask (record { seat = user; kind = User; request = request; told = true }))
call_of line = Err NotCall

-- the call, where the script has no other line
abbrev pub call_among : List Line → Result StoreLine LineFault
call_among [] = Err NotCall
call_among (line ∷ []) = call_of line
call_among (line ∷ next ∷ rest) = Err NotCall

-- the call of the script that a line is by itself
abbrev pub as_call : Result Script BadLine → Result StoreLine LineFault
as_call (Ok s) = call_among s.lines
as_call (Err b) = Err (BadScript b.reason)

-- ---- any line

-- what a line with this value is, by the first of the members ask, do and setup that stands in it
abbrev pub line_by : List ℕ → Data → Result StoreLine LineFault
line_by line d =
    if is_some (get (codes "ask") d) then as_ask (ask_in d)
    else if is_some (get (codes "do") d) then as_call (script_of line)
    else if is_some (get (codes "setup") d) then as_setup (setup_of line)
    else Err UnknownLine

-- what a line is, or why it is nothing
unfoldable pub line_of : List ℕ → Result StoreLine LineFault
line_of line = if nat_lt most_store_line_bytes (length line) then Err TooLong else (object_in line >>= λ d. line_by line d)

-- a world may begin with the imports of the setup that the line is
abbrev pub HasImports : StoreLine → Type 0
HasImports (lines.Setup s) = ImportsPass s.imports
HasImports (lines.Ask a) = ⊤
