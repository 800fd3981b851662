-- The limits of what is read, on what is printed: members that a text leaves out are printed, so a printed line can pass a limit where
-- the line that was read did not.
-- A choice of this project: the script format, and its limits.
use Rattle.std.specs.Prelude.{ℕ, ◌≤◌, List, length, All, ⊤}
use Rattle.kube_objects.specs.declared.objects.Object.{Object}
use Rattle.call_types.specs.declared.request.Request.{Request}
use Rattle.call_types.specs.declared.request.Request.TheVariants as asks
use Rattle.object_print.specs.Objects.{object_line}
use Rattle.object_text.specs.Reading.{most_bytes}
use Rattle.script_text.specs.declared.script.Line.{Line}
use Rattle.script_text.specs.declared.script.Line.TheVariants.{Call, Drain}
use Rattle.script_text.specs.declared.script.Script.{Script}
use Rattle.script_text.specs.Grammar.{most_line_bytes}
use Rattle.script_print.specs.Printing.{line_text, pool_lines}

-- an object of a line: no longer than a manifest may be, 8 KiB
abbrev pub IsShortObject : Object → Type 0
IsShortObject o = length (object_line o) ≤ most_bytes

-- the object of a create or an update
abbrev pub HasShortObject : Request → Type 0
HasShortObject (asks.Create object) = IsShortObject object
HasShortObject (asks.Update object version) = IsShortObject object
HasShortObject request = ⊤

-- that of a line
abbrev pub LineHasShortObject : Line → Type 0
LineHasShortObject (Call user request) = HasShortObject request
LineHasShortObject line = ⊤

-- no longer than a line may be: 16 KiB
abbrev pub IsShort : List ℕ → Type 0
IsShort text = length text ≤ most_line_bytes

-- an object that is short makes its line short; other calls may hold texts of any length
abbrev pub CallFits : ℕ → Request → Type 0
CallFits user (asks.Create object) = IsShortObject object
CallFits user (asks.Update object version) = IsShortObject object
CallFits user request = IsShort (line_text (Call user request))

-- so may lines of actors, whose agents have the names of nodes
abbrev pub LineFits : Line → Type 0
LineFits (Call user request) = CallFits user request
LineFits Drain = ⊤
LineFits line = IsShort (line_text line)

-- a script within the limits; faults are short, and an object that is short makes its import line short
pub record ScriptFits (s : Script) : Type 0 where
  pub pools : All IsShort (pool_lines s.setup.pools s.sizes)
  pub imports : All IsShortObject s.setup.imports
  pub lines : All LineFits s.lines
