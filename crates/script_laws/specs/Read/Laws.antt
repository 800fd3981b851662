-- What printing and reading say of each other.
-- A choice of this project: the script format.
use Rattle.std.specs.Prelude.{◌≡◌, ℕ, List, true, All, Ok}
use Rattle.std.specs.Str.{is_utf8}
use Rattle.plain_data.specs.Pairs.{Pair}
use Rattle.binder_model.specs.Imports.{ImportsPass}
use Rattle.object_laws.specs.Given.{IsGivenObject}
use Rattle.script_text.specs.declared.script.Line.{Line}
use Rattle.script_text.specs.declared.script.Script.{Script}
use Rattle.script_text.specs.declared.script.Meaning.TheVariants as meanings
use Rattle.script_text.specs.Said.{Said}
use Rattle.script_text.specs.LineReaders.{meaning_of}
use Rattle.script_text.specs.Grammar.{script_of}
use Rattle.script_print.specs.Printing.{line_data, script_lines, script_text}
use Rattle.script_laws.specs.Read.Given.{IsLineAfter}
use Rattle.script_laws.specs.Read.Limits.{LineHasShortObject, ScriptFits}
use Rattle.script_laws.specs.Read.Scripts.{IsScript}

-- the JSON of a line means the line, after the lines that stand before it
abbrev pub LineMeansItself : Type 0
LineMeansItself = (agents : List Pair) (said : Said) (line : Line) → IsLineAfter agents said.lines line → LineHasShortObject line → meaning_of agents said (line_data line) ≡ Ok (meanings.Line line)

-- a line in UTF-8
abbrev pub IsText : List ℕ → Type 0
IsText line = is_utf8 line ≡ true

-- the text of a script gives the script, where each of its lines is UTF-8 and within the limits of what is read
abbrev pub ScriptIsRead : Type 0
ScriptIsRead = (s : Script) → IsScript s → ScriptFits s → All IsText (script_lines s) → script_of (script_text s) ≡ Ok s

-- what a text gives is a script that a text can give
abbrev pub ScriptGives : Type 0
ScriptGives = (text : List ℕ) (s : Script) → script_of text ≡ Ok s → IsScript s

-- and its printed text gives the script again, within the limits of what is read
abbrev pub ScriptIsReadAgain : Type 0
ScriptIsReadAgain = (text : List ℕ) (s : Script) → script_of text ≡ Ok s → ScriptFits s → script_of (script_text s) ≡ Ok s

-- what a manifest can give, each after those before it
pub record AreGivenImports (s : Script) : Type 0 where
  pub given : All IsGivenObject s.setup.imports
  pub pass : ImportsPass s.setup.imports

-- the imported objects of a script that a text can give
abbrev pub ImportsGiven : Type 0
ImportsGiven = (s : Script) → IsScript s → AreGivenImports s
