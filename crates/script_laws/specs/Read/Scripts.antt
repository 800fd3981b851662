-- Scripts that a text can give.
-- A choice of this project: the script format, and its limits.
use Rattle.std.specs.Prelude.{◌≡◌, ℕ, ◌+◌, ◌≤◌, List, [], ◌∷◌, ◌++◌, length, None, Ok, All, ⊤}
use Rattle.plain_data.specs.Pairs.{Pair}
use Rattle.quantity_text.specs.Quantity.{amount_of}
use Rattle.kube_objects.specs.declared.objects.Object.{Object}
use Rattle.binder_model.specs.Imports.{import_fault}
use Rattle.call_types.specs.declared.setup.Pool.{Pool}
use Rattle.script_text.specs.declared.script.Line.{Line}
use Rattle.script_text.specs.declared.script.Script.{Script}
use Rattle.script_text.specs.Said.{agents_of, nodes_of}
use Rattle.script_text.specs.Steps.Indexed.{AreFaults}
use Rattle.script_text.specs.Grammar.{most_pools, most_faults, most_lines, line_limit, object_limit}
use Rattle.script_lines.specs.Members.{most_call}
use Rattle.script_laws.specs.Read.Given.{IsCount, IsLineAfter, IsLineObject}

-- an object of an older store that a line can give, that passes after those before it, and with which no limit is passed
pub record IsImportAfter (before : List Object) (o : Object) : Type 0 where
  pub object : IsLineObject o
  pub passes : import_fault before o ≡ None
  pub few : object_limit (before ++ o ∷ []) [] ≡ None

-- each object after those before it
abbrev pub AreImportsAfter : List Object → List Object → Type 0
AreImportsAfter before [] = ⊤
AreImportsAfter before (o ∷ os) = IsImportAfter before o × AreImportsAfter (before ++ o ∷ []) os

-- each line after those before it, none of which passes a limit together with these imports
abbrev pub AreLinesAfter : List Object → List Pair → List Line → List Line → Type 0
AreLinesAfter imports agents before [] = ⊤
AreLinesAfter imports agents before (line ∷ lines) =
    IsLineAfter agents before line × (line_limit imports (before ++ line ∷ []) line ≡ None) × AreLinesAfter imports agents (before ++ line ∷ []) lines

-- each pool with its size, as it was written
abbrev pub AreSized : List Pool → List (List ℕ) → Type 0
AreSized [] [] = ⊤
AreSized [] (size ∷ sizes) = ⊥
AreSized (pool ∷ pools) [] = ⊥
AreSized (pool ∷ pools) (size ∷ sizes) = (amount_of size ≡ Ok pool.bytes) × AreSized pools sizes

-- what is there from the start, the nodes that lines create or import, and the lines
pub record IsScript (s : Script) : Type 0 where
  pub imports : AreImportsAfter [] s.setup.imports
  pub nodes : s.node_names ≡ nodes_of (agents_of s.setup.imports s.lines)
  pub pools : AreSized s.setup.pools s.sizes
  pub few_pools : length s.setup.pools ≤ most_pools
  pub faults : AreFaults s.setup.faults
  pub fault_numbers : All (IsCount most_call) s.setup.faults
  pub few_faults : length s.setup.faults ≤ most_faults
  pub lines : AreLinesAfter s.setup.imports (agents_of s.setup.imports s.lines) [] s.lines
  pub few_lines : length s.setup.pools + (length s.setup.faults + (length s.setup.imports + length s.lines)) ≤ most_lines
