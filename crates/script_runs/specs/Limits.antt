-- The scripts that can be replayed: those that keep the limits of the format.
-- A choice of this project.
use Rattle.std.specs.Prelude.{ℕ, ◌≡◌, ◌≤◌, ◌<◌, true, List, [], ◌∷◌, Ok, length, ⊤}
use Rattle.plain_data.specs.Pairs.{text_cmp}
use Rattle.plain_data.specs.Rows.{IsRising}
use Rattle.kube_objects.specs.Bindings.{has_name}
use Rattle.binder_model.specs.Imports.{ImportsPass}
use Rattle.script_lines.specs.declared.actors.Actor.{Actor}
use Rattle.script_lines.specs.declared.actors.Actor.TheVariants.{Worker, Agent}
use Rattle.script_text.specs.declared.script.Line.{Line}
use Rattle.script_text.specs.declared.script.Line.TheVariants.{Call, Lose, Restart, Turn, Drain}
use Rattle.script_text.specs.declared.script.Numbered.{Numbered}
use Rattle.script_text.specs.declared.script.Script.{Script}
use Rattle.script_text.specs.Said.{objects_of}
use Rattle.script_text.specs.Grammar.{read_numbered_of, script_of}

-- what the reader of scripts gives for every line: users 1 to 4, and turns of at most 1,000 calls
abbrev pub IsWithinLimits : Line → Type 0
IsWithinLimits (Call user request) = (0 < user) × (user < 5)
IsWithinLimits (Turn actor calls) = calls ≤ 1000
IsWithinLimits line = ⊤

-- all lines are within the limits
abbrev pub AreWithinLimits : List Line → Type 0
AreWithinLimits [] = ⊤
AreWithinLimits (line ∷ lines) = IsWithinLimits line × AreWithinLimits lines

-- an agent is one of these nodes
abbrev pub IsKnown : List (List ℕ) → Actor → Type 0
IsKnown nodes (Worker w) = ⊤
IsKnown nodes (Agent node) = has_name node nodes ≡ true

-- the agents that lines name are those of these nodes
abbrev pub NamesKnown : List (List ℕ) → Line → Type 0
NamesKnown nodes (Call user request) = ⊤
NamesKnown nodes (Lose actor call after) = IsKnown nodes actor
NamesKnown nodes (Restart actor after) = IsKnown nodes actor
NamesKnown nodes (Turn actor calls) = IsKnown nodes actor
NamesKnown nodes Drain = ⊤

-- all lines name known nodes alone
abbrev pub NameKnown : List (List ℕ) → List Line → Type 0
NameKnown nodes [] = ⊤
NameKnown nodes (line ∷ lines) = NamesKnown nodes line × NameKnown nodes lines

-- names in their order, none twice
abbrev pub NamesAreInOrder : List (List ℕ) → Type 0
NamesAreInOrder names = IsRising text_cmp (λ name. name) names

-- what the reader of scripts gives: imports that pass one after another, at most 4,096 lines, at most 1,024 objects that are
-- imported or created, at most 8 nodes in the order of their names, and agents of these nodes
pub record IsReadable (script : Script) : Type 0 where
  pub imports : ImportsPass script.setup.imports
  pub lines : AreWithinLimits script.lines
  pub few : length script.lines ≤ 4096
  pub objects : objects_of script.setup.imports script.lines ≤ 1024
  pub nodes : length script.node_names ≤ 8
  pub order : NamesAreInOrder script.node_names
  pub known : NameKnown script.node_names script.lines

-- each script that the reader answers is readable
abbrev pub ReadsReadable : Type 0
ReadsReadable = (text : List ℕ) (script : Script) → script_of text ≡ Ok script → IsReadable script

-- also where it answers the numbers of the lines beside it
abbrev pub ReadsNumberedReadable : Type 0
ReadsNumberedReadable = (text : List ℕ) (numbered : Numbered) → read_numbered_of text ≡ Ok numbered → IsReadable numbered.script
