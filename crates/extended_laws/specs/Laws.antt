-- What follows of extended runs.
-- A choice of this project.
use Rattle.std.specs.Prelude.{ℕ, ◌≡◌, List, Ok, Option, reverse}
use Rattle.world_core.specs.declared.drained.Drained.{Drained}
use Rattle.script_text.specs.declared.script.Line.{Line}
use Rattle.script_text.specs.declared.script.Script.{Script}
use Rattle.script_laws.specs.Read.Scripts.{IsScript}
use Rattle.script_runs.specs.Played.{ArePlayed}
use Rattle.script_runs.specs.Replays.{IsReplay}
use Rattle.extended_text.specs.declared.sides.Extended.{Extended}
use Rattle.extended_text.specs.Extended.{extended_of}
use Rattle.side_model.specs.Answers.{SideRun}
use Rattle.side_model.specs.Merged.{Step, entries}
use Rattle.side_model.specs.Sides.{SideSetup}
use Rattle.side_model.specs.Within.{HoldsBack}
use Rattle.extended_runs.specs.Kept.{LeavingOut, with_lines}
use Rattle.extended_runs.specs.Walks.{IsExtendedRun}
use Rattle.extended_runs.specs.Works.{Work, lines_in, works_of}
use Rattle.extended_laws.specs.Users.{asked_in, users_works}

-- the script of an extended script that a text gives is one that a text can give
abbrev pub ExtendedGives : Type 0
ExtendedGives = (text : List ℕ) (extended : Extended) → extended_of text ≡ Ok extended → IsScript extended.script

-- so is a script without some creates of claims
abbrev pub KeptAreScripts : Type 0
KeptAreScripts = (script : Script) (kept : List Line) → LeavingOut script.lines kept → IsScript script → IsScript (with_lines kept script)

-- what an extended run keeps of a script, where the works are the script's lines and those of the side
pub record RunKeeps (script : Script) (given : SideSetup) (works : List Work) (option : Option ℕ) (kept : List Line) (m : List Step) (ending : Drained)
    (run : IsExtendedRun script given works option kept m ending) : Type 0 where
  -- all lines but creates of claims reached the world
  pub left : LeavingOut script.lines kept
  -- its history is that of a replay of the lines that did
  pub replay : IsReplay (with_lines kept script) option (entries m) ending
  -- where each life of each actor was played by it, it is so of that replay
  pub played : ArePlayed script run.end → ArePlayed (with_lines kept script) replay.end
  -- each reply of the side is its answer, and what a quota refuses is held back
  pub answers : SideRun script.setup given m
  pub holds : HoldsBack script.setup given m
  -- what users ask stands once among the steps, in the order of the works
  pub users : reverse (asked_in m) ≡ users_works works

-- so it is of each
abbrev pub ExtendedRunsKeep : Type 0
ExtendedRunsKeep =
    (script : Script) (given : SideSetup) (works : List Work) (option : Option ℕ) (kept : List Line) (m : List Step) (ending : Drained) → lines_in works ≡ script.lines
    → (run : IsExtendedRun script given works option kept m ending) → RunKeeps script given works option kept m ending run

-- the works of an extended script have the lines of its script, in their order
abbrev pub WorksHaveLines : Type 0
WorksHaveLines = (extended : Extended) → lines_in (works_of extended) ≡ extended.script.lines
