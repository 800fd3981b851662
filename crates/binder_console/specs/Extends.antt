-- What the run of an extended script promises, and what it writes. The newest step stands first.
-- The format is a choice of this project.
use Rattle.std.specs.Prelude.{ℕ, ◌≡◌, List, Option, reverse, Ok, Err}
use Rattle.call_types.specs.declared.entry.Entry.{Entry}
use Rattle.call_types.specs.declared.setup.Setup.{Setup}
use Rattle.binder_model.specs.World.{world}
use Rattle.world_core.specs.declared.drained.Drained.{Drained}
use Rattle.history_laws.specs.Runs.Laws.{HasOneHistory}
use Rattle.script_lines.specs.declared.errors.BadLine.{BadLine}
use Rattle.script_text.specs.declared.script.Line.{Line}
use Rattle.side_calls.specs.declared.sizes.SizeRow.{SizeRow}
use Rattle.side_text.specs.declared.entries.PlacedEntry.{PlacedEntry}
use Rattle.side_text.specs.Output.{extended_text}
use Rattle.extended_text.specs.declared.sides.Extended.{Extended}
use Rattle.extended_text.specs.Extended.{extended_of}
use Rattle.side_model.specs.Answers.{SideRun, side}
use Rattle.side_model.specs.Grown.{GrownThroughout}
use Rattle.side_model.specs.Merged.{Step, entries}
use Rattle.side_model.specs.Within.{HoldsBack, WithinThroughout}
use Rattle.extended_runs.specs.Kept.{LeavingOut, with_lines}
use Rattle.extended_runs.specs.Placed.{placed}
use Rattle.extended_runs.specs.Walks.{IsExtendedRun}
use Rattle.extended_runs.specs.Works.{given_of, works_of}
use Rattle.extended_laws.specs.Users.{asked_in, users_works}
use Rattle.binder_console.specs.declared.status.Status.{Status}
use Rattle.binder_console.specs.Replays.{IsPromised, last_summary, status_of}
use Rattle.binder_console.specs.Scripts.{script_refusal_text}

-- ---- what is written

-- the setup and the entries, the oldest first; the side's entries and the claims that grew; then the objects and the numbers of the last world
unfoldable pub played_text : Setup → List Entry → List PlacedEntry → List SizeRow → Drained → List ℕ
played_text setup past entered sizes ending =
    extended_text setup (reverse past) entered sizes (world setup past).store.rows (last_summary (world setup past) ending)

-- ---- the promise

-- What is promised of the steps of an extended script: of its world and of its side.
pub record IsPromisedBeside (extended : Extended) (budget : Option ℕ) (kept : List Line) (steps : List Step) (ending : Drained) : Type 0 where
  -- the lines of the script and those of its side were done in order, and then those of a drain. A user's create of a claim was held back where
  -- the quota of its namespace refused it, and after each drain growth went on until no claim's could
  pub run : IsExtendedRun extended.script (given_of extended) (works_of extended) budget kept steps ending
  -- these lines of the script reached the world: all but the creates that were held back
  pub left : LeavingOut extended.script.lines kept
  -- of its history all is promised that is promised of a replay of these lines
  pub promised : IsPromised (with_lines kept extended.script) budget (entries steps) ending
  -- what users ask stands once among the steps, in the order of their lines
  pub users : reverse (asked_in steps) ≡ users_works (works_of extended)
  -- each reply of the side is its answer at that point, so a create was held back only where the quota refused it; and it was wherever the quota did
  pub answers : SideRun extended.script.setup (given_of extended) steps
  pub holds : HoldsBack extended.script.setup (given_of extended) steps
  -- at each point quotas are kept; growth goes in turn, never back, and within the reserve
  pub within : WithinThroughout extended.script.setup (given_of extended) steps
  pub grown : GrownThroughout extended.script.setup (given_of extended) steps

-- The input is an extended script, and the text is that of one history from the script's setup and of the side beside it, of which all is
-- promised. The status says how the last drain ended.
pub record Extends (budget : Option ℕ) (status : Status) (input text : List ℕ) : Type 0 where
  pub extended : Extended
  pub kept : List Line
  pub steps : List Step
  pub ending : Drained
  pub read : extended_of input ≡ Ok extended
  pub promised : IsPromisedBeside extended budget kept steps ending
  pub printed : text ≡ played_text extended.script.setup (entries steps) (reverse (placed steps)) (side extended.script.setup (given_of extended) steps).sizes ending
  -- no other setup and entries that a text can give have this text up to the history's end
  pub alone : HasOneHistory text extended.script.setup (reverse (entries steps))
  pub ends : status ≡ status_of ending

-- the input is no extended script, and this is the line that says why: the first line at fault, of the script or of its side
pub record RefusesExtended (input text : List ℕ) : Type 0 where
  pub bad : BadLine
  pub refused : extended_of input ≡ Err bad
  pub printed : text ≡ script_refusal_text bad
