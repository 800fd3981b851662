-- What a replay brings about has only values that a text can give. Lists of entries begin with the newest.
-- A choice of this project.
use Rattle.std.specs.Prelude.{ℕ, ◌<◌, List, Option, length, reverse}
use Rattle.call_types.specs.declared.entry.Entry.{Entry}
use Rattle.binder_model.specs.Promises.{most_entries}
use Rattle.binder_model.specs.Run.{Run}
use Rattle.world_core.specs.declared.drained.Drained.{Drained}
use Rattle.history_laws.specs.Read.Given.{IsSetup, IsTextHistory}
use Rattle.history_text.specs.Output.{history_text, with_lines}
use Rattle.script_text.specs.declared.script.Script.{Script}
use Rattle.script_laws.specs.Read.Scripts.{IsScript}
use Rattle.script_runs.specs.Replays.{IsReplay}
use Rattle.script_threads.specs.Runs.{IsRun}
use Rattle.history_laws.specs.Runs.Laws.{HasOneHistory}

-- the setup of a script that a text can give, a text can give
abbrev pub ScriptSetupsGive : Type 0
ScriptSetupsGive = (script : Script) → IsScript script → IsSetup script.setup

-- what a replay brings about
pub record IsReplayedRun (script : Script) (budget : Option ℕ) (past : List Entry) (ending : Drained) : Type 0 where
  pub script_given : IsScript script
  pub replay : IsReplay script budget past ending
  pub run : Run script.setup past
  pub short : length past < most_entries

-- is a history that a text can give, the oldest entry first
abbrev pub ReplaysGive : Type 0
ReplaysGive = (script : Script) (budget : Option ℕ) (past : List Entry) (ending : Drained) → IsReplayedRun script budget past ending → IsTextHistory script.setup (reverse past)

-- and what is printed of it has it alone, whatever lines follow it
abbrev pub ReplayTextsHaveOne : Type 0
ReplayTextsHaveOne =
    (script : Script) (budget : Option ℕ) (past : List Entry) (ending : Drained) (lines : List (List ℕ))
    → IsReplayedRun script budget past ending → HasOneHistory (with_lines (history_text script.setup (reverse past)) lines) script.setup (reverse past)

-- what a run on threads brings about
pub record IsMadeByThreads (script : Script) (workers calls : ℕ) (budget : Option ℕ) (past : List Entry) (ending : Drained) : Type 0 where
  pub script_given : IsScript script
  pub calls_are : IsRun script workers calls budget past ending
  pub run : Run script.setup past
  pub short : length past < most_entries

-- is such a history too
abbrev pub ThreadsGive : Type 0
ThreadsGive =
    (script : Script) (workers calls : ℕ) (budget : Option ℕ) (past : List Entry) (ending : Drained)
    → IsMadeByThreads script workers calls budget past ending → IsTextHistory script.setup (reverse past)

-- and what is printed of it has it alone
abbrev pub ThreadTextsHaveOne : Type 0
ThreadTextsHaveOne =
    (script : Script) (workers calls : ℕ) (budget : Option ℕ) (past : List Entry) (ending : Drained) (lines : List (List ℕ))
    → IsMadeByThreads script workers calls budget past ending → HasOneHistory (with_lines (history_text script.setup (reverse past)) lines) script.setup (reverse past)
