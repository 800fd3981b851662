-- What is said of the rounds of the drains of a script.
-- A choice of this project.
use Rattle.std.specs.Prelude.{ℕ, ◌+◌, ◌-◌, List, Option, ⊤}
use Rattle.call_types.specs.declared.entry.Entry.{Entry}
use Rattle.binder_model.specs.Promises.{IsRunOf}
use Rattle.world_core.specs.declared.drained.Drained.{Drained}
use Rattle.actor_rounds.specs.Rounds.{all_pass}
use Rattle.settle_progress.specs.Drains.Drained.{EachRoundLasts}
use Rattle.script_text.specs.declared.script.Line.{Line}
use Rattle.script_text.specs.declared.script.Line.TheVariants.{Call, Drain, Lose, Restart, Turn}
use Rattle.script_text.specs.declared.script.Script.{Script}
use Rattle.script_runs.specs.Limits.{IsReadable}
use Rattle.script_runs.specs.Replays.{AreMoves, IsDrain, IsMove, IsReplay, MoreMoves, NoMoves, Progress, first_progress}
use Rattle.script_threads.specs.Runs.{IsRun, progress_after}

-- each whole round of the drain that begins with something due, for an actor that is no stale agent, has an entry that lasts
abbrev pub DrainLasts : (script : Script) (option : Option ℕ) (before after : Progress) → IsDrain all_pass script option before after → Type 0
DrainLasts script option before after d = EachRoundLasts all_pass script.setup d.ran d.past (d.budget - (before.drained + d.made)) before.drainers before.past (d.budget - before.drained) d.rounds

-- so of what a line does, which only a drain line says anything of
abbrev pub MoveLasts : (script : Script) (option : Option ℕ) (line : Line) (before after : Progress) → IsMove script option line before after → Type 0
MoveLasts script option (Call user request) before after move = ⊤
MoveLasts script option (Lose actor call lost) before after move = ⊤
MoveLasts script option (Restart actor calls) before after move = ⊤
MoveLasts script option (Turn actor calls) before after move = ⊤
MoveLasts script option Drain before after move = DrainLasts script option before after move

-- so of each of the lines
abbrev pub MovesLast : (script : Script) (option : Option ℕ) (end : Progress) (lines : List Line) (now : Progress) → AreMoves script option end lines now → Type 0
MovesLast script option end lines now (NoMoves none same) = ⊤
MovesLast script option end lines now (MoreMoves line rest next are move more) = MoveLasts script option line now next move × MovesLast script option end rest next more

-- so of each drain of a replay: those of its lines, and the last one
pub record DrainsLast (script : Script) (option : Option ℕ) (past : List Entry) (ending : Drained) (replay : IsReplay script option past ending) : Type 0 where
  pub of_lines : MovesLast script option replay.lines_done script.lines (first_progress option replay.drainers) replay.moves
  pub of_last : DrainLasts script option replay.lines_done replay.end replay.last

-- in each replay that is a run
abbrev pub ReplayedDrainsLast : Type 0
ReplayedDrainsLast = (script : Script) (option : Option ℕ) (past : List Entry) (ending : Drained) → IsReadable script → IsRunOf script.setup past
    → (replay : IsReplay script option past ending) → DrainsLast script option past ending replay

-- so of the drain with which a run on threads ends
abbrev pub ThreadedDrainLasts : (script : Script) (workers calls : ℕ) (option : Option ℕ) (past : List Entry) (ending : Drained) → IsRun script workers calls option past ending → Type 0
ThreadedDrainLasts script workers calls option past ending r = DrainLasts script option (progress_after r.worked option r.drainers) r.end r.last

-- in each run on threads that is a run
abbrev pub ThreadedDrainsLast : Type 0
ThreadedDrainsLast =
    (script : Script) (workers calls : ℕ) (option : Option ℕ) (past : List Entry) (ending : Drained) → IsRunOf script.setup past
    → (r : IsRun script workers calls option past ending) → ThreadedDrainLasts script workers calls option past ending r
