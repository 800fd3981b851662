-- How many calls the rounds of the drains of a script make at most.
-- A choice of this project.
use Rattle.std.specs.Prelude.{ℕ, ◌≤◌, ◌+◌, ◌-◌, List, Option, ⊤}
use Rattle.call_types.specs.declared.entry.Entry.{Entry}
use Rattle.call_types.specs.declared.setup.Setup.{Setup}
use Rattle.binder_model.specs.World.{world}
use Rattle.world_core.specs.declared.drained.Drained.{Drained}
use Rattle.actor_rounds.specs.declared.drainers.Drainer.{Drainer}
use Rattle.actor_rounds.specs.Rounds.{Drains, Goes, IsSpent, Lets, NothingDue, all_pass}
use Rattle.settle_round_calls.specs.Rest.ShortRounds.{stated_calls}
use Rattle.history_laws.specs.Runs.Laws.{IsGivenRun}
use Rattle.script_text.specs.declared.script.Line.{Line}
use Rattle.script_text.specs.declared.script.Line.TheVariants.{Call, Drain, Lose, Restart, Turn}
use Rattle.script_text.specs.declared.script.Script.{Script}
use Rattle.script_runs.specs.Limits.{IsReadable}
use Rattle.script_runs.specs.Replays.{AreMoves, IsDrain, IsMove, IsReplay, MoreMoves, NoMoves, Progress, first_progress}
use Rattle.script_threads.specs.Runs.{IsRun, progress_after}

-- each round of the drain makes no more than the stated number of calls
abbrev pub EachRoundMakesFew : (lets : Lets) (setup : Setup) (after : List Drainer) (past : List Entry) (left : ℕ) (ds : List Drainer)
    (h : List Entry) (b : ℕ) → Drains lets setup after past left ds h b → Type 0
EachRoundMakesFew lets setup after past left ds h b (NothingDue settled same entries rest) = ⊤
EachRoundMakesFew lets setup after past left ds h b (IsSpent first due none same entries rest) = ⊤
EachRoundMakesFew lets setup after past left ds h b (Goes first due some between middle rest whole round more) =
    (b ≤ rest + stated_calls setup (world setup h)) × EachRoundMakesFew lets setup after past left between middle rest more

-- so does each of this drain, whatever its actors have under way as it begins
abbrev pub DrainIsShort : (script : Script) (option : Option ℕ) (before after : Progress) → IsDrain all_pass script option before after → Type 0
DrainIsShort script option before after d =
    EachRoundMakesFew all_pass script.setup d.ran d.past (d.budget - (before.drained + d.made)) before.drainers before.past (d.budget - before.drained) d.rounds

-- so of what a line does, which only a drain line says anything of
abbrev pub MoveIsShort : (script : Script) (option : Option ℕ) (line : Line) (before after : Progress) → IsMove script option line before after → Type 0
MoveIsShort script option (Call user request) before after move = ⊤
MoveIsShort script option (Lose actor call lost) before after move = ⊤
MoveIsShort script option (Restart actor calls) before after move = ⊤
MoveIsShort script option (Turn actor calls) before after move = ⊤
MoveIsShort script option Drain before after move = DrainIsShort script option before after move

-- so of each of the lines
abbrev pub MovesAreShort : (script : Script) (option : Option ℕ) (end : Progress) (lines : List Line) (now : Progress) → AreMoves script option end lines now → Type 0
MovesAreShort script option end lines now (NoMoves none same) = ⊤
MovesAreShort script option end lines now (MoreMoves line rest next are move more) = MoveIsShort script option line now next move × MovesAreShort script option end rest next more

-- so of each drain of a replay: those of its lines, and the last one
pub record DrainsAreShort (script : Script) (option : Option ℕ) (past : List Entry) (ending : Drained) (replay : IsReplay script option past ending) : Type 0 where
  pub of_lines : MovesAreShort script option replay.lines_done script.lines (first_progress option replay.drainers) replay.moves
  pub of_last : DrainIsShort script option replay.lines_done replay.end replay.last

-- in each replay that a text can give
abbrev pub ReplayedDrainsAreShort : Type 0
ReplayedDrainsAreShort =
    (script : Script) (option : Option ℕ) (past : List Entry) (ending : Drained) → IsReadable script → IsGivenRun script.setup past
    → (replay : IsReplay script option past ending) → DrainsAreShort script option past ending replay

-- so of the drain with which a run on threads ends
abbrev pub ThreadedDrainIsShort : (script : Script) (workers calls : ℕ) (option : Option ℕ) (past : List Entry) (ending : Drained) → IsRun script workers calls option past ending → Type 0
ThreadedDrainIsShort script workers calls option past ending r = DrainIsShort script option (progress_after r.worked option r.drainers) r.end r.last

-- in each run on threads that a text can give
abbrev pub ThreadedDrainsAreShort : Type 0
ThreadedDrainsAreShort =
    (script : Script) (workers calls : ℕ) (option : Option ℕ) (past : List Entry) (ending : Drained) → IsReadable script
    → IsGivenRun script.setup past → (r : IsRun script workers calls option past ending)
    → ThreadedDrainIsShort script workers calls option past ending r
