-- What stands for how far an extended run has come: the stage of its world, its side, and the place of the line that comes next.
-- A choice of this project.
use Rattle.std.specs.Prelude.{ℕ, ◌≡◌, ◌≤◌, ◌⊎◌, ◌*◌, List, [], ◌∷◌, ◌++◌, Option, drop, length}
use Rattle.size_law.specs.Calls.Calls.{AreByActors}
use Rattle.call_types.specs.declared.entry.Entry.{Entry}
use Rattle.world_core.specs.declared.drained.Drained.{Drained}
use Rattle.actor_rounds.specs.declared.drainers.Drainer.{Drainer}
use Rattle.actor_rounds.specs.Drainers.{AreNew}
use Rattle.actor_rounds.specs.Rounds.{all_pass}
use Rattle.script_text.specs.declared.script.Line.{Line}
use Rattle.script_text.specs.declared.script.Script.{Script}
use Rattle.script_runs.specs.Parts.{drain_seat}
use Rattle.script_runs.specs.Replays.{EndsAs, IsDrain, IsMove, Progress, first_progress}
use Rattle.script_runs.specs.Steps.Standing.{MadeAtMost, StageStands}
use Rattle.side_model.specs.Merged.{Step, entries}
use Rattle.side_model.specs.Sides.{SideSetup}
use Rattle.extended_text.specs.declared.sides.PlacedSide.{PlacedSide}
use Rattle.extended_runs.specs.Steps.Sides.{SideStands}
use Rattle.extended_runs.specs.Walks.{AreSteps, Walks, with_entries}
use Rattle.extended_runs.specs.Works.{Work, with_side, works_from}
use Rattle.extended_play.specs.declared.walk.Walk.{Walk}

-- the code is at this progress of the world, and after these steps; the side was told of all entries
pub record WalkStands (script : Script) (given : SideSetup) (option : Option ℕ) (p : Progress) (m : List Step) (w : Walk) : Type 0 where
  pub stage : StageStands script option p w.stage
  pub side : SideStands script.setup given m w.side
  pub same : entries m ≡ p.past
  pub made : MadeAtMost (1000 * w.place) w.stage
  pub actors : AreByActors w.stage.world.past

-- at some progress, after some steps
pub record SomeWalks (script : Script) (option : Option ℕ) (w : Walk) : Type 0 where
  pub given : SideSetup
  pub progress : Progress
  pub steps : List Step
  pub stands : WalkStands script given option progress steps w

-- it begins with new actors, before the first step
pub record BeginsWalk (script : Script) (given : SideSetup) (option : Option ℕ) (w : Walk) : Type 0 where
  pub drainers : List Drainer
  pub new : AreNew (drain_seat script) script.node_names drainers
  pub stands : WalkStands script given option (first_progress option drainers) [] w

-- ---- one line

-- the line made its move, and the side was told of the entries that it added
pub record Enters (script : Script) (given : SideSetup) (option : Option ℕ) (line : Line) (p : Progress) (m : List Step) (new : Walk) : Type 0 where
  pub after : Progress
  pub move : IsMove script option line p after
  pub added : List Entry
  pub grows : after.past ≡ added ++ p.past
  pub stands : WalkStands script given option after (with_entries added m) new

-- so it is from each progress that it was at
abbrev pub HasEntered : Script → Option ℕ → Line → Walk → Walk → Type 0
HasEntered script option line old new = (given : SideSetup) (p : Progress) (m : List Step) → WalkStands script given option p m old → Enters script given option line p m new

-- ---- works

-- these works were done, from this progress and these steps on; of their lines those that are kept reached the world
pub record WalksOn (script : Script) (given : SideSetup) (option : Option ℕ) (works : List Work) (p : Progress) (m : List Step) (new : Walk) : Type 0 where
  pub kept : List Line
  pub after : Progress
  pub steps : List Step
  pub stands : WalkStands script given option after steps new
  pub goes : (end : Progress) (all : List Step) (rest : List Work) (later : List Line) → Walks script given option end all rest later after steps
      → Walks script given option end all (works ++ rest) (kept ++ later) p m

-- so it is from each progress that it was at
abbrev pub HasWalked : Script → Option ℕ → List Work → Walk → Walk → Type 0
HasWalked script option works old new = (given : SideSetup) (p : Progress) (m : List Step) → WalkStands script given option p m old → WalksOn script given option works p m new

-- the works that are left of the script at a place, with these lines of the side
abbrev pub works_left : Script → ℕ → List PlacedSide → List Work
works_left script place sides = works_from place (drop place script.lines) sides

-- the lines up to a place, or up to the last, were done; where what a line of the side asks comes next at that place, it is what is left
pub record LinesDone (script : Script) (option : Option ℕ) (before : ℕ) (old new : Walk) : Type 0 where
  pub done : List Work
  pub walked : HasWalked script option done old new
  pub asks : (s : PlacedSide) (sides : List PlacedSide) → s.before ≡ before → works_left script old.place (s ∷ sides) ≡ done ++ with_side s.line (works_left script new.place sides)
  pub rest : works_left script old.place [] ≡ done ++ works_left script new.place []
  pub over : (before ≤ new.place) ⊎ (length script.lines ≤ new.place)

-- so it is from the start where it is from here
abbrev pub LinesGo : Script → Option ℕ → ℕ → Walk → Walk → Type 0
LinesGo script option before old now = (new : Walk) → LinesDone script option before now new → LinesDone script option before old new

-- ---- the whole

-- of the works of a script those are done that come before what is left: its lines from the next one on, and those of the side from this place on
pub record WorksSoFar (script : Script) (given : SideSetup) (option : Option ℕ) (sides : List PlacedSide) (place : ℕ) (w : Walk) : Type 0 where
  pub drainers : List Drainer
  pub new : AreNew (drain_seat script) script.node_names drainers
  pub kept : List Line
  pub progress : Progress
  pub steps : List Step
  pub stands : WalkStands script given option progress steps w
  pub goes : (end : Progress) (all : List Step) (later : List Line)
      → Walks script given option end all (works_left script w.place (drop place sides)) later progress steps
      → Walks script given option end all (works_left script 0 sides) (kept ++ later) (first_progress option drainers) []

-- the last drain was made, and growth rests
pub record Ending (script : Script) (given : SideSetup) (option : Option ℕ) (p : Progress) (m : List Step) (new : Walk) (ending : Drained) : Type 0 where
  pub after : Progress
  pub move : IsDrain all_pass script option p after
  pub added : List Entry
  pub grows : after.past ≡ added ++ p.past
  pub steps : List Step
  pub rests : AreSteps script.setup given steps (with_entries added m)
  pub stage : StageStands script option after new.stage
  pub side : SideStands script.setup given steps new.side
  pub same : entries steps ≡ after.past
  pub ends : EndsAs script.setup after ending
  pub actors : AreByActors new.stage.world.past

-- so it is from each progress that it was at
abbrev pub EndsWalk : Script → Option ℕ → Walk → Walk → Drained → Type 0
EndsWalk script option old new ending =
    (given : SideSetup) (p : Progress) (m : List Step) → WalkStands script given option p m old → Ending script given option p m new ending
