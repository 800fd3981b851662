-- What is promised of an extended script that was played. A choice of this project.
use Rattle.std.specs.Prelude.{ℕ, ◌≡◌, List, Option, reverse}
use Rattle.size_law.specs.Calls.Calls.{AreByActors}
use Rattle.script_text.specs.declared.script.Line.{Line}
use Rattle.script_text.specs.declared.script.Script.{Script}
use Rattle.script_runs.specs.Played.{ArePlayed}
use Rattle.side_model.specs.Answers.{side}
use Rattle.side_model.specs.Merged.{Step, entries}
use Rattle.side_model.specs.Sides.{SideSetup, growth_of}
use Rattle.extended_runs.specs.Placed.{placed}
use Rattle.extended_runs.specs.Walks.{IsExtendedRun}
use Rattle.extended_runs.specs.Works.{Work}
use Rattle.extended_play.specs.declared.play.Played.{Played}

-- the works were done as an extended run does them, and the actors that turns name played their lives. The history of the world, the entries
-- of the side, the first one first, and the rows of the claims that grew are those of the run's steps
pub record IsPlayed (script : Script) (given : SideSetup) (works : List Work) (option : Option ℕ) (p : Played) : Type 0 where
  pub kept : List Line
  pub steps : List Step
  pub run : IsExtendedRun script given works option kept steps p.ending
  pub lives : ArePlayed script run.end
  pub setup : p.world.setup ≡ script.setup
  pub history : p.world.past ≡ entries steps
  pub actors : AreByActors p.world.past
  pub entered : p.side.entered ≡ reverse (placed steps)
  pub sizes : p.side.sizes ≡ growth_of (side script.setup given steps)
