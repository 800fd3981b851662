-- What a drain comes to, and who its actors are: it follows from how drains are made. The newest entry of a history stands first.
-- A choice of this project.
use Rattle.std.specs.Prelude.{ℕ, ◌≡◌, ◌≤◌, ◌<◌, ◌⊎◌, ◌-◌, List, Option, Some}
use Rattle.binder_model.specs.Due.{IsSettled}
use Rattle.binder_model.specs.World.{world}
use Rattle.actor_rounds.specs.Drainers.{AreAtRest, AreNew, roles_of, seats_for, seats_of}
use Rattle.actor_rounds.specs.Longer.{GrowsWithin, IsLonger, users_of}
use Rattle.actor_rounds.specs.Rounds.{Lets, all_pass}
use Rattle.script_text.specs.declared.script.Line.{Line}
use Rattle.script_text.specs.declared.script.Script.{Script}
use Rattle.script_runs.specs.Parts.{drain_roles}
use Rattle.script_runs.specs.Replays.{AreMoves, IsDrain, IsMove, Progress}

-- ---- what a drain comes to

-- what a drain comes to
pub record DrainComesTo (script : Script) (before after : Progress) : Type 0 where
  -- the entries are the earlier ones and then some of the seats of its actors, all told, no more than calls were made
  pub entries : GrowsWithin (seats_of before.drainers) (after.drained - before.drained) before.past after.past
  -- none of them is a user's
  pub users : users_of after.past ≡ users_of before.past
  -- no more calls were made than the budget says
  pub low : before.drained ≤ after.drained
  pub few : after.drained ≤ after.budget
  -- it ends where nothing is due, or with the budget spent
  pub ends : IsSettled script.setup (world script.setup after.past) ⊎ (after.drained ≡ after.budget)
  -- where nothing is due it makes no call
  pub none : IsSettled script.setup (world script.setup before.past) → after.past ≡ before.past

-- each drain comes to this
abbrev pub DrainsComeTo : Type 0
DrainsComeTo = (lets : Lets) (script : Script) (option : Option ℕ) (before after : Progress) → IsDrain lets script option before after → DrainComesTo script before after

-- where no call is held back each call leaves its entry
abbrev pub CallsLeaveEntries : Type 0
CallsLeaveEntries = (script : Script) (option : Option ℕ) (before after : Progress) → IsDrain all_pass script option before after
    → IsLonger (seats_of before.drainers) (after.drained - before.drained) before.past after.past

-- ---- who its actors are

-- the actors of the drains have these seats, from the first one on, and these roles; and as long as a budget that was given is not spent,
-- none has anything under way
pub record AreDrainers (script : Script) (first : ℕ) (option : Option ℕ) (p : Progress) : Type 0 where
  pub seats : seats_of p.drainers ≡ seats_for first script.node_names
  pub roles : roles_of p.drainers ≡ drain_roles script
  pub rests : (given : ℕ) → option ≡ Some given → p.drained < given → AreAtRest p.drainers

-- new ones are so
abbrev pub NewOnesAreDrainers : Type 0
NewOnesAreDrainers = (script : Script) (first : ℕ) (option : Option ℕ) (p : Progress) → AreNew first script.node_names p.drainers → AreDrainers script first option p

-- a drain leaves them so
abbrev pub DrainsKeepDrainers : Type 0
DrainsKeepDrainers =
    (lets : Lets) (script : Script) (first : ℕ) (option : Option ℕ) (before after : Progress) → IsDrain lets script option before after
    → AreDrainers script first option before → AreDrainers script first option after

-- and so do lines: it is so before each drain of a replay
abbrev pub LinesKeepDrainers : Type 0
LinesKeepDrainers =
    (script : Script) (first : ℕ) (option : Option ℕ) (line : Line) (before after : Progress) → IsMove script option line before after
    → AreDrainers script first option before → AreDrainers script first option after

-- each line leaves the actors of drains as it should
abbrev pub AllLinesKeepDrainers : Type 0
AllLinesKeepDrainers =
    (script : Script) (first : ℕ) (option : Option ℕ) (end : Progress) (lines : List Line) (now : Progress) → AreMoves script option end lines now
    → AreDrainers script first option now → AreDrainers script first option end
