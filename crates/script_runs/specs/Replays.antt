-- Whose calls the history of a replayed script has. The newest entry of a history stands first.
-- A choice of this project.
use Rattle.std.specs.Prelude.{ℕ, ◌≡◌, ◌≤◌, ◌<◌, ◌⊎◌, ◌+◌, ◌-◌, true, List, [], ◌∷◌, ◌++◌, Option, Some, bytes_eq, if◌then◌else◌}
use Rattle.call_types.specs.declared.entry.Entry.{Entry}
use Rattle.call_types.specs.declared.request.Request.{Request}
use Rattle.call_types.specs.declared.request.SeatKind.TheVariants as seats
use Rattle.call_types.specs.declared.reply.Reply.{Reply}
use Rattle.call_types.specs.declared.setup.Setup.{Setup}
use Rattle.binder_model.specs.World.{world}
use Rattle.attention_law.specs.Diligence.{Call as Calling}
use Rattle.worker_core.specs.declared.role.Role.{Role}
use Rattle.world_core.specs.declared.drained.Drained.{Drained}
use Rattle.world_core.specs.declared.drained.Drained.TheVariants.{Settled, Spent}
use Rattle.binder_model.specs.Due.{IsFirstDue, IsSettled}
use Rattle.actor_rounds.specs.declared.drainers.Drainer.{Drainer}
use Rattle.actor_rounds.specs.Drainers.{AreNew, AreStanding}
use Rattle.actor_rounds.specs.Rounds.{Drains, Lets, all_pass}
use Rattle.script_text.specs.declared.script.Line.{Line}
use Rattle.script_text.specs.declared.script.Line.TheVariants.{Call, Lose, Restart, Turn, Drain}
use Rattle.script_text.specs.declared.script.Script.{Script}
use Rattle.actor_turns.specs.declared.part.Part.{Part}
use Rattle.script_runs.specs.Budget.{first_budget, raised}
use Rattle.actor_turns.specs.Calls.{AreCalls, and_idle, seat_at}
use Rattle.actor_turns.specs.Lives.{ArePlayedLives, IsIdleLife}
use Rattle.script_runs.specs.Parts.{drain_seat, part_of, role_of}

-- how far a replay has come
pub record Progress : Type 0 where
  pub past : List Entry
  -- how many calls each actor has made in turns, by its name
  pub made : List ℕ → ℕ
  -- the calls that the life of a seat had made when a turn last gave it fewer than its line says; none at first
  pub idle : ℕ → List Calling
  -- the actors of the drains, as the last drain left them
  pub drainers : List Drainer
  -- the calls of all drains so far, and how many they may make
  pub drained : ℕ
  pub budget : ℕ

-- before the first line, with these actors of the drains
abbrev pub first_progress : Option ℕ → List Drainer → Progress
first_progress option drainers = record { past = []; made = λ name. 0; idle = λ seat. []; drainers = drainers; drained = 0; budget = first_budget option }

-- ---- a user's line

-- a user makes one call
pub record IsUserCall (user : ℕ) (request : Request) (before after : Progress) : Type 0 where
  pub reply : Reply
  pub is : after ≡ record before { past = (record { seat = user; kind = seats.User; request = request; reply = reply; told = true }) ∷ before.past }

-- ---- a turn line

-- the numbers of calls made, with more for this name
abbrev pub and_made : List ℕ → ℕ → (List ℕ → ℕ) → List ℕ → ℕ
and_made name count made other = if bytes_eq other name then made other + count else made other

-- as many calls as the line says, by lives that the actor played
pub record MakesAll (lets : Lets) (held : List ℕ) (role : Role) (part : Part) (calls : ℕ) (before after : Progress) : Type 0 where
  pub past : List Entry
  pub made : AreCalls lets held part past (before.made part.name + 1) calls before.past
  pub lives : ArePlayedLives held role part (before.made part.name + calls) past before.idle
  pub is : after ≡ record before { past = past; made = and_made part.name calls before.made }

-- fewer, by lives that the actor played, and the life that would make the next one is idle
pub record MakesFewer (lets : Lets) (held : List ℕ) (role : Role) (part : Part) (calls : ℕ) (before after : Progress) : Type 0 where
  pub count : ℕ
  pub few : count < calls
  pub past : List Entry
  pub made : AreCalls lets held part past (before.made part.name + 1) count before.past
  pub lives : ArePlayedLives held role part (before.made part.name + count) past before.idle
  pub seat : ℕ
  pub life : seat ≡ seat_at part (before.made part.name + count + 1)
  pub since : List Calling
  pub ends : IsIdleLife held role part seat (before.made part.name + count) past (before.idle seat) since
  pub is : after ≡ record before { past = past; made = and_made part.name count before.made; idle = and_idle seat (since ++ before.idle seat) before.idle }

-- where the actor's calls of these numbers were held back
abbrev pub IsTurnLine : Lets → List ℕ → Role → Part → ℕ → Progress → Progress → Type 0
IsTurnLine lets held role part calls before after = MakesAll lets held role part calls before after ⊎ MakesFewer lets held role part calls before after

-- ---- a drain

-- the budget is raised; then come rounds of the drains' actors while something is due and calls are left, and nothing else. They go on
-- from where the last drain left them, each with its queue and what it has under way, and each stands for the entries of its seat. What the
-- drain has made are calls: one that is held back leaves no entry. `DrainComesTo` and `AreDrainers` say what follows
pub record IsDrain (lets : Lets) (script : Script) (option : Option ℕ) (before after : Progress) : Type 0 where
  pub past : List Entry
  pub made : ℕ
  pub budget : ℕ
  pub ran : List Drainer
  pub raises : budget ≡ raised option script.setup before.past before.budget
  pub stand : AreStanding before.drainers before.past
  pub few : before.drained + made ≤ budget
  pub rounds : Drains lets script.setup ran past (budget - (before.drained + made)) before.drainers before.past (budget - before.drained)
  pub is : after ≡ record before { past = past; drainers = ran; drained = before.drained + made; budget = budget }

-- ---- the lines

-- what a line does
abbrev pub IsMove : Script → Option ℕ → Line → Progress → Progress → Type 0
IsMove script option (Call user request) before after = IsUserCall user request before after
IsMove script option (Lose actor call lost) before after = after ≡ before
IsMove script option (Restart actor calls) before after = after ≡ before
IsMove script option (Turn actor calls) before after = IsTurnLine all_pass [] (role_of actor) (part_of script actor) calls before after
IsMove script option Drain before after = IsDrain all_pass script option before after

-- the lines in order, up to the progress `end`
pub data AreMoves (script : Script) (option : Option ℕ) (end : Progress) : List Line → Progress → Type 0 where
  NoMoves : {lines : List Line} {now : Progress} → lines ≡ [] → end ≡ now → AreMoves script option end lines now
  MoreMoves : {lines : List Line} {now : Progress} (line : Line) (rest : List Line) (next : Progress) → lines ≡ line ∷ rest
      → IsMove script option line now next → AreMoves script option end rest next → AreMoves script option end lines now

-- ---- the whole

-- how a replay ends, with the calls that all drains have made: settled, or with the budget spent and the first that is due
abbrev pub EndsAs : Setup → Progress → Drained → Type 0
EndsAs setup end (Settled made) = (made ≡ end.drained) × IsSettled setup (world setup end.past)
EndsAs setup end (Spent made key due) = (made ≡ end.drained) × (made ≡ end.budget) × IsFirstDue setup (world setup end.past) (Some (key, due))

-- the actors of the drains are new at first, and their seats come after those of the lives of all actors; then the lines are done in order,
-- and then one more drain
pub record IsReplay (script : Script) (option : Option ℕ) (past : List Entry) (ending : Drained) : Type 0 where
  pub drainers : List Drainer
  pub new : AreNew (drain_seat script) script.node_names drainers
  pub lines_done : Progress
  pub end : Progress
  pub moves : AreMoves script option lines_done script.lines (first_progress option drainers)
  pub last : IsDrain all_pass script option lines_done end
  pub history : past ≡ end.past
  pub ends : EndsAs script.setup end ending
