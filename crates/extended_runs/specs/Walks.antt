-- What an extended run does, in one list of steps: entries of its world and entries of its side, the newest first.
-- A choice of this project.
use Rattle.std.specs.Prelude.{ℕ, ◌≡◌, List, [], ◌∷◌, ◌++◌, map, Option, Some, None, ⊤}
use Rattle.kube_objects.specs.declared.key.Key.{Key}
use Rattle.kube_objects.specs.declared.objects.Claim.{Claim as ClaimData}
use Rattle.kube_objects.specs.declared.objects.Object.TheVariants.{Claim}
use Rattle.call_types.specs.declared.entry.Entry.{Entry}
use Rattle.call_types.specs.declared.request.SeatKind.TheVariants as seats
use Rattle.call_types.specs.declared.setup.Setup.{Setup}
use Rattle.binder_model.specs.World.{world}
use Rattle.world_core.specs.declared.drained.Drained.{Drained}
use Rattle.actor_rounds.specs.declared.drainers.Drainer.{Drainer}
use Rattle.actor_rounds.specs.Drainers.{AreNew}
use Rattle.actor_rounds.specs.Rounds.{all_pass}
use Rattle.script_text.specs.declared.script.Line.{Line}
use Rattle.script_text.specs.declared.script.Line.TheVariants.{Call, Drain, Lose, Restart, Turn}
use Rattle.script_text.specs.declared.script.Script.{Script}
use Rattle.script_runs.specs.Parts.{drain_seat}
use Rattle.script_runs.specs.Replays.{EndsAs, IsDrain, IsMove, Progress, first_progress}
use Rattle.side_calls.specs.declared.asks.SideAsk.TheVariants.{Create as CreateAsk, Grow, Step as StepAsk}
use Rattle.side_calls.specs.declared.asks.SideEntry.{SideEntry}
use Rattle.side_calls.specs.declared.asks.SideReply.{SideReply}
use Rattle.side_calls.specs.declared.asks.SideReply.TheVariants.{OverQuota as OverQuotaReply}
use Rattle.side_calls.specs.declared.quotas.OverQuota.{OverQuota}
use Rattle.side_calls.specs.declared.sizes.StepKind.{StepKind}
use Rattle.expand_ops.specs.Sizes.{next_step}
use Rattle.side_model.specs.Answers.{answer, held_by, side}
use Rattle.side_model.specs.Sides.{SideSetup, growth_of, tally_of}
use Rattle.side_model.specs.Merged.{OfSide, OfWorld, Step, entries}
use Rattle.side_model.specs.Within.{PassesQuota}
use Rattle.extended_runs.specs.Kept.{create_of}
use Rattle.extended_runs.specs.Works.{OfGrowth, OfScript, Work}

-- ---- what the quotas let through

-- what holds back a create of this claim at this point, if anything
abbrev pub held_at : Setup → SideSetup → List Step → ClaimData → Option OverQuota
held_at setup given m c = held_by (tally_of (side setup given m) (world setup (entries m)).store.rows) (Claim c)

-- no quota holds the line back: it may refuse a user's create of a claim alone
abbrev pub PassesLine : Setup → SideSetup → List Step → Line → Type 0
PassesLine setup given m (Call user request) = PassesQuota setup given m seats.User request
PassesLine setup given m line = ⊤

-- ---- what the side does of itself

-- a step of growth, as the side's entry
abbrev pub step_entry : StepKind → Key → SideReply → SideEntry
step_entry kind key reply = record { ask = StepAsk kind key; reply = reply }

-- steps of growth, each the one that the side answers, until no row can go on
pub data AreSteps (setup : Setup) (given : SideSetup) (end : List Step) : List Step → Type 0 where
  RestsHere : {m : List Step} → next_step (growth_of (side setup given m)) ≡ None → end ≡ m → AreSteps setup given end m
  StepsOn : {m : List Step} (kind : StepKind) (key : Key) (reply : SideReply) → answer setup given m (StepAsk kind key) ≡ Some reply
      → AreSteps setup given end (OfSide (step_entry kind key reply) ∷ m) → AreSteps setup given end m

-- after a drain come such steps, and after any other line nothing
abbrev pub AreAfter : Setup → SideSetup → Line → List Step → List Step → Type 0
AreAfter setup given Drain after m = AreSteps setup given after m
AreAfter setup given (Call user request) after m = after ≡ m
AreAfter setup given (Lose actor call lost) after m = after ≡ m
AreAfter setup given (Restart actor calls) after m = after ≡ m
AreAfter setup given (Turn actor calls) after m = after ≡ m

-- ---- the lines

-- the entries of the world with these newest
abbrev pub with_entries : List Entry → List Step → List Step
with_entries added m = map OfWorld added ++ m

-- a line of the script reaches the world: no quota holds it back, it does there what it does in a replay, and after a drain growth goes on
pub record PlaysLine (script : Script) (given : SideSetup) (option : Option ℕ) (line : Line) (now next : Progress) (m after : List Step) : Type 0 where
  pub passes : PassesLine script.setup given m line
  pub move : IsMove script option line now next
  pub added : List Entry
  pub grows : next.past ≡ added ++ now.past
  pub rests : AreAfter script.setup given line after (with_entries added m)

-- what these works do in order, from a progress of the world and the steps so far up to the progress `end` and the steps `all`; and the
-- lines of the script that reach the world. Each line of the script is played, or is a create of a claim that the quota of its
-- namespace holds back; what users ask of the side is answered
pub data Walks (script : Script) (given : SideSetup) (option : Option ℕ) (end : Progress) (all : List Step) : List Work → List Line → Progress → List Step → Type 0 where
  Ends : {works : List Work} {kept : List Line} {now : Progress} {m : List Step} → works ≡ [] → kept ≡ [] → end ≡ now → all ≡ m
      → Walks script given option end all works kept now m
  Plays : {works : List Work} {kept : List Line} {now : Progress} {m : List Step} (line : Line) (rest : List Work) (later : List Line) (next : Progress)
      (after : List Step) → works ≡ OfScript line ∷ rest → kept ≡ line ∷ later → PlaysLine script given option line now next m after
      → Walks script given option end all rest later next after → Walks script given option end all works kept now m
  Holds : {works : List Work} {kept : List Line} {now : Progress} {m : List Step} (user : ℕ) (c : ClaimData) (over : OverQuota) (rest : List Work)
      → works ≡ OfScript (create_of user c) ∷ rest → held_at script.setup given m c ≡ Some over
      → Walks script given option end all rest kept now (OfSide (record { ask = CreateAsk user (Claim c); reply = OverQuotaReply over }) ∷ m)
      → Walks script given option end all works kept now m
  Asks : {works : List Work} {kept : List Line} {now : Progress} {m : List Step} (user : ℕ) (key : Key) (bytes : ℕ) (reply : SideReply) (rest : List Work)
      → works ≡ OfGrowth user key bytes ∷ rest → answer script.setup given m (Grow user key bytes) ≡ Some reply
      → Walks script given option end all rest kept now (OfSide (record { ask = Grow user key bytes; reply = reply }) ∷ m)
      → Walks script given option end all works kept now m

-- ---- the whole

-- all works are done from the first progress on, with new actors of the drains; then comes one more drain, and after it growth goes on until
-- it rests. These lines of the script reached the world, and these are all steps
pub record IsExtendedRun (script : Script) (given : SideSetup) (works : List Work) (option : Option ℕ) (kept : List Line) (m : List Step) (ending : Drained) : Type 0 where
  pub drainers : List Drainer
  pub new : AreNew (drain_seat script) script.node_names drainers
  pub lines_done : Progress
  pub between : List Step
  pub walks : Walks script given option lines_done between works kept (first_progress option drainers) []
  pub end : Progress
  pub last : IsDrain all_pass script option lines_done end
  pub added : List Entry
  pub grows : end.past ≡ added ++ lines_done.past
  pub rests : AreSteps script.setup given m (with_entries added between)
  pub ends : EndsAs script.setup end ending
