-- An actor as a worker: what it needs of its seats, and what it leaves of them. The newest entry stands first.
-- A choice of this project, after what a controller of Kubernetes meets: calls are lost, and it is restarted.
use Rattle.std.specs.Prelude.{ℕ, ◌≡◌, ◌≤◌, ◌<◌, ◌⊎◌, ◌+◌, ◌^◌, true, List, [], length}
use Rattle.call_types.specs.declared.entry.Entry.{Entry}
use Rattle.binder_model.specs.Told.{own}
use Rattle.size_law.specs.Calls.Calls.{AreByActors}
use Rattle.worker_core.specs.declared.role.Role.{Role}
use Rattle.actor_rounds.specs.Answers.Answered.{all_pass}
use Rattle.actor_turns.specs.declared.part.Part.{Part}
use Rattle.actor_turns.specs.declared.player.Player.{Player}
use Rattle.actor_turns.specs.Calls.{AreCalls}
use Rattle.actor_turns.specs.Lives.{WasPlayed}
use Rattle.actor_turns.specs.Parts.{lives_of}
use Rattle.actor_turns.specs.Steps.Playing.{SomePlays}
use Rattle.actor_work.specs.Work.Working.{HasWorked, SomeLives}
use Rattle.shared_work.specs.Crew.{numbers_from}
use Rattle.shared_work.specs.Seats.{seats_at}

-- the numbers of the seats of the actor's lives
abbrev pub seats_of_lives : Part → List ℕ
seats_of_lives part = numbers_from part.first (lives_of part)

-- an actor before its first call, and seats for its lives, which have no entries
pub record MayAct (x : Player) (calls : ℕ) (before : List (ℕ × List Entry)) : Type 0 where
  pub named : x.part.named ≡ true
  pub small : x.part.first + length x.part.restarts < 2 ^ 32
  pub few : calls < 2 ^ 32
  pub made : x.made ≡ 0
  pub held : x.held ≡ []
  pub plays : SomePlays x []
  pub lives : SomeLives x.actor.role x []
  pub before_is : before ≡ seats_at [] (seats_of_lives x.part)

-- What an actor that was to make so many calls has left of its seats. They have its calls in order, and nothing else: `mine` are
-- the entries of its lives together, those of a later life newer. It made all the calls, or fewer where the life that would
-- make the next one was told that its epoch is stale. Each life is one that its actor played; and each request
-- of a binder and of a scheduler was given by an actor
pub record HasActed (role : Role) (part : Part) (calls : ℕ) (after : List (ℕ × List Entry)) : Type 0 where
  pub made : ℕ
  pub mine : List Entry
  pub after_is : after ≡ seats_at mine (seats_of_lives part)
  pub alone : (seat : ℕ) → (seat < part.first) ⊎ (part.first + lives_of part ≤ seat) → own seat mine ≡ []
  pub calls_are : AreCalls all_pass [] part mine 1 made []
  pub whole : HasWorked part calls made mine
  pub lives : (seat : ℕ) → part.first ≤ seat → seat < part.first + lives_of part → WasPlayed [] role part seat made mine
  pub actors : AreByActors mine

-- What an actor that was to make so many calls has left in a history. At the seats of its lives the history has the entries
-- `mine`, its calls in order, and there is nothing else at these seats. All that is said of its lives is said of the history
pub record HasActedIn (role : Role) (part : Part) (calls : ℕ) (past : List Entry) : Type 0 where
  pub made : ℕ
  pub mine : List Entry
  pub own_is : (seat : ℕ) → part.first ≤ seat → seat < part.first + lives_of part → own seat past ≡ own seat mine
  pub alone : (seat : ℕ) → (seat < part.first) ⊎ (part.first + lives_of part ≤ seat) → own seat mine ≡ []
  pub calls_are : AreCalls all_pass [] part mine 1 made []
  pub whole : HasWorked part calls made past
  pub lives : (seat : ℕ) → part.first ≤ seat → seat < part.first + lives_of part → WasPlayed [] role part seat made past
  pub actors : (seat : ℕ) → part.first ≤ seat → seat < part.first + lives_of part → AreByActors (own seat past)

-- what an actor left of its seats holds of a whole history that has its seats so
abbrev pub ActorsInHistories : Type 0
ActorsInHistories =
    (role : Role) (part : Part) (calls : ℕ) (past : List Entry) → part.named ≡ true → HasActed role part calls (seats_at past (seats_of_lives part)) → HasActedIn role part calls past
