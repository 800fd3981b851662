-- The lives of an actor, as the actor played them. The newest call stands first.
-- A choice of this project, after what a controller of Kubernetes meets: calls are lost, and it is restarted.
use Rattle.std.specs.Prelude.{ℕ, ◌≤◌, ◌<◌, ◌+◌, List, ◌++◌}
use Rattle.call_types.specs.declared.entry.Entry.{Entry}
use Rattle.binder_model.specs.Told.{own}
use Rattle.attention_law.specs.Diligence.{Call}
use Rattle.attention_law.specs.Played.{Turns}
use Rattle.attention_law.specs.Resting.{IsPlayedSince}
use Rattle.worker_core.specs.declared.role.Role.{Role}
use Rattle.worker_core.specs.declared.turn.Next.TheVariants as nexts
use Rattle.worker_core.specs.States.{ActorState}
use Rattle.actor_turns.specs.declared.part.Part.{Part}
use Rattle.actor_turns.specs.Calls.{AreOfLife}
use Rattle.actor_turns.specs.Parts.{lives_of}

-- the life is one that its actor played: from a new actor on each of its calls is the one that the actor's turn gave, told or lost as it
-- was, and where a turn gave none the actor was woken. The last time was after the calls `before`; there are none where it was never
pub record IsPlayedLife (held : List ℕ) (role : Role) (part : Part) (seat made : ℕ) (past : List Entry) (before : List Call) : Type 0 where
  pub since : List Call
  pub are : AreOfLife held part seat made past (since ++ before)
  pub state : ActorState
  pub played : IsPlayedSince role state before since

-- each life of the actor is so; `idle` has the calls that each had made when a turn last gave it fewer than it was to make
abbrev pub ArePlayedLives : List ℕ → Role → Part → ℕ → List Entry → (ℕ → List Call) → Type 0
ArePlayedLives held role part made past idle = (seat : ℕ) → part.first ≤ seat → seat < part.first + lives_of part → IsPlayedLife held role part seat made past (idle seat)

-- the life was played so, by the calls `since` after those `before`, and the next turn of its actor gives no call
pub record IsIdleLife (held : List ℕ) (role : Role) (part : Part) (seat made : ℕ) (past : List Entry) (before since : List Call) : Type 0 where
  pub are : AreOfLife held part seat made past (since ++ before)
  pub state : ActorState
  pub played : IsPlayedSince role state before since
  pub turned : ActorState
  pub turns : Turns state turned nexts.Idle (own seat past)

-- the life was played by its actor, whenever the actor was woken
pub record WasPlayed (held : List ℕ) (role : Role) (part : Part) (seat made : ℕ) (past : List Entry) : Type 0 where
  pub before : List Call
  pub life : IsPlayedLife held role part seat made past before
