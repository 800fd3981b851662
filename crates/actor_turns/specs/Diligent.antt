-- What follows of a life that its actor played: it is diligent, each of its calls was needed, and where it is idle nothing is left.
-- A choice of this project, after the work queue and the resync of a controller in client-go.
use Rattle.std.specs.Prelude.{ℕ, ◌≡◌, List, ◌++◌}
use Rattle.call_types.specs.declared.entry.Entry.{Entry}
use Rattle.binder_model.specs.Told.{own}
use Rattle.attention_law.specs.Diligence.{Call, IsDiligent, entries}
use Rattle.attention_law.specs.Resting.{AreNeeded, IsDone, IsSilentOnceStale, WasToldStale}
use Rattle.worker_core.specs.declared.role.Role.{Role}
use Rattle.worker_core.specs.Roles.{IsBuiltKind}
use Rattle.worker_core.specs.Stands.{StandsFor}
use Rattle.worker_core.specs.States.{ActorState}
use Rattle.actor_turns.specs.declared.part.Part.{Part}
use Rattle.actor_turns.specs.Calls.{AreOfLife, MayEnd}
use Rattle.actor_turns.specs.Lives.{IsIdleLife, IsPlayedLife}

-- the calls of the life are diligent, where those of these numbers were held back
pub record IsDiligentLife (held : List ℕ) (role : Role) (part : Part) (seat made : ℕ) (past : List Entry) : Type 0 where
  pub calls : List Call
  pub are : AreOfLife held part seat made past calls
  pub diligent : IsDiligent role calls

-- the life has made some calls since those `before`, after which a turn last gave it fewer, and each of them was needed. An
-- agent that was told that its epoch is stale has asked nothing after that
pub record IsNeededLife (held : List ℕ) (role : Role) (part : Part) (seat made : ℕ) (past : List Entry) (before : List Call) : Type 0 where
  pub since : List Call
  pub are : AreOfLife held part seat made past (since ++ before)
  pub needed : AreNeeded role.kind since
  pub silent : IsSilentOnceStale role.kind (since ++ before)

-- some actor of the role stands for the entries
pub record HasStood (role : Role) (mine : List Entry) : Type 0 where
  pub actor : ActorState
  pub of : actor.role ≡ role
  pub stands : StandsFor actor mine

-- ---- the laws

-- a life that was played is diligent, of each kind of actor that is built
abbrev pub PlayedLivesAreDiligent : Type 0
PlayedLivesAreDiligent =
    (held : List ℕ) (role : Role) (part : Part) (seat made : ℕ) (past : List Entry) (before : List Call) → IsBuiltKind role.kind
    → IsPlayedLife held role part seat made past before → IsDiligentLife held role part seat made past

-- each of its calls was needed, and a stale agent is silent
abbrev pub PlayedLivesAreNeeded : Type 0
PlayedLivesAreNeeded =
    (held : List ℕ) (role : Role) (part : Part) (seat made : ℕ) (past : List Entry) (before : List Call)
    → IsPlayedLife held role part seat made past before → IsNeededLife held role part seat made past before

-- an actor stands for its entries
abbrev pub PlayedLivesStand : Type 0
PlayedLivesStand =
    (held : List ℕ) (role : Role) (part : Part) (seat made : ℕ) (past : List Entry) (before : List Call)
    → IsPlayedLife held role part seat made past before → HasStood role (own seat past)

-- where it is idle its calls since it was last woken leave nothing to be called for, unless an agent was told StaleEpoch
abbrev pub IdleLivesAreDone : Type 0
IdleLivesAreDone =
    (held : List ℕ) (role : Role) (part : Part) (seat made : ℕ) (past : List Entry) (before since : List Call) → IsBuiltKind role.kind
    → IsIdleLife held role part seat made past before since → (WasToldStale role.kind (own seat past) → ⊥) → IsDone role before since

-- and it has had no news since, or is an agent's that was told StaleEpoch
abbrev pub IdleLivesMayEnd : Type 0
IdleLivesMayEnd =
    (held : List ℕ) (role : Role) (part : Part) (seat made : ℕ) (past : List Entry) (before since : List Call) → IsBuiltKind role.kind
    → IsIdleLife held role part seat made past before since → MayEnd role.kind (entries before) (own seat past)
