-- How the life of an actor goes on, call by call, as the actor is played; and what is known of its lives so far.
-- A choice of this project.
use Rattle.std.specs.Prelude.{ℕ, ◌≡◌, ◌≤◌, ◌<◌, ◌⊎◌, ◌+◌, ◌&&◌, not, Bool, true, false, List, [], ◌∷◌, ◌++◌, is_some}
use Rattle.call_types.specs.declared.entry.Entry.{Entry}
use Rattle.call_types.specs.declared.request.Request.{Request}
use Rattle.binder_model.specs.Told.{own}
use Rattle.attention_law.specs.Diligence.{Call, entries}
use Rattle.attention_law.specs.Played.{Turns}
use Rattle.attention_law.specs.Resting.{IsPlayedSince}
use Rattle.worker_core.specs.declared.role.Role.{Role}
use Rattle.worker_core.specs.declared.turn.Next.TheVariants as nexts
use Rattle.worker_core.specs.Roles.{IsBuiltKind}
use Rattle.worker_core.specs.States.{ActorState}
use Rattle.actor_turns.specs.declared.loss.Fate.{Fate}
use Rattle.actor_turns.specs.declared.part.Part.{Part}
use Rattle.actor_turns.specs.declared.player.Player.{Player}
use Rattle.actor_turns.specs.Calls.{AreOfLife, and_idle, leaves_entry, seat_at}
use Rattle.actor_turns.specs.Lives.{IsIdleLife, IsPlayedLife}
use Rattle.actor_turns.specs.Parts.{lives_of}

-- ---- a call

-- the calls are one more, with this fate or held back, and the actor was played on
pub record WentOn (role : Role) (held : Bool) (fate : Fate) (new : ActorState) (earlier since : List Call) (mine : List Entry) : Type 0 where
  pub call : Call
  pub left : is_some call ≡ (not held && leaves_entry fate)
  pub own : entries (call ∷ (since ++ earlier)) ≡ mine
  pub played : IsPlayedSince role new earlier (call ∷ since)

-- the call that the turn of a played actor gave has this fate, or was held back
abbrev pub GoesOn : ℕ → Bool → Fate → Request → List Entry → List Entry → ActorState → ActorState → Type 0
GoesOn seat held fate request before after old new = (role : Role) (s : ActorState) (earlier since : List Call) → IsPlayedSince role s earlier since
    → Turns s old (nexts.Call request) (entries (since ++ earlier)) → entries (since ++ earlier) ≡ own seat before
    → WentOn role held fate new earlier since (own seat after)

-- ---- the lives of a part

-- the life at the seat, so far, of an actor of this role that is in this state and was last idle after the calls `earlier`
pub record Living (held : List ℕ) (role : Role) (part : Part) (seat made : ℕ) (past : List Entry) (earlier : List Call) (s : ActorState) : Type 0 where
  pub since : List Call
  pub are : AreOfLife held part seat made past (since ++ earlier)
  pub played : IsPlayedSince role s earlier since

-- the life of the player, and those before it; later ones have made no calls
pub record Lives (role : Role) (p : Player) (past : List Entry) (idle : ℕ → List Call) : Type 0 where
  pub built : IsBuiltKind role.kind
  pub began : seat_at p.part p.made ≤ p.seat
  pub living : Living p.held role p.part p.seat p.made past (idle p.seat) p.actor
  pub ended : (seat : ℕ) → p.part.first ≤ seat → seat < p.seat → IsPlayedLife p.held role p.part seat p.made past (idle seat)
  pub unborn : (seat : ℕ) → p.seat < seat → seat < p.part.first + lives_of p.part → idle seat ≡ []

-- the turn of the player has given no call
pub record LivesIdle (role : Role) (p : Player) (past : List Entry) (idle : ℕ → List Call) : Type 0 where
  pub before : ActorState
  pub lives : Lives role (record p { actor = before }) past idle
  pub turns : Turns before p.actor nexts.Idle (own p.seat past)

-- after a step, in which a call was made or none
abbrev pub HasLived : Role → List Entry → (ℕ → List Call) → Player → Bool → Type 0
HasLived role past idle p true = Lives role p past idle
HasLived role past idle p false = LivesIdle role p past idle

-- ---- a turn

-- the lives up to that of the player were played so
abbrev pub PlayedSoFar : Role → Player → List Entry → (ℕ → List Call) → Type 0
PlayedSoFar role p past idle = (seat : ℕ) → p.part.first ≤ seat → seat ≤ p.seat → IsPlayedLife p.held role p.part seat p.made past (idle seat)

-- a turn has made all its calls, and the lives go on
pub record LivedAll (role : Role) (calls : ℕ) (past : List Entry) (idle : ℕ → List Call) (old new : Player) : Type 0 where
  pub made : new.made ≡ old.made + calls
  pub played : PlayedSoFar role new past idle
  pub lives : Lives role new past idle

-- the player's life was idle, and the actor was woken
pub record LivedFewer (role : Role) (calls : ℕ) (past : List Entry) (idle : ℕ → List Call) (old new : Player) : Type 0 where
  pub few : new.made < old.made + calls
  pub played : PlayedSoFar role new past idle
  pub since : List Call
  pub idle_is : IsIdleLife new.held role new.part new.seat new.made past (idle new.seat) since
  pub lives : Lives role new past (and_idle new.seat (since ++ idle new.seat) idle)

-- after so many calls of a turn, or fewer
abbrev pub HasLivedOn : ℕ → List Entry → List Entry → Player → Player → Type 0
HasLivedOn calls before after old new = (role : Role) (idle : ℕ → List Call) → Lives role old before idle → LivedAll role calls after idle old new ⊎ LivedFewer role calls after idle old new
