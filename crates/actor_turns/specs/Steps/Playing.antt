-- What stands for how far an actor has come: the actor for its seat, and its pass for what it was told since its last idle
-- turn. A choice of this project.
use Rattle.std.specs.Prelude.{ℕ, ◌≡◌, ◌≢◌, ◌≤◌, ◌<◌, ◌⊎◌, ◌+◌, ◌^◌, Bool, true, false, List, [], ◌∷◌, ◌++◌, Some, length, slice_get}
use Rattle.call_types.specs.declared.entry.Entry.{Entry}
use Rattle.binder_model.specs.Told.{own}
use Rattle.worker_core.specs.declared.role.Role.{Role}
use Rattle.worker_core.specs.Roles.{IsBuiltKind}
use Rattle.worker_core.specs.Stands.{IsNew, PassStands, StandsFor}
use Rattle.worker_core.specs.States.{ActorState}
use Rattle.actor_turns.specs.declared.part.Part.{Part}
use Rattle.actor_turns.specs.declared.player.Player.{Player}
use Rattle.actor_rounds.specs.Answers.Answered.{Lets}
use Rattle.actor_turns.specs.Calls.{AreCalls, IsCall, MayEnd, and_idle, is_held, seat_at}
use Rattle.actor_turns.specs.Parts.{lives_of}

-- the actor stands for its entries, and its pass for those after the earlier ones
pub record StandsSince (s : ActorState) (earlier mine : List Entry) : Type 0 where
  pub stands : StandsFor s mine
  pub recent : List Entry
  pub are : mine ≡ recent ++ earlier
  pub pass : PassStands s.role s.pass recent

-- the actor of a part that turns name, at the seat of its life; later lives have no entries yet
pub record Plays (p : Player) (past : List Entry) (idle : ℕ → List Entry) : Type 0 where
  pub kind : p.actor.role.kind ≡ p.part.kind
  pub first : p.part.first ≤ p.seat
  pub reached : p.seat ≤ seat_at p.part (p.made + 1)
  pub since : StandsSince p.actor (idle p.seat) (own p.seat past)
  pub ahead : (n : ℕ) → p.made < n → is_held p.held n ≡ false
  pub unborn : (seat : ℕ) → p.seat < seat → seat < p.part.first + lives_of p.part → (own seat past ≡ []) × (idle seat ≡ [])

-- the numbers of the actor are small
pub record IsSmall (p : Player) : Type 0 where
  pub seats : p.part.first + length p.part.restarts < 2 ^ 32
  pub made : p.made < 2 ^ 32

-- one call was made at the seat
pub record HasCalled (seat : ℕ) (call_is : List Entry → List Entry → Type 0) (before after : List Entry) (old new : ActorState) : Type 0 where
  pub call : call_is before after
  pub role : new.role ≡ old.role
  pub since : (earlier : List Entry) → StandsSince old earlier (own seat before) → StandsSince new earlier (own seat after)
  pub others : (other : ℕ) → other ≢ seat → own other after ≡ own other before

-- ---- a step

-- the seats of the lives of a part
abbrev pub IsLife : Part → ℕ → Type 0
IsLife part seat = (part.first ≤ seat) × (seat < part.first + lives_of part)

-- what answers the calls answers these seats, and no others in their order alone
abbrev pub ServesLives : (ℕ → Type 0) → Part → Type 0
ServesLives Serves part = (seat : ℕ) → IsLife part seat → Serves seat

-- what is said of seats is said of the seats of the lives alone
abbrev pub OrdersLives : (ℕ → Type 0) → Part → Type 0
OrdersLives Orders part = (seat : ℕ) → Orders seat → IsLife part seat

-- the same calls up to this number were held back
abbrev pub AgreeTo : ℕ → List ℕ → List ℕ → Type 0
AgreeTo made held others = (n : ℕ) → n ≤ made → is_held held n ≡ is_held others n

-- the numbers of calls that were held back, and perhaps this one
abbrev pub and_held : Bool → ℕ → List ℕ → List ℕ
and_held true n held = held ++ n ∷ []
and_held false n held = held

-- no other seat's entries have changed
abbrev pub KeepsOthers : Part → List Entry → List Entry → Type 0
KeepsOthers part before after = (seat : ℕ) → (IsLife part seat → ⊥) → own seat after ≡ own seat before

-- the player plays on, after some calls before which its lives were idle
pub record SomePlays (p : Player) (past : List Entry) : Type 0 where
  pub idle : ℕ → List Entry
  pub plays : Plays p past idle

-- a step made one call
pub record HasMade (lets : Lets) (idle : ℕ → List Entry) (before after : List Entry) (old new : Player) : Type 0 where
  pub made : new.made ≡ old.made + 1
  pub call : IsCall lets new.held old.part (old.made + 1) before after
  pub agree : AgreeTo old.made new.held old.held
  pub plays : Plays new after idle
  pub others : KeepsOthers old.part before after

-- a step made none, and left all as it was
pub record IsStill (idle : ℕ → List Entry) (before after : List Entry) (old new : Player) : Type 0 where
  pub made : new.made ≡ old.made
  pub held : new.held ≡ old.held
  pub past : after ≡ before
  pub seat : new.seat ≡ seat_at old.part (old.made + 1)
  pub plays : Plays new after idle
  pub ends : MayEnd old.part.kind (idle new.seat) (own new.seat after)

-- what a step did, by whether it made a call
abbrev pub HasStepped : Lets → (ℕ → List Entry) → List Entry → List Entry → Player → Player → Bool → Type 0
HasStepped lets idle before after old new true = HasMade lets idle before after old new
HasStepped lets idle before after old new false = IsStill idle before after old new

-- ---- a turn

-- a turn made all its calls
pub record HasMadeAll (lets : Lets) (calls : ℕ) (idle : ℕ → List Entry) (before after : List Entry) (old new : Player) : Type 0 where
  pub made : new.made ≡ old.made + calls
  pub calls_are : AreCalls lets new.held old.part after (old.made + 1) calls before
  pub plays : Plays new after idle

-- a turn made fewer calls, and the life that would make the next one is idle
pub record HasMadeFewer (lets : Lets) (calls : ℕ) (idle : ℕ → List Entry) (before after : List Entry) (old new : Player) : Type 0 where
  pub count : ℕ
  pub few : count < calls
  pub made : new.made ≡ old.made + count
  pub calls_are : AreCalls lets new.held old.part after (old.made + 1) count before
  pub life : new.seat ≡ seat_at old.part (old.made + count + 1)
  pub ends : MayEnd old.part.kind (idle new.seat) (own new.seat after)
  pub plays : Plays new after (and_idle new.seat (own new.seat after) idle)

-- what a turn did: all its calls or fewer, with the entries of others as they were
pub record HasTurned (lets : Lets) (calls : ℕ) (idle : ℕ → List Entry) (before after : List Entry) (old new : Player) : Type 0 where
  pub others : KeepsOthers old.part before after
  pub agree : AgreeTo old.made new.held old.held
  pub made : HasMadeAll lets calls idle before after old new ⊎ HasMadeFewer lets calls idle before after old new

-- so many calls of a turn have been made
pub record HasGone (lets : Lets) (made : ℕ) (idle : ℕ → List Entry) (before after : List Entry) (old new : Player) : Type 0 where
  pub others : KeepsOthers old.part before after
  pub agree : AgreeTo old.made new.held old.held
  pub calls_are : (held : List ℕ) → AgreeTo (old.made + made) held new.held → (end : List Entry) (rest : ℕ)
      → AreCalls lets held old.part end (old.made + made + 1) rest after → AreCalls lets held old.part end (old.made + 1) (made + rest) before
  pub plays : Plays new after idle

-- Q holds of each player
abbrev pub EachPlayer : (Player → Type 0) → List Player → Type 0
EachPlayer Q players = (place : ℕ) (x : Player) → slice_get players place ≡ Some x → Q x

-- before its first call, of an actor of this role
pub record IsNewPlayer (role : Role) (x : Player) : Type 0 where
  pub seat : x.seat ≡ x.part.first
  pub made : x.made ≡ 0
  pub held : x.held ≡ []
  pub kind : role.kind ≡ x.part.kind
  pub built : IsBuiltKind role.kind
  pub new : IsNew role x.actor
  pub stands : StandsFor x.actor []
