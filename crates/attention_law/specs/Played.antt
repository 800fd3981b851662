-- How a life of an actor is played: each call is one that its turn gave, and was told, or was lost before or after its
-- effect; and where a turn gave none the actor is woken. Each step is what the calls of an actor promise.
-- A choice of this project.
use Rattle.std.specs.Prelude.{◌≡◌, false, List, [], ◌∷◌, Some, None}
use Rattle.kube_objects.specs.Keys.{AreRows}
use Rattle.call_types.specs.declared.entry.Entry.{Entry}
use Rattle.call_types.specs.declared.request.Request.{Request}
use Rattle.call_types.specs.declared.reply.Reply.{Reply}
use Rattle.informer_cache.specs.Cache.{IsTold}
use Rattle.informer_cache.specs.All.{all_objects}
use Rattle.worker_core.specs.declared.role.Role.{Role}
use Rattle.worker_core.specs.declared.turn.Next.{Next}
use Rattle.worker_core.specs.declared.turn.Next.TheVariants as nexts
use Rattle.worker_core.specs.declared.turn.Outcome.{Outcome}
use Rattle.worker_core.specs.declared.turn.Outcome.TheVariants as outcomes
use Rattle.worker_core.specs.Absorbs.{absorbed, woken}
use Rattle.worker_core.specs.Roles.{IsBuiltKind}
use Rattle.worker_core.specs.Stands.{IsNew, StandsFor}
use Rattle.worker_core.specs.States.{ActorState}
use Rattle.worker_core.specs.Turns.{IsTurn}
use Rattle.attention_law.specs.Diligence.{Call, IsDiligent, entries}

-- a turn of an actor whose caches have their rows in order, and that stands for the same entries after it
pub record Turns (s turned : ActorState) (answer : Next) (mine : List Entry) : Type 0 where
  pub order : AreRows (all_objects s.caches)
  pub turn : IsTurn s turned answer
  pub stands : StandsFor turned mine

-- a turn that gave a call, and what came of it
pub record PlaysCall (s new : ActorState) (request : Request) (outcome : Outcome) (mine : List Entry) : Type 0 where
  pub turned : ActorState
  pub turns : Turns s turned (nexts.Call request) mine
  pub takes : new ≡ absorbed turned new.caches request outcome

-- the states in which an actor can be after the calls of one life
pub data IsPlayed (role : Role) : ActorState → List Call → Type 0 where
  Begins : {s : ActorState} {calls : List Call} → calls ≡ [] → IsNew role s → StandsFor s [] → IsPlayed role s calls
  Told : {new : ActorState} {calls : List Call} (s : ActorState) (before : List Call) (e : Entry) (request : Request) (reply : Reply)
      → IsPlayed role s before → calls ≡ Some e ∷ before → IsTold e request reply
      → PlaysCall s new request (outcomes.Told reply) (entries before) → StandsFor new (entries calls) → IsPlayed role new calls
  LostBefore : {new : ActorState} {calls : List Call} (s : ActorState) (before : List Call) (request : Request) → IsPlayed role s before → calls ≡ None ∷ before
      → PlaysCall s new request outcomes.Lost (entries before) → StandsFor new (entries calls) → IsPlayed role new calls
  LostAfter : {new : ActorState} {calls : List Call} (s : ActorState) (before : List Call) (e : Entry) (request : Request) → IsPlayed role s before
      → calls ≡ Some e ∷ before → e.told ≡ false → e.request ≡ request
      → PlaysCall s new request outcomes.Lost (entries before) → StandsFor new (entries calls) → IsPlayed role new calls
  Wakes : {new : ActorState} {calls : List Call} (s turned : ActorState) → IsPlayed role s calls → Turns s turned nexts.Idle (entries calls)
      → new ≡ woken turned → StandsFor new (entries calls) → IsPlayed role new calls

-- a life that is played so is diligent, of each kind of actor that is built
abbrev pub PlayedIsDiligent : Type 0
PlayedIsDiligent = (role : Role) (s : ActorState) (calls : List Call) → IsBuiltKind role.kind → IsPlayed role s calls → IsDiligent role calls
