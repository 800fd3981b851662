-- What a binder or a scheduler asks gives a volume only to a claim that it suits; so what binders complete gets enough.
-- A choice of this project.
use Rattle.std.specs.Prelude.{◌≡◌, List, [], ◌∷◌, Some, ⊤}
use Rattle.call_types.specs.declared.entry.Entry.{Entry}
use Rattle.call_types.specs.declared.setup.Setup.{Setup}
use Rattle.call_types.specs.declared.request.Request.{Request}
use Rattle.call_types.specs.declared.request.SeatKind.{SeatKind}
use Rattle.call_types.specs.declared.request.SeatKind.TheVariants as seats
use Rattle.binder_model.specs.Promises.{IsRunOf}
use Rattle.binder_model.specs.Told.{own}
use Rattle.worker_core.specs.declared.turn.Next.TheVariants.{Call}
use Rattle.worker_core.specs.Stands.{StandsFor}
use Rattle.worker_core.specs.States.{ActorState, asked}
use Rattle.worker_core.specs.Turns.{IsTurn}
use Rattle.size_law.specs.Law.Fitting.{GivesFitting, AreFitting}
use Rattle.size_law.specs.Law.Enough.{GetEnoughThroughout}

-- each call that a turn of an actor gives, where the actor then stands for these entries
abbrev pub CallsGiveFitting : Type 0
CallsGiveFitting =
    (s given : ActorState) (mine : List Entry) (request : Request)
    → StandsFor given mine → IsTurn s given (Call request) → GivesFitting s.role.kind mine request

-- an actor of this kind that stands for these entries has given the call
pub record IsAsked (kind : SeatKind) (mine : List Entry) (request : Request) : Type 0 where
  pub actor : ActorState
  pub of_kind : actor.role.kind ≡ kind
  pub stands : StandsFor actor mine
  pub asks : asked actor ≡ Some request

-- each such call
abbrev pub AskedGiveFitting : Type 0
AskedGiveFitting = (kind : SeatKind) (mine : List Entry) (request : Request) → IsAsked kind mine request → GivesFitting kind mine request

-- a request of a seat with these earlier entries: a binder's or a scheduler's was given by an actor. No other kind gives a volume
-- that stands
abbrev pub IsByActor : SeatKind → List Entry → Request → Type 0
IsByActor seats.Binder mine request = IsAsked seats.Binder mine request
IsByActor seats.Scheduler mine request = IsAsked seats.Scheduler mine request
IsByActor kind mine request = ⊤

-- each entry is such a request, after its own seat's earlier ones
abbrev pub AreByActors : List Entry → Type 0
AreByActors [] = ⊤
AreByActors (e ∷ past) = AreByActors past × IsByActor e.kind (own e.seat past) e.request

-- such a history gives fittingly throughout
abbrev pub ActorsAreFitting : Type 0
ActorsAreFitting = (past : List Entry) → AreByActors past → AreFitting past

-- in a run whose binders and schedulers are actors each claim that counts gets enough, at every point of it
abbrev pub ActorsGiveEnough : Type 0
ActorsGiveEnough = (setup : Setup) (past : List Entry) → IsRunOf setup past → AreByActors past → GetEnoughThroughout setup past
