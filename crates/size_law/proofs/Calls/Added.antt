-- A history of actors, and one call more that an actor gave.
use Rattle.std.proofs.Common.{◌≡◌, List, ◌∷◌, Some, sym, subst}
use Rattle.call_types.specs.declared.entry.Entry.{Entry}
use Rattle.call_types.specs.declared.request.SeatKind.{SeatKind}
use Rattle.call_types.specs.declared.request.SeatKind.TheVariants as seats
use Rattle.binder_model.specs.Told.{own}
use Rattle.worker_core.specs.Roles.{IsBuiltKind}
use Rattle.worker_core.specs.Stands.{StandsFor}
use Rattle.worker_core.specs.States.{ActorState, asked}
use Rattle.size_law.specs.Calls.Calls.{AreByActors, IsByActor}

pub by_actor : (given : ActorState) (h past : List Entry) (e : Entry) → past ≡ e ∷ h → IsBuiltKind given.role.kind → e.kind ≡ given.role.kind
    → StandsFor given (own e.seat h) → asked given ≡ Some e.request → AreByActors h → AreByActors past
by_actor given h past e is built kind stands asks before = subst AreByActors (sym is) (before, by e.kind (sym kind) (subst IsBuiltKind (sym kind) built))
  where
    by : (k : SeatKind) → given.role.kind ≡ k → IsBuiltKind k → IsByActor k (own e.seat h) e.request
    by seats.Binder same built = record { actor = given; of_kind = same; stands = stands; asks = asks }
    by seats.ClaimProtect same built = tt
    by seats.VolumeProtect same built = tt
    by seats.User same built = absurd built
    by seats.Ops same built = tt
    by seats.Scheduler same built = record { actor = given; of_kind = same; stands = stands; asks = asks }
    by seats.Agent same built = tt
