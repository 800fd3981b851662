-- Where Mounts alone are held back, each call of an actor that is no agent reaches the world; where nothing is, no Mount is.
use Rattle.std.proofs.Common.{◌≡◌, ◌≢◌, ℕ, List, true, false, refl}
use Rattle.call_types.specs.declared.entry.Entry.{Entry}
use Rattle.call_types.specs.declared.request.Request.{Request}
use Rattle.call_types.specs.declared.request.Request.TheVariants as requests
use Rattle.call_types.specs.declared.request.SeatKind.{SeatKind}
use Rattle.call_types.specs.declared.request.SeatKind.TheVariants as seats
use Rattle.binder_model.specs.Licence.{Licensed}
use Rattle.binder_model.specs.Told.{own}
use Rattle.worker_core.specs.declared.turn.Next.TheVariants.{Call}
use Rattle.worker_core.specs.Roles.{IsBuiltKind}
use Rattle.worker_core.specs.States.{ActorState}
use Rattle.worker_core.specs.Turns.{IsTurn}
use Rattle.worker_core.proofs.Answered.{answer_licensed}
use Rattle.actor_rounds.specs.Rounds.{IsReady, Lets, all_pass}
use Rattle.settle_slot.specs.Slot.Gates.{HoldsMountsAlone, is_mount}

-- a gate that holds back nothing holds back no other request
pub all_holds : HoldsMountsAlone all_pass
all_holds h request other = refl

-- only an agent may call for a Mount
others_mount_none : (kind : SeatKind) (mine : List Entry) (request : Request) → IsBuiltKind kind → kind ≢ seats.Agent → Licensed kind mine request → is_mount request ≡ false
others_mount_none seats.Binder mine (requests.Mount node epoch pod claims) built other may = absurd may.1
others_mount_none seats.Ops mine (requests.Mount node epoch pod claims) built other may = absurd may.1
others_mount_none seats.Scheduler mine (requests.Mount node epoch pod claims) built other may = absurd may.1
others_mount_none seats.ClaimProtect mine (requests.Mount node epoch pod claims) built other may = absurd may.1
others_mount_none seats.VolumeProtect mine (requests.Mount node epoch pod claims) built other may = absurd may.1
others_mount_none seats.Agent mine (requests.Mount node epoch pod claims) built other may = absurd (other refl)
others_mount_none seats.User mine (requests.Mount node epoch pod claims) built other may = absurd built
others_mount_none _ mine _ built other may = refl

-- so what another gives reaches the world
pub others_pass : (lets : Lets) (seat : ℕ) (s given : ActorState) (request : Request) (h : List Entry) → HoldsMountsAlone lets
    → IsBuiltKind s.role.kind → s.role.kind ≢ seats.Agent → IsReady seat s h → IsTurn s given (Call request) → lets h request ≡ true
others_pass lets seat s given request h holds built other ready turn =
    holds h request (others_mount_none s.role.kind (own seat h) request built other (answer_licensed s given (Call request) (own seat h) built ready.rows ready.stands.told turn))
