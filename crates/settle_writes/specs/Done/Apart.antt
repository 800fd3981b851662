-- Which writes of an actor last when they are done, and which are counted apart: the node of a claim, and phase Failed.
-- A choice of this project.
use Rattle.std.specs.Prelude.{ℕ, ◌≡◌, Bool, true, false, List, Some}
use Rattle.kube_objects.specs.declared.objects.Object.{Object}
use Rattle.kube_objects.specs.declared.objects.Object.TheVariants.{Claim}
use Rattle.call_types.specs.declared.entry.Entry.{Entry}
use Rattle.call_types.specs.declared.request.Request.{Request}
use Rattle.call_types.specs.declared.request.Request.TheVariants.{Update, UpdateStatus}
use Rattle.call_types.specs.declared.request.SeatKind.{SeatKind}
use Rattle.call_types.specs.declared.request.SeatKind.TheVariants as seats
use Rattle.call_types.specs.declared.setup.Setup.{Setup}
use Rattle.binder_model.specs.Imports.{ImportsPass}
use Rattle.binder_model.specs.Told.{own}
use Rattle.binder_model.specs.World.{IsHistory, effect, world}
use Rattle.safety_law.specs.Invariant.Moves.{written_by}
use Rattle.worker_core.specs.Stands.{StandsFor}
use Rattle.worker_core.specs.States.{ActorState, asked}
use Rattle.settle_writes.specs.Writes.Lasting.{Lasts}

-- the scheduler may write a node over the same one, and ops phase Failed over Failed. That the node of a claim is taken back lasts; it
-- is counted with the nodes that were written
abbrev pub is_apart : SeatKind → Request → Bool
is_apart seats.Scheduler (Update (Claim c) given) = true
is_apart seats.Ops (Update (Claim c) given) = true
is_apart seats.Ops (UpdateStatus key status given) = true
is_apart kind request = false

-- whatever an actor that stands for its entries asks: where it writes, and is none of these, it lasts
abbrev pub OtherWritesLast : Type 0
OtherWritesLast =
    (setup : Setup) (seat : ℕ) (x : ActorState) (request : Request) (h : List Entry) (o : Object) → ImportsPass setup.imports → IsHistory setup h
    → StandsFor x (own seat h) → asked x ≡ Some request → is_apart x.role.kind request ≡ false
    → written_by (effect setup (world setup h) x.role.kind request) ≡ Some o → Lasts setup (world setup h) x.role.kind request
