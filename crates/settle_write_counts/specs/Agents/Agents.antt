-- How many writes a node agent does in a slot, and all agents of a round, by the pods that stand.
-- A choice of this project.
use Rattle.std.specs.Prelude.{ℕ, ◌≡◌, ◌≤◌, ◌+◌, Bool, List}
use Rattle.call_types.specs.declared.entry.Entry.{Entry}
use Rattle.call_types.specs.declared.request.SeatKind.TheVariants as seats
use Rattle.call_types.specs.declared.setup.Setup.{Setup}
use Rattle.binder_model.specs.Promises.{IsRunOf}
use Rattle.binder_model.specs.World.{world}
use Rattle.settle_measure.specs.Left.Measure.{pods_in}
use Rattle.worker_core.specs.Absorbs.{woken}
use Rattle.worker_core.specs.Roles.{IsBuiltKind}
use Rattle.worker_core.specs.States.{ActorState}
use Rattle.actor_rounds.specs.Rounds.{Lets, Runs}
use Rattle.settle_calls.specs.Slots.Slots.{writes_since}

-- a pod leaves with each write of an agent
abbrev pub AgentsWriteLittle : Type 0
AgentsWriteLittle =
    (setup : Setup) (lets : Lets) (seat : ℕ) (old after : ActorState) (h past : List Entry) (b left : ℕ) (idle : Bool) → old.role.kind ≡ seats.Agent → IsRunOf setup past
    → Runs lets seat after past left idle (woken old) h b → writes_since setup h past + pods_in (world setup past).store.rows ≤ pods_in (world setup h).store.rows

-- no actor makes one
abbrev pub SlotsAddNoPod : Type 0
SlotsAddNoPod =
    (setup : Setup) (lets : Lets) (seat : ℕ) (old after : ActorState) (h past : List Entry) (b left : ℕ) (idle : Bool) → IsBuiltKind old.role.kind → IsRunOf setup past
    → Runs lets seat after past left idle (woken old) h b → pods_in (world setup past).store.rows ≤ pods_in (world setup h).store.rows
