-- How many writes a scheduler does in a slot: for each pod without a node once.
-- A choice of this project.
use Rattle.std.specs.Prelude.{ℕ, ◌≡◌, ◌≤◌, ◌+◌, Bool, false, List, None, length, if◌then◌else◌}
use Rattle.kube_objects.specs.declared.objects.Object.{Object}
use Rattle.kube_objects.specs.declared.objects.Object.TheVariants.{Pod}
use Rattle.kube_objects.specs.Bindings.{is_scheduled}
use Rattle.call_types.specs.declared.entry.Entry.{Entry}
use Rattle.call_types.specs.declared.request.SeatKind.TheVariants as seats
use Rattle.call_types.specs.declared.setup.Setup.{Setup}
use Rattle.binder_model.specs.Promises.{IsRunOf}
use Rattle.binder_model.specs.World.{World, world}
use Rattle.settle_measure.specs.Left.Measure.{total}
use Rattle.worker_core.specs.Absorbs.{woken}
use Rattle.worker_core.specs.States.{ActorState}
use Rattle.actor_rounds.specs.Rounds.{Lets, Runs}

-- a pod that no node runs is bound to one, or for each of its claims a volume or a node is written
abbrev pub pod_writes : Object → ℕ
pod_writes (Pod p) = if is_scheduled p then 0 else 1 + length p.claims
pod_writes o = 0

-- summed over all rows
abbrev pub pods_writes : World → ℕ
pods_writes w = total pod_writes w.store.rows

-- the version rises by one at each write. A scheduler that was told that its epoch is stale makes no call
abbrev pub SchedulersWriteLittle : Type 0
SchedulersWriteLittle =
    (setup : Setup) (lets : Lets) (seat : ℕ) (old after : ActorState) (h past : List Entry) (b left : ℕ) (idle : Bool)
    → old.role.kind ≡ seats.Scheduler → IsRunOf setup past → (old.memory.stale ≡ false → old.under ≡ None) → pods_writes (world setup h) ≤ 512
    → Runs lets seat after past left idle (woken old) h b → (world setup past).store.version ≤ (world setup h).store.version + pods_writes (world setup h)
