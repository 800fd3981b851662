-- The provisioner pays.
-- A choice of this project.
use Rattle.std.specs.Prelude.{ℕ, ◌≡◌, List}
use Rattle.call_types.specs.declared.entry.Entry.{Entry}
use Rattle.call_types.specs.declared.request.SeatKind.TheVariants as seats
use Rattle.call_types.specs.declared.setup.Setup.{Setup}
use Rattle.informer_cache.specs.All.{all_objects}
use Rattle.reclaim_ops.specs.declared.provision.ProvisionOp.{ProvisionOp}
use Rattle.worker_core.specs.declared.role.Role.{Role}
use Rattle.worker_core.specs.declared.task.Task.TheVariants as tasks
use Rattle.worker_core.specs.declared.task.Under.{Under}
use Rattle.worker_core.specs.States.{ActorState}
use Rattle.worker_core.specs.Tasks.{GivesCall}
use Rattle.settle_slot.specs.Slot.Slots.{IsDecisionPoint}
use Rattle.settle_pays.specs.Pays.Pays.{WillPay}

-- what the provisioner and reclaimer begins for a claim, where it sees the store as it is, will pay. For a volume this is not said
abbrev pub ProvisioningPays : Type 0
ProvisioningPays =
    (setup : Setup) (seat : ℕ) (role : Role) → role.kind ≡ seats.Ops → (s : ActorState) (h : List Entry) (u : Under) (op : ProvisionOp)
    → IsDecisionPoint setup seat role h s h → GivesCall s.role s.memory (all_objects s.caches) u → u.task ≡ tasks.Provision op
    → WillPay setup seat role.kind h u
