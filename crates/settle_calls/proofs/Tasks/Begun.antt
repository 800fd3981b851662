-- What a decision begins makes no more calls than the object that stands there may cost, and a key that is queued in place of another costs no more.
use Rattle.std.proofs.Common.{◌≡◌, ℕ, ◌+◌, ◌*◌, ◌-◌, ◌≤◌, List, [], length, Bool, true, false, true≢false, Option, Some, None, refl, sym, ap, subst, arith, if◌then◌else◌}
use Rattle.std.specs.Prelude.{◌&&◌, bytes_eq, slice_get}
use Rattle.kube_objects.specs.declared.key.Key.{Key}
use Rattle.kube_parts.specs.declared.uid.Uid.{Uid}
use Rattle.kube_objects.specs.declared.objects.Object.{Object}
use Rattle.kube_objects.specs.declared.objects.Object.TheVariants.{Class, Node, Volume, Claim, Pod}
use Rattle.kube_objects.specs.declared.objects.Pod.{Pod as PodData}
use Rattle.kube_objects.specs.Bindings.{is_deleting, is_scheduled}
use Rattle.kube_objects.specs.Keys.{key_of, kind_index, kind_of, row_at}
use Rattle.kube_objects.proofs.KeyOrder.{row_at_key}
use Rattle.call_types.specs.declared.reply.MountRow.{MountRow}
use Rattle.call_types.specs.declared.request.SeatKind.{SeatKind}
use Rattle.call_types.specs.declared.request.SeatKind.TheVariants as seats
use Rattle.binder_model.specs.AgentLicence.{has_row}
use Rattle.binder_model.specs.Reading.{follows}
use Rattle.binder_machines.specs.declared.decide.FirstMachine.{FirstMachine as BinderFirst}
use Rattle.binder_machines.specs.declared.decide.FirstMachine.TheVariants as binder_firsts
use Rattle.binder_machines.specs.declared.machine.Machine.{Machine}
use Rattle.binder_machines.specs.declared.machine.Machine.TheVariants.{ReadsClaim, Unbinds, ReadsVolume}
use Rattle.binder_machines.specs.FirstSteps.{IsFirst}
use Rattle.model_laws.proofs.Lists.{none_some, one}
use Rattle.node_agent.specs.declared.agent.AgentOp.{AgentOp}
use Rattle.node_agent.specs.declared.step.AgentStep.TheVariants as agent_steps
use Rattle.node_agent.specs.Agents.{agent_begins, agent_for, agent_known, at_start, next_step, step_for}
use Rattle.pod_scheduler.specs.Decisions.{BeginsOn}
use Rattle.pod_scheduler.specs.declared.schedule.ScheduleStep.{ScheduleStep}
use Rattle.pod_scheduler.specs.declared.schedule.ScheduleStep.TheVariants as schedule_steps
use Rattle.protect_sync.specs.Decisions.{claim_guard_begins, volume_guard_begins}
use Rattle.protect_sync.specs.declared.claims.ClaimGuardOp.{ClaimGuardOp}
use Rattle.protect_sync.specs.declared.claims.ClaimGuardStep.{ClaimGuardStep}
use Rattle.protect_sync.specs.declared.claims.ClaimGuardStep.TheVariants as claim_steps
use Rattle.protect_sync.specs.declared.volumes.VolumeGuardOp.{VolumeGuardOp}
use Rattle.protect_sync.specs.declared.volumes.VolumeGuardStep.{VolumeGuardStep}
use Rattle.protect_sync.specs.declared.volumes.VolumeGuardStep.TheVariants as volume_steps
use Rattle.reclaim_ops.specs.declared.erase.EraseOp.{EraseOp}
use Rattle.reclaim_ops.specs.declared.erase.EraseStep.{EraseStep}
use Rattle.reclaim_ops.specs.declared.erase.EraseStep.TheVariants as erase_steps
use Rattle.reclaim_ops.specs.declared.provision.ProvisionOp.{ProvisionOp}
use Rattle.reclaim_ops.specs.declared.provision.ProvisionStep.{ProvisionStep}
use Rattle.reclaim_ops.specs.declared.provision.ProvisionStep.TheVariants as provision_steps
use Rattle.reclaim_ops.specs.Decisions.{claim_begins, volume_begins}
use Rattle.worker_core.specs.declared.role.Role.{Role}
use Rattle.worker_core.specs.declared.task.First.{First}
use Rattle.worker_core.specs.declared.task.First.TheVariants as firsts
use Rattle.worker_core.specs.declared.task.Task.{Task}
use Rattle.worker_core.specs.declared.task.Task.TheVariants as tasks
use Rattle.worker_core.specs.Memories.{Memory}
use Rattle.worker_core.specs.Tasks.{IsAgentFirst, IsFirstOf, agent_first, claim_guard_first, ops_first, volume_guard_first}
use Rattle.worker_core.proofs.Machines.{queued_kinds}
use Rattle.settle_calls.specs.Tasks.Costs.{calls_for}
use Rattle.settle_calls.specs.Tasks.Tasks.{agent_left, claim_guard_left, erase_left, machine_left, mount_left, provision_left, schedule_left, volume_guard_left}
use Rattle.settle_calls.specs.Tasks.Ends.{BeginsOnRow}

pub few_machine : (m : Machine) → machine_left m ≤ 3
few_machine (ReadsClaim v) = omega arith
few_machine (Unbinds v) = omega arith
few_machine (ReadsVolume c) = omega arith
few_machine _ = omega arith

pub few_claims : (s : ClaimGuardStep) → claim_guard_left s ≤ 2
few_claims claim_steps.Adds = omega arith
few_claims claim_steps.ListsPods = omega arith
few_claims claim_steps.Drops = omega arith
few_claims _ = omega arith

pub few_volumes : (s : VolumeGuardStep) → volume_guard_left s ≤ 1
few_volumes volume_steps.Adds = omega arith
few_volumes volume_steps.Drops = omega arith
few_volumes _ = omega arith

pub few_erases : (s : EraseStep) → erase_left s ≤ 3
few_erases erase_steps.ReadsVolume = omega arith
few_erases (erase_steps.Erases uid) = omega arith
few_erases (erase_steps.Deletes uid) = omega arith
few_erases erase_steps.WritesFailed = omega arith
few_erases _ = omega arith

pub few_provisions : (s : ProvisionStep) → provision_left s ≤ 2
few_provisions (provision_steps.Provisions labels) = omega arith
few_provisions (provision_steps.Creates id topology) = omega arith
few_provisions provision_steps.ClearsNode = omega arith
few_provisions _ = omega arith

pub few_schedules : (s : ScheduleStep) → schedule_left s ≤ 1
few_schedules (schedule_steps.Writes place) = omega arith
few_schedules _ = omega arith

-- the binder

abbrev pub begins : BinderFirst → Bool
begins (binder_firsts.Begins m) = true
begins first = false

binder_begun : (rows : List Object) (row : Option Object) (m : Machine) → IsFirst rows row (binder_firsts.Begins m) → BeginsOnRow seats.Binder row (tasks.Binder m)
binder_begun rows (Some (Volume v)) m first = record { object = Volume v; there = refl; followed = refl; light = few_machine m }
binder_begun rows (Some (Claim c)) m first = record { object = Claim c; there = refl; followed = refl; light = few_machine m }
binder_begun rows (Some (Class x)) m first = absurd (true≢false (ap begins first))
binder_begun rows (Some (Node x)) m first = absurd (true≢false (ap begins first))
binder_begun rows (Some (Pod x)) m first = absurd (true≢false (ap begins first))
binder_begun rows None m first = absurd (true≢false (ap begins first))

-- the others

abbrev pub task_in : First → Option Task
task_in (firsts.Begins task) = Some task
task_in first = None

of_task : {kind : SeatKind} {row : Option Object} (t task : Task) → Some t ≡ Some task → BeginsOnRow kind row t → BeginsOnRow kind row task
of_task {kind = kind} {row = row} t task e b = subst (BeginsOnRow kind row) (one t task e) b

ops_begun : (rows : List Object) (row : Option Object) (task : Task) → firsts.Begins task ≡ ops_first (claim_begins rows row) (volume_begins row) → BeginsOnRow seats.Ops row task
ops_begun rows (Some (Claim c)) task first = by (claim_begins rows (Some (Claim c))) (ap task_in first)
  where
    by : (x : Option ProvisionOp) → Some task ≡ task_in (ops_first x None) → BeginsOnRow seats.Ops (Some (Claim c)) task
    by None e = none_some (sym e)
    by (Some op) e = of_task (tasks.Provision op) task (sym e) (record { object = Claim c; there = refl; followed = refl; light = (let few = few_provisions op.step in omega (arith, few)) })
ops_begun rows (Some (Volume v)) task first = by (volume_begins (Some (Volume v))) (ap task_in first)
  where
    by : (x : Option EraseOp) → Some task ≡ task_in (ops_first None x) → BeginsOnRow seats.Ops (Some (Volume v)) task
    by None e = none_some (sym e)
    by (Some op) e = of_task (tasks.Erase op) task (sym e) (record { object = Volume v; there = refl; followed = refl; light = few_erases op.step })
ops_begun rows (Some (Class x)) task first = none_some (sym (ap task_in first))
ops_begun rows (Some (Node x)) task first = none_some (sym (ap task_in first))
ops_begun rows (Some (Pod x)) task first = none_some (sym (ap task_in first))
ops_begun rows None task first = none_some (sym (ap task_in first))

claims_begun : (rows : List Object) (row : Option Object) (task : Task) → firsts.Begins task ≡ claim_guard_first (claim_guard_begins rows row) → BeginsOnRow seats.ClaimProtect row task
claims_begun rows (Some (Claim c)) task first = by (claim_guard_begins rows (Some (Claim c))) (ap task_in first)
  where
    by : (x : Option ClaimGuardOp) → Some task ≡ task_in (claim_guard_first x) → BeginsOnRow seats.ClaimProtect (Some (Claim c)) task
    by None e = none_some (sym e)
    by (Some op) e = of_task (tasks.ClaimProtect op) task (sym e) (record { object = Claim c; there = refl; followed = refl; light = (let few = few_claims op.step in omega (arith, few)) })
claims_begun rows (Some (Volume v)) task first = none_some (sym (ap task_in first))
claims_begun rows (Some (Class x)) task first = none_some (sym (ap task_in first))
claims_begun rows (Some (Node x)) task first = none_some (sym (ap task_in first))
claims_begun rows (Some (Pod x)) task first = none_some (sym (ap task_in first))
claims_begun rows None task first = none_some (sym (ap task_in first))

volumes_begun : (row : Option Object) (task : Task) → firsts.Begins task ≡ volume_guard_first (volume_guard_begins row) → BeginsOnRow seats.VolumeProtect row task
volumes_begun (Some (Volume v)) task first = by (volume_guard_begins (Some (Volume v))) (ap task_in first)
  where
    by : (x : Option VolumeGuardOp) → Some task ≡ task_in (volume_guard_first x) → BeginsOnRow seats.VolumeProtect (Some (Volume v)) task
    by None e = none_some (sym e)
    by (Some op) e = of_task (tasks.VolumeProtect op) task (sym e) (record { object = Volume v; there = refl; followed = refl; light = (let few = few_volumes op.step in omega (arith, few)) })
volumes_begun (Some (Claim c)) task first = none_some (sym (ap task_in first))
volumes_begun (Some (Class x)) task first = none_some (sym (ap task_in first))
volumes_begun (Some (Node x)) task first = none_some (sym (ap task_in first))
volumes_begun (Some (Pod x)) task first = none_some (sym (ap task_in first))
volumes_begun None task first = none_some (sym (ap task_in first))

agent_step : (p : PodData) → mount_left (length p.claims - 0) (step_for p []) ≤ 3 + 2 * length p.claims
agent_step p = by (slice_get p.claims 0)
  where
    by : (x : Option (List ℕ)) → mount_left (length p.claims - 0) (next_step [] x) ≤ 3 + 2 * length p.claims
    by None = omega arith
    by (Some name) = omega arith

agent_op : (node : List ℕ) (epoch : ℕ) (mounts : List MountRow) (p : PodData) (op : AgentOp) → agent_for node epoch mounts p ≡ Some op → agent_left op ≤ 3 + 2 * length p.claims
agent_op node epoch mounts p op e = by (is_scheduled p && bytes_eq p.node node) p.meta.uid e
  where
    at : (uid : Uid) (deleting mounted : Bool)
        → (if deleting then Some (at_start node epoch p uid agent_steps.Unmounts) else if mounted then None else Some
        (at_start node epoch p uid (step_for p []))) ≡ Some op → agent_left op ≤ 3 + 2 * length p.claims
    at uid true mounted h = subst (λ o. agent_left o ≤ 3 + 2 * length p.claims) (one (at_start node epoch p uid agent_steps.Unmounts) op h) (omega arith)
    at uid false true h = none_some h
    at uid false false h = subst (λ o. agent_left o ≤ 3 + 2 * length p.claims) (one (at_start node epoch p uid (step_for p [])) op h) (agent_step p)

    known : (x : Option Uid) → agent_known node epoch mounts p x ≡ Some op → agent_left op ≤ 3 + 2 * length p.claims
    known None h = none_some h
    known (Some uid) h = at uid (is_deleting p.meta) (has_row uid mounts) h

    by : (b : Bool) (x : Option Uid) → (if b then agent_known node epoch mounts p x else None) ≡ Some op → agent_left op ≤ 3 + 2 * length p.claims
    by true x h = known x h
    by false x h = none_some h

agent_begun : (node : List ℕ) (epoch : ℕ) (mounts : List MountRow) (row : Option Object) (task : Task)
    → firsts.Begins task ≡ agent_first (agent_begins node epoch mounts row) → BeginsOnRow seats.Agent row task
agent_begun node epoch mounts (Some (Pod p)) task first = by (agent_for node epoch mounts p) refl (ap task_in first)
  where
    by : (x : Option AgentOp) → agent_for node epoch mounts p ≡ x → Some task ≡ task_in (agent_first x) → BeginsOnRow seats.Agent (Some (Pod p)) task
    by None is e = none_some (sym e)
    by (Some op) is e = of_task (tasks.Agent op) task (sym e) (record { object = Pod p; there = refl; followed = refl; light = agent_op node epoch mounts p op is })
agent_begun node epoch mounts (Some (Volume v)) task first = none_some (sym (ap task_in first))
agent_begun node epoch mounts (Some (Claim c)) task first = none_some (sym (ap task_in first))
agent_begun node epoch mounts (Some (Class x)) task first = none_some (sym (ap task_in first))
agent_begun node epoch mounts (Some (Node x)) task first = none_some (sym (ap task_in first))
agent_begun node epoch mounts None task first = none_some (sym (ap task_in first))

agent_any : (node : List ℕ) (epoch : Option ℕ) (mounts : Option (List MountRow)) (row : Option Object) (task : Task)
    → IsAgentFirst node epoch mounts row (firsts.Begins task) → BeginsOnRow seats.Agent row task
agent_any node (Some epoch) (Some mounts) row task first = agent_begun node epoch mounts row task first
agent_any node (Some epoch) None row task first = absurd first
agent_any node None mounts row task first = absurd first

pub begun_on : (kind : SeatKind) (node : List ℕ) (m : Memory) (rows : List Object) (key : Key) (task : Task)
    → IsFirstOf kind node m rows key (firsts.Begins task) → BeginsOnRow kind (row_at key rows) task
begun_on seats.Binder node m rows key (tasks.Binder machine) first = binder_begun rows (row_at key rows) machine first
begun_on seats.Binder node m rows key _ first = absurd first
begun_on seats.Ops node m rows key task first = ops_begun rows (row_at key rows) task first
begun_on seats.Scheduler node m rows key (tasks.Schedule op) first = by (row_at key rows) refl first
  where
    by : (row : Option Object) → row_at key rows ≡ row → BeginsOn rows m.tries.refused row (Some op) → BeginsOnRow seats.Scheduler (row_at key rows) (tasks.Schedule op)
    by (Some (Pod p)) e b = record { object = Pod p; there = e; followed = refl; light = few_schedules op.step }
    by (Some (Volume v)) e b = none_some (sym b)
    by (Some (Claim c)) e b = none_some (sym b)
    by (Some (Class x)) e b = none_some (sym b)
    by (Some (Node x)) e b = none_some (sym b)
    by None e b = none_some (sym b)
begun_on seats.Scheduler node m rows key _ first = absurd first
begun_on seats.ClaimProtect node m rows key task first = claims_begun rows (row_at key rows) task first
begun_on seats.VolumeProtect node m rows key task first = volumes_begun (row_at key rows) task first
begun_on seats.Agent node m rows key task first = agent_any node m.epoch m.mounts (row_at key rows) task first
begun_on seats.User node m rows key task first = absurd first

-- a volume's key queues a claim's

pub record QueuesOnRow (kind : SeatKind) (row : Option Object) (other : Key) : Type 0 where
  pub object : Object
  pub there : row ≡ Some object
  pub followed : follows kind (kind_of object) ≡ true
  pub heavy : (o : Object) → key_of o ≡ other → calls_for kind o ≤ calls_for kind object

abbrev binder_queues : BinderFirst → Bool
binder_queues (binder_firsts.Queues key) = true
binder_queues first = false

claim_is : (o : Object) (other : Key) → key_of o ≡ other → kind_index other.kind ≡ 3 → calls_for seats.Binder o ≤ 3
claim_is (Class x) other e i = omega arith
claim_is (Node x) other e i = omega arith
claim_is (Volume v) other e i = omega arith
claim_is (Claim c) other e i = omega arith
claim_is (Pod p) other e i = omega arith

abbrev pub queues : First → Bool
queues (firsts.Queues key) = true
queues first = false

pub queued_on : (role : Role) (m : Memory) (rows : List Object) (key other : Key) → IsFirstOf role.kind role.node m rows key (firsts.Queues other) → QueuesOnRow role.kind (row_at key rows) other
queued_on role m rows key other first = by role.kind first (queued_kinds role m rows key other first)
  where
    binder : (row : Option Object) → row_at key rows ≡ row → IsFirst rows row (binder_firsts.Queues other) → (kind_index key.kind ≡ 2)
        × (kind_index other.kind ≡ 3) → QueuesOnRow seats.Binder (row_at key rows) other
    binder None e f k = absurd (true≢false (ap binder_queues f))
    binder (Some (Volume v)) e f k = record { object = Volume v; there = e; followed = refl; heavy = λ o is. claim_is o other is k.1 }
    binder (Some (Claim c)) e f k = let own = ap (λ (x : Key). kind_index x.kind) (row_at_key key (Claim c) rows e) in let two = k.0 in absurd (omega (arith, own, two))
    binder (Some (Class x)) e f k = absurd (true≢false (ap binder_queues f))
    binder (Some (Node x)) e f k = absurd (true≢false (ap binder_queues f))
    binder (Some (Pod x)) e f k = absurd (true≢false (ap binder_queues f))

    guard_claims : (x : Option ClaimGuardOp) → firsts.Queues other ≡ claim_guard_first x → ⊥
    guard_claims None e = true≢false (ap queues e)
    guard_claims (Some op) e = true≢false (ap queues e)

    guard_volumes : (x : Option VolumeGuardOp) → firsts.Queues other ≡ volume_guard_first x → ⊥
    guard_volumes None e = true≢false (ap queues e)
    guard_volumes (Some op) e = true≢false (ap queues e)

    ops : (x : Option ProvisionOp) (y : Option EraseOp) → firsts.Queues other ≡ ops_first x y → ⊥
    ops None None e = true≢false (ap queues e)
    ops None (Some op) e = true≢false (ap queues e)
    ops (Some op) y e = true≢false (ap queues e)

    agents : (epoch : Option ℕ) (mounts : Option (List MountRow)) → IsAgentFirst role.node epoch mounts (row_at key rows) (firsts.Queues other) → ⊥
    agents None mounts f = f
    agents (Some epoch) None f = f
    agents (Some epoch) (Some mounts) f = of (agent_begins role.node epoch mounts (row_at key rows)) f
      where
        of : (x : Option AgentOp) → firsts.Queues other ≡ agent_first x → ⊥
        of None e = true≢false (ap queues e)
        of (Some op) e = true≢false (ap queues e)

    by : (kind : SeatKind) → IsFirstOf kind role.node m rows key (firsts.Queues other) → (kind_index key.kind ≡ 2) × (kind_index other.kind ≡ 3) → QueuesOnRow kind (row_at key rows) other
    by seats.Binder f k = binder (row_at key rows) refl f k
    by seats.Ops f k = absurd (ops (claim_begins rows (row_at key rows)) (volume_begins (row_at key rows)) f)
    by seats.Scheduler f k = absurd f
    by seats.ClaimProtect f k = absurd (guard_claims (claim_guard_begins rows (row_at key rows)) f)
    by seats.VolumeProtect f k = absurd (guard_volumes (volume_guard_begins (row_at key rows)) f)
    by seats.Agent f k = absurd (agents m.epoch m.mounts f)
    by seats.User f k = absurd f
