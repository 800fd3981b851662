-- What a decision begins makes no more calls than the object that stands there costs an actor of this role, and a key that is queued in place of
-- another costs no more.
use Rattle.std.proofs.Common.{◌≡◌, ◌∙◌, ℕ, ◌≤◌, List, Bool, true, false, true≢false, Option, Some, None, refl, sym, ap, subst, arith, if◌then◌else◌}
use Rattle.std.specs.Prelude.{is_some, not, ◌&&◌}
use Rattle.kube_objects.specs.declared.key.Key.{Key}
use Rattle.kube_types.specs.declared.lookup.Live.TheVariants.{NotAsked}
use Rattle.kube_parts.specs.declared.names.Due.TheVariants as dues
use Rattle.kube_objects.specs.declared.objects.Claim.{Claim as ClaimData}
use Rattle.kube_objects.specs.declared.objects.Object.{Object}
use Rattle.kube_objects.specs.declared.objects.Object.TheVariants.{Class, Node, Volume, Claim, Pod}
use Rattle.kube_objects.specs.declared.objects.Volume.{Volume as VolumeData}
use Rattle.kube_objects.specs.Bindings.{is_delete, is_deleting, is_empty, is_ended, ref_uid}
use Rattle.kube_objects.specs.Keys.{kind_of, row_at}
use Rattle.call_types.specs.declared.reply.MountRow.{MountRow}
use Rattle.call_types.specs.declared.request.SeatKind.{SeatKind}
use Rattle.call_types.specs.declared.request.SeatKind.TheVariants as seats
use Rattle.binder_model.specs.Reading.{follows}
use Rattle.binder_machines.specs.declared.decide.FirstMachine.{FirstMachine as BinderFirst}
use Rattle.binder_machines.specs.declared.decide.FirstMachine.TheVariants as binder_firsts
use Rattle.binder_machines.specs.declared.machine.Machine.{Machine}
use Rattle.binder_machines.specs.FirstSteps.{IsClaimFirst, IsFirst, lost_for}
use Rattle.claim_sync.specs.ClaimDecision.{claim_decision}
use Rattle.claim_sync.specs.declared.action.ClaimStep.{ClaimStep}
use Rattle.claim_sync.specs.declared.action.ClaimStep.TheVariants as steps
use Rattle.model_laws.proofs.Lists.{none_some, one}
use Rattle.node_agent.specs.declared.agent.AgentOp.{AgentOp}
use Rattle.node_agent.specs.Agents.{agent_begins}
use Rattle.pod_scheduler.specs.Decisions.{BeginsOn}
use Rattle.protect_sync.specs.Decisions.{claim_guard_begins, volume_guard_begins}
use Rattle.protect_sync.specs.declared.claims.ClaimGuardOp.{ClaimGuardOp}
use Rattle.protect_sync.specs.declared.volumes.VolumeGuardOp.{VolumeGuardOp}
use Rattle.reclaim_ops.specs.declared.erase.EraseOp.{EraseOp}
use Rattle.reclaim_ops.specs.declared.provision.ProvisionOp.{ProvisionOp}
use Rattle.reclaim_ops.specs.Decisions.{claim_begins, volume_begins, volume_for}
use Rattle.worker_core.specs.declared.task.First.TheVariants as firsts
use Rattle.worker_core.specs.declared.task.Task.{Task}
use Rattle.worker_core.specs.declared.task.Task.TheVariants as tasks
use Rattle.worker_core.specs.Memories.{Memory}
use Rattle.worker_core.specs.Tasks.{IsAgentFirst, IsFirstOf, agent_first, claim_guard_first, ops_first, volume_guard_first}
use Rattle.settle_calls.specs.Tasks.Costs.{calls_for}
use Rattle.settle_calls.specs.Tasks.Tasks.{machine_left, task_left}
use Rattle.settle_calls.proofs.Tasks.Begun.{begins, begun_on, few_claims, few_erases, few_machine, few_provisions, few_schedules, few_volumes, queues, task_in}
use Rattle.settle_round_calls.specs.Slots.Costs.{claim_calls, made_calls, own_calls, volume_calls}
use Rattle.settle_round_calls.proofs.Slots.RoundCosts.{is_now}

-- the decision rests on an object of a kind that is followed, and what it begins makes no more calls than that costs
pub record BeginsOnOwn (kind : SeatKind) (row : Option Object) (task : Task) : Type 0 where
  pub object : Object
  pub there : row ≡ Some object
  pub followed : follows kind (kind_of object) ≡ true
  pub light : task_left task ≤ own_calls kind object

-- ---- the binder

-- what begins makes so many calls
abbrev first_left : BinderFirst → ℕ
first_left (binder_firsts.Begins m) = machine_left m
first_left first = 0

-- a claim is bound, gets its class, or is Lost once its volume was read
claim_first_left : (rows : List Object) (c : ClaimData) (step : ClaimStep) (m : Machine) → IsClaimFirst rows c step (binder_firsts.Begins m) → machine_left m ≤ 2
claim_first_left rows c steps.Bind m first = let is = ap first_left first.begins in omega (arith, is)
claim_first_left rows c steps.AssignClass m first = let is = ap first_left first.begins in omega (arith, is)
claim_first_left rows c steps.ReadVolume m first = let is = ap first_left first in omega (arith, is)
claim_first_left rows c steps.Lost m first = let is = ap first_left first in let few = lost (is_empty c.volume_name) in omega (arith, is, few)
  where
    lost : (b : Bool) → machine_left (lost_for b c) ≤ 2
    lost true = omega arith
    lost false = omega arith
claim_first_left rows c steps.Nothing m first = absurd (true≢false (ap begins first))

binder_begun : (rows : List Object) (row : Option Object) (m : Machine) → IsFirst rows row (binder_firsts.Begins m) → BeginsOnOwn seats.Binder row (tasks.Binder m)
binder_begun rows (Some (Volume v)) m first = record { object = Volume v; there = refl; followed = refl; light = few_machine m }
binder_begun rows (Some (Claim c)) m first = record { object = Claim c; there = refl; followed = refl; light = claim_first_left rows c (claim_decision rows c NotAsked) m first }
binder_begun rows (Some (Class x)) m first = absurd (true≢false (ap begins first))
binder_begun rows (Some (Node x)) m first = absurd (true≢false (ap begins first))
binder_begun rows (Some (Pod x)) m first = absurd (true≢false (ap begins first))
binder_begun rows None m first = absurd (true≢false (ap begins first))

-- ---- the others

of_task : {kind : SeatKind} {row : Option Object} (t task : Task) → Some t ≡ Some task → BeginsOnOwn kind row t → BeginsOnOwn kind row task
of_task {kind = kind} {row = row} t task e b = subst (BeginsOnOwn kind row) (one t task e) b

-- nothing is due of a volume that has not ended
no_reclaim : (v : VolumeData) → is_ended v.phase ≡ false → volume_begins (Some (Volume v)) ≡ None
no_reclaim v not_over = ap (λ b. volume_for v (if b && is_delete v.policy && is_some (ref_uid v.claim_ref) && not (is_deleting v.meta) then Some dues.Reclaim else None)) not_over

ops_begun : (rows : List Object) (row : Option Object) (task : Task) → firsts.Begins task ≡ ops_first (claim_begins rows row) (volume_begins row) → BeginsOnOwn seats.Ops row task
ops_begun rows (Some (Claim c)) task first = by (claim_begins rows (Some (Claim c))) (ap task_in first)
  where
    by : (x : Option ProvisionOp) → Some task ≡ task_in (ops_first x None) → BeginsOnOwn seats.Ops (Some (Claim c)) task
    by None e = none_some (sym e)
    by (Some op) e = of_task (tasks.Provision op) task (sym e) (record { object = Claim c; there = refl; followed = refl; light = few_provisions op.step })
ops_begun rows (Some (Volume v)) task first = ended (is_ended v.phase) refl
  where
    by : is_ended v.phase ≡ true → (x : Option EraseOp) → Some task ≡ task_in (ops_first None x) → BeginsOnOwn seats.Ops (Some (Volume v)) task
    by over None e = none_some (sym e)
    by over (Some op) e =
        let few = few_erases op.step in
        let own : volume_calls seats.Ops v ≡ 3 = ap (λ b. if b then 3 else 0) over in
        of_task (tasks.Erase op) task (sym e) (record { object = Volume v; there = refl; followed = refl; light = omega (arith, few, own) })

    ended : (b : Bool) → is_ended v.phase ≡ b → BeginsOnOwn seats.Ops (Some (Volume v)) task
    ended true over = by over (volume_begins (Some (Volume v))) (ap task_in first)
    ended false not_over = none_some (sym (ap task_in first ∙ ap (λ x. task_in (ops_first None x)) (no_reclaim v not_over)))
ops_begun rows (Some (Class x)) task first = none_some (sym (ap task_in first))
ops_begun rows (Some (Node x)) task first = none_some (sym (ap task_in first))
ops_begun rows (Some (Pod x)) task first = none_some (sym (ap task_in first))
ops_begun rows None task first = none_some (sym (ap task_in first))

claims_begun : (rows : List Object) (row : Option Object) (task : Task) → firsts.Begins task ≡ claim_guard_first (claim_guard_begins rows row) → BeginsOnOwn seats.ClaimProtect row task
claims_begun rows (Some (Claim c)) task first = by (claim_guard_begins rows (Some (Claim c))) (ap task_in first)
  where
    by : (x : Option ClaimGuardOp) → Some task ≡ task_in (claim_guard_first x) → BeginsOnOwn seats.ClaimProtect (Some (Claim c)) task
    by None e = none_some (sym e)
    by (Some op) e = of_task (tasks.ClaimProtect op) task (sym e) (record { object = Claim c; there = refl; followed = refl; light = few_claims op.step })
claims_begun rows (Some (Volume v)) task first = none_some (sym (ap task_in first))
claims_begun rows (Some (Class x)) task first = none_some (sym (ap task_in first))
claims_begun rows (Some (Node x)) task first = none_some (sym (ap task_in first))
claims_begun rows (Some (Pod x)) task first = none_some (sym (ap task_in first))
claims_begun rows None task first = none_some (sym (ap task_in first))

volumes_begun : (row : Option Object) (task : Task) → firsts.Begins task ≡ volume_guard_first (volume_guard_begins row) → BeginsOnOwn seats.VolumeProtect row task
volumes_begun (Some (Volume v)) task first = by (volume_guard_begins (Some (Volume v))) (ap task_in first)
  where
    by : (x : Option VolumeGuardOp) → Some task ≡ task_in (volume_guard_first x) → BeginsOnOwn seats.VolumeProtect (Some (Volume v)) task
    by None e = none_some (sym e)
    by (Some op) e = of_task (tasks.VolumeProtect op) task (sym e) (record { object = Volume v; there = refl; followed = refl; light = few_volumes op.step })
volumes_begun (Some (Claim c)) task first = none_some (sym (ap task_in first))
volumes_begun (Some (Class x)) task first = none_some (sym (ap task_in first))
volumes_begun (Some (Node x)) task first = none_some (sym (ap task_in first))
volumes_begun (Some (Pod x)) task first = none_some (sym (ap task_in first))
volumes_begun None task first = none_some (sym (ap task_in first))

-- an agent follows pods alone
agent_light : (o : Object) → follows seats.Agent (kind_of o) ≡ true → calls_for seats.Agent o ≤ own_calls seats.Agent o
agent_light (Pod p) followed = omega arith
agent_light (Class x) followed = omega arith
agent_light (Node x) followed = omega arith
agent_light (Volume x) followed = absurd (true≢false (sym followed))
agent_light (Claim x) followed = absurd (true≢false (sym followed))

pub begun_on_own : (kind : SeatKind) (node : List ℕ) (m : Memory) (rows : List Object) (key : Key) (task : Task)
    → IsFirstOf kind node m rows key (firsts.Begins task) → BeginsOnOwn kind (row_at key rows) task
begun_on_own seats.Binder node m rows key (tasks.Binder machine) first = binder_begun rows (row_at key rows) machine first
begun_on_own seats.Binder node m rows key _ first = absurd first
begun_on_own seats.Ops node m rows key task first = ops_begun rows (row_at key rows) task first
begun_on_own seats.Scheduler node m rows key (tasks.Schedule op) first = by (row_at key rows) refl first
  where
    by : (row : Option Object) → row_at key rows ≡ row → BeginsOn rows m.tries.refused row (Some op) → BeginsOnOwn seats.Scheduler (row_at key rows) (tasks.Schedule op)
    by (Some (Pod p)) e b = record { object = Pod p; there = e; followed = refl; light = few_schedules op.step }
    by (Some (Volume v)) e b = none_some (sym b)
    by (Some (Claim c)) e b = none_some (sym b)
    by (Some (Class x)) e b = none_some (sym b)
    by (Some (Node x)) e b = none_some (sym b)
    by None e b = none_some (sym b)
begun_on_own seats.Scheduler node m rows key _ first = absurd first
begun_on_own seats.ClaimProtect node m rows key task first = claims_begun rows (row_at key rows) task first
begun_on_own seats.VolumeProtect node m rows key task first = volumes_begun (row_at key rows) task first
begun_on_own seats.Agent node m rows key task first =
    let b = begun_on seats.Agent node m rows key task first in
    let light = b.light in
    let own = agent_light b.object b.followed in
    record { object = b.object; there = b.there; followed = b.followed; light = omega (arith, light, own) }
begun_on_own seats.User node m rows key task first = absurd first

-- who queues a claim in place of a volume pays no more for it
pub record QueuesSo (kind : SeatKind) : Type 0 where
  pub then_ : is_now kind ≡ false
  pub less : claim_calls kind ≤ made_calls kind

pub queues_so : (kind : SeatKind) (node : List ℕ) (m : Memory) (rows : List Object) (key other : Key) → IsFirstOf kind node m rows key (firsts.Queues other) → QueuesSo kind
queues_so seats.User node m rows key other first = record { then_ = refl; less = omega arith }
queues_so seats.Binder node m rows key other first = record { then_ = refl; less = omega arith }
queues_so seats.Scheduler node m rows key other first = absurd first
queues_so seats.Ops node m rows key other first = by (claim_begins rows (row_at key rows)) (volume_begins (row_at key rows)) (ap queues first)
  where
    by : (x : Option ProvisionOp) (y : Option EraseOp) → true ≡ queues (ops_first x y) → QueuesSo seats.Ops
    by None None e = absurd (true≢false e)
    by None (Some op) e = absurd (true≢false e)
    by (Some op) y e = absurd (true≢false e)
queues_so seats.ClaimProtect node m rows key other first = by (claim_guard_begins rows (row_at key rows)) (ap queues first)
  where
    by : (x : Option ClaimGuardOp) → true ≡ queues (claim_guard_first x) → QueuesSo seats.ClaimProtect
    by None e = absurd (true≢false e)
    by (Some op) e = absurd (true≢false e)
queues_so seats.VolumeProtect node m rows key other first = by (volume_guard_begins (row_at key rows)) (ap queues first)
  where
    by : (x : Option VolumeGuardOp) → true ≡ queues (volume_guard_first x) → QueuesSo seats.VolumeProtect
    by None e = absurd (true≢false e)
    by (Some op) e = absurd (true≢false e)
queues_so seats.Agent node m rows key other first = by m.epoch m.mounts first
  where
    begun : (x : Option AgentOp) → true ≡ queues (agent_first x) → QueuesSo seats.Agent
    begun None e = absurd (true≢false e)
    begun (Some op) e = absurd (true≢false e)

    by : (epoch : Option ℕ) (mounts : Option (List MountRow)) → IsAgentFirst node epoch mounts (row_at key rows) (firsts.Queues other) → QueuesSo seats.Agent
    by (Some epoch) (Some mounts) f = begun (agent_begins node epoch mounts (row_at key rows)) (ap queues f)
    by (Some epoch) None f = absurd f
    by None mounts f = absurd f
