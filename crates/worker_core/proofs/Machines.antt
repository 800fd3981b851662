-- What is known of the machines of each kind of actor, whatever they are: their calls are allowed by their evidence, the evidence
-- goes on, decisions give it, no call of theirs reads a whole kind, and a key that queues another is a volume's.
use Rattle.std.proofs.Common.{◌≡◌, ℕ, List, ◌∷◌, true, false, true≢false, Option, Some, None, refl, sym, ◌∙◌, ap, subst}
use Rattle.std.specs.Prelude.{option_map}
use Rattle.kube_objects.specs.declared.key.Key.{Key}
use Rattle.kube_parts.specs.declared.parts.Kind.{Kind}
use Rattle.kube_objects.specs.declared.objects.Object.{Object}
use Rattle.kube_objects.specs.Keys.{AreRows, kind_index, row_at}
use Rattle.call_types.specs.declared.entry.Entry.{Entry}
use Rattle.call_types.specs.declared.request.Request.{Request}
use Rattle.call_types.specs.declared.request.Request.TheVariants as requests
use Rattle.call_types.specs.declared.request.SeatKind.{SeatKind}
use Rattle.call_types.specs.declared.request.SeatKind.TheVariants as seats
use Rattle.call_types.specs.declared.reply.MountRow.{MountRow}
use Rattle.call_types.specs.declared.reply.Reply.{Reply}
use Rattle.binder_model.specs.Licence.{AreOfKind, RowAllows}
use Rattle.informer_cache.specs.All.{AllKnown, AllStandFor, all_objects}
use Rattle.binder_machines.specs.declared.machine.Machine.{Machine}
use Rattle.binder_machines.specs.Machines as binder
use Rattle.binder_machines.proofs.Allowed.{row_allows}
use Rattle.binder_machines.proofs.Begun.{keep}
use Rattle.binder_machines.proofs.Reaching.{calls_read_no_kind, volumes_queue_claims}
use Rattle.binder_machines.proofs.Moves.{keeps_on}
use Rattle.model_laws.proofs.Lists.{one, none_some}
use Rattle.node_agent.specs.declared.agent.AgentOp.{AgentOp}
use Rattle.node_agent.specs.Agents.{agent_begins, agent_moved}
use Rattle.node_agent.specs.Evidence.{MayDecide}
use Rattle.node_agent.proofs.Allowed.{allowed as agent_allowed, calls_read_no_kind as agent_calls_read_no_kind}
use Rattle.node_agent.proofs.Begun.{decisions as agent_decisions}
use Rattle.node_agent.proofs.Moves.{goes_on as agent_goes_on}
use Rattle.pod_scheduler.specs.declared.tries.Tried.{Tried}
use Rattle.pod_scheduler.specs.Schedules.{is_write, schedule_moved}
use Rattle.pod_scheduler.proofs.Allowed.{calls_are_allowed, calls_are_writes}
use Rattle.pod_scheduler.proofs.Begun.{decisions_keep}
use Rattle.pod_scheduler.proofs.Moves.{evidence_goes_on}
use Rattle.protect_sync.specs.declared.claims.ClaimGuardOp.{ClaimGuardOp}
use Rattle.protect_sync.specs.declared.volumes.VolumeGuardOp.{VolumeGuardOp}
use Rattle.call_types.proofs.WholeKinds.{no_read}
use Rattle.protect_sync.specs.ClaimGuards.{claim_moved}
use Rattle.protect_sync.specs.Decisions.{claim_guard_begins, volume_guard_begins}
use Rattle.protect_sync.specs.VolumeGuards.{volume_moved}
use Rattle.protect_sync.proofs.Allowed.{claim_allowed, claim_calls_read_no_kind, volume_allowed, volume_calls_read_no_kind}
use Rattle.protect_sync.proofs.Begun.{claim_decisions, volume_decisions}
use Rattle.protect_sync.proofs.Moves.{claim_goes_on, volume_goes_on}
use Rattle.reclaim_ops.specs.declared.erase.EraseOp.{EraseOp}
use Rattle.reclaim_ops.specs.declared.provision.ProvisionOp.{ProvisionOp}
use Rattle.reclaim_ops.specs.BeginLaw.{lists_or_watches}
use Rattle.reclaim_ops.specs.Decisions.{claim_begins, volume_begins}
use Rattle.reclaim_ops.specs.Erasures.{erase_moved}
use Rattle.reclaim_ops.specs.Evidence.{MayDecide as OpsMayDecide}
use Rattle.reclaim_ops.specs.Provisions.{provision_moved}
use Rattle.reclaim_ops.proofs.EraseAllowed.{erase_allowed, erase_calls_read_no_kind}
use Rattle.reclaim_ops.proofs.EraseBegun.{erase_decisions}
use Rattle.reclaim_ops.proofs.EraseMoves.{erase_goes_on}
use Rattle.reclaim_ops.proofs.ProvisionAllowed.{provision_allowed, provision_calls_read_no_kind}
use Rattle.reclaim_ops.proofs.ProvisionBegun.{provision_decisions}
use Rattle.reclaim_ops.proofs.ProvisionMoves.{provision_goes_on}
use Rattle.worker_core.specs.declared.role.Role.{Role}
use Rattle.worker_core.specs.declared.task.First.{First}
use Rattle.worker_core.specs.declared.task.First.TheVariants as firsts
use Rattle.worker_core.specs.declared.task.Task.{Task}
use Rattle.worker_core.specs.declared.task.Task.TheVariants as tasks
use Rattle.worker_core.specs.declared.task.Under.{Under}
use Rattle.worker_core.specs.Memories.{Memory, memory_of}
use Rattle.worker_core.specs.Roles.{kinds_of}
use Rattle.call_types.specs.Kinds.{reads_kind}
use Rattle.worker_core.specs.Stands.{AreLicensed, AreOwn, Begun, IsUnderWay, StartsSo, WentOn}
use Rattle.worker_core.specs.Steps.Evidence.{TaskKeeps, task_kind}
use Rattle.worker_core.specs.Tasks.{
  IsAgentFirst,
  IsDecision,
  IsFirstOf,
  IsPodFirst,
  agent_first,
  claim_guard_first,
  erase_first,
  ops_first,
  task_call,
  task_moved,
  under_after,
  volume_guard_first,
  with_call,
  with_task,
}
use Rattle.worker_core.specs.Turns.{first_unlisted}
use Rattle.worker_core.proofs.AgentLaws.{may_decide}
use Rattle.worker_core.proofs.ByKind.{EpochStands, epoch_stands}
use Rattle.worker_core.proofs.OpsLaws.{may_decide as ops_may_decide}
use Rattle.worker_core.proofs.Owning.{Stood, all_of_kind, stood_before}

pub task_allowed : (t : Task) (mine : List Entry) (r : Request) → AreOfKind (task_kind t) mine → TaskKeeps t mine → task_call t ≡ Some r → RowAllows (task_kind t) mine r
task_allowed (tasks.Binder m) mine r own kept call = row_allows m mine r kept call
task_allowed (tasks.ClaimProtect op) mine r own kept call = (claim_allowed op mine r own kept call).1
task_allowed (tasks.VolumeProtect op) mine r own kept call = (volume_allowed op mine r own kept call).1
task_allowed (tasks.Agent op) mine r own kept call = (agent_allowed op mine r own kept call).1
task_allowed (tasks.Provision op) mine r own kept call = (provision_allowed op mine r own kept call).1
task_allowed (tasks.Erase op) mine r own kept call = (erase_allowed op mine r own kept call).1
task_allowed (tasks.Schedule op) mine r own kept call = (calls_are_allowed op mine r own kept call).1

task_goes : (t next : Task) (mine : List Entry) (e : Entry) → TaskKeeps t mine → task_call t ≡ Some e.request → e.told ≡ true → task_moved t e.reply ≡ Some next → TaskKeeps next (e ∷ mine)
task_goes (tasks.ClaimProtect op) next mine e kept call told is =
    subst (λ t. TaskKeeps t (e ∷ mine)) (one (tasks.ClaimProtect (claim_moved op e.reply)) next is) (claim_goes_on op mine e kept call told)
task_goes (tasks.VolumeProtect op) next mine e kept call told is =
    subst (λ t. TaskKeeps t (e ∷ mine)) (one (tasks.VolumeProtect (volume_moved op e.reply)) next is) (volume_goes_on op mine e kept call told)
task_goes (tasks.Agent op) next mine e kept call told is = subst (λ t. TaskKeeps t (e ∷ mine)) (one (tasks.Agent (agent_moved op e.reply)) next is) (agent_goes_on op mine e kept call told)
task_goes (tasks.Provision op) next mine e kept call told is =
    subst (λ t. TaskKeeps t (e ∷ mine)) (one (tasks.Provision (provision_moved op e.reply)) next is) (provision_goes_on op mine e kept call told)
task_goes (tasks.Erase op) next mine e kept call told is = subst (λ t. TaskKeeps t (e ∷ mine)) (one (tasks.Erase (erase_moved op e.reply)) next is) (erase_goes_on op mine e kept call told)
task_goes (tasks.Schedule op) next mine e kept call told is = subst (λ t. TaskKeeps t (e ∷ mine)) (one (tasks.Schedule (schedule_moved op e.reply)) next is) (evidence_goes_on op mine e kept call told)
task_goes (tasks.Binder m) next mine e kept call told is = by (binder.moved m e.reply) refl is
  where
    by : (x : Option Machine) → binder.moved m e.reply ≡ x → option_map (λ k. tasks.Binder k) x ≡ Some next → TaskKeeps next (e ∷ mine)
    by None at h = none_some h
    by (Some k) at h = subst (λ t. TaskKeeps t (e ∷ mine)) (one (tasks.Binder k) next h) (keeps_on m k mine e kept call told at)

-- a task stays one of its kind
task_stays : (t next : Task) (reply : Reply) → task_moved t reply ≡ Some next → task_kind next ≡ task_kind t
task_stays (tasks.ClaimProtect op) next reply is = ap task_kind (sym (one (tasks.ClaimProtect (claim_moved op reply)) next is))
task_stays (tasks.VolumeProtect op) next reply is = ap task_kind (sym (one (tasks.VolumeProtect (volume_moved op reply)) next is))
task_stays (tasks.Agent op) next reply is = ap task_kind (sym (one (tasks.Agent (agent_moved op reply)) next is))
task_stays (tasks.Provision op) next reply is = ap task_kind (sym (one (tasks.Provision (provision_moved op reply)) next is))
task_stays (tasks.Erase op) next reply is = ap task_kind (sym (one (tasks.Erase (erase_moved op reply)) next is))
task_stays (tasks.Schedule op) next reply is = ap task_kind (sym (one (tasks.Schedule (schedule_moved op reply)) next is))
task_stays (tasks.Binder m) next reply is = by (binder.moved m reply) is
  where
    by : (x : Option Machine) → option_map (λ k. tasks.Binder k) x ≡ Some next → task_kind next ≡ seats.Binder
    by None h = none_some h
    by (Some k) h = ap task_kind (sym (one (tasks.Binder k) next h))

no_ops_read : (r : Request) (kind : Kind) → lists_or_watches r ≡ false → reads_kind kind r ≡ false
no_ops_read (requests.List k namespace) kind none = absurd (true≢false none)
no_ops_read (requests.Watch k from) kind none = absurd (true≢false none)
no_ops_read _ kind none = refl

no_write_read : (r : Request) (kind : Kind) → is_write r ≡ true → reads_kind kind r ≡ false
no_write_read (requests.List k namespace) kind write = absurd (true≢false (sym write))
no_write_read (requests.Watch k from) kind write = absurd (true≢false (sym write))
no_write_read _ kind write = refl

pub task_reads_none : (t : Task) (r : Request) (kind : Kind) → task_call t ≡ Some r → reads_kind kind r ≡ false
task_reads_none (tasks.Binder m) r kind call = calls_read_no_kind m r kind call
task_reads_none (tasks.ClaimProtect op) r kind call = no_read r kind (claim_calls_read_no_kind op r call)
task_reads_none (tasks.VolumeProtect op) r kind call = no_read r kind (volume_calls_read_no_kind op r call)
task_reads_none (tasks.Agent op) r kind call = no_read r kind (agent_calls_read_no_kind op r call)
task_reads_none (tasks.Provision op) r kind call = no_ops_read r kind (provision_calls_read_no_kind op r call)
task_reads_none (tasks.Erase op) r kind call = no_ops_read r kind (erase_calls_read_no_kind op r call)
task_reads_none (tasks.Schedule op) r kind call = no_write_read r kind (calls_are_writes op r call)

-- what a decision begins

abbrev task_in : First → Option Task
task_in (firsts.Begins task) = Some task
task_in first = None

abbrev queued_in : First → Option Key
queued_in (firsts.Queues other) = Some other
queued_in first = None

-- a task that a decision begins is one of the actor's kind, and has its evidence
record BeginsTask (kind : SeatKind) (t : Task) (mine : List Entry) : Type 0 where
  of_kind : task_kind t ≡ kind
  keeps : TaskKeeps t mine

claim_begun : (c : AllKnown) (mine : List Entry) (key : Key) (t : Task) → AllStandFor c mine → (x : Option ClaimGuardOp) → claim_guard_begins (all_objects c) (row_at key (all_objects c)) ≡ x
    → firsts.Begins t ≡ claim_guard_first x → BeginsTask seats.ClaimProtect t mine
claim_begun c mine key t stand None is first = none_some (sym (ap task_in first))
claim_begun c mine key t stand (Some op) is first =
    let same : tasks.ClaimProtect op ≡ t = one (tasks.ClaimProtect op) t (sym (ap task_in first)) in
    subst (λ x. BeginsTask seats.ClaimProtect x mine) same (record { of_kind = refl; keeps = claim_decisions c mine key op stand is })

volume_begun : (c : AllKnown) (mine : List Entry) (key : Key) (t : Task) → AllStandFor c mine → (x : Option VolumeGuardOp) → volume_guard_begins (row_at key (all_objects c)) ≡ x
    → firsts.Begins t ≡ volume_guard_first x → BeginsTask seats.VolumeProtect t mine
volume_begun c mine key t stand None is first = none_some (sym (ap task_in first))
volume_begun c mine key t stand (Some op) is first =
    let same : tasks.VolumeProtect op ≡ t = one (tasks.VolumeProtect op) t (sym (ap task_in first)) in
    subst (λ x. BeginsTask seats.VolumeProtect x mine) same (record { of_kind = refl; keeps = volume_decisions c mine key op stand is })

-- a machine that an agent begins
agent_begun : (node : List ℕ) (epoch : Option ℕ) (mounts : Option (List MountRow)) (c : AllKnown) (mine : List Entry) (key : Key) (t : Task) → AllStandFor c mine
    → ((e : ℕ) → epoch ≡ Some e → MayDecide node e (row_at key (all_objects c)) mine) → IsAgentFirst node epoch mounts (row_at key (all_objects c)) (firsts.Begins t) → BeginsTask seats.Agent t mine
agent_begun node None mounts c mine key t stand may first = absurd first
agent_begun node (Some epoch) None c mine key t stand may first = absurd first
agent_begun node (Some epoch) (Some mounts) c mine key t stand may first = by (agent_begins node epoch mounts (row_at key (all_objects c))) refl first
  where
    by : (x : Option AgentOp) → agent_begins node epoch mounts (row_at key (all_objects c)) ≡ x → firsts.Begins t ≡ agent_first x → BeginsTask seats.Agent t mine
    by None is first = none_some (sym (ap task_in first))
    by (Some op) is first =
        let same : tasks.Agent op ≡ t = one (tasks.Agent op) t (sym (ap task_in first)) in
        subst (λ x. BeginsTask seats.Agent x mine) same (record { of_kind = refl; keeps = agent_decisions c mine node epoch mounts key op stand (may epoch refl) is })

-- a machine that ops begins

erase_begun : (c : AllKnown) (mine : List Entry) (key : Key) (t : Task) → AllStandFor c mine → (x : Option EraseOp) → volume_begins (row_at key (all_objects c)) ≡ x
    → firsts.Begins t ≡ erase_first x → BeginsTask seats.Ops t mine
erase_begun c mine key t stand None is first = none_some (sym (ap task_in first))
erase_begun c mine key t stand (Some op) is first =
    let same : tasks.Erase op ≡ t = one (tasks.Erase op) t (sym (ap task_in first)) in
    subst (λ x. BeginsTask seats.Ops x mine) same (record { of_kind = refl; keeps = erase_decisions c mine key op stand is })

ops_begun : (c : AllKnown) (mine : List Entry) (key : Key) (t : Task) → AllStandFor c mine → OpsMayDecide mine → (x : Option ProvisionOp)
    → claim_begins (all_objects c) (row_at key (all_objects c)) ≡ x
    → firsts.Begins t ≡ ops_first x (volume_begins (row_at key (all_objects c))) → BeginsTask seats.Ops t mine
ops_begun c mine key t stand may None is first = erase_begun c mine key t stand _ refl first
ops_begun c mine key t stand may (Some op) is first =
    let same : tasks.Provision op ≡ t = one (tasks.Provision op) t (sym (ap task_in first)) in
    subst (λ x. BeginsTask seats.Ops x mine) same (record { of_kind = refl; keeps = provision_decisions c mine key op stand may is })

-- a machine that a scheduler begins
pod_begun : (refused : List Tried) (c : AllKnown) (mine : List Entry) (key : Key) (t : Task) → AllStandFor c mine → AreRows (all_objects c) → AreOfKind seats.Scheduler mine
    → IsPodFirst (all_objects c) refused (row_at key (all_objects c)) (firsts.Begins t) → BeginsTask seats.Scheduler t mine
pod_begun refused c mine key (tasks.Schedule op) stand order own first = record { of_kind = refl; keeps = decisions_keep c mine refused key op stand order own first }
pod_begun refused c mine key _ stand order own first = absurd first

begun : (kind : SeatKind) (node : List ℕ) (m : Memory) (c : AllKnown) (mine : List Entry) (key : Key) (t : Task) → AllStandFor c mine
    → AreRows (all_objects c) → first_unlisted c (kinds_of kind) ≡ None
    → AreLicensed kind mine → AreOwn mine → StartsSo kind node mine → EpochStands kind node m mine → IsFirstOf kind node m (all_objects c) key (firsts.Begins t) → BeginsTask kind t mine
begun seats.Binder node m c mine key (tasks.Binder k) stand order listed licensed own start epoch first = record { of_kind = refl; keeps = keep c mine key k stand order first }
begun seats.Binder node m c mine key (tasks.ClaimProtect op) stand order listed licensed own start epoch first = absurd first
begun seats.Binder node m c mine key (tasks.VolumeProtect op) stand order listed licensed own start epoch first = absurd first
begun seats.Binder node m c mine key (tasks.Agent op) stand order listed licensed own start epoch first = absurd first
begun seats.Binder node m c mine key (tasks.Provision op) stand order listed licensed own start epoch first = absurd first
begun seats.Binder node m c mine key (tasks.Erase op) stand order listed licensed own start epoch first = absurd first
begun seats.Binder node m c mine key (tasks.Schedule op) stand order listed licensed own start epoch first = absurd first
begun seats.ClaimProtect node m c mine key t stand order listed licensed own start epoch first = claim_begun c mine key t stand _ refl first
begun seats.VolumeProtect node m c mine key t stand order listed licensed own start epoch first = volume_begun c mine key t stand _ refl first
begun seats.Agent node m c mine key t stand order listed licensed own start epoch first =
    agent_begun node m.epoch m.mounts c mine key t stand (λ e is. may_decide node e c mine key licensed own start (sym epoch ∙ is) stand) first
begun seats.User node m c mine key t stand order listed licensed own start epoch first = absurd first
begun seats.Ops node m c mine key t stand order listed licensed own start epoch first = ops_begun c mine key t stand (ops_may_decide c mine stand listed) _ refl first
begun seats.Scheduler node m c mine key t stand order listed licensed own start epoch first = pod_begun m.tries.refused c mine key t stand order (all_of_kind seats.Scheduler mine licensed) first

-- a key that queues another is a volume's, and the other a claim's

claims_queue_none : {G : Type 0} (other : Key) (x : Option ClaimGuardOp) → firsts.Queues other ≡ claim_guard_first x → G
claims_queue_none other None first = none_some (sym (ap queued_in first))
claims_queue_none other (Some op) first = none_some (sym (ap queued_in first))

volumes_queue_none : {G : Type 0} (other : Key) (x : Option VolumeGuardOp) → firsts.Queues other ≡ volume_guard_first x → G
volumes_queue_none other None first = none_some (sym (ap queued_in first))
volumes_queue_none other (Some op) first = none_some (sym (ap queued_in first))

agents_queue_none : {G : Type 0} (node : List ℕ) (epoch : Option ℕ) (mounts : Option (List MountRow)) (row : Option Object) (other : Key) → IsAgentFirst node epoch mounts row (firsts.Queues other) → G
agents_queue_none node None mounts row other first = absurd first
agents_queue_none node (Some epoch) None row other first = absurd first
agents_queue_none {G = G} node (Some epoch) (Some mounts) row other first = by (agent_begins node epoch mounts row) first
  where
    by : (x : Option AgentOp) → firsts.Queues other ≡ agent_first x → G
    by None first = none_some (sym (ap queued_in first))
    by (Some op) first = none_some (sym (ap queued_in first))

erasures_queue_none : {G : Type 0} (other : Key) (x : Option EraseOp) → firsts.Queues other ≡ erase_first x → G
erasures_queue_none other None first = none_some (sym (ap queued_in first))
erasures_queue_none other (Some op) first = none_some (sym (ap queued_in first))

ops_queue_none : {G : Type 0} (other : Key) (x : Option ProvisionOp) (y : Option EraseOp) → firsts.Queues other ≡ ops_first x y → G
ops_queue_none other None y first = erasures_queue_none other y first
ops_queue_none other (Some op) y first = none_some (sym (ap queued_in first))

queued_by : (kind : SeatKind) (node : List ℕ) (m : Memory) (rows : List Object) (key other : Key)
    → IsFirstOf kind node m rows key (firsts.Queues other) → (kind_index key.kind ≡ 2) × (kind_index other.kind ≡ 3)
queued_by seats.Binder node m rows key other first =
    let q = volumes_queue_claims rows key other first in
    (ap kind_index q.0, ap kind_index q.1)
queued_by seats.ClaimProtect node m rows key other first = claims_queue_none other (claim_guard_begins rows (row_at key rows)) first
queued_by seats.VolumeProtect node m rows key other first = volumes_queue_none other (volume_guard_begins (row_at key rows)) first
queued_by seats.Agent node m rows key other first = agents_queue_none node m.epoch m.mounts (row_at key rows) other first
queued_by seats.User node m rows key other first = absurd first
queued_by seats.Ops node m rows key other first = ops_queue_none other (claim_begins rows (row_at key rows)) (volume_begins (row_at key rows)) first
queued_by seats.Scheduler node m rows key other first = absurd first

pub queued_kinds : (role : Role) (memory : Memory) (rows : List Object) (key other : Key) → IsDecision role memory rows key (firsts.Queues other)
    → (kind_index key.kind ≡ 2) × (kind_index other.kind ≡ 3)
queued_kinds role memory rows key other first = queued_by role.kind role.node memory rows key other first

-- what is under way keeps its evidence, its call is its next one, and its task is one of the actor's kind
pub record KeepsUnder (role : Role) (u : Under) (mine : List Entry) : Type 0 where
  pub of_kind : task_kind u.task ≡ role.kind
  pub keeps : TaskKeeps u.task mine
  pub call : task_call u.task ≡ Some u.call

goes_on : (role : Role) (u next : Under) (mine : List Entry) (e : Entry) → KeepsUnder role u mine → e.told ≡ true → e.request ≡ u.call
    → under_after u e.reply ≡ Some next → KeepsUnder role next (e ∷ mine)
goes_on role u next mine e kept told asked is = by_task (task_moved u.task e.reply) refl is
  where
    by_call : (t : Task) (c : Option Request) → task_call t ≡ c → task_kind t ≡ role.kind → TaskKeeps t (e ∷ mine) → with_call u.key t c ≡ Some next → KeepsUnder role next (e ∷ mine)
    by_call t None at kind keeps h = none_some h
    by_call t (Some c) at kind keeps h = subst (λ n. KeepsUnder role n (e ∷ mine)) (one _ next h) (record { of_kind = kind; keeps = keeps; call = at })

    by_task : (x : Option Task) → task_moved u.task e.reply ≡ x → with_task u.key x ≡ Some next → KeepsUnder role next (e ∷ mine)
    by_task None at h = none_some h
    by_task (Some t) at h = by_call t (task_call t) refl (task_stays u.task t e.reply at ∙ kept.of_kind) (task_goes u.task t mine e kept.keeps (kept.call ∙ ap Some (sym asked)) told at) h

pub keeps_under : (role : Role) (u : Under) (mine : List Entry) → Stood role mine → IsUnderWay role u mine → KeepsUnder role u mine
keeps_under role u mine stood (Begun c stand order listed gives) =
    let b = begun role.kind role.node (memory_of role mine) c mine u.key u.task stand order listed stood.licensed stood.own stood.start (epoch_stands role mine) gives.decided in
    record { of_kind = b.of_kind; keeps = b.keeps; call = gives.call }
keeps_under role u mine stood (WentOn before e past split way told asked moves) =
    let past_stood = stood_before role e past (subst (Stood role) split stood) in
    subst (λ m. KeepsUnder role u m) (sym split) (goes_on role before u past e (keeps_under role before past past_stood way) told asked moves)

-- its call is the next of its task, whatever the entries are
with_call_calls : (key : Key) (t : Task) (c : Option Request) (next : Under) → task_call t ≡ c → with_call key t c ≡ Some next → task_call next.task ≡ Some next.call
with_call_calls key t None next at h = none_some h
with_call_calls key t (Some c) next at h = subst (λ (n : Under). task_call n.task ≡ Some n.call) (one _ next h) at

with_task_calls : (key : Key) (x : Option Task) (next : Under) → with_task key x ≡ Some next → task_call next.task ≡ Some next.call
with_task_calls key None next h = none_some h
with_task_calls key (Some t) next h = with_call_calls key t (task_call t) next refl h

pub under_calls : (role : Role) (u : Under) (mine : List Entry) → IsUnderWay role u mine → task_call u.task ≡ Some u.call
under_calls role u mine (Begun c stand order listed gives) = gives.call
under_calls role u mine (WentOn before e past split way told asked moves) = with_task_calls before.key (task_moved before.task e.reply) u moves
