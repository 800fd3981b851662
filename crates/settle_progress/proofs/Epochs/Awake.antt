-- An agent whose epoch is its node's is not told StaleEpoch; and a round leaves it so.
use Rattle.std.proofs.Common.{◌≡◌, ◌∙◌, ℕ, ◌-◌, List, [], ◌∷◌, Bool, true, false, true≢false, Option, Some, None, refl, sym, ap, subst, if◌then◌else◌}
use Rattle.std.specs.Prelude.{◌+◌, ◌&&◌, bytes_eq, is_some, nat_lt, not, option_map, ⊤}
use Rattle.std.proofs.lemmas.Bool.{or_from}
use Rattle.kube_objects.specs.declared.key.Key.{Key}
use Rattle.kube_parts.specs.declared.names.Field.TheVariants as fields
use Rattle.kube_parts.specs.declared.parts.Kind.{Kind}
use Rattle.kube_parts.specs.declared.uid.Uid.{Uid}
use Rattle.kube_objects.specs.declared.objects.Pod.{Pod as PodData}
use Rattle.kube_objects.specs.declared.objects.Object.{Object}
use Rattle.kube_objects.specs.declared.objects.Object.TheVariants.{Class, Node, Volume, Claim, Pod}
use Rattle.kube_objects.specs.Bindings.{is_deleting, is_scheduled}
use Rattle.kube_objects.specs.Keys.{row_at}
use Rattle.call_types.specs.declared.entry.Entry.{Entry}
use Rattle.call_types.specs.declared.reply.MountRow.{MountRow}
use Rattle.call_types.specs.declared.reply.Refusal.TheVariants.{Invalid}
use Rattle.call_types.specs.declared.reply.Reply.{Reply}
use Rattle.call_types.specs.declared.request.Request.{Request}
use Rattle.call_types.specs.declared.request.Request.TheVariants as requests
use Rattle.call_types.specs.declared.request.SeatKind.TheVariants as seats
use Rattle.call_types.specs.declared.setup.Setup.{Setup}
use Rattle.binder_model.specs.AgentLicence.{has_row, last_epoch}
use Rattle.binder_model.specs.Answers.{Removes, finish, get, list, outcome, pod_with, refuse, refuse_stale, reply_of}
use Rattle.binder_model.specs.Devices.{device_answer, epoch_of, take_node, with_mounts}
use Rattle.binder_model.specs.Store.{at_version}
use Rattle.binder_model.specs.Told.{own}
use Rattle.binder_model.specs.Watching.{oldest}
use Rattle.binder_model.specs.World.{IsHistory, World, base, effect, on_devices, reply_to, watch, world}
use Rattle.informer_cache.specs.declared.cache.NextRead.{NextRead}
use Rattle.informer_cache.specs.declared.cache.NextRead.TheVariants as asks
use Rattle.informer_cache.specs.All.{AllKnown, all_objects, cache_of}
use Rattle.informer_cache.specs.Cache.{ask_of}
use Rattle.model_laws.proofs.Lists.{none_some, one}
use Rattle.node_agent.specs.declared.agent.AgentOp.{AgentOp}
use Rattle.node_agent.specs.declared.step.AgentStep.{AgentStep}
use Rattle.node_agent.specs.declared.step.AgentStep.TheVariants as steps
use Rattle.node_agent.specs.declared.step.ReadyClaim.{ReadyClaim}
use Rattle.node_agent.specs.Agents.{agent_after, agent_begins, agent_call, agent_call_at, agent_known, agent_moved, at_start, ready_by, step_for}
use Rattle.node_agent.specs.Evidence.{StepKeeps, at_rest}
use Rattle.safety_law.specs.Invariant.Holders.{epoch_now}
use Rattle.worker_core.specs.declared.role.Role.{Role}
use Rattle.worker_core.specs.declared.task.First.{First}
use Rattle.worker_core.specs.declared.task.First.TheVariants as firsts
use Rattle.worker_core.specs.declared.task.Task.{Task}
use Rattle.worker_core.specs.declared.task.Task.TheVariants as tasks
use Rattle.worker_core.specs.declared.task.Under.{Under}
use Rattle.worker_core.specs.declared.turn.Given.{Given}
use Rattle.worker_core.specs.declared.turn.Given.TheVariants as givens
use Rattle.worker_core.specs.declared.turn.Next.TheVariants.{Call, Idle}
use Rattle.worker_core.specs.declared.turn.Outcome.TheVariants.{Lost, Told}
use Rattle.worker_core.specs.Absorbs.{absorbed, given_told, learned, lost_given, lost_under, task_told}
use Rattle.binder_machines.specs.declared.machine.Machine.{Machine}
use Rattle.binder_machines.specs.Machines as binder
use Rattle.worker_core.specs.Memories.{Memory, agent_remembers, is_stale_told, memory_after, memory_of}
use Rattle.worker_core.specs.Stands.{AnyIsUnderWay, Begun, IsUnderWay, StandsFor, WentOn}
use Rattle.worker_core.specs.States.{ActorState, agent_start, asked, call_under, given_call, read_request, start_of}
use Rattle.worker_core.specs.Steps.Evidence.{TaskKeeps, task_kind}
use Rattle.worker_core.specs.Tasks.{IsAgentFirst, IsFirstOf, agent_first, task_call, task_moved, under_after, with_call, with_task}
use Rattle.worker_core.proofs.Answered.{gives_asked}
use Rattle.worker_core.proofs.ByKind.{epoch_stands}
use Rattle.worker_core.proofs.Machines.{keeps_under}
use Rattle.worker_core.proofs.Owning.{stood}
use Rattle.worker_core.proofs.Turning.{turn_stands}
use Rattle.actor_rounds.specs.Drainers.{agent_of}
use Rattle.actor_rounds.specs.Rounds.{Asks, IsHeld, IsIdle, IsSpent, Lets, Runs, told_entry}
use Rattle.actor_rounds.proofs.RunFacts.{still_role, turn_memory}
use Rattle.worker_core.proofs.Answered.{turn_role}
use Rattle.settle_slot.proofs.Slot.Slots.{run_older}
use Rattle.settle_progress.specs.Epochs.Epochs.{IsCurrent}
use Rattle.settle_progress.proofs.Epochs.Calls.{fresh, mount_is, mounts_is, unmount_is}
use Rattle.settle_progress.proofs.Epochs.Epochs.{entry_stays, is_agent}

-- what is answered otherwise

abbrev IsFresh : Setup → World → Request → Type 0
IsFresh setup w request = is_stale_told (reply_to (effect setup w seats.Agent request)) ≡ false

get_fresh : (setup : Setup) (w : World) (key : Key) → IsFresh setup w (requests.Get key)
unfolding effect on_devices device_answer outcome get reply_to reply_of
get_fresh setup w key = by (row_at key w.store.rows)
  where
    by : (x : Option Object) → is_stale_told (reply_of (get x)) ≡ false
    by None = refl
    by (Some o) = refl

list_fresh : (setup : Setup) (w : World) (kind : Kind) → IsFresh setup w (requests.List kind None)
unfolding effect on_devices device_answer outcome list reply_to reply_of
list_fresh setup w kind = refl

watch_fresh : (setup : Setup) (w : World) (kind : Kind) (from : ℕ) → IsFresh setup w (requests.Watch kind from)
unfolding effect watch reply_to reply_of
watch_fresh setup w kind from = by (nat_lt w.store.version from) (nat_lt from (oldest (base setup) w.store.version)) refl refl
  where
    by : (a b : Bool) → nat_lt w.store.version from ≡ a → nat_lt from (oldest (base setup) w.store.version) ≡ b → IsFresh setup w (requests.Watch kind from)
    by true b ea eb = rw ea refl
    by false true ea eb = rw (ea, eb) refl
    by false false ea eb = rw (ea, eb) refl

take_fresh : (setup : Setup) (w : World) (node : List ℕ) → IsFresh setup w (requests.TakeNode node)
unfolding effect on_devices device_answer take_node reply_to
take_fresh setup w node = refl

module _ (setup : Setup) (w : World) (node : List ℕ) (epoch : ℕ) (pod : Uid) (current : epoch ≡ epoch_of node w.devices.epochs) where
  mount_fresh : (claims : List Uid) → IsFresh setup w (requests.Mount node epoch pod claims)
  unfolding reply_to with_mounts
  mount_fresh claims = ap (λ x. is_stale_told (reply_to x)) (mount_is setup w seats.Agent node epoch pod refl current claims)

  unmount_fresh : IsFresh setup w (requests.Unmount node epoch pod)
  unfolding reply_to with_mounts
  unmount_fresh = ap (λ x. is_stale_told (reply_to x)) (unmount_is setup w seats.Agent node epoch pod refl current)

  mounts_fresh : IsFresh setup w (requests.Mounts node epoch)
  unfolding reply_to with_mounts
  mounts_fresh = ap (λ x. is_stale_told (reply_to x)) (mounts_is setup w seats.Agent node epoch pod refl current)

  finish_fresh : (key : Key) → IsFresh setup w (requests.FinishPod key pod node epoch)
  unfolding effect on_devices device_answer outcome finish refuse refuse_stale reply_to reply_of
  finish_fresh key = rw (fresh w.devices node epoch current) (by (pod_with pod (row_at key w.store.rows)))
    where
      tests : (p : PodData) (a b : Bool) → is_stale_told (reply_of
          (refuse a (Invalid fields.Deletion) (refuse b (Invalid fields.NodeName) (Removes (at_version (Pod p) (w.store.version + 1)))))) ≡ false
      tests p true b = refl
      tests p false true = refl
      tests p false false = refl

      by : (x : Option PodData) → is_stale_told (reply_of (finish w.store None node x)) ≡ false
      by None = refl
      by (Some p) = tests p (not (is_deleting p.meta)) (not (bytes_eq p.node node))

-- the node of a task is the agent's

abbrev op_in : AgentOp → Task → AgentOp
op_in op (tasks.Agent x) = x
op_in op t = op

abbrev IsOn : List ℕ → Task → Type 0
IsOn node (tasks.Agent op) = op.node ≡ node
IsOn node t = ⊤

known_on : (node : List ℕ) (epoch : ℕ) (mounts : List MountRow) (p : PodData) (u : Option Uid) (op : AgentOp) → agent_known node epoch mounts p u ≡ Some op → op.node ≡ node
known_on node epoch mounts p None op e = none_some e
known_on node epoch mounts p (Some uid) op e = by (is_deleting p.meta) (has_row uid mounts) e
  where
    by : (d m : Bool) → (if d then Some (at_start node epoch p uid steps.Unmounts) else if m then None else Some (at_start node epoch p uid (step_for p []))) ≡ Some op → op.node ≡ node
    by true m f = ap (λ (x : AgentOp). x.node) (sym (one _ op f))
    by false true f = none_some f
    by false false f = ap (λ (x : AgentOp). x.node) (sym (one _ op f))

begins_on : (node : List ℕ) (epoch : ℕ) (mounts : List MountRow) (row : Option Object) (op : AgentOp) → agent_begins node epoch mounts row ≡ Some op → op.node ≡ node
begins_on node epoch mounts (Some (Pod p)) op e = by (is_scheduled p && bytes_eq p.node node) e
  where
    by : (b : Bool) → (if b then agent_known node epoch mounts p p.meta.uid else None) ≡ Some op → op.node ≡ node
    by true f = known_on node epoch mounts p p.meta.uid op f
    by false f = none_some f
begins_on node epoch mounts None op e = none_some e
begins_on node epoch mounts (Some (Class x)) op e = none_some e
begins_on node epoch mounts (Some (Node x)) op e = none_some e
begins_on node epoch mounts (Some (Volume x)) op e = none_some e
begins_on node epoch mounts (Some (Claim x)) op e = none_some e

abbrev begun_task : Task → First → Task
begun_task t (firsts.Begins task) = task
begun_task t first = t

abbrev is_begun : First → Bool
is_begun (firsts.Begins task) = true
is_begun first = false

first_on : (node : List ℕ) (x : Option AgentOp) (t : Task) → ((op : AgentOp) → x ≡ Some op → op.node ≡ node) → firsts.Begins t ≡ agent_first x → IsOn node t
first_on node None t on e = absurd (true≢false (ap is_begun e))
first_on node (Some op) t on e = subst (IsOn node) (sym (ap (begun_task t) e)) (on op refl)

decided_on : (node : List ℕ) (epoch : Option ℕ) (mounts : Option (List MountRow)) (row : Option Object) (t : Task) → IsAgentFirst node epoch mounts row (firsts.Begins t) → IsOn node t
decided_on node (Some epoch) (Some mounts) row t e = first_on node (agent_begins node epoch mounts row) t (λ op is. begins_on node epoch mounts row op is) e
decided_on node None mounts row t e = absurd e
decided_on node (Some epoch) None row t e = absurd e

moved_on : (node : List ℕ) (t : Task) (reply : Reply) (next : Task) → IsOn node t → task_moved t reply ≡ Some next → IsOn node next
unfolding agent_moved
moved_on node (tasks.Agent op) reply next on e = subst (IsOn node) (one _ next e) (by (ready_by op.step reply))
  where
    by : (r : Option ReadyClaim) → (agent_after op op.step r reply).node ≡ node
    by None = on
    by (Some r) = on
moved_on node (tasks.ClaimProtect op) reply next on e = subst (IsOn node) (one _ next e) tt
moved_on node (tasks.VolumeProtect op) reply next on e = subst (IsOn node) (one _ next e) tt
moved_on node (tasks.Provision op) reply next on e = subst (IsOn node) (one _ next e) tt
moved_on node (tasks.Erase op) reply next on e = subst (IsOn node) (one _ next e) tt
moved_on node (tasks.Schedule op) reply next on e = subst (IsOn node) (one _ next e) tt
moved_on node (tasks.Binder m) reply next on e = by (binder.moved m reply) e
  where
    by : (x : Option Machine) → option_map (λ y. tasks.Binder y) x ≡ Some next → IsOn node next
    by None f = none_some f
    by (Some y) f = subst (IsOn node) (one _ next f) tt

goes_on : (node : List ℕ) (u next : Under) (reply : Reply) → IsOn node u.task → under_after u reply ≡ Some next → IsOn node next.task
goes_on node u next reply on e = by (task_moved u.task reply) refl e
  where
    call : (t : Task) (c : Option Request) → IsOn node t → with_call u.key t c ≡ Some next → IsOn node next.task
    call t None x f = none_some f
    call t (Some c) x f = subst (λ (n : Under). IsOn node n.task) (one _ next f) x

    by : (x : Option Task) → task_moved u.task reply ≡ x → with_task u.key x ≡ Some next → IsOn node next.task
    by None at f = none_some f
    by (Some t) at f = call t (task_call t) (moved_on node u.task reply t on at) f

under_on : (role : Role) (u : Under) (mine : List Entry) → role.kind ≡ seats.Agent → IsUnderWay role u mine → IsOn role.node u.task
under_on role u mine is (Begun c stand order listed gives) =
    decided_on role.node (memory_of role mine).epoch (memory_of role mine).mounts (row_at u.key (all_objects c)) u.task
    (subst (λ kind. IsFirstOf kind role.node (memory_of role mine) (all_objects c) u.key (firsts.Begins u.task)) is gives.decided)
under_on role u mine is (WentOn before e past split way told asked moves) = goes_on role.node before u e.reply (under_on role before past is way) moves

-- the answer to an agent's call

module _ (setup : Setup) (h : List Entry) (seat : ℕ) (node : List ℕ) (current : IsCurrent setup h node seat) where
  at_epoch : (name : List ℕ) (epoch : ℕ) → name ≡ node → last_epoch name (own seat h) ≡ Some epoch → epoch ≡ epoch_of name (world setup h).devices.epochs
  at_epoch name epoch same told = current epoch (ap (λ n. last_epoch n (own seat h)) (sym same) ∙ told) ∙ ap (λ n. epoch_now setup h n) (sym same)

  step_fresh : (op : AgentOp) (step : AgentStep) (request : Request) → op.node ≡ node → StepKeeps step (at_rest op) (own seat h)
      → agent_call_at op step ≡ Some request → IsFresh setup (world setup h) request
  step_fresh op (steps.ReadsClaim name) request on kept e = subst (IsFresh setup (world setup h)) (one _ request e) (get_fresh setup (world setup h) _)
  step_fresh op (steps.ReadsVolume name c) request on kept e = subst (IsFresh setup (world setup h)) (one _ request e) (get_fresh setup (world setup h) _)
  step_fresh op steps.MountsPod request on kept e =
      subst (IsFresh setup (world setup h)) (one _ request e) (mount_fresh setup (world setup h) op.node op.epoch op.uid (at_epoch op.node op.epoch on kept.pod.current) _)
  step_fresh op steps.Unmounts request on kept e =
      subst (IsFresh setup (world setup h)) (one _ request e) (unmount_fresh setup (world setup h) op.node op.epoch op.uid (at_epoch op.node op.epoch on kept.current))
  step_fresh op steps.ReadsMounts request on kept e =
      subst (IsFresh setup (world setup h)) (one _ request e) (mounts_fresh setup (world setup h) op.node op.epoch op.uid (at_epoch op.node op.epoch on kept.current))
  step_fresh op steps.Finishes request on kept e =
      subst (IsFresh setup (world setup h)) (one _ request e) (finish_fresh setup (world setup h) op.node op.epoch op.uid (at_epoch op.node op.epoch on kept.ending.current) _)
  step_fresh op steps.Done request on kept e = none_some e
  step_fresh op steps.Parked request on kept e = none_some e

  task_fresh : (t : Task) (request : Request) → task_kind t ≡ seats.Agent → IsOn node t → TaskKeeps t (own seat h) → task_call t ≡ Some request → IsFresh setup (world setup h) request
  unfolding agent_call
  task_fresh (tasks.Agent op) request is on kept e = step_fresh op op.step request on kept e
  task_fresh (tasks.Binder m) request is on kept e = absurd (true≢false (sym (ap is_agent is)))
  task_fresh (tasks.ClaimProtect op) request is on kept e = absurd (true≢false (sym (ap is_agent is)))
  task_fresh (tasks.VolumeProtect op) request is on kept e = absurd (true≢false (sym (ap is_agent is)))
  task_fresh (tasks.Provision op) request is on kept e = absurd (true≢false (sym (ap is_agent is)))
  task_fresh (tasks.Erase op) request is on kept e = absurd (true≢false (sym (ap is_agent is)))
  task_fresh (tasks.Schedule op) request is on kept e = absurd (true≢false (sym (ap is_agent is)))

  read_fresh : (kind : Kind) (ask : NextRead) → IsFresh setup (world setup h) (read_request kind ask)
  read_fresh kind asks.List = list_fresh setup (world setup h) kind
  read_fresh kind (asks.Watch from) = watch_fresh setup (world setup h) kind from

  start_fresh : (epoch : Option ℕ) (told : Bool) (request : Request) → epoch ≡ last_epoch node (own seat h) → agent_start node epoch told ≡ Some request → IsFresh setup (world setup h) request
  start_fresh None told request is e = subst (IsFresh setup (world setup h)) (one _ request e) (take_fresh setup (world setup h) node)
  start_fresh (Some epoch) false request is e =
      subst (IsFresh setup (world setup h)) (one _ request e) (mounts_fresh setup (world setup h) node epoch (record { 0 = 0 }) (at_epoch node epoch refl (sym is)))
  start_fresh (Some epoch) true request is e = none_some e

  pub asked_fresh : (s : ActorState) (request : Request) → s.role ≡ agent_of node → StandsFor s (own seat h) → asked s ≡ Some request → IsFresh setup (world setup h) request
  asked_fresh s request role stands ask = by s.given ask
    where
      kind : s.role.kind ≡ seats.Agent
      kind = ap (λ (r : Role). r.kind) role

      named : s.role.node ≡ node
      named = ap (λ (r : Role). r.node) role

      epoch : s.memory.epoch ≡ last_epoch node (own seat h)
      epoch = ap (λ (m : Memory). m.epoch) (stands.memory ∙ ap (λ r. memory_of r (own seat h)) role) ∙ epoch_stands (agent_of node) (own seat h)

      task : (u : Option Under) → AnyIsUnderWay s.role u (own seat h) → option_map call_under u ≡ Some request → IsFresh setup (world setup h) request
      task None way c = none_some c
      task (Some u) way c =
          let k = keeps_under s.role u (own seat h) (stood s (own seat h) stands) way in
          task_fresh u.task request (k.of_kind ∙ kind) (subst (λ n. IsOn n u.task) named (under_on s.role u (own seat h) kind way)) k.keeps (k.call ∙ c)

      by : (g : Option Given) → given_call s g ≡ Some request → IsFresh setup (world setup h) request
      by None c = none_some c
      by (Some givens.Task) c = task s.under stands.under_way c
      by (Some givens.Start) c =
          start_fresh s.memory.epoch (is_some s.memory.mounts) request epoch
          (subst (λ n. agent_start n s.memory.epoch (is_some s.memory.mounts) ≡ Some request) named (subst (λ k. start_of k s.role.node s.memory ≡ Some request) kind c))
      by (Some (givens.Read k)) c = subst (IsFresh setup (world setup h)) (one _ request c) (read_fresh k (ask_of (cache_of k s.caches)))

-- so a slot leaves it awake

pub told_memory : (s : ActorState) (caches : AllKnown) (request : Request) (reply : Reply) → (absorbed s caches request (Told reply)).memory ≡ memory_after s.role request reply s.memory
told_memory s caches request reply = by s.given
  where
    task : (u : Option Under) → (task_told (learned s caches request reply) reply u).memory ≡ memory_after s.role request reply s.memory
    task None = refl
    task (Some u) = refl

    by : (g : Option Given) → (given_told (learned s caches request reply) request reply g).memory ≡ memory_after s.role request reply s.memory
    by None = refl
    by (Some givens.Task) = task s.under
    by (Some givens.Start) = refl
    by (Some (givens.Read kind)) = refl

pub lost_memory : (s : ActorState) (caches : AllKnown) (request : Request) → (absorbed s caches request Lost).memory ≡ s.memory
lost_memory s caches request = by s.given
  where
    task : (u : Option Under) → (lost_under s u).memory ≡ s.memory
    task None = refl
    task (Some u) = refl

    by : (g : Option Given) → (lost_given s g).memory ≡ s.memory
    by None = refl
    by (Some givens.Task) = task s.under
    by (Some givens.Start) = refl
    by (Some (givens.Read kind)) = refl

module _ (setup : Setup) (lets : Lets) (seat : ℕ) (node : List ℕ) (after : ActorState) (past : List Entry) (left : ℕ) (idle : Bool) (history : IsHistory setup past) where
  pub run_awake : (s : ActorState) (h : List Entry) (b : ℕ) → Runs lets seat after past left idle s h b → s.role ≡ agent_of node
      → IsCurrent setup h node seat → s.memory.stale ≡ false → after.memory.stale ≡ false
  run_awake s h b (IsSpent none state entries rest busy) role current awake = ap (λ (x : ActorState). x.memory.stale) state ∙ awake
  run_awake s h b (IsIdle some ready turn entries rest calm) role current awake = ap (λ (m : Memory). m.stale) (turn_memory s after Idle turn) ∙ awake
  run_awake s h b (Asks given next request reply some ready turn passes absorbs more) role current awake =
      run_awake next (told_entry seat given request reply ∷ h) (b - 1) more (still_role s given next (Call request) request (Told reply) turn absorbs ∙ role)
      (entry_stays setup (told_entry seat given request reply) h seat node whole.1 current (λ takes. (refl, refl))) stale
    where
      whole : IsHistory setup (told_entry seat given request reply ∷ h)
      whole = run_older setup lets seat after past left idle next _ _ more history

      given_role : given.role ≡ agent_of node
      given_role = turn_role s given (Call request) turn ∙ role

      answer : is_stale_told reply ≡ false
      answer =
          ap is_stale_told (whole.1 ∙ ap (λ k. reply_to (effect setup (world setup h) k request)) (ap (λ (r : Role). r.kind) given_role))
          ∙ asked_fresh setup h seat node current given request given_role
          (turn_stands s given (Call request) (own seat h) ready.rows ready.stands.told turn) (sym (gives_asked s given (Call request) turn))

      memory : next.memory ≡ agent_remembers node request reply given.memory
      memory = ap (λ (x : ActorState). x.memory) absorbs ∙ (told_memory given next.caches request reply ∙ ap (λ r. memory_after r request reply given.memory) given_role)

      stale : next.memory.stale ≡ false
      stale = ap (λ (m : Memory). m.stale) memory ∙ or_from given.memory.stale (is_stale_told reply) (ap (λ (m : Memory). m.stale) (turn_memory s given (Call request) turn) ∙ awake) answer
  run_awake s h b (IsHeld given next request some ready turn held absorbs more) role current awake =
      run_awake next h (b - 1) more (still_role s given next (Call request) request Lost turn absorbs ∙ role) current
      (ap (λ (x : ActorState). x.memory.stale) absorbs
      ∙ (ap (λ (m : Memory). m.stale) (lost_memory given next.caches request) ∙ (ap (λ (m : Memory). m.stale) (turn_memory s given (Call request) turn) ∙ awake)))
