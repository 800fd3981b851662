-- A node agent at a point of its slot: the pod of the key as it stands, the epoch and the mounts by which it is decided.
use Rattle.std.proofs.Common.{◌≡◌, ◌∙◌, ◌⊎◌, ℕ, List, [], ◌∷◌, Bool, true, false, true≢false, Option, Some, None, inl, inr, refl, sym, ap, subst, if◌then◌else◌}
use Rattle.std.specs.Prelude.{◌&&◌, bytes_eq, not}
use Rattle.std.specs.List.{list_all}
use Rattle.std.proofs.lemmas.Slice.Eq.{bytes_eq-Decides}
use Rattle.std.proofs.lemmas.Bool.Decides.{Decides-eqb}
use Rattle.kube_objects.specs.declared.key.Key.{Key}
use Rattle.kube_parts.specs.declared.uid.Uid.{Uid}
use Rattle.kube_parts.specs.declared.names.Due.{Due}
use Rattle.kube_parts.specs.declared.names.Due.TheVariants as dues
use Rattle.kube_objects.specs.declared.objects.Pod.{Pod as PodData}
use Rattle.kube_objects.specs.declared.objects.Object.TheVariants.{Pod}
use Rattle.kube_objects.specs.Bindings.{is_deleting, is_scheduled}
use Rattle.kube_objects.specs.Keys.{row_at}
use Rattle.kube_objects.proofs.KeyOrder.{row_at_key}
use Rattle.call_types.specs.declared.entry.Entry.{Entry}
use Rattle.call_types.specs.declared.reply.MountRow.{MountRow}
use Rattle.call_types.specs.declared.request.Request.{Request}
use Rattle.call_types.specs.declared.request.Request.TheVariants as requests
use Rattle.call_types.specs.declared.request.SeatKind.TheVariants as seats
use Rattle.call_types.specs.declared.setup.Setup.{Setup}
use Rattle.binder_model.specs.AgentLicence.{IsEndingPod, has_row, last_epoch}
use Rattle.binder_model.specs.Choice.{claim_named}
use Rattle.binder_model.specs.Devices.{is_mounted_on}
use Rattle.binder_model.specs.Due.{IsDue, IsPodDue, agent_due, is_pod_mounted, is_pod_uid_mounted, is_ready}
use Rattle.binder_model.specs.Imports.{ImportsPass}
use Rattle.binder_model.specs.Licence.{Licensed}
use Rattle.binder_model.specs.ObjectKeys.{pod_key}
use Rattle.binder_model.specs.Reading.{follows}
use Rattle.binder_model.specs.Told.{IsNewest, ToldPod, own}
use Rattle.binder_model.specs.World.{World, world}
use Rattle.informer_cache.specs.All.{all_objects}
use Rattle.model_laws.proofs.Evidence.{told_map}
use Rattle.model_laws.proofs.Lists.{none_some, one}
use Rattle.node_agent.specs.Agents.{agent_begins, agent_known}
use Rattle.node_agent.specs.StartLaw.{AreLicensed as AreAgents}
use Rattle.node_agent.proofs.Histories.{histories_tell_by_reads}
use Rattle.safety_law.specs.Pods.Deletion.{IsDeletingPod}
use Rattle.safety_law.proofs.Pods.Newest.{staying_was_never_deleting}
use Rattle.safety_law.specs.Invariant.Holders.{epoch_now}
use Rattle.worker_core.specs.declared.role.Role.{Role}
use Rattle.worker_core.specs.declared.task.First.{First}
use Rattle.worker_core.specs.declared.task.Under.{Under}
use Rattle.worker_core.specs.declared.task.First.TheVariants as firsts
use Rattle.worker_core.specs.Memories.{Memory, memory_of}
use Rattle.worker_core.specs.Stands.{AreLicensed}
use Rattle.worker_core.proofs.AgentLaws.{are_agents}
use Rattle.worker_core.specs.States.{ActorState}
use Rattle.worker_core.specs.Tasks.{GivesCall, GivesNone, IsAgentFirst, IsDecision, agent_first, task_call}
use Rattle.worker_core.proofs.ByKind.{epoch_stands}
use Rattle.actor_rounds.specs.Drainers.{agent_of}
use Rattle.settle_alike.proofs.Alike.Dues.{alike_is_due}
use Rattle.settle_slot.specs.Slot.Slots.{IsDecisionPoint}
use Rattle.settle_slot.specs.Slot.Would.{WouldLast}
use Rattle.settle_due.proofs.Upkeep.Deciding.{DecisionLasts, IsPodAt, pod_alike, task_in}
use Rattle.settle_due.proofs.Upkeep.Known.{rows_known}
use Rattle.settle_due.proofs.Upkeep.Reclaims.{HasUid, has_uid}
use Rattle.settle_progress.specs.Agents.Acts.{AgentWouldActOn, IsHolding}
use Rattle.settle_progress.specs.Epochs.Remembered.{AreRemembered, WasLost, is_unmount_of}
use Rattle.settle_progress.proofs.Epochs.Remembered.{mounts_are_remembered}
use Rattle.node_agent.proofs.Licensed.{pod_map}

-- the agent acts on a key where each decision on it begins a task that will make a call that lasts

pub agent_acts_each : (setup : Setup) (seat : ℕ) (role : Role) (start : List Entry) (key : Key)
    → ((s : ActorState) (h : List Entry) → IsDecisionPoint setup seat role start s h → IsHolding setup h role.node seat → (first : First)
    → IsDecision s.role s.memory (all_objects s.caches) key first → DecisionLasts setup seat role start key h first)
    → AgentWouldActOn setup seat role start key
agent_acts_each setup seat role start key each = record { lasts = lasts; acts = acts }
  where
    lasts : (s : ActorState) (h : List Entry) (u : Under) → IsDecisionPoint setup seat role start s h → IsHolding setup h role.node seat
        → u.key ≡ key → GivesCall s.role s.memory (all_objects s.caches) u → WouldLast setup seat role.kind start h u
    lasts s h u p holding own_key gives =
        let b = each s h p holding (firsts.Begins u.task) (subst (λ k. IsDecision s.role s.memory (all_objects s.caches) k (firsts.Begins u.task)) own_key gives.decided) in
        let task : u.task ≡ b.task = ap (task_in u.task) b.is in
        let call : u.call ≡ b.call = one u.call b.call (sym gives.call ∙ (ap task_call task ∙ b.asks)) in
        subst (WouldLast setup seat role.kind start h) (λ i. record { key = (sym own_key) i; task = (sym task) i; call = (sym call) i }) b.will

    acts : (s : ActorState) (h : List Entry) (first : First) → IsDecisionPoint setup seat role start s h → IsHolding setup h role.node seat
        → GivesNone s.role s.memory (all_objects s.caches) key first → ⊥
    acts s h first p holding none = let b = each s h p holding first none.decided in none_some (sym (none.none b.task b.is) ∙ b.asks)

-- what is due for an agent

pub record IsMountDue (w : World) (p : PodData) : Type 0 where
  pub staying : is_deleting p.meta ≡ false
  pub unmounted : is_pod_mounted w.devices p ≡ false
  pub ready : list_all (λ name. is_ready w.store.rows (claim_named w.store.rows p.meta.namespace name)) p.claims ≡ true

abbrev is_mount : Option Due → Bool
is_mount (Some dues.Mount) = true
is_mount x = false

abbrev is_finish : Option Due → Bool
is_finish (Some dues.Finish) = true
is_finish x = false

pub mount_due : (w : World) (p : PodData) → agent_due w p ≡ Some dues.Mount → IsMountDue w p
mount_due w p e = by (is_deleting p.meta) (is_pod_mounted w.devices p) (list_all (λ name. is_ready w.store.rows (claim_named w.store.rows p.meta.namespace name)) p.claims) refl refl refl e
  where
    by : (d m r : Bool) → is_deleting p.meta ≡ d → is_pod_mounted w.devices p ≡ m → list_all (λ name. is_ready w.store.rows (claim_named w.store.rows p.meta.namespace name)) p.claims ≡ r
        → (if d then Some dues.Finish else if not m && r then Some dues.Mount else None) ≡ Some dues.Mount → IsMountDue w p
    by true m r ed em er f = absurd (true≢false (sym (ap is_mount f)))
    by false true r ed em er f = none_some f
    by false false false ed em er f = none_some f
    by false false true ed em er f = record { staying = ed; unmounted = em; ready = er }

pub finish_due : (w : World) (p : PodData) → agent_due w p ≡ Some dues.Finish → is_deleting p.meta ≡ true
finish_due w p e = by (is_deleting p.meta) (is_pod_mounted w.devices p) (list_all (λ name. is_ready w.store.rows (claim_named w.store.rows p.meta.namespace name)) p.claims) refl e
  where
    by : (d m r : Bool) → is_deleting p.meta ≡ d → (if d then Some dues.Finish else if not m && r then Some dues.Mount else None) ≡ Some dues.Finish → is_deleting p.meta ≡ true
    by true m r ed f = ed
    by false true r ed f = none_some f
    by false false false ed f = none_some f
    by false false true ed f = absurd (true≢false (sym (ap is_finish f)))

-- it is one of the two
pub mount_or_finish : (w : World) (p : PodData) (action : Due) → agent_due w p ≡ Some action → (agent_due w p ≡ Some dues.Mount) ⊎ (agent_due w p ≡ Some dues.Finish)
mount_or_finish w p action = by (is_deleting p.meta) (not (is_pod_mounted w.devices p) && list_all (λ name. is_ready w.store.rows (claim_named w.store.rows p.meta.namespace name)) p.claims)
  where
    by : (d m : Bool) → (if d then Some dues.Finish else if m then Some dues.Mount else None) ≡ Some action
        → ((if d then Some dues.Finish else if m then Some dues.Mount else None) ≡ Some dues.Mount) ⊎ ((if d then Some dues.Finish else if m then Some dues.Mount else None) ≡ Some dues.Finish)
    by true m e = inr refl
    by false true e = inl refl
    by false false e = none_some e

-- no pod was asked to be unmounted that was not told deleting

unmounting : (uid : Uid) (mine : List Entry) (request : Request) → Licensed seats.Agent mine request → is_unmount_of uid request ≡ true → ToldPod (IsDeletingPod uid) mine
unmounting uid mine (requests.Unmount node epoch given) l h =
    let same : given ≡ uid = ap (λ (n : ℕ). record { 0 = n }) ((Decides-eqb given.0 uid.0).0 h) in
    told_map (pod_map (λ p (x : IsEndingPod given node p). record { same = x.same ∙ ap (λ (u : Uid). Some u) same; deleting = x.deleting })) mine l.1.told
unmounting uid mine _ l h = absurd (true≢false (sym h))

lost_deleting : (uid : Uid) (mine : List Entry) → AreAgents mine → WasLost (is_unmount_of uid) mine → ToldPod (IsDeletingPod uid) mine
lost_deleting uid [] licensed lost = absurd lost
lost_deleting uid (e ∷ mine) licensed (inl here) = inr (unmounting uid mine e.request licensed.1 here.1)
lost_deleting uid (e ∷ mine) licensed (inr more) = inr (lost_deleting uid mine licensed.0 more)

-- the pod of the key as it stands there, with what is due for it, and the decision on it: at the epoch of the node, and by mounts
-- among which it is not where it stays unmounted
pub record IsDecided (setup : Setup) (node : List ℕ) (key : Key) (h : List Entry) (action : Due) (first : First) : Type 0 where
  pub pod : PodData
  pub there : row_at key (world setup h).store.rows ≡ Some (Pod pod)
  pub uid : Uid
  pub known : pod.meta.uid ≡ Some uid
  pub placed : pod.node ≡ node
  pub due : agent_due (world setup h) pod ≡ Some action
  pub epoch : ℕ
  pub current : epoch ≡ epoch_now setup h node
  pub rows : List MountRow
  pub is : first ≡ agent_first (agent_known node epoch rows pod (Some uid))
  pub unremembered : is_deleting pod.meta ≡ false → is_pod_mounted (world setup h).devices pod ≡ false → has_row uid rows ≡ false

record IsDecidedBy (s : ActorState) (node : List ℕ) (q : PodData) (uid : Uid) (first : First) : Type 0 where
  epoch : ℕ
  rows : List MountRow
  told : s.memory.epoch ≡ Some epoch
  listed : s.memory.mounts ≡ Some rows
  is : first ≡ agent_first (agent_known node epoch rows q (Some uid))

module _ (setup : Setup) (seat : ℕ) (node : List ℕ) (start : List Entry) (key : Key) (p : PodData) (pass : ImportsPass setup.imports)
    (named : p.node ≡ node) (there : row_at key (world setup start).store.rows ≡ Some (Pod p)) (scheduled : is_scheduled p ≡ true)
    (s : ActorState) (h : List Entry) (point : IsDecisionPoint setup seat (agent_of node) start s h) (holding : IsHolding setup h node seat) where
  at : IsPodAt (row_at key (world setup h).store.rows) p
  at = pod_alike (world setup start) (world setup h) key p point.alike there

  known : HasUid at.pod.meta.uid
  known = has_uid at.pod.meta.uid (rows_known setup h pass key (Pod at.pod) at.is)

  placed : at.pod.node ≡ node
  placed = ap (λ (x : PodData). x.node) at.same ∙ named

  scheduled_there : is_scheduled at.pod ≡ true
  scheduled_there = ap is_scheduled at.same ∙ scheduled

  due_here : (action : Due) → agent_due (world setup start) p ≡ Some action → agent_due (world setup h) at.pod ≡ Some action
  due_here action due =
      let was : IsDue setup (world setup start) (Pod p) (Some action) = subst (λ b. IsPodDue setup (world setup start) p b (Some action)) (sym scheduled) (sym due) in
      let now : IsDue setup (world setup h) (Pod at.pod) (Some action) =
      alike_is_due setup (world setup start) (world setup h) (Pod p) (Pod at.pod) (Some action) point.alike (ap (λ x. Pod x) (sym at.same)) was in
      let here : Some action ≡ agent_due (world setup h) at.pod = subst (λ b. IsPodDue setup (world setup h) at.pod b (Some action)) scheduled_there now in
      sym here

  -- the pod is seen as it stands
  seen : row_at key (all_objects s.caches) ≡ Some (Pod at.pod)
  seen =
      point.sees key (ap (λ (r : Role). follows r.kind key.kind) point.role_is
      ∙ ap (λ (k : Key). follows seats.Agent k.kind) (sym (row_at_key key (Pod at.pod) (world setup h).store.rows at.is))) ∙ at.is

  -- what the agent remembers is what its seat was told
  remembers : s.memory ≡ memory_of (agent_of node) (own seat h)
  remembers = point.ready.stands.told.memory ∙ ap (λ r. memory_of r (own seat h)) point.role_is

  -- the epoch that it remembers is the node's
  epoch_told : (epoch : ℕ) → s.memory.epoch ≡ Some epoch → last_epoch node (own seat h) ≡ Some epoch
  epoch_told epoch told = sym (epoch_stands (agent_of node) (own seat h)) ∙ (ap (λ (m : Memory). m.epoch) (sym remembers) ∙ told)

  epoch_is : (epoch : ℕ) → s.memory.epoch ≡ Some epoch → epoch ≡ epoch_now setup h node
  epoch_is epoch told = holding.current epoch (epoch_told epoch told)

  -- how the key is decided
  decided : (first : First) → IsDecision s.role s.memory (all_objects s.caches) key first → IsDecidedBy s node at.pod known.uid first
  decided first d = by s.memory.epoch s.memory.mounts refl refl
      (subst (λ x. IsAgentFirst node s.memory.epoch s.memory.mounts x first) seen (subst (λ r. IsDecision r s.memory (all_objects s.caches) key first) point.role_is d))
    where
      on_node : (is_scheduled at.pod && bytes_eq at.pod.node node) ≡ true
      on_node = let same : bytes_eq at.pod.node node ≡ true = (bytes_eq-Decides at.pod.node node).1 placed in rw (scheduled_there, same) refl

      begins : (epoch : ℕ) (rows : List MountRow) → agent_begins node epoch rows (Some (Pod at.pod)) ≡ agent_known node epoch rows at.pod (Some known.uid)
      begins epoch rows = (λ i. if on_node i then agent_known node epoch rows at.pod at.pod.meta.uid else None) ∙ ap (agent_known node epoch rows at.pod) known.is

      by : (epoch : Option ℕ) (rows : Option (List MountRow)) → s.memory.epoch ≡ epoch → s.memory.mounts ≡ rows
          → IsAgentFirst node epoch rows (Some (Pod at.pod)) first → IsDecidedBy s node at.pod known.uid first
      by None rows told listed x = absurd x
      by (Some epoch) None told listed x = absurd x
      by (Some epoch) (Some rows) told listed x = record { epoch = epoch; rows = rows; told = told; listed = listed; is = x ∙ ap agent_first (begins epoch rows) }

  -- a pod that stays, and is not mounted, is not remembered as mounted

  newest : IsNewest (own seat h) (pod_key at.pod.meta.namespace at.pod.meta.name) (Pod at.pod)
  newest = subst (λ k. IsNewest (own seat h) k (Pod at.pod)) (sym (row_at_key key (Pod at.pod) (all_objects s.caches) seen)) (sym (point.ready.stands.told.caches.rows key) ∙ seen)

  never_deleting : is_deleting at.pod.meta ≡ false → ToldPod (IsDeletingPod known.uid) (own seat h) → ⊥
  never_deleting staying =
      let kind : s.role.kind ≡ seats.Agent = ap (λ (r : Role). r.kind) point.role_is in
      let agents : AreAgents (own seat h) = are_agents (own seat h) (subst (λ k. AreLicensed k (own seat h)) kind point.ready.stands.told.licensed) in
      staying_was_never_deleting setup h seat holding.run.imports holding.run.short point.history (histories_tell_by_reads setup h seat point.history agents) at.pod known.uid newest known.is staying

  unremembered : (epoch : ℕ) (rows : List MountRow) → s.memory.epoch ≡ Some epoch → s.memory.mounts ≡ Some rows → is_deleting at.pod.meta ≡ false
      → is_pod_mounted (world setup h).devices at.pod ≡ false → has_row known.uid rows ≡ false
  unremembered epoch rows told listed staying none = by (has_row known.uid rows) refl
    where
      kind : s.role.kind ≡ seats.Agent
      kind = ap (λ (r : Role). r.kind) point.role_is

      agents : AreAgents (own seat h)
      agents = are_agents (own seat h) (subst (λ k. AreLicensed k (own seat h)) kind point.ready.stands.told.licensed)

      holds : last_epoch node (own seat h) ≡ Some (epoch_now setup h node)
      holds = epoch_told epoch told ∙ ap (λ (n : ℕ). Some n) (epoch_is epoch told)

      kept : AreRemembered node (world setup h).devices.mounts rows (own seat h)
      kept = mounts_are_remembered setup h seat node rows holding.run holds (ap (λ (m : Memory). m.mounts) (sym remembers) ∙ listed)

      away : is_mounted_on node known.uid (world setup h).devices.mounts ≡ false
      away = (λ i. is_pod_uid_mounted (world setup h).devices ((sym placed) i) ((sym known.is) i)) ∙ none

      by : (b : Bool) → has_row known.uid rows ≡ b → has_row known.uid rows ≡ false
      by false e = e
      by true e = elim (kept.mounted known.uid e) [
        | inl mounted ↦ absurd (true≢false (sym mounted ∙ away))
        | inr lost ↦ absurd (never_deleting staying (lost_deleting known.uid (own seat h) agents lost))
      ]

  pub decided_so : (action : Due) → agent_due (world setup start) p ≡ Some action → (first : First)
      → IsDecision s.role s.memory (all_objects s.caches) key first → IsDecided setup node key h action first
  decided_so action due first d =
      let x = decided first d in
      record {
        pod = at.pod;
        there = at.is;
        uid = known.uid;
        known = known.is;
        placed = placed;
        due = due_here action due;
        epoch = x.epoch;
        current = epoch_is x.epoch x.told;
        rows = x.rows;
        is = x.is;
        unremembered = λ staying none. unremembered x.epoch x.rows x.told x.listed staying none;
      }
