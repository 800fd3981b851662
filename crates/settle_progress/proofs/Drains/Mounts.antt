-- A Mount to which an agent comes for a pod is of that pod, with the UIDs of its claims as they stand, in order: it has read each of them.
use Rattle.std.proofs.Common.{◌≡◌, ◌∙◌, ℕ, List, [], ◌∷◌, ◌++◌, Bool, true, false, true≢false, Option, Some, None, refl, sym, ap, subst, length, if◌then◌else◌}
use Rattle.std.specs.Prelude.{◌&&◌, bytes_eq, not, map, slice_get}
use Rattle.kube_objects.specs.declared.key.Key.{Key}
use Rattle.kube_parts.specs.declared.uid.Uid.{Uid}
use Rattle.kube_objects.specs.declared.objects.Claim.{Claim as ClaimData}
use Rattle.kube_objects.specs.declared.objects.Pod.{Pod as PodData}
use Rattle.kube_objects.specs.declared.objects.Object.{Object}
use Rattle.kube_objects.specs.declared.objects.Object.TheVariants.{Class, Node, Volume, Claim, Pod}
use Rattle.kube_objects.specs.Bindings.{carries, is_deleting, is_scheduled}
use Rattle.kube_objects.specs.Keys.{row_at}
use Rattle.call_types.specs.declared.entry.Entry.{Entry}
use Rattle.call_types.specs.declared.reply.MountRow.{MountRow}
use Rattle.call_types.specs.declared.reply.Reply.{Reply}
use Rattle.call_types.specs.declared.reply.Reply.TheVariants.{Found, Mounted, Refused}
use Rattle.call_types.specs.declared.request.Request.{Request}
use Rattle.call_types.specs.declared.request.Request.TheVariants as requests
use Rattle.call_types.specs.declared.request.SeatKind.TheVariants as seats
use Rattle.call_types.specs.declared.setup.Setup.{Setup}
use Rattle.binder_model.specs.AgentLicence.{has_row}
use Rattle.binder_model.specs.Choice.{claim_in, claim_named}
use Rattle.binder_model.specs.ObjectKeys.{claim_key, volume_key}
use Rattle.binder_model.specs.World.{IsHistory, World, effect, reply_to, world}
use Rattle.model_laws.proofs.Lists.{none_some, one}
use Rattle.node_agent.specs.declared.agent.AgentOp.{AgentOp}
use Rattle.node_agent.specs.declared.step.AgentStep.{AgentStep}
use Rattle.node_agent.specs.declared.step.AgentStep.TheVariants as steps
use Rattle.node_agent.specs.declared.step.ReadyClaim.{ReadyClaim}
use Rattle.node_agent.specs.Agents.{
  agent_after,
  agent_call,
  agent_call_at,
  agent_known,
  agent_moved,
  after_last,
  after_mounts,
  after_unmount,
  at_start,
  is_agent_ready,
  is_claim_read,
  is_volume_read,
  next_step,
  ready_by,
  ready_claim,
  step_for,
  uids_of,
}
use Rattle.worker_core.specs.declared.task.First.{First}
use Rattle.worker_core.specs.declared.task.First.TheVariants as firsts
use Rattle.worker_core.specs.declared.task.Task.{Task}
use Rattle.worker_core.specs.declared.task.Task.TheVariants as tasks
use Rattle.worker_core.specs.Tasks.{IsAgentFirst, agent_first, task_call, task_moved}
use Rattle.settle_slot.specs.Slot.Gates.{is_mount}
use Rattle.settle_slot.specs.Slot.Slots.{own_entry}
use Rattle.settle_due.proofs.Upkeep.Volumes.{get_said, get_stays, got}
use Rattle.settle_progress.specs.Drains.Held.{AreUidsOf, uid_in}
use Rattle.settle_progress.proofs.Agents.Mounting.{names_more as names_on}
use Rattle.settle_progress.proofs.Agents.Mounting.{next_name as name_after}

-- ---- lists

abbrev pub names_in : List ReadyClaim → List (List ℕ)
names_in ready = map (λ r. r.claim) ready

names_whole : (ready : List ReadyClaim) → names_in ready ++ [] ≡ names_in ready
names_whole [] = refl
names_whole (r ∷ ready) = ap (λ names. r.claim ∷ names) (names_whole ready)

uids_on : (rows : List Object) (namespace : List ℕ) (ready : List ReadyClaim) (r : ReadyClaim)
    → AreUidsOf rows namespace (names_in ready) (uids_of ready) → uid_in (claim_named rows namespace r.claim) ≡ Some r.uid
    → AreUidsOf rows namespace (names_in (ready ++ r ∷ [])) (uids_of (ready ++ r ∷ []))
uids_on rows namespace [] r are is = (is, tt)
uids_on rows namespace (y ∷ ready) r are is = (are.0, uids_on rows namespace ready r are.1 is)

-- ---- how far the agent has come for the pod, since it began on this world

-- the steps after which it does not mount
abbrev pub ends : AgentStep → Bool
ends (steps.ReadsClaim name) = false
ends (steps.ReadsVolume name c) = false
ends steps.MountsPod = false
ends step = true

module _ (setup : Setup) (seat : ℕ) (node : List ℕ) (w : World) (p : PodData) where
  -- the next claim is read, if there is one; its volume is read; or the agent does not mount
  pub data Comes (h : List Entry) (op : AgentOp) : Type 0 where
    Reads : (rest : List (List ℕ)) → world setup h ≡ w → is_deleting p.meta ≡ false → p.claims ≡ names_in op.ready ++ rest
        → AreUidsOf w.store.rows p.meta.namespace (names_in op.ready) (uids_of op.ready)
        → op.step ≡ next_step op.ready (slice_get rest 0) → Comes h op
    ReadsOf : (name : List ℕ) (rest : List (List ℕ)) (c : ClaimData) → world setup h ≡ w → is_deleting p.meta ≡ false
        → p.claims ≡ names_in op.ready ++ (name ∷ rest) → AreUidsOf w.store.rows p.meta.namespace (names_in op.ready) (uids_of op.ready)
        → row_at (claim_key p.meta.namespace name) w.store.rows ≡ Some (Claim c) → op.step ≡ steps.ReadsVolume name c → Comes h op
    Ends : ends op.step ≡ true → Comes h op

  pub record IsFor (h : List Entry) (op : AgentOp) : Type 0 where
    history : IsHistory setup h
    on : op.node ≡ node
    pod : op.pod ≡ p
    known : p.meta.uid ≡ Some op.uid
    comes : Comes h op

  abbrev pub IsOnWay : List Entry → Task → Type 0
  IsOnWay h (tasks.Agent op) = IsFor h op
  IsOnWay h t = ⊥

  -- ---- what begins

  abbrev task_in : First → Option Task
  task_in (firsts.Begins t) = Some t
  task_in first = None

  pub begun : (h : List Entry) (epoch : Option ℕ) (rows : Option (List MountRow)) (t : Task) → IsHistory setup h → world setup h ≡ w
      → IsAgentFirst node epoch rows (Some (Pod p)) (firsts.Begins t) → IsOnWay h t
  begun h None rows t history same first = absurd first
  begun h (Some epoch) None t history same first = absurd first
  begun h (Some epoch) (Some rows) t history same first = by_node (is_scheduled p && bytes_eq p.node node) first
    where
      begins : (op : AgentOp) → IsFor h op → firsts.Begins t ≡ firsts.Begins (tasks.Agent op) → IsOnWay h t
      begins op is e = subst (IsOnWay h) (one (tasks.Agent op) t (sym (ap task_in e))) is

      by_mount : (uid : Uid) (deleting mounted : Bool) → p.meta.uid ≡ Some uid → is_deleting p.meta ≡ deleting
          → firsts.Begins t ≡ agent_first (if deleting then Some (at_start node epoch p uid steps.Unmounts) else if mounted then None else Some
          (at_start node epoch p uid (step_for p []))) → IsOnWay h t
      by_mount uid true mounted known is e = begins (at_start node epoch p uid steps.Unmounts) (record { history = history; on = refl; pod = refl; known = known; comes = Ends refl }) e
      by_mount uid false true known is e = none_some (sym (ap task_in e))
      by_mount uid false false known is e = begins (at_start node epoch p uid (step_for p [])) (record
          { history = history; on = refl; pod = refl; known = known; comes = Reads p.claims same is refl tt refl }) e

      by_uid : (uid : Option Uid) → p.meta.uid ≡ uid → firsts.Begins t ≡ agent_first (agent_known node epoch rows p uid) → IsOnWay h t
      by_uid None known e = none_some (sym (ap task_in e))
      by_uid (Some uid) known e = by_mount uid (is_deleting p.meta) (has_row uid rows) known refl e

      by_node : (b : Bool) → firsts.Begins t ≡ agent_first (if b then agent_known node epoch rows p p.meta.uid else None) → IsOnWay h t
      by_node true e = by_uid p.meta.uid refl e
      by_node false e = none_some (sym (ap task_in e))

  -- ---- what an answer makes of it

  abbrev pub answer : List Entry → Request → Reply
  answer h call = reply_to (effect setup (world setup h) seats.Agent call)

  abbrev pub on_with : List Entry → Request → List Entry
  on_with h call = own_entry setup seat seats.Agent h call ∷ h

  ends_unmount : (reply : Reply) → ends (after_unmount reply) ≡ true
  ends_unmount (Mounted rows) = refl
  ends_unmount _ = refl

  ends_mounts : (uid : Uid) (reply : Reply) → ends (after_mounts uid reply) ≡ true
  ends_mounts uid (Mounted rows) = by (has_row uid rows)
    where
      by : (b : Bool) → ends (if b then steps.Parked else steps.Finishes) ≡ true
      by true = refl
      by false = refl
  ends_mounts uid _ = refl

  ends_last : (reply : Reply) → ends (after_last reply) ≡ true
  ends_last (Refused refusal) = refl
  ends_last _ = refl

  -- a step after which it does not mount is followed by one
  ended : (h : List Entry) (op : AgentOp) (step : AgentStep) (reply : Reply) → ends step ≡ true → Comes h (agent_after op step (ready_by step reply) reply)
  ended h op steps.Unmounts reply e = Ends (ends_unmount reply)
  ended h op steps.ReadsMounts reply e = Ends (ends_mounts op.uid reply)
  ended h op steps.Finishes reply e = Ends (ends_last reply)
  ended h op steps.Done reply e = Ends refl
  ended h op steps.Parked reply e = Ends refl
  ended h op (steps.ReadsClaim name) reply e = absurd (true≢false (sym e))
  ended h op (steps.ReadsVolume name c) reply e = absurd (true≢false (sym e))
  ended h op steps.MountsPod reply e = absurd (true≢false (sym e))

  -- the claim was read
  claim_read : (h : List Entry) (op : AgentOp) (name : List ℕ) (rest : List (List ℕ)) (x : Option Object) → world setup h ≡ w
      → is_deleting p.meta ≡ false → p.claims ≡ names_in op.ready ++ (name ∷ rest) → AreUidsOf w.store.rows p.meta.namespace (names_in op.ready) (uids_of op.ready)
      → row_at (claim_key p.meta.namespace name) w.store.rows ≡ x → Comes h (agent_after op (steps.ReadsClaim name) None (got x))
  claim_read h op name rest (Some (Claim c)) same staying split are there = by (is_agent_ready c && not (is_volume_read c.volume_name op.ready))
    where
      by : (b : Bool) → Comes h (record op { step = if b then steps.ReadsVolume name c else steps.Parked })
      by true = ReadsOf name rest c same staying split are there refl
      by false = Ends refl
  claim_read h op name rest None same staying split are there = Ends refl
  claim_read h op name rest (Some (Class o)) same staying split are there = Ends refl
  claim_read h op name rest (Some (Node o)) same staying split are there = Ends refl
  claim_read h op name rest (Some (Volume o)) same staying split are there = Ends refl
  claim_read h op name rest (Some (Pod o)) same staying split are there = Ends refl

  -- and its volume
  volume_read : (h : List Entry) (op : AgentOp) (name : List ℕ) (rest : List (List ℕ)) (c : ClaimData) (x : Option Object) → op.pod ≡ p
      → world setup h ≡ w → is_deleting p.meta ≡ false → p.claims ≡ names_in op.ready ++ (name ∷ rest)
      → AreUidsOf w.store.rows p.meta.namespace (names_in op.ready) (uids_of op.ready) → row_at (claim_key p.meta.namespace name) w.store.rows ≡ Some (Claim c)
      → Comes h (agent_after op (steps.ReadsVolume name c) (ready_by (steps.ReadsVolume name c) (got x)) (got x))
  volume_read h op name rest c (Some (Volume v)) pod same staying split are there = by (carries v c) c.meta.uid refl
    where
      counted : (r : ReadyClaim) → r.claim ≡ name → c.meta.uid ≡ Some r.uid → Comes h (record op { ready = op.ready ++ r ∷ []; step = step_for op.pod (op.ready ++ r ∷ []) })
      counted r named known =
          let whole : p.claims ≡ names_in (op.ready ++ r ∷ []) ++ rest = split ∙ (ap (λ n. names_in op.ready ++ (n ∷ rest)) (sym named) ∙ names_on op.ready r rest) in
          let uid : uid_in (claim_named w.store.rows p.meta.namespace r.claim) ≡ Some r.uid =
          ap (λ n. uid_in (claim_named w.store.rows p.meta.namespace n)) named ∙ (ap (λ o. uid_in (claim_in o)) there ∙ known) in
          Reads rest same staying whole (uids_on w.store.rows p.meta.namespace op.ready r are uid)
          (ap (λ (q : PodData). step_for q (op.ready ++ r ∷ [])) pod
          ∙ ap (next_step (op.ready ++ r ∷ [])) (ap (λ names. slice_get names (length (op.ready ++ r ∷ []))) whole ∙ name_after (op.ready ++ r ∷ []) rest))

      by : (b : Bool) (uid : Option Uid) → c.meta.uid ≡ uid → Comes h (agent_after op (steps.ReadsVolume name c) (if b then ready_claim name c uid else None) (Found (Volume v)))
      by true (Some uid) known = counted (record { claim = name; uid = uid; volume = c.volume_name }) refl known
      by true None known = Ends refl
      by false uid known = Ends refl
  volume_read h op name rest c None pod same staying split are there = Ends refl
  volume_read h op name rest c (Some (Class o)) pod same staying split are there = Ends refl
  volume_read h op name rest c (Some (Node o)) pod same staying split are there = Ends refl
  volume_read h op name rest c (Some (Claim o)) pod same staying split are there = Ends refl
  volume_read h op name rest c (Some (Pod o)) pod same staying split are there = Ends refl

  -- what a Get comes to
  abbrev After : List Entry → AgentOp → AgentStep → Request → Type 0
  After h op step call = Comes (on_with h call) (agent_after op step (ready_by step (answer h call)) (answer h call))

  got_so : (h : List Entry) (key : Key) → world setup h ≡ w → answer h (requests.Get key) ≡ got (row_at key w.store.rows)
  got_so h key same = get_said setup (world setup h) seats.Agent key ∙ ap (λ (x : World). got (row_at key x.store.rows)) same

  claim_asked : (h : List Entry) (op : AgentOp) (name : List ℕ) (rest : List (List ℕ)) (call : Request) → op.pod ≡ p → world setup h ≡ w
      → is_deleting p.meta ≡ false → p.claims ≡ names_in op.ready ++ (name ∷ rest) → AreUidsOf w.store.rows p.meta.namespace (names_in op.ready) (uids_of op.ready)
      → agent_call_at op (steps.ReadsClaim name) ≡ Some call → After h op (steps.ReadsClaim name) call
  claim_asked h op name rest call pod same staying split are calls = subst (After h op (steps.ReadsClaim name)) asks read
    where
      key : Key
      key = claim_key p.meta.namespace name

      asks : requests.Get key ≡ call
      asks = ap (λ (q : PodData). requests.Get (claim_key q.meta.namespace name)) (sym pod) ∙ one _ call calls

      read : After h op (steps.ReadsClaim name) (requests.Get key)
      read =
          subst (λ reply. Comes (on_with h (requests.Get key)) (agent_after op (steps.ReadsClaim name) None reply)) (sym (got_so h key same))
          (claim_read (on_with h (requests.Get key)) op name rest (row_at key w.store.rows) (get_stays setup (world setup h) seats.Agent key ∙ same) staying split are refl)

  volume_asked : (h : List Entry) (op : AgentOp) (name : List ℕ) (rest : List (List ℕ)) (c : ClaimData) (call : Request) → op.pod ≡ p
      → world setup h ≡ w → is_deleting p.meta ≡ false → p.claims ≡ names_in op.ready ++ (name ∷ rest)
      → AreUidsOf w.store.rows p.meta.namespace (names_in op.ready) (uids_of op.ready) → row_at (claim_key p.meta.namespace name) w.store.rows ≡ Some (Claim c)
      → agent_call_at op (steps.ReadsVolume name c) ≡ Some call → After h op (steps.ReadsVolume name c) call
  volume_asked h op name rest c call pod same staying split are there calls = subst (After h op (steps.ReadsVolume name c)) (one _ call calls) read
    where
      key : Key
      key = volume_key c.volume_name

      read : After h op (steps.ReadsVolume name c) (requests.Get key)
      read =
          subst (λ reply. Comes (on_with h (requests.Get key)) (agent_after op (steps.ReadsVolume name c) (ready_by (steps.ReadsVolume name c) reply) reply)) (sym (got_so h key same))
          (volume_read (on_with h (requests.Get key)) op name rest c (row_at key w.store.rows) pod (get_stays setup (world setup h) seats.Agent key ∙ same) staying split are there)

  next_asked : (h : List Entry) (op : AgentOp) (rest : List (List ℕ)) (call : Request) → op.pod ≡ p → world setup h ≡ w → is_deleting p.meta ≡ false
      → p.claims ≡ names_in op.ready ++ rest → AreUidsOf w.store.rows p.meta.namespace (names_in op.ready) (uids_of op.ready)
      → agent_call_at op (next_step op.ready (slice_get rest 0)) ≡ Some call → After h op (next_step op.ready (slice_get rest 0)) call
  next_asked h op [] call pod same staying split are calls = Ends (ends_last (answer h call))
  next_asked h op (name ∷ rest) call pod same staying split are calls = by (is_claim_read name op.ready) calls
    where
      by : (b : Bool) → agent_call_at op (if b then steps.Parked else steps.ReadsClaim name) ≡ Some call → After h op (if b then steps.Parked else steps.ReadsClaim name) call
      by true e = none_some e
      by false e = claim_asked h op name rest call pod same staying split are e

  comes_on : (h : List Entry) (op : AgentOp) (call : Request) → op.pod ≡ p → Comes h op → agent_call_at op op.step ≡ Some call → After h op op.step call
  comes_on h op call pod (Ends end) calls = ended (on_with h call) op op.step (answer h call) end
  comes_on h op call pod (Reads rest same staying split are step) calls =
      subst (λ st. After h op st call) (sym step) (next_asked h op rest call pod same staying split are (sym (ap (agent_call_at op) step) ∙ calls))
  comes_on h op call pod (ReadsOf name rest c same staying split are there step) calls =
      subst (λ st. After h op st call) (sym step) (volume_asked h op name rest c call pod same staying split are there (sym (ap (agent_call_at op) step) ∙ calls))

  -- the node, the pod and its UID stay
  still : (h new : List Entry) (op : AgentOp) (step : AgentStep) (x : Option ReadyClaim) (reply : Reply) → IsHistory setup new → IsFor h op
      → Comes new (agent_after op step x reply) → IsFor new (agent_after op step x reply)
  still h new op step None reply history is comes = record { history = history; on = is.on; pod = is.pod; known = is.known; comes = comes }
  still h new op step (Some r) reply history is comes = record { history = history; on = is.on; pod = is.pod; known = is.known; comes = comes }

  goes_on : (h : List Entry) (op : AgentOp) (call : Request) → IsFor h op → agent_call op ≡ Some call → IsFor (on_with h call) (agent_moved op (answer h call))
  unfolding agent_call agent_moved
  goes_on h op call is calls = still h (on_with h call) op op.step (ready_by op.step (answer h call)) (answer h call) (is.history, refl) is (comes_on h op call is.pod is.comes calls)

  pub moves : (h : List Entry) (t next : Task) (call : Request) → IsOnWay h t → task_call t ≡ Some call → task_moved t (answer h call) ≡ Some next → IsOnWay (on_with h call) next
  moves h (tasks.Agent op) next call is calls moved = subst (IsOnWay (on_with h call)) (one (tasks.Agent (agent_moved op (answer h call))) next moved) (goes_on h op call is calls)
  moves h _ next call is calls moved = absurd is

  -- ---- the Mount to which it comes

  pub record IsMountOf (h : List Entry) (call : Request) : Type 0 where
    pub history : IsHistory setup h
    pub staying : is_deleting p.meta ≡ false
    pub epoch : ℕ
    pub uid : Uid
    pub known : p.meta.uid ≡ Some uid
    pub claims : List Uid
    pub are : AreUidsOf w.store.rows p.meta.namespace p.claims claims
    pub is : call ≡ requests.Mount node epoch uid claims

  no_mount : (op : AgentOp) (step : AgentStep) (call : Request) → ends step ≡ true → agent_call_at op step ≡ Some call → is_mount call ≡ false
  no_mount op steps.Unmounts call end calls = sym (ap is_mount (one _ call calls))
  no_mount op steps.ReadsMounts call end calls = sym (ap is_mount (one _ call calls))
  no_mount op steps.Finishes call end calls = sym (ap is_mount (one _ call calls))
  no_mount op steps.Done call end calls = none_some calls
  no_mount op steps.Parked call end calls = none_some calls
  no_mount op (steps.ReadsClaim name) call end calls = absurd (true≢false (sym end))
  no_mount op (steps.ReadsVolume name c) call end calls = absurd (true≢false (sym end))
  no_mount op steps.MountsPod call end calls = absurd (true≢false (sym end))

  mounts_so : (h : List Entry) (op : AgentOp) (call : Request) → IsFor h op → agent_call op ≡ Some call → is_mount call ≡ true → IsMountOf h call
  unfolding agent_call
  mounts_so h op call is calls mount = by is.comes
    where
      whole : is_deleting p.meta ≡ false → p.claims ≡ names_in op.ready ++ []
          → AreUidsOf w.store.rows p.meta.namespace (names_in op.ready) (uids_of op.ready) → op.step ≡ steps.MountsPod → IsMountOf h call
      whole staying split are step = record {
        history = is.history;
        staying = staying;
        epoch = op.epoch;
        uid = op.uid;
        known = is.known;
        claims = uids_of op.ready;
        are = subst (λ names. AreUidsOf w.store.rows p.meta.namespace names (uids_of op.ready)) (sym (split ∙ names_whole op.ready)) are;
        is = sym (one _ call (sym (ap (agent_call_at op) step) ∙ calls)) ∙ ap (λ n. requests.Mount n op.epoch op.uid (uids_of op.ready)) is.on;
      }

      no_read : (key : Key) → Some (requests.Get key) ≡ Some call → IsMountOf h call
      no_read key e = absurd (true≢false (sym mount ∙ sym (ap is_mount (one _ call e))))

      by_next : (name : List ℕ) (b : Bool) → agent_call_at op (if b then steps.Parked else steps.ReadsClaim name) ≡ Some call → IsMountOf h call
      by_next name true e = none_some e
      by_next name false e = no_read _ e

      by_rest : (rest : List (List ℕ)) → is_deleting p.meta ≡ false → p.claims ≡ names_in op.ready ++ rest
          → AreUidsOf w.store.rows p.meta.namespace (names_in op.ready) (uids_of op.ready) → op.step ≡ next_step op.ready (slice_get rest 0) → IsMountOf h call
      by_rest [] staying split are step = whole staying split are step
      by_rest (name ∷ rest) staying split are step = by_next name (is_claim_read name op.ready) (sym (ap (agent_call_at op) step) ∙ calls)

      by : Comes h op → IsMountOf h call
      by (Ends end) = absurd (true≢false (sym mount ∙ no_mount op op.step call end calls))
      by (Reads rest same staying split are step) = by_rest rest staying split are step
      by (ReadsOf name rest c same staying split are there step) = no_read _ (sym (ap (agent_call_at op) step) ∙ calls)

  pub come_to : (h : List Entry) (t : Task) (call : Request) → IsOnWay h t → task_call t ≡ Some call → is_mount call ≡ true → IsMountOf h call
  come_to h (tasks.Agent op) call is calls mount = mounts_so h op call is calls mount
  come_to h _ call is calls mount = absurd is
