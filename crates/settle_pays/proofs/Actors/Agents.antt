-- A node agent pays: it mounts a pod after it has read its claims and volumes, or unmounts it, reads the mounts and finishes it.
use Rattle.std.proofs.Common.{◌≡◌, ◌∙◌, ℕ, zero, suc, ◌+◌, ◌≤◌, List, [], ◌∷◌, ◌++◌, Bool, true, false, true≢false, Option, Some, None, refl, sym, ap, subst, arith, length, slice_get, if◌then◌else◌}
use Rattle.std.specs.Prelude.{◌&&◌, bytes_eq, not}
use Rattle.std.proofs.lemmas.Bool.{and_parts}
use Rattle.std.proofs.lemmas.List.{length-append}
use Rattle.std.proofs.lemmas.Option.{slice_get_within}
use Rattle.std.proofs.lemmas.Slice.Eq.{bytes_eq-Decides}
use Rattle.std.proofs.lemmas.Bool.Decides.{Decides-eqb}
use Rattle.kube_objects.specs.declared.key.Key.{Key}
use Rattle.kube_parts.specs.declared.uid.Uid.{Uid}
use Rattle.kube_objects.specs.declared.objects.Claim.{Claim as ClaimData}
use Rattle.kube_objects.specs.declared.objects.Pod.{Pod as PodData}
use Rattle.kube_objects.specs.declared.objects.Object.{Object}
use Rattle.kube_objects.specs.declared.objects.Object.TheVariants.{Class, Node, Volume, Claim, Pod}
use Rattle.kube_objects.specs.Bindings.{is_deleting, is_scheduled}
use Rattle.kube_objects.specs.Keys.{AreRows, key_of, row_at}
use Rattle.kube_objects.proofs.KeyOrder.{row_at_key}
use Rattle.call_types.specs.declared.entry.Entry.{Entry}
use Rattle.call_types.specs.declared.reply.MountRow.{MountRow}
use Rattle.call_types.specs.declared.reply.Reply.{Reply}
use Rattle.call_types.specs.declared.reply.Reply.TheVariants as replies
use Rattle.call_types.specs.declared.request.Request.{Request}
use Rattle.call_types.specs.declared.request.Request.TheVariants as requests
use Rattle.call_types.specs.declared.request.SeatKind.TheVariants as seats
use Rattle.call_types.specs.declared.setup.Setup.{Setup}
use Rattle.binder_model.specs.AgentLicence.{has_row}
use Rattle.binder_model.specs.Devices.{device_answer}
use Rattle.binder_model.specs.ObjectKeys.{claim_key, pod_key, volume_key}
use Rattle.binder_model.specs.Promises.{IsRunOf}
use Rattle.binder_model.specs.Reading.{follows}
use Rattle.binder_model.specs.Same.{same_uid}
use Rattle.binder_model.specs.Store.{State}
use Rattle.binder_model.specs.World.{World, effect, on_devices, world, world_after}
use Rattle.informer_cache.specs.All.{all_objects}
use Rattle.model_laws.proofs.Histories.{rows_stand_in_order}
use Rattle.model_laws.proofs.Lists.{none_some, one}
use Rattle.model_laws.proofs.Stood.{one_uid_one_key, stood}
use Rattle.node_agent.specs.declared.agent.AgentOp.{AgentOp}
use Rattle.node_agent.specs.declared.step.AgentStep.{AgentStep}
use Rattle.node_agent.specs.declared.step.AgentStep.TheVariants as steps
use Rattle.node_agent.specs.declared.step.ReadyClaim.{ReadyClaim}
use Rattle.node_agent.specs.Agents.{agent_after, agent_begins, agent_call, agent_known, agent_moved, at_start, is_agent_ready, is_claim_read, is_volume_read, next_step, ready_by, step_for, uids_of}
use Rattle.settle_measure.specs.Upkeep.Pays.{IsOnePod, is_pod_uid}
use Rattle.worker_core.specs.declared.role.Role.{Role}
use Rattle.worker_core.specs.declared.task.First.{First}
use Rattle.worker_core.specs.declared.task.First.TheVariants as firsts
use Rattle.worker_core.specs.declared.task.Task.{Task}
use Rattle.worker_core.specs.declared.task.Task.TheVariants as tasks
use Rattle.worker_core.specs.declared.task.Under.{Under}
use Rattle.worker_core.specs.States.{ActorState}
use Rattle.worker_core.specs.Tasks.{GivesCall, IsAgentFirst, IsFirstOf, agent_first, task_call, under_after, with_call}
use Rattle.settle_slot.specs.Slot.Slots.{IsDecisionPoint, own_entry}
use Rattle.settle_due.proofs.Upkeep.Volumes.{get_stays}
use Rattle.settle_pays.specs.Pays.Pays.{EachPays, Pays, WillPay}
use Rattle.settle_pays.proofs.Pays.Calls.{get_never, mounts_never}
use Rattle.settle_pays.specs.Actors.Agents.{AgentsPay}
use Rattle.settle_pays.proofs.Actors.Calls.{IsPodThere, finishing_pays, mounting_pays, unmounting_pays}

-- ---- its machine

module _ (p : PodData) (uid : Uid) (epoch : ℕ) (key : Key) where
  abbrev op_at : List ReadyClaim → AgentStep → AgentOp
  op_at ready step = record { node = p.node; epoch = epoch; pod = p; uid = uid; ready = ready; step = step }

  abbrev under_at : List ReadyClaim → AgentStep → Request → Under
  under_at ready step call = record { key = key; task = tasks.Agent (op_at ready step); call = call }

  abbrev mount_of : List ReadyClaim → Request
  mount_of ready = requests.Mount p.node epoch uid (uids_of ready)

  abbrev read_claim : List ℕ → Request
  read_claim name = requests.Get (claim_key p.meta.namespace name)

  abbrev read_volume : ClaimData → Request
  read_volume c = requests.Get (volume_key c.volume_name)

  abbrev unmount : Request
  unmount = requests.Unmount p.node epoch uid

  abbrev read_mounts : Request
  read_mounts = requests.Mounts p.node epoch

  abbrev finish : Request
  finish = requests.FinishPod (pod_key p.meta.namespace p.meta.name) uid p.node epoch

  -- what is under way at the step after so many claims were found ready
  abbrev next_at : List ReadyClaim → AgentStep → Option Under
  next_at ready step = with_call key (tasks.Agent (op_at ready step)) (agent_call (op_at ready step))

  -- the pod is mounted next, or a claim is read
  data Begins (ready : List ReadyClaim) (next : Under) : Type 0 where
    Mounts : next ≡ under_at ready steps.MountsPod (mount_of ready) → Begins ready next
    Reads : (name : List ℕ) → length ready + 1 ≤ length p.claims → next ≡ under_at ready (steps.ReadsClaim name) (read_claim name) → Begins ready next

  begins : (ready : List ReadyClaim) (next : Under) → next_at ready (step_for p ready) ≡ Some next → Begins ready next
  unfolding agent_call
  begins ready next e = by (slice_get p.claims (length ready)) refl e
    where
      by_read : (name : List ℕ) → length ready + 1 ≤ length p.claims → (b : Bool) → next_at ready (if b then steps.Parked else steps.ReadsClaim name) ≡ Some next → Begins ready next
      by_read name within true is = none_some is
      by_read name within false is = Reads name within (sym (one _ next is))

      by : (x : Option (List ℕ)) → slice_get p.claims (length ready) ≡ x → next_at ready (next_step ready x) ≡ Some next → Begins ready next
      by None at is = Mounts (sym (one _ next is))
      by (Some name) at is = let within = slice_get_within p.claims (length ready) name at in by_read name (omega (arith, within)) (is_claim_read name ready) is

  -- after a claim its volume is read, if anything
  record ReadsVolume (ready : List ReadyClaim) (name : List ℕ) (next : Under) : Type 0 where
    claim : ClaimData
    is : next ≡ under_at ready (steps.ReadsVolume name claim) (read_volume claim)

  claim_on : (ready : List ReadyClaim) (name : List ℕ) (call : Request) (reply : Reply) (next : Under)
      → under_after (under_at ready (steps.ReadsClaim name) call) reply ≡ Some next → ReadsVolume ready name next
  unfolding agent_call agent_moved
  claim_on ready name call (replies.Found (Claim c)) next e = by (is_agent_ready c && not (is_volume_read c.volume_name ready)) e
    where
      by : (b : Bool) → next_at ready (if b then steps.ReadsVolume name c else steps.Parked) ≡ Some next → ReadsVolume ready name next
      by true is = record { claim = c; is = sym (one _ next is) }
      by false is = none_some is
  claim_on ready name call (replies.Found _) next e = none_some e
  claim_on ready name call _ next e = none_some e

  -- after a volume the claim is ready, if anything
  record GoesOn (ready : List ReadyClaim) (next : Under) : Type 0 where
    found : ReadyClaim
    is : next_at (ready ++ found ∷ []) (step_for p (ready ++ found ∷ [])) ≡ Some next

  volume_on : (ready : List ReadyClaim) (name : List ℕ) (c : ClaimData) (call : Request) (reply : Reply) (next : Under)
      → under_after (under_at ready (steps.ReadsVolume name c) call) reply ≡ Some next → GoesOn ready next
  unfolding agent_call agent_moved
  volume_on ready name c call reply next e = by (ready_by (steps.ReadsVolume name c) reply) e
    where
      by : (x : Option ReadyClaim) → with_call key (tasks.Agent
          (agent_after (op_at ready (steps.ReadsVolume name c)) (steps.ReadsVolume name c) x reply))
          (agent_call (agent_after (op_at ready (steps.ReadsVolume name c)) (steps.ReadsVolume name c) x reply)) ≡ Some next → GoesOn ready next
      by (Some found) is = record { found = found; is = is }
      by None is = none_some is

  -- after the Mount nothing is left
  mount_ends : (ready : List ReadyClaim) (call : Request) (reply : Reply) → under_after (under_at ready steps.MountsPod call) reply ≡ None
  unfolding agent_call agent_moved
  mount_ends ready call (replies.Refused refusal) = refl
  mount_ends ready call _ = refl

  unmount_on : (call : Request) (reply : Reply) (next : Under) → under_after (under_at [] steps.Unmounts call) reply ≡ Some next → next ≡ under_at [] steps.ReadsMounts read_mounts
  unfolding agent_call agent_moved
  unmount_on call (replies.Mounted rows) next e = sym (one _ next e)
  unmount_on call _ next e = none_some e

  mounts_on : (call : Request) (reply : Reply) (next : Under) → under_after (under_at [] steps.ReadsMounts call) reply ≡ Some next → next ≡ under_at [] steps.Finishes finish
  unfolding agent_call agent_moved
  mounts_on call (replies.Mounted rows) next e = by (has_row uid rows) e
    where
      by : (b : Bool) → next_at [] (if b then steps.Parked else steps.Finishes) ≡ Some next → next ≡ under_at [] steps.Finishes finish
      by true is = none_some is
      by false is = sym (one _ next is)
  mounts_on call _ next e = none_some e

  finish_ends : (call : Request) (reply : Reply) → under_after (under_at [] steps.Finishes call) reply ≡ None
  unfolding agent_call agent_moved
  finish_ends call (replies.Refused refusal) = refl
  finish_ends call _ = refl

-- ---- what it has under way pays

module _ (setup : Setup) (seat : ℕ) (p : PodData) (uid : Uid) (epoch : ℕ) (key : Key) where
  abbrev after : List Entry → Request → List Entry
  after h call = own_entry setup seat seats.Agent h call ∷ h

  -- the pod stands as it was where the store does
  on_store : (w old : World) → w.store ≡ old.store → IsPodThere old p uid → IsPodThere w p uid
  on_store w old same s = record {
    order = subst (λ (st : State). AreRows st.rows) (sym same) s.order;
    there = ap (λ (st : State). row_at (key_of (Pod p)) st.rows) same ∙ s.there;
    known = s.known;
    scheduled = s.scheduled;
    only = λ q at own. s.only q (ap (λ (st : State). row_at (key_of (Pod q)) st.rows) (sym same) ∙ at) own;
  }

  after_read : (h : List Entry) (k : Key) → IsPodThere (world setup h) p uid → IsPodThere (world setup (after h (requests.Get k))) p uid
  after_read h k s = subst (λ w. IsPodThere w p uid) (sym (get_stays setup (world setup h) seats.Agent k)) s

  reads_never : (h : List Entry) (k : Key) → Pays setup (world setup h) seats.Agent (requests.Get k)
  reads_never h k lasts = absurd (get_never setup (world setup h) seats.Agent k lasts)

  -- a pod that stays

  mounts_pay : is_deleting p.meta ≡ false → (h : List Entry) → IsPodThere (world setup h) p uid → (ready : List ReadyClaim)
      → WillPay setup seat seats.Agent h (under_at p uid epoch key ready steps.MountsPod (mount_of p uid epoch key ready))
  mounts_pay staying h s ready = EachPays (mounting_pays setup (world setup h) p uid s epoch staying (uids_of ready)) (λ next e. none_some
      (sym (mount_ends p uid epoch key ready (mount_of p uid epoch key ready) _) ∙ e))

  volume_pays : (h : List Entry) → IsPodThere (world setup h) p uid → (ready : List ReadyClaim) (name : List ℕ) (u : Under) → ReadsVolume p uid epoch key ready name u
      → ((g : List Entry) → IsPodThere (world setup g) p uid → (found : ReadyClaim) (next : Under)
      → Begins p uid epoch key (ready ++ found ∷ []) next → WillPay setup seat seats.Agent g next) → WillPay setup seat seats.Agent h u
  volume_pays h s ready name u x rest =
      subst (WillPay setup seat seats.Agent h) (sym x.is)
      (EachPays (reads_never h (volume_key x.claim.volume_name))
      (λ next e. let g = volume_on p uid epoch key ready name x.claim (read_volume p uid epoch key x.claim) _ next e in
      rest (after h (read_volume p uid epoch key x.claim)) (after_read h (volume_key x.claim.volume_name) s) g.found next (begins p uid epoch key (ready ++ g.found ∷ []) next g.is)))

  -- so many claims at most are still to be read
  one_less : (n : ℕ) (ready : List ReadyClaim) (found : ReadyClaim) → length p.claims ≤ length ready + suc n → length p.claims ≤ length (ready ++ found ∷ []) + n
  one_less n ready found most = let grown = length-append ready (found ∷ []) in omega (arith, most, grown)

  next_pays : is_deleting p.meta ≡ false → (n : ℕ) (h : List Entry) → IsPodThere (world setup h) p uid → (ready : List ReadyClaim)
      → length p.claims ≤ length ready + n → (next : Under) → Begins p uid epoch key ready next → WillPay setup seat seats.Agent h next
  next_pays staying n h s ready most next (Mounts is) = subst (WillPay setup seat seats.Agent h) (sym is) (mounts_pay staying h s ready)
  next_pays staying zero h s ready most next (Reads name within is) = absurd (omega (arith, most, within))
  next_pays staying (suc n) h s ready most next (Reads name within is) =
      subst (WillPay setup seat seats.Agent h) (sym is)
      (EachPays (reads_never h (claim_key p.meta.namespace name))
      (λ u e. volume_pays (after h (read_claim p uid epoch key name)) (after_read h (claim_key p.meta.namespace name) s) ready name u
      (claim_on p uid epoch key ready name (read_claim p uid epoch key name) _ u e)
      (λ g t found v b. next_pays staying n g t (ready ++ found ∷ []) (one_less n ready found most) v b)))

  -- a pod that is to go

  finishes_pay : (h : List Entry) → IsPodThere (world setup h) p uid → WillPay setup seat seats.Agent h (under_at p uid epoch key [] steps.Finishes (finish p uid epoch key))
  finishes_pay h s = EachPays (finishing_pays setup (world setup h) p s.order s.there uid p.node epoch) (λ next e. none_some (sym (finish_ends p uid epoch key (finish p uid epoch key) _) ∙ e))

  listed_store : (h : List Entry) → (world setup (after h (read_mounts p uid epoch key))).store ≡ (world setup h).store
  unfolding effect on_devices device_answer world_after
  listed_store h = refl

  lists_pay : (h : List Entry) → IsPodThere (world setup h) p uid → WillPay setup seat seats.Agent h (under_at p uid epoch key [] steps.ReadsMounts (read_mounts p uid epoch key))
  lists_pay h s =
      EachPays (λ lasts. absurd (mounts_never setup (world setup h) seats.Agent p.node epoch lasts))
      (λ next e. subst (WillPay setup seat seats.Agent (after h (read_mounts p uid epoch key)))
      (sym (mounts_on p uid epoch key (read_mounts p uid epoch key) _ next e)) (finishes_pay (after h (read_mounts p uid epoch key)) (on_store _ (world setup h) (listed_store h) s)))

  unmounted_store : (h : List Entry) → (world setup (after h (unmount p uid epoch key))).store ≡ (world setup h).store
  unfolding effect on_devices device_answer world_after
  unmounted_store h = refl

  unmounts_pay : is_deleting p.meta ≡ true → (h : List Entry) → IsPodThere (world setup h) p uid
      → WillPay setup seat seats.Agent h (under_at p uid epoch key [] steps.Unmounts (unmount p uid epoch key))
  unmounts_pay going h s =
      EachPays (unmounting_pays setup (world setup h) p uid s epoch going)
      (λ next e. subst (WillPay setup seat seats.Agent (after h (unmount p uid epoch key)))
      (sym (unmount_on p uid epoch key (unmount p uid epoch key) _ next e)) (lists_pay (after h (unmount p uid epoch key)) (on_store _ (world setup h) (unmounted_store h) s)))

-- ---- a decision

abbrev pod_in : PodData → Option Object → PodData
pod_in p (Some (Pod x)) = x
pod_in p o = p

-- UIDs that pass the test are one
one_uid : (u v : Uid) → same_uid u v ≡ true → u ≡ v
one_uid u v same = let level : u.0 ≡ v.0 = (Decides-eqb u.0 v.0).0 same in λ i. record { 0 = level i }

-- no other pod has the UID
one_pod : (setup : Setup) (h : List Entry) → IsRunOf setup h → (p : PodData) (uid : Uid)
    → row_at (key_of (Pod p)) (world setup h).store.rows ≡ Some (Pod p) → p.meta.uid ≡ Some uid → IsOnePod (world setup h) p uid
one_pod setup h run p uid there known q at own = by q.meta.uid refl own
  where
    by : (x : Option Uid) → q.meta.uid ≡ x → is_pod_uid uid x ≡ true → q ≡ p
    by None its same = absurd (true≢false (sym same))
    by (Some other) its same =
        let uids : q.meta.uid ≡ Some uid = its ∙ ap Some (sym (one_uid uid other same)) in
        let keys = one_uid_one_key setup h run.imports run.short (Pod q) (Pod p) uid (stood setup h (Pod q) at) (stood setup h (Pod p) there) uids known in
        ap (pod_in p) (sym at ∙ (ap (λ k. row_at k (world setup h).store.rows) keys ∙ there))

abbrev task_in : Task → First → Task
task_in t (firsts.Begins task) = task
task_in t first = t

abbrev is_begun : First → Bool
is_begun (firsts.Begins task) = true
is_begun first = false

module _ (setup : Setup) (seat : ℕ) (role : Role) (kind : role.kind ≡ seats.Agent) (s : ActorState) (h : List Entry) (u : Under)
    (run : IsRunOf setup h) (p : IsDecisionPoint setup seat role h s h) (gives : GivesCall s.role s.memory (all_objects s.caches) u) where
  abbrev rows : List Object
  rows = all_objects s.caches

  s_kind : s.role.kind ≡ seats.Agent
  s_kind = ap (λ (r : Role). r.kind) p.role_is ∙ kind

  decided : IsAgentFirst s.role.node s.memory.epoch s.memory.mounts (row_at u.key rows) (firsts.Begins u.task)
  decided = subst (λ k. IsFirstOf k s.role.node s.memory rows u.key (firsts.Begins u.task)) s_kind gives.decided

  not_dropped : {X : Type 0} → firsts.Begins u.task ≡ firsts.Drops → X
  not_dropped e = absurd (true≢false (ap is_begun e))

  module _ (epoch : ℕ) (mounts : List MountRow) (q : PodData) (row : row_at u.key rows ≡ Some (Pod q)) where
    there : row_at u.key (world setup h).store.rows ≡ Some (Pod q)
    there = sym (p.sees u.key (ap (λ k. follows k u.key.kind) s_kind ∙ ap (λ (k : Key). follows seats.Agent k.kind) (sym (row_at_key u.key (Pod q) rows row)))) ∙ row

    here : row_at (key_of (Pod q)) (world setup h).store.rows ≡ Some (Pod q)
    here = ap (λ k. row_at k (world setup h).store.rows) (row_at_key u.key (Pod q) (world setup h).store.rows there) ∙ there

    module _ (uid : Uid) (known : q.meta.uid ≡ Some uid) (scheduled : is_scheduled q ≡ true) (placed : q.node ≡ s.role.node) where
      stands : IsPodThere (world setup h) q uid
      stands = record { order = rows_stand_in_order setup h; there = here; known = known; scheduled = scheduled; only = one_pod setup h run q uid here known }

      -- the machine that began, for the pod's own node
      begun : (step : AgentStep) → firsts.Begins u.task ≡ firsts.Begins (tasks.Agent (at_start s.role.node epoch q uid step)) → u.task ≡ tasks.Agent (op_at q uid epoch u.key [] step)
      begun step e = ap (task_in u.task) e ∙ ap (λ n. tasks.Agent (at_start n epoch q uid step)) (sym placed)

      goes : is_deleting q.meta ≡ true → firsts.Begins u.task ≡ firsts.Begins (tasks.Agent (at_start s.role.node epoch q uid steps.Unmounts)) → WillPay setup seat seats.Agent h u
      unfolding agent_call
      goes going e =
          let task = begun steps.Unmounts e in
          let call : u.call ≡ unmount q uid epoch u.key = one u.call (unmount q uid epoch u.key) (sym gives.call ∙ ap task_call task) in
          subst (WillPay setup seat seats.Agent h) (λ i. record { key = u.key; task = (sym task) i; call = (sym call) i }) (unmounts_pay setup seat q uid epoch u.key going h stands)

      stays : is_deleting q.meta ≡ false → firsts.Begins u.task ≡ firsts.Begins (tasks.Agent (at_start s.role.node epoch q uid (step_for q []))) → WillPay setup seat seats.Agent h u
      stays staying e =
          let task = begun (step_for q []) e in
          let calls : agent_call (op_at q uid epoch u.key [] (step_for q [])) ≡ Some u.call = ap task_call (sym task) ∙ gives.call in
          let next : next_at q uid epoch u.key [] (step_for q []) ≡ Some
          (record { key = u.key; task = tasks.Agent (op_at q uid epoch u.key [] (step_for q [])); call = u.call }) =
          ap (with_call u.key (tasks.Agent (op_at q uid epoch u.key [] (step_for q [])))) calls in
          subst (WillPay setup seat seats.Agent h) (λ i. record { key = u.key; task = (sym task) i; call = u.call })
          (next_pays setup seat q uid epoch u.key staying (length q.claims) h stands [] (omega arith) _ (begins q uid epoch u.key [] _ next))

      by_deleting : (deleting mounted : Bool) → is_deleting q.meta ≡ deleting
          → firsts.Begins u.task ≡ agent_first (if deleting then Some (at_start s.role.node epoch q uid steps.Unmounts) else if mounted then None
          else Some (at_start s.role.node epoch q uid (step_for q []))) → WillPay setup seat seats.Agent h u
      by_deleting true mounted is e = goes is e
      by_deleting false true is e = not_dropped e
      by_deleting false false is e = stays is e

    by_node : (on : Bool) (x : Option Uid) → (is_scheduled q && bytes_eq q.node s.role.node) ≡ on → q.meta.uid ≡ x
        → firsts.Begins u.task ≡ agent_first (if on then agent_known s.role.node epoch mounts q x else None) → WillPay setup seat seats.Agent h u
    by_node false x on known e = not_dropped e
    by_node true None on known e = not_dropped e
    by_node true (Some uid) on known e =
        let parts = and_parts (is_scheduled q) (bytes_eq q.node s.role.node) on in
        by_deleting uid known parts.0 ((bytes_eq-Decides q.node s.role.node).0 parts.1) (is_deleting q.meta) (has_row uid mounts) refl e

  by_row : (epoch : ℕ) (mounts : List MountRow) (row : Option Object) → row_at u.key rows ≡ row
      → firsts.Begins u.task ≡ agent_first (agent_begins s.role.node epoch mounts row) → WillPay setup seat seats.Agent h u
  by_row epoch mounts (Some (Pod q)) is e = by_node epoch mounts q is (is_scheduled q && bytes_eq q.node s.role.node) q.meta.uid refl refl e
  by_row epoch mounts None is e = not_dropped e
  by_row epoch mounts (Some (Class x)) is e = not_dropped e
  by_row epoch mounts (Some (Node x)) is e = not_dropped e
  by_row epoch mounts (Some (Volume x)) is e = not_dropped e
  by_row epoch mounts (Some (Claim x)) is e = not_dropped e

  by_memory : (epoch : Option ℕ) (mounts : Option (List MountRow)) → IsAgentFirst s.role.node epoch mounts (row_at u.key rows) (firsts.Begins u.task) → WillPay setup seat seats.Agent h u
  by_memory (Some epoch) (Some mounts) e = by_row epoch mounts (row_at u.key rows) refl e
  by_memory (Some epoch) None e = absurd e
  by_memory None (Some mounts) e = absurd e
  by_memory None None e = absurd e

pub agents_pay : AgentsPay
agents_pay setup seat role kind s h u run p gives =
    subst (λ k. WillPay setup seat k h u) (sym kind) (by_memory setup seat role kind s h u run p gives s.memory.epoch s.memory.mounts (decided setup seat role kind s h u run p gives))
