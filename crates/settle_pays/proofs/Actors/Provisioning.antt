-- The provisioner pays.
use Rattle.std.proofs.Common.{◌≡◌, ◌∙◌, ℕ, ◌+◌, ◌≤◌, List, [], ◌∷◌, Bool, true, false, true≢false, Option, Some, None, inl, inr, refl, sym, ap, subst, arith, if◌then◌else◌}
use Rattle.std.specs.Prelude.{◌&&◌, ◌||◌, bytes_eq, cond, is_none, not}
use Rattle.std.specs.List.{list_any}
use Rattle.plain_data.specs.Pairs.{Pair}
use Rattle.kube_parts.specs.declared.uid.Uid.{Uid}
use Rattle.kube_objects.specs.declared.key.Key.{Key}
use Rattle.kube_objects.specs.declared.objects.Class.{Class as ClassData}
use Rattle.kube_objects.specs.declared.objects.Claim.{Claim as ClaimData}
use Rattle.kube_objects.specs.declared.objects.DataId.{DataId}
use Rattle.kube_objects.specs.declared.objects.Object.{Object}
use Rattle.kube_objects.specs.declared.objects.Object.TheVariants.{Class, Node, Volume, Claim, Pod}
use Rattle.kube_objects.specs.Bindings.{class_of_claim, is_completed, is_deleting, is_empty}
use Rattle.kube_objects.specs.Keys.{row_at}
use Rattle.kube_objects.proofs.KeyOrder.{row_at_key}
use Rattle.call_types.specs.declared.entry.Entry.{Entry}
use Rattle.call_types.specs.declared.reply.Refusal.TheVariants as refusals
use Rattle.call_types.specs.declared.reply.Reply.{Reply}
use Rattle.call_types.specs.declared.reply.Reply.TheVariants as replies
use Rattle.call_types.specs.declared.request.Request.{Request}
use Rattle.call_types.specs.declared.request.Request.TheVariants as requests
use Rattle.call_types.specs.declared.request.SeatKind.TheVariants as seats
use Rattle.call_types.specs.declared.setup.Setup.{Setup}
use Rattle.binder_model.specs.Devices.{Data, DeviceAnswer, Devices, after_call, data_named, device_answer, first_fit, fresh_id, is_planned, provision, provision_new, topology_at, unless_planned}
use Rattle.binder_model.specs.Matching.{has_match}
use Rattle.binder_model.specs.ObjectKeys.{claim_key, class_key}
use Rattle.binder_model.specs.Provisioning.{data_name, is_wanting}
use Rattle.binder_model.specs.Reading.{follows}
use Rattle.binder_model.specs.Store.{has_no_names, leaves}
use Rattle.binder_model.specs.World.{OnDevices, World, effect, on_devices, reply_to, world, world_after}
use Rattle.informer_cache.specs.All.{all_objects}
use Rattle.model_laws.proofs.Histories.{rows_stand_in_order}
use Rattle.model_laws.proofs.Lists.{none_some, one}
use Rattle.reclaim_ops.specs.declared.erase.EraseOp.{EraseOp}
use Rattle.reclaim_ops.specs.declared.provision.ProvisionOp.{ProvisionOp}
use Rattle.reclaim_ops.specs.declared.provision.ProvisionStep.{ProvisionStep}
use Rattle.reclaim_ops.specs.declared.provision.ProvisionStep.TheVariants as steps
use Rattle.reclaim_ops.specs.Decisions.{at_step, begins_at, by_class, claim_begins, claim_for, first_step, volume_begins}
use Rattle.reclaim_ops.specs.Provisions.{ask_call, clear_call, create_call, provision_call, provision_call_at, provision_moved}
use Rattle.settle_measure.specs.Left.Measure.{faults_left, is_seeking, left_of, work_left}
use Rattle.settle_measure.specs.Left.Lowers.{StandsClaim}
use Rattle.settle_measure.proofs.Left.Faults.{back_fault_pays, calls_stay}
use Rattle.settle_measure.proofs.Binding.Alike.{node_goes}
use Rattle.settle_measure.proofs.Binding.Binding.{seeking_parts}
use Rattle.settle_measure.proofs.Upkeep.Provisions.{create_pays, provision_pays}
use Rattle.worker_core.specs.declared.role.Role.{Role}
use Rattle.worker_core.specs.declared.task.First.{First}
use Rattle.worker_core.specs.declared.task.First.TheVariants as firsts
use Rattle.worker_core.specs.declared.task.Task.TheVariants as tasks
use Rattle.worker_core.specs.declared.task.Under.{Under}
use Rattle.worker_core.specs.States.{ActorState}
use Rattle.worker_core.specs.Tasks.{GivesCall, IsFirstOf, erase_first, ops_first, task_call, under_after, with_call}
use Rattle.settle_writes.specs.Writes.Lasting.{LastsBetween}
use Rattle.settle_slot.specs.Slot.Slots.{IsDecisionPoint, own_entry}
use Rattle.settle_pays.specs.Pays.Pays.{EachPays, Pays, WillPay}
use Rattle.settle_pays.specs.Actors.Provisioning.{ProvisioningPays}
use Rattle.settle_pays.proofs.Pays.Alike.{left_alike}
use Rattle.settle_pays.proofs.Pays.Calls.{lowering_pays, no_devices_moved}

-- ---- the call for data

lacks_named : (name : List ℕ) (stored : List Data) → data_named name stored ≡ None → list_any (λ x. x.there && bytes_eq x.name name) stored ≡ false
lacks_named name [] e = refl
lacks_named name (x ∷ xs) e = by (x.there && bytes_eq x.name name) e (lacks_named name xs)
  where
    by : (b : Bool) → cond b (Some x) (data_named name xs) ≡ None
        → (data_named name xs ≡ None → list_any (λ y. y.there && bytes_eq y.name name) xs ≡ false) → (b || list_any (λ y. y.there && bytes_eq y.name name) xs) ≡ false
    by true found rest = none_some (sym found)
    by false found rest = rest found

module _ (setup : Setup) (w : World) (c : ClaimData) (s : StandsClaim w c) (seeking : is_seeking c ≡ true) (x : ClassData) (labels : Option (List Pair)) where
  abbrev name : List ℕ
  name = data_name s.uid

  abbrev answered : Bool → Option Data → DeviceAnswer
  answered planned found = if planned then after_call w.devices (replies.Refused (refusals.BackFault (w.devices.calls + 1))) else provision
      setup.pools w.devices name x.provisioner c.amount.bytes labels found

  abbrev PaysBy : DeviceAnswer → Type 0
  PaysBy a = LastsBetween w (world_after w (OnDevices a)) (reply_to (OnDevices a)) → work_left setup (world_after w (OnDevices a)) + 1 ≤ work_left setup w

  fault_pays : is_planned (w.devices.calls + 1) setup.faults ≡ true → PaysBy (after_call w.devices (replies.Refused (refusals.BackFault (w.devices.calls + 1))))
  unfolding world_after
  fault_pays planned lasts =
      let d : Devices = record w.devices { calls = w.devices.calls + 1 } in
      let same : left_of w ≡ left_of (record w { devices = d }) = left_alike w (record w { devices = d }) (record { rows = refl; stored = refl; mounts = refl }) in
      let less : faults_left setup d + 1 ≤ faults_left setup w.devices = back_fault_pays setup w.devices d refl planned in
      omega (arith, same, less)

  by_fit : is_planned (w.devices.calls + 1) setup.faults ≡ false → data_named name w.devices.stored ≡ None → (fit : Option ℕ)
      → first_fit x.provisioner c.amount.bytes labels w.devices.stored 0 setup.pools ≡ fit → PaysBy (provision_new setup.pools w.devices name x.provisioner c.amount.bytes labels fit)
  unfolding world_after reply_to provision_new device_answer unless_planned provision
  by_fit unplanned lacks None fits (inl written) = absurd written
  by_fit unplanned lacks None fits (inr (inl moved)) = no_devices_moved w moved
  by_fit unplanned lacks None fits (inr (inr fault)) = absurd fault
  by_fit unplanned lacks (Some place) fits lasts =
      let a : DeviceAnswer = provision_new setup.pools w.devices name x.provisioner c.amount.bytes labels (Some place) in
      let is : device_answer setup w.devices (requests.Provision name x.provisioner c.amount.bytes labels) ≡ Some a = rw (unplanned, lacks, fits) refl in
      let less = provision_pays setup w c x.provisioner c.amount.bytes labels a (fresh_id x.provisioner w.devices.stored)
      (topology_at place setup.pools) s seeking (lacks_named name w.devices.stored lacks) is refl in
      let rises : w.devices.calls ≤ w.devices.calls + 1 = omega arith in
      let faults : faults_left setup a.devices ≤ faults_left setup w.devices = calls_stay setup w.devices a.devices rises in
      omega (arith, less, faults)

  by_answer : (planned : Bool) → is_planned (w.devices.calls + 1) setup.faults ≡ planned → (found : Option Data) → data_named name w.devices.stored ≡ found → PaysBy (answered planned found)
  unfolding world_after reply_to provision
  by_answer true e found named lasts = fault_pays e lasts
  by_answer false e (Some given) named (inl written) = absurd written
  by_answer false e (Some given) named (inr (inl moved)) = no_devices_moved w moved
  by_answer false e (Some given) named (inr (inr fault)) = absurd fault
  by_answer false e None named lasts = by_fit e named (first_fit x.provisioner c.amount.bytes labels w.devices.stored 0 setup.pools) refl lasts

  ask_pays : Pays setup w seats.Ops (ask_call c s.uid x labels)
  unfolding effect on_devices device_answer unless_planned
  ask_pays lasts = by_answer (is_planned (w.devices.calls + 1) setup.faults) refl (data_named name w.devices.stored) refl lasts

-- ---- the machine

abbrev at : Key → ClaimData → Uid → ClassData → ProvisionStep → Request → Under
at key c uid x step call = record { key = key; task = tasks.Provision (at_step c uid x step); call = call }

-- after the call for data the volume is created, or the node is taken back, if anything
data GoesOn (key : Key) (c : ClaimData) (uid : Uid) (x : ClassData) (next : Under) : Type 0 where
  Creates : (id : DataId) (topology : Option (List ℕ × List ℕ)) → next ≡ at key c uid x (steps.Creates id topology) (create_call c uid x id topology) → GoesOn key c uid x next
  TakesBack : next ≡ at key c uid x steps.ClearsNode (clear_call c) → GoesOn key c uid x next

module _ (key : Key) (c : ClaimData) (uid : Uid) (x : ClassData) where
  -- a write is its last call
  create_ends : (id : DataId) (topology : Option (List ℕ × List ℕ)) (call : Request) (reply : Reply) → under_after (at key c uid x (steps.Creates id topology) call) reply ≡ None
  unfolding provision_call provision_moved
  create_ends id topology call (replies.Refused refusal) = refl
  create_ends id topology call _ = refl

  clear_ends : (call : Request) (reply : Reply) → under_after (at key c uid x steps.ClearsNode call) reply ≡ None
  unfolding provision_call provision_moved
  clear_ends call (replies.Refused refusal) = refl
  clear_ends call _ = refl

  goes_on : (labels : Option (List Pair)) (call : Request) (reply : Reply) (next : Under) → under_after (at key c uid x (steps.Provisions labels) call) reply ≡ Some next → GoesOn key c uid x next
  unfolding provision_call provision_moved
  goes_on labels call (replies.Provisioned id topology) next e = Creates id topology (sym (one _ next e))
  goes_on labels call (replies.Refused (refusals.Exhausted free)) next e = by x.delayed e
    where
      by : (b : Bool) → with_call key (tasks.Provision (at_step c uid x (if b then steps.ClearsNode else steps.Parked)))
          (provision_call_at (if b then steps.ClearsNode else steps.Parked) c uid x) ≡ Some next → GoesOn key c uid x next
      by true is = TakesBack (sym (one _ next is))
      by false is = none_some is
  goes_on labels call (replies.Refused _) next e = none_some e
  goes_on labels call _ next e = none_some e

-- ---- what it has under way pays

module _ (setup : Setup) (seat : ℕ) (key : Key) (c : ClaimData) (uid : Uid) (known : c.meta.uid ≡ Some uid) (seeking : is_seeking c ≡ true) (x : ClassData) where
  abbrev IsThere : List Entry → Type 0
  IsThere h = row_at (claim_key c.meta.namespace c.meta.name) (world setup h).store.rows ≡ Some (Claim c)

  staying : leaves (Claim c) ≡ false
  unfolding leaves
  staying = ap (λ b. b && has_no_names c.meta.finalizers) (seeking_parts c seeking).staying

  abbrev stands : (h : List Entry) → IsThere h → StandsClaim (world setup h) c
  stands h there = record { order = rows_stand_in_order setup h; there = there; stays = staying; uid = uid; has = known }

  creates_pay : (h : List Entry) → IsThere h → (id : DataId) (topology : Option (List ℕ × List ℕ))
      → WillPay setup seat seats.Ops h (at key c uid x (steps.Creates id topology) (create_call c uid x id topology))
  creates_pay h there id topology =
      EachPays (lowering_pays setup (world setup h) seats.Ops (create_call c uid x id topology) refl (create_pays setup (world setup h) seats.Ops c x id topology (stands h there) seeking))
      (λ next e. none_some (sym (create_ends key c uid x id topology (create_call c uid x id topology) _) ∙ e))

  clears_pay : (h : List Entry) → IsThere h → WillPay setup seat seats.Ops h (at key c uid x steps.ClearsNode (clear_call c))
  clears_pay h there =
      EachPays (lowering_pays setup (world setup h) seats.Ops (clear_call c) refl (node_goes setup (world setup h) seats.Ops c (stands h there)))
      (λ next e. none_some (sym (clear_ends key c uid x (clear_call c) _) ∙ e))

  -- the store stays as it was
  asked_store : (h : List Entry) (labels : Option (List Pair)) → (world setup (own_entry setup seat seats.Ops h (ask_call c uid x labels) ∷ h)).store ≡ (world setup h).store
  unfolding effect on_devices device_answer world_after
  asked_store h labels = refl

  asks_pay : (h : List Entry) → IsThere h → (labels : Option (List Pair)) → WillPay setup seat seats.Ops h (at key c uid x (steps.Provisions labels) (ask_call c uid x labels))
  asks_pay h there labels = EachPays (ask_pays setup (world setup h) c (stands h there) seeking x labels) (λ next e. on next (goes_on key c uid x labels (ask_call c uid x labels) _ next e))
    where
      still : IsThere (own_entry setup seat seats.Ops h (ask_call c uid x labels) ∷ h)
      still = ap (λ st. row_at (claim_key c.meta.namespace c.meta.name) st.rows) (asked_store h labels) ∙ there

      on : (next : Under) → GoesOn key c uid x next → WillPay setup seat seats.Ops (own_entry setup seat seats.Ops h (ask_call c uid x labels) ∷ h) next
      on next (Creates id topology is) = subst (WillPay setup seat seats.Ops (own_entry setup seat seats.Ops h (ask_call c uid x labels) ∷ h)) (sym is) (creates_pay _ still id topology)
      on next (TakesBack is) = subst (WillPay setup seat seats.Ops (own_entry setup seat seats.Ops h (ask_call c uid x labels) ∷ h)) (sym is) (clears_pay _ still)

  steps_pay : (h : List Entry) → IsThere h → (step : ProvisionStep) (call : Request) → provision_call_at step c uid x ≡ Some call → WillPay setup seat seats.Ops h (at key c uid x step call)
  steps_pay h there (steps.Provisions labels) call e =
      subst (λ r. WillPay setup seat seats.Ops h (at key c uid x (steps.Provisions labels) r)) (one (ask_call c uid x labels) call e) (asks_pay h there labels)
  steps_pay h there (steps.Creates id topology) call e =
      subst (λ r. WillPay setup seat seats.Ops h (at key c uid x (steps.Creates id topology) r)) (one (create_call c uid x id topology) call e) (creates_pay h there id topology)
  steps_pay h there steps.ClearsNode call e = subst (λ r. WillPay setup seat seats.Ops h (at key c uid x steps.ClearsNode r)) (one (clear_call c) call e) (clears_pay h there)
  steps_pay h there steps.Done call e = none_some e
  steps_pay h there steps.Parked call e = none_some e

-- ---- a decision

-- what begins is for a claim that seeks a volume, with its UID
record IsBegun (c : ClaimData) (op : ProvisionOp) : Type 0 where
  seeking : is_seeking c ≡ true
  uid : Uid
  known : c.meta.uid ≡ Some uid
  class : ClassData
  step : ProvisionStep
  is : op ≡ at_step c uid class step

wanting_seeks : (c : ClaimData) → is_wanting c ≡ true → is_seeking c ≡ true
wanting_seeks c = by (is_completed c) (is_deleting c.meta) (is_empty c.volume_name) (is_none c.selector)
  where
    by : (completed deleting empty any : Bool) → (not completed && not deleting && empty && any) ≡ true → (not completed && not deleting && empty) ≡ true
    by false false true true e = refl
    by false false true false e = absurd (true≢false (sym e))
    by false false false any e = absurd (true≢false (sym e))
    by false true empty any e = absurd (true≢false (sym e))
    by true deleting empty any e = absurd (true≢false (sym e))

begun_so : (rows : List Object) (c : ClaimData) (op : ProvisionOp) → claim_for rows c ≡ Some op → IsBegun c op
begun_so rows c op e = by (is_wanting c) (not (has_match rows c)) refl c.meta.uid refl (row_at (class_key (class_of_claim c)) rows) e
  where
    begins : is_wanting c ≡ true → (uid : Uid) → c.meta.uid ≡ Some uid → (x : ClassData) (step : Option ProvisionStep) → begins_at c uid x step ≡ Some op → IsBegun c op
    begins wanting uid known x None found = none_some found
    begins wanting uid known x (Some step) found = record { seeking = wanting_seeks c wanting; uid = uid; known = known; class = x; step = step; is = sym (one _ op found) }

    by : (wanting free : Bool) → is_wanting c ≡ wanting → (u : Option Uid) → c.meta.uid ≡ u → (row : Option Object) → (if wanting && free then by_class rows c u row else None) ≡ Some op → IsBegun c op
    by true true is (Some uid) known (Some (Class x)) found = begins is uid known x (first_step rows c x) found
    by true true is None known row found = none_some found
    by true true is (Some uid) known None found = none_some found
    by true true is (Some uid) known (Some (Node o)) found = none_some found
    by true true is (Some uid) known (Some (Volume o)) found = none_some found
    by true true is (Some uid) known (Some (Claim o)) found = none_some found
    by true true is (Some uid) known (Some (Pod o)) found = none_some found
    by true false is u known row found = none_some found
    by false free is u known row found = none_some found

abbrev op_in : ProvisionOp → First → ProvisionOp
op_in op (firsts.Begins (tasks.Provision found)) = found
op_in op first = op

abbrev is_provision : First → Bool
is_provision (firsts.Begins (tasks.Provision op)) = true
is_provision first = false

module _ (setup : Setup) (seat : ℕ) (role : Role) (kind : role.kind ≡ seats.Ops) (s : ActorState) (h : List Entry) (u : Under) (op : ProvisionOp)
    (task : u.task ≡ tasks.Provision op) (p : IsDecisionPoint setup seat role h s h) (gives : GivesCall s.role s.memory (all_objects s.caches) u) where
  abbrev rows : List Object
  rows = all_objects s.caches

  s_kind : s.role.kind ≡ seats.Ops
  s_kind = ap (λ (r : Role). r.kind) p.role_is ∙ kind

  decided : firsts.Begins (tasks.Provision op) ≡ ops_first (claim_begins rows (row_at u.key rows)) (volume_begins (row_at u.key rows))
  decided = subst (λ t. firsts.Begins t ≡ ops_first (claim_begins rows (row_at u.key rows)) (volume_begins (row_at u.key rows))) task
      (subst (λ k. IsFirstOf k s.role.node s.memory rows u.key (firsts.Begins u.task)) s_kind gives.decided)

  not_erasing : {X : Type 0} (erasing : Option EraseOp) → firsts.Begins (tasks.Provision op) ≡ erase_first erasing → X
  not_erasing None e = absurd (true≢false (ap is_provision e))
  not_erasing (Some other) e = absurd (true≢false (ap is_provision e))

  by_claim : (c : ClaimData) → row_at u.key rows ≡ Some (Claim c) → (found : Option ProvisionOp) → claim_for rows c ≡ found
      → firsts.Begins (tasks.Provision op) ≡ ops_first found None → WillPay setup seat seats.Ops h u
  unfolding provision_call
  by_claim c row None is e = not_erasing None e
  by_claim c row (Some begun) is e =
      let same : op ≡ begun = ap (op_in op) e in
      let b = begun_so rows c begun is in
      let there : row_at u.key (world setup h).store.rows ≡ Some (Claim c) =
      sym (p.sees u.key (ap (λ k. follows k u.key.kind) s_kind ∙ ap (λ (k : Key). follows seats.Ops k.kind) (sym (row_at_key u.key (Claim c) rows row)))) ∙ row in
      let here : row_at (claim_key c.meta.namespace c.meta.name) (world setup h).store.rows ≡ Some (Claim c) =
      ap (λ k. row_at k (world setup h).store.rows) (row_at_key u.key (Claim c) (world setup h).store.rows there) ∙ there in
      let whole : u.task ≡ tasks.Provision (at_step c b.uid b.class b.step) = task ∙ ap (λ o. tasks.Provision o) (same ∙ b.is) in
      let call : provision_call_at b.step c b.uid b.class ≡ Some u.call = ap task_call (sym whole) ∙ gives.call in
      subst (WillPay setup seat seats.Ops h) (λ i. record { key = u.key; task = (sym whole) i; call = u.call }) (steps_pay setup seat u.key c b.uid b.known b.seeking b.class h here b.step u.call call)

  by_row : (row : Option Object) → row_at u.key rows ≡ row → firsts.Begins (tasks.Provision op) ≡ ops_first (claim_begins rows row) (volume_begins row) → WillPay setup seat seats.Ops h u
  by_row (Some (Claim c)) is e = by_claim c is (claim_for rows c) refl e
  by_row (Some (Volume v)) is e = not_erasing (volume_begins (Some (Volume v))) e
  by_row None is e = not_erasing None e
  by_row (Some (Class x)) is e = not_erasing None e
  by_row (Some (Node x)) is e = not_erasing None e
  by_row (Some (Pod x)) is e = not_erasing None e

pub provisioning_pays : ProvisioningPays
provisioning_pays setup seat role kind s h u op p gives task =
    subst (λ k. WillPay setup seat k h u) (sym kind) (by_row setup seat role kind s h u op task p gives (row_at u.key (all_objects s.caches)) refl (decided setup seat role kind s h u op task p gives))
