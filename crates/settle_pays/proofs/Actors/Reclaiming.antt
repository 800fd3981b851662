-- The reclaimer pays: it reads the volume, erases its data, and deletes it or writes phase Failed.
use Rattle.std.proofs.Common.{◌≡◌, ◌∙◌, ℕ, ◌+◌, List, ◌∷◌, Bool, true, false, true≢false, Option, Some, None, inl, inr, refl, sym, ap, subst, if◌then◌else◌, length}
use Rattle.std.specs.Prelude.{◌&&◌, is_some, not}
use Rattle.kube_objects.specs.declared.key.Key.{Key}
use Rattle.kube_parts.specs.declared.names.Due.{Due}
use Rattle.kube_parts.specs.declared.names.Due.TheVariants as dues
use Rattle.kube_parts.specs.declared.parts.VolumePhase.{VolumePhase}
use Rattle.kube_parts.specs.declared.parts.VolumePhase.TheVariants as phases
use Rattle.kube_parts.specs.declared.uid.Uid.{Uid}
use Rattle.kube_objects.specs.declared.objects.Volume.{Volume as VolumeData}
use Rattle.kube_objects.specs.declared.objects.Object.{Object}
use Rattle.kube_objects.specs.declared.objects.Object.TheVariants.{Class, Node, Volume, Claim, Pod}
use Rattle.kube_objects.specs.Bindings.{is_delete, is_deleting, is_ended, ref_uid}
use Rattle.kube_objects.specs.Keys.{AreRows, key_of, row_at}
use Rattle.kube_objects.specs.Sources.{data_id_of}
use Rattle.kube_objects.proofs.KeyOrder.{row_at_key}
use Rattle.call_types.specs.declared.entry.Entry.{Entry}
use Rattle.call_types.specs.declared.reply.Refusal.TheVariants as refusals
use Rattle.call_types.specs.declared.reply.Reply.{Reply}
use Rattle.call_types.specs.declared.reply.Reply.TheVariants as replies
use Rattle.call_types.specs.declared.request.NewStatus.TheVariants as statuses
use Rattle.call_types.specs.declared.request.Request.{Request}
use Rattle.call_types.specs.declared.request.Request.TheVariants as requests
use Rattle.call_types.specs.declared.request.SeatKind.TheVariants as seats
use Rattle.call_types.specs.declared.setup.Setup.{Setup}
use Rattle.binder_model.specs.Answers.{Outcome, is_other_version, outcome, refuse, reply_of, update_status, with_status, write_of, written_if_fits}
use Rattle.binder_model.specs.Devices.{device_answer}
use Rattle.binder_model.specs.Due.{reclaim_due}
use Rattle.binder_model.specs.ObjectKeys.{volume_key}
use Rattle.binder_model.specs.Promises.{IsRunOf}
use Rattle.binder_model.specs.Reading.{follows}
use Rattle.binder_model.specs.Store.{State, at_version, has_no_names, leaves, with_meta}
use Rattle.binder_model.specs.World.{OnStore, World, effect, on_devices, reply_to, world, world_after}
use Rattle.informer_cache.specs.All.{all_objects}
use Rattle.model_laws.proofs.Histories.{rows_stand_in_order}
use Rattle.model_laws.proofs.Lists.{none_some, one}
use Rattle.model_laws.proofs.Stood.{one_uid_one_key, stood}
use Rattle.reclaim_ops.specs.declared.erase.EraseOp.{EraseOp}
use Rattle.reclaim_ops.specs.declared.erase.EraseStep.{EraseStep}
use Rattle.reclaim_ops.specs.declared.erase.EraseStep.TheVariants as steps
use Rattle.reclaim_ops.specs.declared.provision.ProvisionOp.{ProvisionOp}
use Rattle.reclaim_ops.specs.Decisions.{claim_begins, volume_begins, volume_for}
use Rattle.reclaim_ops.specs.Erasures.{at_known, erase_call, erase_moved, fail_call, key_of_volume}
use Rattle.settle_measure.specs.Left.Lowers.{StandsVolume}
use Rattle.settle_measure.proofs.Upkeep.Guards.{delete_pays, failed_pays}
use Rattle.worker_core.specs.declared.role.Role.{Role}
use Rattle.worker_core.specs.declared.task.First.{First}
use Rattle.worker_core.specs.declared.task.First.TheVariants as firsts
use Rattle.worker_core.specs.declared.task.Task.{Task}
use Rattle.worker_core.specs.declared.task.Task.TheVariants as tasks
use Rattle.worker_core.specs.declared.task.Under.{Under}
use Rattle.worker_core.specs.States.{ActorState}
use Rattle.worker_core.specs.Tasks.{GivesCall, IsFirstOf, erase_first, ops_first, task_call, under_after, with_task}
use Rattle.settle_writes.specs.Writes.Lasting.{IsChanged, Lasts, LastsBetween, content_of}
use Rattle.settle_writes.specs.Writes.Writes.{IsStored}
use Rattle.settle_writes.proofs.Writes.Fitting.{no_namespace}
use Rattle.settle_slot.specs.Slot.Slots.{IsDecisionPoint, own_entry}
use Rattle.settle_due.proofs.Upkeep.Deciding.{stored}
use Rattle.settle_due.proofs.Upkeep.Volumes.{get_said, get_stays, got}
use Rattle.settle_pays.specs.Pays.Pays.{EachPays, Pays, WillPay}
use Rattle.settle_pays.proofs.Pays.Calls.{get_never, lowering_pays, no_devices_moved}
use Rattle.settle_pays.proofs.Actors.Provisioning.{provisioning_pays}
use Rattle.settle_pays.specs.Actors.Reclaiming.{OpsPay, ReclaimingPays, UidsFit}
use Rattle.settle_pays.proofs.Actors.Erasing.{HaveOwnNames, IsErasable, erasing_pays}
use Rattle.settle_pays.proofs.Actors.Ids.{data_are_few}
use Rattle.settle_pays.proofs.Actors.Names.{names_apart, rows_fit}

-- ---- a volume that is to be reclaimed

record IsEnded (v : VolumeData) : Type 0 where
  ended : is_ended v.phase ≡ true
  staying : is_deleting v.meta ≡ false
  uid : Uid
  refers : ref_uid v.claim_ref ≡ Some uid

ended_so : (v : VolumeData) → reclaim_due v ≡ Some dues.Reclaim → IsEnded v
ended_so v e = by (is_ended v.phase) (is_delete v.policy) (ref_uid v.claim_ref) (is_deleting v.meta) refl refl refl e
  where
    by : (a b : Bool) (x : Option Uid) (d : Bool) → is_ended v.phase ≡ a → ref_uid v.claim_ref ≡ x → is_deleting v.meta ≡ d
        → (if a && b && is_some x && not d then Some dues.Reclaim else None) ≡ Some dues.Reclaim → IsEnded v
    by true true (Some uid) false ended refers staying e = record { ended = ended; staying = staying; uid = uid; refers = refers }
    by true true (Some uid) true ended refers staying e = none_some e
    by true true None d ended refers staying e = none_some e
    by true false x d ended refers staying e = none_some e
    by false b x d ended refers staying e = none_some e

-- what holds in each world with this store
record IsReclaimed (w : World) (v : VolumeData) : Type 0 where
  order : AreRows w.store.rows
  there : row_at (volume_key v.meta.name) w.store.rows ≡ Some (Volume v)
  own_key : key_of_volume v ≡ volume_key v.meta.name
  due : reclaim_due v ≡ Some dues.Reclaim

-- ---- its machine

abbrev at : Key → VolumeData → EraseStep → Request → Under
at key v step call = record { key = key; task = tasks.Erase (record { volume = v; step = step }); call = call }

abbrev get_call : VolumeData → Request
get_call v = requests.Get (key_of_volume v)

abbrev erase_of : VolumeData → Request
erase_of v = requests.Erase (data_id_of v.source)

abbrev delete_of : VolumeData → Uid → Request
delete_of v uid = requests.Delete (key_of_volume v) (Some uid)

-- after the Get its data are erased, if anything
record Erases (key : Key) (v : VolumeData) (next : Under) : Type 0 where
  uid : Uid
  is : next ≡ at key v (steps.Erases uid) (erase_of v)

-- after the Erase it is deleted, or phase Failed is written, if anything
data GoesOn (key : Key) (v : VolumeData) (uid : Uid) (next : Under) : Type 0 where
  Deletes : next ≡ at key v (steps.Deletes uid) (delete_of v uid) → GoesOn key v uid next
  Fails : next ≡ at key v steps.WritesFailed (fail_call v) → GoesOn key v uid next

module _ (key : Key) (v : VolumeData) where
  reads_on : (call : Request) (next : Under) → under_after (at key v steps.ReadsVolume call) (replies.Found (Volume v)) ≡ Some next → Erases key v next
  unfolding erase_call erase_moved
  reads_on call next e = by (reclaim_due v) v.meta.uid e
    where
      by : (x : Option Due) (y : Option Uid)
          → with_task key (Some (tasks.Erase
          (if is_some x then at_known (record { volume = v; step = steps.ReadsVolume }) v y else record { volume = v; step = steps.Done }))) ≡ Some next → Erases key v next
      by (Some action) (Some uid) is = record { uid = uid; is = sym (one _ next is) }
      by (Some action) None is = none_some is
      by None y is = none_some is

  goes_on : (uid : Uid) (call : Request) (reply : Reply) (next : Under) → under_after (at key v (steps.Erases uid) call) reply ≡ Some next → GoesOn key v uid next
  unfolding erase_call erase_moved
  goes_on uid call (replies.Erased removed) next e = Deletes (sym (one _ next e))
  goes_on uid call (replies.Refused (refusals.BackFault planned)) next e = Fails (sym (one _ next e))
  goes_on uid call (replies.Refused _) next e = none_some e
  goes_on uid call _ next e = none_some e

  -- a write is its last call
  delete_ends : (uid : Uid) (call : Request) (reply : Reply) → under_after (at key v (steps.Deletes uid) call) reply ≡ None
  unfolding erase_call erase_moved
  delete_ends uid call (replies.Refused refusal) = refl
  delete_ends uid call _ = refl

  fail_ends : (call : Request) (reply : Reply) → under_after (at key v steps.WritesFailed call) reply ≡ None
  unfolding erase_call erase_moved
  fail_ends call (replies.Refused refusal) = refl
  fail_ends call _ = refl

-- ---- Failed over Failed does not last

module _ (w : World) (v : VolumeData) (there : row_at (key_of (Volume v)) w.store.rows ≡ Some (Volume v)) (staying : is_deleting v.meta ≡ false) (failed : v.phase ≡ phases.Failed) where
  abbrev NotLasting : Outcome → Type 0
  NotLasting x = LastsBetween w (world_after w (OnStore x)) (reply_to (OnStore x)) → ⊥

  abbrev again : Object
  again = Volume (record v { meta = record v.meta { version = w.store.version + 1 }; phase = phases.Failed })

  same_content : content_of (Volume v) ≡ content_of again
  same_content = λ i. content_of (Volume (record v { phase = failed i }))

  unchanged : IsChanged (row_at (key_of (Volume v)) w.store.rows) again → ⊥
  unchanged changed = subst (λ row. IsChanged row again) there changed same_content

  written : (b : Bool) → b ≡ false → NotLasting (write_of again b)
  unfolding world_after reply_to reply_of
  written true e lasts = absurd (true≢false e)
  written false e (inl changed) = unchanged changed
  written false e (inr (inl moved)) = no_devices_moved w moved
  written false e (inr (inr fault)) = fault

  leaves_not : leaves again ≡ false
  unfolding leaves
  leaves_not = ap (λ b. b && has_no_names v.meta.finalizers) staying

  by_version : (other : Bool) → NotLasting (refuse other (refusals.Conflict v.meta.version) (written_if_fits w.store (with_status (statuses.Volume phases.Failed) (Volume v))))
  unfolding refuse written_if_fits with_status at_version with_meta world_after reply_to reply_of
  by_version true (inl changed) = changed
  by_version true (inr (inl moved)) = no_devices_moved w moved
  by_version true (inr (inr fault)) = fault
  by_version false lasts = written (leaves again) leaves_not lasts

  abbrev failing : Option Object → Outcome
  failing row = update_status w.store seats.Ops (statuses.Volume phases.Failed) (Some v.meta.version) row

  seen : NotLasting (failing (Some (Volume v)))
  unfolding update_status refuse
  seen lasts = by_version (is_other_version (Some v.meta.version) v.meta.version) lasts

  by_row : (row : Option Object) → row ≡ Some (Volume v) → NotLasting (failing row)
  by_row row is lasts = seen (subst (λ x. LastsBetween w (world_after w (OnStore (failing x))) (reply_to (OnStore (failing x)))) is lasts)

  fails_again : (setup : Setup) → Lasts setup w seats.Ops (fail_call v) → ⊥
  unfolding effect on_devices device_answer outcome
  fails_again setup lasts = by_row (row_at (key_of (Volume v)) w.store.rows) there lasts

-- ---- what it has under way pays

module _ (setup : Setup) (seat : ℕ) (key : Key) (v : VolumeData) where
  abbrev read : List Entry → List Entry
  read h = own_entry setup seat seats.Ops h (get_call v) ∷ h

  abbrev erased : List Entry → List Entry
  erased h = own_entry setup seat seats.Ops h (erase_of v) ∷ h

  stays : (w : World) → IsReclaimed w v → leaves (Volume v) ≡ false
  unfolding leaves
  stays w r = ap (λ b. b && has_no_names v.meta.finalizers) (ended_so v r.due).staying

  stands : (w : World) → IsReclaimed w v → StandsVolume w v
  stands w r = record { order = r.order; there = r.there; stays = stays w r }

  at_own_key : (w : World) → IsReclaimed w v → row_at (key_of_volume v) w.store.rows ≡ Some (Volume v)
  at_own_key w r = ap (λ k. row_at k w.store.rows) r.own_key ∙ r.there

  deletes_pay : (h : List Entry) → IsReclaimed (world setup h) v → (uid : Uid) → WillPay setup seat seats.Ops h (at key v (steps.Deletes uid) (delete_of v uid))
  deletes_pay h r uid =
      EachPays (subst (λ k. Pays setup (world setup h) seats.Ops (requests.Delete k (Some uid))) (sym r.own_key)
      (lowering_pays setup (world setup h) seats.Ops (requests.Delete (volume_key v.meta.name) (Some uid)) refl
      (delete_pays setup (world setup h) seats.Ops v (Some uid) (stands (world setup h) r) r.due)))
      (λ next e. none_some (sym (delete_ends key v uid (delete_of v uid) _) ∙ e))

  fail_pays : (w : World) → IsReclaimed w v → (phase : VolumePhase) → v.phase ≡ phase → is_ended phase ≡ true → Pays setup w seats.Ops (fail_call v)
  fail_pays w r phases.Released is ended =
      subst (λ k. Pays setup w seats.Ops (requests.UpdateStatus k (statuses.Volume phases.Failed) (Some v.meta.version))) (sym r.own_key)
      (lowering_pays setup w seats.Ops (requests.UpdateStatus (volume_key v.meta.name) (statuses.Volume phases.Failed) (Some v.meta.version)) refl
      (failed_pays setup w seats.Ops v (ended_so v r.due).uid (stands w r) (ended_so v r.due).refers is))
  fail_pays w r phases.Failed is ended = λ lasts. absurd (fails_again w v (at_own_key w r) (ended_so v r.due).staying is setup lasts)
  fail_pays w r phases.Pending is ended = absurd (true≢false (sym ended))
  fail_pays w r phases.Available is ended = absurd (true≢false (sym ended))
  fail_pays w r phases.Bound is ended = absurd (true≢false (sym ended))

  fails_pay : (h : List Entry) → IsReclaimed (world setup h) v → WillPay setup seat seats.Ops h (at key v steps.WritesFailed (fail_call v))
  fails_pay h r = EachPays (fail_pays (world setup h) r v.phase refl (ended_so v r.due).ended) (λ next e. none_some (sym (fail_ends key v (fail_call v) _) ∙ e))

  -- the store stays as it was
  erased_store : (h : List Entry) → (world setup (erased h)).store ≡ (world setup h).store
  unfolding effect on_devices device_answer world_after
  erased_store h = refl

  on_store : (w old : World) → w.store ≡ old.store → IsReclaimed old v → IsReclaimed w v
  on_store w old same r = record {
    order = subst (λ (st : State). AreRows st.rows) (sym same) r.order;
    there = ap (λ (st : State). row_at (volume_key v.meta.name) st.rows) same ∙ r.there;
    own_key = r.own_key;
    due = r.due;
  }

  erases_pay : (h : List Entry) → IsReclaimed (world setup h) v → IsErasable (world setup h) v → (uid : Uid) → WillPay setup seat seats.Ops h (at key v (steps.Erases uid) (erase_of v))
  erases_pay h r s uid = EachPays (erasing_pays setup (world setup h) v s) (λ next e. on next (goes_on key v uid (erase_of v) _ next e))
    where
      still : IsReclaimed (world setup (erased h)) v
      still = on_store (world setup (erased h)) (world setup h) (erased_store h) r

      on : (next : Under) → GoesOn key v uid next → WillPay setup seat seats.Ops (erased h) next
      on next (Deletes is) = subst (WillPay setup seat seats.Ops (erased h)) (sym is) (deletes_pay (erased h) still uid)
      on next (Fails is) = subst (WillPay setup seat seats.Ops (erased h)) (sym is) (fails_pay (erased h) still)

  reads_pay : (h : List Entry) → IsReclaimed (world setup h) v → IsErasable (world setup h) v → WillPay setup seat seats.Ops h (at key v steps.ReadsVolume (get_call v))
  reads_pay h r s = EachPays (λ lasts. absurd (get_never setup (world setup h) seats.Ops (key_of_volume v) lasts)) on
    where
      same : world setup (read h) ≡ world setup h
      same = get_stays setup (world setup h) seats.Ops (key_of_volume v)

      said : reply_to (effect setup (world setup h) seats.Ops (get_call v)) ≡ replies.Found (Volume v)
      said = get_said setup (world setup h) seats.Ops (key_of_volume v) ∙ ap got (at_own_key (world setup h) r)

      on : (next : Under) → under_after (at key v steps.ReadsVolume (get_call v))
          (reply_to (effect setup (world setup h) seats.Ops (get_call v))) ≡ Some next → WillPay setup seat seats.Ops (read h) next
      on next e =
          let x = reads_on key v (get_call v) next (ap (under_after (at key v steps.ReadsVolume (get_call v))) (sym said) ∙ e) in
          subst (WillPay setup seat seats.Ops (read h)) (sym x.is) (erases_pay (read h) (subst (λ w. IsReclaimed w v) (sym same) r) (subst (λ w. IsErasable w v) (sym same) s) x.uid)

-- ---- in a run

-- claims have data of their own names
pub own_names : (setup : Setup) (h : List Entry) → IsRunOf setup h → UidsFit setup → HaveOwnNames (world setup h).store.rows
own_names setup h run fit c e u v sc se cu eu same =
    let fits = rows_fit setup h run.imports run.short fit in
    let uid : u ≡ v = names_apart u v (fits (key_of (Claim c)) (Claim c) u sc cu) (fits (key_of (Claim e)) (Claim e) v se eu) same in
    one_uid_one_key setup h run.imports run.short (Claim c) (Claim e) v (stood setup h (Claim c) sc) (stood setup h (Claim e) se) (cu ∙ ap Some uid) eu

-- ---- a decision

abbrev op_in : EraseOp → First → EraseOp
op_in op (firsts.Begins (tasks.Erase found)) = found
op_in op first = op

abbrev is_erase : First → Bool
is_erase (firsts.Begins (tasks.Erase op)) = true
is_erase first = false

module _ (setup : Setup) (seat : ℕ) (role : Role) (kind : role.kind ≡ seats.Ops) (fit : UidsFit setup) (s : ActorState) (h : List Entry) (u : Under)
    (op : EraseOp) (task : u.task ≡ tasks.Erase op) (run : IsRunOf setup h) (p : IsDecisionPoint setup seat role h s h) (gives : GivesCall s.role s.memory (all_objects s.caches) u) where
  abbrev rows : List Object
  rows = all_objects s.caches

  s_kind : s.role.kind ≡ seats.Ops
  s_kind = ap (λ (r : Role). r.kind) p.role_is ∙ kind

  decided : firsts.Begins (tasks.Erase op) ≡ ops_first (claim_begins rows (row_at u.key rows)) (volume_begins (row_at u.key rows))
  decided = subst (λ t. firsts.Begins t ≡ ops_first (claim_begins rows (row_at u.key rows)) (volume_begins (row_at u.key rows))) task
      (subst (λ k. IsFirstOf k s.role.node s.memory rows u.key (firsts.Begins u.task)) s_kind gives.decided)

  not_erasing : {X : Type 0} (first : First) → is_erase first ≡ false → firsts.Begins (tasks.Erase op) ≡ first → X
  not_erasing first e is = absurd (true≢false (ap is_erase is ∙ e))

  by_volume : (v : VolumeData) → row_at u.key rows ≡ Some (Volume v) → (action : Option Due) → reclaim_due v ≡ action
      → firsts.Begins (tasks.Erase op) ≡ erase_first (volume_for v action) → WillPay setup seat seats.Ops h u
  unfolding erase_call
  by_volume v row (Some dues.Reclaim) due e =
      let same : op ≡ record { volume = v; step = steps.ReadsVolume } = ap (op_in op) e in
      let there : row_at u.key (world setup h).store.rows ≡ Some (Volume v) =
      sym (p.sees u.key (ap (λ k. follows k u.key.kind) s_kind ∙ ap (λ (k : Key). follows seats.Ops k.kind) (sym (row_at_key u.key (Volume v) rows row)))) ∙ row in
      let st : IsStored (world setup h) (Volume v) = stored setup h u.key (Volume v) run.imports there in
      let own_key : key_of_volume v ≡ volume_key v.meta.name = rw (no_namespace v st.valid) refl in
      let at_key : row_at (volume_key v.meta.name) (world setup h).store.rows ≡ Some (Volume v) = ap (λ k. row_at k (world setup h).store.rows) (sym own_key) ∙ st.there in
      let ended = ended_so v due in
      let r : IsReclaimed (world setup h) v = record { order = rows_stand_in_order setup h; there = at_key; own_key = own_key; due = due } in
      let x : IsErasable (world setup h) v = record {
        order = rows_stand_in_order setup h;
        there = st.there;
        staying = ended.staying;
        names =
            own_names setup h run fit;
        most = length h;
        short = run.short;
        few = data_are_few setup h;
      } in
      let whole : u.task ≡ tasks.Erase (record { volume = v; step = steps.ReadsVolume }) = task ∙ ap (λ o. tasks.Erase o) same in
      let call : u.call ≡ get_call v = one u.call (get_call v) (sym gives.call ∙ ap task_call whole) in
      subst (WillPay setup seat seats.Ops h) (λ i. record { key = u.key; task = (sym whole) i; call = (sym call) i }) (reads_pay setup seat u.key v h r x)
  by_volume v row (Some _) due e = not_erasing firsts.Drops refl e
  by_volume v row None due e = not_erasing firsts.Drops refl e

  by_claim : (found : Option ProvisionOp) → firsts.Begins (tasks.Erase op) ≡ ops_first found None → WillPay setup seat seats.Ops h u
  by_claim None e = not_erasing firsts.Drops refl e
  by_claim (Some other) e = not_erasing (firsts.Begins (tasks.Provision other)) refl e

  by_key : (row : Option Object) → row_at u.key rows ≡ row → firsts.Begins (tasks.Erase op) ≡ ops_first (claim_begins rows row) (volume_begins row) → WillPay setup seat seats.Ops h u
  by_key (Some (Volume v)) is e = by_volume v is (reclaim_due v) refl e
  by_key (Some (Claim c)) is e = by_claim (claim_begins rows (Some (Claim c))) e
  by_key None is e = not_erasing firsts.Drops refl e
  by_key (Some (Class x)) is e = not_erasing firsts.Drops refl e
  by_key (Some (Node x)) is e = not_erasing firsts.Drops refl e
  by_key (Some (Pod x)) is e = not_erasing firsts.Drops refl e

pub reclaiming_pays : ReclaimingPays
reclaiming_pays setup seat role kind fit s h u op run p gives task =
    subst (λ k. WillPay setup seat k h u) (sym kind)
    (by_key setup seat role kind fit s h u op task run p gives (row_at u.key (all_objects s.caches)) refl (decided setup seat role kind fit s h u op task run p gives))

-- ---- the whole role

abbrev is_ops : Task → Bool
is_ops (tasks.Provision op) = true
is_ops (tasks.Erase op) = true
is_ops task = false

abbrev begins_ops : First → Bool
begins_ops (firsts.Begins task) = is_ops task
begins_ops first = false

abbrev begins_any : First → Bool
begins_any (firsts.Begins task) = true
begins_any first = false

not_begun : {X : Type 0} (task : Task) (rows : List Object) (row : Option Object) → firsts.Begins task ≡ ops_first (claim_begins rows row) (volume_begins row) → is_ops task ≡ false → X
not_begun {X = X} task rows row e other = by (claim_begins rows row) (volume_begins row) e
  where
    by : (found : Option ProvisionOp) (erasing : Option EraseOp) → firsts.Begins task ≡ ops_first found erasing → X
    by (Some op) erasing is = absurd (true≢false (sym (ap begins_ops is) ∙ other))
    by None (Some op) is = absurd (true≢false (sym (ap begins_ops is) ∙ other))
    by None None is = absurd (true≢false (ap begins_any is))

pub ops_pay : OpsPay
ops_pay setup seat role kind fit s h u run p gives = by u.task refl
  where
    decided : firsts.Begins u.task ≡ ops_first (claim_begins (all_objects s.caches) (row_at u.key (all_objects s.caches))) (volume_begins (row_at u.key (all_objects s.caches)))
    decided = subst (λ k. IsFirstOf k s.role.node s.memory (all_objects s.caches) u.key (firsts.Begins u.task)) (ap (λ (r : Role). r.kind) p.role_is ∙ kind) gives.decided

    other : (task : Task) → u.task ≡ task → is_ops task ≡ false → WillPay setup seat role.kind h u
    other task is apart = not_begun task (all_objects s.caches) (row_at u.key (all_objects s.caches)) (ap (λ t. firsts.Begins t) (sym is) ∙ decided) apart

    by : (task : Task) → u.task ≡ task → WillPay setup seat role.kind h u
    by (tasks.Provision op) is = provisioning_pays setup seat role kind s h u op p gives is
    by (tasks.Erase op) is = reclaiming_pays setup seat role kind fit s h u op run p gives is
    by (tasks.Binder machine) is = other (tasks.Binder machine) is refl
    by (tasks.ClaimProtect op) is = other (tasks.ClaimProtect op) is refl
    by (tasks.VolumeProtect op) is = other (tasks.VolumeProtect op) is refl
    by (tasks.Agent op) is = other (tasks.Agent op) is refl
    by (tasks.Schedule op) is = other (tasks.Schedule op) is refl
