-- Each write of ops lowers the number of its writes, and no call of it raises it.
use Rattle.std.proofs.Common.{◌≡◌, ◌⊎◌, ℕ, ◌+◌, ◌≤◌, List, Bool, true, false, true≢false, Option, Some, None, inl, inr, refl, sym, ap, subst, arith, if◌then◌else◌}
use Rattle.std.specs.Prelude.{is_some, nat_lt, not, ◌&&◌, ⊤}
use Rattle.plain_data.specs.Pairs.{Pair}
use Rattle.kube_parts.specs.declared.names.Due.TheVariants as dues
use Rattle.kube_parts.specs.declared.names.Field.TheVariants as fields
use Rattle.kube_parts.specs.declared.parts.Kind.{Kind}
use Rattle.kube_objects.specs.declared.objects.DataId.{DataId}
use Rattle.kube_objects.specs.declared.objects.Volume.{Volume as VolumeData}
use Rattle.kube_objects.specs.declared.objects.Object.{Object}
use Rattle.kube_objects.specs.declared.objects.Object.TheVariants.{Volume}
use Rattle.kube_objects.specs.Bindings.{is_delete, is_deleting, is_ended, ref_uid}
use Rattle.kube_objects.specs.Keys.{AreRows}
use Rattle.kube_objects.specs.Sources.{data_id_of}
use Rattle.call_types.specs.declared.entry.Entry.{Entry}
use Rattle.call_types.specs.declared.reply.Refusal.TheVariants as refusals
use Rattle.call_types.specs.declared.reply.Reply.{Reply}
use Rattle.call_types.specs.declared.reply.Reply.TheVariants as replies
use Rattle.call_types.specs.declared.request.Request.{Request}
use Rattle.call_types.specs.declared.request.Request.TheVariants as requests
use Rattle.call_types.specs.declared.request.SeatKind.{SeatKind}
use Rattle.call_types.specs.declared.request.SeatKind.TheVariants as seats
use Rattle.call_types.specs.declared.setup.Setup.{Setup}
use Rattle.binder_model.specs.Answers.{Says, after, is_for_store, list, outcome}
use Rattle.binder_model.specs.Devices.{DeviceAnswer, after_call, data_named, device_answer, erase, is_planned, provision, unless_planned}
use Rattle.binder_model.specs.Due.{reclaim_due}
use Rattle.binder_model.specs.Licence.{RowAllows}
use Rattle.binder_model.specs.Provisioning.{data_name, provisioned_volume}
use Rattle.binder_model.specs.Store.{admitted_object, created_object, leaves, with_meta, without_status}
use Rattle.binder_model.specs.Told.{own}
use Rattle.binder_model.specs.Watching.{oldest, told_events}
use Rattle.binder_model.specs.World.{Effect, IsHistory, OnStore, World, base, effect, on_devices, reply_to, watch, world, world_after}
use Rattle.model_laws.proofs.Histories.{rows_stand_in_order}
use Rattle.model_laws.proofs.Lists.{none_some, one}
use Rattle.safety_law.specs.Invariant.Moves.{written_by}
use Rattle.safety_law.specs.Invariant.Writes.{IsCreate, IsLeaving}
use Rattle.settle_measure.specs.Left.Measure.{faults_left, total}
use Rattle.settle_measure.proofs.Left.Entries.{Put, Took, came}
use Rattle.settle_measure.proofs.Left.Faults.{back_fault_pays, calls_stay}
use Rattle.reclaim_ops.specs.declared.erase.EraseStep.{EraseStep}
use Rattle.reclaim_ops.specs.declared.erase.EraseStep.TheVariants as erase_steps
use Rattle.reclaim_ops.specs.declared.provision.ProvisionOp.{ProvisionOp}
use Rattle.reclaim_ops.specs.declared.provision.ProvisionStep.{ProvisionStep}
use Rattle.reclaim_ops.specs.declared.provision.ProvisionStep.TheVariants as provision_steps
use Rattle.reclaim_ops.specs.Erasures.{erase_call, erase_call_at, fail_call, key_of_volume}
use Rattle.reclaim_ops.specs.Provisions.{ask_call, clear_call, create_call, provision_call, provision_call_at, unselected}
use Rattle.worker_core.specs.declared.task.Task.{Task}
use Rattle.worker_core.specs.declared.task.Task.TheVariants as tasks
use Rattle.worker_core.specs.declared.task.Under.{Under}
use Rattle.worker_core.specs.Steps.Evidence.{task_kind}
use Rattle.worker_core.specs.Tasks.{task_call, under_after}
use Rattle.settle_pays.proofs.Pays.Calls.{provision_rises, stored_effect}
use Rattle.settle_write_counts.specs.Rounds.Counts.{nodes_in, nodes_on}
use Rattle.settle_write_counts.proofs.Rounds.Failing.{erase_failed, fails_go, phase_written, under_fails}
use Rattle.settle_write_counts.proofs.Rounds.Nodes.{IsMoved, ops_nodes, taken_back}
use Rattle.settle_write_counts.proofs.Rounds.Slots.{ComesTo, Leaves, Wrote, comes_to}
use Rattle.settle_write_counts.specs.Ops.Ops.{ops_writes}
use Rattle.settle_write_counts.proofs.Ops.Machines.{HasClaim, StepFits, TaskFits, UnderFits}
use Rattle.settle_write_counts.proofs.Ops.Rows.{deleted_falls, failed_stays, made_falls, sum, update_stays}

-- the writes that were done, and those that may still be
unfoldable pub low : Setup → World → ℕ
low setup w = w.store.version + ops_writes setup w

-- ---- the planned faults that are ahead

module _ (setup : Setup) (w : World) where
  abbrev faults_after : Request → ℕ
  faults_after request = faults_left setup (world_after w (effect setup w seats.Ops request)).devices

  abbrev failed : Request → ℕ
  failed request = erase_failed request (reply_to (effect setup w seats.Ops request))

  stored_faults : (request : Request) → is_for_store request ≡ true → faults_after request ≤ faults_left setup w.devices
  unfolding world_after
  stored_faults request is =
      let x = stored_effect setup w seats.Ops request is in
      let same : faults_after request ≡ faults_left setup w.devices = ap (λ y. faults_left setup (world_after w y).devices) x.1.0 in
      omega (arith, same)

  asked_faults : (name provisioner : List ℕ) (bytes : ℕ) (labels : Option (List Pair)) → faults_after (requests.Provision name provisioner bytes labels) ≤ faults_left setup w.devices
  unfolding effect on_devices device_answer world_after unless_planned
  asked_faults name provisioner bytes labels = by (is_planned (w.devices.calls + 1) setup.faults)
    where
      given : DeviceAnswer
      given = provision setup.pools w.devices name provisioner bytes labels (data_named name w.devices.stored)

      by : (b : Bool) → faults_left setup (if b then after_call w.devices (replies.Refused (refusals.BackFault (w.devices.calls + 1))) else given).devices ≤ faults_left setup w.devices
      by true = calls_stay setup w.devices (record w.devices { calls = w.devices.calls + 1 }) (omega arith)
      by false = calls_stay setup w.devices given.devices (provision_rises setup w.devices name provisioner bytes labels (data_named name w.devices.stored))

  erased_faults : (id : DataId) → faults_after (requests.Erase id) + failed (requests.Erase id) ≤ faults_left setup w.devices
  unfolding effect on_devices device_answer world_after reply_to unless_planned erase
  erased_faults id = by (is_planned (w.devices.calls + 1) setup.faults) refl
    where
      answer : Bool → DeviceAnswer
      answer b = if b then after_call w.devices (replies.Refused (refusals.BackFault (w.devices.calls + 1))) else erase w.devices id

      by : (b : Bool) → is_planned (w.devices.calls + 1) setup.faults ≡ b → faults_left setup (answer b).devices + erase_failed (requests.Erase id) (answer b).reply ≤ faults_left setup w.devices
      by true e = back_fault_pays setup w.devices (record w.devices { calls = w.devices.calls + 1 }) refl e
      by false e =
          let rises : w.devices.calls ≤ (erase w.devices id).devices.calls = omega arith in
          let stays = calls_stay setup w.devices (erase w.devices id).devices rises in
          omega (arith, stays)

  abbrev FaultsFall : Request → Type 0
  FaultsFall request = faults_after request + failed request ≤ faults_left setup w.devices

  -- of the calls of ops
  provision_faults : (op : ProvisionOp) (request : Request) (step : ProvisionStep) → provision_call_at step op.claim op.uid op.class ≡ Some request → FaultsFall request
  provision_faults op request (provision_steps.Provisions labels) e =
      subst FaultsFall (one (ask_call op.claim op.uid op.class labels) request e) (let h = asked_faults (data_name op.uid) op.class.provisioner op.claim.amount.bytes labels in omega (arith, h))
  provision_faults op request (provision_steps.Creates id topology) e =
      subst FaultsFall (one (create_call op.claim op.uid op.class id topology) request e) (let h = stored_faults (create_call op.claim op.uid op.class id topology) refl in omega (arith, h))
  provision_faults op request provision_steps.ClearsNode e = subst FaultsFall (one (clear_call op.claim) request e) (let h = stored_faults (clear_call op.claim) refl in omega (arith, h))
  provision_faults op request provision_steps.Done e = none_some e
  provision_faults op request provision_steps.Parked e = none_some e

  erase_faults : (v : VolumeData) (request : Request) (step : EraseStep) → erase_call_at step v ≡ Some request → FaultsFall request
  erase_faults v request erase_steps.ReadsVolume e = subst FaultsFall (one (requests.Get (key_of_volume v)) request e) (let h = stored_faults (requests.Get (key_of_volume v)) refl in omega (arith, h))
  erase_faults v request (erase_steps.Erases uid) e = subst FaultsFall (one (requests.Erase (data_id_of v.source)) request e) (erased_faults (data_id_of v.source))
  erase_faults v request (erase_steps.Deletes uid) e =
      subst FaultsFall (one (requests.Delete (key_of_volume v) (Some uid)) request e) (let h = stored_faults (requests.Delete (key_of_volume v) (Some uid)) refl in omega (arith, h))
  erase_faults v request erase_steps.WritesFailed e = subst FaultsFall (one (fail_call v) request e) (let h = stored_faults (fail_call v) refl in omega (arith, h))
  erase_faults v request erase_steps.Done e = none_some e
  erase_faults v request erase_steps.Parked e = none_some e

  faults_fall : (u : Under) → UnderFits w.store.rows u → FaultsFall u.call
  unfolding provision_call erase_call
  faults_fall u fits = by u.task fits.task fits.call
    where
      by : (t : Task) → TaskFits w.store.rows t → task_call t ≡ Some u.call → FaultsFall u.call
      by (tasks.Provision op) f c = provision_faults op u.call op.step c
      by (tasks.Erase op) f c = erase_faults op.volume u.call op.step c
      by (tasks.Binder machine) f c = absurd f
      by (tasks.ClaimProtect op) f c = absurd f
      by (tasks.VolumeProtect op) f c = absurd f
      by (tasks.Agent op) f c = absurd f
      by (tasks.Schedule op) f c = absurd f

-- ---- the writes

record IsEnded (v : VolumeData) : Type 0 where
  ended : is_ended v.phase ≡ true
  staying : is_deleting v.meta ≡ false

ended_so : (v : VolumeData) → is_some (reclaim_due v) ≡ true → IsEnded v
ended_so v e = by (is_ended v.phase) (is_delete v.policy) (is_some (ref_uid v.claim_ref)) (is_deleting v.meta) refl refl e
  where
    by : (a b c d : Bool) → is_ended v.phase ≡ a → is_deleting v.meta ≡ d → is_some (if a && b && c && not d then Some dues.Reclaim else None) ≡ true → IsEnded v
    by true true true false ended staying e = record { ended = ended; staying = staying }
    by true true true true ended staying e = absurd (true≢false (sym e))
    by true true false d ended staying e = absurd (true≢false (sym e))
    by true false c d ended staying e = absurd (true≢false (sym e))
    by false b c d ended staying e = absurd (true≢false (sym e))

module _ (setup : Setup) (w : World) (order : AreRows w.store.rows) where
  abbrev rows_after : Request → List Object
  rows_after request = (world_after w (effect setup w seats.Ops request)).store.rows

  abbrev WroteFalls : Request → Type 0
  WroteFalls request = (o : Object) → written_by (effect setup w seats.Ops request) ≡ Some o → IsMoved w.store.rows (rows_after request) o
      → sum (rows_after request) + 1 ≤ sum w.store.rows + taken_back request + phase_written request

  module _ (op : ProvisionOp) (has : HasClaim w.store.rows op.claim op.uid) where
    created_stays : (id : DataId) (topology : Option (List ℕ × List ℕ)) (o : Object)
        → IsCreate w.store seats.Ops w.moment (Volume (provisioned_volume op.claim op.uid op.class id topology)) o → IsLeaving (create_call op.claim op.uid op.class id topology) o → ⊥
    unfolding leaves provisioned_volume created_object admitted_object without_status with_meta
    created_stays id topology o i leaving = true≢false (sym (subst (IsLeaving (create_call op.claim op.uid op.class id topology)) i.is leaving))

    creates : (id : DataId) (topology : Option (List ℕ × List ℕ)) → WroteFalls (create_call op.claim op.uid op.class id topology)
    creates id topology o written moved = let m = came setup w seats.Ops (create_call op.claim op.uid op.class id topology) o order written in by m.write m.store
      where
        by : IsCreate w.store seats.Ops w.moment (Volume (provisioned_volume op.claim op.uid op.class id topology)) o
            → Put w (effect setup w seats.Ops (create_call op.claim op.uid op.class id topology)) o
            ⊎ Took w (effect setup w seats.Ops (create_call op.claim op.uid op.class id topology)) (create_call op.claim op.uid op.class id topology) o
            → sum (rows_after (create_call op.claim op.uid op.class id topology)) + 1 ≤ sum w.store.rows + 0 + 0
        by i (inl put) =
            let e = ap sum put.rows in
            let h = made_falls w.store order seats.Ops op.claim op.uid has.there has.known w.moment op.class id topology o i in
            omega (arith, e, h)
        by i (inr took) = absurd (created_stays id topology o i took.leaves)

    provision_wrote : (request : Request) (step : ProvisionStep) → provision_call_at step op.claim op.uid op.class ≡ Some request → WroteFalls request
    provision_wrote request (provision_steps.Provisions labels) e =
        subst WroteFalls (one (ask_call op.claim op.uid op.class labels) request e)
        (λ o written moved. absurd (came setup w seats.Ops (ask_call op.claim op.uid op.class labels) o order written).write)
    provision_wrote request (provision_steps.Creates id topology) e = subst WroteFalls (one (create_call op.claim op.uid op.class id topology) request e) (creates id topology)
    provision_wrote request provision_steps.ClearsNode e =
        subst WroteFalls (one (clear_call op.claim) request e)
        (λ o written moved. let h = update_stays w.store order seats.Ops o (rows_after (clear_call op.claim)) moved op.claim (unselected op.claim)
        (Some op.claim.meta.version) has.there (came setup w seats.Ops (clear_call op.claim) o order written).write in omega (arith, h))
    provision_wrote request provision_steps.Done e = none_some e
    provision_wrote request provision_steps.Parked e = none_some e

  erase_wrote : (v : VolumeData) (request : Request) (step : EraseStep) → StepFits w.store.rows step v → erase_call_at step v ≡ Some request → WroteFalls request
  erase_wrote v request erase_steps.ReadsVolume fits e =
      subst WroteFalls (one (requests.Get (key_of_volume v)) request e) (λ o written moved. absurd (came setup w seats.Ops (requests.Get (key_of_volume v)) o order written).write)
  erase_wrote v request (erase_steps.Erases uid) fits e =
      subst WroteFalls (one (requests.Erase (data_id_of v.source)) request e) (λ o written moved. absurd (came setup w seats.Ops (requests.Erase (data_id_of v.source)) o order written).write)
  erase_wrote v request (erase_steps.Deletes uid) fits e =
      let x = ended_so v fits.due in
      subst WroteFalls (one (requests.Delete (key_of_volume v) (Some uid)) request e)
      (λ o written moved.
      let h = deleted_falls w.store order seats.Ops o (rows_after (requests.Delete (key_of_volume v) (Some uid))) moved v fits.there x.ended w.moment
      (Some uid) x.staying (came setup w seats.Ops (requests.Delete (key_of_volume v) (Some uid)) o order written).write in
      omega (arith, h))
  erase_wrote v request erase_steps.WritesFailed fits e =
      subst WroteFalls (one (fail_call v) request e)
      (λ o written moved. let h = failed_stays w.store order seats.Ops o (rows_after (fail_call v)) moved v fits.there (ended_so v fits.due).ended
      (Some v.meta.version) (came setup w seats.Ops (fail_call v) o order written).write in omega (arith, h))
  erase_wrote v request erase_steps.Done fits e = none_some e
  erase_wrote v request erase_steps.Parked fits e = none_some e

  wrote_falls : (u : Under) → UnderFits w.store.rows u → WroteFalls u.call
  unfolding provision_call erase_call
  wrote_falls u fits = by u.task fits.task fits.call
    where
      by : (t : Task) → TaskFits w.store.rows t → task_call t ≡ Some u.call → WroteFalls u.call
      by (tasks.Provision op) f c = provision_wrote op f u.call op.step c
      by (tasks.Erase op) f c = erase_wrote op.volume u.call op.step f c
      by (tasks.Binder machine) f c = absurd f
      by (tasks.ClaimProtect op) f c = absurd f
      by (tasks.VolumeProtect op) f c = absurd f
      by (tasks.Agent op) f c = absurd f
      by (tasks.Schedule op) f c = absurd f

kind_is : (rows : List Object) (t : Task) → TaskFits rows t → task_kind t ≡ seats.Ops
kind_is rows (tasks.Provision op) f = refl
kind_is rows (tasks.Erase op) f = refl
kind_is rows (tasks.Binder machine) f = absurd f
kind_is rows (tasks.ClaimProtect op) f = absurd f
kind_is rows (tasks.VolumeProtect op) f = absurd f
kind_is rows (tasks.Agent op) f = absurd f
kind_is rows (tasks.Schedule op) f = absurd f

-- ---- a call of what is under way

module _ (setup : Setup) (seat : ℕ) (h : List Entry) (history : IsHistory setup h) (u : Under) (fits : UnderFits (world setup h).store.rows u) (may : RowAllows seats.Ops (own seat h) u.call) where
  abbrev w : World
  w = world setup h

  abbrev new : World
  new = world_after w (effect setup w seats.Ops u.call)

  abbrev said : Reply
  said = reply_to (effect setup w seats.Ops u.call)

  pub call_lowers : low setup new + under_fails (under_after u said) ≤ low setup w + under_fails (Some u)
  unfolding low
  call_lowers = by (comes_to w (effect setup w seats.Ops u.call))
    where
      faults : faults_left setup new.devices + erase_failed u.call said ≤ faults_left setup w.devices
      faults = faults_fall setup w u fits

      goes : under_fails (under_after u said) + phase_written u.call ≤ under_fails (Some u) + erase_failed u.call said
      goes = fails_go u said (kind_is w.store.rows u.task fits.task) fits.call

      by : ComesTo w (effect setup w seats.Ops u.call) → low setup new + under_fails (under_after u said) ≤ low setup w + under_fails (Some u)
      by (Leaves same) =
          let version : new.store.version ≡ w.store.version = ap (λ s. s.version) same in
          let made : sum new.store.rows ≡ sum w.store.rows = ap (λ s. sum s.rows) same in
          let nodes : nodes_in new ≡ nodes_in w = ap (λ s. total nodes_on s.rows) same in
          let f = faults in
          let g = goes in
          omega (arith, version, made, nodes, f, g)
      by (Wrote o written version moved) =
          let made = wrote_falls setup w (rows_stand_in_order setup h) u fits o written moved in
          let nodes = ops_nodes setup seat h history o new.store.rows moved u.call may (came setup w seats.Ops u.call o (rows_stand_in_order setup h) written).write in
          let f = faults in
          let g = goes in
          omega (arith, version, made, nodes, f, g)

-- ---- a read of a kind

abbrev pub IsRead : Request → Type 0
IsRead (requests.List kind namespace) = ⊤
IsRead (requests.Watch kind from) = ⊤
IsRead request = ⊥

module _ (setup : Setup) (w : World) (kind : SeatKind) where
  abbrev watched : Kind → ℕ → Bool → Bool → Effect
  watched k from ahead gone =
      if ahead then OnStore (Says (replies.Refused (refusals.Invalid fields.From)))
      else if gone then OnStore (Says (replies.Refused (refusals.Gone (oldest (base setup) w.store.version))))
      else OnStore (Says (replies.Events (told_events k from w.store.version w.log)))

  pub read_stays : (request : Request) → IsRead request → low setup (world_after w (effect setup w kind request)) ≡ low setup w
  unfolding effect on_devices device_answer outcome list watch world_after after low
  read_stays (requests.List k namespace) is = refl
  read_stays (requests.Watch k from) is = by (nat_lt w.store.version from) (nat_lt from (oldest (base setup) w.store.version))
    where
      by : (ahead gone : Bool) → low setup (world_after w (watched k from ahead gone)) ≡ low setup w
      by true gone = refl
      by false true = refl
      by false false = refl
  read_stays _ is = absurd is
