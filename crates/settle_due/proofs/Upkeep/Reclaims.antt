-- The reclaimer acts on a volume that has ended: it reads it, erases its data, and deletes it.
use Rattle.std.proofs.Common.{◌≡◌, ◌∙◌, ℕ, ◌+◌, List, ◌∷◌, Bool, true, false, true≢false, Option, Some, None, inl, inr, refl, sym, ap, subst, if◌then◌else◌}
use Rattle.std.specs.Prelude.{◌&&◌, is_some, not}
use Rattle.kube_objects.specs.declared.key.Key.{Key}
use Rattle.kube_parts.specs.declared.uid.Uid.{Uid}
use Rattle.kube_parts.specs.declared.names.Due.{Due}
use Rattle.kube_parts.specs.declared.names.Due.TheVariants as dues
use Rattle.kube_objects.specs.declared.objects.DataId.{DataId}
use Rattle.kube_objects.specs.declared.objects.Volume.{Volume as VolumeData}
use Rattle.kube_objects.specs.declared.objects.Object.TheVariants.{Volume}
use Rattle.kube_objects.specs.Bindings.{is_delete, is_deleting, is_ended, ref_uid}
use Rattle.kube_objects.specs.Keys.{key_of, row_at}
use Rattle.kube_objects.specs.Sources.{data_id_of}
use Rattle.kube_objects.proofs.KeyOrder.{row_at_key}
use Rattle.call_types.specs.declared.entry.Entry.{Entry}
use Rattle.call_types.specs.declared.reply.Refusal.TheVariants.{BackFault}
use Rattle.call_types.specs.declared.reply.Reply.{Reply}
use Rattle.call_types.specs.declared.reply.Reply.TheVariants.{Erased, Found, Refused}
use Rattle.call_types.specs.declared.request.Request.{Request}
use Rattle.call_types.specs.declared.request.Request.TheVariants as requests
use Rattle.call_types.specs.declared.request.SeatKind.{SeatKind}
use Rattle.call_types.specs.declared.request.SeatKind.TheVariants as seats
use Rattle.call_types.specs.declared.setup.Setup.{Setup}
use Rattle.std.specs.Prelude.{◌==◌}
use Rattle.std.proofs.Common.{arith}
use Rattle.std.proofs.lemmas.Bool.Decides.{nat_tests}
use Rattle.binder_model.specs.Answers.{is_other_uid, is_user}
use Rattle.binder_model.specs.Devices.{device_answer, erase, is_planned, unless_planned}
use Rattle.binder_model.specs.Due.{reclaim_due}
use Rattle.binder_model.specs.Imports.{ImportsPass}
use Rattle.binder_model.specs.ObjectKeys.{volume_key}
use Rattle.binder_model.specs.Reading.{follows}
use Rattle.binder_model.specs.World.{World, effect, on_devices, reply_to, world, world_after}
use Rattle.informer_cache.specs.All.{all_objects}
use Rattle.model_laws.proofs.Histories.{rows_stand_in_order}
use Rattle.model_laws.proofs.Lists.{none_some}
use Rattle.reclaim_ops.specs.Decisions.{claim_begins, volume_begins, volume_for}
use Rattle.reclaim_ops.specs.Erasures.{at_known, erase_call, erase_moved, key_of_volume}
use Rattle.reclaim_ops.specs.declared.erase.EraseStep.TheVariants as steps
use Rattle.worker_core.specs.declared.role.Role.{Role}
use Rattle.worker_core.specs.declared.task.First.{First}
use Rattle.worker_core.specs.declared.task.First.TheVariants as firsts
use Rattle.worker_core.specs.declared.task.Task.TheVariants as tasks
use Rattle.worker_core.specs.declared.task.Under.{Under}
use Rattle.worker_core.specs.States.{ActorState}
use Rattle.worker_core.specs.Tasks.{IsDecision, IsFirstOf, erase_first, ops_first, under_after, with_task}
use Rattle.settle_writes.specs.Writes.Lasting.{IsBackFault, Lasts}
use Rattle.settle_writes.specs.Writes.Writes.{IsStored}
use Rattle.settle_writes.proofs.Writes.Fitting.{no_namespace}
use Rattle.settle_writes.proofs.Writes.Volumes.{delete_lasts}
use Rattle.settle_alike.specs.Alike.Alike.{AreAlike}
use Rattle.settle_alike.proofs.Alike.Calls.{LastsOrAlike, calls_last_or_leave_alike, then_alike}
use Rattle.settle_alike.proofs.Alike.Rows.{plain_volume}
use Rattle.settle_slot.specs.Slot.Slots.{IsDecisionPoint, own_entry}
use Rattle.settle_slot.specs.Slot.Would.{AtOnce, Later, WouldLast}
use Rattle.settle_due.specs.Upkeep.Acts.{ReclaimsAct}
use Rattle.settle_due.proofs.Upkeep.Deciding.{BeginsLasting, acts_by, stored, volume_alike}
use Rattle.settle_due.proofs.Upkeep.Known.{rows_known}
use Rattle.settle_due.proofs.Upkeep.Volumes.{get_said, get_stays, got}

-- an erase is answered Erased, or fails as planned

data EraseSays (reply : Reply) : Type 0 where
  Goes : (removed : Bool) → reply ≡ Erased removed → EraseSays reply
  Fails : (call : ℕ) → reply ≡ Refused (BackFault call) → EraseSays reply

erase_says : (setup : Setup) (w : World) (kind : SeatKind) (id : DataId) → is_user kind ≡ false → EraseSays (reply_to (effect setup w kind (requests.Erase id)))
unfolding effect on_devices device_answer unless_planned erase reply_to
erase_says setup w kind id controller = rw controller (by (is_planned (w.devices.calls + 1) setup.faults) refl)
  where
    by : (b : Bool) → is_planned (w.devices.calls + 1) setup.faults ≡ b → EraseSays (unless_planned setup w.devices (erase w.devices id)).reply
    by true e = rw e (Fails (w.devices.calls + 1) refl)
    by false e = rw e (Goes _ refl)

-- and leaves the store
erase_keeps : (setup : Setup) (w : World) (kind : SeatKind) (id : DataId) → is_user kind ≡ false → (world_after w (effect setup w kind (requests.Erase id))).store ≡ w.store
unfolding effect on_devices device_answer world_after
erase_keeps setup w kind id controller = rw controller refl

same_uid : (x : Option Uid) → is_other_uid x x ≡ false
same_uid None = refl
same_uid (Some u) = let e : (u.0 == u.0) ≡ true = grind (arith, nat_tests) in rw e refl

abbrev is_reclaim : Option Due → Bool
is_reclaim (Some dues.Reclaim) = true
is_reclaim x = false

staying_of : (a b c d : Bool) → (a && b && c && not d) ≡ true → d ≡ false
staying_of a b c false e = refl
staying_of true true true true e = absurd (true≢false (sym e))
staying_of true true false true e = absurd (true≢false (sym e))
staying_of true false c true e = absurd (true≢false (sym e))
staying_of false b c true e = absurd (true≢false (sym e))

-- what is due is to reclaim, and the volume is not deleting
reclaim_is : (v : VolumeData) (action : Due) → reclaim_due v ≡ Some action → (reclaim_due v ≡ Some dues.Reclaim) × (is_deleting v.meta ≡ false)
reclaim_is v action e = by (is_ended v.phase && is_delete v.policy && is_some (ref_uid v.claim_ref) && not (is_deleting v.meta)) refl e
  where
    by : (b : Bool) → (is_ended v.phase && is_delete v.policy && is_some (ref_uid v.claim_ref) && not (is_deleting v.meta)) ≡ b → (if b then Some dues.Reclaim else None) ≡ Some action
        → ((if b then Some dues.Reclaim else None) ≡ Some dues.Reclaim) × (is_deleting v.meta ≡ false)
    by true is e = (refl, staying_of (is_ended v.phase) (is_delete v.policy) (is_some (ref_uid v.claim_ref)) (is_deleting v.meta) is)
    by false is e = none_some e

abbrev uid_or : Uid → Option Uid → Uid
uid_or u None = u
uid_or u (Some x) = x

-- it has a UID
pub record HasUid (x : Option Uid) : Type 0 where
  pub uid : Uid
  pub is : x ≡ Some uid

pub has_uid : (x : Option Uid) → is_some x ≡ true → HasUid x
has_uid None e = absurd (true≢false (sym e))
has_uid (Some u) e = record { uid = u; is = refl }

-- the volume that was read is erased next, where it is still to be reclaimed
found_volume : (key : Key) (u : VolumeData) (uid : Uid) → reclaim_due u ≡ Some dues.Reclaim → u.meta.uid ≡ Some uid
    → under_after (record { key = key; task = tasks.Erase (record { volume = u; step = steps.ReadsVolume }); call = requests.Get (key_of_volume u) }) (Found (Volume u))
    ≡ Some (record { key = key; task = tasks.Erase (record { volume = u; step = steps.Erases uid }); call = requests.Erase (data_id_of u.source) })
unfolding erase_call erase_moved
found_volume key u uid due known = by (reclaim_due u) u.meta.uid due known
  where
    by : (x : Option Due) (y : Option Uid) → x ≡ Some dues.Reclaim → y ≡ Some uid
        → with_task key (Some (tasks.Erase (if is_some x then at_known (record { volume = u; step = steps.ReadsVolume }) u y else record { volume = u; step = steps.Done })))
        ≡ Some (record { key = key; task = tasks.Erase (record { volume = u; step = steps.Erases uid }); call = requests.Erase (data_id_of u.source) })
    by x y ex ey = rw (ex, ey) refl

module _ (setup : Setup) (seat : ℕ) (role : Role) (start : List Entry) (key : Key) (v : VolumeData) (action : Due) (pass : ImportsPass setup.imports) (kind : role.kind ≡ seats.Ops)
    (there : row_at key (world setup start).store.rows ≡ Some (Volume v)) (due : reclaim_due v ≡ Some action) where
  controller : is_user role.kind ≡ false
  controller = ap is_user kind

  abbrev at_step : VolumeData → Key → Uid → Request → Under
  at_step u k uid call = record { key = k; task = tasks.Erase (record { volume = u; step = steps.Deletes uid }); call = call }

  module _ (s : ActorState) (h : List Entry) (p : IsDecisionPoint setup seat role start s h) (u : VolumeData)
      (is : row_at key (world setup h).store.rows ≡ Some (Volume u)) (same : plain_volume u ≡ plain_volume v) where
    s_kind : s.role.kind ≡ seats.Ops
    s_kind = ap (λ (r : Role). r.kind) p.role_is ∙ kind

    seen : row_at key (all_objects s.caches) ≡ Some (Volume u)
    seen = p.sees key (ap (λ x. follows x key.kind) s_kind ∙ ap (λ (k : Key). follows seats.Ops k.kind) (sym (row_at_key key (Volume u) (world setup h).store.rows is))) ∙ is

    due_is : (reclaim_due u ≡ Some dues.Reclaim) × (is_deleting u.meta ≡ false)
    due_is = reclaim_is u action (ap reclaim_due same ∙ due)

    on_store : IsStored (world setup h) (Volume u)
    on_store = stored setup h key (Volume u) pass is

    known : HasUid u.meta.uid
    known = has_uid u.meta.uid (rows_known setup h pass key (Volume u) is)

    own_key : key_of_volume u ≡ volume_key u.meta.name
    own_key = rw (no_namespace u on_store.valid) refl

    decided : (first : First) → IsDecision s.role s.memory (all_objects s.caches) key first → first ≡ firsts.Begins (tasks.Erase (record { volume = u; step = steps.ReadsVolume }))
    decided first x =
        (subst (λ k. IsFirstOf k s.role.node s.memory (all_objects s.caches) key first) s_kind x)
        ∙ (ap (λ y. ops_first (claim_begins (all_objects s.caches) y) (volume_begins y)) seen ∙ ap (λ y. erase_first (volume_for u y)) due_is.0)

    abbrev get : Request
    get = requests.Get (key_of_volume u)

    abbrev h_read : List Entry
    h_read = own_entry setup seat role.kind h (requests.Get (key_of_volume u)) ∷ h

    read_world : world setup h_read ≡ world setup h
    read_world = get_stays setup (world setup h) role.kind (key_of_volume u)

    read_alike : AreAlike (world setup start) (world setup h_read)
    read_alike = subst (AreAlike (world setup start)) (sym read_world) p.alike

    abbrev erasing : Under
    erasing = record { key = key; task = tasks.Erase (record { volume = u; step = steps.Erases known.uid }); call = requests.Erase (data_id_of u.source) }

    abbrev deleting : Under
    deleting = record { key = key; task = tasks.Erase (record { volume = u; step = steps.Deletes known.uid }); call = requests.Delete (key_of_volume u) (Some known.uid) }

    found : under_after (record {
      key = key;
      task = tasks.Erase (record { volume = u; step = steps.ReadsVolume });
      call = requests.Get
          (key_of_volume u);
    }) (reply_to (effect setup (world setup h) role.kind (requests.Get (key_of_volume u)))) ≡ Some erasing
    found =
        ap (under_after (record {
          key = key;
          task = tasks.Erase (record { volume = u; step = steps.ReadsVolume });
          call = requests.Get
              (key_of_volume u);
        })) (get_said setup (world setup h) role.kind (key_of_volume u) ∙ ap got on_store.there)
        ∙ found_volume key u known.uid due_is.0 known.is

    -- the erase lasts, or the volume is deleted after it
    abbrev h_erased : List Entry
    h_erased = own_entry setup seat role.kind h_read (requests.Erase (data_id_of u.source)) ∷ h_read

    erased_there : IsStored (world setup h_erased) (Volume u)
    erased_there = record {
      there = ap (λ x. row_at (key_of (Volume u)) x.rows)
          (erase_keeps setup (world setup h_read) role.kind (data_id_of u.source) controller)
          ∙ (ap (λ (w : World). row_at (key_of (Volume u)) w.store.rows) read_world ∙ on_store.there);
      valid = on_store.valid;
    }

    erases : EraseSays (reply_to (effect setup (world setup h_read) role.kind (requests.Erase (data_id_of u.source))))
        → LastsOrAlike (world setup h_read) (effect setup (world setup h_read) role.kind (requests.Erase (data_id_of u.source))) → WouldLast setup seat role.kind start h_read erasing
    unfolding erase_call erase_moved
    erases (Fails call e) w = AtOnce read_alike (inr (inr (subst IsBackFault (sym e) tt)))
    erases (Goes removed e) (inl lasts) = AtOnce read_alike lasts
    erases (Goes removed e) (inr alike) =
        Later read_alike deleting (ap (under_after erasing) e)
        (AtOnce (then_alike _ _ _ read_alike alike)
        (subst (λ k. Lasts setup (world setup h_erased) role.kind (requests.Delete k (Some known.uid))) (sym own_key)
        (delete_lasts setup (world setup h_erased) role.kind u (Some known.uid) controller erased_there due_is.1
        (subst (λ x. is_other_uid (Some known.uid) x ≡ false) (sym known.is) (same_uid (Some known.uid))))))

    begins : BeginsLasting setup seat role start key s h
    unfolding erase_call
    begins = record {
      task = tasks.Erase (record { volume = u; step = steps.ReadsVolume });
      call = requests.Get (key_of_volume u);
      only = decided;
      asks = refl;
      will = Later p.alike erasing found (erases (erase_says setup (world setup h_read) role.kind (data_id_of u.source) controller)
          (calls_last_or_leave_alike setup (world setup h_read) role.kind (requests.Erase (data_id_of u.source)) (rows_stand_in_order setup h_read)));
    }

  at_point : (s : ActorState) (h : List Entry) → IsDecisionPoint setup seat role start s h → BeginsLasting setup seat role start key s h
  at_point s h p = let at = volume_alike (world setup start) (world setup h) key v p.alike there in begins s h p at.volume at.is at.same

pub reclaims_act : ReclaimsAct
reclaims_act setup seat role start key v action pass kind there due = acts_by setup seat role start key (at_point setup seat role start key v action pass kind there due)
