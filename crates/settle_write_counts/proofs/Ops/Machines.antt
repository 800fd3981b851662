-- What ops has under way fits what stands, from the decision to its write, as long as nobody else calls.
use Rattle.std.proofs.Common.{◌≡◌, ◌∙◌, ℕ, List, Bool, true, false, Option, Some, None, refl, sym, ap, subst, if◌then◌else◌}
use Rattle.std.specs.Prelude.{is_some, not, ◌&&◌, ⊤}
use Rattle.kube_objects.specs.declared.key.Key.{Key}
use Rattle.kube_parts.specs.declared.names.Due.{Due}
use Rattle.kube_parts.specs.declared.names.Due.TheVariants as dues
use Rattle.kube_parts.specs.declared.uid.Uid.{Uid}
use Rattle.kube_objects.specs.declared.objects.Class.{Class as ClassData}
use Rattle.kube_objects.specs.declared.objects.Claim.{Claim as ClaimData}
use Rattle.kube_objects.specs.declared.objects.DataId.{DataId}
use Rattle.kube_objects.specs.declared.objects.Volume.{Volume as VolumeData}
use Rattle.kube_objects.specs.declared.objects.Object.{Object}
use Rattle.kube_objects.specs.declared.objects.Object.TheVariants.{Class, Node, Volume, Claim, Pod}
use Rattle.kube_objects.specs.Bindings.{class_of_claim}
use Rattle.kube_objects.specs.Keys.{key_of, row_at}
use Rattle.kube_objects.specs.Sources.{data_id_of}
use Rattle.kube_objects.proofs.KeyOrder.{row_at_key}
use Rattle.call_types.specs.declared.reply.Refusal.TheVariants as refusals
use Rattle.call_types.specs.declared.reply.Reply.{Reply}
use Rattle.call_types.specs.declared.reply.Reply.TheVariants as replies
use Rattle.call_types.specs.declared.request.Request.{Request}
use Rattle.call_types.specs.declared.request.Request.TheVariants as requests
use Rattle.call_types.specs.declared.request.SeatKind.TheVariants as seats
use Rattle.call_types.specs.declared.setup.Setup.{Setup}
use Rattle.binder_model.specs.Devices.{device_answer}
use Rattle.binder_model.specs.Due.{reclaim_due}
use Rattle.binder_model.specs.Matching.{has_match}
use Rattle.binder_model.specs.ObjectKeys.{class_key}
use Rattle.binder_model.specs.Provisioning.{is_wanting}
use Rattle.binder_model.specs.World.{World, effect, on_devices, reply_to, world_after}
use Rattle.model_laws.proofs.Lists.{none_some, one}
use Rattle.reclaim_ops.specs.declared.erase.EraseOp.{EraseOp}
use Rattle.reclaim_ops.specs.declared.erase.EraseStep.{EraseStep}
use Rattle.reclaim_ops.specs.declared.erase.EraseStep.TheVariants as erase_steps
use Rattle.reclaim_ops.specs.declared.provision.ProvisionOp.{ProvisionOp}
use Rattle.reclaim_ops.specs.declared.provision.ProvisionStep.{ProvisionStep}
use Rattle.reclaim_ops.specs.declared.provision.ProvisionStep.TheVariants as provision_steps
use Rattle.reclaim_ops.specs.Decisions.{at_step, begins_at, by_class, claim_begins, claim_for, first_step, volume_begins, volume_for}
use Rattle.reclaim_ops.specs.Erasures.{after_erase, at_found, at_known, erase_call, erase_call_at, erase_moved, key_of_volume, moved_at}
use Rattle.reclaim_ops.specs.Provisions.{ask_call, provision_call, provision_call_at, provision_moved, provision_step_after}
use Rattle.worker_core.specs.declared.task.First.{First}
use Rattle.worker_core.specs.declared.task.First.TheVariants as firsts
use Rattle.worker_core.specs.declared.task.Task.{Task}
use Rattle.worker_core.specs.declared.task.Task.TheVariants as tasks
use Rattle.worker_core.specs.declared.task.Under.{Under}
use Rattle.worker_core.specs.Tasks.{erase_first, ops_first, task_call, task_moved, under_after, with_call, with_task}
use Rattle.settle_due.proofs.Upkeep.Volumes.{get_said, get_stays, got}

-- ---- what it means to fit

-- the claim stands as it was decided on, and has the UID
pub record HasClaim (rows : List Object) (c : ClaimData) (uid : Uid) : Type 0 where
  pub there : row_at (key_of (Claim c)) rows ≡ Some (Claim c)
  pub known : c.meta.uid ≡ Some uid

-- the volume stands as it was read, and is to be reclaimed
pub record HasVolume (rows : List Object) (v : VolumeData) : Type 0 where
  pub there : row_at (key_of (Volume v)) rows ≡ Some (Volume v)
  pub due : is_some (reclaim_due v) ≡ true

abbrev pub StepFits : List Object → EraseStep → VolumeData → Type 0
StepFits rows (erase_steps.Erases uid) v = HasVolume rows v
StepFits rows (erase_steps.Deletes uid) v = HasVolume rows v
StepFits rows erase_steps.WritesFailed v = HasVolume rows v
StepFits rows step v = ⊤

abbrev pub TaskFits : List Object → Task → Type 0
TaskFits rows (tasks.Provision op) = HasClaim rows op.claim op.uid
TaskFits rows (tasks.Erase op) = StepFits rows op.step op.volume
TaskFits rows task = ⊥

pub record UnderFits (rows : List Object) (u : Under) : Type 0 where
  pub task : TaskFits rows u.task
  pub call : task_call u.task ≡ Some u.call

abbrev pub Fits : List Object → Option Under → Type 0
Fits rows None = ⊤
Fits rows (Some u) = UnderFits rows u

-- a task that fits, with its next call if any
with_fits : (rows : List Object) (key : Key) (t : Task) → TaskFits rows t → Fits rows (with_task key (Some t))
with_fits rows key t fits = by (task_call t) refl
  where
    by : (c : Option Request) → task_call t ≡ c → Fits rows (with_call key t c)
    by None e = tt
    by (Some call) e = record { task = fits; call = e }

-- ---- a call of the provisioner

module _ (setup : Setup) (w : World) (key : Key) where
  abbrev after : Request → List Object
  after request = (world_after w (effect setup w seats.Ops request)).store.rows

  abbrev said : Request → Reply
  said request = reply_to (effect setup w seats.Ops request)

  module _ (op : ProvisionOp) where
    abbrev provision_next : ProvisionStep → Reply → Option Under
    provision_next step reply = with_task key (Some (tasks.Provision (record op { step = provision_step_after step op.class reply })))

    -- a write is its last call
    creates_last : (id : DataId) (topology : Option (List ℕ × List ℕ)) (rows : List Object) (reply : Reply) → Fits rows (provision_next (provision_steps.Creates id topology) reply)
    unfolding provision_call
    creates_last id topology rows (replies.Refused refusal) = tt
    creates_last id topology rows _ = tt

    clears_last : (rows : List Object) (reply : Reply) → Fits rows (provision_next provision_steps.ClearsNode reply)
    unfolding provision_call
    clears_last rows (replies.Refused refusal) = tt
    clears_last rows _ = tt

    provision_fits : (call : Request) → HasClaim w.store.rows op.claim op.uid → (step : ProvisionStep)
        → provision_call_at step op.claim op.uid op.class ≡ Some call → Fits (after call) (provision_next step (said call))
    unfolding effect on_devices device_answer world_after
    provision_fits call has (provision_steps.Provisions labels) e =
        subst (λ r. Fits (after r) (provision_next (provision_steps.Provisions labels) (said r))) (one (ask_call op.claim op.uid op.class labels) call e)
        (with_fits w.store.rows key (tasks.Provision (record op { step = provision_step_after (provision_steps.Provisions labels) op.class (said (ask_call op.claim op.uid op.class labels)) })) has)
    provision_fits call has (provision_steps.Creates id topology) e = creates_last id topology (after call) (said call)
    provision_fits call has provision_steps.ClearsNode e = clears_last (after call) (said call)
    provision_fits call has provision_steps.Done e = none_some e
    provision_fits call has provision_steps.Parked e = none_some e

  -- ---- a call of the reclaimer

  module _ (op : EraseOp) where
    abbrev erase_next : EraseStep → Reply → Option Under
    erase_next step reply = with_task key (Some (tasks.Erase (moved_at op step reply)))

    -- a write is its last call
    deletes_last : (uid : Uid) (rows : List Object) (reply : Reply) → Fits rows (erase_next (erase_steps.Deletes uid) reply)
    unfolding erase_call
    deletes_last uid rows (replies.Refused refusal) = tt
    deletes_last uid rows _ = tt

    fails_last : (rows : List Object) (reply : Reply) → Fits rows (erase_next erase_steps.WritesFailed reply)
    unfolding erase_call
    fails_last rows (replies.Refused refusal) = tt
    fails_last rows _ = tt

    -- a volume that was read
    found_fits : (rows : List Object) (v : VolumeData) → row_at (key_of (Volume v)) rows ≡ Some (Volume v) → TaskFits rows (tasks.Erase (at_found op v))
    found_fits rows v there = by (is_some (reclaim_due v)) refl
      where
        known : (u : Option Uid) → is_some (reclaim_due v) ≡ true → TaskFits rows (tasks.Erase (at_known op v u))
        known None e = tt
        known (Some uid) e = record { there = there; due = e }

        by : (b : Bool) → is_some (reclaim_due v) ≡ b → TaskFits rows (tasks.Erase (if b then at_known op v v.meta.uid else record op { step = erase_steps.Done }))
        by true e = known v.meta.uid e
        by false e = tt

    read_fits : (rows : List Object) (k : Key) (row : Option Object) → row_at k rows ≡ row → Fits rows (erase_next erase_steps.ReadsVolume (got row))
    read_fits rows k (Some (Volume v)) e = with_fits rows key (tasks.Erase (at_found op v)) (found_fits rows v (ap (λ j. row_at j rows) (row_at_key k (Volume v) rows e) ∙ e))
    read_fits rows k None e = with_fits rows key (tasks.Erase (record op { step = erase_steps.Parked })) tt
    read_fits rows k (Some (Class x)) e = with_fits rows key (tasks.Erase (record op { step = erase_steps.Done })) tt
    read_fits rows k (Some (Node x)) e = with_fits rows key (tasks.Erase (record op { step = erase_steps.Done })) tt
    read_fits rows k (Some (Claim x)) e = with_fits rows key (tasks.Erase (record op { step = erase_steps.Done })) tt
    read_fits rows k (Some (Pod x)) e = with_fits rows key (tasks.Erase (record op { step = erase_steps.Done })) tt

    erased_fits : (rows : List Object) (uid : Uid) (reply : Reply) → HasVolume rows op.volume → StepFits rows (after_erase uid reply) op.volume
    erased_fits rows uid (replies.Erased removed) has = has
    erased_fits rows uid (replies.Refused (refusals.BackFault planned)) has = has
    erased_fits rows uid (replies.Refused _) has = tt
    erased_fits rows uid _ has = tt

    erase_fits : (call : Request) (step : EraseStep) → StepFits w.store.rows step op.volume → erase_call_at step op.volume ≡ Some call → Fits (after call) (erase_next step (said call))
    unfolding effect on_devices device_answer world_after
    erase_fits call erase_steps.ReadsVolume fits e =
        subst (λ r. Fits (after r) (erase_next erase_steps.ReadsVolume (said r))) (one (requests.Get (key_of_volume op.volume)) call e)
        (subst (λ x. Fits x.store.rows (erase_next erase_steps.ReadsVolume (said (requests.Get (key_of_volume op.volume))))) (sym (get_stays setup w seats.Ops (key_of_volume op.volume)))
        (subst (λ r. Fits w.store.rows (erase_next erase_steps.ReadsVolume r)) (sym (get_said setup w seats.Ops (key_of_volume op.volume)))
        (read_fits w.store.rows (key_of_volume op.volume) (row_at (key_of_volume op.volume) w.store.rows) refl)))
    erase_fits call (erase_steps.Erases uid) fits e =
        subst (λ r. Fits (after r) (erase_next (erase_steps.Erases uid) (said r))) (one (requests.Erase (data_id_of op.volume.source)) call e)
        (with_fits w.store.rows key (tasks.Erase (moved_at op (erase_steps.Erases uid) (said (requests.Erase (data_id_of op.volume.source)))))
        (erased_fits w.store.rows uid (said (requests.Erase (data_id_of op.volume.source))) fits))
    erase_fits call (erase_steps.Deletes uid) fits e = deletes_last uid (after call) (said call)
    erase_fits call erase_steps.WritesFailed fits e = fails_last (after call) (said call)
    erase_fits call erase_steps.Done fits e = none_some e
    erase_fits call erase_steps.Parked fits e = none_some e

-- what is under way fits after its call too
pub goes_on : (setup : Setup) (w : World) (u : Under) → UnderFits w.store.rows u
    → Fits (world_after w (effect setup w seats.Ops u.call)).store.rows (under_after u (reply_to (effect setup w seats.Ops u.call)))
unfolding provision_call provision_moved erase_call erase_moved
goes_on setup w u fits = by u.task fits.task fits.call
  where
    by : (t : Task) → TaskFits w.store.rows t → task_call t ≡ Some u.call → Fits (after setup w u.key u.call) (with_task u.key (task_moved t (said setup w u.key u.call)))
    by (tasks.Provision op) f c = provision_fits setup w u.key op u.call f op.step c
    by (tasks.Erase op) f c = erase_fits setup w u.key op u.call op.step f c
    by (tasks.Binder machine) f c = absurd f
    by (tasks.ClaimProtect op) f c = absurd f
    by (tasks.VolumeProtect op) f c = absurd f
    by (tasks.Agent op) f c = absurd f
    by (tasks.Schedule op) f c = absurd f

-- ---- what a decision begins

module _ (stored cached : List Object) where
  abbrev begun_in : First → Option Task
  begun_in (firsts.Begins task) = Some task
  begun_in first = None

  -- what begins for a claim has the claim, with its UID
  record IsFor (c : ClaimData) (op : ProvisionOp) : Type 0 where
    claim : op.claim ≡ c
    known : c.meta.uid ≡ Some op.uid

  begun_for : (c : ClaimData) (op : ProvisionOp) → claim_for cached c ≡ Some op → IsFor c op
  begun_for c op e = by (is_wanting c && not (has_match cached c)) c.meta.uid refl (row_at (class_key (class_of_claim c)) cached) e
    where
      begins : (uid : Uid) → c.meta.uid ≡ Some uid → (x : ClassData) (step : Option ProvisionStep) → begins_at c uid x step ≡ Some op → IsFor c op
      begins uid known x None found = none_some found
      begins uid known x (Some step) found = subst (IsFor c) (one (at_step c uid x step) op found) (record { claim = refl; known = known })

      by : (b : Bool) (u : Option Uid) → c.meta.uid ≡ u → (row : Option Object) → (if b then by_class cached c u row else None) ≡ Some op → IsFor c op
      by true (Some uid) known (Some (Class x)) found = begins uid known x (first_step cached c x) found
      by true None known row found = none_some found
      by true (Some uid) known None found = none_some found
      by true (Some uid) known (Some (Node o)) found = none_some found
      by true (Some uid) known (Some (Volume o)) found = none_some found
      by true (Some uid) known (Some (Claim o)) found = none_some found
      by true (Some uid) known (Some (Pod o)) found = none_some found
      by false u known row found = none_some found

  module _ (t : Task) where
    of_volume : (v : VolumeData) (due : Option Due) → firsts.Begins t ≡ erase_first (volume_for v due) → TaskFits stored t
    of_volume v (Some dues.Reclaim) e = subst (TaskFits stored) (sym (one t _ (ap begun_in e))) tt
    of_volume v _ e = none_some (sym (ap begun_in e))

    of_claim : (c : ClaimData) → row_at (key_of (Claim c)) stored ≡ Some (Claim c) → (found : Option ProvisionOp) → claim_for cached c ≡ found
        → firsts.Begins t ≡ ops_first found None → TaskFits stored t
    of_claim c there None is e = none_some (sym (ap begun_in e))
    of_claim c there (Some op) is e =
        let b = begun_for c op is in
        subst (TaskFits stored) (sym (one t (tasks.Provision op) (ap begun_in e)))
        (record { there = subst (λ x. row_at (key_of (Claim x)) stored ≡ Some (Claim x)) (sym b.claim) there; known = ap (λ (x : ClaimData). x.meta.uid) b.claim ∙ b.known })

    pub nothing_begun : firsts.Begins t ≡ firsts.Drops → TaskFits stored t
    nothing_begun e = none_some (sym (ap begun_in e))

    -- by the row of the key, which is that of the store
    pub begun_fits : (k : Key) (row : Option Object) → row_at k stored ≡ row → firsts.Begins t ≡ ops_first (claim_begins cached row) (volume_begins row) → TaskFits stored t
    begun_fits k (Some (Claim c)) is e = of_claim c (ap (λ j. row_at j stored) (row_at_key k (Claim c) stored is) ∙ is) (claim_for cached c) refl e
    begun_fits k (Some (Volume v)) is e = of_volume v (reclaim_due v) e
    begun_fits k None is e = nothing_begun e
    begun_fits k (Some (Class x)) is e = nothing_begun e
    begun_fits k (Some (Node x)) is e = nothing_begun e
    begun_fits k (Some (Pod x)) is e = nothing_begun e
