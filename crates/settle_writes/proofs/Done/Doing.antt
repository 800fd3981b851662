-- A write that is done and says something new lasts.
use Rattle.std.proofs.Common.{◌≡◌, ◌≢◌, ◌∙◌, ◌⊎◌, ℕ, ◌+◌, List, [], ◌∷◌, Bool, true, false, true≢false, Option, Some, None, inl, inr, refl, sym, ap, subst, arith, if◌then◌else◌}
use Rattle.std.specs.Prelude.{◌&&◌, ◌||◌, bytes_eq, is_none, is_some, not, option_map, ⊤}
use Rattle.std.proofs.lemmas.Cmp.{nat_list_cmp_total}
use Rattle.std.proofs.lemmas.Slice.Eq.{bytes_eq-Decides}
use Rattle.plain_data.specs.Pairs.{Pair, pair_key, put_pair, without_key}
use Rattle.plain_data.proofs.RowLookups.{find-put}
use Rattle.kube_objects.specs.declared.key.Key.{Key}
use Rattle.kube_parts.specs.declared.names.Due.TheVariants as dues
use Rattle.kube_parts.specs.declared.parts.Kind.{Kind}
use Rattle.kube_parts.specs.declared.parts.Kind.TheVariants as kinds
use Rattle.kube_parts.specs.declared.parts.VolumePhase.{VolumePhase}
use Rattle.kube_parts.specs.declared.parts.VolumePhase.TheVariants as volumes
use Rattle.kube_objects.specs.declared.objects.Class.{Class as ClassData}
use Rattle.kube_objects.specs.declared.objects.Claim.{Claim as ClaimData}
use Rattle.kube_objects.specs.declared.objects.Pod.{Pod as PodData}
use Rattle.kube_objects.specs.declared.objects.Ref.{Ref}
use Rattle.kube_objects.specs.declared.objects.Volume.{Volume as VolumeData}
use Rattle.kube_objects.specs.declared.objects.Object.{Object}
use Rattle.kube_objects.specs.declared.objects.Object.TheVariants.{Class, Node, Volume, Claim, Pod}
use Rattle.kube_parts.specs.declared.uid.Uid.{Uid}
use Rattle.kube_objects.specs.Bindings.{
  bind_completed,
  bound_by_controller,
  carries,
  has_key,
  has_name,
  is_available,
  is_bound,
  is_deleting,
  is_empty,
  is_ended,
  is_for,
  is_protected_volume,
  names_claim,
  pvc_protection,
  refers_carrying,
  uid_carries,
  yes,
}
use Rattle.kube_objects.specs.Keys.{key_of, kind_index, kind_of, meta_of, row_at}
use Rattle.kube_objects.proofs.KeyOrder.{row_at_key}
use Rattle.call_types.specs.declared.entry.Entry.{Entry}
use Rattle.call_types.specs.declared.reply.Refusal.{Refusal}
use Rattle.call_types.specs.declared.request.Request.{Request}
use Rattle.call_types.specs.declared.request.Request.TheVariants as requests
use Rattle.call_types.specs.declared.request.SeatKind.{SeatKind}
use Rattle.call_types.specs.declared.request.SeatKind.TheVariants as seats
use Rattle.call_types.specs.declared.setup.Setup.{Setup}
use Rattle.binder_model.specs.Answers.{Outcome, Removes, Says, Stores, finish, is_other_version, is_user, outcome, pod_with, refuse, refuse_stale, reply_of}
use Rattle.binder_model.specs.At.{IsWrittenAt}
use Rattle.binder_model.specs.BinderLicence.{IsFreeFor, IsTaken, MayAssignClass, MayTake}
use Rattle.binder_model.specs.BindWrites.{
  annotated_meta,
  annotated_meta_if,
  claim_write,
  completed_with,
  is_completed_with,
  next_write,
  shows_bound,
  taken_for,
  unbound_volume,
  without_uid,
  write_bound,
  write_claim_status,
  write_completion,
  write_reference,
  write_unbound,
}
use Rattle.binder_model.specs.Devices.{device_answer}
use Rattle.binder_model.specs.Due.{claim_guard_due}
use Rattle.binder_model.specs.Imports.{ImportsPass}
use Rattle.binder_model.specs.Licence.{AreOfKind, RowAllows}
use Rattle.binder_model.specs.ObjectKeys.{claim_key, node_key, volume_key}
use Rattle.binder_model.specs.SchedulerLicence.{MayAssign}
use Rattle.binder_model.specs.Store.{State, at_version, created_object, admitted_object, leaves_at_once, marked_object, updated_object, with_meta, with_status_of, without_status}
use Rattle.binder_model.specs.Told.{IsClaimWith, IsVolumeWith, SomeOf, ToldObject, own}
use Rattle.binder_model.specs.World.{Effect, IsHistory, OnDevices, OnStore, SetsMoment, World, effect, on_devices, reply_to, stale_epoch, world, world_after}
use Rattle.model_laws.specs.Stood.{Stood}
use Rattle.model_laws.proofs.Evidence.{told_map}
use Rattle.model_laws.proofs.Histories.{rows_stand_in_order}
use Rattle.model_laws.proofs.Lists.{none_some, one}
use Rattle.model_laws.proofs.Newest.{newest_told}
use Rattle.model_laws.proofs.Truths.{told_is_true}
use Rattle.safety_law.specs.Invariant.Moves.{written_by}
use Rattle.safety_law.specs.Invariant.Writes.{EffectOf, IsUpdate, Writes}
use Rattle.safety_law.proofs.Invariant.Effects.{effect_form}
use Rattle.binder_machines.specs.declared.machine.Machine.{Machine}
use Rattle.binder_machines.specs.declared.machine.Machine.TheVariants.{Frees, Binds, MarksBound, ReadsClaim, Releases, Unbinds, ReadsVolume, AssignsClass, Loses}
use Rattle.binder_machines.specs.Evidence.{MachineKeeps, ToldThis, ToldThisClaim}
use Rattle.binder_machines.specs.Machines.{assigned, call_of, read_of, write_class, write_lost}
use Rattle.binder_machines.proofs.Tests.{empty_is}
use Rattle.licence_rows.proofs.NewestKeys.{newest_keyed}
use Rattle.informer_cache.specs.declared.cache.NextRead.{NextRead}
use Rattle.informer_cache.specs.declared.cache.NextRead.TheVariants as asks
use Rattle.informer_cache.specs.All.{cache_of}
use Rattle.informer_cache.specs.Cache.{ask_of}
use Rattle.protect_sync.specs.ClaimGuards.{claim_guard_call, claim_guard_call_at, claim_write_over, guarded_claim, unguarded_claim}
use Rattle.protect_sync.specs.Evidence.{ClaimStepKeeps, VolumeStepKeeps}
use Rattle.protect_sync.specs.VolumeGuards.{guarded_volume, unguarded_volume, volume_guard_call, volume_guard_call_at, volume_write_over}
use Rattle.protect_sync.specs.declared.claims.ClaimGuardStep.{ClaimGuardStep}
use Rattle.protect_sync.specs.declared.claims.ClaimGuardStep.TheVariants as claim_steps
use Rattle.protect_sync.specs.declared.volumes.VolumeGuardStep.{VolumeGuardStep}
use Rattle.protect_sync.specs.declared.volumes.VolumeGuardStep.TheVariants as volume_steps
use Rattle.reclaim_ops.specs.Erasures.{erase_call, erase_call_at, fail_call, key_of_volume}
use Rattle.reclaim_ops.specs.Provisions.{ask_call, clear_call, create_call, provision_call, provision_call_at}
use Rattle.reclaim_ops.specs.declared.erase.EraseStep.{EraseStep}
use Rattle.reclaim_ops.specs.declared.erase.EraseStep.TheVariants as erase_steps
use Rattle.reclaim_ops.specs.declared.provision.ProvisionStep.{ProvisionStep}
use Rattle.reclaim_ops.specs.declared.provision.ProvisionStep.TheVariants as provision_steps
use Rattle.worker_core.specs.declared.task.Task.{Task}
use Rattle.worker_core.specs.declared.task.Task.TheVariants as tasks
use Rattle.worker_core.specs.declared.task.Under.{Under}
use Rattle.worker_core.specs.declared.turn.Given.{Given}
use Rattle.worker_core.specs.declared.turn.Given.TheVariants as givens
use Rattle.worker_core.specs.Memories.{Memory}
use Rattle.worker_core.specs.Stands.{AnyIsUnderWay}
use Rattle.worker_core.specs.States.{agent_start, call_under, given_call, read_of_kind, read_request, start_of}
use Rattle.worker_core.specs.Steps.Evidence.{TaskKeeps, task_kind}
use Rattle.worker_core.specs.Tasks.{task_call}
use Rattle.worker_core.proofs.Machines.{keeps_under, task_allowed}
use Rattle.worker_core.proofs.Owning.{all_of_kind, stood}
use Rattle.settle_writes.specs.Writes.Lasting.{IsChanged, Lasts, LastsBetween, content_of}
use Rattle.settle_writes.specs.Writes.Valid.{IsValid}
use Rattle.settle_writes.specs.Writes.Writes.{IsStored, write_phase}
use Rattle.settle_writes.proofs.Writes.Claims.{claim_guard_lasts, class_lasts, lost_lasts, status_is_lasting}
use Rattle.settle_writes.proofs.Writes.Pods.{node_named}
use Rattle.settle_writes.proofs.Writes.Valid.{rows_are_valid}
use Rattle.settle_writes.proofs.Writes.Volumes.{phase_lasts, reference_lasts, unbind_lasts, volume_guard_lasts, volume_unguard_lasts}
use Rattle.settle_writes.specs.Done.Apart.{OtherWritesLast, is_apart}
use Rattle.settle_writes.proofs.Done.Saying.{IsNewClaimGuard, IsNewMachine, IsNewTask, IsNewVolumeGuard, under_new}
use Rattle.model_laws.proofs.FinalizerNames.{without_lacks as dropped}
use Rattle.safety_law.proofs.Invariant.StandsAt.{is_volume}
use Rattle.safety_law.proofs.Invariant.StandsAt.{is_claim}
pub use Rattle.safety_law.proofs.Invariant.StandsAt.{stands_it}
pub use Rattle.safety_law.proofs.Invariant.Known.{told_one}
use Rattle.model_laws.proofs.Identity.{key-marked as marked_key}

-- ---- what was told, and stands at the version of the write

-- an object that was told, of which P holds

some_in : (P : Object → Type 0) (os : List Object) → SomeOf P os → (o : Object) × SomeOf (λ x. x ≡ o) os × P o
some_in P [] h = absurd h
some_in P (o ∷ os) h = elim h [
  | inl is ↦ (o, inl refl, is)
  | inr more ↦ let r = some_in P os more in (r.0, inr r.1, r.2)
]

-- what stood passes the tests of a create
stood_valid : (setup : Setup) → ImportsPass setup.imports → (past : List Entry) (o : Object) → Stood setup past o → IsValid o
stood_valid setup imports [] o there = rows_are_valid setup [] imports (key_of o) o there
stood_valid setup imports (e ∷ past) o (inl before) = stood_valid setup imports past o before
stood_valid setup imports (e ∷ past) o (inr there) = rows_are_valid setup (e ∷ past) imports (key_of o) o there

-- a pod is bound to a node that has a name
pub assigned_filled : (setup : Setup) (seat : ℕ) (h : List Entry) → ImportsPass setup.imports → IsHistory setup h
    → (key : Key) (uid : Uid) (node : List ℕ) → MayAssign (own seat h) key uid node → is_empty node ≡ false
assigned_filled setup seat h imports history key uid node may =
    let was : Stood setup h (Node may.on) = told_is_true setup h seat (Node may.on) history (newest_told (own seat h) (node_key node) (Node may.on) may.node_newest) in
    let named = node_named may.on (stood_valid setup imports h (Node may.on) was) in
    ap is_empty (ap (λ (k : Key). k.name) (sym (newest_keyed (own seat h) (node_key node) (Node may.on) may.node_newest))) ∙ named

-- ---- the write

pub write_asked : (setup : Setup) (w : World) (kind : SeatKind) (request : Request) (o : Object) (x : Effect) → EffectOf setup w kind request x → written_by x ≡ Some o → Writes w kind request o
write_asked setup w kind request o (OnStore (Says reply)) form e = none_some e
write_asked setup w kind request o (OnStore (Stores change p)) form e = subst (Writes w kind request) (one p o e) form
write_asked setup w kind request o (OnStore (Removes p)) form e = subst (Writes w kind request) (one p o e) form.0
write_asked setup w kind request o (OnDevices a) form e = none_some e
write_asked setup w kind request o (SetsMoment at) form e = none_some e

changed_by : (w : World) (o : Object) (x : Effect) → written_by x ≡ Some o → IsChanged (row_at (key_of o) w.store.rows) o → LastsBetween w (world_after w x) (reply_to x)
unfolding reply_to reply_of
changed_by w o (OnStore (Says reply)) e changed = none_some e
changed_by w o (OnStore (Stores change p)) e changed = inl (subst (λ y. IsChanged (row_at (key_of y) w.store.rows) y) (sym (one p o e)) changed)
changed_by w o (OnStore (Removes p)) e changed = inl tt
changed_by w o (OnDevices a) e changed = none_some e
changed_by w o (SetsMoment at) e changed = none_some e

-- ---- an object that leaves

abbrev NeverStores : Outcome → Type 0
NeverStores (Stores change o) = ⊥
NeverStores x = ⊤

leaves_last : (w : World) (o : Object) (x : Outcome) → NeverStores x → written_by (OnStore x) ≡ Some o → LastsBetween w (world_after w (OnStore x)) (reply_to (OnStore x))
unfolding reply_to reply_of
leaves_last w o (Says reply) never e = none_some e
leaves_last w o (Stores change p) never e = absurd never
leaves_last w o (Removes p) never e = inl tt

refuse_never : (b : Bool) (refusal : Refusal) (next : Outcome) → NeverStores next → NeverStores (refuse b refusal next)
unfolding refuse
refuse_never true refusal next never = tt
refuse_never false refusal next never = never

finish_never : (s : State) (stale : Option ℕ) (node : List ℕ) (p : Option PodData) → NeverStores (finish s stale node p)
unfolding finish refuse_stale
finish_never s stale node None = tt
finish_never s (Some current) node (Some p) = tt
finish_never s None node (Some p) = refuse_never _ _ _ (refuse_never _ _ _ tt)

finish_lasts : (setup : Setup) (w : World) (kind : SeatKind) (key : Key) (uid : Uid) (node : List ℕ) (epoch : ℕ) (o : Object)
    → written_by (effect setup w kind (requests.FinishPod key uid node epoch)) ≡ Some o → Lasts setup w kind (requests.FinishPod key uid node epoch)
unfolding effect on_devices device_answer outcome
finish_lasts setup w kind key uid node epoch o e =
    leaves_last w o (outcome w.store kind (requests.FinishPod key uid node epoch) w.moment
    (stale_epoch w.devices (requests.FinishPod key uid node epoch)))
    (refuse_never _ _ _ (finish_never w.store (stale_epoch w.devices (requests.FinishPod key uid node epoch)) node (pod_with uid (row_at key w.store.rows)))) e

-- ---- contents

abbrev claim_in : ClaimData → Object → ClaimData
claim_in c (Claim x) = x
claim_in c o = c

abbrev is_marked : Object → Bool
is_marked o = is_deleting (meta_of o)

marked_differs : (old : Object) (n : ℕ) (moment : List ℕ) → is_deleting (meta_of old) ≡ false → content_of old ≢ content_of (marked_object old n moment)
unfolding marked_object with_meta
marked_differs (Class x) n moment staying e = true≢false (sym (ap is_marked e) ∙ staying)
marked_differs (Node x) n moment staying e = true≢false (sym (ap is_marked e) ∙ staying)
marked_differs (Volume x) n moment staying e = true≢false (sym (ap is_marked e) ∙ staying)
marked_differs (Claim x) n moment staying e = true≢false (sym (ap is_marked e) ∙ staying)
marked_differs (Pod x) n moment staying e = true≢false (sym (ap is_marked e) ∙ staying)

-- a volume does not leave at once
stays_first : {X : Type 0} (old : Object) → kind_index (kind_of old) ≡ 2 → leaves_at_once old ≡ true → X
unfolding leaves_at_once
stays_first (Class x) kind leaves = absurd (true≢false (sym leaves))
stays_first (Node x) kind leaves = absurd (true≢false (sym leaves))
stays_first (Volume x) kind leaves = absurd (true≢false (sym leaves))
stays_first (Claim x) kind leaves = absurd (true≢false (sym leaves))
stays_first (Pod x) kind leaves = absurd (omega (arith, kind))

taken_key : (v : VolumeData) (c : ClaimData) → key_of (Volume v) ≡ key_of (Volume (taken_for v c))
unfolding taken_for
taken_key v c = by (is_none v.claim_ref)
  where
    by : (b : Bool) → key_of (Volume v) ≡ key_of (Volume (record v { meta = annotated_meta_if b bound_by_controller v.meta }))
    by true = refl
    by false = refl

unbound_key : (v : VolumeData) → key_of (Volume v) ≡ key_of (Volume (unbound_volume v))
unfolding unbound_volume
unbound_key v = by (has_key bound_by_controller v.meta.annotations)
  where
    by : (b : Bool) → key_of (Volume v) ≡ key_of
        (Volume (if b then record v { claim_ref = None; meta = record v.meta { annotations = without_key bound_by_controller v.meta.annotations } }
        else record v { claim_ref = without_uid v.claim_ref }))
    by true = refl
    by false = refl

-- a reference that is free for a claim does not carry it
free_carries : (r : Option Ref) (c : ClaimData) → IsFreeFor r c → refers_carrying r c ≡ false
free_carries None c free = refl
free_carries (Some r) c free = ap (λ u. names_claim r c && uid_carries u c) free.1 ∙ no_and (names_claim r c)
  where
    no_and : (b : Bool) → (b && false) ≡ false
    no_and true = refl
    no_and false = refl

key_there : (k v : List ℕ) (ps : List Pair) → has_key k (put_pair k v ps) ≡ true
key_there k v ps = ap is_some (ap (option_map (λ (p : Pair). p.1)) (find-put nat_list_cmp_total pair_key (k, v) ps))

-- ---- each write

module _ (setup : Setup) (seat : ℕ) (h : List Entry) (imports : ImportsPass setup.imports) (history : IsHistory setup h) (kind : SeatKind) (controller : is_user kind ≡ false) (o : Object) where
  abbrev w : World
  w = world setup h

  volume_stood : (v : VolumeData) → ToldThis v (own seat h) → Stood setup h (Volume v)
  volume_stood v told = told_is_true setup h seat (Volume v) history (told_map (is_volume v) (own seat h) told)

  claim_stood : (c : ClaimData) → ToldThisClaim c (own seat h) → Stood setup h (Claim c)
  claim_stood c told = told_is_true setup h seat (Claim c) history (told_map (is_claim c) (own seat h) told)

  stored_it : (x old : Object) (key : Key) → Stood setup h x → key_of x ≡ key → row_at key (world setup h).store.rows ≡ Some old
      → is_other_version (Some (meta_of x).version) (meta_of old).version ≡ false → IsStored (world setup h) x
  stored_it x old key was keyed there version =
      let at : row_at key (world setup h).store.rows ≡ Some x = there ∙ ap Some (stands_it setup h x old key was keyed there version) in
      record { there = ap (λ k. row_at k (world setup h).store.rows) keyed ∙ at; valid = rows_are_valid setup h imports key x at }

  -- an update of what stands, to something else
  module _ (request : Request) (written : written_by (effect setup (world setup h) kind request) ≡ Some o) where
    changed : IsChanged (row_at (key_of o) (world setup h).store.rows) o → Lasts setup (world setup h) kind request
    changed differs = changed_by (world setup h) o (effect setup (world setup h) kind request) written differs

    over : (old : Object) → row_at (key_of o) (world setup h).store.rows ≡ Some old → content_of old ≢ content_of o → Lasts setup (world setup h) kind request
    over old there differs = changed (subst (λ row. IsChanged row o) (sym there) differs)

  phase_at : (v : VolumeData) (phase : VolumePhase) (request : Request) → ToldThis v (own seat h) → is_empty v.meta.namespace ≡ true
      → v.phase ≢ phase → write_phase v phase ≡ request → Writes (world setup h) kind request o → Lasts setup (world setup h) kind request
  phase_at v phase request told none differs is writes = subst (λ r. Writes (world setup h) kind r o → Lasts setup (world setup h) kind r) is go writes
    where
      keyed : key_of (Volume v) ≡ volume_key v.meta.name
      keyed = rw (empty_is v.meta.namespace none) refl

      go : Writes (world setup h) kind (write_phase v phase) o → Lasts setup (world setup h) kind (write_phase v phase)
      go i = phase_lasts setup (world setup h) kind v phase controller (stored_it (Volume v) i.old (volume_key v.meta.name) (volume_stood v told) keyed i.there i.version) differs

  reference_at : (v : VolumeData) (c : ClaimData) (uid : Uid) (request : Request) → Stood setup h (Volume v) → Stood setup h (Claim c)
      → c.meta.uid ≡ Some uid → carries v c ≡ false → write_reference v c ≡ request → Writes (world setup h) kind request o
      → Lasts setup (world setup h) kind request
  reference_at v c uid request was claim has free is writes = subst (λ r. Writes (world setup h) kind r o → Lasts setup (world setup h) kind r) is go writes
    where
      go : Writes (world setup h) kind (write_reference v c) o → Lasts setup (world setup h) kind (write_reference v c)
      go i = reference_lasts setup (world setup h) kind v c uid controller
          (stored_it (Volume v) i.old (key_of (Volume (taken_for v c))) was (taken_key v c) i.there i.version) (stood_valid setup imports h (Claim c) claim) has free

  abbrev names_it : ClaimData → VolumeData → Object → Bool
  names_it c v x = is_completed_with (claim_in c x) v

  completion_at : (v : VolumeData) (c : ClaimData) (request : Request) → ToldThisClaim c (own seat h) → is_completed_with c v ≡ false
      → write_completion v c ≡ request → Writes (world setup h) kind request o → written_by (effect setup (world setup h) kind request) ≡ Some o
      → Lasts setup (world setup h) kind request
  unfolding completed_with updated_object with_meta with_status_of
  completion_at v c request told other is writes written =
      subst (λ r. Writes (world setup h) kind r o → written_by (effect setup (world setup h) kind r) ≡ Some o → Lasts setup (world setup h) kind r) is go writes written
    where
      go : Writes (world setup h) kind (write_completion v c) o → written_by (effect setup (world setup h) kind (write_completion v c)) ≡ Some o
          → Lasts setup (world setup h) kind (write_completion v c)
      go i done = by (is_empty c.volume_name) i done
        where
          shown : (ps : List Pair) → is_completed_with (record c { volume_name = v.meta.name; meta = record c.meta { annotations = put_pair bind_completed yes ps } }) v ≡ true
          shown ps =
              let e : bytes_eq v.meta.name v.meta.name ≡ true = (bytes_eq-Decides v.meta.name v.meta.name).1 refl in
              rw (key_there bind_completed yes ps, e) refl

          with_name : (ps : List Pair) → (x : Object) → x ≡ Claim c
              → o ≡ updated_object x (Claim (record c { volume_name = v.meta.name; meta = record c.meta { annotations = put_pair bind_completed yes ps } })) ((world setup h).store.version + 1)
              → row_at (key_of (Claim c)) (world setup h).store.rows ≡ Some x → (r : Request) → written_by (effect setup (world setup h) kind r) ≡ Some o → Lasts setup (world setup h) kind r
          with_name ps x same made there r wrote =
              let is_o = made ∙ ap (λ y. updated_object y
              (Claim (record c { volume_name = v.meta.name; meta = record c.meta { annotations = put_pair bind_completed yes ps } })) ((world setup h).store.version + 1)) same in
              over r wrote (Claim c) (ap (λ y. row_at (key_of y) (world setup h).store.rows) is_o ∙ (there ∙ ap Some same))
              (λ e. true≢false (sym (ap (names_it c v) (e ∙ ap content_of is_o) ∙ shown ps) ∙ other))

          by : (b : Bool) → IsUpdate (world setup h).store kind
              (Claim (record c { volume_name = v.meta.name; meta = annotated_meta bind_completed (annotated_meta_if b bound_by_controller c.meta) })) (Some c.meta.version) o
              → written_by (effect setup (world setup h) kind
              (requests.Update (Claim (record c
              { volume_name = v.meta.name; meta = annotated_meta bind_completed (annotated_meta_if b bound_by_controller c.meta) })) (Some c.meta.version))) ≡ Some o
              → Lasts setup (world setup h) kind (requests.Update
              (Claim (record c { volume_name = v.meta.name; meta = annotated_meta bind_completed (annotated_meta_if b bound_by_controller c.meta) })) (Some c.meta.version))
          by true u wrote = with_name (put_pair bound_by_controller yes c.meta.annotations) u.old
              (stands_it setup h (Claim c) u.old (key_of (Claim c)) (claim_stood c told) refl u.there u.version) u.is u.there _ wrote
          by false u wrote = with_name c.meta.annotations u.old (stands_it setup h (Claim c) u.old (key_of (Claim c)) (claim_stood c told) refl u.there u.version) u.is u.there _ wrote

  status_at : (v : VolumeData) (c : ClaimData) (request : Request) → ToldThisClaim c (own seat h) → shows_bound c v ≡ false
      → write_claim_status v c ≡ request → Writes (world setup h) kind request o → Lasts setup (world setup h) kind request
  status_at v c request told shows is writes = subst (λ r. Writes (world setup h) kind r o → Lasts setup (world setup h) kind r) is go writes
    where
      go : Writes (world setup h) kind (write_claim_status v c) o → Lasts setup (world setup h) kind (write_claim_status v c)
      go i = status_is_lasting setup (world setup h) kind v c controller (stored_it (Claim c) i.old (claim_key c.meta.namespace c.meta.name) (claim_stood c told) refl i.there i.version) shows

  -- the four writes
  binds_at : (v : VolumeData) (c : ClaimData) (request : Request) → ToldThis v (own seat h) → ToldThisClaim c (own seat h)
      → is_some c.meta.uid ≡ true → is_empty v.meta.namespace ≡ true → next_write v c ≡ Some request → Writes (world setup h) kind request o
      → written_by (effect setup (world setup h) kind request) ≡ Some o → Lasts setup (world setup h) kind request
  unfolding next_write claim_write
  binds_at v c request volume claim known none call writes written =
      by (carries v c) (is_ended v.phase) (is_bound v.phase) (is_protected_volume v) (is_completed_with c v) (shows_bound c v) refl refl refl refl call
    where
      refers : (uid : Option Uid) → c.meta.uid ≡ uid → is_some uid ≡ true → carries v c ≡ false → write_reference v c ≡ request → Lasts setup (world setup h) kind request
      refers None has some free is = absurd (true≢false (sym some))
      refers (Some uid) has some free is = reference_at v c uid request (volume_stood v volume) (claim_stood c claim) has free is writes

      by : (carry ended bound guarded done shows : Bool) → carries v c ≡ carry → is_bound v.phase ≡ bound → is_completed_with c v ≡ done → shows_bound c v ≡ shows
          → (if not carry then (if ended then None else Some (write_reference v c)) else if not bound then (if ended || not guarded then None else Some (write_bound v))
          else if not done then Some (write_completion v c) else if not shows then Some (write_claim_status v c) else None) ≡ Some request → Lasts setup (world setup h) kind request
      by false true bound guarded done shows ec eb ed es e = none_some e
      by false false bound guarded done shows ec eb ed es e = refers c.meta.uid refl known ec (one (write_reference v c) request e)
      by true true false guarded done shows ec eb ed es e = none_some e
      by true false false false done shows ec eb ed es e = none_some e
      by true false false true done shows ec eb ed es e = phase_at v volumes.Bound request volume none (λ p. true≢false (sym (ap is_bound p) ∙ eb)) (one (write_bound v) request e) writes
      by true ended true guarded false shows ec eb ed es e = completion_at v c request claim ed (one (write_completion v c) request e) writes written
      by true ended true guarded true false ec eb ed es e = status_at v c request claim es (one (write_claim_status v c) request e) writes
      by true ended true guarded true true ec eb ed es e = none_some e

  no_get : (key : Key) (request : Request) → requests.Get key ≡ request → Writes (world setup h) kind request o → Lasts setup (world setup h) kind request
  no_get key request is writes = absurd (subst (λ r. Writes (world setup h) kind r o) (sym is) writes)

  machine_lasts : (m : Machine) (request : Request) → MachineKeeps m (own seat h) → IsNewMachine m → call_of m ≡ Some request
      → Writes (world setup h) kind request o → written_by (effect setup (world setup h) kind request) ≡ Some o → Lasts setup (world setup h) kind request
  unfolding call_of
  machine_lasts (Frees v) request keeps new call writes written = by (is_empty v.meta.namespace) refl call
    where
      by : (b : Bool) → is_empty v.meta.namespace ≡ b → (if b then Some (write_phase v volumes.Available) else None) ≡ Some request → Lasts setup (world setup h) kind request
      by true e c = phase_at v volumes.Available request keeps.0 e (λ p. true≢false (sym (ap is_available p) ∙ new)) (one (write_phase v volumes.Available) request c) writes
      by false e c = none_some c
  machine_lasts (MarksBound v) request keeps new call writes written = by (is_empty v.meta.namespace) refl call
    where
      by : (b : Bool) → is_empty v.meta.namespace ≡ b → (if b then Some (write_phase v volumes.Bound) else None) ≡ Some request → Lasts setup (world setup h) kind request
      by true e c = phase_at v volumes.Bound request keeps.0 e (λ p. true≢false (sym (ap is_bound p) ∙ new)) (one (write_phase v volumes.Bound) request c) writes
      by false e c = none_some c
  machine_lasts (Releases v) request keeps new call writes written = by (is_empty v.meta.namespace) refl call
    where
      by : (b : Bool) → is_empty v.meta.namespace ≡ b → (if b then Some (write_phase v volumes.Released) else None) ≡ Some request → Lasts setup (world setup h) kind request
      by true e c = phase_at v volumes.Released request keeps.0 e (λ p. true≢false (sym (ap is_ended p) ∙ keeps.1.live)) (one (write_phase v volumes.Released) request c) writes
      by false e c = none_some c
  machine_lasts (Unbinds v) request keeps new call writes written = subst (λ r. Writes (world setup h) kind r o → Lasts setup (world setup h) kind r) (one (write_unbound v) request call) go writes
    where
      go : Writes (world setup h) kind (write_unbound v) o → Lasts setup (world setup h) kind (write_unbound v)
      go i = unbind_lasts setup (world setup h) kind v keeps.1.uid controller
          (stored_it (Volume v) i.old (key_of (Volume (unbound_volume v))) (volume_stood v keeps.0) (unbound_key v) i.there i.version) keeps.1.refers
  machine_lasts (Binds v c) request keeps new call writes written =
      by (is_some c.meta.uid) (is_empty v.meta.namespace) (is_none v.claim_ref || is_for v c) (is_empty c.volume_name || bytes_eq c.volume_name v.meta.name) refl refl call
    where
      by : (a b d e : Bool) → is_some c.meta.uid ≡ a → is_empty v.meta.namespace ≡ b → (if a && b && d && e then next_write v c else None) ≡ Some request → Lasts setup (world setup h) kind request
      by false b d e ea eb r = none_some r
      by true false d e ea eb r = none_some r
      by true true false e ea eb r = none_some r
      by true true true false ea eb r = none_some r
      by true true true true ea eb r = binds_at v c request keeps.0 keeps.1 ea eb r writes written
  machine_lasts (AssignsClass c x) request keeps new call writes written = by (is_some c.meta.uid) (is_empty x.meta.namespace) refl call
    where
      go : MayAssignClass (own seat h) c (assigned c x) → Writes (world setup h) kind (write_class c x) o → Lasts setup (world setup h) kind (write_class c x)
      go may i = class_lasts setup (world setup h) kind c x.meta.name controller (stored_it (Claim c) i.old (key_of (Claim c)) (claim_stood c keeps.0) refl i.there i.version) may.classless may.undone

      by : (a b : Bool) → is_empty x.meta.namespace ≡ b → (if a && b then Some (write_class c x) else None) ≡ Some request → Lasts setup (world setup h) kind request
      by false b e r = none_some r
      by true false e r = none_some r
      by true true e r = subst (λ q. Writes (world setup h) kind q o → Lasts setup (world setup h) kind q) (one (write_class c x) request r) (go (keeps.1 (empty_is x.meta.namespace e))) writes
  machine_lasts (Loses c) request keeps new call writes written = subst (λ r. Writes (world setup h) kind r o → Lasts setup (world setup h) kind r) (one (write_lost c) request call) go writes
    where
      go : Writes (world setup h) kind (write_lost c) o → Lasts setup (world setup h) kind (write_lost c)
      go i = lost_lasts setup (world setup h) kind c c.got_modes c.got controller
          (stored_it (Claim c) i.old (claim_key c.meta.namespace c.meta.name) (claim_stood c keeps.0) refl i.there i.version) new
  machine_lasts (ReadsClaim v) request keeps new call writes written = by (is_empty v.meta.namespace) (is_some v.meta.uid) v.claim_ref call
    where
      by : (a b : Bool) (r : Option Ref) → (if a && b then read_of r else None) ≡ Some request → Lasts setup (world setup h) kind request
      by true true (Some r) e = no_get (claim_key r.namespace r.name) request (one _ request e) writes
      by true true None e = none_some e
      by true false r e = none_some e
      by false b r e = none_some e
  machine_lasts (ReadsVolume c) request keeps new call writes written = by (is_some c.meta.uid) call
    where
      by : (a : Bool) → (if a then Some (requests.Get (volume_key c.volume_name)) else None) ≡ Some request → Lasts setup (world setup h) kind request
      by true e = no_get (volume_key c.volume_name) request (one _ request e) writes
      by false e = none_some e

  -- protection
  claim_guard_at : (step : ClaimGuardStep) (c : ClaimData) (request : Request) → ClaimStepKeeps step c (own seat h) → IsNewClaimGuard step c
      → claim_guard_call_at step c ≡ Some request → Writes (world setup h) kind request o → written_by (effect setup (world setup h) kind request) ≡ Some o
      → Lasts setup (world setup h) kind request
  unfolding updated_object with_meta with_status_of
  claim_guard_at claim_steps.Adds c request keeps new call writes written =
      subst (λ r. Writes (world setup h) kind r o → Lasts setup (world setup h) kind r) (one (claim_write_over c (guarded_claim c)) request call) go writes
    where
      due : claim_guard_due (world setup h).store.rows c ≡ Some dues.Guard
      due = rw (keeps.staying, keeps.lacks) refl

      go : Writes (world setup h) kind (claim_write_over c (guarded_claim c)) o → Lasts setup (world setup h) kind (claim_write_over c (guarded_claim c))
      go i = claim_guard_lasts setup (world setup h) kind c controller (stored_it (Claim c) i.old (key_of (Claim c)) (claim_stood c keeps.told) refl i.there i.version) due
  claim_guard_at claim_steps.Drops c request keeps new call writes written =
      subst (λ r. Writes (world setup h) kind r o → written_by (effect setup (world setup h) kind r) ≡ Some o → Lasts setup (world setup h) kind r)
      (one (claim_write_over c (unguarded_claim c)) request call) go writes written
    where
      go : Writes (world setup h) kind (claim_write_over c (unguarded_claim c)) o
          → written_by (effect setup (world setup h) kind (claim_write_over c (unguarded_claim c))) ≡ Some o → Lasts setup (world setup h) kind (claim_write_over c (unguarded_claim c))
      go i wrote =
          let same = stands_it setup h (Claim c) i.old (key_of (Claim c)) (claim_stood c keeps.told) refl i.there i.version in
          let is_o = i.is ∙ ap (λ y. updated_object y (Claim (unguarded_claim c)) ((world setup h).store.version + 1)) same in
          over (claim_write_over c (unguarded_claim c)) wrote (Claim c) (ap (λ y. row_at (key_of y) (world setup h).store.rows) is_o ∙ (i.there ∙ ap Some same))
          (λ e. true≢false (sym new ∙ (ap (λ (x : Object). has_name pvc_protection (meta_of x).finalizers) (e ∙ ap content_of is_o) ∙ dropped pvc_protection c.meta.finalizers)))
  claim_guard_at claim_steps.ListsPods c request keeps new call writes written = by (is_some c.meta.uid) call
    where
      by : (b : Bool) → (if b then Some (requests.List kinds.Pod (Some c.meta.namespace)) else None) ≡ Some request → Lasts setup (world setup h) kind request
      by true e = absurd (subst (λ r. Writes (world setup h) kind r o) (sym (one _ request e)) writes)
      by false e = none_some e
  claim_guard_at claim_steps.Done c request keeps new call writes written = none_some call
  claim_guard_at claim_steps.Parked c request keeps new call writes written = none_some call

  volume_guard_at : (step : VolumeGuardStep) (v : VolumeData) (request : Request) → VolumeStepKeeps step v (own seat h) → IsNewVolumeGuard step v
      → volume_guard_call_at step v ≡ Some request → Writes (world setup h) kind request o → Lasts setup (world setup h) kind request
  volume_guard_at volume_steps.Adds v request keeps new call writes =
      subst (λ r. Writes (world setup h) kind r o → Lasts setup (world setup h) kind r) (one (volume_write_over v (guarded_volume v)) request call) go writes
    where
      go : Writes (world setup h) kind (volume_write_over v (guarded_volume v)) o → Lasts setup (world setup h) kind (volume_write_over v (guarded_volume v))
      go i = volume_guard_lasts setup (world setup h) kind v controller
          (stored_it (Volume v) i.old (key_of (Volume v)) (volume_stood v keeps.told) refl i.there i.version) (rw (keeps.staying, keeps.lacks) refl)
  volume_guard_at volume_steps.Drops v request keeps new call writes =
      subst (λ r. Writes (world setup h) kind r o → Lasts setup (world setup h) kind r) (one (volume_write_over v (unguarded_volume v)) request call) go writes
    where
      go : Writes (world setup h) kind (volume_write_over v (unguarded_volume v)) o → Lasts setup (world setup h) kind (volume_write_over v (unguarded_volume v))
      go i = volume_unguard_lasts setup (world setup h) kind v controller
          (stored_it (Volume v) i.old (key_of (Volume v)) (volume_stood v keeps.told) refl i.there i.version) (rw (keeps.deleting, new, keeps.loose) refl)
  volume_guard_at volume_steps.Done v request keeps new call writes = none_some call
  volume_guard_at volume_steps.Parked v request keeps new call writes = none_some call

  -- ops
  provision_at : (step : ProvisionStep) (c : ClaimData) (uid : Uid) (x : ClassData) (request : Request) → kind ≡ seats.Ops
      → provision_call_at step c uid x ≡ Some request → is_apart kind request ≡ false → Writes (world setup h) kind request o
      → written_by (effect setup (world setup h) kind request) ≡ Some o → Lasts setup (world setup h) kind request
  unfolding created_object admitted_object without_status with_meta
  provision_at (provision_steps.Provisions labels) c uid x request of call plain writes written =
      absurd (subst (λ r. Writes (world setup h) kind r o) (sym (one (ask_call c uid x labels) request call)) writes)
  provision_at (provision_steps.Creates id topology) c uid x request of call plain writes written =
      subst (λ r. Writes (world setup h) kind r o → written_by (effect setup (world setup h) kind r) ≡ Some o → Lasts setup (world setup h) kind r)
      (one (create_call c uid x id topology) request call) go writes written
    where
      go : Writes (world setup h) kind (create_call c uid x id topology) o
          → written_by (effect setup (world setup h) kind (create_call c uid x id topology)) ≡ Some o → Lasts setup (world setup h) kind (create_call c uid x id topology)
      go i wrote = changed (create_call c uid x id topology) wrote (subst (λ row. IsChanged row o) (sym (ap (λ y. row_at (key_of y) (world setup h).store.rows) i.is ∙ i.free)) tt)
  provision_at provision_steps.ClearsNode c uid x request of call plain writes written =
      absurd (true≢false (sym (ap (λ k. is_apart k (clear_call c)) of) ∙ (ap (is_apart kind) (one (clear_call c) request call) ∙ plain)))
  provision_at provision_steps.Done c uid x request of call plain writes written = none_some call
  provision_at provision_steps.Parked c uid x request of call plain writes written = none_some call

  erase_at : (step : EraseStep) (v : VolumeData) (request : Request) → kind ≡ seats.Ops → erase_call_at step v ≡ Some request
      → is_apart kind request ≡ false → Writes (world setup h) kind request o → written_by (effect setup (world setup h) kind request) ≡ Some o
      → Lasts setup (world setup h) kind request
  erase_at erase_steps.ReadsVolume v request of call plain writes written = no_get (key_of_volume v) request (one _ request call) writes
  erase_at (erase_steps.Erases uid) v request of call plain writes written = absurd (subst (λ r. Writes (world setup h) kind r o) (sym (one _ request call)) writes)
  erase_at erase_steps.WritesFailed v request of call plain writes written =
      absurd (true≢false (sym (ap (λ k. is_apart k (fail_call v)) of) ∙ (ap (is_apart kind) (one (fail_call v) request call) ∙ plain)))
  erase_at (erase_steps.Deletes uid) v request of call plain writes written =
      subst (λ r. Writes (world setup h) kind r o → written_by (effect setup (world setup h) kind r) ≡ Some o → Lasts setup (world setup h) kind r)
      (one (requests.Delete (key_of_volume v) (Some uid)) request call) go writes written
    where
      go : Writes (world setup h) kind (requests.Delete (key_of_volume v) (Some uid)) o
          → written_by (effect setup (world setup h) kind (requests.Delete (key_of_volume v) (Some uid))) ≡ Some o → Lasts setup (world setup h) kind (requests.Delete (key_of_volume v) (Some uid))
      go i wrote = by i.first
        where
          own_key : key_of i.old ≡ key_of_volume v
          own_key = row_at_key (key_of_volume v) i.old (world setup h).store.rows i.there

          there : row_at (key_of o) (world setup h).store.rows ≡ Some i.old
          there = ap (λ k. row_at k (world setup h).store.rows) (ap key_of i.is ∙ (marked_key i.old _ _ ∙ own_key)) ∙ i.there

          by : (leaves_at_once i.old ≡ true) ⊎ (is_deleting (meta_of i.old) ≡ false) → Lasts setup (world setup h) kind (requests.Delete (key_of_volume v) (Some uid))
          by (inl leaves) = stays_first i.old (ap (λ (k : Key). kind_index k.kind) own_key) leaves
          by (inr staying) = over (requests.Delete (key_of_volume v) (Some uid)) wrote i.old there (λ e. marked_differs i.old _ _ staying (e ∙ ap content_of i.is))
  erase_at erase_steps.Done v request of call plain writes written = none_some call
  erase_at erase_steps.Parked v request of call plain writes written = none_some call

  -- the scheduler
  scheduled_at : (request : Request) → kind ≡ seats.Scheduler → RowAllows seats.Scheduler (own seat h) request → is_apart kind request ≡ false
      → Writes (world setup h) kind request o → written_by (effect setup (world setup h) kind request) ≡ Some o
      → Lasts setup (world setup h) kind request
  unfolding at_version with_meta
  scheduled_at (requests.Update (Volume new) given) of may plain writes written = by t.0 t.1 t.2
    where
      t : (x : Object) × ToldObject (λ y. y ≡ x) (own seat h) × IsVolumeWith (λ v. IsWrittenAt given new.meta.namespace new.meta.name v.meta × MayTake (own seat h) v new) x
      t = told_one (IsVolumeWith (λ v. IsWrittenAt given new.meta.namespace new.meta.name v.meta × MayTake (own seat h) v new)) (own seat h) may

      taken : (v : VolumeData) → ToldObject (λ y. y ≡ Volume v) (own seat h) → IsWrittenAt given new.meta.namespace new.meta.name v.meta
          → MayTake (own seat h) v new → Lasts setup (world setup h) kind (requests.Update (Volume new) given)
      taken v told at take = of_claim c.0 c.1 c.2
        where
          c : (x : Object) × ToldObject (λ y. y ≡ x) (own seat h) × IsClaimWith (IsTaken v new) x
          c = told_one (IsClaimWith (IsTaken v new)) (own seat h) take.told

          with_uid : (d : ClaimData) (uid : Option Uid) → d.meta.uid ≡ uid → is_some uid ≡ true → Stood setup h (Claim d) → IsTaken v new d
              → Lasts setup (world setup h) kind (requests.Update (Volume new) given)
          with_uid d None has some was is = absurd (true≢false (sym some))
          with_uid d (Some uid) has some was is =
              reference_at v d uid (requests.Update (Volume new) given) (told_is_true setup h seat (Volume v) history told) was has
              (free_carries v.claim_ref d is.free) (λ i. requests.Update (Volume ((sym is.change) i)) ((sym at.version) i)) writes

          of_claim : (x : Object) → ToldObject (λ y. y ≡ x) (own seat h) → IsClaimWith (IsTaken v new) x → Lasts setup (world setup h) kind (requests.Update (Volume new) given)
          of_claim (Claim d) told_it is = with_uid d d.meta.uid refl is.known (told_is_true setup h seat (Claim d) history told_it) is
          of_claim (Class x) told_it is = absurd is
          of_claim (Node x) told_it is = absurd is
          of_claim (Volume x) told_it is = absurd is
          of_claim (Pod x) told_it is = absurd is

      by : (x : Object) → ToldObject (λ y. y ≡ x) (own seat h)
          → IsVolumeWith (λ v. IsWrittenAt given new.meta.namespace new.meta.name v.meta × MayTake (own seat h) v new) x → Lasts setup (world setup h) kind (requests.Update (Volume new) given)
      by (Volume v) told is = taken v told is.0 is.1
      by (Class x) told is = absurd is
      by (Node x) told is = absurd is
      by (Claim x) told is = absurd is
      by (Pod x) told is = absurd is
  scheduled_at (requests.Update (Claim new) given) of may plain writes written = absurd (true≢false (sym (ap (λ k. is_apart k (requests.Update (Claim new) given)) of) ∙ plain))
  scheduled_at (requests.Update (Class x) given) of may plain writes written = absurd may
  scheduled_at (requests.Update (Node x) given) of may plain writes written = absurd may
  scheduled_at (requests.Update (Pod x) given) of may plain writes written = absurd may
  scheduled_at (requests.BindPod key uid node) of may plain writes written =
      over (requests.BindPod key uid node) written (Pod writes.pod)
      (ap (λ k. row_at k (world setup h).store.rows) (ap key_of writes.is ∙ row_at_key key (Pod writes.pod) (world setup h).store.rows writes.there) ∙ writes.there)
      (λ e. true≢false (sym (no_node (is_empty writes.pod.node) writes.unscheduled)
      ∙ (ap (λ x. is_empty (node_in x)) (e ∙ ap content_of writes.is) ∙ assigned_filled setup seat h imports history key uid node may)))
    where
      no_node : (b : Bool) → not b ≡ false → b ≡ true
      no_node true e = refl
      no_node false e = absurd (true≢false e)

      node_in : Object → List ℕ
      node_in (Pod p) = p.node
      node_in x = []
  scheduled_at (requests.Create x) of may plain writes written = absurd may
  scheduled_at (requests.UpdateStatus key status given) of may plain writes written = absurd may
  scheduled_at (requests.Edit key change) of may plain writes written = absurd may
  scheduled_at (requests.Delete key given) of may plain writes written = absurd may
  scheduled_at (requests.FinishPod key uid node epoch) of may plain writes written = absurd may
  scheduled_at _ of may plain writes written = absurd writes

  -- a node agent
  agent_at : (request : Request) → RowAllows seats.Agent (own seat h) request → Writes (world setup h) kind request o
      → written_by (effect setup (world setup h) kind request) ≡ Some o → Lasts setup (world setup h) kind request
  agent_at (requests.FinishPod key uid node epoch) may writes written = finish_lasts setup (world setup h) kind key uid node epoch o written
  agent_at (requests.Create x) may writes written = absurd may
  agent_at (requests.Update x given) may writes written = absurd may
  agent_at (requests.UpdateStatus key status given) may writes written = absurd may
  agent_at (requests.Edit key change) may writes written = absurd may
  agent_at (requests.Delete key given) may writes written = absurd may
  agent_at (requests.BindPod key uid node) may writes written = absurd may
  agent_at _ may writes written = absurd writes

  -- each machine
  task_lasts : (t : Task) (request : Request) → task_kind t ≡ kind → TaskKeeps t (own seat h) → IsNewTask t → task_call t ≡ Some request
      → RowAllows (task_kind t) (own seat h) request → is_apart kind request ≡ false → Writes (world setup h) kind request o
      → written_by (effect setup (world setup h) kind request) ≡ Some o → Lasts setup (world setup h) kind request
  unfolding claim_guard_call volume_guard_call provision_call erase_call
  task_lasts (tasks.Binder m) request of keeps new call may plain writes written = machine_lasts m request keeps new call writes written
  task_lasts (tasks.ClaimProtect op) request of keeps new call may plain writes written = claim_guard_at op.step op.claim request keeps new call writes written
  task_lasts (tasks.VolumeProtect op) request of keeps new call may plain writes written = volume_guard_at op.step op.volume request keeps new call writes
  task_lasts (tasks.Agent op) request of keeps new call may plain writes written = agent_at request may writes written
  task_lasts (tasks.Provision op) request of keeps new call may plain writes written = provision_at op.step op.claim op.uid op.class request (sym of) call plain writes written
  task_lasts (tasks.Erase op) request of keeps new call may plain writes written = erase_at op.step op.volume request (sym of) call plain writes written
  task_lasts (tasks.Schedule op) request of keeps new call may plain writes written = scheduled_at request (sym of) may plain writes written

-- ---- an actor

-- a user is no actor
not_user : (t : Task) → is_user (task_kind t) ≡ false
not_user (tasks.Binder m) = refl
not_user (tasks.ClaimProtect op) = refl
not_user (tasks.VolumeProtect op) = refl
not_user (tasks.Agent op) = refl
not_user (tasks.Provision op) = refl
not_user (tasks.Erase op) = refl
not_user (tasks.Schedule op) = refl

-- a call of the start, a list and a watch write nothing
start_writes : (w : World) (by kind : SeatKind) (node : List ℕ) (m : Memory) (request : Request) (o : Object) → start_of kind node m ≡ Some request → Writes w by request o → ⊥
start_writes w by seats.Agent node m request o e writes = of m.epoch (is_some m.mounts) e
  where
    of : (epoch : Option ℕ) (told : Bool) → agent_start node epoch told ≡ Some request → ⊥
    of None told h = subst (λ r. Writes w by r o) (sym (one (requests.TakeNode node) request h)) writes
    of (Some epoch) false h = subst (λ r. Writes w by r o) (sym (one (requests.Mounts node epoch) request h)) writes
    of (Some epoch) true h = none_some h
start_writes w by seats.User node m request o e writes = none_some e
start_writes w by seats.Binder node m request o e writes = none_some e
start_writes w by seats.Ops node m request o e writes = none_some e
start_writes w by seats.Scheduler node m request o e writes = none_some e
start_writes w by seats.ClaimProtect node m request o e writes = none_some e
start_writes w by seats.VolumeProtect node m request o e writes = none_some e

read_writes : (w : World) (by : SeatKind) (kind : Kind) (a : NextRead) (o : Object) → Writes w by (read_request kind a) o → ⊥
read_writes w by kind asks.List o writes = writes
read_writes w by kind (asks.Watch from) o writes = writes

pub other_writes_last : OtherWritesLast
other_writes_last setup seat x request h o imports history stands ask plain written = by x.given refl
  where
    writes : Writes (world setup h) x.role.kind request o
    writes = write_asked setup (world setup h) x.role.kind request o (effect setup (world setup h) x.role.kind request)
        (effect_form setup (world setup h) x.role.kind request (rows_stand_in_order setup h)) written

    under : (u : Option Under) → AnyIsUnderWay x.role u (own seat h) → option_map call_under u ≡ Some request → Lasts setup (world setup h) x.role.kind request
    under None way c = none_some c
    under (Some u) way c =
        let kept = keeps_under x.role u (own seat h) (stood x (own seat h) stands) way in
        let call : task_call u.task ≡ Some request = kept.call ∙ c in
        let of_kind : AreOfKind (task_kind u.task) (own seat h) = subst (λ k. AreOfKind k (own seat h)) (sym kept.of_kind) (all_of_kind x.role.kind (own seat h) stands.licensed) in
        task_lasts setup seat h imports history x.role.kind (ap is_user (sym kept.of_kind) ∙ not_user u.task) o u.task request kept.of_kind kept.keeps (under_new x.role u (own seat h) way) call
        (task_allowed u.task (own seat h) request of_kind kept.keeps call) plain writes written

    by : (g : Option Given) → x.given ≡ g → Lasts setup (world setup h) x.role.kind request
    by None e = none_some (ap (given_call x) (sym e) ∙ ask)
    by (Some givens.Task) e = under x.under stands.under_way (ap (given_call x) (sym e) ∙ ask)
    by (Some givens.Start) e = absurd (start_writes (world setup h) x.role.kind x.role.kind x.role.node x.memory request o (ap (given_call x) (sym e) ∙ ask) writes)
    by (Some (givens.Read k)) e =
        absurd (read_writes (world setup h) x.role.kind k (ask_of (cache_of k x.caches)) o
        (subst (λ r. Writes (world setup h) x.role.kind r o) (sym (one (read_of_kind x.caches k) request (ap (given_call x) (sym e) ∙ ask))) writes))
