-- A call that lasts writes, changes data or mounts, or fails as planned; so where its write lowers what is left to do it pays.
use Rattle.std.proofs.Common.{◌≡◌, ◌∙◌, ℕ, ◌+◌, ◌≤◌, List, Bool, true, false, true≢false, Option, Some, None, inl, inr, refl, sym, ap, subst, arith}
use Rattle.std.specs.Prelude.{nat_lt, ⊤, if◌then◌else◌}
use Rattle.kube_objects.specs.declared.key.Key.{Key}
use Rattle.kube_parts.specs.declared.names.Field.{Field}
use Rattle.kube_parts.specs.declared.names.Rule.{Rule}
use Rattle.kube_parts.specs.declared.uid.Uid.{Uid}
use Rattle.kube_objects.specs.declared.objects.Object.{Object}
use Rattle.kube_objects.specs.declared.objects.Pod.{Pod as PodData}
use Rattle.kube_objects.specs.Bindings.{is_deleting}
use Rattle.kube_objects.specs.Keys.{key_of, meta_of, row_at}
use Rattle.kube_objects.proofs.KeyOrder.{row_at_key}
use Rattle.kube_parts.specs.declared.names.Field.TheVariants as fields
use Rattle.kube_parts.specs.declared.parts.Kind.{Kind}
use Rattle.plain_data.specs.Pairs.{Pair}
use Rattle.call_types.specs.declared.edit.Edit.{Edit}
use Rattle.call_types.specs.declared.request.Request.{Request}
use Rattle.call_types.specs.declared.request.Request.TheVariants as requests
use Rattle.call_types.specs.declared.request.NewStatus.{NewStatus}
use Rattle.call_types.specs.declared.request.SeatKind.{SeatKind}
use Rattle.call_types.specs.declared.reply.Refusal.{Refusal}
use Rattle.call_types.specs.declared.reply.Refusal.TheVariants as refusals
use Rattle.call_types.specs.declared.reply.Reply.{Reply}
use Rattle.call_types.specs.declared.reply.Reply.TheVariants as replies
use Rattle.call_types.specs.declared.setup.Setup.{Setup}
use Rattle.binder_model.specs.Answers.{
  Outcome,
  Removes,
  Says,
  Stores,
  after,
  bind,
  create,
  delete,
  delete_of,
  edit,
  edit_to,
  finish,
  get,
  is_for_store,
  is_user,
  list,
  outcome,
  pod_with,
  refuse,
  refuse_field,
  refuse_rule,
  refuse_stale,
  reply_of,
  update,
  update_status,
  write_outcome,
  write_of,
  written_if_fits,
}
use Rattle.binder_model.specs.Devices.{
  DeviceAnswer,
  Devices,
  after_call,
  data_named,
  device_answer,
  epoch_if_stale,
  erase,
  first_fit,
  is_planned,
  provision,
  provision_new,
  take_node,
  unless_planned,
  unless_stale,
  with_mounts,
  Data,
  MountAt,
}
use Rattle.binder_model.specs.Store.{State, leaves, leaves_at_once}
use Rattle.binder_model.specs.Edits.{edited_object}
use Rattle.binder_model.specs.Watching.{oldest, told_events}
use Rattle.binder_model.specs.World.{Effect, OnDevices, OnStore, SetsMoment, World, base, effect, is_time, log_after, on_devices, set_time, watch, refused_rule, reply_to, world_after}
use Rattle.safety_law.specs.Invariant.Moves.{written_by}
use Rattle.settle_measure.specs.Left.Measure.{faults_left, left_of, work_left}
use Rattle.settle_measure.specs.Left.Lowers.{Lowers}
use Rattle.settle_measure.proofs.Left.Faults.{calls_stay}
use Rattle.settle_writes.specs.Writes.Lasting.{IsChanged, IsLastingOnDevices, Lasts, LastsBetween}
use Rattle.settle_pays.specs.Pays.Pays.{AlikeIsLeft, Pays, worth}
use Rattle.settle_pays.proofs.Pays.Alike.{left_alike}

-- ---- an outcome that writes nothing is no planned fault, and says at most what stands

abbrev pub IsCalm : List Object → Outcome → Type 0
IsCalm rows (Says (replies.Done o)) = row_at (key_of o) rows ≡ Some o
IsCalm rows (Says (replies.Left o)) = ⊥
IsCalm rows (Says (replies.Refused (refusals.BackFault planned))) = ⊥
IsCalm rows x = ⊤

module _ (rows : List Object) where
  refuse_calm : (b : Bool) (refusal : Refusal) (next : Outcome) → IsCalm rows (Says (replies.Refused refusal)) → IsCalm rows next → IsCalm rows (refuse b refusal next)
  unfolding refuse
  refuse_calm true refusal next said on = said
  refuse_calm false refusal next said on = on

  rule_calm : (rule : Option Rule) (next : Outcome) → IsCalm rows next → IsCalm rows (refuse_rule rule next)
  unfolding refuse_rule
  rule_calm None next on = on
  rule_calm (Some rule) next on = tt

  field_calm : (field : Option Field) (next : Outcome) → IsCalm rows next → IsCalm rows (refuse_field field next)
  unfolding refuse_field
  field_calm None next on = on
  field_calm (Some field) next on = tt

  write_calm : (o : Object) → IsCalm rows (write_outcome o)
  write_calm o = by (leaves o)
    where
      by : (b : Bool) → IsCalm rows (write_of o b)
      by true = tt
      by false = tt

  fits_calm : (s : State) (o : Option Object) → IsCalm rows (written_if_fits s o)
  unfolding written_if_fits
  fits_calm s None = tt
  fits_calm s (Some o) = write_calm _

  stale_calm : (stale : Option ℕ) (next : Outcome) → IsCalm rows next → IsCalm rows (refuse_stale stale next)
  unfolding refuse_stale
  stale_calm None next on = on
  stale_calm (Some current) next on = tt

module _ (s : State) (kind : SeatKind) where
  create_calm : (o : Object) (moment : List ℕ) (row : Option Object) → IsCalm s.rows (create s kind o moment row)
  unfolding create
  create_calm o moment (Some old) = tt
  create_calm o moment None = rule_calm s.rows _ _ (field_calm s.rows _ _ tt)

  update_calm : (o : Object) (given : Option ℕ) (row : Option Object) → IsCalm s.rows (update s kind o given row)
  unfolding update
  update_calm o given None = tt
  update_calm o given (Some old) = refuse_calm s.rows _ _ _ tt (rule_calm s.rows _ _ (field_calm s.rows _ _ (write_calm s.rows _)))

  status_calm : (status : NewStatus) (given : Option ℕ) (row : Option Object) → IsCalm s.rows (update_status s kind status given row)
  unfolding update_status
  status_calm status given None = refuse_calm s.rows _ _ _ tt tt
  status_calm status given (Some old) = refuse_calm s.rows _ _ _ tt (refuse_calm s.rows _ _ _ tt (fits_calm s.rows s _))

  edit_calm : (change : Edit) (row : Option Object) → IsCalm s.rows (edit s kind change row)
  unfolding edit edit_to
  edit_calm change None = tt
  edit_calm change (Some old) = by (edited_object change old)
    where
      by : (new : Option Object) → IsCalm s.rows (edit_to s kind old new)
      by None = tt
      by (Some new) = rule_calm s.rows _ _ (field_calm s.rows _ _ (write_calm s.rows _))

  delete_calm : (moment : List ℕ) (given : Option Uid) (key : Key) (row : Option Object) → row_at key s.rows ≡ row → IsCalm s.rows (delete s moment given row)
  unfolding delete delete_of
  delete_calm moment given key None there = tt
  delete_calm moment given key (Some old) there = refuse_calm s.rows _ _ _ tt (by (leaves_at_once old) (is_deleting (meta_of old)))
    where
      by : (leaving deleting : Bool) → IsCalm s.rows (delete_of s moment old leaving deleting)
      by true deleting = tt
      by false true = ap (λ k. row_at k s.rows) (row_at_key key old s.rows there) ∙ there
      by false false = write_calm s.rows _

  bind_calm : (node : List ℕ) (p : Option PodData) → IsCalm s.rows (bind s node p)
  unfolding bind
  bind_calm node None = tt
  bind_calm node (Some p) = refuse_calm s.rows _ _ _ tt (refuse_calm s.rows _ _ _ tt tt)

  finish_calm : (stale : Option ℕ) (node : List ℕ) (p : Option PodData) → IsCalm s.rows (finish s stale node p)
  unfolding finish
  finish_calm stale node None = tt
  finish_calm stale node (Some p) = stale_calm s.rows _ _ (refuse_calm s.rows _ _ _ tt (refuse_calm s.rows _ _ _ tt tt))

  get_calm : (row : Option Object) → IsCalm s.rows (get row)
  unfolding get
  get_calm None = tt
  get_calm (Some o) = tt

  outcome_calm : (request : Request) (moment : List ℕ) (stale : Option ℕ) → IsCalm s.rows (outcome s kind request moment stale)
  unfolding outcome list
  outcome_calm (requests.Create o) moment stale = create_calm o moment (row_at (key_of o) s.rows)
  outcome_calm (requests.Update o given) moment stale = update_calm o given (row_at (key_of o) s.rows)
  outcome_calm (requests.UpdateStatus key status given) moment stale = status_calm status given (row_at key s.rows)
  outcome_calm (requests.Edit key change) moment stale = edit_calm change (row_at key s.rows)
  outcome_calm (requests.Delete key given) moment stale = delete_calm moment given key (row_at key s.rows) refl
  outcome_calm (requests.Get key) moment stale = get_calm (row_at key s.rows)
  outcome_calm (requests.List k namespace) moment stale = tt
  outcome_calm (requests.BindPod key uid node) moment stale = refuse_calm s.rows _ _ _ tt (bind_calm node (pod_with uid (row_at key s.rows)))
  outcome_calm (requests.FinishPod key uid node epoch) moment stale = refuse_calm s.rows _ _ _ tt (finish_calm stale node (pod_with uid (row_at key s.rows)))
  outcome_calm (requests.SetTime at) moment stale = tt
  outcome_calm (requests.Watch k from) moment stale = tt
  outcome_calm (requests.Provision name provisioner bytes labels) moment stale = tt
  outcome_calm (requests.Erase id) moment stale = tt
  outcome_calm (requests.TakeNode node) moment stale = tt
  outcome_calm (requests.Mounts node epoch) moment stale = tt
  outcome_calm (requests.Mount node epoch pod claims) moment stale = tt
  outcome_calm (requests.Unmount node epoch pod) moment stale = tt

-- so what lasts on the store was written

pub record WritesIt (x : Effect) : Type 0 where
  pub object : Object
  pub written : written_by x ≡ Some object

module _ (w : World) where
  pub no_devices_moved : {X : Type 0} → IsLastingOnDevices w.devices w.devices → X
  no_devices_moved (inl other) = absurd (other refl)
  no_devices_moved (inr other) = absurd (other refl)

  not_changed : {X : Type 0} (o : Object) → row_at (key_of o) w.store.rows ≡ Some o → IsChanged (row_at (key_of o) w.store.rows) o → X
  not_changed o there changed = absurd (subst (λ row. IsChanged row o) there changed refl)

  says_nothing : {X : Type 0} (reply : Reply) → IsCalm w.store.rows (Says reply) → LastsBetween w (world_after w (OnStore (Says reply))) (reply_to (OnStore (Says reply))) → X
  unfolding world_after after log_after reply_to reply_of
  says_nothing reply calm (inr (inl moved)) = no_devices_moved moved
  says_nothing (replies.Done o) calm (inl changed) = not_changed o calm changed
  says_nothing (replies.Left o) calm (inl changed) = absurd calm
  says_nothing (replies.Refused (refusals.BackFault planned)) calm (inr (inr fault)) = absurd calm
  says_nothing reply calm (inl changed) = absurd changed
  says_nothing reply calm (inr (inr fault)) = absurd fault

  pub lasting_writes : (x : Outcome) → IsCalm w.store.rows x → LastsBetween w (world_after w (OnStore x)) (reply_to (OnStore x)) → WritesIt (OnStore x)
  lasting_writes (Says reply) calm lasts = says_nothing reply calm lasts
  lasting_writes (Stores change o) calm lasts = record { object = o; written = refl }
  lasting_writes (Removes o) calm lasts = record { object = o; written = refl }

  -- what a write leaves of the planned faults
  store_left : (setup : Setup) (x : Outcome) (n : ℕ) → left_of (world_after w (OnStore x)) + n ≤ left_of w → work_left setup (world_after w (OnStore x)) + n ≤ work_left setup w
  unfolding world_after
  store_left setup x n le = omega (arith, le)

-- the requests that reach the store
pub stored_effect : (setup : Setup) (w : World) (kind : SeatKind) (request : Request) → is_for_store request ≡ true → (x : Outcome)
    × ((effect setup w kind request ≡ OnStore x) × IsCalm w.store.rows x)
unfolding effect on_devices device_answer
stored_effect setup w kind (requests.Create o) is = (_, (refl, outcome_calm w.store kind (requests.Create o) w.moment _))
stored_effect setup w kind (requests.Update o given) is = (_, (refl, outcome_calm w.store kind (requests.Update o given) w.moment _))
stored_effect setup w kind (requests.UpdateStatus key status given) is = (_, (refl, outcome_calm w.store kind (requests.UpdateStatus key status given) w.moment _))
stored_effect setup w kind (requests.Edit key change) is = (_, (refl, outcome_calm w.store kind (requests.Edit key change) w.moment _))
stored_effect setup w kind (requests.Delete key given) is = (_, (refl, outcome_calm w.store kind (requests.Delete key given) w.moment _))
stored_effect setup w kind (requests.Get key) is = (_, (refl, outcome_calm w.store kind (requests.Get key) w.moment _))
stored_effect setup w kind (requests.List k namespace) is = (_, (refl, outcome_calm w.store kind (requests.List k namespace) w.moment _))
stored_effect setup w kind (requests.BindPod key uid node) is = (_, (refl, outcome_calm w.store kind (requests.BindPod key uid node) w.moment _))
stored_effect setup w kind (requests.FinishPod key uid node epoch) is = (_, (refl, outcome_calm w.store kind (requests.FinishPod key uid node epoch) w.moment _))
stored_effect setup w kind (requests.SetTime at) is = absurd (true≢false (sym is))
stored_effect setup w kind (requests.Watch k from) is = absurd (true≢false (sym is))
stored_effect setup w kind (requests.Provision name provisioner bytes labels) is = absurd (true≢false (sym is))
stored_effect setup w kind (requests.Erase id) is = absurd (true≢false (sym is))
stored_effect setup w kind (requests.TakeNode node) is = absurd (true≢false (sym is))
stored_effect setup w kind (requests.Mounts node epoch) is = absurd (true≢false (sym is))
stored_effect setup w kind (requests.Mount node epoch pod claims) is = absurd (true≢false (sym is))
stored_effect setup w kind (requests.Unmount node epoch pod) is = absurd (true≢false (sym is))

-- a write that lowers what is left to do pays
pub lowering_pays : (setup : Setup) (w : World) (kind : SeatKind) (request : Request) → is_for_store request ≡ true → Lowers setup w kind request (worth kind request) → Pays setup w kind request
lowering_pays setup w kind request is lowers lasts = by (stored_effect setup w kind request is)
  where
    by : (x : Outcome) × ((effect setup w kind request ≡ OnStore x) × IsCalm w.store.rows x) → work_left setup (world_after w (effect setup w kind request)) + worth kind request ≤ work_left setup w
    by (x, (same, calm)) =
        let writes = lasting_writes w x calm (subst (λ y. LastsBetween w (world_after w y) (reply_to y)) same lasts) in
        let less = lowers writes.object (ap written_by same ∙ writes.written) in
        subst (λ y. work_left setup (world_after w y) + worth kind request ≤ work_left setup w) (sym same)
        (store_left w setup x (worth kind request) (subst (λ y. left_of (world_after w y) + worth kind request ≤ left_of w) same less))

-- ---- the reads of an actor, and the calls of an agent's start, never last

abbrev pub NeverLasts : Setup → World → SeatKind → Request → Type 0
NeverLasts setup w kind request = Lasts setup w kind request → ⊥

pub get_never : (setup : Setup) (w : World) (kind : SeatKind) (key : Key) → NeverLasts setup w kind (requests.Get key)
unfolding effect on_devices device_answer outcome get
get_never setup w kind key lasts = by (row_at key w.store.rows) lasts
  where
    by : (row : Option Object) → LastsBetween w (world_after w (OnStore (get row))) (reply_to (OnStore (get row))) → ⊥
    by None l = says_nothing w _ tt l
    by (Some o) l = says_nothing w _ tt l

pub list_never : (setup : Setup) (w : World) (kind : SeatKind) (k : Kind) (namespace : Option (List ℕ)) → NeverLasts setup w kind (requests.List k namespace)
unfolding effect on_devices device_answer outcome list
list_never setup w kind k namespace lasts = says_nothing w _ tt lasts

abbrev watched : Setup → World → Kind → ℕ → Bool → Bool → Effect
watched setup w k from ahead gone =
    if ahead then OnStore (Says (replies.Refused (refusals.Invalid fields.From)))
    else if gone then OnStore (Says (replies.Refused (refusals.Gone (oldest (base setup) w.store.version))))
    else OnStore (Says (replies.Events (told_events k from w.store.version w.log)))

pub watch_never : (setup : Setup) (w : World) (kind : SeatKind) (k : Kind) (from : ℕ) → NeverLasts setup w kind (requests.Watch k from)
unfolding effect watch
watch_never setup w kind k from lasts = by (nat_lt w.store.version from) (nat_lt from (oldest (base setup) w.store.version)) lasts
  where
    by : (ahead gone : Bool) → LastsBetween w (world_after w (watched setup w k from ahead gone)) (reply_to (watched setup w k from ahead gone)) → ⊥
    by true gone l = says_nothing w _ tt l
    by false true l = says_nothing w _ tt l
    by false false l = says_nothing w _ tt l

pub take_never : (setup : Setup) (w : World) (kind : SeatKind) (node : List ℕ) → NeverLasts setup w kind (requests.TakeNode node)
unfolding effect on_devices device_answer take_node world_after reply_to
take_never setup w kind node lasts = by (is_user kind) lasts
  where
    by : (user : Bool) → LastsBetween w (world_after w (if user then refused_rule else OnDevices (take_node w.devices node)))
        (reply_to (if user then refused_rule else OnDevices (take_node w.devices node))) → ⊥
    by true l = says_nothing w _ tt l
    by false (inl written) = written
    by false (inr (inl moved)) = no_devices_moved w moved
    by false (inr (inr fault)) = fault

abbrev read_there : World → List ℕ → Bool → Option ℕ → Effect
read_there w node user stale = if user then refused_rule else OnDevices (unless_stale w.devices stale (with_mounts w.devices node w.devices.mounts))

pub mounts_never : (setup : Setup) (w : World) (kind : SeatKind) (node : List ℕ) (epoch : ℕ) → NeverLasts setup w kind (requests.Mounts node epoch)
unfolding effect on_devices device_answer world_after reply_to unless_stale with_mounts
mounts_never setup w kind node epoch lasts = by (is_user kind) (epoch_if_stale w.devices node epoch) lasts
  where
    by : (user : Bool) (stale : Option ℕ) → LastsBetween w (world_after w (read_there w node user stale)) (reply_to (read_there w node user stale)) → ⊥
    by true stale l = says_nothing w _ tt l
    by false None (inl written) = written
    by false None (inr (inl moved)) = no_devices_moved w moved
    by false None (inr (inr fault)) = fault
    by false (Some current) (inl written) = written
    by false (Some current) (inr (inl moved)) = no_devices_moved w moved
    by false (Some current) (inr (inr fault)) = fault

-- ---- the count of device calls never falls

module _ (setup : Setup) (d : Devices) where
  planned_rises : (next : DeviceAnswer) → d.calls ≤ next.devices.calls → d.calls ≤ (unless_planned setup d next).devices.calls
  unfolding unless_planned
  planned_rises next on = by (is_planned (d.calls + 1) setup.faults)
    where
      by : (b : Bool) → d.calls ≤ (if b then after_call d (replies.Refused (refusals.BackFault (d.calls + 1))) else next).devices.calls
      by true = omega arith
      by false = on

  pub provision_rises : (name provisioner : List ℕ) (bytes : ℕ) (labels : Option (List Pair)) (x : Option Data) → d.calls ≤ (provision setup.pools d name provisioner bytes labels x).devices.calls
  unfolding provision provision_new
  provision_rises name provisioner bytes labels (Some x) = omega arith
  provision_rises name provisioner bytes labels None = by (first_fit provisioner bytes labels d.stored 0 setup.pools)
    where
      by : (place : Option ℕ) → d.calls ≤ (provision_new setup.pools d name provisioner bytes labels place).devices.calls
      by None = omega arith
      by (Some place) = omega arith

  stale_rises : (stale : Option ℕ) (node : List ℕ) (mounts : List MountAt) → d.calls ≤ (unless_stale d stale (with_mounts d node mounts)).devices.calls
  unfolding unless_stale with_mounts
  stale_rises None node mounts = omega arith
  stale_rises (Some current) node mounts = omega arith

module _ (setup : Setup) (w : World) (kind : SeatKind) where
  device_rises : (request : Request) (a : DeviceAnswer) → w.devices.calls ≤ a.devices.calls → w.devices.calls ≤ (world_after w (on_devices w kind request (Some a))).devices.calls
  unfolding on_devices world_after
  device_rises request a le = by (is_user kind)
    where
      by : (user : Bool) → w.devices.calls ≤ (world_after w (if user then refused_rule else OnDevices a)).devices.calls
      by true = omega arith
      by false = le

  pub calls_rise : (request : Request) → w.devices.calls ≤ (world_after w (effect setup w kind request)).devices.calls
  unfolding effect device_answer on_devices world_after set_time watch erase take_node
  calls_rise (requests.Create o) = omega arith
  calls_rise (requests.Update o given) = omega arith
  calls_rise (requests.UpdateStatus key status given) = omega arith
  calls_rise (requests.Edit key change) = omega arith
  calls_rise (requests.Delete key given) = omega arith
  calls_rise (requests.Get key) = omega arith
  calls_rise (requests.List k namespace) = omega arith
  calls_rise (requests.BindPod key uid node) = omega arith
  calls_rise (requests.FinishPod key uid node epoch) = omega arith
  calls_rise (requests.SetTime at) = by (is_time at)
    where
      by : (b : Bool) → w.devices.calls ≤ (world_after w (if b then SetsMoment at else OnStore (Says (replies.Refused (refusals.Invalid fields.Time))))).devices.calls
      by true = omega arith
      by false = omega arith
  calls_rise (requests.Watch k from) = by (nat_lt w.store.version from) (nat_lt from (oldest (base setup) w.store.version))
    where
      by : (ahead gone : Bool) → w.devices.calls ≤ (world_after w (watched setup w k from ahead gone)).devices.calls
      by true gone = omega arith
      by false true = omega arith
      by false false = omega arith
  calls_rise (requests.Provision name provisioner bytes labels) =
      device_rises (requests.Provision name provisioner bytes labels) _
      (planned_rises setup w.devices _ (provision_rises setup w.devices name provisioner bytes labels (data_named name w.devices.stored)))
  calls_rise (requests.Erase id) = device_rises (requests.Erase id) _ (planned_rises setup w.devices (erase w.devices id) by)
    where
      by : w.devices.calls ≤ (erase w.devices id).devices.calls
      by = omega arith
  calls_rise (requests.TakeNode node) = device_rises (requests.TakeNode node) _ by
    where
      by : w.devices.calls ≤ (take_node w.devices node).devices.calls
      by = omega arith
  calls_rise (requests.Mounts node epoch) = device_rises (requests.Mounts node epoch) _ (stale_rises setup w.devices _ node _)
  calls_rise (requests.Mount node epoch pod claims) = device_rises (requests.Mount node epoch pod claims) _ (stale_rises setup w.devices _ node _)
  calls_rise (requests.Unmount node epoch pod) = device_rises (requests.Unmount node epoch pod) _ (stale_rises setup w.devices _ node _)

pub alike_is_left : AlikeIsLeft
alike_is_left setup w kind request alike =
    let same = left_alike w (world_after w (effect setup w kind request)) alike in
    let faults : faults_left setup (world_after w (effect setup w kind request)).devices ≤ faults_left setup w.devices =
    calls_stay setup w.devices (world_after w (effect setup w kind request)).devices (calls_rise setup w kind request) in
    omega (arith, same, faults)
