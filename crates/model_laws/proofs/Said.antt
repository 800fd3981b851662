-- What an effect says where it writes nothing: one walk over the verbs, for any property of answers.
use Rattle.std.proofs.Common.{refl}
use Rattle.std.specs.Prelude.{ℕ, ◌≡◌, ◌+◌, Bool, true, false, List, Option, Some, None, nat_lt, if◌then◌else◌, ⊤}
use Rattle.plain_data.specs.Pairs.{Pair}
use Rattle.kube_parts.specs.declared.uid.Uid.{Uid}
use Rattle.kube_parts.specs.declared.names.Field.{Field}
use Rattle.kube_parts.specs.declared.names.Rule.{Rule}
use Rattle.kube_objects.specs.declared.key.Key.{Key}
use Rattle.kube_parts.specs.declared.parts.Kind.{Kind}
use Rattle.kube_objects.specs.declared.objects.Pod.{Pod as PodData}
use Rattle.kube_objects.specs.declared.objects.Object.{Object}
use Rattle.kube_objects.specs.Keys.{rows_of, meta_of, row_at}
use Rattle.kube_objects.specs.Bindings.{is_deleting}
use Rattle.call_types.specs.declared.edit.Edit.{Edit}
use Rattle.call_types.specs.declared.setup.Setup.{Setup}
use Rattle.call_types.specs.declared.request.NewStatus.{NewStatus}
use Rattle.call_types.specs.declared.request.SeatKind.{SeatKind}
use Rattle.call_types.specs.declared.request.Request.{Request}
use Rattle.call_types.specs.declared.request.Request.TheVariants as requests
use Rattle.call_types.specs.declared.reply.Refusal.{Refusal}
use Rattle.call_types.specs.declared.reply.Reply.{Reply}
use Rattle.call_types.specs.declared.reply.Reply.TheVariants as replies
use Rattle.binder_model.specs.Store.{State, leaves, leaves_at_once}
use Rattle.binder_model.specs.Answers.{
  Outcome,
  Says,
  Stores,
  Removes,
  is_user,
  refuse,
  refuse_field,
  refuse_rule,
  refuse_stale,
  write_outcome,
  create,
  update,
  written_if_fits,
  update_status,
  edit_to,
  edit,
  delete_of,
  delete,
  get,
  list,
  listed_rows,
  bind,
  finish,
  outcome,
}
use Rattle.binder_model.specs.Devices.{
  Devices,
  Data,
  DeviceAnswer,
  data_named,
  first_fit,
  is_planned,
  epoch_if_stale,
  provision_new,
  provision,
  erase,
  unless_planned,
  unless_stale,
  take_node,
  with_mounts,
  device_answer,
}
use Rattle.binder_model.specs.Watching.{oldest, told_events}
use Rattle.binder_model.specs.World.{base, World, Effect, OnStore, OnDevices, SetsMoment, effect, watch, on_devices, set_time, is_time}
use Rattle.model_laws.specs.Calls.{IsSecondDelete}

-- an answer of the devices
abbrev pub IsOfDevices : Reply → Type 0
IsOfDevices (replies.Provisioned id topology) = ⊤
IsOfDevices (replies.Erased removed) = ⊤
IsOfDevices (replies.Epoch epoch) = ⊤
IsOfDevices (replies.Mounted rows) = ⊤
IsOfDevices (replies.Refused r) = ⊤
IsOfDevices reply = ⊥

-- that P holds of what is said, whatever the request
pub record Sayings (w : World) (request : Request) (P : Reply → Type 0) : Type 0 where
  pub refused : (r : Refusal) → P (replies.Refused r)
  pub again : (o : Object) → IsSecondDelete w request o → P (replies.Done o)
  pub found : (key : Key) (o : Object) → row_at key w.store.rows ≡ Some o → P (replies.Found o)
  pub listed : (k : Kind) (namespace : Option (List ℕ)) → P (replies.Listed (listed_rows namespace (rows_of k w.store.rows)) w.store.version)
  pub watched : (k : Kind) (from : ℕ) → P (replies.Events (told_events k from w.store.version w.log))
  pub timed : P replies.Timed
  pub device : (reply : Reply) → IsOfDevices reply → P reply

abbrev SaidOf : (Reply → Type 0) → Outcome → Type 0
SaidOf P (Says reply) = P reply
SaidOf P x = ⊤

record IsSaid (P : Reply → Type 0) (x : Outcome) : Type 0 where
  said : SaidOf P x

-- what an effect says, if it writes nothing
abbrev pub EffectSays : (Reply → Type 0) → Effect → Type 0
EffectSays P (OnStore (Says reply)) = P reply
EffectSays P (OnStore x) = ⊤
EffectSays P (OnDevices a) = IsOfDevices a.reply × P a.reply
EffectSays P (SetsMoment at) = P replies.Timed

pub record EffectSaid (P : Reply → Type 0) (x : Effect) : Type 0 where
  pub said : EffectSays P x

module _ {P : Reply → Type 0} (refusal : (r : Refusal) → P (replies.Refused r)) where
  no_more : (r : Refusal) → IsSaid P (Says (replies.Refused r))
  no_more r = record { said = refusal r }

  wrote : (o : Object) → IsSaid P (write_outcome o)
  wrote o = by (leaves o) refl
    where
      by : (b : Bool) → leaves o ≡ b → IsSaid P (write_outcome o)
      by true e = rw e (record { said = tt })
      by false e = rw e (record { said = tt })

  refused_or : (b : Bool) (r : Refusal) (x : Outcome) → IsSaid P x → IsSaid P (refuse b r x)
  unfolding refuse
  refused_or true r x k = no_more r
  refused_or false r x k = k

  field_or : (f : Option Field) (x : Outcome) → IsSaid P x → IsSaid P (refuse_field f x)
  unfolding refuse_field
  field_or (Some f) x k = no_more _
  field_or None x k = k

  rule_or : (f : Option Rule) (x : Outcome) → IsSaid P x → IsSaid P (refuse_rule f x)
  unfolding refuse_rule
  rule_or (Some f) x k = no_more _
  rule_or None x k = k

  stale_or : (f : Option ℕ) (x : Outcome) → IsSaid P x → IsSaid P (refuse_stale f x)
  unfolding refuse_stale
  stale_or (Some f) x k = no_more _
  stale_or None x k = k

  create_said : (s : State) (kind : SeatKind) (o : Object) (moment : List ℕ) (x : Option Object) → IsSaid P (create s kind o moment x)
  unfolding create
  create_said s kind o moment (Some old) = no_more _
  create_said s kind o moment None = rule_or _ _ (field_or _ _ (record { said = tt }))

  update_said : (s : State) (kind : SeatKind) (o : Object) (given : Option ℕ) (x : Option Object) → IsSaid P (update s kind o given x)
  unfolding update
  update_said s kind o given None = no_more _
  update_said s kind o given (Some old) = refused_or _ _ _ (rule_or _ _ (field_or _ _ (wrote _)))

  if_fits : (s : State) (x : Option Object) → IsSaid P (written_if_fits s x)
  unfolding written_if_fits
  if_fits s None = no_more _
  if_fits s (Some o) = wrote _

  status_said : (s : State) (kind : SeatKind) (status : NewStatus) (given : Option ℕ) (x : Option Object) → IsSaid P (update_status s kind status given x)
  unfolding update_status
  status_said s kind status given None = refused_or _ _ _ (no_more _)
  status_said s kind status given (Some old) = refused_or _ _ _ (refused_or _ _ _ (if_fits s _))

  edit_to_said : (s : State) (kind : SeatKind) (old : Object) (x : Option Object) → IsSaid P (edit_to s kind old x)
  unfolding edit_to
  edit_to_said s kind old None = no_more _
  edit_to_said s kind old (Some new) = rule_or _ _ (field_or _ _ (wrote _))

  edit_said : (s : State) (kind : SeatKind) (change : Edit) (x : Option Object) → IsSaid P (edit s kind change x)
  unfolding edit
  edit_said s kind change None = no_more _
  edit_said s kind change (Some old) = edit_to_said s kind old _

  delete_said : (s : State) (moment : List ℕ) (given : Option Uid) (x : Option Object)
      → ((old : Object) → x ≡ Some old → is_deleting (meta_of old) ≡ true → P (replies.Done old)) → IsSaid P (delete s moment given x)
  unfolding delete delete_of
  delete_said s moment given None again = no_more _
  delete_said s moment given (Some old) again = refused_or _ _ _ (by (leaves_at_once old) (is_deleting (meta_of old)) refl)
    where
      by : (a d : Bool) → is_deleting (meta_of old) ≡ d → IsSaid P (delete_of s moment old a d)
      by true d e = record { said = tt }
      by false true e = record { said = again old refl e }
      by false false e = wrote _

  get_said : (x : Option Object) → ((o : Object) → x ≡ Some o → P (replies.Found o)) → IsSaid P (get x)
  unfolding get
  get_said None found = no_more _
  get_said (Some o) found = record { said = found o refl }

  bind_said : (s : State) (node : List ℕ) (p : Option PodData) → IsSaid P (bind s node p)
  unfolding bind
  bind_said s node None = no_more _
  bind_said s node (Some p) = refused_or _ _ _ (refused_or _ _ _ (record { said = tt }))

  finish_said : (s : State) (stale : Option ℕ) (node : List ℕ) (p : Option PodData) → IsSaid P (finish s stale node p)
  unfolding finish
  finish_said s stale node None = no_more _
  finish_said s stale node (Some p) = stale_or _ _ (refused_or _ _ _ (refused_or _ _ _ (record { said = tt })))

outcome_said : {P : Reply → Type 0} (w : World) (kind : SeatKind) (request : Request) (moment : List ℕ) (stale : Option ℕ) → Sayings w request P → IsSaid P (outcome w.store kind request moment stale)
unfolding outcome list
outcome_said w kind (requests.Create o) moment stale s = create_said s.refused w.store kind o moment _
outcome_said w kind (requests.Update o given) moment stale s = update_said s.refused w.store kind o given _
outcome_said w kind (requests.UpdateStatus key status given) moment stale s = status_said s.refused w.store kind status given _
outcome_said w kind (requests.Edit key change) moment stale s = edit_said s.refused w.store kind change _
outcome_said w kind (requests.Delete key given) moment stale s =
    delete_said s.refused w.store moment given _ (λ old is d. s.again old (record { key = key; given = given; asked = refl; there = is; deleting = d }))
outcome_said w kind (requests.Get key) moment stale s = get_said s.refused _ (s.found key)
outcome_said w kind (requests.List k namespace) moment stale s = record { said = s.listed k namespace }
outcome_said w kind (requests.BindPod key uid node) moment stale s = refused_or s.refused _ _ _ (bind_said s.refused w.store node _)
outcome_said w kind (requests.FinishPod key uid node epoch) moment stale s = refused_or s.refused _ _ _ (finish_said s.refused w.store stale node _)
outcome_said w kind _ moment stale s = no_more s.refused _

-- the answers of the devices

by_test : (b : Bool) (x y : DeviceAnswer) → IsOfDevices x.reply → IsOfDevices y.reply → IsOfDevices (if b then x else y).reply
by_test true x y kx ky = kx
by_test false x y kx ky = ky

planned_is : (setup : Setup) (d : Devices) (next : DeviceAnswer) → IsOfDevices next.reply → IsOfDevices (unless_planned setup d next).reply
unfolding unless_planned
planned_is setup d next k = by_test (is_planned (d.calls + 1) setup.faults) _ next tt k

stale_is : (d : Devices) (s : Option ℕ) (next : DeviceAnswer) → IsOfDevices next.reply → IsOfDevices (unless_stale d s next).reply
unfolding unless_stale
stale_is d None next k = k
stale_is d (Some current) next k = tt

provision_is : (setup : Setup) (d : Devices) (name provisioner : List ℕ) (bytes : ℕ) (labels : Option (List Pair)) (x : Option Data)
    → IsOfDevices (provision setup.pools d name provisioner bytes labels x).reply
unfolding provision provision_new
provision_is setup d name provisioner bytes labels (Some x) = tt
provision_is setup d name provisioner bytes labels None = new (first_fit provisioner bytes labels d.stored 0 setup.pools)
  where
    new : (place : Option ℕ) → IsOfDevices (provision_new setup.pools d name provisioner bytes labels place).reply
    new None = tt
    new (Some place) = tt

abbrev AreOfDevices : Option DeviceAnswer → Type 0
AreOfDevices None = ⊤
AreOfDevices (Some a) = IsOfDevices a.reply

devices_are : (setup : Setup) (d : Devices) (request : Request) → AreOfDevices (device_answer setup d request)
unfolding device_answer erase take_node with_mounts
devices_are setup d (requests.Provision name provisioner bytes labels) = planned_is setup d _ (provision_is setup d name provisioner bytes labels (data_named name d.stored))
devices_are setup d (requests.Erase id) = planned_is setup d _ tt
devices_are setup d (requests.TakeNode node) = tt
devices_are setup d (requests.Mounts node epoch) = stale_is d (epoch_if_stale d node epoch) _ tt
devices_are setup d (requests.Mount node epoch pod claims) = stale_is d (epoch_if_stale d node epoch) _ tt
devices_are setup d (requests.Unmount node epoch pod) = stale_is d (epoch_if_stale d node epoch) _ tt
devices_are setup d _ = tt

-- effects

test : {P : Reply → Type 0} (b : Bool) (x y : Effect) → EffectSaid P x → EffectSaid P y → EffectSaid P (if b then x else y)
test true x y kx ky = kx
test false x y kx ky = ky

on_store : {P : Reply → Type 0} (x : Outcome) → IsSaid P x → EffectSaid P (OnStore x)
on_store (Says reply) s = record { said = s.said }
on_store (Stores change o) s = record { said = tt }
on_store (Removes o) s = record { said = tt }

asked : {P : Reply → Type 0} (w : World) (kind : SeatKind) (request : Request) (a : Option DeviceAnswer) → Sayings w request P → AreOfDevices a → EffectSaid P (on_devices w kind request a)
unfolding on_devices
asked w kind request (Some a) s is = test (is_user kind) (OnStore _) _ (record { said = s.refused _ }) (record { said = (is, s.device a.reply is) })
asked w kind request None s is = on_store _ (outcome_said w kind request w.moment _ s)

pub effect_said : {P : Reply → Type 0} (setup : Setup) (w : World) (kind : SeatKind) (request : Request) → Sayings w request P → EffectSaid P (effect setup w kind request)
unfolding effect set_time watch
effect_said setup w kind (requests.SetTime at) s = test (is_time at) (SetsMoment _) (OnStore _) (record { said = s.timed }) (record { said = s.refused _ })
effect_said setup w kind (requests.Watch k from) s =
    test (nat_lt w.store.version from) (OnStore _) _ (record { said = s.refused _ })
    (test (nat_lt from (oldest (base setup) w.store.version)) (OnStore _) (OnStore _) (record { said = s.refused _ }) (record { said = s.watched k from }))
effect_said setup w kind request s = asked w kind request _ s (devices_are setup w.devices request)
