-- Each write is at the next version.
use Rattle.std.proofs.Common.{refl, inl, inr, ap}
use Rattle.std.specs.Prelude.{ℕ, ◌≡◌, ◌⊎◌, ◌+◌, Bool, true, false, List, Option, Some, None, nat_lt, if◌then◌else◌, ⊤}
use Rattle.kube_parts.specs.declared.uid.Uid.{Uid}
use Rattle.kube_objects.specs.declared.objects.Meta.{Meta}
use Rattle.kube_objects.specs.declared.objects.Pod.{Pod as PodData}
use Rattle.kube_objects.specs.declared.objects.Object.{Object}
use Rattle.kube_objects.specs.declared.objects.Object.TheVariants.{Class, Node, Volume, Claim, Pod}
use Rattle.kube_objects.specs.Keys.{meta_of}
use Rattle.call_types.specs.declared.edit.Edit.{Edit}
use Rattle.call_types.specs.declared.setup.Setup.{Setup}
use Rattle.call_types.specs.declared.request.NewStatus.{NewStatus}
use Rattle.call_types.specs.declared.request.SeatKind.{SeatKind}
use Rattle.call_types.specs.declared.request.Request.{Request}
use Rattle.call_types.specs.declared.request.Request.TheVariants as requests
use Rattle.call_types.specs.declared.reply.Reply.{Reply}
use Rattle.binder_model.specs.Store.{State, with_meta, at_version, marked_object, created_object, updated_object, admitted_object, without_status, with_status_of, leaves}
use Rattle.binder_model.specs.Edits.{edited_object}
use Rattle.binder_model.specs.Answers.{
  Outcome,
  Says,
  Stores,
  Removes,
  is_user,
  write_outcome,
  create,
  update,
  written_if_fits,
  update_status,
  edit_to,
  edit,
  delete_of,
  delete,
  get,
  list,
  bind,
  finish,
  outcome,
  reply_of,
  after,
}
use Rattle.binder_model.specs.Devices.{DeviceAnswer}
use Rattle.binder_model.specs.Watching.{oldest}
use Rattle.binder_model.specs.World.{base, World, Effect, OnStore, OnDevices, SetsMoment, effect, reply_to, world_after, log_after, watch, on_devices, set_time, is_time}
use Rattle.model_laws.proofs.OnOutcome.{OnOutcome, says, refused_or, field_or, rule_or, stale_or}
use Rattle.model_laws.specs.Steps.{KeepsStore, WritesOnce, VersionsCountWrites}

pub meta-with_meta : (o : Object) (m : Meta) → meta_of (with_meta o m) ≡ m
unfolding with_meta
meta-with_meta (Class x) m = refl
meta-with_meta (Node x) m = refl
meta-with_meta (Volume x) m = refl
meta-with_meta (Claim x) m = refl
meta-with_meta (Pod x) m = refl

abbrev pub NextOf : ℕ → Outcome → Type 0
NextOf version (Says reply) = ⊤
NextOf version (Stores change o) = (meta_of o).version ≡ version
NextOf version (Removes o) = (meta_of o).version ≡ version

wrote : (n : ℕ) (o : Object) → (meta_of o).version ≡ n → OnOutcome (NextOf n) (write_outcome o)
wrote n o e = by_leaving (leaves o) refl
  where
    by_leaving : (b : Bool) → leaves o ≡ b → OnOutcome (NextOf n) (write_outcome o)
    by_leaving true is = rw is (record { holds = e })
    by_leaving false is = rw is (record { holds = e })

if_fits : (s : State) (o : Option Object) → OnOutcome (NextOf (s.version + 1)) (written_if_fits s o)
unfolding written_if_fits at_version
if_fits s None = says (λ r. tt) _
if_fits s (Some o) = wrote _ _ (ap (λ m. m.version) (meta-with_meta o _))

created_next : (default : Option (List ℕ)) (o : Object) (n : ℕ) (moment : List ℕ) → (meta_of (created_object default o n moment)).version ≡ n
unfolding created_object
created_next default o n moment = ap (λ m. m.version) (meta-with_meta (admitted_object default (without_status o)) _)

updated_next : (old new : Object) (n : ℕ) → (meta_of (updated_object old new n)).version ≡ n
unfolding updated_object
updated_next old new n = ap (λ m. m.version) (meta-with_meta (with_status_of old new) _)

pub marked_next : (o : Object) (n : ℕ) (moment : List ℕ) → (meta_of (marked_object o n moment)).version ≡ n
unfolding marked_object
marked_next o n moment = ap (λ m. m.version) (meta-with_meta o _)

create_next : (s : State) (kind : SeatKind) (o : Object) (moment : List ℕ) (x : Option Object) → OnOutcome (NextOf (s.version + 1)) (create s kind o moment x)
unfolding create
create_next s kind o moment (Some old) = says (λ r. tt) _
create_next s kind o moment None = rule_or (λ r. tt) _ _ (field_or (λ r. tt) _ _ (λ e. record { holds = created_next _ o _ moment }))

update_next : (s : State) (kind : SeatKind) (o : Object) (given : Option ℕ) (x : Option Object) → OnOutcome (NextOf (s.version + 1)) (update s kind o given x)
unfolding update
update_next s kind o given None = says (λ r. tt) _
update_next s kind o given (Some old) = refused_or (λ r. tt) _ _ _ (rule_or (λ r. tt) _ _ (field_or (λ r. tt) _ _ (λ e. wrote _ _ (updated_next old o _))))

status_next : (s : State) (kind : SeatKind) (status : NewStatus) (given : Option ℕ) (x : Option Object) → OnOutcome (NextOf (s.version + 1)) (update_status s kind status given x)
unfolding update_status
status_next s kind status given None = refused_or (λ r. tt) _ _ _ (says (λ r. tt) _)
status_next s kind status given (Some old) = refused_or (λ r. tt) _ _ _ (refused_or (λ r. tt) _ _ _ (if_fits s _))

edit_next : (s : State) (kind : SeatKind) (change : Edit) (x : Option Object) → OnOutcome (NextOf (s.version + 1)) (edit s kind change x)
unfolding edit edit_to
edit_next s kind change None = says (λ r. tt) _
edit_next s kind change (Some old) = edited_next (edited_object change old)
  where
    edited_next : (new : Option Object) → OnOutcome (NextOf (s.version + 1)) (edit_to s kind old new)
    edited_next None = says (λ r. tt) _
    edited_next (Some new) = rule_or (λ r. tt) _ _ (field_or (λ r. tt) _ _ (λ e. wrote _ _ (updated_next old new _)))

delete_of_next : (s : State) (moment : List ℕ) (old : Object) (at_once deleting : Bool) → OnOutcome (NextOf (s.version + 1)) (delete_of s moment old at_once deleting)
unfolding delete_of
delete_of_next s moment old true deleting = record { holds = marked_next old _ moment }
delete_of_next s moment old false true = says (λ r. tt) _
delete_of_next s moment old false false = wrote _ _ (marked_next old _ moment)

delete_next : (s : State) (moment : List ℕ) (given : Option Uid) (x : Option Object) → OnOutcome (NextOf (s.version + 1)) (delete s moment given x)
unfolding delete
delete_next s moment given None = says (λ r. tt) _
delete_next s moment given (Some old) = refused_or (λ r. tt) _ _ _ (delete_of_next s moment old _ _)

get_next : (n : ℕ) (x : Option Object) → OnOutcome (NextOf n) (get x)
unfolding get
get_next n None = says (λ r. tt) _
get_next n (Some o) = says (λ r. tt) _

bind_next : (s : State) (node : List ℕ) (p : Option PodData) → OnOutcome (NextOf (s.version + 1)) (bind s node p)
unfolding bind at_version
bind_next s node None = says (λ r. tt) _
bind_next s node (Some p) = refused_or (λ r. tt) _ _ _ (refused_or (λ r. tt) _ _ _ (record { holds = ap (λ m. m.version) (meta-with_meta (Pod (record p { node = node })) _) }))

finish_next : (s : State) (stale : Option ℕ) (node : List ℕ) (p : Option PodData) → OnOutcome (NextOf (s.version + 1)) (finish s stale node p)
unfolding finish at_version
finish_next s stale node None = says (λ r. tt) _
finish_next s stale node (Some p) = stale_or (λ r. tt) _ _ (refused_or (λ r. tt) _ _ _ (refused_or (λ r. tt) _ _ _ (record { holds = ap (λ m. m.version) (meta-with_meta (Pod p) _) })))

pub outcome_next : (s : State) (kind : SeatKind) (request : Request) (moment : List ℕ) (stale : Option ℕ) → OnOutcome (NextOf (s.version + 1)) (outcome s kind request moment stale)
unfolding outcome list
outcome_next s kind (requests.Create o) moment stale = create_next s kind o moment _
outcome_next s kind (requests.Update o given) moment stale = update_next s kind o given _
outcome_next s kind (requests.UpdateStatus key status given) moment stale = status_next s kind status given _
outcome_next s kind (requests.Edit key change) moment stale = edit_next s kind change _
outcome_next s kind (requests.Delete key given) moment stale = delete_next s moment given _
outcome_next s kind (requests.Get key) moment stale = get_next _ _
outcome_next s kind (requests.List k namespace) moment stale = says (λ r. tt) _
outcome_next s kind (requests.BindPod key uid node) moment stale = refused_or (λ r. tt) _ _ _ (bind_next s node _)
outcome_next s kind (requests.FinishPod key uid node epoch) moment stale = refused_or (λ r. tt) _ _ _ (finish_next s stale node _)
outcome_next s kind _ moment stale = says (λ r. tt) _

-- a write at the next version, or none
record IsCounted (w : World) (x : Effect) : Type 0 where
  counted : KeepsStore w (world_after w x) ⊎ WritesOnce w (world_after w x) (reply_to x)

store_counted : (w : World) (o : Outcome) → OnOutcome (NextOf (w.store.version + 1)) o → IsCounted w (OnStore o)
unfolding reply_to world_after reply_of after log_after
store_counted w (Says reply) n = record { counted = inl (record { store = refl; log = refl }) }
store_counted w (Stores change o) n = record { counted = inr (record { event = _; version = refl; log = refl; at = refl; next = n.holds; told = inl refl }) }
store_counted w (Removes o) n = record { counted = inr (record { event = _; version = refl; log = refl; at = refl; next = n.holds; told = inr refl }) }

said : (w : World) (reply : Reply) → IsCounted w (OnStore (Says reply))
said w reply = store_counted w (Says reply) (says (λ r. tt) reply)

devices_counted : (w : World) (a : DeviceAnswer) → IsCounted w (OnDevices a)
unfolding world_after
devices_counted w a = record { counted = inl (record { store = refl; log = refl }) }

moment_counted : (w : World) (at : List ℕ) → IsCounted w (SetsMoment at)
unfolding world_after
moment_counted w at = record { counted = inl (record { store = refl; log = refl }) }

test_counted : (b : Bool) (w : World) (x y : Effect) → IsCounted w x → IsCounted w y → IsCounted w (if b then x else y)
test_counted true w x y kx ky = kx
test_counted false w x y kx ky = ky

asked_counted : (w : World) (kind : SeatKind) (request : Request) (a : Option DeviceAnswer) → IsCounted w (on_devices w kind request a)
unfolding on_devices
asked_counted w kind request (Some a) = test_counted (is_user kind) w (OnStore _) _ (said w _) (devices_counted w a)
asked_counted w kind request None = store_counted w _ (outcome_next w.store kind request w.moment _)

effect_counted : (setup : Setup) (w : World) (kind : SeatKind) (request : Request) → IsCounted w (effect setup w kind request)
unfolding effect set_time watch
effect_counted setup w kind (requests.SetTime at) = test_counted (is_time at) w (SetsMoment _) (OnStore _) (moment_counted w at) (said w _)
effect_counted setup w kind (requests.Watch k from) =
    test_counted (nat_lt w.store.version from) w (OnStore _) _ (said w _)
    (test_counted (nat_lt from (oldest (base setup) w.store.version)) w (OnStore _) (OnStore _) (said w _) (said w _))
effect_counted setup w kind request = asked_counted w kind request _

pub versions_count_writes : VersionsCountWrites
versions_count_writes setup w kind request = (effect_counted setup w kind request).counted
