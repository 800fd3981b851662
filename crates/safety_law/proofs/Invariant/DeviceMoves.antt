-- How the devices move at one call: the one walk over their verbs.
use Rattle.std.proofs.Common.{sym, refl, subst, inl, inr, ap, ◌∙◌, true≢false, arith}
use Rattle.std.proofs.lemmas.Bool.Decides.{nat_tests}
use Rattle.std.specs.Prelude.{if◌then◌else◌, ℕ, ◌≡◌, ◌⊎◌, ◌+◌, ◌==◌, Bool, true, false, ◌&&◌, List, [], ◌∷◌, Option, Some, None, bytes_eq, nat_lt}
use Rattle.std.proofs.lemmas.Slice.Eq.{bytes_eq-Decides}
use Rattle.plain_data.specs.Pairs.{Pair}
use Rattle.kube_parts.specs.declared.uid.Uid.{Uid}
use Rattle.call_types.specs.declared.setup.Setup.{Setup}
use Rattle.call_types.specs.declared.request.SeatKind.{SeatKind}
use Rattle.call_types.specs.declared.request.Request.{Request}
use Rattle.call_types.specs.declared.request.Request.TheVariants as requests
use Rattle.call_types.specs.declared.reply.Reply.{Reply}
use Rattle.binder_model.specs.Answers.{Outcome, is_user, reply_of}
use Rattle.binder_model.specs.Devices.{
  Data,
  first_fit,
  Devices,
  DeviceAnswer,
  MountAt,
  epoch_of,
  after_call,
  provision_new,
  provision,
  erase,
  unless_planned,
  unless_stale,
  take_node,
  with_mounts,
  device_answer,
  data_named,
  is_planned,
  epoch_if_stale,
  with_mount,
  without_mount,
  rows_on,
  is_mounted_on,
}
use Rattle.binder_model.specs.Watching.{oldest}
use Rattle.binder_model.specs.AgentLicence.{has_row, is_of_epoch, lacks_pod}
use Rattle.binder_model.specs.World.{base, World, Effect, OnStore, OnDevices, SetsMoment, effect, reply_to, world_after, on_devices, set_time, watch, is_time, refused_rule}
use Rattle.binder_model.specs.Same.{same_uid}
use Rattle.safety_law.specs.Invariant.DeviceMoves.{MountIn, IsMounting, IsTaking, TellsMounts, DeviceMove, EffectMove, CallsMoveTheDevices}
use Rattle.safety_law.proofs.Invariant.Tests.{same_text}
use Rattle.std.proofs.lemmas.Bool.{and_parts, or_right, not-true}
use Rattle.std.proofs.lemmas.Option.{none-some}
use Rattle.safety_law.proofs.Invariant.Tests.{uid_same}
use Rattle.binder_model.specs.Devices.{put_mount}
use Rattle.binder_model.proofs.Mounts.{put_was}
use Rattle.model_laws.proofs.Lists.{some_filter}
use Rattle.kube_parts.specs.declared.names.Field.TheVariants as fields
use Rattle.call_types.specs.declared.reply.Refusal.TheVariants.{Invalid, Gone}
use Rattle.call_types.specs.declared.reply.Reply.TheVariants.{Refused, Events}
use Rattle.binder_model.specs.Answers.{Says}
use Rattle.binder_model.specs.Watching.{told_events}
use Rattle.binder_model.specs.Told.{objects_in}
use Rattle.std.proofs.lemmas.Option.{same_Some}
use Rattle.kube_parts.specs.declared.names.Rule.TheVariants as rules
use Rattle.call_types.specs.declared.reply.Refusal.TheVariants.{BackFault, Forbidden}
use Rattle.binder_model.specs.Answers.{outcome}
use Rattle.binder_model.specs.World.{stale_epoch}

-- what a call answers that lists no mounts
module _ (new : Devices) (request : Request) (reply : Reply) where
  no_list : ((pod : Uid) → lacks_pod pod reply ≡ false) → TellsMounts new request reply
  no_list none node epoch pod is lacks = absurd (true≢false (sym lacks ∙ none pod))

  no_call : ((node : List ℕ) (epoch : ℕ) → is_of_epoch node epoch request ≡ false) → TellsMounts new request reply
  no_call none node epoch pod is lacks = absurd (true≢false (sym is ∙ none node epoch))

-- epochs and mounts as they were
still : (d new : Devices) (request : Request) (reply : Reply) → new.epochs ≡ d.epochs → new.mounts ≡ d.mounts → TellsMounts new request reply → DeviceMove d new request reply
still d new request reply e m listed = record {
  epoch = λ node. inl (ap (epoch_of node) e);
  mount = λ x h. inl (subst (MountIn x) m h);
  listed = listed;
}

-- the answers of the devices: how they move, and that they tell of no object

pub record IsAnswer (d : Devices) (request : Request) (a : DeviceAnswer) : Type 0 where
  pub move : DeviceMove d a.devices request a.reply
  pub mute : objects_in a.reply ≡ []

quiet : (d new : Devices) (request : Request) (reply : Reply) → new.epochs ≡ d.epochs → new.mounts ≡ d.mounts
    → ((pod : Uid) → lacks_pod pod reply ≡ false) → objects_in reply ≡ [] → IsAnswer d request (record { reply = reply; devices = new })
quiet d new request reply e m none mute = record { move = still d new request reply e m (no_list new request reply none); mute = mute }

abbrev pub IsAnswered : Devices → Request → Option DeviceAnswer → Type 0
IsAnswered d request None = (node : List ℕ) (epoch : ℕ) → is_of_epoch node epoch request ≡ false
IsAnswered d request (Some a) = IsAnswer d request a

test_answer : {d : Devices} {request : Request} (b : Bool) (x y : DeviceAnswer) → IsAnswer d request x → IsAnswer d request y → IsAnswer d request (if b then x else y)
test_answer true x y kx ky = kx
test_answer false x y kx ky = ky

planned_answer : (setup : Setup) (d : Devices) (request : Request) (next : DeviceAnswer) → IsAnswer d request next → IsAnswer d request (unless_planned setup d next)
unfolding unless_planned
planned_answer setup d request next k =
    test_answer (is_planned (d.calls + 1) setup.faults) (after_call d (Refused (BackFault (d.calls + 1)))) next (quiet d _ request (Refused (BackFault (d.calls + 1))) refl refl (λ pod. refl) refl) k

pub stale_none : (d : Devices) (node : List ℕ) (given : ℕ) → epoch_if_stale d node given ≡ None → given ≡ epoch_of node d.epochs
stale_none d node given e = by (given == epoch_of node d.epochs) refl e
  where
    by : (b : Bool) → (given == epoch_of node d.epochs) ≡ b → (if b then None else Some (epoch_of node d.epochs)) ≡ None → given ≡ epoch_of node d.epochs
    by true t e = grind (arith, nat_tests)
    by false t e = absurd (none-some _ (sym e))

stale_answer : (d : Devices) (request : Request) (s : Option ℕ) (next : DeviceAnswer) → (s ≡ None → IsAnswer d request next) → IsAnswer d request (unless_stale d s next)
unfolding unless_stale
stale_answer d request None next k = k refl
stale_answer d request (Some current) next k = quiet d d request _ refl refl (λ pod. refl) refl

provision_answer : (setup : Setup) (d : Devices) (request : Request) (name provisioner : List ℕ) (bytes : ℕ) (labels : Option (List Pair)) (x : Option Data)
    → IsAnswer d request (provision setup.pools d name provisioner bytes labels x)
unfolding provision provision_new
provision_answer setup d request name provisioner bytes labels (Some x) = quiet d _ request _ refl refl (λ pod. refl) refl
provision_answer setup d request name provisioner bytes labels None = new (first_fit provisioner bytes labels d.stored 0 setup.pools)
  where
    new : (place : Option ℕ) → IsAnswer d request (provision_new setup.pools d name provisioner bytes labels place)
    new None = quiet d _ request _ refl refl (λ pod. refl) refl
    new (Some place) = quiet d _ request _ refl refl (λ pod. refl) refl

take_answer : (d : Devices) (node : List ℕ) → IsAnswer d (requests.TakeNode node) (take_node d node)
unfolding take_node
take_answer d node = record {
  move = record {
    epoch = λ other. by other (bytes_eq node other) refl;
    mount = λ m h. inl h;
    listed =
        no_list (take_node d node).devices (requests.TakeNode node) (take_node d node).reply (λ pod. refl);
  };
  mute = refl;
}
  where
    by : (other : List ℕ) (b : Bool) → bytes_eq node other ≡ b
        → (epoch_of other (take_node d node).devices.epochs ≡ epoch_of other d.epochs) ⊎ IsTaking d (take_node d node).devices (requests.TakeNode node) (take_node d node).reply other
    by other true is =
        let same : node ≡ other = (bytes_eq-Decides node other).0 is in
        inr (subst (λ n. IsTaking d (take_node d node).devices (requests.TakeNode node) (take_node d node).reply n) same (record {
          asked = refl;
          reply_is = refl;
          next = let own : bytes_eq node node ≡ true = (bytes_eq-Decides node node).1 refl in rw own refl;
        }))
    by other false is = inl (rw is refl)

-- the answers that list a node's mounts, as they then are

told_rows : (d : Devices) (name : List ℕ) (current : ℕ) (mounts : List MountAt) (node : List ℕ) (epoch : ℕ) (pod : Uid)
    → (bytes_eq name node && current == epoch) ≡ true → lacks_pod pod (with_mounts d name mounts).reply ≡ true → has_row pod (rows_on node mounts) ≡ false
unfolding with_mounts
told_rows d name current mounts node epoch pod is lacks =
    let same : name ≡ node = same_text name node (and_parts (bytes_eq name node) (current == epoch) is).0 in
    subst (λ (x : List ℕ). has_row pod (rows_on x mounts) ≡ false) same (not-true _ lacks)

mounts_answer : (d : Devices) (node : List ℕ) (epoch : ℕ) → IsAnswer d (requests.Mounts node epoch) (with_mounts d node d.mounts)
unfolding with_mounts
mounts_answer d node epoch = record { move = still d _ (requests.Mounts node epoch) _ refl refl (told_rows d node epoch d.mounts); mute = refl }

mount_answer : (d : Devices) (node : List ℕ) (epoch : ℕ) (pod : Uid) (claims : List Uid) → epoch ≡ epoch_of node d.epochs
    → IsAnswer d (requests.Mount node epoch pod claims) (with_mounts d node (with_mount node pod claims d.mounts))
unfolding with_mounts
mount_answer d node epoch pod claims current = record {
  move = record { epoch = λ other. inl refl; mount = λ m h. by m (is_mounted_on node pod d.mounts) h; listed = told_rows d node epoch (with_mount node pod claims d.mounts) };
  mute = refl;
}
  where
    by : (m : MountAt) (b : Bool) → MountIn m (if b then d.mounts else put_mount (record { node = node; row = record { pod = pod; claims = claims } }) d.mounts)
        → MountIn m d.mounts ⊎ IsMounting d (requests.Mount node epoch pod claims) m
    by m true h = inl h
    by m false h = elim (put_was (record { node = node; row = record { pod = pod; claims = claims } }) m d.mounts h) [
      | inl before ↦ inl before
      | inr is ↦ inr (subst (λ (x : MountAt). IsMounting d (requests.Mount node epoch pod claims) x) is (record { epoch = epoch; asked = refl; current = current }))
    ]

unmount_answer : (d : Devices) (node : List ℕ) (epoch : ℕ) (pod : Uid) → IsAnswer d (requests.Unmount node epoch pod) (with_mounts d node (without_mount node pod d.mounts))
unfolding with_mounts
unmount_answer d node epoch pod = record {
  move = record { epoch = λ other. inl refl; mount = λ m h. inl (some_filter (λ x. x ≡ m) _ d.mounts h); listed = told_rows d node epoch (without_mount node pod d.mounts) };
  mute = refl;
}

-- the one walk over the devices' verbs
pub devices_answer : (setup : Setup) (d : Devices) (request : Request) → IsAnswered d request (device_answer setup d request)
unfolding device_answer erase
devices_answer setup d (requests.Provision name provisioner bytes labels) = planned_answer setup d _ _ (provision_answer setup d _ name provisioner bytes labels (data_named name d.stored))
devices_answer setup d (requests.Erase id) = planned_answer setup d _ _ (quiet d _ _ _ refl refl (λ pod. refl) refl)
devices_answer setup d (requests.TakeNode node) = take_answer d node
devices_answer setup d (requests.Mounts node epoch) = stale_answer d _ (epoch_if_stale d node epoch) _ (λ e. mounts_answer d node epoch)
devices_answer setup d (requests.Mount node epoch pod claims) = stale_answer d _ (epoch_if_stale d node epoch) _ (λ e. mount_answer d node epoch pod claims (stale_none d node epoch e))
devices_answer setup d (requests.Unmount node epoch pod) = stale_answer d _ (epoch_if_stale d node epoch) _ (λ e. unmount_answer d node epoch pod)
devices_answer setup d _ = λ node epoch. refl

-- the devices tell of no object
pub devices_mute : (setup : Setup) (d : Devices) (request : Request) (a : DeviceAnswer) → device_answer setup d request ≡ Some a → objects_in a.reply ≡ []
devices_mute setup d request a is = by (device_answer setup d request) is (devices_answer setup d request)
  where
    by : (x : Option DeviceAnswer) → x ≡ Some a → IsAnswered d request x → objects_in a.reply ≡ []
    by None e k = absurd (none-some _ e)
    by (Some b) e k = subst (λ (y : DeviceAnswer). objects_in y.reply ≡ []) (same_Some b a e) k.mute

-- every effect

none_moved : (w : World) (kind : SeatKind) (request : Request) (x : Effect) → (world_after w x).devices ≡ w.devices
    → TellsMounts (world_after w x).devices request (reply_to x) → EffectMove w kind request x
none_moved w kind request x e listed = record { move = still w.devices _ request _ (ap (λ d. d.epochs) e) (ap (λ d. d.mounts) e) listed; user = λ u. e }

on_store : (w : World) (kind : SeatKind) (request : Request) (o : Outcome) → TellsMounts w.devices request (reply_of o) → EffectMove w kind request (OnStore o)
unfolding world_after reply_to
on_store w kind request o listed = none_moved w kind request (OnStore o) refl listed

on_device : (w : World) (kind : SeatKind) (request : Request) (a : DeviceAnswer) → DeviceMove w.devices a.devices request a.reply
    → is_user kind ≡ false → EffectMove w kind request (OnDevices a)
unfolding world_after reply_to
on_device w kind request a m c = record { move = m; user = λ u. absurd (true≢false (sym u ∙ c)) }

asked : (w : World) (kind : SeatKind) (request : Request) (a : Option DeviceAnswer) → IsAnswered w.devices request a → EffectMove w kind request (on_devices w kind request a)
unfolding on_devices reply_of
asked w kind request (Some a) k = by (is_user kind) refl
  where
    by : (b : Bool) → is_user kind ≡ b → EffectMove w kind request (if b then refused_rule else OnDevices a)
    by true u = on_store w kind request (Says (Refused (Forbidden rules.Verb))) (no_list w.devices request (Refused (Forbidden rules.Verb)) (λ pod. refl))
    by false u = on_device w kind request a k.move u
asked w kind request None none =
    let o = outcome w.store kind request w.moment (stale_epoch w.devices request) in
    on_store w kind request o (no_call w.devices request (reply_of o) none)

-- requests that are none of the devices'
away : (w : World) (kind : SeatKind) (request : Request) (x : Effect) → (world_after w x).devices ≡ w.devices
    → ((node : List ℕ) (epoch : ℕ) → is_of_epoch node epoch request ≡ false) → EffectMove w kind request x
away w kind request x e none = none_moved w kind request x e (no_call (world_after w x).devices request (reply_to x) none)

pub device_moves : CallsMoveTheDevices
unfolding effect set_time watch world_after
device_moves setup w kind (requests.SetTime at) = by (is_time at)
  where
    by : (b : Bool) → EffectMove w kind (requests.SetTime at) (if b then SetsMoment at else OnStore (Says (Refused (Invalid fields.Time))))
    by true = away w kind (requests.SetTime at) (SetsMoment at) refl (λ node epoch. refl)
    by false = away w kind (requests.SetTime at) (OnStore _) refl (λ node epoch. refl)
device_moves setup w kind (requests.Watch k from) = by (nat_lt w.store.version from) (nat_lt from (oldest (base setup) w.store.version))
  where
    by : (a b : Bool) → EffectMove w kind (requests.Watch k from)
        (if a then OnStore (Says (Refused (Invalid fields.From))) else if b then OnStore
        (Says (Refused (Gone (oldest (base setup) w.store.version)))) else OnStore (Says (Events (told_events k from w.store.version w.log))))
    by true b = away w kind (requests.Watch k from) (OnStore _) refl (λ node epoch. refl)
    by false true = away w kind (requests.Watch k from) (OnStore _) refl (λ node epoch. refl)
    by false false = away w kind (requests.Watch k from) (OnStore _) refl (λ node epoch. refl)
device_moves setup w kind request = asked w kind request _ (devices_answer setup w.devices request)

-- a mount stands in its node's list
pub has_row_of : (m : MountAt) (ms : List MountAt) (node : List ℕ) (pod : Uid) → MountIn m ms → m.node ≡ node → m.row.pod ≡ pod → has_row pod (rows_on node ms) ≡ true
has_row_of m [] node pod h n p = absurd h
has_row_of m (x ∷ xs) node pod (inl is) n p =
    let on : bytes_eq x.node node ≡ true = (bytes_eq-Decides x.node node).1 (ap (λ (y : MountAt). y.node) is ∙ n) in
    let u : same_uid x.row.pod pod ≡ true = uid_same x.row.pod pod (ap (λ (y : MountAt). y.row.pod) is ∙ p) in
    rw (on, u) refl
has_row_of m (x ∷ xs) node pod (inr more) n p = by (bytes_eq x.node node) (has_row_of m xs node pod more n p)
  where
    by : (b : Bool) → has_row pod (rows_on node xs) ≡ true → has_row pod (if b then x.row ∷ rows_on node xs else rows_on node xs) ≡ true
    by true e = or_right (same_uid x.row.pod pod) (has_row pod (rows_on node xs)) e
    by false e = e
