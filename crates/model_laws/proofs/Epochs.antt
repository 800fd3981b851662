-- The epochs of a node rise.
use Rattle.std.proofs.Common.{sym, refl, subst, ap, arith}
use Rattle.std.specs.Prelude.{ℕ, ◌≡◌, ◌≤◌, ◌+◌, Bool, true, false, List, [], ◌∷◌, ◌++◌, Option, Some, None, bytes_eq, nat_lt, if◌then◌else◌, ⊤}
use Rattle.std.proofs.lemmas.Slice.Eq.{bytes_eq-Decides}
use Rattle.plain_data.specs.Pairs.{Pair}
use Rattle.call_types.specs.declared.entry.Entry.{Entry}
use Rattle.call_types.specs.declared.setup.Setup.{Setup}
use Rattle.call_types.specs.declared.setup.Pool.{Pool}
use Rattle.call_types.specs.declared.request.SeatKind.{SeatKind}
use Rattle.call_types.specs.declared.request.Request.{Request}
use Rattle.call_types.specs.declared.request.Request.TheVariants as requests
use Rattle.call_types.specs.declared.reply.Reply.{Reply}
use Rattle.call_types.specs.declared.reply.Reply.TheVariants.{Epoch}
use Rattle.binder_model.specs.Answers.{Outcome, is_user, reply_of}
use Rattle.binder_model.specs.Devices.{
  Data,
  Devices,
  DeviceAnswer,
  epoch_of,
  after_call,
  provision_new,
  provision,
  erase,
  unless_planned,
  unless_stale,
  take_node,
  with_mounts,
  device_answer,
  data_named,
  is_planned,
  epoch_if_stale,
}
use Rattle.binder_model.specs.Watching.{oldest}
use Rattle.binder_model.specs.World.{base, World, Effect, OnStore, OnDevices, SetsMoment, world, effect, reply_to, world_after, on_devices, set_time, watch, refused_rule}
use Rattle.model_laws.specs.Reads.{EpochsRise}

-- the node's epoch is not lower afterwards
record IsUp (node : List ℕ) (d : Devices) (a : DeviceAnswer) : Type 0 where
  up : epoch_of node d.epochs ≤ epoch_of node a.devices.epochs

called_up : (node : List ℕ) (d e : Devices) (reply : Reply) → e.epochs ≡ d.epochs → IsUp node d (after_call e reply)
called_up node d e reply is = record { up = let f = ap (epoch_of node) is in omega (arith, f) }

by_test : (b : Bool) (node : List ℕ) (d : Devices) (x y : DeviceAnswer) → IsUp node d x → IsUp node d y → IsUp node d (if b then x else y)
by_test true node d x y kx ky = kx
by_test false node d x y kx ky = ky

planned_up : (setup : Setup) (node : List ℕ) (d : Devices) (next : DeviceAnswer) → IsUp node d next → IsUp node d (unless_planned setup d next)
unfolding unless_planned
planned_up setup node d next k = by_test (is_planned (d.calls + 1) setup.faults) node d _ _ (called_up node d d _ refl) k

stale_up : (node : List ℕ) (d : Devices) (s : Option ℕ) (next : DeviceAnswer) → IsUp node d next → IsUp node d (unless_stale d s next)
unfolding unless_stale
stale_up node d None next k = k
stale_up node d (Some current) next k = record { up = omega arith }

new_up : (pools : List Pool) (node : List ℕ) (d : Devices) (name provisioner : List ℕ) (bytes : ℕ) (labels : Option (List Pair)) (place : Option ℕ)
    → IsUp node d (provision_new pools d name provisioner bytes labels place)
unfolding provision_new
new_up pools node d name provisioner bytes labels None = called_up node d d _ refl
new_up pools node d name provisioner bytes labels (Some place) = called_up node d _ _ refl

provision_up : (pools : List Pool) (node : List ℕ) (d : Devices) (name provisioner : List ℕ) (bytes : ℕ) (labels : Option (List Pair)) (x : Option Data)
    → IsUp node d (provision pools d name provisioner bytes labels x)
unfolding provision
provision_up pools node d name provisioner bytes labels (Some x) = called_up node d d _ refl
provision_up pools node d name provisioner bytes labels None = new_up pools node d name provisioner bytes labels _

taken_up : (node taken : List ℕ) (d : Devices) (b : Bool) → bytes_eq taken node ≡ b → IsUp node d (take_node d taken)
unfolding take_node
taken_up node taken d true is =
    let same : taken ≡ node = (bytes_eq-Decides taken node).0 is in
    let f : epoch_of taken d.epochs ≡ epoch_of node d.epochs = ap (λ n. epoch_of n d.epochs) same in
    record { up = rw is (omega (arith, f)) }
taken_up node taken d false is = record { up = rw is (omega arith) }

abbrev AreUp : List ℕ → Devices → Option DeviceAnswer → Type 0
AreUp node d None = ⊤
AreUp node d (Some a) = IsUp node d a

devices_up : (setup : Setup) (node : List ℕ) (d : Devices) (request : Request) → AreUp node d (device_answer setup d request)
unfolding device_answer erase with_mounts
devices_up setup node d (requests.Provision name provisioner bytes labels) = planned_up setup node d _ (provision_up setup.pools node d name provisioner bytes labels (data_named name d.stored))
devices_up setup node d (requests.Erase id) = planned_up setup node d _ (called_up node d _ _ refl)
devices_up setup node d (requests.TakeNode taken) = taken_up node taken d _ refl
devices_up setup node d (requests.Mounts n epoch) = stale_up node d (epoch_if_stale d n epoch) _ (record { up = omega arith })
devices_up setup node d (requests.Mount n epoch pod claims) = stale_up node d (epoch_if_stale d n epoch) _ (record { up = omega arith })
devices_up setup node d (requests.Unmount n epoch pod) = stale_up node d (epoch_if_stale d n epoch) _ (record { up = omega arith })
devices_up setup node d _ = tt

-- an effect lowers no epoch of the node
record IsUpEffect (node : List ℕ) (w : World) (x : Effect) : Type 0 where
  up : epoch_of node w.devices.epochs ≤ epoch_of node (world_after w x).devices.epochs

store_up : (node : List ℕ) (w : World) (o : Outcome) → IsUpEffect node w (OnStore o)
unfolding world_after
store_up node w o = record { up = omega arith }

moment_up : (node : List ℕ) (w : World) (at : List ℕ) → IsUpEffect node w (SetsMoment at)
unfolding world_after
moment_up node w at = record { up = omega arith }

answered_up : (node : List ℕ) (w : World) (a : DeviceAnswer) → IsUp node w.devices a → IsUpEffect node w (OnDevices a)
unfolding world_after
answered_up node w a k = record { up = k.up }

test : (b : Bool) (node : List ℕ) (w : World) (x y : Effect) → IsUpEffect node w x → IsUpEffect node w y → IsUpEffect node w (if b then x else y)
test true node w x y kx ky = kx
test false node w x y kx ky = ky

asked_up : (node : List ℕ) (w : World) (kind : SeatKind) (request : Request) (a : Option DeviceAnswer) → AreUp node w.devices a → IsUpEffect node w (on_devices w kind request a)
unfolding on_devices
asked_up node w kind request (Some a) k = test (is_user kind) node w (OnStore _) _ (store_up node w _) (answered_up node w a k)
asked_up node w kind request None k = store_up node w _

effect_up : (setup : Setup) (node : List ℕ) (w : World) (kind : SeatKind) (request : Request) → IsUpEffect node w (effect setup w kind request)
unfolding effect set_time watch
effect_up setup node w kind (requests.SetTime at) = test _ node w (SetsMoment at) (OnStore _) (moment_up node w at) (store_up node w _)
effect_up setup node w kind (requests.Watch k from) =
    test (nat_lt w.store.version from) node w (OnStore _) _ (store_up node w _)
    (test (nat_lt from (oldest (base setup) w.store.version)) node w (OnStore _) (OnStore _) (store_up node w _) (store_up node w _))
effect_up setup node w kind request = asked_up node w kind request _ (devices_up setup node w.devices request)

rises : (setup : Setup) (node : List ℕ) (newer past : List Entry)
    → epoch_of node (world setup past).devices.epochs ≤ epoch_of node (world setup (newer ++ past)).devices.epochs
rises setup node [] past = omega arith
rises setup node (e ∷ newer) past =
    let low = rises setup node newer past in
    let step = (effect_up setup node (world setup (newer ++ past)) e.kind e.request).up in
    omega (arith, low, step)

abbrev EpochIn : Reply → ℕ → Type 0
EpochIn (Epoch n) epoch = n ≡ epoch
EpochIn reply epoch = ⊥

-- a TakeNode that tells an epoch tells one more than the last, and it is the node's from then on
record IsTaken (node : List ℕ) (w : World) (x : Effect) (epoch : ℕ) : Type 0 where
  next : epoch ≡ epoch_of node w.devices.epochs + 1
  stays : epoch_of node (world_after w x).devices.epochs ≡ epoch

taken : (setup : Setup) (w : World) (kind : SeatKind) (node : List ℕ) (epoch : ℕ) → (b : Bool)
    → EpochIn (reply_to (if b then refused_rule else OnDevices (take_node w.devices node))) epoch
    → IsTaken node w (if b then refused_rule else OnDevices (take_node w.devices node)) epoch
unfolding reply_to reply_of take_node world_after
taken setup w kind node epoch true e = elim e [ ]
taken setup w kind node epoch false e =
    let own : bytes_eq node node ≡ true = (bytes_eq-Decides node node).1 refl in
    record { next = sym e; stays = rw own e }

told : (setup : Setup) (w : World) (kind : SeatKind) (request : Request) (node : List ℕ) (epoch : ℕ) → request ≡ requests.TakeNode node
    → reply_to (effect setup w kind request) ≡ Epoch epoch → IsTaken node w (effect setup w kind request) epoch
unfolding effect on_devices device_answer
told setup w kind request node epoch is e =
    let P : Request → Type 0 = λ r. reply_to (effect setup w kind r) ≡ Epoch epoch → IsTaken node w (effect setup w kind r) epoch in
    subst P (sym is) (λ f. taken setup w kind node epoch (is_user kind) (subst (λ r. EpochIn r epoch) (sym f) refl)) e

pub epochs_rise : EpochsRise
epochs_rise setup newer between older past node first second is_first is_second e_first e_second =
    let f = told setup (world setup past) older.kind older.request node first is_first e_first in
    let s = told setup (world setup (between ++ older ∷ past)) newer.kind newer.request node second is_second e_second in
    let low = rises setup node between (older ∷ past) in
    let next = s.next in
    let stays = f.stays in
    omega (arith, low, next, stays)
