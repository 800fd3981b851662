-- No number of a world is used up: each entry raises one by at most one.
use Rattle.std.proofs.Common.{inl, inr, arith}
use Rattle.std.specs.Prelude.{ℕ, ◌+◌, ◌≤◌, Bool, true, false, List, [], ◌∷◌, Option, Some, None, length, nat_lt, if◌then◌else◌, ⊤}
use Rattle.plain_data.specs.Pairs.{Pair}
use Rattle.call_types.specs.declared.entry.Entry.{Entry}
use Rattle.call_types.specs.declared.setup.Setup.{Setup}
use Rattle.call_types.specs.declared.request.SeatKind.{SeatKind}
use Rattle.call_types.specs.declared.request.Request.{Request}
use Rattle.call_types.specs.declared.request.Request.TheVariants as requests
use Rattle.binder_model.specs.Answers.{Outcome, is_user}
use Rattle.binder_model.specs.Devices.{Data, Devices, DeviceAnswer, epoch_of, is_planned, provision_new, provision, erase, unless_planned, unless_stale, take_node, with_mounts, device_answer}
use Rattle.binder_model.specs.Watching.{oldest}
use Rattle.binder_model.specs.World.{base, World, Effect, OnStore, OnDevices, SetsMoment, is_time, world, effect, world_after, on_devices, set_time, watch}
use Rattle.safety_law.proofs.Invariant.DeviceMoves.{device_moves}

-- an answer counts one call or none
record IsCounted (d : Devices) (a : DeviceAnswer) : Type 0 where
  most : a.devices.calls ≤ d.calls + 1

test : (b : Bool) (d : Devices) (x y : DeviceAnswer) → IsCounted d x → IsCounted d y → IsCounted d (if b then x else y)
test true d x y kx ky = kx
test false d x y kx ky = ky

planned : (setup : Setup) (d : Devices) (next : DeviceAnswer) → IsCounted d next → IsCounted d (unless_planned setup d next)
unfolding unless_planned
planned setup d next k = test (is_planned (d.calls + 1) setup.faults) d _ next (record { most = omega arith }) k

stale : (d : Devices) (s : Option ℕ) (next : DeviceAnswer) → IsCounted d next → IsCounted d (unless_stale d s next)
unfolding unless_stale
stale d None next k = k
stale d (Some current) next k = record { most = omega arith }

new_data : (setup : Setup) (d : Devices) (name provisioner : List ℕ) (bytes : ℕ) (labels : Option (List Pair)) (place : Option ℕ)
    → IsCounted d (provision_new setup.pools d name provisioner bytes labels place)
unfolding provision_new
new_data setup d name provisioner bytes labels None = record { most = omega arith }
new_data setup d name provisioner bytes labels (Some place) = record { most = omega arith }

provisioned : (setup : Setup) (d : Devices) (name provisioner : List ℕ) (bytes : ℕ) (labels : Option (List Pair)) (x : Option Data)
    → IsCounted d (provision setup.pools d name provisioner bytes labels x)
unfolding provision
provisioned setup d name provisioner bytes labels (Some x) = record { most = omega arith }
provisioned setup d name provisioner bytes labels None = new_data setup d name provisioner bytes labels _

abbrev AreCountedCalls : Devices → Option DeviceAnswer → Type 0
AreCountedCalls d None = ⊤
AreCountedCalls d (Some a) = IsCounted d a

counted : (setup : Setup) (d : Devices) (request : Request) → AreCountedCalls d (device_answer setup d request)
unfolding device_answer erase take_node with_mounts
counted setup d (requests.Provision name provisioner bytes labels) = planned setup d _ (provisioned setup d name provisioner bytes labels _)
counted setup d (requests.Erase id) = planned setup d _ (record { most = omega arith })
counted setup d (requests.TakeNode node) = record { most = omega arith }
counted setup d (requests.Mounts node epoch) = stale d _ _ (record { most = omega arith })
counted setup d (requests.Mount node epoch pod claims) = stale d _ _ (record { most = omega arith })
counted setup d (requests.Unmount node epoch pod) = stale d _ _ (record { most = omega arith })
counted setup d _ = tt

record IsCountedOnce (w : World) (x : Effect) : Type 0 where
  most : (world_after w x).devices.calls ≤ w.devices.calls + 1

on_store : (w : World) (o : Outcome) → IsCountedOnce w (OnStore o)
unfolding world_after
on_store w o = record { most = omega arith }

on_moment : (w : World) (at : List ℕ) → IsCountedOnce w (SetsMoment at)
unfolding world_after
on_moment w at = record { most = omega arith }

answered : (w : World) (a : DeviceAnswer) → IsCounted w.devices a → IsCountedOnce w (OnDevices a)
unfolding world_after
answered w a k = record { most = k.most }

either : (b : Bool) (w : World) (x y : Effect) → IsCountedOnce w x → IsCountedOnce w y → IsCountedOnce w (if b then x else y)
either true w x y kx ky = kx
either false w x y kx ky = ky

asked : (w : World) (kind : SeatKind) (request : Request) (a : Option DeviceAnswer) → AreCountedCalls w.devices a → IsCountedOnce w (on_devices w kind request a)
unfolding on_devices
asked w kind request (Some a) k = either (is_user kind) w _ (OnDevices a) (on_store w _) (answered w a k)
asked w kind request None k = on_store w _

effect_counted : (setup : Setup) (w : World) (kind : SeatKind) (request : Request) → IsCountedOnce w (effect setup w kind request)
unfolding effect set_time watch
effect_counted setup w kind (requests.SetTime at) = either (is_time at) w (SetsMoment at) (OnStore _) (on_moment w at) (on_store w _)
effect_counted setup w kind (requests.Watch k from) =
    either (nat_lt w.store.version from) w (OnStore _) _ (on_store w _)
    (either (nat_lt from (oldest (base setup) w.store.version)) w (OnStore _) (OnStore _) (on_store w _) (on_store w _))
effect_counted setup w kind request = asked w kind request _ (counted setup w.devices request)

pub few_calls : (setup : Setup) (past : List Entry) → (world setup past).devices.calls ≤ length past
few_calls setup [] = omega arith
few_calls setup (e ∷ past) =
    let rest = few_calls setup past in
    let step = (effect_counted setup (world setup past) e.kind e.request).most in
    omega (arith, rest, step)

pub few_epochs : (setup : Setup) (past : List Entry) (node : List ℕ) → epoch_of node (world setup past).devices.epochs ≤ length past
few_epochs setup [] node = omega arith
few_epochs setup (e ∷ past) node =
    let rest = few_epochs setup past node in
    elim ((device_moves setup (world setup past) e.kind e.request).move.epoch node) [
      | inl same ↦ omega (arith, rest, same)
      | inr taken ↦ let next = taken.next in omega (arith, rest, next)
    ]
