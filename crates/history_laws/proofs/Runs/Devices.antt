-- The walk over the devices' verbs: what they answer a text can give, and they stay such.
use Rattle.std.proofs.Common.{arith}
use Rattle.std.specs.Prelude.{ℕ, ◌+◌, ◌==◌, ◌^◌, ◌<◌, ◌≤◌, max, Bool, true, false, List, [], ◌∷◌, Option, Some, None, IfSome, All, bytes_eq, if◌then◌else◌}
use Rattle.std.proofs.lemmas.List.Elements.{All-nil, All-cons, All-head, All-tail, All-append, All-filter, All-weaker}
use Rattle.plain_data.specs.Pairs.{Pair}
use Rattle.kube_parts.specs.declared.uid.Uid.{Uid}
use Rattle.call_types.specs.declared.setup.Pool.{Pool}
use Rattle.call_types.specs.declared.setup.Setup.{Setup}
use Rattle.call_types.specs.declared.request.Request.{Request}
use Rattle.call_types.specs.declared.request.Request.TheVariants as requests
use Rattle.call_types.specs.declared.reply.Reply.{Reply}
use Rattle.binder_model.specs.Devices.{
  Data,
  MountAt,
  Devices,
  DeviceAnswer,
  epoch_of,
  epoch_if_stale,
  rows_on,
  is_mounted_on,
  put_mount,
  with_mount,
  without_mount,
  would_serve,
  free_bytes,
  most_free,
  first_fit,
  data_named,
  is_planned,
  after_call,
  provision_new,
  provision,
  erase,
  unless_planned,
  unless_stale,
  take_node,
  with_mounts,
  device_answer,
}
use Rattle.object_laws.specs.Given.{IsUid}
use Rattle.history_laws.specs.Read.Given.{IsNumber, IsMountRow, IsRequest, IsReply, IsPool}
use Rattle.history_laws.specs.Runs.Keeping.{IsEpoch, IsMount, AreGivenDevices}

-- ---- epochs

pub epoch_small : (most : ℕ) (node : List ℕ) (es : List (List ℕ × ℕ)) → All (IsEpoch most) es → epoch_of node es ≤ most
epoch_small most node [] h = omega arith
epoch_small most node (e ∷ es) h = by (bytes_eq e.0 node) (epoch_small most node es (All-tail (IsEpoch most) e es h))
  where
    by : (b : Bool) → epoch_of node es ≤ most → (if b then e.1 else epoch_of node es) ≤ most
    by true rest = All-head (IsEpoch most) e es h
    by false rest = rest

pub stale_number : (most : ℕ) (d : Devices) (node : List ℕ) (given : ℕ) → most < 2 ^ 62 → AreGivenDevices most d → IfSome (epoch_if_stale d node given) IsNumber
stale_number most d node given few h = by (given == epoch_of node d.epochs)
  where
    by : (b : Bool) → IfSome (if b then None else Some (epoch_of node d.epochs)) IsNumber
    by true = tt
    by false = let small = epoch_small most node d.epochs h.epochs in omega (arith, few, small)

-- ---- mounts

rows_all : (node : List ℕ) (ms : List MountAt) → All IsMount ms → All IsMountRow (rows_on node ms)
rows_all node [] h = All-nil IsMountRow
rows_all node (m ∷ ms) h = by (bytes_eq m.node node) (rows_all node ms (All-tail IsMount m ms h))
  where
    by : (b : Bool) → All IsMountRow (rows_on node ms) → All IsMountRow (if b then m.row ∷ rows_on node ms else rows_on node ms)
    by true rest = All-cons IsMountRow m.row _ (All-head IsMount m ms h) rest
    by false rest = rest

put_given : (new : MountAt) (ms : List MountAt) → IsMount new → All IsMount ms → All IsMount (put_mount new ms)
put_given new ms is h = All-append IsMount _ _ (All-filter _ IsMount ms h) (All-cons IsMount new _ is (All-filter _ IsMount ms h))

mounted_given : (node : List ℕ) (pod : Uid) (claims : List Uid) (ms : List MountAt) → IsUid pod → All IsUid claims → All IsMount ms → All IsMount (with_mount node pod claims ms)
mounted_given node pod claims ms is are h = by (is_mounted_on node pod ms)
  where
    by : (b : Bool) → All IsMount (if b then ms else put_mount (record { node = node; row = record { pod = pod; claims = claims } }) ms)
    by true = h
    by false = put_given _ ms (record { pod = is; claims = are }) h

-- ---- pools

free_small : (provisioner : List ℕ) (labels : Option (List Pair)) (stored : List Data) (place : ℕ) (pools : List Pool) → All IsPool pools → most_free provisioner labels stored place pools < 2 ^ 64
free_small provisioner labels stored place [] h = omega arith
free_small provisioner labels stored place (pool ∷ pools) h = by (would_serve provisioner labels pool) (free_small provisioner labels stored (place + 1) pools (All-tail IsPool pool pools h))
  where
    by : (b : Bool) → most_free provisioner labels stored (place + 1) pools < 2 ^ 64
        → (if b then max (free_bytes pool place stored) (most_free provisioner labels stored (place + 1) pools) else most_free provisioner labels stored (place + 1) pools) < 2 ^ 64
    by true rest = let size = All-head IsPool pool pools h in omega (arith, size, rest)
    by false rest = rest

-- ---- answers

pub record IsGivenAnswer (most : ℕ) (a : DeviceAnswer) : Type 0 where
  pub reply : IsReply a.reply
  pub devices : AreGivenDevices (most + 1) a.devices

epoch_more : (most : ℕ) (e : List ℕ × ℕ) → IsEpoch most e → IsEpoch (most + 1) e
epoch_more most e h = omega (arith, h)

pub devices_more : (most : ℕ) (d : Devices) → AreGivenDevices most d → AreGivenDevices (most + 1) d
devices_more most d h = let calls = h.calls in record { epochs = All-weaker (IsEpoch most) (IsEpoch (most + 1)) (epoch_more most) d.epochs h.epochs; mounts = h.mounts; calls = omega (arith, calls) }

counted : (most : ℕ) (d : Devices) (reply : Reply) → AreGivenDevices most d → IsReply reply → IsGivenAnswer most (after_call d reply)
counted most d reply h k = let calls = h.calls in
    record { reply = k; devices = record { epochs = All-weaker (IsEpoch most) (IsEpoch (most + 1)) (epoch_more most) d.epochs h.epochs; mounts = h.mounts; calls = omega (arith, calls) } }

by_test : (most : ℕ) (b : Bool) (x y : DeviceAnswer) → IsGivenAnswer most x → IsGivenAnswer most y → IsGivenAnswer most (if b then x else y)
by_test most true x y kx ky = kx
by_test most false x y kx ky = ky

unless_planned_given : (setup : Setup) (most : ℕ) (d : Devices) (next : DeviceAnswer) → most < 2 ^ 62 → AreGivenDevices most d
    → IsGivenAnswer most next → IsGivenAnswer most (unless_planned setup d next)
unfolding unless_planned
unless_planned_given setup most d next few h k = let calls = h.calls in by_test most (is_planned (d.calls + 1) setup.faults) _ next (counted most d _ h (omega (arith, calls, few))) k

unless_stale_given : (most : ℕ) (d : Devices) (stale : Option ℕ) (next : DeviceAnswer) → AreGivenDevices most d → IfSome stale IsNumber
    → IsGivenAnswer most next → IsGivenAnswer most (unless_stale d stale next)
unfolding unless_stale
unless_stale_given most d None next h is k = k
unless_stale_given most d (Some current) next h is k = record { reply = is; devices = devices_more most d h }

new_given : (pools : List Pool) (most : ℕ) (d : Devices) (name provisioner : List ℕ) (bytes : ℕ) (labels : Option (List Pair)) (place : Option ℕ)
    → All IsPool pools → AreGivenDevices most d → IsGivenAnswer most (provision_new pools d name provisioner bytes labels place)
unfolding provision_new
new_given pools most d name provisioner bytes labels None are h = counted most d _ h (free_small provisioner labels d.stored 0 pools are)
new_given pools most d name provisioner bytes labels (Some place) are h = counted most _ _ (record { epochs = h.epochs; mounts = h.mounts; calls = h.calls }) tt

provision_given : (pools : List Pool) (most : ℕ) (d : Devices) (name provisioner : List ℕ) (bytes : ℕ) (labels : Option (List Pair)) (x : Option Data)
    → All IsPool pools → AreGivenDevices most d → IsGivenAnswer most (provision pools d name provisioner bytes labels x)
unfolding provision
provision_given pools most d name provisioner bytes labels (Some x) are h = counted most d _ h tt
provision_given pools most d name provisioner bytes labels None are h = new_given pools most d name provisioner bytes labels (first_fit provisioner bytes labels d.stored 0 pools) are h

take_given : (most : ℕ) (d : Devices) (node : List ℕ) → most < 2 ^ 62 → AreGivenDevices most d → IsGivenAnswer most (take_node d node)
unfolding take_node
take_given most d node few h =
    let small = epoch_small most node d.epochs h.epochs in
    let calls = h.calls in record {
      reply = omega (arith, small, few);
      devices = record {
        epochs = All-cons (IsEpoch (most + 1)) _ d.epochs (omega (arith, small)) (All-weaker (IsEpoch most) (IsEpoch (most + 1)) (epoch_more most) d.epochs h.epochs);
        mounts = h.mounts;
        calls = omega (arith, calls);
      };
    }

with_mounts_given : (most : ℕ) (d : Devices) (node : List ℕ) (ms : List MountAt) → AreGivenDevices most d → All IsMount ms → IsGivenAnswer most (with_mounts d node ms)
unfolding with_mounts
with_mounts_given most d node ms h are = let calls = h.calls in record {
  reply = rows_all node ms are;
  devices = record { epochs = All-weaker (IsEpoch most) (IsEpoch (most + 1)) (epoch_more most) d.epochs h.epochs; mounts = are; calls = omega (arith, calls) };
}

pub device_answer_given : (setup : Setup) (most : ℕ) (d : Devices) (request : Request)
    → All IsPool setup.pools → most < 2 ^ 62 → AreGivenDevices most d → IsRequest request → IfSome (device_answer setup d request) (IsGivenAnswer most)
unfolding device_answer erase
device_answer_given setup most d (requests.Provision name provisioner bytes labels) are few h k =
    unless_planned_given setup most d _ few h (provision_given setup.pools most d name provisioner bytes labels (data_named name d.stored) are h)
device_answer_given setup most d (requests.Erase id) are few h k = unless_planned_given setup most d _ few h (counted most _ _ (record { epochs = h.epochs; mounts = h.mounts; calls = h.calls }) tt)
device_answer_given setup most d (requests.TakeNode node) are few h k = take_given most d node few h
device_answer_given setup most d (requests.Mounts node epoch) are few h k = unless_stale_given most d _ _ h (stale_number most d node epoch few h) (with_mounts_given most d node d.mounts h h.mounts)
device_answer_given setup most d (requests.Mount node epoch pod claims) are few h k =
    unless_stale_given most d _ _ h (stale_number most d node epoch few h)
    (with_mounts_given most d node (with_mount node pod claims d.mounts) h (mounted_given node pod claims d.mounts k.1 k.2 h.mounts))
device_answer_given setup most d (requests.Unmount node epoch pod) are few h k =
    unless_stale_given most d _ _ h (stale_number most d node epoch few h) (with_mounts_given most d node (without_mount node pod d.mounts) h (All-filter _ IsMount d.mounts h.mounts))
device_answer_given setup most d _ are few h k = tt
