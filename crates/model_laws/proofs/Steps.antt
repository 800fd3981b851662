-- One call: by cases on what it comes to.
use Rattle.std.proofs.Common.{refl, subst}
use Rattle.std.specs.Prelude.{ℕ, ◌≡◌, ◌+◌, Bool, true, false, List, Option, Some, None, nat_lt, if◌then◌else◌, ⊤}
use Rattle.plain_data.specs.Pairs.{Pair}
use Rattle.kube_parts.specs.declared.parts.Kind.{Kind}
use Rattle.kube_objects.specs.declared.objects.DataId.{DataId}
use Rattle.call_types.specs.declared.setup.Setup.{Setup}
use Rattle.call_types.specs.declared.setup.Pool.{Pool}
use Rattle.call_types.specs.declared.request.SeatKind.{SeatKind}
use Rattle.call_types.specs.declared.request.Request.{Request}
use Rattle.call_types.specs.declared.request.Request.TheVariants as requests
use Rattle.call_types.specs.declared.reply.Refusal.{Refusal}
use Rattle.call_types.specs.declared.reply.Reply.{Reply}
use Rattle.call_types.specs.declared.reply.Reply.TheVariants.{Refused}
use Rattle.binder_model.specs.Answers.{Outcome, Says, Stores, Removes, is_user, reply_of, after}
use Rattle.binder_model.specs.Devices.{
  Data,
  Devices,
  DeviceAnswer,
  MountAt,
  after_call,
  provision_new,
  provision,
  erase,
  unless_planned,
  unless_stale,
  take_node,
  with_mounts,
  device_answer,
  data_named,
  is_planned,
  epoch_if_stale,
  with_mount,
  without_mount,
}
use Rattle.binder_model.specs.Watching.{oldest}
use Rattle.binder_model.specs.World.{base, World, Effect, OnStore, OnDevices, SetsMoment, effect, reply_to, world_after, log_after, watch, on_devices, set_time, is_time}
use Rattle.model_laws.specs.Steps.{AreSameButCalls, IsSameButCalls, RefusalsChangeNothing}

-- no other reply is a refusal
abbrev pub IsNoRefusal : Reply → Type 0
IsNoRefusal (Refused r) = ⊥
IsNoRefusal reply = ⊤

pub no_refusal : (reply : Reply) (r : Refusal) → IsNoRefusal reply → reply ≡ Refused r → ⊥
no_refusal reply r is e = subst IsNoRefusal e is

-- where the devices refuse, they are as before but for their calls
abbrev IsKept : Devices → DeviceAnswer → Type 0
IsKept d a = (r : Refusal) → a.reply ≡ Refused r → AreSameButCalls d a.devices

same : (d : Devices) (n : ℕ) → AreSameButCalls d (record d { calls = n })
same d n = record { stored = refl; epochs = refl; mounts = refl }

called_kept : (d : Devices) (reply : Reply) → IsKept d (after_call d reply)
called_kept d reply r e = same d _

by_test : (b : Bool) (d : Devices) (then_ else_ : DeviceAnswer) → IsKept d then_ → IsKept d else_ → IsKept d (if b then then_ else else_)
by_test true d x y kx ky = kx
by_test false d x y kx ky = ky

planned : (setup : Setup) (d : Devices) (next : DeviceAnswer) → IsKept d next → IsKept d (unless_planned setup d next)
unfolding unless_planned
planned setup d next k = by_test (is_planned (d.calls + 1) setup.faults) d _ _ (called_kept d _) k

not_stale : (d : Devices) (s : Option ℕ) (next : DeviceAnswer) → IsKept d next → IsKept d (unless_stale d s next)
unfolding unless_stale
not_stale d None next k = k
not_stale d (Some current) next k = λ r e. record { stored = refl; epochs = refl; mounts = refl }

new_kept : (pools : List Pool) (d : Devices) (name provisioner : List ℕ) (bytes : ℕ) (labels : Option (List Pair)) (place : Option ℕ)
    → IsKept d (provision_new pools d name provisioner bytes labels place)
unfolding provision_new
new_kept pools d name provisioner bytes labels None = called_kept d _
new_kept pools d name provisioner bytes labels (Some place) = λ r e. absurd (no_refusal _ r tt e)

provision_kept : (pools : List Pool) (d : Devices) (name provisioner : List ℕ) (bytes : ℕ) (labels : Option (List Pair)) (x : Option Data)
    → IsKept d (provision pools d name provisioner bytes labels x)
unfolding provision
provision_kept pools d name provisioner bytes labels (Some x) = called_kept d _
provision_kept pools d name provisioner bytes labels None = new_kept pools d name provisioner bytes labels _

erase_kept : (d : Devices) (id : DataId) → IsKept d (erase d id)
unfolding erase
erase_kept d id = λ r e. absurd (no_refusal _ r tt e)

take_kept : (d : Devices) (node : List ℕ) → IsKept d (take_node d node)
unfolding take_node
take_kept d node = λ r e. absurd (no_refusal _ r tt e)

mounts_kept : (d : Devices) (node : List ℕ) (mounts : List MountAt) → IsKept d (with_mounts d node mounts)
unfolding with_mounts
mounts_kept d node mounts = λ r e. absurd (no_refusal _ r tt e)

-- what the devices answer, if they are asked
abbrev AreKept : Devices → Option DeviceAnswer → Type 0
AreKept d None = ⊤
AreKept d (Some a) = IsKept d a

devices_kept : (setup : Setup) (d : Devices) (request : Request) → AreKept d (device_answer setup d request)
unfolding device_answer
devices_kept setup d (requests.Provision name provisioner bytes labels) = planned setup d _ (provision_kept setup.pools d name provisioner bytes labels (data_named name d.stored))
devices_kept setup d (requests.Erase id) = planned setup d _ (erase_kept d id)
devices_kept setup d (requests.TakeNode node) = take_kept d node
devices_kept setup d (requests.Mounts node epoch) = not_stale d (epoch_if_stale d node epoch) _ (mounts_kept d node d.mounts)
devices_kept setup d (requests.Mount node epoch pod claims) = not_stale d (epoch_if_stale d node epoch) _ (mounts_kept d node (with_mount node pod claims d.mounts))
devices_kept setup d (requests.Unmount node epoch pod) = not_stale d (epoch_if_stale d node epoch) _ (mounts_kept d node (without_mount node pod d.mounts))
devices_kept setup d _ = tt

-- an effect that is a refusal
record IsHarmless (w : World) (x : Effect) : Type 0 where
  harmless : (r : Refusal) → reply_to x ≡ Refused r → IsSameButCalls w (world_after w x)

store_harmless : (w : World) (o : Outcome) → IsHarmless w (OnStore o)
unfolding reply_to world_after reply_of after log_after
store_harmless w (Says reply) = record { harmless = λ r e. record { store = refl; moment = refl; log = refl; devices = record { stored = refl; epochs = refl; mounts = refl } } }
store_harmless w (Stores change o) = record { harmless = λ r e. absurd (no_refusal _ r tt e) }
store_harmless w (Removes o) = record { harmless = λ r e. absurd (no_refusal _ r tt e) }

devices_harmless : (w : World) (a : DeviceAnswer) → IsKept w.devices a → IsHarmless w (OnDevices a)
unfolding reply_to world_after
devices_harmless w a k = record { harmless = λ r e. record { store = refl; moment = refl; log = refl; devices = k r e } }

moment_harmless : (w : World) (at : List ℕ) → IsHarmless w (SetsMoment at)
unfolding reply_to
moment_harmless w at = record { harmless = λ r e. absurd (no_refusal _ r tt e) }

effect_test : (b : Bool) (w : World) (x y : Effect) → IsHarmless w x → IsHarmless w y → IsHarmless w (if b then x else y)
effect_test true w x y kx ky = kx
effect_test false w x y kx ky = ky

time_harmless : (w : World) (at : List ℕ) → IsHarmless w (set_time at)
unfolding set_time
time_harmless w at = effect_test (is_time at) w _ _ (moment_harmless w at) (store_harmless w _)

watch_harmless : (setup : Setup) (w : World) (kind : Kind) (from : ℕ) → IsHarmless w (watch setup w kind from)
unfolding watch
watch_harmless setup w kind from =
    effect_test (nat_lt w.store.version from) w (OnStore _) _ (store_harmless w _)
    (effect_test (nat_lt from (oldest (base setup) w.store.version)) w (OnStore _) (OnStore _) (store_harmless w _) (store_harmless w _))

asked_harmless : (w : World) (kind : SeatKind) (request : Request) (a : Option DeviceAnswer) → AreKept w.devices a → IsHarmless w (on_devices w kind request a)
unfolding on_devices
asked_harmless w kind request (Some a) k = effect_test (is_user kind) w _ _ (store_harmless w _) (devices_harmless w a k)
asked_harmless w kind request None k = store_harmless w _

effects_harmless : (setup : Setup) (w : World) (kind : SeatKind) (request : Request) → IsHarmless w (effect setup w kind request)
unfolding effect
effects_harmless setup w kind (requests.SetTime at) = time_harmless w at
effects_harmless setup w kind (requests.Watch k from) = watch_harmless setup w k from
effects_harmless setup w kind request = asked_harmless w kind request _ (devices_kept setup w.devices request)

pub refusals_change_nothing : RefusalsChangeNothing
refusals_change_nothing setup w kind request r e = (effects_harmless setup w kind request).harmless r e
