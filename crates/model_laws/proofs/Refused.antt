-- A refusal changes the devices only where the back end gives it.
use Rattle.std.proofs.Common.{refl, subst, inl, inr, ap}
use Rattle.std.specs.Prelude.{ℕ, ◌≡◌, ◌⊎◌, ◌+◌, Bool, true, false, List, Option, Some, None, nat_lt, if◌then◌else◌, ⊤}
use Rattle.plain_data.specs.Pairs.{Pair}
use Rattle.call_types.specs.declared.setup.Setup.{Setup}
use Rattle.call_types.specs.declared.request.SeatKind.{SeatKind}
use Rattle.call_types.specs.declared.request.Request.{Request}
use Rattle.call_types.specs.declared.request.Request.TheVariants as requests
use Rattle.call_types.specs.declared.reply.Refusal.{Refusal}
use Rattle.call_types.specs.declared.reply.Reply.{Reply}
use Rattle.call_types.specs.declared.reply.Reply.TheVariants.{Refused}
use Rattle.binder_model.specs.Answers.{is_user}
use Rattle.binder_model.specs.Devices.{
  Data,
  Devices,
  DeviceAnswer,
  provision_new,
  provision,
  erase,
  unless_planned,
  unless_stale,
  take_node,
  with_mounts,
  device_answer,
  data_named,
  first_fit,
  is_planned,
  epoch_if_stale,
}
use Rattle.binder_model.specs.Watching.{oldest}
use Rattle.binder_model.specs.World.{base, World, Effect, OnStore, OnDevices, SetsMoment, effect, reply_to, world_after, watch, on_devices, set_time, is_time}
use Rattle.model_laws.specs.Calls.{is_of_back_end, IsCalled, OnlyTheBackEndCounts}
use Rattle.model_laws.proofs.Steps.{IsNoRefusal, no_refusal}

refusal_is : (a b : Refusal) → Refused a ≡ Refused b → a ≡ b
refusal_is a b e = ap of e
  where
    of : Reply → Refusal
    of (Refused r) = r
    of reply = a

-- where the devices refuse, they are as before, or the back end refused and one more call is counted
abbrev Counts : Devices → DeviceAnswer → Type 0
Counts d a = (r : Refusal) → a.reply ≡ Refused r → (a.devices ≡ d) ⊎ ((is_of_back_end r ≡ true) × (a.devices.calls ≡ d.calls + 1))

fault : (d e : Devices) (r : Refusal) → is_of_back_end r ≡ true → e.calls ≡ d.calls + 1 → Counts d (record { devices = e; reply = Refused r })
fault d e r back calls s is = inr (subst (λ (z : Refusal). is_of_back_end z ≡ true) (refusal_is r s is) back, calls)

other : (d e : Devices) (reply : Reply) → IsNoRefusal reply → Counts d (record { devices = e; reply = reply })
other d e reply not_one r is = absurd (no_refusal reply r not_one is)

by_test : (b : Bool) (d : Devices) (x y : DeviceAnswer) → Counts d x → Counts d y → Counts d (if b then x else y)
by_test true d x y kx ky = kx
by_test false d x y kx ky = ky

planned : (setup : Setup) (d : Devices) (next : DeviceAnswer) → Counts d next → Counts d (unless_planned setup d next)
unfolding unless_planned
planned setup d next k = by_test (is_planned (d.calls + 1) setup.faults) d _ _ (fault d _ _ refl refl) k

not_stale : (d : Devices) (s : Option ℕ) (next : DeviceAnswer) → Counts d next → Counts d (unless_stale d s next)
unfolding unless_stale
not_stale d None next k = k
not_stale d (Some current) next k = λ r e. inl refl

provision_counts : (setup : Setup) (d : Devices) (name provisioner : List ℕ) (bytes : ℕ) (labels : Option (List Pair)) (x : Option Data)
    → Counts d (provision setup.pools d name provisioner bytes labels x)
unfolding provision provision_new
provision_counts setup d name provisioner bytes labels (Some x) = other d _ _ tt
provision_counts setup d name provisioner bytes labels None = new (first_fit provisioner bytes labels d.stored 0 setup.pools)
  where
    new : (place : Option ℕ) → Counts d (provision_new setup.pools d name provisioner bytes labels place)
    new None = fault d _ _ refl refl
    new (Some place) = other d _ _ tt

abbrev AreCounted : Devices → Option DeviceAnswer → Type 0
AreCounted d None = ⊤
AreCounted d (Some a) = Counts d a

pub devices_count : (setup : Setup) (d : Devices) (request : Request) → AreCounted d (device_answer setup d request)
unfolding device_answer erase take_node with_mounts
devices_count setup d (requests.Provision name provisioner bytes labels) = planned setup d _ (provision_counts setup d name provisioner bytes labels (data_named name d.stored))
devices_count setup d (requests.Erase id) = planned setup d _ (other d _ _ tt)
devices_count setup d (requests.TakeNode node) = other d _ _ tt
devices_count setup d (requests.Mounts node epoch) = not_stale d (epoch_if_stale d node epoch) _ (other d _ _ tt)
devices_count setup d (requests.Mount node epoch pod claims) = not_stale d (epoch_if_stale d node epoch) _ (other d _ _ tt)
devices_count setup d (requests.Unmount node epoch pod) = not_stale d (epoch_if_stale d node epoch) _ (other d _ _ tt)
devices_count setup d _ = tt

record IsCounting (w : World) (x : Effect) : Type 0 where
  counts : (r : Refusal) → reply_to x ≡ Refused r → ((world_after w x).devices ≡ w.devices) ⊎ IsCalled w (world_after w x) r

quiet : (w : World) (x : Effect) → (world_after w x).devices ≡ w.devices → IsCounting w x
quiet w x same = record { counts = λ r e. inl same }

device_counts : (w : World) (a : DeviceAnswer) → Counts w.devices a → IsCounting w (OnDevices a)
unfolding reply_to world_after
device_counts w a k = record { counts = λ r e. elim (k r e) [ inl same ↦ inl same | inr c ↦ inr (record { back_end = c.0; counted = c.1 }) ] }

test : {w : World} (b : Bool) (x y : Effect) → IsCounting w x → IsCounting w y → IsCounting w (if b then x else y)
test true x y kx ky = kx
test false x y kx ky = ky

asked : (w : World) (kind : SeatKind) (request : Request) (a : Option DeviceAnswer) → AreCounted w.devices a → IsCounting w (on_devices w kind request a)
unfolding on_devices world_after
asked w kind request (Some a) k = test (is_user kind) (OnStore _) _ (quiet w _ refl) (device_counts w a k)
asked w kind request None k = quiet w _ refl

counting : (setup : Setup) (w : World) (kind : SeatKind) (request : Request) → IsCounting w (effect setup w kind request)
unfolding effect set_time watch world_after
counting setup w kind (requests.SetTime at) = test (is_time at) (SetsMoment _) (OnStore _) (quiet w _ refl) (quiet w _ refl)
counting setup w kind (requests.Watch k from) =
    test (nat_lt w.store.version from) (OnStore _) _ (quiet w _ refl)
    (test (nat_lt from (oldest (base setup) w.store.version)) (OnStore _) (OnStore _) (quiet w _ refl) (quiet w _ refl))
counting setup w kind request = asked w kind request _ (devices_count setup w.devices request)

pub only_the_back_end_counts : OnlyTheBackEndCounts
only_the_back_end_counts setup w kind request refusal e = (counting setup w kind request).counts refusal e
