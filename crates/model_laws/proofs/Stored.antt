-- Data are only added, and each under the next id.
use Rattle.std.proofs.Common.{sym, refl, inl, inr, ap, ◌∙◌, arith}
use Rattle.std.specs.Prelude.{ℕ, ◌≡◌, ◌⊎◌, ◌≤◌, ◌+◌, suc, Bool, true, false, List, [], ◌∷◌, ◌++◌, Option, Some, None, length, nat_lt, drop, if◌then◌else◌, ⊤}
use Rattle.std.proofs.lemmas.Fmt.{decimal_injective}
use Rattle.plain_data.specs.Pairs.{Pair}
use Rattle.kube_objects.specs.declared.objects.DataId.{DataId}
use Rattle.call_types.specs.declared.entry.Entry.{Entry}
use Rattle.call_types.specs.declared.setup.Setup.{Setup}
use Rattle.call_types.specs.declared.setup.Pool.{Pool}
use Rattle.call_types.specs.declared.request.SeatKind.{SeatKind}
use Rattle.call_types.specs.declared.request.Request.{Request}
use Rattle.call_types.specs.declared.request.Request.TheVariants as requests
use Rattle.binder_model.specs.Answers.{Outcome, is_user}
use Rattle.binder_model.specs.Devices.{
  Data,
  Devices,
  DeviceAnswer,
  after_call,
  data_after_erase,
  fresh_id,
  provision_new,
  provision,
  erase,
  unless_planned,
  unless_stale,
  take_node,
  with_mounts,
  device_answer,
  data_named,
  is_planned,
  epoch_if_stale,
}
use Rattle.binder_model.specs.Watching.{oldest}
use Rattle.binder_model.specs.World.{base, World, Effect, OnStore, OnDevices, SetsMoment, world, effect, world_after, on_devices, set_time, watch, is_time}
use Rattle.model_laws.specs.Reads.{DataIdsAreGivenOnce}

-- one more, under the next id
record IsAdded (old new : List Data) : Type 0 where
  given : Data
  provisioner : List ℕ
  is : new ≡ given ∷ old
  id : given.id ≡ fresh_id provisioner old

-- as many as before, or one more under the next id
record IsGrown (old new : List Data) : Type 0 where
  grown : (length new ≡ length old) ⊎ IsAdded old new

stays : (old new : List Data) → new ≡ old → IsGrown old new
stays old new e = record { grown = inl (ap length e) }

by_test : (b : Bool) (d : Devices) (x y : DeviceAnswer) → IsGrown d.stored x.devices.stored → IsGrown d.stored y.devices.stored → IsGrown d.stored (if b then x else y).devices.stored
by_test true d x y kx ky = kx
by_test false d x y kx ky = ky

planned_grown : (setup : Setup) (d : Devices) (next : DeviceAnswer) → IsGrown d.stored next.devices.stored → IsGrown d.stored (unless_planned setup d next).devices.stored
unfolding unless_planned
planned_grown setup d next k = by_test (is_planned (d.calls + 1) setup.faults) d (after_call d _) next (stays _ _ refl) k

stale_grown : (d : Devices) (s : Option ℕ) (next : DeviceAnswer) → IsGrown d.stored next.devices.stored → IsGrown d.stored (unless_stale d s next).devices.stored
unfolding unless_stale
stale_grown d None next k = k
stale_grown d (Some current) next k = stays _ _ refl

new_grown : (pools : List Pool) (d : Devices) (name provisioner : List ℕ) (bytes : ℕ) (labels : Option (List Pair)) (place : Option ℕ)
    → IsGrown d.stored (provision_new pools d name provisioner bytes labels place).devices.stored
unfolding provision_new
new_grown pools d name provisioner bytes labels None = stays _ _ refl
new_grown pools d name provisioner bytes labels (Some place) = record { grown = inr (record { given = _; provisioner = provisioner; is = refl; id = refl }) }

provision_grown : (pools : List Pool) (d : Devices) (name provisioner : List ℕ) (bytes : ℕ) (labels : Option (List Pair)) (x : Option Data)
    → IsGrown d.stored (provision pools d name provisioner bytes labels x).devices.stored
unfolding provision
provision_grown pools d name provisioner bytes labels (Some x) = stays _ _ refl
provision_grown pools d name provisioner bytes labels None = new_grown pools d name provisioner bytes labels _

pub erased_length : (id : DataId) (stored : List Data) → length (data_after_erase id stored) ≡ length stored
erased_length id [] = refl
erased_length id (x ∷ xs) = ap (λ n. suc n) (erased_length id xs)

abbrev AreGrown : Devices → Option DeviceAnswer → Type 0
AreGrown d None = ⊤
AreGrown d (Some a) = IsGrown d.stored a.devices.stored

devices_grown : (setup : Setup) (d : Devices) (request : Request) → AreGrown d (device_answer setup d request)
unfolding device_answer erase with_mounts take_node
devices_grown setup d (requests.Provision name provisioner bytes labels) = planned_grown setup d _ (provision_grown setup.pools d name provisioner bytes labels (data_named name d.stored))
devices_grown setup d (requests.Erase id) = planned_grown setup d _ (record { grown = inl (erased_length id d.stored) })
devices_grown setup d (requests.TakeNode node) = stays _ _ refl
devices_grown setup d (requests.Mounts n epoch) = stale_grown d (epoch_if_stale d n epoch) _ (stays _ _ refl)
devices_grown setup d (requests.Mount n epoch pod claims) = stale_grown d (epoch_if_stale d n epoch) _ (stays _ _ refl)
devices_grown setup d (requests.Unmount n epoch pod) = stale_grown d (epoch_if_stale d n epoch) _ (stays _ _ refl)
devices_grown setup d _ = tt

record IsGrownEffect (w : World) (x : Effect) : Type 0 where
  on : IsGrown w.devices.stored (world_after w x).devices.stored

store_grown : (w : World) (o : Outcome) → IsGrownEffect w (OnStore o)
unfolding world_after
store_grown w o = record { on = stays _ _ refl }

moment_grown : (w : World) (at : List ℕ) → IsGrownEffect w (SetsMoment at)
unfolding world_after
moment_grown w at = record { on = stays _ _ refl }

answered_grown : (w : World) (a : DeviceAnswer) → IsGrown w.devices.stored a.devices.stored → IsGrownEffect w (OnDevices a)
unfolding world_after
answered_grown w a k = record { on = k }

test : (b : Bool) (w : World) (x y : Effect) → IsGrownEffect w x → IsGrownEffect w y → IsGrownEffect w (if b then x else y)
test true w x y kx ky = kx
test false w x y kx ky = ky

asked_grown : (w : World) (kind : SeatKind) (request : Request) (a : Option DeviceAnswer) → AreGrown w.devices a → IsGrownEffect w (on_devices w kind request a)
unfolding on_devices
asked_grown w kind request (Some a) k = test (is_user kind) w (OnStore _) _ (store_grown w _) (answered_grown w a k)
asked_grown w kind request None k = store_grown w _

effect_grown : (setup : Setup) (w : World) (kind : SeatKind) (request : Request) → IsGrownEffect w (effect setup w kind request)
unfolding effect set_time watch
effect_grown setup w kind (requests.SetTime at) = test (is_time at) w (SetsMoment at) (OnStore _) (moment_grown w at) (store_grown w _)
effect_grown setup w kind (requests.Watch k from) =
    test (nat_lt w.store.version from) w (OnStore _) _ (store_grown w _)
    (test (nat_lt from (oldest (base setup) w.store.version)) w (OnStore _) (OnStore _) (store_grown w _) (store_grown w _))
effect_grown setup w kind request = asked_grown w kind request _ (devices_grown setup w.devices request)

-- a call adds one at most
one_at_most : (old new : List Data) → IsGrown old new → (length old ≤ length new) × (length new ≤ length old + 1)
one_at_most old new g = by g.grown
  where
    by : (length new ≡ length old) ⊎ IsAdded old new → (length old ≤ length new) × (length new ≤ length old + 1)
    by (inl e) = (omega (arith, e), omega (arith, e))
    by (inr a) =
        let e : length new ≡ length (a.given ∷ old) = ap length a.is in
        let f : length (a.given ∷ old) ≡ length old + 1 = omega arith in
        (omega (arith, e, f), omega (arith, e, f))

abbrev stored_of : Setup → List Entry → List Data
stored_of setup past = (world setup past).devices.stored

few : (setup : Setup) (past : List Entry) → length (stored_of setup past) ≤ length past
few setup [] = omega arith
few setup (e ∷ past) =
    let before = few setup past in
    let step = (one_at_most _ _ (effect_grown setup (world setup past) e.kind e.request).on).1 in
    omega (arith, before, step)

more : (setup : Setup) (newer past : List Entry) → length (stored_of setup past) ≤ length (stored_of setup (newer ++ past))
more setup [] past = omega arith
more setup (e ∷ newer) past =
    let before = more setup newer past in
    let step = (one_at_most _ _ (effect_grown setup (world setup (newer ++ past)) e.kind e.request).on).0 in
    omega (arith, before, step)

-- what is added has the next id
next_id : (old new : List Data) (x : Data) → IsGrown old new → new ≡ x ∷ old → (provisioner : List ℕ) × (x.id ≡ fresh_id provisioner old)
next_id old new x g is = by g.grown
  where
    by : (length new ≡ length old) ⊎ IsAdded old new → (provisioner : List ℕ) × (x.id ≡ fresh_id provisioner old)
    by (inl e) =
        let f : length new ≡ length (x ∷ old) = ap length is in
        let h : length (x ∷ old) ≡ length old + 1 = omega arith in
        absurd (omega (arith, e, f, h))
    by (inr a) = (a.provisioner, ap (λ xs. (first x xs).id) (sym is ∙ a.is) ∙ a.id)
      where
        first : Data → List Data → Data
        first none [] = none
        first none (y ∷ ys) = y

pub data_ids_are_given_once : DataIdsAreGivenOnce
data_ids_are_given_once setup newer between older past id short f s =
    let p = next_id _ _ f.given (effect_grown setup (world setup past) older.kind older.request).on f.added in
    let q = next_id _ _ s.given (effect_grown setup (world setup (between ++ older ∷ past)) newer.kind newer.request).on s.added in
    let texts = ap (λ i. drop 5 i.id) (sym p.1 ∙ f.named ∙ sym s.named ∙ q.1) in
    let low = more setup between (older ∷ past) in
    let count = few setup (between ++ older ∷ past) in
    let grown = one_at_most _ _ (effect_grown setup (world setup past) older.kind older.request).on in
    let e : length (stored_of setup (older ∷ past)) ≡ length (f.given ∷ stored_of setup past) = ap length f.added in
    let g : length (f.given ∷ stored_of setup past) ≡ length (stored_of setup past) + 1 = omega arith in
    let same = decimal_injective (length (stored_of setup past) + 1) (length (stored_of setup (between ++ older ∷ past)) + 1)
    (omega (arith, short, low, count, e, g)) (omega (arith, short, count)) texts in
    absurd (omega (arith, same, low, e, g))
