-- The data of a history are counted by their ids, so no two have one id.
use Rattle.std.proofs.Common.{◌≡◌, ◌∙◌, ℕ, ◌+◌, ◌≤◌, ◌<◌, ◌^◌, List, [], ◌∷◌, ◌++◌, Bool, true, false, true≢false, Option, Some, None, inl, inr, refl, sym, ap, subst, arith, length, if◌then◌else◌}
use Rattle.std.specs.Prelude.{◌&&◌, ◌||◌, bytes_eq, codes, decimal, drop, nat_lt, not, ⊤}
use Rattle.std.specs.List.{list_any}
use Rattle.std.proofs.lemmas.Bool.{and_parts, not-true}
use Rattle.std.proofs.lemmas.Fmt.{decimal_injective}
use Rattle.std.proofs.lemmas.Slice.Eq.{bytes_eq-Decides}
use Rattle.plain_data.specs.Pairs.{Pair}
use Rattle.kube_objects.specs.declared.objects.DataId.{DataId}
use Rattle.call_types.specs.declared.entry.Entry.{Entry}
use Rattle.call_types.specs.declared.reply.Refusal.TheVariants.{BackFault}
use Rattle.call_types.specs.declared.reply.Reply.TheVariants.{Refused}
use Rattle.call_types.specs.declared.request.Request.{Request}
use Rattle.call_types.specs.declared.request.Request.TheVariants as requests
use Rattle.call_types.specs.declared.request.SeatKind.{SeatKind}
use Rattle.call_types.specs.declared.setup.Pool.{Pool}
use Rattle.call_types.specs.declared.setup.Setup.{Setup}
use Rattle.binder_model.specs.Answers.{Outcome, is_user}
use Rattle.binder_model.specs.Devices.{
  Data,
  DeviceAnswer,
  Devices,
  after_call,
  data_after_erase,
  data_named,
  device_answer,
  epoch_if_stale,
  erase,
  has_id,
  is_planned,
  provision,
  provision_new,
  same_id,
  take_node,
  unless_planned,
  unless_stale,
  with_mounts,
}
use Rattle.binder_model.specs.Watching.{oldest}
use Rattle.binder_model.specs.World.{Effect, OnDevices, OnStore, SetsMoment, World, base, effect, is_time, on_devices, set_time, watch, world, world_after}
use Rattle.model_laws.proofs.Lists.{IsIn}
use Rattle.settle_measure.specs.Left.Measure.{was_erased}
use Rattle.model_laws.proofs.Stored.{erased_length}

-- the data under this number
abbrev id_text : ℕ → List ℕ
id_text n = codes "data-" ++ decimal n

-- each has the number of those behind it and itself
abbrev AreCounted : List Data → Type 0
AreCounted [] = ⊤
AreCounted (x ∷ xs) = (x.id.id ≡ id_text (length xs + 1)) × AreCounted xs

-- and they are no more than so many
pub record AreFew (most : ℕ) (xs : List Data) : Type 0 where
  counted : AreCounted xs
  few : length xs ≤ most

more : (most : ℕ) (xs : List Data) → AreFew most xs → AreFew (most + 1) xs
more most xs a = let few = a.few in record { counted = a.counted; few = omega (arith, few) }

-- ---- each call keeps them so

abbrev Keeps : ℕ → Devices → DeviceAnswer → Type 0
Keeps most d a = AreFew most d.stored → AreFew (most + 1) a.devices.stored

as_before : (most : ℕ) (old new : List Data) → new ≡ old → AreFew most old → AreFew (most + 1) new
as_before most old new same few = subst (AreFew (most + 1)) (sym same) (more most old few)

by_test : (most : ℕ) (d : Devices) (b : Bool) (x y : DeviceAnswer) → Keeps most d x → Keeps most d y → Keeps most d (if b then x else y)
by_test most d true x y kx ky = kx
by_test most d false x y kx ky = ky

planned_keeps : (most : ℕ) (setup : Setup) (d : Devices) (next : DeviceAnswer) → Keeps most d next → Keeps most d (unless_planned setup d next)
unfolding unless_planned
planned_keeps most setup d next k = by_test most d (is_planned (d.calls + 1) setup.faults) (after_call d (Refused (BackFault (d.calls + 1)))) next (as_before most _ _ refl) k

stale_keeps : (most : ℕ) (d : Devices) (s : Option ℕ) (next : DeviceAnswer) → Keeps most d next → Keeps most d (unless_stale d s next)
unfolding unless_stale
stale_keeps most d None next k = k
stale_keeps most d (Some current) next k = as_before most _ _ refl

new_keeps : (most : ℕ) (pools : List Pool) (d : Devices) (name provisioner : List ℕ) (bytes : ℕ) (labels : Option (List Pair)) (place : Option ℕ)
    → Keeps most d (provision_new pools d name provisioner bytes labels place)
unfolding provision_new
new_keeps most pools d name provisioner bytes labels None = as_before most _ _ refl
new_keeps most pools d name provisioner bytes labels (Some place) = λ a. let few = a.few in record { counted = (refl, a.counted); few = omega (arith, few) }

provision_keeps : (most : ℕ) (pools : List Pool) (d : Devices) (name provisioner : List ℕ) (bytes : ℕ) (labels : Option (List Pair))
    (x : Option Data) → Keeps most d (provision pools d name provisioner bytes labels x)
unfolding provision
provision_keeps most pools d name provisioner bytes labels (Some x) = as_before most _ _ refl
provision_keeps most pools d name provisioner bytes labels None = new_keeps most pools d name provisioner bytes labels _

erased_counted : (id : DataId) (xs : List Data) → AreCounted xs → AreCounted (data_after_erase id xs)
erased_counted id [] c = tt
erased_counted id (x ∷ xs) c = (by (same_id x.id id), erased_counted id xs c.1)
  where
    still : x.id.id ≡ id_text (length (data_after_erase id xs) + 1)
    still = c.0 ∙ ap (λ n. id_text (n + 1)) (sym (erased_length id xs))

    by : (b : Bool) → (if b then record x { there = false } else x).id.id ≡ id_text (length (data_after_erase id xs) + 1)
    by true = still
    by false = still

erase_keeps : (most : ℕ) (d : Devices) (id : DataId) → Keeps most d (erase d id)
unfolding erase
erase_keeps most d id a = let few = a.few in let same = erased_length id d.stored in record { counted = erased_counted id d.stored a.counted; few = omega (arith, few, same) }

abbrev KeepsIf : ℕ → Devices → Option DeviceAnswer → Type 0
KeepsIf most d None = ⊤
KeepsIf most d (Some a) = Keeps most d a

devices_keep : (most : ℕ) (setup : Setup) (d : Devices) (request : Request) → KeepsIf most d (device_answer setup d request)
unfolding device_answer take_node with_mounts
devices_keep most setup d (requests.Provision name provisioner bytes labels) =
    planned_keeps most setup d _ (provision_keeps most setup.pools d name provisioner bytes labels (data_named name d.stored))
devices_keep most setup d (requests.Erase id) = planned_keeps most setup d _ (erase_keeps most d id)
devices_keep most setup d (requests.TakeNode node) = as_before most _ _ refl
devices_keep most setup d (requests.Mounts n epoch) = stale_keeps most d (epoch_if_stale d n epoch) _ (as_before most _ _ refl)
devices_keep most setup d (requests.Mount n epoch pod claims) = stale_keeps most d (epoch_if_stale d n epoch) _ (as_before most _ _ refl)
devices_keep most setup d (requests.Unmount n epoch pod) = stale_keeps most d (epoch_if_stale d n epoch) _ (as_before most _ _ refl)
devices_keep most setup d _ = tt

record EffectKeeps (most : ℕ) (w : World) (x : Effect) : Type 0 where
  on : AreFew most w.devices.stored → AreFew (most + 1) (world_after w x).devices.stored

store_keeps : (most : ℕ) (w : World) (o : Outcome) → EffectKeeps most w (OnStore o)
unfolding world_after
store_keeps most w o = record { on = more most w.devices.stored }

moment_keeps : (most : ℕ) (w : World) (at : List ℕ) → EffectKeeps most w (SetsMoment at)
unfolding world_after
moment_keeps most w at = record { on = more most w.devices.stored }

answer_keeps : (most : ℕ) (w : World) (a : DeviceAnswer) → Keeps most w.devices a → EffectKeeps most w (OnDevices a)
unfolding world_after
answer_keeps most w a k = record { on = k }

test : (most : ℕ) (w : World) (b : Bool) (x y : Effect) → EffectKeeps most w x → EffectKeeps most w y → EffectKeeps most w (if b then x else y)
test most w true x y kx ky = kx
test most w false x y kx ky = ky

asked_keeps : (most : ℕ) (w : World) (kind : SeatKind) (request : Request) (a : Option DeviceAnswer) → KeepsIf most w.devices a → EffectKeeps most w (on_devices w kind request a)
unfolding on_devices
asked_keeps most w kind request (Some a) k = test most w (is_user kind) (OnStore _) _ (store_keeps most w _) (answer_keeps most w a k)
asked_keeps most w kind request None k = store_keeps most w _

effect_keeps : (most : ℕ) (setup : Setup) (w : World) (kind : SeatKind) (request : Request) → EffectKeeps most w (effect setup w kind request)
unfolding effect set_time watch
effect_keeps most setup w kind (requests.SetTime at) = test most w (is_time at) (SetsMoment at) (OnStore _) (moment_keeps most w at) (store_keeps most w _)
effect_keeps most setup w kind (requests.Watch k from) =
    test most w (nat_lt w.store.version from) (OnStore _) _ (store_keeps most w _)
    (test most w (nat_lt from (oldest (base setup) w.store.version)) (OnStore _) (OnStore _) (store_keeps most w _) (store_keeps most w _))
effect_keeps most setup w kind request = asked_keeps most w kind request _ (devices_keep most setup w.devices request)

pub data_are_few : (setup : Setup) (past : List Entry) → AreFew (length past) (world setup past).devices.stored
data_are_few setup [] = record { counted = tt; few = omega arith }
data_are_few setup (e ∷ past) =
    let a = (effect_keeps (length past) setup (world setup past) e.kind e.request).on (data_are_few setup past) in
    let few = a.few in
    record { counted = a.counted; few = omega (arith, few) }

-- ---- no two have one id

record IsNumbered (most : ℕ) (x : Data) : Type 0 where
  number : ℕ
  is : x.id.id ≡ id_text number
  most_is : number ≤ most

numbered : (xs : List Data) → AreCounted xs → (x : Data) → IsIn x xs → IsNumbered (length xs) x
numbered [] c x h = absurd h
numbered (y ∷ xs) c x (inl is) = record { number = length xs + 1; is = sym (ap (λ (z : Data). z.id.id) is) ∙ c.0; most_is = omega arith }
numbered (y ∷ xs) c x (inr more) = let n = numbered xs c.1 x more in let below = n.most_is in record { number = n.number; is = n.is; most_is = omega (arith, below) }

-- the first of them is none of those behind it
first_apart : (xs : List Data) (x y : Data) → length xs + 1 < 2 ^ 64 → x.id.id ≡ id_text (length xs + 1) → AreCounted xs → IsIn y xs → x.id.id ≡ y.id.id → ⊥
first_apart xs x y short own c h same =
    let n = numbered xs c y h in
    let below = n.most_is in
    let texts : decimal (length xs + 1) ≡ decimal n.number = ap (λ t. drop 5 t) (sym own ∙ (same ∙ n.is)) in
    let level = decimal_injective (length xs + 1) n.number short (omega (arith, short, below)) texts in
    absurd (omega (arith, level, below))

ids_apart : (xs : List Data) → length xs < 2 ^ 63 → AreCounted xs → (x y : Data) → IsIn x xs → IsIn y xs → x.id.id ≡ y.id.id → x ≡ y
ids_apart [] short c x y hx hy same = absurd hx
ids_apart (z ∷ xs) short c x y (inl a) (inl b) same = sym a ∙ b
ids_apart (z ∷ xs) short c x y (inl a) (inr hy) same = absurd (first_apart xs z y (omega (arith, short)) c.0 c.1 hy (ap (λ (w : Data). w.id.id) a ∙ same))
ids_apart (z ∷ xs) short c x y (inr hx) (inl b) same = absurd (first_apart xs z x (omega (arith, short)) c.0 c.1 hx (ap (λ (w : Data). w.id.id) b ∙ sym same))
ids_apart (z ∷ xs) short c x y (inr hx) (inr hy) same = ids_apart xs (omega (arith, short)) c.1 x y hx hy same

-- ---- the data of an id

record IsFound (p : Data → Bool) (xs : List Data) : Type 0 where
  data_is : Data
  among : IsIn data_is xs
  passes : p data_is ≡ true

found_any : (p : Data → Bool) (xs : List Data) → list_any p xs ≡ true → IsFound p xs
found_any p [] e = absurd (true≢false (sym e))
found_any p (x ∷ xs) e = by (p x) refl e (found_any p xs)
  where
    by : (b : Bool) → p x ≡ b → (b || list_any p xs) ≡ true → (list_any p xs ≡ true → IsFound p xs) → IsFound p (x ∷ xs)
    by true is e rest = record { data_is = x; among = inl refl; passes = is }
    by false is e rest = let f = rest e in record { data_is = f.data_is; among = inr f.among; passes = f.passes }

same_handle : (a b : DataId) → same_id a b ≡ true → a.id ≡ b.id
same_handle a b e = (bytes_eq-Decides a.id b.id).0 (and_parts (bytes_eq a.driver b.driver) (bytes_eq a.id b.id) e).1

-- what is there under an id was not erased, and it alone has the id
pub record IsAlone (xs : List Data) (id : DataId) : Type 0 where
  pub given : Data
  pub fresh : was_erased id xs ≡ false
  pub named : (x : Data) → IsIn x xs → x.there ≡ true → same_id x.id id ≡ true → x.name ≡ given.name

pub alone : (most : ℕ) (xs : List Data) → AreFew most xs → most < 2 ^ 60 → (id : DataId) → has_id id xs ≡ true → IsAlone xs id
alone most xs a short id has = record { given = f.data_is; fresh = by (was_erased id xs) refl; named = λ x h there same. ap (λ (y : Data). y.name) (is_it x h same) }
  where
    f : IsFound (λ x. x.there && same_id x.id id) xs
    f = found_any (λ x. x.there && same_id x.id id) xs has

    parts : (f.data_is.there ≡ true) × (same_id f.data_is.id id ≡ true)
    parts = and_parts f.data_is.there (same_id f.data_is.id id) f.passes

    few : length xs < 2 ^ 63
    few = let low = a.few in omega (arith, low, short)

    is_it : (x : Data) → IsIn x xs → same_id x.id id ≡ true → x ≡ f.data_is
    is_it x h same = ids_apart xs few a.counted x f.data_is h f.among (same_handle x.id id same ∙ sym (same_handle f.data_is.id id parts.1))

    by : (b : Bool) → was_erased id xs ≡ b → was_erased id xs ≡ false
    by false e = e
    by true e =
        let g = found_any (λ x. not x.there && same_id x.id id) xs e in
        let gone = and_parts (not g.data_is.there) (same_id g.data_is.id id) g.passes in
        absurd (true≢false (sym parts.0 ∙ (ap (λ (y : Data). y.there) (sym (is_it g.data_is g.among gone.1)) ∙ not-true g.data_is.there gone.0)))
