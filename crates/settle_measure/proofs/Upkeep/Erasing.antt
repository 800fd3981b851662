-- Data are erased: who pays.
use Rattle.std.proofs.Common.{◌≡◌, ◌∙◌, ◌⊎◌, ℕ, ◌+◌, ◌≤◌, List, [], ◌∷◌, Bool, true, false, true≢false, Option, Some, None, inl, inr, refl, sym, ap, subst, arith, if◌then◌else◌}
use Rattle.std.specs.Prelude.{bytes_eq, cond, not, ◌&&◌, ◌||◌}
use Rattle.std.specs.List.{list_any}
use Rattle.std.proofs.lemmas.Bool.{and_parts, or_left, or_parts, or_right}
use Rattle.std.proofs.lemmas.Slice.Eq.{bytes_eq-Decides}
use Rattle.kube_parts.specs.declared.uid.Uid.{Uid}
use Rattle.kube_objects.specs.declared.objects.DataId.{DataId}
use Rattle.kube_objects.specs.declared.objects.Claim.{Claim as ClaimData}
use Rattle.kube_objects.specs.declared.objects.Pod.{Pod as PodData}
use Rattle.kube_objects.specs.declared.objects.Volume.{Volume as VolumeData}
use Rattle.kube_objects.specs.declared.objects.Object.{Object}
use Rattle.kube_objects.specs.declared.objects.Object.TheVariants.{Class, Node, Volume, Claim, Pod}
use Rattle.kube_objects.specs.Bindings.{is_completed, is_deleting, is_empty, is_protected_claim, is_scheduled}
use Rattle.kube_objects.specs.Keys.{AreRows, key_of, row_at, same_key}
use Rattle.kube_objects.specs.Sources.{data_id_of}
use Rattle.kube_objects.proofs.SameKeys.{same_key-Decides}
use Rattle.call_types.specs.declared.reply.Reply.{Reply}
use Rattle.call_types.specs.declared.reply.Reply.TheVariants.{Erased, Refused}
use Rattle.call_types.specs.declared.reply.Refusal.TheVariants.{BackFault}
use Rattle.call_types.specs.declared.request.Request.TheVariants.{Erase}
use Rattle.call_types.specs.declared.setup.Setup.{Setup}
use Rattle.binder_model.specs.Devices.{Data, DeviceAnswer, Devices, after_call, data_after_erase, is_mounted_on, device_answer, erase, has_data, has_id, is_planned, same_id, unless_planned}
use Rattle.binder_model.specs.ObjectKeys.{volume_key}
use Rattle.binder_model.specs.Provisioning.{data_name}
use Rattle.binder_model.specs.Due.{is_pod_uid_mounted}
use Rattle.model_laws.proofs.Lists.{IsIn, one}
use Rattle.settle_measure.specs.Left.Measure.{
  claim_left,
  completed_left,
  has_class,
  has_offer,
  mount_left,
  guard_left,
  is_held_by,
  left_of,
  object_left,
  pod_left,
  provision_left,
  total,
  unless,
  volume_left,
  was_erased,
}
use Rattle.settle_measure.specs.Upkeep.Pays.{ErasePays, EraseStays, is_data_name}
use Rattle.settle_measure.proofs.Left.Aside.{devices_total}
use Rattle.settle_measure.proofs.Upkeep.Provisions.{all_provision}
use Rattle.settle_measure.proofs.Left.Others.{unless_less, volume_less}
use Rattle.settle_measure.proofs.Left.Sums.{Pays, falls, one_pays, others_behind, paid_at, stands, total_sum}
use Rattle.settle_measure.proofs.Binding.Stages.{volume_of}

-- the list of data after the erasure

erased_now : (id : DataId) (xs : List Data) → has_id id xs ≡ true → was_erased id (data_after_erase id xs) ≡ true
erased_now id [] e = absurd (true≢false (sym e))
erased_now id (x ∷ xs) e = by (same_id x.id id) refl (x.there) e (erased_now id xs)
  where
    by : (b : Bool) → same_id x.id id ≡ b → (t : Bool) → ((t && b) || has_id id xs) ≡ true → (has_id id xs ≡ true → was_erased id (data_after_erase id xs) ≡ true)
        → (list_any (λ y. not y.there && same_id y.id id) ((if b then record x { there = false } else x) ∷ data_after_erase id xs)) ≡ true
    by true eb t e rest = or_left (same_id x.id id) _ eb
    by false eb true e rest = or_right (not x.there && same_id x.id id) _ (rest e)
    by false eb false e rest = or_right (not x.there && same_id x.id id) _ (rest e)

pub erased_kept : (id j : DataId) (xs : List Data) → was_erased j xs ≡ true → was_erased j (data_after_erase id xs) ≡ true
erased_kept id j [] e = e
erased_kept id j (x ∷ xs) e = by (same_id x.id id) (not x.there && same_id x.id j) refl e (erased_kept id j xs)
  where
    same_then : not x.there && same_id x.id j ≡ true → same_id x.id j ≡ true
    same_then h = (and_parts (not x.there) (same_id x.id j) h).1

    by : (b h : Bool) → (not x.there && same_id x.id j) ≡ h → (h || was_erased j xs) ≡ true → (was_erased j xs ≡ true → was_erased j (data_after_erase id xs) ≡ true)
        → (list_any (λ y. not y.there && same_id y.id j) ((if b then record x { there = false } else x) ∷ data_after_erase id xs)) ≡ true
    by true true eh e rest = or_left (same_id x.id j) _ (same_then eh)
    by false true eh e rest = or_left (not x.there && same_id x.id j) _ eh
    by true false eh e rest = or_right (same_id x.id j) _ (rest e)
    by false false eh e rest = or_right (not x.there && same_id x.id j) _ (rest e)

-- data of another name stay
pub data_kept : (id : DataId) (name other : List ℕ) (xs : List Data) → ((x : Data) → IsIn x xs → x.there ≡ true → same_id x.id id ≡ true → x.name ≡ name) → bytes_eq other name ≡ false
    → list_any (λ y. y.there && bytes_eq y.name other) xs ≡ true → list_any (λ y. y.there && bytes_eq y.name other) (data_after_erase id xs) ≡ true
data_kept id name other [] named differs e = e
data_kept id name other (x ∷ xs) named differs e = by (same_id x.id id) (x.there && bytes_eq x.name other) refl refl e (data_kept id name other xs (λ y i. named y (inr i)) differs)
  where
    by : (b h : Bool) → same_id x.id id ≡ b → (x.there && bytes_eq x.name other) ≡ h → (h || list_any (λ y. y.there && bytes_eq y.name other) xs) ≡ true
        → (list_any (λ y. y.there && bytes_eq y.name other) xs ≡ true → list_any (λ y. y.there && bytes_eq y.name other) (data_after_erase id xs) ≡ true)
        → (list_any (λ y. y.there && bytes_eq y.name other) ((if b then record x { there = false } else x) ∷ data_after_erase id xs)) ≡ true
    by false true eb eh e rest = or_left (x.there && bytes_eq x.name other) _ eh
    by false false eb eh e rest = or_right (x.there && bytes_eq x.name other) _ (rest e)
    by true false eb eh e rest = rest e
    by true true eb eh e rest =
        let p = and_parts x.there (bytes_eq x.name other) eh in
        let is : x.name ≡ name = named x (inl refl) p.0 eb in
        let same : other ≡ name = sym ((bytes_eq-Decides x.name other).0 p.1) ∙ is in
        absurd (true≢false (sym ((bytes_eq-Decides other name).1 same) ∙ differs))

-- the answer is that data were erased, or that there were none
abbrev pub is_erased : Reply → Bool
is_erased (Erased removed) = true
is_erased reply = false

-- the data of the id were erased, or the call failed as planned
pub record IsErasure (d : Devices) (id : DataId) (a : DeviceAnswer) : Type 0 where
  pub stored : is_erased a.reply ≡ true → a.devices.stored ≡ data_after_erase id d.stored
  pub either : (a.devices.stored ≡ d.stored) ⊎ (a.devices.stored ≡ data_after_erase id d.stored)
  pub mounts : a.devices.mounts ≡ d.mounts

pub erasure_form : (setup : Setup) (d : Devices) (id : DataId) → IsErasure d id (unless_planned setup d (erase d id))
unfolding unless_planned erase
erasure_form setup d id = by (is_planned (d.calls + 1) setup.faults)
  where
    by : (p : Bool) → IsErasure d id (cond p (after_call d (Refused (BackFault (d.calls + 1)))) (erase d id))
    by true = record { stored = λ h. absurd (true≢false (sym h)); either = inl refl; mounts = refl }
    by false = record { stored = λ h. refl; either = inr refl; mounts = refl }

pub erasure_is : (setup : Setup) (d : Devices) (id : DataId) (a : DeviceAnswer) → device_answer setup d (Erase id) ≡ Some a → IsErasure d id a
unfolding device_answer
erasure_is setup d id a e = subst (IsErasure d id) (one _ a e) (erasure_form setup d id)

-- how many claims lose their data

abbrev pub lost_by : List ℕ → Object → ℕ
lost_by name (Claim c) = if is_data_name name c.meta.uid then 1 else 0
lost_by name o = 0

none_more : (name : List ℕ) (rows : List Object) → ((c : ClaimData) → IsIn (Claim c) rows → is_data_name name c.meta.uid ≡ true → ⊥) → total (lost_by name) rows ≡ 0
none_more name [] none = refl
none_more name (Class x ∷ os) none = let h = none_more name os (λ c i. none c (inr i)) in omega (arith, h)
none_more name (Node x ∷ os) none = let h = none_more name os (λ c i. none c (inr i)) in omega (arith, h)
none_more name (Volume x ∷ os) none = let h = none_more name os (λ c i. none c (inr i)) in omega (arith, h)
none_more name (Pod x ∷ os) none = let h = none_more name os (λ c i. none c (inr i)) in omega (arith, h)
none_more name (Claim c ∷ os) none = by (is_data_name name c.meta.uid) (none c (inl refl)) (none_more name os (λ e i. none e (inr i)))
  where
    by : (b : Bool) → (b ≡ true → ⊥) → total (lost_by name) os ≡ 0 → cond b 1 0 + total (lost_by name) os ≡ 0
    by true f h = absurd (f refl)
    by false f h = omega (arith, h)

pub one_more : (name : List ℕ) (rows : List Object) → AreRows rows
    → ((c e : ClaimData) → IsIn (Claim c) rows → IsIn (Claim e) rows → is_data_name name c.meta.uid ≡ true → is_data_name name e.meta.uid ≡ true → key_of (Claim c) ≡ key_of (Claim e))
    → total (lost_by name) rows ≤ 1
one_more name [] order owner = omega arith
one_more name (Class x ∷ os) order owner = let h = one_more name os order.1 (λ c e i j. owner c e (inr i) (inr j)) in omega (arith, h)
one_more name (Node x ∷ os) order owner = let h = one_more name os order.1 (λ c e i j. owner c e (inr i) (inr j)) in omega (arith, h)
one_more name (Volume x ∷ os) order owner = let h = one_more name os order.1 (λ c e i j. owner c e (inr i) (inr j)) in omega (arith, h)
one_more name (Pod x ∷ os) order owner = let h = one_more name os order.1 (λ c e i j. owner c e (inr i) (inr j)) in omega (arith, h)
one_more name (Claim c ∷ os) order owner = by (is_data_name name c.meta.uid) refl (one_more name os order.1 (λ d e i j. owner d e (inr i) (inr j)))
  where
    by : (b : Bool) → is_data_name name c.meta.uid ≡ b → total (lost_by name) os ≤ 1 → cond b 1 0 + total (lost_by name) os ≤ 1
    by true is h = let z = none_more name os (λ e i own. others_behind (Claim c) os order.0 (Claim e) i (owner e c (inr i) (inl refl) own is)) in omega (arith, z)
    by false is h = omega (arith, h)

-- what a claim may lose

pub claim_up : (rows : List Object) (d devices_after : Devices) (c : ClaimData) (k : ℕ)
    → provision_left rows devices_after c c.meta.uid ≤ provision_left rows d c c.meta.uid + k → claim_left rows devices_after c ≤ claim_left rows d c + k
claim_up rows d devices_after c k up =
    by (is_completed c) (is_deleting c.meta) (is_empty c.volume_name) (completed_left c (row_at (volume_key c.volume_name) rows)) (unless (has_class c) 1) (unless (has_offer rows c) 4)
    (unless (is_held_by c (row_at (volume_key c.volume_name) rows)) 4) (guard_left (is_deleting c.meta) (is_protected_claim c))
  where
    by : (a b e : Bool) (m x y n g : ℕ) → cond a m (unless b (2 + cond e (x + (y + provision_left rows devices_after c c.meta.uid)) n)) + g ≤ cond a
        m (unless b (2 + cond e (x + (y + provision_left rows d c c.meta.uid)) n)) + g + k
    by true b e m x y n g = omega arith
    by false true e m x y n g = omega arith
    by false false true m x y n g = omega (arith, up)
    by false false false m x y n g = omega arith

pub provision_up : (rows : List Object) (d devices_after : Devices) (c : ClaimData) (name : List ℕ) (u : Option Uid)
    → ((other : List ℕ) → bytes_eq other name ≡ false → has_data d other ≡ true → has_data devices_after other ≡ true)
    → provision_left rows devices_after c u ≤ provision_left rows d c u + (if is_data_name name u then 1 else 0)
provision_up rows d devices_after c name None kept = omega arith
provision_up rows d devices_after c name (Some uid) kept = by (bytes_eq (data_name uid) name) refl
  where
    small : (b : Bool) → unless b 1 ≤ 1
    small true = omega arith
    small false = omega arith

    by : (b : Bool) → bytes_eq (data_name uid) name ≡ b
        → unless (is_held_by c (row_at (volume_key (data_name uid)) rows)) 8 + unless (has_data devices_after (data_name uid)) 1 ≤ unless
        (is_held_by c (row_at (volume_key (data_name uid)) rows)) 8 + unless (has_data d (data_name uid)) 1 + cond b 1 0
    by true e = let h = small (has_data devices_after (data_name uid)) in omega (arith, h)
    by false e = let h = unless_less (has_data d (data_name uid)) (has_data devices_after (data_name uid)) 1 (kept (data_name uid) e) in omega (arith, h)

pub pods_same : (d devices_after : Devices) → devices_after.mounts ≡ d.mounts → (p : PodData) → pod_left devices_after p ≡ pod_left d p
pods_same d devices_after same p = by p.meta.uid
  where
    by : (u : Option Uid) → (if is_scheduled p then mount_left (is_deleting p.meta) (is_pod_uid_mounted devices_after p.node u) else 4) ≡ (if
        is_scheduled p then mount_left (is_deleting p.meta) (is_pod_uid_mounted d p.node u) else 4)
    by None = refl
    by (Some uid) = ap (λ m. if is_scheduled p then mount_left (is_deleting p.meta) (is_mounted_on p.node uid m) else 4) same

-- the erased volume falls by 2
volume_falls : (rows : List Object) (d devices_after : Devices) (v : VolumeData) → is_deleting v.meta ≡ false
    → was_erased (data_id_of v.source) d.stored ≡ false → was_erased (data_id_of v.source) devices_after.stored ≡ true
    → volume_left rows devices_after v + 2 ≤ volume_left rows d v
volume_falls rows d devices_after v staying before now = rw (staying, before, now) (omega arith)

pub erase_pays : ErasePays
erase_pays setup w v name a removed order there staying has fresh only e reply = omega (arith, sums, most, mine, split)
  where
    x : IsErasure w.devices (data_id_of v.source) a
    x = erasure_is setup w.devices (data_id_of v.source) a e

    stored : a.devices.stored ≡ data_after_erase (data_id_of v.source) w.devices.stored
    stored = (erasure_is setup w.devices (data_id_of v.source) a e).stored (ap is_erased reply)

    kept : (other : List ℕ) → bytes_eq other name ≡ false → has_data w.devices other ≡ true → has_data a.devices other ≡ true
    kept other differs h = ap (λ xs. list_any (λ y. y.there && bytes_eq y.name other) xs) stored ∙ data_kept (data_id_of v.source) name other w.devices.stored only.named differs h

    now : was_erased (data_id_of v.source) a.devices.stored ≡ true
    now = ap (was_erased (data_id_of v.source)) stored ∙ erased_now (data_id_of v.source) w.devices.stored has

    stay : (u : VolumeData) → was_erased (data_id_of u.source) w.devices.stored ≡ true → was_erased (data_id_of u.source) a.devices.stored ≡ true
    stay u h = ap (was_erased (data_id_of u.source)) stored ∙ erased_kept (data_id_of v.source) (data_id_of u.source) w.devices.stored h

    volume_pays : (u : VolumeData) → IsIn (Volume u) w.store.rows → volume_left w.store.rows a.devices u + paid_at (key_of (Volume v)) 2 (Volume u) ≤ volume_left w.store.rows w.devices u
    volume_pays u i = by (same_key (key_of (Volume u)) (key_of (Volume v))) refl
      where
        by : (b : Bool) → same_key (key_of (Volume u)) (key_of (Volume v)) ≡ b → volume_left w.store.rows a.devices u + cond b 2 0 ≤ volume_left w.store.rows w.devices u
        by true k =
            let is : u ≡ v = volume_of u v (one (Volume u) (Volume v)
            (sym (stands w.store.rows order (Volume u) i) ∙ ap (λ j. row_at j w.store.rows) ((same_key-Decides (key_of (Volume u)) (key_of (Volume v))).0 k) ∙ there)) in
            subst (λ z. volume_left w.store.rows a.devices z + 2 ≤ volume_left w.store.rows w.devices z) (sym is) (volume_falls w.store.rows w.devices a.devices v staying fresh now)
        by false k = let h = volume_less w.store.rows w.store.rows w.devices a.devices u (λ namespace n h. h) (stay u) in omega (arith, h)

    each : (o : Object) → IsIn o w.store.rows → Pays (λ o. object_left w.store.rows w.devices o + lost_by name o) (object_left w.store.rows a.devices) (paid_at (key_of (Volume v)) 2) o
    each (Class y) i = omega arith
    each (Node y) i = omega arith
    each (Volume u) i = let h = volume_pays u i in omega (arith, h)
    each (Pod p) i = let h = pods_same w.devices a.devices x.mounts p in omega (arith, h)
    each (Claim c) i = let h = claim_up w.store.rows w.devices a.devices c (if is_data_name name c.meta.uid then 1 else 0) (provision_up w.store.rows
        w.devices a.devices c name c.meta.uid kept) in omega (arith, h)

    sums : total (object_left w.store.rows a.devices) w.store.rows + total (paid_at (key_of (Volume v)) 2) w.store.rows ≤ total
        (λ o. object_left w.store.rows w.devices o + lost_by name o) w.store.rows
    sums = falls (λ o. object_left w.store.rows w.devices o + lost_by name o) (object_left w.store.rows a.devices) (paid_at (key_of (Volume v)) 2) w.store.rows each

    most : total (lost_by name) w.store.rows ≤ 1
    most = one_more name w.store.rows order (λ c e i j own own_too. only.owner c e (stands w.store.rows order (Claim c) i) (stands w.store.rows order (Claim e) j) own own_too)

    mine : 2 ≤ total (paid_at (key_of (Volume v)) 2) w.store.rows
    mine = one_pays (key_of (Volume v)) 2 (Volume v) w.store.rows there

    split : total (λ o. object_left w.store.rows w.devices o + lost_by name o) w.store.rows ≡ left_of w + total (lost_by name) w.store.rows
    split = total_sum (object_left w.store.rows w.devices) (lost_by name) w.store.rows

-- nothing was there

pub erase_none : (id : DataId) (xs : List Data) → has_id id xs ≡ false → data_after_erase id xs ≡ xs
erase_none id [] e = refl
erase_none id (x ∷ xs) e = let p = or_parts (x.there && same_id x.id id) (has_id id xs) e in by (same_id x.id id) p.0 (erase_none id xs p.1)
  where
    by : (b : Bool) → (x.there && b) ≡ false → data_after_erase id xs ≡ xs → (if b then record x { there = false } else x) ∷ data_after_erase id xs ≡ x ∷ xs
    by false h rest = ap (λ ys. x ∷ ys) rest
    by true h rest = let gone = is_gone x.there h in (λ i. (record x { there = sym gone i }) ∷ rest i)
      where
        is_gone : (t : Bool) → (t && true) ≡ false → t ≡ false
        is_gone true h = h
        is_gone false h = h

any_stored : (setup : Setup) (d : Devices) (id : DataId) → has_id id d.stored ≡ false → (unless_planned setup d (erase d id)).devices.stored ≡ d.stored
unfolding unless_planned erase
any_stored setup d id none = by (is_planned (d.calls + 1) setup.faults)
  where
    by : (p : Bool) → (cond p (after_call d (Refused (BackFault (d.calls + 1)))) (erase d id)).devices.stored ≡ d.stored
    by true = refl
    by false = erase_none id d.stored none

erase_answer : (setup : Setup) (d : Devices) (id : DataId) (a : DeviceAnswer) → device_answer setup d (Erase id) ≡ Some a → unless_planned setup d (erase d id) ≡ a
unfolding device_answer
erase_answer setup d id a e = one _ a e

pub erase_stays : EraseStays
erase_stays setup w id a order none e =
    let is = erase_answer setup w.devices id a e in
    let stored : a.devices.stored ≡ w.devices.stored = ap (λ (x : DeviceAnswer). x.devices.stored) (sym is) ∙ any_stored setup w.devices id none in
    devices_total w.store.rows w.store.rows w.devices a.devices (all_provision w.store.rows w.devices a.devices [] (erasure_is setup w.devices id a e).mounts (inl stored)) refl
