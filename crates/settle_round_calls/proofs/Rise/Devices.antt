-- A call of the devices: a Provision adds nothing to do, and an Erase may take the data of one claim.
use Rattle.std.proofs.Common.{◌≡◌, ◌∙◌, ◌⊎◌, ℕ, ◌+◌, ◌≤◌, ◌<◌, ◌^◌, List, [], Bool, true, false, Some, inl, inr, refl, ap, arith, if◌then◌else◌}
use Rattle.std.specs.Prelude.{bytes_eq, ◌&&◌}
use Rattle.std.specs.List.{list_any}
use Rattle.kube_objects.specs.declared.objects.DataId.{DataId}
use Rattle.kube_objects.specs.declared.objects.Object.{Object}
use Rattle.kube_objects.specs.declared.objects.Object.TheVariants.{Class, Node, Volume, Claim, Pod}
use Rattle.kube_objects.specs.Keys.{AreRows}
use Rattle.kube_objects.specs.Sources.{data_id_of}
use Rattle.call_types.specs.declared.request.Request.TheVariants.{Erase}
use Rattle.call_types.specs.declared.setup.Setup.{Setup}
use Rattle.binder_model.specs.Devices.{DeviceAnswer, data_after_erase, device_answer, has_data, has_id}
use Rattle.binder_model.specs.World.{World}
use Rattle.model_laws.proofs.Lists.{IsIn}
use Rattle.settle_measure.specs.Left.Lowers.{with_devices}
use Rattle.settle_measure.specs.Left.Measure.{left_of, object_left, total, was_erased}
use Rattle.settle_measure.proofs.Left.Others.{volume_less}
use Rattle.settle_measure.proofs.Left.Sums.{Pays, falls, none_paid, none_pays, stands, total_sum}
use Rattle.settle_measure.specs.Upkeep.Pays.{is_data_name}
use Rattle.settle_measure.proofs.Upkeep.Erasing.{IsErasure, claim_up, data_kept, erase_stays, erased_kept, erasure_is, lost_by, one_more, pods_same, provision_up}
use Rattle.settle_measure.proofs.Upkeep.Provisions.{all_provision}
use Rattle.settle_measure.proofs.Left.Aside.{devices_total}
use Rattle.settle_pays.proofs.Actors.Erasing.{HaveOwnNames, owner}
use Rattle.settle_pays.proofs.Actors.Ids.{AreFew, IsAlone, alone}

module _ (setup : Setup) (w : World) (id : DataId) (a : DeviceAnswer) (order : AreRows w.store.rows) (names : HaveOwnNames w.store.rows) where
  -- data of one name went
  module _ (x : IsErasure w.devices id a) (erased : a.devices.stored ≡ data_after_erase id w.devices.stored) (only : IsAlone w.devices.stored id) where
    kept : (other : List ℕ) → bytes_eq other only.given.name ≡ false → has_data w.devices other ≡ true → has_data a.devices other ≡ true
    kept other differs h = ap (λ xs. list_any (λ y. y.there && bytes_eq y.name other) xs) erased ∙ data_kept id only.given.name other w.devices.stored only.named differs h

    each : (o : Object) → IsIn o w.store.rows → Pays (λ y. object_left w.store.rows w.devices y + lost_by only.given.name y) (object_left w.store.rows a.devices) none_paid o
    each (Class y) i = omega arith
    each (Node y) i = omega arith
    each (Volume u) i = let h = volume_less w.store.rows w.store.rows w.devices a.devices u (λ namespace n is. is) (λ is. ap
        (was_erased (data_id_of u.source)) erased ∙ erased_kept id (data_id_of u.source) w.devices.stored is) in omega (arith, h)
    each (Pod p) i = let h = pods_same w.devices a.devices x.mounts p in omega (arith, h)
    each (Claim c) i =
        let h = claim_up w.store.rows w.devices a.devices c (if is_data_name only.given.name c.meta.uid then 1 else 0)
        (provision_up w.store.rows w.devices a.devices c only.given.name c.meta.uid kept) in
        omega (arith, h)

    one_loses : left_of (with_devices w a) ≤ left_of w + 1
    one_loses =
        let sums = falls (λ y. object_left w.store.rows w.devices y + lost_by only.given.name y) (object_left w.store.rows a.devices) none_paid w.store.rows each in
        let none = none_pays w.store.rows in
        let split = total_sum (object_left w.store.rows w.devices) (lost_by only.given.name) w.store.rows in
        let most = one_more only.given.name w.store.rows order
        (λ c e i j own own_too. owner w.store.rows names only.given.name c e (stands w.store.rows order (Claim c) i) (stands w.store.rows order (Claim e) j) own own_too) in
        omega (arith, sums, none, split, most)

  pub erase_costs : (most : ℕ) → most < 2 ^ 60 → AreFew most w.devices.stored → device_answer setup w.devices (Erase id) ≡ Some a → left_of (with_devices w a) ≤ left_of w + 1
  erase_costs most short few e = by (has_id id w.devices.stored) refl (erasure_is setup w.devices id a e).either
    where
      by : (b : Bool) → has_id id w.devices.stored ≡ b → (a.devices.stored ≡ w.devices.stored) ⊎ (a.devices.stored ≡ data_after_erase id w.devices.stored) → left_of (with_devices w a) ≤ left_of w + 1
      by false lacks x = let h = erase_stays setup w id a order lacks e in omega (arith, h)
      by true has (inl same) =
          let h : total (object_left w.store.rows a.devices) w.store.rows ≤ left_of w =
          devices_total w.store.rows w.store.rows w.devices a.devices (all_provision w.store.rows w.devices a.devices [] (erasure_is setup w.devices id a e).mounts (inl same)) refl in
          omega (arith, h)
      by true has (inr erased) = one_loses (erasure_is setup w.devices id a e) erased (alone most w.devices.stored few short id has)
