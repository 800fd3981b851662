-- An Erase pays: a planned fault is behind then, and data that are removed were the volume's to pay for.
use Rattle.std.proofs.Common.{◌≡◌, ◌∙◌, ℕ, ◌+◌, ◌≤◌, ◌<◌, ◌^◌, List, Bool, true, false, true≢false, Option, Some, None, inl, inr, refl, sym, arith, if◌then◌else◌}
use Rattle.std.proofs.lemmas.Slice.Eq.{bytes_eq-Decides}
use Rattle.kube_parts.specs.declared.uid.Uid.{Uid}
use Rattle.kube_objects.specs.declared.objects.Claim.{Claim as ClaimData}
use Rattle.kube_objects.specs.declared.objects.DataId.{DataId}
use Rattle.kube_objects.specs.declared.objects.Volume.{Volume as VolumeData}
use Rattle.kube_objects.specs.declared.objects.Object.{Object}
use Rattle.kube_objects.specs.declared.objects.Object.TheVariants.{Claim, Volume}
use Rattle.kube_objects.specs.Bindings.{is_deleting}
use Rattle.kube_objects.specs.Keys.{AreRows, key_of, row_at}
use Rattle.kube_objects.specs.Sources.{data_id_of}
use Rattle.call_types.specs.declared.reply.Refusal.TheVariants as refusals
use Rattle.call_types.specs.declared.reply.Reply.TheVariants as replies
use Rattle.call_types.specs.declared.request.Request.TheVariants as requests
use Rattle.call_types.specs.declared.request.SeatKind.TheVariants as seats
use Rattle.call_types.specs.declared.setup.Setup.{Setup}
use Rattle.binder_model.specs.Devices.{DeviceAnswer, Devices, after_call, device_answer, erase, has_id, is_planned, unless_planned}
use Rattle.binder_model.specs.Provisioning.{data_name}
use Rattle.binder_model.specs.World.{OnDevices, World, effect, on_devices, reply_to, world_after}
use Rattle.settle_measure.specs.Left.Measure.{faults_left, left_of, work_left}
use Rattle.settle_measure.proofs.Left.Faults.{back_fault_pays, calls_stay}
use Rattle.settle_measure.specs.Upkeep.Pays.{IsOneData, is_data_name}
use Rattle.settle_measure.proofs.Upkeep.Erasing.{erase_none, erase_pays}
use Rattle.settle_writes.specs.Writes.Lasting.{LastsBetween}
use Rattle.settle_pays.specs.Pays.Pays.{Pays}
use Rattle.settle_pays.proofs.Pays.Alike.{left_alike}
use Rattle.settle_pays.proofs.Actors.Ids.{AreFew, IsAlone, alone}

-- no two claims have data of one name
abbrev pub HaveOwnNames : List Object → Type 0
HaveOwnNames rows =
    (c e : ClaimData) (u v : Uid) → row_at (key_of (Claim c)) rows ≡ Some (Claim c) → row_at (key_of (Claim e)) rows ≡ Some (Claim e)
    → c.meta.uid ≡ Some u → e.meta.uid ≡ Some v → data_name u ≡ data_name v
    → key_of (Claim c) ≡ key_of (Claim e)

-- a volume that stays, in a store of claims with names of their own, and data with ids of their own
pub record IsErasable (w : World) (v : VolumeData) : Type 0 where
  pub order : AreRows w.store.rows
  pub there : row_at (key_of (Volume v)) w.store.rows ≡ Some (Volume v)
  pub staying : is_deleting v.meta ≡ false
  pub names : HaveOwnNames w.store.rows
  pub most : ℕ
  pub short : most < 2 ^ 60
  pub few : AreFew most w.devices.stored

pub owner : (rows : List Object) → HaveOwnNames rows → (name : List ℕ) (c e : ClaimData) → row_at (key_of (Claim c)) rows ≡ Some (Claim c)
    → row_at (key_of (Claim e)) rows ≡ Some (Claim e) → is_data_name name c.meta.uid ≡ true → is_data_name name e.meta.uid ≡ true
    → key_of (Claim c) ≡ key_of (Claim e)
owner rows names name c e sc se nc ne = by c.meta.uid e.meta.uid refl refl nc ne
  where
    by : (x y : Option Uid) → c.meta.uid ≡ x → e.meta.uid ≡ y → is_data_name name x ≡ true → is_data_name name y ≡ true → key_of (Claim c) ≡ key_of (Claim e)
    by (Some u) (Some v) ex ey nx ny = names c e u v sc se ex ey ((bytes_eq-Decides (data_name u) name).0 nx ∙ sym ((bytes_eq-Decides (data_name v) name).0 ny))
    by None y ex ey nx ny = absurd (true≢false (sym nx))
    by (Some u) None ex ey nx ny = absurd (true≢false (sym ny))

module _ (setup : Setup) (w : World) (v : VolumeData) (s : IsErasable w v) where
  abbrev id : DataId
  id = data_id_of v.source

  abbrev failed : DeviceAnswer
  failed = after_call w.devices (replies.Refused (refusals.BackFault (w.devices.calls + 1)))

  abbrev answered : Bool → DeviceAnswer
  answered planned = if planned then failed else erase w.devices id

  abbrev PaysBy : DeviceAnswer → Type 0
  PaysBy a = LastsBetween w (world_after w (OnDevices a)) (reply_to (OnDevices a)) → work_left setup (world_after w (OnDevices a)) + 1 ≤ work_left setup w

  fault_pays : is_planned (w.devices.calls + 1) setup.faults ≡ true → PaysBy (after_call w.devices (replies.Refused (refusals.BackFault (w.devices.calls + 1))))
  unfolding world_after
  fault_pays planned lasts =
      let d : Devices = record w.devices { calls = w.devices.calls + 1 } in
      let same : left_of w ≡ left_of (record w { devices = d }) = left_alike w (record w { devices = d }) (record { rows = refl; stored = refl; mounts = refl }) in
      let less : faults_left setup d + 1 ≤ faults_left setup w.devices = back_fault_pays setup w.devices d refl planned in
      omega (arith, same, less)

  one_data : (a : IsAlone w.devices.stored (data_id_of v.source)) → IsOneData w (data_id_of v.source) a.given.name
  one_data a = record { named = a.named; owner = owner w.store.rows s.names a.given.name }

  by_data : is_planned (w.devices.calls + 1) setup.faults ≡ false → (has : Bool) → has_id (data_id_of v.source) w.devices.stored ≡ has → PaysBy (erase w.devices (data_id_of v.source))
  unfolding world_after reply_to erase device_answer unless_planned
  by_data unplanned true has lasts =
      let a : DeviceAnswer = erase w.devices (data_id_of v.source) in
      let is : device_answer setup w.devices (requests.Erase (data_id_of v.source)) ≡ Some a = rw unplanned refl in
      let only : IsAlone w.devices.stored (data_id_of v.source) = alone s.most w.devices.stored s.few s.short (data_id_of v.source) has in
      let less = erase_pays setup w v only.given.name a (has_id (data_id_of v.source) w.devices.stored) s.order s.there s.staying has only.fresh (one_data only) is refl in
      let rises : w.devices.calls ≤ w.devices.calls + 1 = omega arith in
      let faults : faults_left setup a.devices ≤ faults_left setup w.devices = calls_stay setup w.devices a.devices rises in
      omega (arith, less, faults)
  by_data unplanned false lacks (inl written) = absurd written
  by_data unplanned false lacks (inr (inl (inl moved))) = absurd (moved (erase_none (data_id_of v.source) w.devices.stored lacks))
  by_data unplanned false lacks (inr (inl (inr moved))) = absurd (moved refl)
  by_data unplanned false lacks (inr (inr fault)) = absurd fault

  by_answer : (planned : Bool) → is_planned (w.devices.calls + 1) setup.faults ≡ planned → PaysBy (answered planned)
  by_answer true e lasts = fault_pays e lasts
  by_answer false e lasts = by_data e (has_id (data_id_of v.source) w.devices.stored) refl lasts

  pub erasing_pays : Pays setup w seats.Ops (requests.Erase (data_id_of v.source))
  unfolding effect on_devices device_answer unless_planned
  erasing_pays lasts = by_answer (is_planned (w.devices.calls + 1) setup.faults) refl lasts
