-- A provisioned volume and its data.
use Rattle.std.proofs.Common.{◌≡◌, ◌∙◌, ◌⊎◌, ℕ, ◌+◌, ◌≤◌, List, [], ◌∷◌, Bool, true, false, true≢false, Option, Some, None, inl, inr, refl, sym, ap, subst, arith, if◌then◌else◌}
use Rattle.std.specs.Prelude.{bytes_eq, cond, not, ◌&&◌, ◌||◌}
use Rattle.std.specs.List.{list_any}
use Rattle.std.proofs.lemmas.Bool.{and_from, or_left, or_right}
use Rattle.std.proofs.lemmas.Slice.Eq.{bytes_eq-Decides}
use Rattle.plain_data.specs.Pairs.{Pair}
use Rattle.kube_parts.specs.declared.uid.Uid.{Uid}
use Rattle.kube_parts.specs.declared.parts.VolumePhase.TheVariants as volumes
use Rattle.kube_objects.specs.declared.objects.DataId.{DataId}
use Rattle.kube_objects.specs.declared.objects.Class.{Class as ClassData}
use Rattle.kube_objects.specs.declared.objects.Claim.{Claim as ClaimData}
use Rattle.kube_objects.specs.declared.objects.Volume.{Volume as VolumeData}
use Rattle.kube_objects.specs.declared.objects.Object.{Object}
use Rattle.kube_objects.specs.declared.objects.Object.TheVariants.{Volume, Claim}
use Rattle.kube_objects.specs.Bindings.{carries, is_deleting, is_scheduled}
use Rattle.kube_objects.specs.Keys.{key_of, put_row, row_at}
use Rattle.kube_objects.proofs.KeyOrder.{row_at-put_row}
use Rattle.kube_objects.specs.Sources.{data_id_of}
use Rattle.kube_objects.specs.Bindings.{pv_protection}
use Rattle.kube_parts.specs.Uids.{uid_of_serial}
use Rattle.call_types.specs.declared.request.Request.TheVariants.{Create, Provision}
use Rattle.call_types.specs.declared.request.SeatKind.{SeatKind}
use Rattle.call_types.specs.declared.reply.Reply.{Reply}
use Rattle.call_types.specs.declared.reply.Reply.TheVariants.{Provisioned, Refused}
use Rattle.call_types.specs.declared.reply.Refusal.TheVariants.{BackFault}
use Rattle.binder_model.specs.Due.{is_pod_uid_mounted}
use Rattle.kube_objects.specs.declared.objects.Pod.{Pod as PodData}
use Rattle.call_types.specs.declared.setup.Setup.{Setup}
use Rattle.binder_model.specs.Devices.{
  Data,
  DeviceAnswer,
  Devices,
  after_call,
  data_named,
  device_answer,
  first_fit,
  fresh_id,
  has_data,
  is_mounted_on,
  is_planned,
  provision,
  provision_new,
  same_id,
  topology_at,
  unless_planned,
}
use Rattle.binder_model.specs.ObjectKeys.{claim_key, volume_key}
use Rattle.binder_model.specs.Provisioning.{data_name, provisioned_volume}
use Rattle.binder_model.specs.Store.{leaves, admitted_object, class_name, created_object, default_class, with_finalizer, with_meta, without_status}
use Rattle.binder_model.specs.World.{World, effect, world_after}
use Rattle.model_laws.proofs.Lists.{IsIn, none_some, one}
use Rattle.safety_law.specs.Invariant.Writes.{IsCreate, IsLeaving}
use Rattle.settle_measure.specs.Left.Measure.{
  claim_left,
  completed_left,
  has_offer,
  holds,
  is_held_by,
  is_lost,
  is_seeking,
  left_of,
  left_on,
  mount_left,
  pod_left,
  object_left,
  provision_left,
  unless,
  volume_left,
  was_erased,
}
use Rattle.settle_measure.specs.Left.Lowers.{StandsClaim}
use Rattle.settle_measure.specs.Upkeep.Pays.{CreatePays, ProvisionPays, ProvisionStays}
use Rattle.settle_measure.proofs.Left.Aside.{AllStay, Useless, as_good, claim_paying, devices_total, new_total, put_agrees}
use Rattle.settle_measure.proofs.Binding.Binding.{seeking_parts}
use Rattle.settle_measure.proofs.Left.Entries.{Put, Took, came}
use Rattle.settle_measure.proofs.Left.Others.{AsGood, DataStay, ErasedStay, away_most, unless_less, volume_puts_no_claim}
use Rattle.settle_measure.proofs.Binding.References.{refers_to}
use Rattle.settle_measure.proofs.Left.Sums.{falls, one_pays, paid_at, stands}
use Rattle.settle_measure.proofs.Binding.Stages.{claim_of}

-- the volume as it is created
unfoldable created : ClaimData → Uid → ClassData → DataId → Option (List ℕ × List ℕ) → ℕ → List ℕ → VolumeData
created c uid class id topology version moment =
    let v = provisioned_volume c uid class id topology in
    record v {
      phase = volumes.Pending;
      meta =
          record v.meta { finalizers = with_finalizer pv_protection v.meta.finalizers; uid = Some (uid_of_serial version); version = version; created = moment; deleted = None };
    }

module _ (setup : Setup) (w : World) (kind : SeatKind) (c : ClaimData) (class : ClassData) (id : DataId) (topology : Option (List ℕ × List ℕ))
    (s : StandsClaim w c) (seeking : is_seeking c ≡ true) where
  new : VolumeData
  new = created c s.uid class id topology (w.store.version + 1) w.moment

  new_key : key_of (Volume new) ≡ volume_key (data_name s.uid)
  unfolding new created provisioned_volume
  new_key = refl

  new_carries : carries new c ≡ true
  unfolding new created provisioned_volume
  new_carries = refers_to c s.uid s.has

  new_holds : holds new c ≡ true
  unfolding new created provisioned_volume
  new_holds = let e = refers_to c s.uid s.has in rw e refl

  new_weight : volume_left (put_row (Volume new) w.store.rows) w.devices new ≤ 7
  unfolding new created provisioned_volume
  new_weight =
      let u = s.has in
      let l = at_most_two (was_erased (data_id_of (provisioned_volume c s.uid class id topology).source) w.devices.stored) in
      rw u (omega (arith, l))
    where
      at_most_two : (b : Bool) → unless b 2 ≤ 2
      at_most_two true = omega arith
      at_most_two false = omega arith

  new_stays : leaves (Volume new) ≡ false
  unfolding leaves new created provisioned_volume
  new_stays = refl

  useless : row_at (key_of (Volume new)) w.store.rows ≡ None → (e : ClaimData) → Useless w.store.rows (put_row (Volume new) w.store.rows) (key_of (Volume new)) e
  useless free e = record {
    held = λ open_ staying. ap (is_held_by e) free;
    offered = λ open_ staying o at. none_some (sym free ∙ at);
    done = λ completed named.
        let was : completed_left e (row_at (key_of (Volume new)) w.store.rows) ≡ 5 + unless (is_lost e.phase) 1 = ap (completed_left e) free in
        let now : completed_left e (row_at (key_of (Volume new)) (put_row (Volume new) w.store.rows)) ≡ completed_left e (Some (Volume new)) =
        ap (completed_left e) (row_at-put_row (Volume new) w.store.rows) in
        let less = away_most e new in
        omega (arith, was, now, less);
  }

  all : row_at (key_of (Volume new)) w.store.rows ≡ None → AllStay w.store.rows (put_row (Volume new) w.store.rows) w.devices w.devices
  all free = record {
    seeks = volume_puts_no_claim new w.store.rows;
    datum = λ name e. e;
    erased = λ v e. e;
    pods = λ p i. omega arith;
    claims = λ e i. as_good w.store.rows (put_row (Volume new) w.store.rows) (key_of (Volume new)) s.order (put_agrees (Volume new) w.store.rows) e (useless free e);
  }

  pays : row_at (key_of (Volume new)) w.store.rows ≡ None → claim_left (put_row (Volume new) w.store.rows) w.devices c + 8 ≤ claim_left w.store.rows w.devices c
  pays free =
      let k = seeking_parts c seeking in
      let open_ = k.open_ in let staying = k.staying in let empty = k.empty in
      let good = as_good w.store.rows (put_row (Volume new) w.store.rows) (key_of (Volume new)) s.order (put_agrees (Volume new) w.store.rows) c (useless free c) in
      let offer = unless_less (has_offer w.store.rows c) (has_offer (put_row (Volume new) w.store.rows) c) 4 (good.holder open_ staying empty) in
      let was : is_held_by c (row_at (volume_key (data_name s.uid)) w.store.rows) ≡ false = ap (λ j. is_held_by c (row_at j w.store.rows)) (sym new_key) ∙ ap (is_held_by c) free in
      let now : is_held_by c (row_at (volume_key (data_name s.uid)) (put_row (Volume new) w.store.rows)) ≡ true =
      ap (λ j. is_held_by c (row_at j (put_row (Volume new) w.store.rows))) (sym new_key) ∙ ap (is_held_by c) (row_at-put_row (Volume new) w.store.rows) ∙ new_holds in
      let has : c.meta.uid ≡ Some s.uid = s.has in
      let p : provision_left w.store.rows w.devices c c.meta.uid ≡ 8 + unless (has_data w.devices (data_name s.uid)) 1 = ap (provision_left w.store.rows w.devices c) has ∙ rw was refl in
      let q : provision_left (put_row (Volume new) w.store.rows) w.devices c c.meta.uid ≡ 0 + unless (has_data w.devices (data_name s.uid)) 1 =
      ap (provision_left (put_row (Volume new) w.store.rows) w.devices c) has ∙ rw now refl in
      rw (open_, staying, empty) (omega (arith, offer, p, q))

  paid_by : row_at (key_of (Volume new)) w.store.rows ≡ None → (e : ClaimData) → IsIn (Claim e) w.store.rows
      → key_of (Claim e) ≡ claim_key c.meta.namespace c.meta.name → claim_left (put_row (Volume new) w.store.rows) w.devices e + 8 ≤ claim_left w.store.rows w.devices e
  paid_by free e i k =
      let is : Claim e ≡ Claim c = one (Claim e) (Claim c) (sym (stands w.store.rows s.order (Claim e) i) ∙ ap (λ j. row_at j w.store.rows) k ∙ s.there) in
      subst (λ d. claim_left (put_row (Volume new) w.store.rows) w.devices d + 8 ≤ claim_left w.store.rows w.devices d) (sym (claim_of e c is)) (pays free)

  created_lowers : row_at (key_of (Volume new)) w.store.rows ≡ None → left_on (put_row (Volume new) w.store.rows) w.devices + 1 ≤ left_of w
  created_lowers free =
      let h = new_total w.store.rows w.devices (Volume new) c.meta.namespace c.meta.name 8 (Claim c) free s.there (all free) (paid_by free) in
      let g = new_weight in
      omega (arith, h, g)

  made_is : (default : Option (List ℕ)) → created_object default (Volume (provisioned_volume c s.uid class id topology)) (w.store.version + 1) w.moment ≡ Volume new
  unfolding new created provisioned_volume created_object admitted_object without_status with_meta
  made_is default = refl

pub create_pays : CreatePays
unfolding provisioned_volume
create_pays setup w kind c class id topology s seeking o e =
    let m = came setup w kind (Create (Volume (provisioned_volume c s.uid class id topology))) o s.order e in
    by m.write m.store
  where
    is_new : IsCreate w.store kind w.moment (Volume (provisioned_volume c s.uid class id topology)) o → o ≡ Volume (new setup w kind c class id topology s seeking)
    is_new i = i.is ∙ made_is setup w kind c class id topology s seeking (class_name (default_class w.store.rows))

    by : IsCreate w.store kind w.moment (Volume (provisioned_volume c s.uid class id topology)) o
        → Put w (effect setup w kind (Create (Volume (provisioned_volume c s.uid class id topology)))) o
        ⊎ Took w (effect setup w kind (Create (Volume (provisioned_volume c s.uid class id topology)))) (Create (Volume (provisioned_volume c s.uid class id topology))) o
        → left_of (world_after w (effect setup w kind (Create (Volume (provisioned_volume c s.uid class id topology))))) + 1 ≤ left_of w
    by i (inl put) =
        let free : row_at (key_of (Volume (new setup w kind c class id topology s seeking))) w.store.rows ≡ None =
        ap (λ k. row_at k w.store.rows) (new_key setup w kind c class id topology s seeking) ∙ i.free in
        let p = subst (Put w (effect setup w kind (Create (Volume (provisioned_volume c s.uid class id topology))))) (is_new i) put in
        let is : left_of (world_after w (effect setup w kind (Create (Volume (provisioned_volume c s.uid class id topology))))) ≡ left_on
        (put_row (Volume (new setup w kind c class id topology s seeking)) w.store.rows) w.devices =
        ap (λ rows. left_on rows (world_after w (effect setup w kind (Create (Volume (provisioned_volume c s.uid class id topology))))).devices) p.rows
        ∙ ap (left_on (put_row (Volume (new setup w kind c class id topology s seeking)) w.store.rows)) p.devices in
        let h = created_lowers setup w kind c class id topology s seeking free in
        omega (arith, is, h)
    by i (inr took) = absurd (true≢false
        (sym (subst (IsLeaving (Create (Volume (provisioned_volume c s.uid class id topology)))) (is_new i) took.leaves) ∙ new_stays setup w kind c class id topology s seeking))

-- what a Provision does to the devices

pub record IsNewData (d devices_after : Devices) (name : List ℕ) : Type 0 where
  datum : Data
  stored : devices_after.stored ≡ datum ∷ d.stored
  there : datum.there ≡ true
  named : datum.name ≡ name

abbrev is_provisioned : Reply → Bool
is_provisioned (Provisioned id topology) = true
is_provisioned reply = false

record IsProvision (d : Devices) (name : List ℕ) (a : DeviceAnswer) : Type 0 where
  mounts : a.devices.mounts ≡ d.mounts
  calls : a.devices.calls ≡ d.calls + 1
  stored : (a.devices.stored ≡ d.stored) ⊎ IsNewData d a.devices name
  fresh : is_provisioned a.reply ≡ true → data_named name d.stored ≡ None → IsNewData d a.devices name

provision_form : (setup : Setup) (d : Devices) (name provisioner : List ℕ) (bytes : ℕ) (labels : Option (List Pair))
    → IsProvision d name (unless_planned setup d (provision setup.pools d name provisioner bytes labels (data_named name d.stored)))
unfolding unless_planned provision provision_new
provision_form setup d name provisioner bytes labels = by (is_planned (d.calls + 1) setup.faults) (data_named name d.stored) (first_fit provisioner bytes labels d.stored 0 setup.pools) refl
  where
    by : (p : Bool) (x : Option Data) (f : Option ℕ) → data_named name d.stored ≡ x
        → IsProvision d name (cond p (after_call d (Refused (BackFault (d.calls + 1))))
        (elim x as (λ y. DeviceAnswer) [ None ↦ provision_new setup.pools d name provisioner bytes labels f | Some y ↦ after_call d (Provisioned y.id (topology_at y.pool setup.pools)) ]))
    by true x f e = record { mounts = refl; calls = refl; stored = inl refl; fresh = λ h. absurd (true≢false (sym h)) }
    by false (Some x) f e = record { mounts = refl; calls = refl; stored = inl refl; fresh = λ h none. none_some (sym none ∙ e) }
    by false None None e = record { mounts = refl; calls = refl; stored = inl refl; fresh = λ h. absurd (true≢false (sym h)) }
    by false None (Some place) e = record {
      mounts = refl;
      calls = refl;
      stored = inr
          (record {
            datum = record { id = fresh_id provisioner d.stored; name = name; pool = place; bytes = bytes; there = true };
            stored =
                refl;
            there = refl;
            named = refl;
          });
      fresh =
          λ h none. record { datum = record { id = fresh_id provisioner d.stored; name = name; pool = place; bytes = bytes; there = true }; stored = refl; there = refl; named = refl };
    }

provision_is : (setup : Setup) (d : Devices) (name provisioner : List ℕ) (bytes : ℕ) (labels : Option (List Pair)) (a : DeviceAnswer)
    → device_answer setup d (Provision name provisioner bytes labels) ≡ Some a → IsProvision d name a
unfolding device_answer
provision_is setup d name provisioner bytes labels a e = subst (IsProvision d name) (one _ a e) (provision_form setup d name provisioner bytes labels)

data_stay : (d devices_after : Devices) (name : List ℕ) → (devices_after.stored ≡ d.stored) ⊎ IsNewData d devices_after name → DataStay d devices_after
data_stay d devices_after name (inl same) n e = ap (λ xs. list_any (λ x. x.there && bytes_eq x.name n) xs) same ∙ e
data_stay d devices_after name (inr new) n e = ap (λ xs. list_any (λ x. x.there && bytes_eq x.name n) xs) new.stored ∙ or_right (new.datum.there && bytes_eq new.datum.name n) _ e

erased_stay : (d devices_after : Devices) (name : List ℕ) → (devices_after.stored ≡ d.stored) ⊎ IsNewData d devices_after name → (v : VolumeData) → ErasedStay d devices_after v
erased_stay d devices_after name (inl same) v e = ap (was_erased (data_id_of v.source)) same ∙ e
erased_stay d devices_after name (inr new) v e = ap (was_erased (data_id_of v.source)) new.stored ∙ or_right (not new.datum.there && same_id new.datum.id (data_id_of v.source)) _ e

pods_stay : (d devices_after : Devices) → devices_after.mounts ≡ d.mounts → (p : PodData) → pod_left devices_after p ≡ pod_left d p
pods_stay d devices_after same p = by p.meta.uid
  where
    by : (u : Option Uid) → (if is_scheduled p then mount_left (is_deleting p.meta) (is_pod_uid_mounted devices_after p.node u) else 4) ≡ (if
        is_scheduled p then mount_left (is_deleting p.meta) (is_pod_uid_mounted d p.node u) else 4)
    by None = refl
    by (Some uid) = ap (λ m. if is_scheduled p then mount_left (is_deleting p.meta) (is_mounted_on p.node uid m) else 4) same

pub same_rows : (rows : List Object) (c : ClaimData) → AsGood rows rows c
same_rows rows c = record { held = λ open_ staying k which e. e; holder = λ open_ staying empty e. e; done = λ completed. omega arith }

pub all_provision : (rows : List Object) (d devices_after : Devices) (name : List ℕ) → devices_after.mounts ≡ d.mounts
    → (devices_after.stored ≡ d.stored) ⊎ IsNewData d devices_after name → AllStay rows rows d devices_after
all_provision rows d devices_after name mounts stored = record {
  seeks = λ namespace n e. e;
  datum = data_stay d devices_after name stored;
  erased = erased_stay d devices_after name stored;
  pods = λ p i. let h = pods_stay d devices_after mounts p in omega (arith, h);
  claims = λ c i. same_rows rows c;
}

pub provision_stays : ProvisionStays
provision_stays setup w name provisioner bytes labels a order e =
    let p = provision_is setup w.devices name provisioner bytes labels a e in
    devices_total w.store.rows w.store.rows w.devices a.devices (all_provision w.store.rows w.devices a.devices name p.mounts p.stored) refl

named_none : (name : List ℕ) (stored : List Data) → list_any (λ x. x.there && bytes_eq x.name name) stored ≡ false → data_named name stored ≡ None
named_none name [] e = refl
named_none name (x ∷ xs) e = by (x.there && bytes_eq x.name name) e (named_none name xs)
  where
    by : (b : Bool) → (b || list_any (λ y. y.there && bytes_eq y.name name) xs) ≡ false
        → (list_any (λ y. y.there && bytes_eq y.name name) xs ≡ false → data_named name xs ≡ None) → cond b (Some x) (data_named name xs) ≡ None
    by true e rest = absurd (true≢false e)
    by false e rest = rest e

now_there : (d devices_after : Devices) (name : List ℕ) → IsNewData d devices_after name → has_data devices_after name ≡ true
now_there d devices_after name new =
    let here = and_from new.datum.there (bytes_eq new.datum.name name) new.there ((bytes_eq-Decides new.datum.name name).1 new.named) in
    ap (λ xs. list_any (λ x. x.there && bytes_eq x.name name) xs) new.stored ∙ or_left (new.datum.there && bytes_eq new.datum.name name) _ here

pub provision_pays : ProvisionPays
provision_pays setup w c provisioner bytes labels a id topology s seeking lacks e reply =
    let p = provision_is setup w.devices (data_name s.uid) provisioner bytes labels a e in
    let new = p.fresh (ap is_provisioned reply) (named_none (data_name s.uid) w.devices.stored lacks) in
    let all = all_provision w.store.rows w.devices a.devices (data_name s.uid) p.mounts p.stored in
    let k = seeking_parts c seeking in
    let open_ = k.open_ in let staying = k.staying in let empty = k.empty in
    let there = now_there w.devices a.devices (data_name s.uid) new in
    let has : c.meta.uid ≡ Some s.uid = s.has in
    let was : provision_left w.store.rows w.devices c c.meta.uid ≡ unless (is_held_by c (row_at (volume_key (data_name s.uid)) w.store.rows)) 8 + 1 =
    ap (provision_left w.store.rows w.devices c) has ∙ rw lacks refl in
    let now : provision_left w.store.rows a.devices c c.meta.uid ≡ unless (is_held_by c (row_at (volume_key (data_name s.uid)) w.store.rows)) 8 + 0 =
    ap (provision_left w.store.rows a.devices c) has ∙ rw there refl in
    let paid : claim_left w.store.rows a.devices c + 1 ≤ claim_left w.store.rows w.devices c = rw (open_, staying, empty) (omega (arith, was, now)) in
    let sums = falls (object_left w.store.rows w.devices) (object_left w.store.rows a.devices) (paid_at (claim_key c.meta.namespace c.meta.name) 1) w.store.rows
    (λ o i. claim_paying w.store.rows w.store.rows w.devices a.devices all c.meta.namespace c.meta.name 1 (λ f j same. mine setup w c a s paid f j same) o i) in
    let one_unit = one_pays (claim_key c.meta.namespace c.meta.name) 1 (Claim c) w.store.rows s.there in
    omega (arith, sums, one_unit)
  where
    mine : (setup : Setup) (w : World) (c : ClaimData) (a : DeviceAnswer) (s : StandsClaim w c) → claim_left w.store.rows a.devices c + 1 ≤ claim_left w.store.rows w.devices c
        → (f : ClaimData) → IsIn (Claim f) w.store.rows → key_of (Claim f) ≡ claim_key c.meta.namespace c.meta.name → claim_left w.store.rows a.devices f + 1 ≤ claim_left w.store.rows w.devices f
    mine setup w c a s paid f j same =
        let is : Claim f ≡ Claim c = one (Claim f) (Claim c) (sym (stands w.store.rows s.order (Claim f) j) ∙ ap (λ k. row_at k w.store.rows) same ∙ s.there) in
        subst (λ g. claim_left w.store.rows a.devices g + 1 ≤ claim_left w.store.rows w.devices g) (sym (claim_of f c is)) paid
