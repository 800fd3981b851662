-- No call of ops ends a volume: it writes phase Failed over a volume that has ended, and one that it makes has not.
use Rattle.std.proofs.Common.{◌≡◌, ◌∙◌, ℕ, ◌+◌, ◌≤◌, List, true, false, Option, Some, refl, sym, ap, subst, arith, if◌then◌else◌}
use Rattle.kube_objects.specs.declared.key.Key.{Key}
use Rattle.kube_parts.specs.declared.parts.Kind.TheVariants as kinds
use Rattle.kube_parts.specs.declared.parts.VolumePhase.{VolumePhase}
use Rattle.kube_parts.specs.declared.parts.VolumePhase.TheVariants as phases
use Rattle.kube_objects.specs.declared.objects.Claim.{Claim as ClaimData}
use Rattle.kube_objects.specs.declared.objects.Object.{Object}
use Rattle.kube_objects.specs.declared.objects.Object.TheVariants.{Class, Node, Volume, Claim, Pod}
use Rattle.kube_objects.specs.declared.objects.Volume.{Volume as VolumeData}
use Rattle.kube_objects.specs.Bindings.{is_ended}
use Rattle.kube_objects.specs.Keys.{key_of, kind_index, meta_of, row_at}
use Rattle.kube_objects.proofs.KeyOrder.{row_at_key}
use Rattle.call_types.specs.declared.entry.Entry.{Entry}
use Rattle.call_types.specs.declared.request.NewStatus.TheVariants as statuses
use Rattle.call_types.specs.declared.request.Request.{Request}
use Rattle.call_types.specs.declared.request.Request.TheVariants as requests
use Rattle.call_types.specs.declared.request.SeatKind.TheVariants as seats
use Rattle.call_types.specs.declared.setup.Setup.{Setup}
use Rattle.binder_model.specs.Answers.{is_other_version}
use Rattle.binder_model.specs.At.{IsWrittenAt}
use Rattle.binder_model.specs.Licence.{Licensed, PhaseMay, ops_phase}
use Rattle.binder_model.specs.Store.{admitted_object, created_object, marked_object, updated_object, with_meta, without_status}
use Rattle.binder_model.specs.Told.{IsVolumeWith, ToldObject, own}
use Rattle.binder_model.specs.World.{IsHistory, world}
use Rattle.model_laws.proofs.Identity.{key-marked, key-updated}
use Rattle.model_laws.proofs.Truths.{told_is_true}
use Rattle.safety_law.specs.Invariant.Writes.{IsStatus, Writes}
use Rattle.safety_law.proofs.Invariant.Whence.{status_next}
use Rattle.settle_writes.proofs.Done.Doing.{stands_it, told_one}
use Rattle.settle_round_calls.specs.Slots.Costs.{own_calls}
use Rattle.settle_calls.proofs.Events.Rows.{weigh_if}
use Rattle.settle_round_calls.proofs.Slots.RoundCosts.{now_cost, of_claim, volume_less}

-- no object costs ops more than a volume that has ended
ops_three : (o : Object) → own_calls seats.Ops o ≤ 3
ops_three (Class x) = omega arith
ops_three (Node x) = omega arith
ops_three (Volume v) = volume_less seats.Ops v
ops_three (Claim c) = omega arith
ops_three (Pod p) = omega arith

created_none : (default : Option (List ℕ)) (v : VolumeData) (n : ℕ) (moment : List ℕ) → own_calls seats.Ops (created_object default (Volume v) n moment) ≡ 0
unfolding created_object admitted_object without_status with_meta
created_none default v n moment = refl

marked_same : (old : Object) (n : ℕ) (moment : List ℕ) → own_calls seats.Ops (marked_object old n moment) ≡ own_calls seats.Ops old
unfolding marked_object with_meta
marked_same (Class x) n moment = refl
marked_same (Node x) n moment = refl
marked_same (Volume x) n moment = refl
marked_same (Claim x) n moment = refl
marked_same (Pod x) n moment = refl

module _ (setup : Setup) (seat : ℕ) (h : List Entry) (history : IsHistory setup h) (o : Object) where
  abbrev rows : List Object
  rows = (world setup h).store.rows

  -- phase Failed
  fails : (key : Key) (phase : VolumePhase) (given : Option ℕ)
      → ToldObject (IsVolumeWith (λ v. IsWrittenAt given key.namespace key.name v.meta × PhaseMay (ops_phase phase) (own seat h) v)) (own seat h) → key.kind ≡ kinds.PersistentVolume
      → IsStatus (world setup h).store seats.Ops key (statuses.Volume phase) given o → own_calls seats.Ops o ≤ now_cost seats.Ops rows (key_of o)
  fails key phase given told of_volumes i = by t.0 t.1 t.2
    where
      t : (x : Object) × ToldObject (λ y. y ≡ x) (own seat h) × IsVolumeWith (λ v. IsWrittenAt given key.namespace key.name v.meta × PhaseMay (ops_phase phase) (own seat h) v) x
      t = told_one (IsVolumeWith (λ v. IsWrittenAt given key.namespace key.name v.meta × PhaseMay (ops_phase phase) (own seat h) v)) (own seat h) told

      over : (f : VolumePhase) (v : VolumeData) → PhaseMay (ops_phase f) (own seat h) v → is_ended v.phase ≡ true
      over phases.Failed v may = may.ended
      over phases.Pending v may = absurd may
      over phases.Available v may = absurd may
      over phases.Bound v may = absurd may
      over phases.Released v may = absurd may

      by : (x : Object) → ToldObject (λ y. y ≡ x) (own seat h)
          → IsVolumeWith (λ v. IsWrittenAt given key.namespace key.name v.meta × PhaseMay (ops_phase phase) (own seat h) v) x → own_calls seats.Ops o ≤ now_cost seats.Ops rows (key_of o)
      by (Volume v) it is =
          let keyed : key_of (Volume v) ≡ key = λ j. record { kind = (sym of_volumes) j; namespace = is.0.placed j; name = is.0.named j } in
          let same : i.old ≡ Volume v = stands_it setup h (Volume v) i.old key (told_is_true setup h seat (Volume v) history it) keyed i.there (subst
          (λ g. is_other_version g (meta_of i.old).version ≡ false) is.0.version i.version) in
          let there : now_cost seats.Ops rows (key_of o) ≡ own_calls seats.Ops (Volume v) =
          ap (weigh_if (own_calls seats.Ops)) ((status_next (world setup h).store seats.Ops key (statuses.Volume phase) given o i).there ∙ ap Some same) in
          let three : own_calls seats.Ops (Volume v) ≡ 3 = ap (λ b. if b then 3 else 0) (over phase v is.1) in
          let few = ops_three o in
          omega (arith, there, three, few)
      by (Class x) it is = absurd is
      by (Node x) it is = absurd is
      by (Claim x) it is = absurd is
      by (Pod x) it is = absurd is

  -- a claim is written over a claim
  update_stays : (c : ClaimData) (old : Object) (n : ℕ) → row_at (key_of (Claim c)) rows ≡ Some old → o ≡ updated_object old (Claim c) n → own_calls seats.Ops o ≤ now_cost seats.Ops rows (key_of o)
  update_stays c old n there is =
      let keyed : key_of o ≡ key_of (Claim c) = ap key_of is ∙ key-updated old (Claim c) n in
      let new : own_calls seats.Ops o ≡ 2 = of_claim seats.Ops o (ap (λ (k : Key). kind_index k.kind) keyed) in
      let was : own_calls seats.Ops old ≡ 2 = of_claim seats.Ops old (ap (λ (k : Key). kind_index k.kind) (row_at_key (key_of (Claim c)) old rows there)) in
      let stood : now_cost seats.Ops rows (key_of o) ≡ own_calls seats.Ops old = ap (now_cost seats.Ops rows) keyed ∙ ap (weigh_if (own_calls seats.Ops)) there in
      omega (arith, new, was, stood)

  pub ops_end_none : (r : Request) → Licensed seats.Ops (own seat h) r → Writes (world setup h) seats.Ops r o → own_calls seats.Ops o ≤ now_cost seats.Ops rows (key_of o)
  ops_end_none (requests.Create (Volume v)) may i = let none = ap (own_calls seats.Ops) i.is ∙ created_none _ v _ _ in omega (arith, none)
  ops_end_none (requests.Create (Class x)) may i = absurd may.1
  ops_end_none (requests.Create (Node x)) may i = absurd may.1
  ops_end_none (requests.Create (Claim x)) may i = absurd may.1
  ops_end_none (requests.Create (Pod x)) may i = absurd may.1
  ops_end_none (requests.Update (Claim c) given) may u = update_stays c u.old ((world setup h).store.version + 1) u.there u.is
  ops_end_none (requests.Update (Class x) given) may u = absurd may.1
  ops_end_none (requests.Update (Node x) given) may u = absurd may.1
  ops_end_none (requests.Update (Volume x) given) may u = absurd may.1
  ops_end_none (requests.Update (Pod x) given) may u = absurd may.1
  ops_end_none (requests.UpdateStatus key (statuses.Volume phase) given) may i = fails key phase given may.1.1 may.1.0 i
  ops_end_none (requests.UpdateStatus key (statuses.Claim phase modes amount) given) may i = absurd may.1
  ops_end_none (requests.Delete key given) may i =
      let new : own_calls seats.Ops o ≡ own_calls seats.Ops i.old = ap (own_calls seats.Ops) i.is ∙ marked_same i.old ((world setup h).store.version + 1) (world setup h).moment in
      let keyed : key_of o ≡ key = ap key_of i.is ∙ (key-marked i.old ((world setup h).store.version + 1) (world setup h).moment ∙ row_at_key key i.old rows i.there) in
      let stood : now_cost seats.Ops rows (key_of o) ≡ own_calls seats.Ops i.old = ap (now_cost seats.Ops rows) keyed ∙ ap (weigh_if (own_calls seats.Ops)) i.there in
      omega (arith, new, stood)
  ops_end_none (requests.Edit key change) may i = absurd may.1
  ops_end_none (requests.BindPod key uid node) may i = absurd may.1
  ops_end_none (requests.FinishPod key uid node epoch) may i = absurd may.1
  ops_end_none _ may i = absurd i
