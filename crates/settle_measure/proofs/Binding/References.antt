-- The first write of a binding: who pays for it.
use Rattle.std.proofs.Common.{◌≡◌, ◌∙◌, ◌⊎◌, ℕ, ◌+◌, ◌≤◌, List, Bool, true, false, Option, Some, None, inl, inr, refl, sym, ap, arith}
use Rattle.std.specs.Prelude.{bytes_eq, not, ◌&&◌, ◌==◌, is_none}
use Rattle.std.proofs.lemmas.Bool.Decides.{nat_tests}
use Rattle.std.proofs.lemmas.Bool.{and_from, and_parts}
use Rattle.std.proofs.lemmas.Slice.Eq.{bytes_eq-Decides}
use Rattle.kube_parts.specs.declared.uid.Uid.{Uid}
use Rattle.kube_parts.specs.declared.parts.VolumePhase.{VolumePhase}
use Rattle.kube_parts.specs.declared.parts.VolumePhase.TheVariants as volumes
use Rattle.kube_objects.specs.Bindings.{has_name, pv_protection}
use Rattle.kube_objects.specs.declared.objects.Ref.{Ref}
use Rattle.kube_objects.specs.declared.objects.Claim.{Claim as ClaimData}
use Rattle.kube_objects.specs.declared.objects.Volume.{Volume as VolumeData}
use Rattle.kube_objects.specs.declared.objects.Object.TheVariants.{Volume, Claim}
use Rattle.kube_objects.specs.Bindings.{
  bound_by_controller,
  is_completed,
  is_deleting,
  is_empty,
  is_ended,
  is_for,
  is_protected_volume,
  is_uid,
  carries,
  names_claim,
  ref_uid,
  refers_carrying,
  refers_for,
  uid_carries,
  uid_fits,
}
use Rattle.kube_objects.specs.Keys.{key_of, put_row, row_at}
use Rattle.kube_objects.proofs.KeyOrder.{row_at-put_row}
use Rattle.call_types.specs.declared.request.SeatKind.{SeatKind}
use Rattle.call_types.specs.declared.setup.Setup.{Setup}
use Rattle.binder_model.specs.BindWrites.{ref_to, taken_for, write_reference}
use Rattle.binder_model.specs.Matching.{fits}
use Rattle.binder_model.specs.ObjectKeys.{claim_key, volume_key}
use Rattle.binder_model.specs.Store.{has_no_names, leaves}
use Rattle.binder_model.specs.World.{World}
use Rattle.kube_objects.specs.Sources.{data_id_of}
use Rattle.model_laws.proofs.Lists.{none_some}
use Rattle.settle_measure.specs.Left.Measure.{
  carried_left,
  claim_left,
  completed_left,
  guard_left,
  has_offer,
  holds,
  is_awaited,
  is_fit,
  is_held_by,
  is_lost,
  is_over,
  life_left,
  offers,
  offers_claim,
  phase_left,
  stage_left,
  unless,
  volume_left,
  was_erased,
}
use Rattle.settle_measure.specs.Binding.Pays.{MayTake}
use Rattle.settle_measure.specs.Left.Lowers.{Lowers, StandsVolume, StandsClaim}
use Rattle.settle_measure.proofs.Left.Others.{AsGood, away_most, carried_most, provision_less, any_in, as_good_put}
use Rattle.settle_measure.proofs.Binding.Stages.{AllSafe, at_key, false_not, key_is, life_kept, lowered, lowered_paid, no_carrier, not_over, rewritten, update_by, with_uid}
use Rattle.settle_measure.proofs.Left.Sums.{found_in}
use Rattle.settle_measure.proofs.Left.Words.{annotated_beta, annotated_finalizers, annotated_labels, annotated_name, annotated_namespace}
pub use Rattle.model_laws.proofs.References.{refers_to}

equal_texts : (t : List ℕ) → bytes_eq t t ≡ true
equal_texts t = (bytes_eq-Decides t t).1 refl

own_uid : (u : Option Uid) (uid : Uid) → u ≡ Some uid → is_uid u uid ≡ true
own_uid u uid e = let same : (uid.0 == uid.0) ≡ true = grind (arith, nat_tests) in ap (λ x. is_uid x uid) e ∙ same

-- a reference that is the claim's and does not carry it has no UID
no_uid : (v : VolumeData) (c : ClaimData) → MayTake v c → ref_uid v.claim_ref ≡ None
no_uid v c t = by v.claim_ref refl t.open_to
  where
    by_uid : (r : Ref) (u : Option Uid) → v.claim_ref ≡ Some r → r.uid ≡ u → is_for v c ≡ true → u ≡ None
    by_uid r None er eu f = refl
    by_uid r (Some u) er eu f =
        let p = and_parts (names_claim r c) (uid_fits r.uid c) (ap (λ x. refers_for x c) (sym er) ∙ f) in
        let has : uid_carries r.uid c ≡ true = ap (λ x. uid_carries x c) eu ∙ ap (λ x. uid_fits x c) (sym eu) ∙ p.1 in
        let here : carries v c ≡ true = ap (λ x. refers_carrying x c) er ∙ and_from (names_claim r c) (uid_carries r.uid c) p.0 has in
        false_not _ t.free here

    by : (r : Option Ref) → v.claim_ref ≡ r → (v.claim_ref ≡ None) ⊎ (is_for v c ≡ true) → ref_uid v.claim_ref ≡ None
    by None e which = ap ref_uid e
    by (Some r) e (inl none) = none_some (sym none ∙ e)
    by (Some r) e (inr own) = ap ref_uid e ∙ by_uid r r.uid e refl own

module _ (setup : Setup) (w : World) (kind : SeatKind) (v : VolumeData) (c : ClaimData) (s : StandsVolume w v) (sc : StandsClaim w c) (t : MayTake v c) where
  -- the volume as it is written
  abbrev taken : VolumeData
  taken = rewritten v (taken_for v c) (w.store.version + 1)

  fin : (taken_for v c).meta.finalizers ≡ v.meta.finalizers
  unfolding taken_for
  fin = annotated_finalizers (is_none v.claim_ref) bound_by_controller v.meta

  taken_key : key_of (Volume (taken_for v c)) ≡ key_of (Volume v)
  unfolding taken_for
  taken_key = let a = annotated_namespace (is_none v.claim_ref) bound_by_controller v.meta in let b = annotated_name (is_none v.claim_ref) bound_by_controller v.meta in
      λ i. record { kind = (key_of (Volume v)).kind; namespace = a i; name = b i }

  carries_now : carries taken c ≡ true
  unfolding taken_for
  carries_now = refers_to c sc.uid sc.has

  fits_now : fits taken c ≡ fits v c
  unfolding taken_for
  fits_now = let e = annotated_beta (is_none v.claim_ref) v.meta in rw e refl

  fit_now : is_fit taken c ≡ is_fit v c
  unfolding taken_for
  fit_now =
      let e = annotated_beta (is_none v.claim_ref) v.meta in
      let f = annotated_finalizers (is_none v.claim_ref) bound_by_controller v.meta in
      let l = annotated_labels (is_none v.claim_ref) bound_by_controller v.meta in
      rw (e, f, l) refl

  remains : leaves (Volume taken) ≡ false
  unfolding leaves taken_for
  remains = ap (λ f. is_deleting v.meta && has_no_names f) (annotated_finalizers (is_none v.claim_ref) bound_by_controller v.meta) ∙ s.stays

  none_before : ref_uid v.claim_ref ≡ None
  none_before = no_uid v c t

  safe : AllSafe w v taken
  safe e i =
      let before : carries v e ≡ false = no_carrier v.claim_ref e none_before in
      record {
        held = λ open_ staying which h. false_not _ before (and_parts (carries v e) _ (and_parts (carries v e && not (is_deleting v.meta)) _ h).0).0;
        offered = λ open_ staying empty h. false_not _ before (and_parts (carries v e) _ h).0;
        done = λ completed named. let was : completed_left e (Some (Volume v)) ≡ 5 + unless (is_lost e.phase) 1 = rw before refl in let h = away_most e taken in omega (arith, was, h);
      }

  stage_up : (a : Bool) (p : VolumePhase) → phase_left p + 1 ≤ stage_left a None p + 4
  stage_up a volumes.Bound = omega arith
  stage_up a volumes.Released = omega arith
  stage_up a volumes.Failed = omega arith
  stage_up a volumes.Pending = omega arith
  stage_up a volumes.Available = omega arith

  stage_awaited : (p : VolumePhase) → phase_left p + 1 ≤ stage_left true None p
  stage_awaited volumes.Bound = omega arith
  stage_awaited volumes.Released = omega arith
  stage_awaited volumes.Failed = omega arith
  stage_awaited volumes.Pending = omega arith
  stage_awaited volumes.Available = omega arith

  guard_same : guard_left (is_deleting taken.meta) (is_protected_volume taken) ≡ guard_left (is_deleting v.meta) (is_protected_volume v)
  unfolding taken_for
  guard_same = ap (λ f. guard_left (is_deleting v.meta) (has_name pv_protection f)) (annotated_finalizers (is_none v.claim_ref) bound_by_controller v.meta)

  life_less : life_left (is_deleting taken.meta) (is_over (ref_uid taken.claim_ref) taken.phase) (was_erased (data_id_of taken.source) w.devices.stored)
      ≤ life_left (is_deleting v.meta) (is_over (ref_uid v.claim_ref) v.phase) (was_erased (data_id_of v.source) w.devices.stored)
  unfolding taken_for
  life_less = life_kept (is_deleting v.meta) (is_over (ref_uid v.claim_ref) v.phase) (is_over c.meta.uid v.phase)
      (was_erased (data_id_of v.source) w.devices.stored) (not_over (ref_uid v.claim_ref) v.phase (inr t.going))

  rest_less : life_left (is_deleting taken.meta) (is_over (ref_uid taken.claim_ref) taken.phase)
      (was_erased (data_id_of taken.source) w.devices.stored) + guard_left (is_deleting taken.meta) (is_protected_volume taken)
      ≤ life_left (is_deleting v.meta) (is_over (ref_uid v.claim_ref) v.phase) (was_erased (data_id_of v.source) w.devices.stored) + guard_left (is_deleting v.meta) (is_protected_volume v)
  rest_less = let g = guard_same in let l = life_less in omega (arith, g, l)

  after_stage : stage_left (is_awaited w.store.rows taken.claim_ref) (ref_uid taken.claim_ref) taken.phase ≡ phase_left v.phase
  unfolding taken_for
  after_stage = with_uid (is_awaited w.store.rows (Some (ref_to c))) c.meta.uid sc.uid v.phase sc.has

  before_stage : stage_left (is_awaited w.store.rows v.claim_ref) (ref_uid v.claim_ref) v.phase ≡ stage_left (is_awaited w.store.rows v.claim_ref) None v.phase
  before_stage = ap (λ u. stage_left (is_awaited w.store.rows v.claim_ref) u v.phase) none_before

  weight_up : volume_left w.store.rows w.devices taken + 1 ≤ volume_left w.store.rows w.devices v + 4
  weight_up = let a = after_stage in let b = before_stage in let r = rest_less in let u = stage_up (is_awaited w.store.rows v.claim_ref) v.phase in omega (arith, a, b, r, u)

  -- a volume that a user gave to the claim pays itself
  pub awaited_pays : is_awaited w.store.rows v.claim_ref ≡ true → Lowers setup w kind (write_reference v c) 1
  awaited_pays aw =
      let a = after_stage in let b = before_stage in let r = rest_less in let u = stage_awaited v.phase in
      let n : stage_left (is_awaited w.store.rows v.claim_ref) None v.phase ≡ stage_left true None v.phase = ap (λ x. stage_left x None v.phase) aw in
      let less : volume_left w.store.rows w.devices taken + 1 ≤ volume_left w.store.rows w.devices v = omega (arith, a, b, r, u, n) in
      update_by setup w kind v s (taken_for v c) (Some v.meta.version) 1 taken_key remains (λ y put. lowered setup w kind v s y taken 1 taken_key put safe less)

  -- else the claim pays
  pub claim_pays : claim_left (put_row (Volume taken) w.store.rows) w.devices c + 4 ≤ claim_left w.store.rows w.devices c → Lowers setup w kind (write_reference v c) 1
  claim_pays pay =
      update_by setup w kind v s (taken_for v c) (Some v.meta.version) 1 taken_key remains (λ y put. lowered_paid setup w kind v s y taken 1 4 c sc.there taken_key put safe pay weight_up)

  put_there : row_at (volume_key v.meta.name) (put_row (Volume taken) w.store.rows) ≡ Some (Volume taken)
  put_there = ap (λ k. row_at k (put_row (Volume taken) w.store.rows)) (sym (taken_key ∙ key_is setup w kind v s)) ∙ row_at-put_row (Volume taken) w.store.rows

  good : AsGood w.store.rows (put_row (Volume taken) w.store.rows) c
  good = as_good_put v taken w.store.rows s.order taken_key (at_key setup w kind v s) c (safe c (found_in (claim_key c.meta.namespace c.meta.name) w.store.rows (Claim c) sc.there))

  -- a claim that seeks, and that no volume offers itself to
  pub seeking_pays : is_completed c ≡ false → is_deleting c.meta ≡ false → is_empty c.volume_name ≡ true → is_fit v c ≡ true
      → has_offer w.store.rows c ≡ false → claim_left (put_row (Volume taken) w.store.rows) w.devices c + 4 ≤ claim_left w.store.rows w.devices c
  seeking_pays open_ staying empty fit none =
      let offered : offers taken c ≡ true = and_from (carries taken c) (is_fit taken c && not (is_ended taken.phase)) carries_now (and_from
      (is_fit taken c) (not (is_ended taken.phase)) (fit_now ∙ fit) (ap not t.going)) in
      let now : has_offer (put_row (Volume taken) w.store.rows) c ≡ true =
      any_in (offers_claim c) (Volume taken) (put_row (Volume taken) w.store.rows) (found_in (volume_key v.meta.name) _ (Volume taken) put_there) offered in
      let rest = provision_less w.store.rows (put_row (Volume taken) w.store.rows) w.devices w.devices c c.meta.uid (λ name e. e) (λ k. good.held open_ staying k (inl empty)) in
      rw (open_, staying, empty, none, now) (omega (arith, rest))

  -- a claim that names the volume
  pub named_pays : is_completed c ≡ false → is_deleting c.meta ≡ false → is_empty c.volume_name ≡ false → c.volume_name ≡ v.meta.name
      → is_deleting v.meta ≡ false → claim_left (put_row (Volume taken) w.store.rows) w.devices c + 4 ≤ claim_left w.store.rows w.devices c
  named_pays open_ staying named is here =
      let was : is_held_by c (row_at (volume_key c.volume_name) w.store.rows) ≡ false = ap (λ n. is_held_by c (row_at (volume_key n) w.store.rows)) is ∙ ap (is_held_by c) s.there ∙ rw t.free refl in
      let held : holds taken c ≡ true = and_from (carries taken c && not (is_deleting v.meta)) (not (is_ended v.phase)) (and_from (carries taken c)
      (not (is_deleting v.meta)) carries_now (ap not here)) (ap not t.going) in
      let now : is_held_by c (row_at (volume_key c.volume_name) (put_row (Volume taken) w.store.rows)) ≡ true =
      ap (λ n. is_held_by c (row_at (volume_key n) (put_row (Volume taken) w.store.rows))) is ∙ ap (is_held_by c) put_there ∙ held in
      rw (open_, staying, named, was, now) (omega arith)

  taken_left : completed_left c (Some (Volume taken)) ≡ carried_left c taken
  taken_left = let e = carries_now in let going : is_ended taken.phase ≡ false = t.going in rw (e, going) refl

  -- a completed claim
  pub completed_claim_pays : is_completed c ≡ true → c.volume_name ≡ v.meta.name → claim_left (put_row (Volume taken) w.store.rows) w.devices c + 4 ≤ claim_left w.store.rows w.devices c
  completed_claim_pays completed is =
      let was : completed_left c (row_at (volume_key c.volume_name) w.store.rows) ≡ 5 + unless (is_lost c.phase) 1 =
      ap (λ n. completed_left c (row_at (volume_key n) w.store.rows)) is ∙ ap (completed_left c) s.there ∙ rw t.free refl in
      let now : completed_left c (row_at (volume_key c.volume_name) (put_row (Volume taken) w.store.rows)) ≡ carried_left c taken =
      ap (λ n. completed_left c (row_at (volume_key n) (put_row (Volume taken) w.store.rows))) is ∙ ap (completed_left c) put_there ∙ taken_left in
      let small = carried_most c taken in
      rw completed (omega (arith, was, now, small))
