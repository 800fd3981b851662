-- A claim whose annotations or finalizers were written, and its class.
use Rattle.std.proofs.Common.{◌≡◌, ◌∙◌, ℕ, ◌+◌, ◌≤◌, List, [], ◌∷◌, Bool, true, false, true≢false, Option, Some, None, refl, sym, ap, arith}
use Rattle.std.specs.Prelude.{cond, not, ◌&&◌, ◌||◌, is_some}
use Rattle.std.proofs.lemmas.Bool.{and_from, false_from_ne_true}
use Rattle.plain_data.specs.Pairs.{put_pair, value_at, without_key}
use Rattle.kube_parts.specs.declared.uid.Uid.{Uid}
use Rattle.kube_objects.specs.declared.objects.Meta.{Meta}
use Rattle.kube_objects.specs.declared.objects.Claim.{Claim as ClaimData}
use Rattle.kube_objects.specs.declared.objects.Volume.{Volume as VolumeData}
use Rattle.kube_objects.specs.declared.objects.Object.{Object}
use Rattle.kube_objects.specs.declared.objects.Object.TheVariants.{Class, Node, Volume, Claim, Pod}
use Rattle.kube_objects.specs.Bindings.{beta_class, bind_completed, has_key, is_completed, is_deleting, is_empty, is_for, is_protected_claim, carries, selected_node}
use Rattle.kube_objects.specs.Keys.{AreRows, key_of, row_at}
use Rattle.call_types.specs.declared.request.Request.TheVariants.{Update}
use Rattle.call_types.specs.declared.request.SeatKind.{SeatKind}
use Rattle.call_types.specs.declared.setup.Setup.{Setup}
use Rattle.binder_model.specs.Devices.{Devices}
use Rattle.binder_model.specs.Matching.{binder_takes, eligible, has_match, only_own_passes, waits_for_pod}
use Rattle.binder_model.specs.ObjectKeys.{volume_key}
use Rattle.binder_model.specs.Provisioning.{data_name}
use Rattle.binder_model.specs.Store.{leaves}
use Rattle.binder_model.specs.World.{World}
use Rattle.settle_measure.specs.Left.Measure.{binding_left, claim_left, completed_left, guard_left, has_class, has_offer, is_held_by, is_seeking, offers_claim, open_left, provision_left, unless}
use Rattle.settle_measure.specs.Binding.Pays.{ClassPays, NodeGoes, NodeStays}
use Rattle.settle_measure.specs.Left.Lowers.{Lowers, StandsClaim}
use Rattle.settle_measure.proofs.Binding.Binding.{offer_eligible, offer_of, seeking_parts}
use Rattle.settle_measure.proofs.Binding.Claims.{claim_update_lowers, rewritten_claim}
use Rattle.settle_measure.proofs.Left.Others.{any_in}
use Rattle.settle_measure.proofs.Left.Sums.{found_in}
use Rattle.settle_measure.proofs.Left.Words.{carries_alike, value_other, value_without}
use Rattle.model_laws.proofs.References.{carries_for}

-- what the measure reads of a claim's meta, but for its finalizers, is the same
pub record MetaAlike (old new : Meta) : Type 0 where
  pub namespace : new.namespace ≡ old.namespace
  pub name : new.name ≡ old.name
  pub uid : new.uid ≡ old.uid
  pub deleted : new.deleted ≡ old.deleted
  pub completed : value_at bind_completed new.annotations ≡ value_at bind_completed old.annotations
  pub beta : value_at beta_class new.annotations ≡ value_at beta_class old.annotations

abbrev pub with_claim_meta : ClaimData → Meta → ClaimData
with_claim_meta c m = record c { meta = m }

module _ (c : ClaimData) (m : Meta) (a : MetaAlike c.meta m) where
  carried : (v : VolumeData) → carries v (with_claim_meta c m) ≡ carries v c
  carried v = carries_alike v c (with_claim_meta c m) a.namespace a.name a.uid

  pub completed_same : is_completed (with_claim_meta c m) ≡ is_completed c
  completed_same = ap is_some a.completed

  pub deleting_same : is_deleting m ≡ is_deleting c.meta
  deleting_same = ap is_some a.deleted

  pub held_same : (o : Option Object) → is_held_by (with_claim_meta c m) o ≡ is_held_by c o
  held_same None = refl
  held_same (Some (Class x)) = refl
  held_same (Some (Node x)) = refl
  held_same (Some (Claim x)) = refl
  held_same (Some (Pod x)) = refl
  held_same (Some (Volume v)) = let e = carried v in rw e refl

  done_same : (o : Option Object) → completed_left (with_claim_meta c m) o ≡ completed_left c o
  done_same None = refl
  done_same (Some (Class x)) = refl
  done_same (Some (Node x)) = refl
  done_same (Some (Claim x)) = refl
  done_same (Some (Pod x)) = refl
  done_same (Some (Volume v)) = let e = carried v in rw e refl

  offered_same : (o : Object) → offers_claim (with_claim_meta c m) o ≡ offers_claim c o
  offered_same (Class x) = refl
  offered_same (Node x) = refl
  offered_same (Claim x) = refl
  offered_same (Pod x) = refl
  offered_same (Volume v) = let e = carried v in let b = a.beta in rw (e, b) refl

  offer_same : (rows : List Object) → has_offer rows (with_claim_meta c m) ≡ has_offer rows c
  offer_same [] = refl
  offer_same (o ∷ os) = let h = offered_same o in let t = offer_same os in λ i. h i || t i

  provision_same : (rows : List Object) (d : Devices) (u : Option Uid) → provision_left rows d (with_claim_meta c m) u ≡ provision_left rows d c u
  provision_same rows d None = refl
  provision_same rows d (Some uid) = let h = held_same (row_at (volume_key (data_name uid)) rows) in rw h refl

  class_same : has_class (with_claim_meta c m) ≡ has_class c
  class_same = ap (λ x. is_some c.class || is_some x) a.beta

  open_same : (rows : List Object) (d : Devices) → open_left rows d (with_claim_meta c m) ≡ open_left rows d c
  open_same rows d =
      let h = held_same (row_at (volume_key c.volume_name) rows) in
      let o = offer_same rows in
      let k = class_same in
      let p : provision_left rows d (with_claim_meta c m) m.uid ≡ provision_left rows d c c.meta.uid = ap (provision_left rows d (with_claim_meta c m)) a.uid ∙ provision_same rows d c.meta.uid in
      λ i. cond (is_empty c.volume_name) (unless (k i) 1 + (unless (o i) 4 + p i)) (unless (h i) 4)

  pub binding_same : (rows : List Object) (d : Devices) → binding_left rows d (with_claim_meta c m) ≡ binding_left rows d c
  binding_same rows d =
      let t = completed_same in let g = deleting_same in let o = open_same rows d in let e = done_same (row_at (volume_key c.volume_name) rows) in
      λ i. cond (t i) (e i) (unless (g i) (2 + o i))

  pub seeking_same : is_seeking (with_claim_meta c m) ≡ is_seeking c
  seeking_same = let t = completed_same in let g = deleting_same in λ i. (not (t i) && not (g i)) && is_empty c.volume_name

-- the node of a claim

node_alike : (c : ClaimData) (anns : List (List ℕ × List ℕ)) (n : ℕ) → value_at bind_completed anns ≡ value_at bind_completed c.meta.annotations
    → value_at beta_class anns ≡ value_at beta_class c.meta.annotations
    → MetaAlike c.meta (record c.meta { annotations = anns; version = n })
node_alike c anns n completed beta = record { namespace = refl; name = refl; uid = refl; deleted = refl; completed = completed; beta = beta }

node_kept : (setup : Setup) (w : World) (kind : SeatKind) (c : ClaimData) (anns : List (List ℕ × List ℕ)) → StandsClaim w c
    → value_at bind_completed anns ≡ value_at bind_completed c.meta.annotations → value_at beta_class anns ≡ value_at beta_class c.meta.annotations
    → Lowers setup w kind (Update (Claim (record c { meta = record c.meta { annotations = anns } })) (Some c.meta.version)) 0
unfolding leaves
node_kept setup w kind c anns s completed beta =
    let a = node_alike c anns (w.store.version + 1) completed beta in
    let b = binding_same c (record c.meta { annotations = anns; version = w.store.version + 1 }) a w.store.rows w.devices in
    claim_update_lowers setup w kind c s (record c { meta = record c.meta { annotations = anns } }) (Some c.meta.version) 0 refl s.stays
    (λ h. sym (seeking_same c (record c.meta { annotations = anns; version = w.store.version + 1 }) a) ∙ h)
    (omega (arith, b))

pub node_stays : NodeStays
node_stays setup w kind c node s = node_kept setup w kind c (put_pair selected_node node c.meta.annotations) s (value_other bind_completed
    selected_node node c.meta.annotations refl) (value_other beta_class selected_node node c.meta.annotations refl)

pub node_goes : NodeGoes
node_goes setup w kind c s = node_kept setup w kind c (without_key selected_node c.meta.annotations) s (value_without bind_completed selected_node
    c.meta.annotations refl) (value_without beta_class selected_node c.meta.annotations refl)

-- the class of a claim

offer_matches : (rows : List Object) (c : ClaimData) → AreRows rows → has_offer rows c ≡ true → has_match rows c ≡ true
offer_matches rows c order e =
    let o = offer_of rows c order e in
    let q = offer_eligible o.volume c o.offered in
    any_in (binder_takes rows c) (Volume o.volume) rows (found_in (key_of (Volume o.volume)) rows (Volume o.volume) o.there)
    (and_from (eligible o.volume c None) (only_own_passes (waits_for_pod rows c) o.volume c) q.1 (own (waits_for_pod rows c) o.volume (carries_for o.volume c q.0)))
  where
    own : (b : Bool) (v : VolumeData) → is_for v c ≡ true → only_own_passes b v c ≡ true
    own true v e = e
    own false v e = refl

held_classed : (c : ClaimData) (class : List ℕ) (n : ℕ) (o : Option Object) → is_held_by (rewritten_claim c (record c { class = Some class }) n) o ≡ is_held_by c o
held_classed c class n None = refl
held_classed c class n (Some (Class x)) = refl
held_classed c class n (Some (Node x)) = refl
held_classed c class n (Some (Claim x)) = refl
held_classed c class n (Some (Pod x)) = refl
held_classed c class n (Some (Volume v)) = let e = carries_alike v c (rewritten_claim c (record c { class = Some class }) n) refl refl refl in rw e refl

provision_classed : (c : ClaimData) (class : List ℕ) (n : ℕ) (rows : List Object) (d : Devices) (u : Option Uid)
    → provision_left rows d (rewritten_claim c (record c { class = Some class }) n) u ≡ provision_left rows d c u
provision_classed c class n rows d None = refl
provision_classed c class n rows d (Some uid) = let h = held_classed c class n (row_at (volume_key (data_name uid)) rows) in rw h refl

at_most : (b : Bool) (k : ℕ) → unless b k ≤ k
at_most true k = omega arith
at_most false k = omega arith

pub class_pays : ClassPays
unfolding leaves
class_pays setup w kind c class s seeking none beta no_match =
    let k = seeking_parts c seeking in
    let open_ = k.open_ in let staying = k.staying in let empty = k.empty in
    let no_offer : has_offer w.store.rows c ≡ false = false_from_ne_true (has_offer w.store.rows c) (λ h. true≢false (sym (offer_matches w.store.rows c s.order h) ∙ no_match)) in
    let unclassed : has_class c ≡ false = ap (λ x. is_some x || has_key beta_class c.meta.annotations) none ∙ beta in
    let new : ClaimData = rewritten_claim c (record c { class = Some class }) (w.store.version + 1) in
    let p = provision_classed c class (w.store.version + 1) w.store.rows w.devices c.meta.uid in
    let was : claim_left w.store.rows w.devices c ≡ 2 + (1 + (4 + provision_left w.store.rows w.devices c c.meta.uid)) + guard_left
    (is_deleting c.meta) (is_protected_claim c) = rw (open_, staying, empty, unclassed, no_offer) refl in
    let now : claim_left w.store.rows w.devices new ≡ 2 +
    (0 + (unless (has_offer w.store.rows new) 4 + provision_left w.store.rows w.devices new c.meta.uid)) + guard_left (is_deleting c.meta)
    (is_protected_claim c) = rw (open_, staying, empty) refl in
    let most = at_most (has_offer w.store.rows new) 4 in
    claim_update_lowers setup w kind c s (record c { class = Some class }) (Some c.meta.version) 1 refl s.stays (λ h. h) (omega (arith, p, was, now, most))
