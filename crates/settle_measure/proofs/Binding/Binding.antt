-- The first write of a binding pays, in each way in which it is decided.
use Rattle.std.proofs.Common.{◌≡◌, ◌∙◌, ◌⊎◌, List, Bool, true, false, true≢false, Option, Some, None, inl, inr, refl, sym, ap, if◌then◌else◌}
use Rattle.std.specs.Prelude.{bytes_eq, not, ◌&&◌, ◌||◌, is_none, is_some}
use Rattle.std.proofs.lemmas.Bool.{and_from, and_parts, or_left, false_from_ne_true, not-true}
use Rattle.std.proofs.lemmas.Slice.Eq.{bytes_eq-Decides}
use Rattle.kube_parts.specs.declared.names.Due.{Due}
use Rattle.kube_parts.specs.declared.names.Due.TheVariants as dues
use Rattle.kube_objects.specs.declared.objects.Ref.{Ref}
use Rattle.kube_objects.specs.declared.objects.Claim.{Claim as ClaimData}
use Rattle.kube_objects.specs.declared.objects.Node.{Node as NodeData}
use Rattle.kube_objects.specs.declared.objects.Volume.{Volume as VolumeData}
use Rattle.kube_objects.specs.declared.objects.Object.{Object}
use Rattle.kube_objects.specs.declared.objects.Object.TheVariants.{Class, Node, Volume, Claim, Pod}
use Rattle.kube_objects.specs.Bindings.{is_available, is_completed, is_deleting, is_empty, is_ended, is_bound, is_for, is_protected_volume, carries, names_claim, refers_carrying, refers_for, uid_fits}
use Rattle.kube_objects.specs.Keys.{AreRows, key_of, row_at}
use Rattle.binder_model.specs.BinderDue.{named_due}
use Rattle.binder_model.specs.BindWrites.{claim_write, next_write, write_bound, write_reference}
use Rattle.binder_model.specs.Choice.{carries_claim, has_carrier}
use Rattle.binder_model.specs.Matching.{eligible, fits, is_admitted_on, is_selected, may_serve}
use Rattle.binder_model.specs.ObjectKeys.{claim_key}
use Rattle.kube_parts.specs.declared.parts.VolumePhase.{VolumePhase}
use Rattle.kube_parts.specs.declared.parts.VolumePhase.TheVariants as volumes
use Rattle.settle_measure.specs.Left.Measure.{has_offer, is_awaited, is_fit, is_seeking, offers, offers_claim, seeks}
use Rattle.settle_measure.specs.Binding.Pays.{CompletedPays, MatchPays, MayTake, NamedPays, PreparePays}
use Rattle.settle_measure.specs.Left.Lowers.{Lowers}
use Rattle.settle_measure.proofs.Left.Others.{any_found, any_in}
use Rattle.settle_measure.proofs.Binding.References.{awaited_pays, claim_pays, completed_claim_pays, named_pays, seeking_pays}
use Rattle.settle_measure.proofs.Binding.Stages.{at_key}
use Rattle.settle_measure.proofs.Left.Sums.{found_in, stands}
use Rattle.model_laws.proofs.References.{carries_for}

pub record IsSeeking (c : ClaimData) : Type 0 where
  pub open_ : is_completed c ≡ false
  pub staying : is_deleting c.meta ≡ false
  pub empty : is_empty c.volume_name ≡ true

pub seeking_parts : (c : ClaimData) → is_seeking c ≡ true → IsSeeking c
seeking_parts c e =
    let p = and_parts (not (is_completed c) && not (is_deleting c.meta)) (is_empty c.volume_name) e in
    let q = and_parts (not (is_completed c)) (not (is_deleting c.meta)) p.0 in
    record { open_ = not-true _ q.0; staying = not-true _ q.1; empty = p.1 }

record IsEligible (v : VolumeData) (c : ClaimData) : Type 0 where
  fit : is_fit v c ≡ true
  may : may_serve v c ≡ true

eligible_parts : (v : VolumeData) (c : ClaimData) (node : Option NodeData) → eligible v c node ≡ true → IsEligible v c
eligible_parts v c node e =
    let p = and_parts (not (is_deleting v.meta) && is_protected_volume v && fits v c && is_selected c.selector v.meta.labels && is_admitted_on v node) (may_serve v c) e in
    let q = and_parts (not (is_deleting v.meta) && is_protected_volume v && fits v c && is_selected c.selector v.meta.labels) (is_admitted_on v node) p.0 in
    record { fit = q.0; may = p.1 }

may_take : (v : VolumeData) (c : ClaimData) → may_serve v c ≡ true → carries v c ≡ false → MayTake v c
may_take v c e free = by (is_for v c && not (is_ended v.phase)) refl e
  where
    going_free : is_available v.phase ≡ true → is_ended v.phase ≡ false
    going_free e = by v.phase e
      where
        by : (p : VolumePhase) → is_available p ≡ true → is_ended p ≡ false
        by volumes.Available e = refl
        by volumes.Bound e = absurd (true≢false (sym e))
        by volumes.Pending e = absurd (true≢false (sym e))
        by volumes.Released e = absurd (true≢false (sym e))
        by volumes.Failed e = absurd (true≢false (sym e))

    none_ref : (r : Option Ref) → is_none r ≡ true → r ≡ None
    none_ref None e = refl
    none_ref (Some r) e = absurd (true≢false (sym e))

    by : (b : Bool) → (is_for v c && not (is_ended v.phase)) ≡ b → (b || (is_available v.phase && is_none v.claim_ref)) ≡ true → MayTake v c
    by true own e = let p = and_parts (is_for v c) (not (is_ended v.phase)) own in record { free = free; going = not-true _ p.1; open_to = inr p.0 }
    by false own e = let p = and_parts (is_available v.phase) (is_none v.claim_ref) e in record { free = free; going = going_free p.0; open_to = inl (none_ref v.claim_ref p.1) }

-- a reference that is the claim's names its key
for_key : (r : Ref) (c : ClaimData) → refers_for (Some r) c ≡ true → claim_key r.namespace r.name ≡ claim_key c.meta.namespace c.meta.name
for_key r c e =
    let p = and_parts (names_claim r c) (uid_fits r.uid c) e in
    let q = and_parts (bytes_eq r.namespace c.meta.namespace) (bytes_eq r.name c.meta.name) p.0 in
    let a : r.namespace ≡ c.meta.namespace = (bytes_eq-Decides r.namespace c.meta.namespace).0 q.0 in
    let b : r.name ≡ c.meta.name = (bytes_eq-Decides r.name c.meta.name).0 q.1 in
    λ i. claim_key (a i) (b i)

for_awaited : (rows : List Object) (v : VolumeData) (c : ClaimData) → row_at (claim_key c.meta.namespace c.meta.name) rows ≡ Some (Claim c)
    → is_seeking c ≡ true → is_for v c ≡ true → is_awaited rows v.claim_ref ≡ true
for_awaited rows v c there seeking own = by v.claim_ref own
  where
    by : (r : Option Ref) → refers_for r c ≡ true → is_awaited rows r ≡ true
    by None e = absurd (true≢false (sym e))
    by (Some r) e = ap (λ k. seeks (row_at k rows)) (for_key r c e) ∙ ap seeks there ∙ seeking

pub offer_eligible : (u : VolumeData) (c : ClaimData) → offers u c ≡ true → (carries u c ≡ true) × (eligible u c None ≡ true)
offer_eligible u c e =
    let p = and_parts (carries u c) (is_fit u c && not (is_ended u.phase)) e in
    let q = and_parts (is_fit u c) (not (is_ended u.phase)) p.1 in
    let own = and_from (is_for u c) (not (is_ended u.phase)) (carries_for u c p.0) q.1 in
    let may : may_serve u c ≡ true = or_left (is_for u c && not (is_ended u.phase)) (is_available u.phase && is_none u.claim_ref) own in
    (p.0, and_from (is_fit u c && true) (may_serve u c) (and_from (is_fit u c) true q.0 refl) may)

-- the volume that offers itself, if any
pub record Offer (rows : List Object) (c : ClaimData) : Type 0 where
  pub volume : VolumeData
  pub there : row_at (key_of (Volume volume)) rows ≡ Some (Volume volume)
  pub offered : offers volume c ≡ true

pub offer_of : (rows : List Object) (c : ClaimData) → AreRows rows → has_offer rows c ≡ true → Offer rows c
offer_of rows c order e = let f = any_found (offers_claim c) rows e in by f.object (stands rows order f.object f.among) f.passes
  where
    by : (o : Object) → row_at (key_of o) rows ≡ Some o → offers_claim c o ≡ true → Offer rows c
    by (Volume u) at e = record { volume = u; there = at; offered = e }
    by (Class x) at e = absurd (true≢false (sym e))
    by (Node x) at e = absurd (true≢false (sym e))
    by (Claim x) at e = absurd (true≢false (sym e))
    by (Pod x) at e = absurd (true≢false (sym e))

pub match_pays : MatchPays
match_pays setup w kind v c s sc seeking it_fits free first = by (has_offer w.store.rows c) refl
  where
    e : IsEligible v c
    e = eligible_parts v c None it_fits

    t : MayTake v c
    t = may_take v c (eligible_parts v c None it_fits).may free

    k : IsSeeking c
    k = seeking_parts c seeking

    by : (b : Bool) → has_offer w.store.rows c ≡ b → Lowers setup w kind (write_reference v c) 1
    by false none = claim_pays setup w kind v c s sc t (seeking_pays setup w kind v c s sc t k.open_ k.staying k.empty e.fit none)
    by true some =
        let o = offer_of w.store.rows c s.order some in
        let q = offer_eligible o.volume c o.offered in
        let own = first o.volume o.there q.1 (carries_for o.volume c q.0) in
        awaited_pays setup w kind v c s sc t (for_awaited w.store.rows v c sc.there seeking own)

carrier : (rows : List Object) (c : ClaimData) (u : VolumeData) → row_at (key_of (Volume u)) rows ≡ Some (Volume u) → carries u c ≡ true → has_carrier rows c ≡ true
carrier rows c u there e = any_in (carries_claim c) (Volume u) rows (found_in (key_of (Volume u)) rows (Volume u) there) e

pub prepare_pays : PreparePays
prepare_pays setup w kind v c n s sc seeking it_fits none =
    let e = eligible_parts v c (Some n) it_fits in
    let free = false_from_ne_true (carries v c) (λ h. true≢false (sym (carrier w.store.rows c v (at_key setup w kind v s) h) ∙ none)) in
    let t = may_take v c e.may free in
    let k = seeking_parts c seeking in
    let no_offer = false_from_ne_true (has_offer w.store.rows c)
    (λ h. let o = offer_of w.store.rows c s.order h in true≢false (sym (carrier w.store.rows c o.volume o.there (offer_eligible o.volume c o.offered).0) ∙ none)) in
    claim_pays setup w kind v c s sc t (seeking_pays setup w kind v c s sc t k.open_ k.staying k.empty e.fit no_offer)

record IsNamed (v : VolumeData) (c : ClaimData) : Type 0 where
  staying : is_deleting v.meta ≡ false
  going : is_ended v.phase ≡ false
  open_to : (v.claim_ref ≡ None) ⊎ (is_for v c ≡ true)

is_named : (v : VolumeData) (c : ClaimData) → named_due c (Some (Volume v)) ≡ Some dues.Bind → IsNamed v c
unfolding named_due
is_named v c e = by (is_deleting v.meta) (is_protected_volume v) (is_ended v.phase) v.claim_ref (is_for v c) refl refl refl refl (ap is_some e)
  where
    fit_if : Bool → Option Due
    fit_if b = if b then Some dues.Bind else None

    by : (a b d : Bool) (r : Option Ref) (f : Bool) → is_deleting v.meta ≡ a → is_ended v.phase ≡ d → v.claim_ref ≡ r → is_for v c ≡ f
        → is_some (if a || not b || d then None else if is_none r then (if fits v c then Some dues.Bind else None) else if f then Some dues.Bind else None) ≡ true → IsNamed v c
    by true b d r f ea ed er ef e = absurd (true≢false (sym e))
    by false false d r f ea ed er ef e = absurd (true≢false (sym e))
    by false true true r f ea ed er ef e = absurd (true≢false (sym e))
    by false true false None f ea ed er ef e = record { staying = ea; going = ed; open_to = inl er }
    by false true false (Some r) true ea ed er ef e = record { staying = ea; going = ed; open_to = inr ef }
    by false true false (Some r) false ea ed er ef e = absurd (true≢false (sym e))

pub named_reference_pays : NamedPays
named_reference_pays setup w kind v c s sc open_ staying named is due free =
    let k = is_named v c due in
    let t : MayTake v c = record { free = free; going = k.going; open_to = k.open_to } in
    claim_pays setup w kind v c s sc t (named_pays setup w kind v c s sc t open_ staying named is k.staying)

pub completed_pays : CompletedPays
unfolding next_write
completed_pays setup w kind v c s sc completed is none next =
    let free : carries v c ≡ false = ap (λ r. refers_carrying r c) none in
    let going : is_ended v.phase ≡ false = by (carries v c) (is_ended v.phase) free (ap is_some next) in
    let t : MayTake v c = record { free = free; going = going; open_to = inl none } in
    claim_pays setup w kind v c s sc t (completed_claim_pays setup w kind v c s sc t completed is)
  where
    by : (a b : Bool) → a ≡ false → is_some (if not a then (if b then None else Some (write_reference v c)) else if not (is_bound v.phase) then
        (if b || not (is_protected_volume v) then None else Some (write_bound v)) else claim_write v c) ≡ true → b ≡ false
    by true b e h = absurd (true≢false e)
    by false true e h = absurd (true≢false (sym h))
    by false false e h = refl
