-- The next call of a machine is allowed by its evidence.
use Rattle.std.proofs.Common.{◌≡◌, ◌⊎◌, List, [], Bool, true, false, true≢false, Option, Some, None, inl, inr, refl, sym, ap, subst, ◌∙◌, if◌then◌else◌}
use Rattle.plain_data.specs.Pairs.{Pair, pair_key, without_key}
use Rattle.plain_data.proofs.RowLookups.{find-put}
use Rattle.std.specs.Prelude.{◌&&◌, ◌||◌, not, is_some, is_none, option_map}
use Rattle.std.proofs.lemmas.Bool.{and_parts, or_cases}
use Rattle.std.proofs.lemmas.Cmp.{nat_list_cmp_total}
use Rattle.kube_parts.specs.declared.uid.Uid.{Uid}
use Rattle.kube_parts.specs.declared.parts.VolumePhase.{VolumePhase}
use Rattle.kube_parts.specs.declared.parts.VolumePhase.TheVariants as volumes
use Rattle.kube_objects.specs.declared.objects.Ref.{Ref}
use Rattle.kube_objects.specs.declared.objects.Volume.{Volume as VolumeData}
use Rattle.kube_objects.specs.declared.objects.Claim.{Claim as ClaimData}
use Rattle.kube_objects.specs.declared.objects.Class.{Class as ClassData}
use Rattle.kube_objects.specs.Bindings.{bind_completed, bound_by_controller, yes, has_key, is_empty, is_for, is_ended, is_bound, is_completed, is_protected_volume, carries, ref_uid}
use Rattle.call_types.specs.declared.entry.Entry.{Entry}
use Rattle.call_types.specs.declared.request.Request.{Request}
use Rattle.call_types.specs.declared.request.Request.TheVariants.{Get}
use Rattle.call_types.specs.declared.request.SeatKind.TheVariants.{Binder}
use Rattle.binder_model.specs.At.{IsWrittenAt}
use Rattle.binder_model.specs.ObjectKeys.{claim_key, volume_key}
use Rattle.binder_model.specs.BindWrites.{
  annotated_meta_if,
  claim_write,
  completed_with,
  is_completed_with,
  next_write,
  shows_bound,
  taken_for,
  unbound_volume,
  without_uid,
  write_bound,
  write_claim_status,
  write_completion,
  write_reference,
  write_unbound,
}
use Rattle.binder_model.specs.BinderLicence.{IsTaken, MayTake, MayAssignClass, MayBind, MayComplete, MayShow, MayLose, MayUnbind, IsHere, IsBoundFor, IsShown}
use Rattle.call_types.specs.declared.request.SeatKind.TheVariants as seats
use Rattle.binder_model.specs.Licence.{AreOfKind, AtVolumeKey, ClaimMay, Licensed, RowAllows, PhaseMay, VolumeMay, binder_claim, binder_phase, binder_volume}
use Rattle.model_laws.proofs.Evidence.{told_claim, told_volume}
use Rattle.model_laws.proofs.Identity.{placed_same}
use Rattle.model_laws.proofs.Lists.{none_some, one}
use Rattle.binder_machines.specs.declared.machine.Machine.{Machine}
use Rattle.binder_machines.specs.declared.machine.Machine.TheVariants.{Frees, Binds, MarksBound, ReadsClaim, Releases, Unbinds, ReadsVolume, AssignsClass, Loses}
use Rattle.binder_machines.specs.Machines.{assigned, call_of, may_bind, phase_call, read_of, write_class, write_lost, write_phase}
use Rattle.binder_machines.specs.Evidence.{MachineKeeps, MayReadClaim, ToldThis, ToldThisClaim}
use Rattle.safety_law.proofs.Invariant.Carried.{carried}
use Rattle.safety_law.proofs.Invariant.Tests.{same_text}
use Rattle.binder_machines.proofs.Tests.{empty_is, free, uid_of}

-- the tests of a binding, as facts
record Open (v : VolumeData) (c : ClaimData) : Type 0 where
  known : is_some c.meta.uid ≡ true
  placed : v.meta.namespace ≡ []
  reference : (is_none v.claim_ref || is_for v c) ≡ true
  named : (c.volume_name ≡ []) ⊎ (c.volume_name ≡ v.meta.name)

open_of : (v : VolumeData) (c : ClaimData) → may_bind v c ≡ true → Open v c
open_of v c e =
    let all = and_parts _ _ e in
    let front = and_parts _ _ all.0 in
    let first = and_parts _ _ front.0 in
    record {
      known = first.0;
      placed = empty_is v.meta.namespace first.1;
      reference = front.1;
      named = elim (or_cases _ _ all.1) [ inl none ↦ inl (empty_is c.volume_name none) | inr own ↦ inr (same_text c.volume_name v.meta.name own) ];
    }

answered : (mine : List Entry) (a b : Request) → Some a ≡ Some b → RowAllows seats.Binder mine a → RowAllows seats.Binder mine b
answered mine a b e may = subst (λ r. RowAllows seats.Binder mine r) (one a b e) may

tested : (mine : List Entry) (b : Bool) (a : Option Request) (r : Request) → (b ≡ true → a ≡ Some r → RowAllows seats.Binder mine r) → (if b then a else None) ≡ Some r → RowAllows seats.Binder mine r
tested mine true a r may e = may refl e
tested mine false a r may e = none_some e

-- the four writes

by_uid : (mine : List Entry) (new o : VolumeData) (uid : Option Uid) → is_some uid ≡ true → MayTake mine o new → VolumeMay (binder_volume uid) mine new o
by_uid mine new o None known row = absurd (true≢false (sym known))
by_uid mine new o (Some uid) known row = row

reference_allowed : (v : VolumeData) (c : ClaimData) (mine : List Entry) → ToldThis v mine → ToldThisClaim c mine → Open v c → carries v c ≡ false
    → is_ended v.phase ≡ false → RowAllows seats.Binder mine (write_reference v c)
unfolding taken_for
reference_allowed v c mine volume claim opened other live =
    let new = taken_for v c in
    let same = placed_same (is_none v.claim_ref) bound_by_controller v.meta in
    let taken : IsTaken v new c = record { known = opened.known; free = free v.claim_ref c v refl opened.reference other; change = refl } in
    let row : MayTake mine v new = record { live = live; told = told_claim (IsTaken v new) c mine claim taken } in
    told_volume (λ o. IsWrittenAt (Some v.meta.version) new.meta.namespace new.meta.name o.meta × VolumeMay (binder_volume (ref_uid new.claim_ref)) mine new o) v mine volume
    (record { version = refl; placed = sym same.0; named = sym same.1 }, by_uid mine new v c.meta.uid opened.known row)

-- a status is written on the volume that was told
volume_status : (v : VolumeData) (mine : List Entry) (Row : VolumeData → Type 0) → ToldThis v mine → v.meta.namespace ≡ [] → Row v → AtVolumeKey mine (volume_key v.meta.name) (Some v.meta.version) Row
volume_status v mine Row told placed row =
    (refl, told_volume (λ o. IsWrittenAt (Some v.meta.version) [] v.meta.name o.meta × Row o) v mine told (record { version = refl; placed = placed; named = refl }, row))

bound_allowed : (v : VolumeData) (c : ClaimData) (mine : List Entry) → ToldThis v mine → ToldThisClaim c mine → Open v c → carries v c ≡ true
    → is_ended v.phase ≡ false → is_protected_volume v ≡ true → RowAllows seats.Binder mine (write_bound v)
bound_allowed v c mine volume claim opened carry live guarded =
    let has = carried v c carry in
    volume_status v mine (MayBind mine) volume opened.placed
    (record {
      live = live;
      guarded = guarded;
      uid = has.uid;
      refers = uid_of v has.reference has.uid has.refers.is has.refers.known;
      told =
          told_claim (IsHere v.meta.name has.uid) c mine claim (record { claim = has.its; names = opened.named });
    })

-- the completed claim is completed
completes : (v : VolumeData) (c : ClaimData) → is_completed (completed_with c v) ≡ true
unfolding completed_with
completes v c = ap (λ (p : Option Pair). is_some (option_map (λ (q : Pair). q.1) p))
    (find-put nat_list_cmp_total pair_key (bind_completed, yes) (annotated_meta_if (is_empty c.volume_name) bound_by_controller c.meta).annotations)

completion_allowed : (v : VolumeData) (c : ClaimData) (mine : List Entry) → ToldThis v mine → ToldThisClaim c mine → Open v c → carries v c ≡ true
    → is_bound v.phase ≡ true → RowAllows seats.Binder mine (write_completion v c)
unfolding completed_with
completion_allowed v c mine volume claim opened carry bound =
    let new = completed_with c v in
    let same = placed_same (is_empty c.volume_name) bound_by_controller c.meta in
    let row : MayComplete mine c new = told_volume (IsBoundFor c new) v mine volume (record { bound = bound; carries = carry; names = opened.named; change = refl }) in
    told_claim (λ o. IsWrittenAt (Some c.meta.version) new.meta.namespace new.meta.name o.meta × ClaimMay (binder_claim (is_completed new)) mine new o) c mine claim
    (record { version = refl; placed = sym same.0; named = sym same.1 }, subst (λ (b : Bool). ClaimMay (binder_claim b) mine new c) (sym (completes v c)) row)

status_allowed : (v : VolumeData) (c : ClaimData) (mine : List Entry) → ToldThis v mine → ToldThisClaim c mine → carries v c ≡ true
    → is_bound v.phase ≡ true → is_completed_with c v ≡ true → RowAllows seats.Binder mine (write_claim_status v c)
status_allowed v c mine volume claim carry bound done =
    let parts = and_parts _ _ done in
    let shown : IsShown c v.modes (Some v.amount) v = record { named = sym (same_text c.volume_name v.meta.name parts.1); bound = bound; carries = carry; same_modes = refl; same_amount = refl } in
    let row : MayShow mine c v.modes (Some v.amount) = record { completed = parts.0; told = told_volume (IsShown c v.modes (Some v.amount)) v mine volume shown } in (
      refl,
      told_claim (λ o. IsWrittenAt (Some c.meta.version) c.meta.namespace c.meta.name o.meta × MayShow mine o v.modes (Some v.amount)) c mine
          claim (record { version = refl; placed = refl; named = refl }, row),
    )

claim_allowed : (v : VolumeData) (c : ClaimData) (mine : List Entry) (r : Request) → ToldThis v mine → ToldThisClaim c mine → Open v c
    → carries v c ≡ true → is_bound v.phase ≡ true → claim_write v c ≡ Some r → RowAllows seats.Binder mine r
unfolding claim_write
claim_allowed v c mine r volume claim opened carry bound = by (is_completed_with c v) (shows_bound c v) refl
  where
    by : (done shows : Bool) → is_completed_with c v ≡ done
        → (if not done then Some (write_completion v c) else if not shows then Some (write_claim_status v c) else None) ≡ Some r → RowAllows seats.Binder mine r
    by false shows done e = answered mine _ r e (completion_allowed v c mine volume claim opened carry bound)
    by true false done e = answered mine _ r e (status_allowed v c mine volume claim carry bound done)
    by true true done e = none_some e

binding_allowed : (v : VolumeData) (c : ClaimData) (mine : List Entry) (r : Request) → ToldThis v mine → ToldThisClaim c mine → Open v c → next_write v c ≡ Some r → RowAllows seats.Binder mine r
unfolding next_write
binding_allowed v c mine r volume claim opened = by (carries v c) (is_bound v.phase) (is_ended v.phase) (is_protected_volume v) refl refl refl refl
  where
    by : (carry bound ended guarded : Bool) → carries v c ≡ carry → is_bound v.phase ≡ bound → is_ended v.phase ≡ ended → is_protected_volume v ≡ guarded
        → (if not carry then (if ended then None else Some (write_reference v c)) else if not bound then
        (if ended || not guarded then None else Some (write_bound v)) else claim_write v c) ≡ Some r → RowAllows seats.Binder mine r
    by false bound true guarded c1 b e g is = none_some is
    by false bound false guarded c1 b e g is = answered mine _ r is (reference_allowed v c mine volume claim opened c1 e)
    by true false true guarded c1 b e g is = none_some is
    by true false false false c1 b e g is = none_some is
    by true false false true c1 b e g is = answered mine _ r is (bound_allowed v c mine volume claim opened c1 e g)
    by true true ended guarded c1 b e g is = claim_allowed v c mine r volume claim opened c1 b is

-- the other machines

record IsUnbound (v u : VolumeData) : Type 0 where
  placed : v.meta.namespace ≡ u.meta.namespace
  named : v.meta.name ≡ u.meta.name
  free : ref_uid u.claim_ref ≡ None

unbound_as : (marked : Bool) (v : VolumeData)
    → IsUnbound v (if marked then record v {
      claim_ref = None;
      meta = record v.meta
          { annotations = without_key bound_by_controller v.meta.annotations };
    } else record v { claim_ref = without_uid v.claim_ref })
unbound_as true v = record { placed = refl; named = refl; free = refl }
unbound_as false v = record { placed = refl; named = refl; free = no_uid v.claim_ref }
  where
    no_uid : (r : Option Ref) → ref_uid (without_uid r) ≡ None
    no_uid None = refl
    no_uid (Some r) = refl

unbound_is : (v : VolumeData) → IsUnbound v (unbound_volume v)
unfolding unbound_volume
unbound_is v = unbound_as (has_key bound_by_controller v.meta.annotations) v

unbinding_allowed : (v : VolumeData) (mine : List Entry) → ToldThis v mine → MayUnbind mine v (unbound_volume v) → RowAllows seats.Binder mine (write_unbound v)
unbinding_allowed v mine told row =
    let new = unbound_volume v in
    let is = unbound_is v in
    told_volume (λ o. IsWrittenAt (Some v.meta.version) new.meta.namespace new.meta.name o.meta × VolumeMay (binder_volume (ref_uid new.claim_ref)) mine new o) v mine told
    (record { version = refl; placed = is.placed; named = is.named }, subst (λ (u : Option Uid). VolumeMay (binder_volume u) mine new v) (sym is.free) row)

lost_allowed : (c : ClaimData) (mine : List Entry) → ToldThisClaim c mine → MayLose mine c c.got_modes c.got → RowAllows seats.Binder mine (write_lost c)
lost_allowed c mine told row = (
  refl,
  told_claim
      (λ o. IsWrittenAt (Some c.meta.version) c.meta.namespace c.meta.name o.meta × MayLose mine o c.got_modes c.got) c mine told (record { version = refl; placed = refl; named = refl }, row),
)

class_allowed : (c : ClaimData) (x : ClassData) (mine : List Entry) → ToldThisClaim c mine → MayAssignClass mine c (assigned c x) → RowAllows seats.Binder mine (write_class c x)
class_allowed c x mine told row =
    told_claim (λ o. IsWrittenAt (Some c.meta.version) c.meta.namespace c.meta.name o.meta × ClaimMay (binder_claim (is_completed c)) mine (assigned c x) o) c mine told
    (record { version = refl; placed = refl; named = refl }, subst (λ (b : Bool). ClaimMay (binder_claim b) mine (assigned c x) c) (sym row.undone) row)

read_allowed : (v : VolumeData) (mine : List Entry) (r : Request) → MayReadClaim v mine → v.meta.namespace ≡ [] → read_of v.claim_ref ≡ Some r → RowAllows seats.Binder mine r
read_allowed v mine r kept placed e = answered mine (Get (claim_key kept.reference.namespace kept.reference.name)) r (sym (ap read_of kept.refers) ∙ e) (inl (kept.asks placed))

phase_allowed : (v : VolumeData) (phase : VolumePhase) (mine : List Entry) (r : Request) → ToldThis v mine → PhaseMay (binder_phase phase) mine v
    → phase_call v phase ≡ Some r → RowAllows seats.Binder mine r
phase_allowed v phase mine r told row e =
    tested mine (is_empty v.meta.namespace) (Some (write_phase v phase)) r
    (λ placed is. answered mine (write_phase v phase) r is (volume_status v mine (PhaseMay (binder_phase phase) mine) told (empty_is v.meta.namespace placed) row)) e

pub row_allows : (machine : Machine) (mine : List Entry) (request : Request) → MachineKeeps machine mine → call_of machine ≡ Some request → RowAllows seats.Binder mine request
unfolding call_of
row_allows (Frees v) mine r kept e = phase_allowed v volumes.Available mine r kept.0 kept.1 e
row_allows (Binds v c) mine r kept e = tested mine (may_bind v c) (next_write v c) r (λ may is. binding_allowed v c mine r kept.0 kept.1 (open_of v c may) is) e
row_allows (MarksBound v) mine r kept e = phase_allowed v volumes.Bound mine r kept.0 kept.1 e
row_allows (ReadsClaim v) mine r kept e = tested mine _ (read_of v.claim_ref) r (λ known is. read_allowed v mine r kept (empty_is v.meta.namespace (and_parts _ _ known).0) is) e
row_allows (Releases v) mine r kept e = phase_allowed v volumes.Released mine r kept.0 kept.1 e
row_allows (Unbinds v) mine r kept e = answered mine (write_unbound v) r e (unbinding_allowed v mine kept.0 kept.1)
row_allows (ReadsVolume c) mine r kept e = tested mine (is_some c.meta.uid) (Some (Get (volume_key c.volume_name))) r (λ known is. answered mine _ r is (inr kept.asks)) e
row_allows (AssignsClass c x) mine r kept e =
    tested mine (is_some c.meta.uid && is_empty x.meta.namespace) (Some (write_class c x)) r
    (λ tests is. answered mine _ r is (class_allowed c x mine kept.0 (kept.1 (empty_is x.meta.namespace (and_parts _ _ tests).1)))) e
row_allows (Loses c) mine r kept e = answered mine (write_lost c) r e (lost_allowed c mine kept.0 kept.1)

pub allowed : (machine : Machine) (mine : List Entry) (request : Request) → AreOfKind Binder mine → MachineKeeps machine mine → call_of machine ≡ Some request → Licensed Binder mine request
allowed machine mine request own kept e = (own, row_allows machine mine request kept e)
