-- The next call of a machine that suits gives a volume only to a claim that it suits.
use Rattle.std.proofs.Common.{◌≡◌, List, Bool, true, false, true≢false, Option, Some, None, inl, inr, refl, sym, ◌∙◌, subst, if◌then◌else◌}
use Rattle.std.specs.Prelude.{◌&&◌, ◌||◌, not, is_none, is_some}
use Rattle.plain_data.specs.Pairs.{without_key}
use Rattle.kube_parts.specs.declared.uid.Uid.{Uid}
use Rattle.kube_parts.specs.declared.parts.VolumePhase.{VolumePhase}
use Rattle.kube_parts.specs.declared.parts.VolumePhase.TheVariants as volumes
use Rattle.kube_objects.specs.declared.objects.Ref.{Ref}
use Rattle.kube_objects.specs.declared.objects.Volume.{Volume as VolumeData}
use Rattle.kube_objects.specs.declared.objects.Claim.{Claim as ClaimData}
use Rattle.kube_objects.specs.Bindings.{bound_by_controller, carries, has_key, is_bound, is_empty, is_ended, is_protected_volume, ref_uid}
use Rattle.call_types.specs.declared.entry.Entry.{Entry}
use Rattle.call_types.specs.declared.request.Request.{Request}
use Rattle.binder_model.specs.At.{IsWrittenAt}
use Rattle.binder_model.specs.BindWrites.{
  claim_write,
  is_completed_with,
  next_write,
  shows_bound,
  taken_for,
  unbound_volume,
  without_uid,
  write_bound,
  write_claim_status,
  write_completion,
  write_reference,
  write_unbound,
}
use Rattle.binder_model.specs.Told.{ToldClaim}
use Rattle.model_laws.proofs.Evidence.{told_claim, told_volume}
use Rattle.model_laws.proofs.Identity.{placed_same}
use Rattle.model_laws.proofs.Lists.{none_some, one}
use Rattle.binder_machines.specs.declared.machine.Machine.{Machine}
use Rattle.binder_machines.specs.declared.machine.Machine.TheVariants.{Frees, Binds, MarksBound, ReadsClaim, Releases, Unbinds, ReadsVolume, AssignsClass, Loses}
use Rattle.binder_machines.specs.Evidence.{MachineKeeps, ToldThis, ToldThisClaim}
use Rattle.binder_machines.specs.Machines.{call_of, may_bind, phase_call, read_of, write_class, write_phase}
use Rattle.size_law.specs.Law.Fitting.{GivesSo, GivesTo, IsGiven, Suits}
use Rattle.size_law.proofs.Calls.Decided.{MachineSuits, SuitsOrHas}

answered : (mine : List Entry) (a b : Request) → Some a ≡ Some b → GivesSo mine a → GivesSo mine b
answered mine a b e gives = subst (λ r. GivesSo mine r) (one a b e) gives

tested : (mine : List Entry) (b : Bool) (a : Option Request) (r : Request) → (a ≡ Some r → GivesSo mine r) → (if b then a else None) ≡ Some r → GivesSo mine r
tested mine true a r gives e = gives e
tested mine false a r gives e = none_some e

-- the first write of a binding

pub reference_gives : (v : VolumeData) (c : ClaimData) (mine : List Entry) → ToldThis v mine → ToldThisClaim c mine → Suits v c → GivesSo mine (write_reference v c)
unfolding taken_for
reference_gives v c mine volume claim suits = by c.meta.uid
  where
    by : (u : Option Uid) → GivesTo u mine (taken_for v c) (Some v.meta.version)
    by None = tt
    by (Some u) =
        let new = taken_for v c in
        let same = placed_same (is_none v.claim_ref) bound_by_controller v.meta in
        told_volume (λ o. IsWrittenAt (Some v.meta.version) new.meta.namespace new.meta.name o.meta × ToldClaim (IsGiven o new) mine) v mine volume
        (record { version = refl; placed = sym same.0; named = sym same.1 }, told_claim (IsGiven v new) c mine claim (record { change = refl; suits = suits }))

claim_gives : (v : VolumeData) (c : ClaimData) (mine : List Entry) (r : Request) → claim_write v c ≡ Some r → GivesSo mine r
unfolding claim_write
claim_gives v c mine r = by (is_completed_with c v) (shows_bound c v)
  where
    by : (done shows : Bool) → (if not done then Some (write_completion v c) else if not shows then Some (write_claim_status v c) else None) ≡ Some r → GivesSo mine r
    by false shows e = answered mine _ r e tt
    by true false e = answered mine _ r e tt
    by true true e = none_some e

binding_gives : (v : VolumeData) (c : ClaimData) (mine : List Entry) (r : Request) → ToldThis v mine → ToldThisClaim c mine → SuitsOrHas v c → next_write v c ≡ Some r → GivesSo mine r
unfolding next_write
binding_gives v c mine r volume claim suits = by (carries v c) (is_bound v.phase) (is_ended v.phase) (is_protected_volume v) refl
  where
    suited : carries v c ≡ false → Suits v c
    suited other = elim suits [ inl s ↦ s | inr carry ↦ absurd (true≢false (sym carry ∙ other)) ]

    by : (carry bound ended guarded : Bool) → carries v c ≡ carry
        → (if not carry then (if ended then None else Some (write_reference v c)) else if not bound then
        (if ended || not guarded then None else Some (write_bound v)) else claim_write v c) ≡ Some r → GivesSo mine r
    by false bound true guarded c1 e = none_some e
    by false bound false guarded c1 e = answered mine _ r e (reference_gives v c mine volume claim (suited c1))
    by true false true guarded c1 e = none_some e
    by true false false false c1 e = none_some e
    by true false false true c1 e = answered mine _ r e tt
    by true true ended guarded c1 e = claim_gives v c mine r e

-- the other machines

no_uid : (x : Option Ref) → ref_uid (without_uid x) ≡ None
no_uid None = refl
no_uid (Some r) = refl

unbound_free : (v : VolumeData) → ref_uid (unbound_volume v).claim_ref ≡ None
unfolding unbound_volume
unbound_free v = by (has_key bound_by_controller v.meta.annotations)
  where
    by : (b : Bool) → ref_uid (if b then record v
        { claim_ref = None; meta = record v.meta { annotations = without_key bound_by_controller v.meta.annotations } } else record v { claim_ref = without_uid v.claim_ref }).claim_ref ≡ None
    by true = refl
    by false = no_uid v.claim_ref

unbinding_gives : (v : VolumeData) (mine : List Entry) → GivesSo mine (write_unbound v)
unbinding_gives v mine = subst (λ (u : Option Uid). GivesTo u mine (unbound_volume v) (Some v.meta.version)) (sym (unbound_free v)) tt

phase_gives : (v : VolumeData) (phase : VolumePhase) (mine : List Entry) (r : Request) → phase_call v phase ≡ Some r → GivesSo mine r
phase_gives v phase mine r e = tested mine (is_empty v.meta.namespace) (Some (write_phase v phase)) r (λ is. answered mine _ r is tt) e

read_gives : (x : Option Ref) (mine : List Entry) (r : Request) → read_of x ≡ Some r → GivesSo mine r
read_gives None mine r e = none_some e
read_gives (Some ref) mine r e = answered mine _ r e tt

pub call_gives : (machine : Machine) (mine : List Entry) (r : Request) → MachineKeeps machine mine → MachineSuits machine → call_of machine ≡ Some r → GivesSo mine r
unfolding call_of
call_gives (Frees v) mine r kept suits e = phase_gives v volumes.Available mine r e
call_gives (Binds v c) mine r kept suits e = tested mine (may_bind v c) (next_write v c) r (λ is. binding_gives v c mine r kept.0 kept.1 suits is) e
call_gives (MarksBound v) mine r kept suits e = phase_gives v volumes.Bound mine r e
call_gives (ReadsClaim v) mine r kept suits e = tested mine _ (read_of v.claim_ref) r (λ is. read_gives v.claim_ref mine r is) e
call_gives (Releases v) mine r kept suits e = phase_gives v volumes.Released mine r e
call_gives (Unbinds v) mine r kept suits e = answered mine _ r e (unbinding_gives v mine)
call_gives (ReadsVolume c) mine r kept suits e = tested mine (is_some c.meta.uid) _ r (λ is. answered mine _ r is tt) e
call_gives (AssignsClass c x) mine r kept suits e = tested mine (is_some c.meta.uid && is_empty x.meta.namespace) (Some (write_class c x)) r (λ is. answered mine _ r is tt) e
call_gives (Loses c) mine r kept suits e = answered mine _ r e tt
