-- The next call of a machine is allowed by its evidence; and it reads no whole kind.
use Rattle.std.proofs.Common.{◌≡◌, List, Bool, true, false, Some, None, refl, sym, subst, if◌then◌else◌}
use Rattle.std.specs.Prelude.{◌||◌, not, IfSome, is_some}
use Rattle.kube_parts.specs.declared.parts.Kind.TheVariants as kinds
use Rattle.kube_objects.specs.declared.objects.Volume.{Volume as VolumeData}
use Rattle.kube_objects.specs.declared.objects.Claim.{Claim as ClaimData}
use Rattle.kube_objects.specs.Bindings.{is_protected_claim, is_protected_volume, pv_protection, pvc_protection}
use Rattle.call_types.specs.declared.entry.Entry.{Entry}
use Rattle.call_types.specs.declared.request.Request.{Request}
use Rattle.call_types.specs.declared.request.Request.TheVariants.{List as ListOf}
use Rattle.call_types.specs.declared.request.SeatKind.TheVariants.{ClaimProtect, VolumeProtect}
use Rattle.call_types.proofs.WholeKinds.{ReadsNone, call_reads_none, reads_no_kind}
use Rattle.binder_model.specs.At.{IsWrittenAt}
use Rattle.binder_model.specs.GuardLicence.{MayUnguardClaim, MayUnguardVolume}
use Rattle.call_types.specs.declared.request.SeatKind.TheVariants as seats
use Rattle.binder_model.specs.Licence.{AreOfKind, GuardsClaim, GuardsVolume, Licensed, RowAllows, ClaimMay, VolumeMay, claim_guard, volume_guard}
use Rattle.binder_model.specs.Reading.{IsDeletingIn}
use Rattle.binder_model.specs.Told.{ToldClaim, ToldVolume}
use Rattle.model_laws.proofs.Evidence.{told_claim, told_volume}
use Rattle.model_laws.proofs.Lists.{none_some, one}
use Rattle.protect_sync.specs.declared.claims.ClaimGuardOp.{ClaimGuardOp}
use Rattle.protect_sync.specs.declared.claims.ClaimGuardStep.{ClaimGuardStep}
use Rattle.protect_sync.specs.declared.claims.ClaimGuardStep.TheVariants as claims
use Rattle.protect_sync.specs.declared.volumes.VolumeGuardOp.{VolumeGuardOp}
use Rattle.protect_sync.specs.declared.volumes.VolumeGuardStep.{VolumeGuardStep}
use Rattle.protect_sync.specs.declared.volumes.VolumeGuardStep.TheVariants as volumes
use Rattle.protect_sync.specs.BeginLaw.{ClaimCallsReadNoKind, VolumeCallsReadNoKind}
use Rattle.protect_sync.specs.ClaimGuards as on_claims
use Rattle.protect_sync.specs.ClaimGuards.{claim_guard_call, guarded_claim, list_call, unguarded_claim}
use Rattle.protect_sync.specs.Evidence.{ClaimKeeps, ClaimStepKeeps, MayAdd, MayAddVolume, MayDrop, MayDropVolume, MayList, VolumeKeeps, VolumeStepKeeps}
use Rattle.protect_sync.specs.VolumeGuards as on_volumes
use Rattle.protect_sync.specs.VolumeGuards.{guarded_volume, unguarded_volume, volume_guard_call}
use Rattle.model_laws.proofs.FinalizerNames.{without_lacks as without_it}
use Rattle.model_laws.proofs.FinalizerNames.{has_appended as with_it}

-- the finalizer stands in what is written, or it does not

or_last : (a b : Bool) → b ≡ true → (a || (b || false)) ≡ true
or_last true b e = refl
or_last false true e = refl
or_last false false e = e

-- a claim

claim_answered : (mine : List Entry) (a b : Request) → Some a ≡ Some b → RowAllows seats.ClaimProtect mine a → RowAllows seats.ClaimProtect mine b
claim_answered mine a b e may = subst (λ r. RowAllows seats.ClaimProtect mine r) (one a b e) may

claim_guarded : (mine : List Entry) (new o : ClaimData) (has : Bool) → is_protected_claim new ≡ has → ClaimMay (claim_guard has) mine new o → ClaimMay (claim_guard (is_protected_claim new)) mine new o
claim_guarded mine new o has is row = subst (λ (b : Bool). ClaimMay (claim_guard b) mine new o) (sym is) row

-- a claim is written over the one that was told
claim_written : (c new : ClaimData) (mine : List Entry) → ToldClaim (λ o. o ≡ c) mine → new.meta.namespace ≡ c.meta.namespace
    → new.meta.name ≡ c.meta.name → ClaimMay (claim_guard (is_protected_claim new)) mine new c → RowAllows seats.ClaimProtect mine (on_claims.claim_write_over c new)
claim_written c new mine told placed named row =
    told_claim (λ o. IsWrittenAt (Some c.meta.version) new.meta.namespace new.meta.name o.meta × ClaimMay (claim_guard (is_protected_claim new)) mine new o) c mine told
    (record { version = refl; placed = sym placed; named = sym named }, row)

adds : (c : ClaimData) (mine : List Entry) → MayAdd c mine → RowAllows seats.ClaimProtect mine (on_claims.claim_write_over c (guarded_claim c))
adds c mine kept =
    let row : GuardsClaim c (guarded_claim c) = record { guard = record { staying = kept.staying; lacks = kept.lacks; change = refl }; rest = refl } in
    claim_written c (guarded_claim c) mine kept.told refl refl (claim_guarded mine (guarded_claim c) c true (with_it pvc_protection c.meta.finalizers) row)

drops : (c : ClaimData) (mine : List Entry) → MayDrop c mine → RowAllows seats.ClaimProtect mine (on_claims.claim_write_over c (unguarded_claim c))
drops c mine kept =
    let row : MayUnguardClaim mine c (unguarded_claim c) = record { deleting = kept.deleting; unused = kept.unused; change = refl } in
    claim_written c (unguarded_claim c) mine kept.told refl refl (claim_guarded mine (unguarded_claim c) c false (without_it pvc_protection c.meta.finalizers) row)

lists : (c : ClaimData) (mine : List Entry) (request : Request) → MayList c mine → list_call c ≡ Some request → RowAllows seats.ClaimProtect mine request
lists c mine request kept = by (is_some c.meta.uid)
  where
    by : (b : Bool) → (if b then Some (ListOf kinds.Pod (Some c.meta.namespace)) else None) ≡ Some request → RowAllows seats.ClaimProtect mine request
    by false e = none_some e
    by true e = claim_answered mine (ListOf kinds.Pod (Some c.meta.namespace)) request e
        (told_claim (IsDeletingIn c.meta.namespace) c mine kept.told (record { placed = refl; deleting = kept.deleting }))

claim_row : (step : ClaimGuardStep) (c : ClaimData) (mine : List Entry) (request : Request) → ClaimStepKeeps step c mine
    → on_claims.claim_guard_call_at step c ≡ Some request → RowAllows seats.ClaimProtect mine request
claim_row claims.Adds c mine request kept e = claim_answered mine (on_claims.claim_write_over c (guarded_claim c)) request e (adds c mine kept)
claim_row claims.ListsPods c mine request kept e = lists c mine request kept e
claim_row claims.Drops c mine request kept e = claim_answered mine (on_claims.claim_write_over c (unguarded_claim c)) request e (drops c mine kept)
claim_row claims.Done c mine request kept e = none_some e
claim_row claims.Parked c mine request kept e = none_some e

pub claim_allowed : (op : ClaimGuardOp) (mine : List Entry) (request : Request) → AreOfKind ClaimProtect mine → ClaimKeeps op mine
    → claim_guard_call op ≡ Some request → Licensed ClaimProtect mine request
unfolding claim_guard_call
claim_allowed op mine request own kept e = (own, claim_row op.step op.claim mine request kept e)

-- a volume

volume_answered : (mine : List Entry) (a b : Request) → Some a ≡ Some b → RowAllows seats.VolumeProtect mine a → RowAllows seats.VolumeProtect mine b
volume_answered mine a b e may = subst (λ r. RowAllows seats.VolumeProtect mine r) (one a b e) may

volume_guarded : (mine : List Entry) (new o : VolumeData) (has : Bool) → is_protected_volume new ≡ has → VolumeMay (volume_guard has) mine new o
    → VolumeMay (volume_guard (is_protected_volume new)) mine new o
volume_guarded mine new o has is row = subst (λ (b : Bool). VolumeMay (volume_guard b) mine new o) (sym is) row

-- a volume is written over the one that was told
volume_written : (v new : VolumeData) (mine : List Entry) → ToldVolume (λ o. o ≡ v) mine → new.meta.namespace ≡ v.meta.namespace
    → new.meta.name ≡ v.meta.name → VolumeMay (volume_guard (is_protected_volume new)) mine new v → RowAllows seats.VolumeProtect mine (on_volumes.volume_write_over v new)
volume_written v new mine told placed named row =
    told_volume (λ o. IsWrittenAt (Some v.meta.version) new.meta.namespace new.meta.name o.meta × VolumeMay (volume_guard (is_protected_volume new)) mine new o) v mine told
    (record { version = refl; placed = sym placed; named = sym named }, row)

adds_to_volume : (v : VolumeData) (mine : List Entry) → MayAddVolume v mine → RowAllows seats.VolumeProtect mine (on_volumes.volume_write_over v (guarded_volume v))
adds_to_volume v mine kept =
    let row : GuardsVolume v (guarded_volume v) = record { guard = record { staying = kept.staying; lacks = kept.lacks; change = refl }; rest = refl } in
    volume_written v (guarded_volume v) mine kept.told refl refl (volume_guarded mine (guarded_volume v) v true (with_it pv_protection v.meta.finalizers) row)

drops_from_volume : (v : VolumeData) (mine : List Entry) → MayDropVolume v mine → RowAllows seats.VolumeProtect mine (on_volumes.volume_write_over v (unguarded_volume v))
drops_from_volume v mine kept =
    let row : MayUnguardVolume v (unguarded_volume v) = record { deleting = kept.deleting; loose = kept.loose; change = refl } in
    volume_written v (unguarded_volume v) mine kept.told refl refl (volume_guarded mine (unguarded_volume v) v false (without_it pv_protection v.meta.finalizers) row)

volume_row : (step : VolumeGuardStep) (v : VolumeData) (mine : List Entry) (request : Request) → VolumeStepKeeps step v mine
    → on_volumes.volume_guard_call_at step v ≡ Some request → RowAllows seats.VolumeProtect mine request
volume_row volumes.Adds v mine request kept e = volume_answered mine (on_volumes.volume_write_over v (guarded_volume v)) request e (adds_to_volume v mine kept)
volume_row volumes.Drops v mine request kept e = volume_answered mine (on_volumes.volume_write_over v (unguarded_volume v)) request e (drops_from_volume v mine kept)
volume_row volumes.Done v mine request kept e = none_some e
volume_row volumes.Parked v mine request kept e = none_some e

pub volume_allowed : (op : VolumeGuardOp) (mine : List Entry) (request : Request) → AreOfKind VolumeProtect mine → VolumeKeeps op mine
    → volume_guard_call op ≡ Some request → Licensed VolumeProtect mine request
unfolding volume_guard_call
volume_allowed op mine request own kept e = (own, volume_row op.step op.volume mine request kept e)

-- no call reads a whole kind

claim_reads_none : (step : ClaimGuardStep) (c : ClaimData) → IfSome (on_claims.claim_guard_call_at step c) ReadsNone
claim_reads_none claims.Adds c = λ kind. refl
claim_reads_none claims.Drops c = λ kind. refl
claim_reads_none claims.Done c = tt
claim_reads_none claims.Parked c = tt
claim_reads_none claims.ListsPods c = by (is_some c.meta.uid)
  where
    by : (b : Bool) → IfSome (if b then Some (ListOf kinds.Pod (Some c.meta.namespace)) else None) ReadsNone
    by true = λ kind. refl
    by false = tt

pub claim_calls_read_no_kind : ClaimCallsReadNoKind
unfolding claim_guard_call
claim_calls_read_no_kind op request e = reads_no_kind request (call_reads_none (on_claims.claim_guard_call_at op.step op.claim) request e (claim_reads_none op.step op.claim))

volume_reads_none : (step : VolumeGuardStep) (v : VolumeData) → IfSome (on_volumes.volume_guard_call_at step v) ReadsNone
volume_reads_none volumes.Adds v = λ kind. refl
volume_reads_none volumes.Drops v = λ kind. refl
volume_reads_none volumes.Done v = tt
volume_reads_none volumes.Parked v = tt

pub volume_calls_read_no_kind : VolumeCallsReadNoKind
unfolding volume_guard_call
volume_calls_read_no_kind op request e = reads_no_kind request (call_reads_none (on_volumes.volume_guard_call_at op.step op.volume) request e (volume_reads_none op.step op.volume))
