-- What begins on a key has its evidence, where the look-up shows what was told newest; and it has a next call.
use Rattle.std.proofs.Common.{◌≡◌, List, Bool, true, false, true≢false, Option, Some, None, refl, sym, ◌∙◌, ap, subst, if◌then◌else◌}
use Rattle.std.specs.Prelude.{is_some}
use Rattle.std.specs.List.{list_any}
use Rattle.kube_objects.specs.declared.key.Key.{Key}
use Rattle.kube_parts.specs.declared.parts.Kind.TheVariants as kinds
use Rattle.kube_parts.specs.declared.names.Due.{Due}
use Rattle.kube_parts.specs.declared.names.Due.TheVariants as dues
use Rattle.kube_objects.specs.declared.objects.Volume.{Volume as VolumeData}
use Rattle.kube_objects.specs.declared.objects.Claim.{Claim as ClaimData}
use Rattle.kube_objects.specs.declared.objects.Object.{Object}
use Rattle.kube_objects.specs.declared.objects.Object.TheVariants.{Class, Node, Volume, Claim, Pod}
use Rattle.kube_objects.specs.Bindings.{is_bound, is_deleting, is_protected_claim, is_protected_volume, uses}
use Rattle.kube_objects.specs.Keys.{row_at}
use Rattle.call_types.specs.declared.entry.Entry.{Entry}
use Rattle.call_types.specs.declared.request.Request.TheVariants.{List as ListOf}
use Rattle.binder_model.specs.Due.{claim_guard_due, guard_due, volume_guard_due}
use Rattle.binder_model.specs.Told.{ToldClaim, ToldVolume}
use Rattle.informer_cache.specs.All.{AllKnown, AllStandFor, all_objects}
use Rattle.model_laws.proofs.Lists.{none_some, one}
use Rattle.model_laws.proofs.Newest.{newest_claim, newest_volume}
use Rattle.protect_sync.specs.declared.claims.ClaimGuardOp.{ClaimGuardOp}
use Rattle.protect_sync.specs.declared.claims.ClaimGuardStep.{ClaimGuardStep}
use Rattle.protect_sync.specs.declared.claims.ClaimGuardStep.TheVariants as claims
use Rattle.protect_sync.specs.declared.volumes.VolumeGuardOp.{VolumeGuardOp}
use Rattle.protect_sync.specs.declared.volumes.VolumeGuardStep.{VolumeGuardStep}
use Rattle.protect_sync.specs.declared.volumes.VolumeGuardStep.TheVariants as volumes
use Rattle.protect_sync.specs.BeginLaw.{BegunClaimsHaveCalls, BegunVolumesHaveCalls, ParkedClaimsHaveEnded, ParkedVolumesHaveEnded}
use Rattle.protect_sync.specs.ClaimGuards.{claim_guard_call_at, claim_guard_call, claim_parks, list_call}
use Rattle.protect_sync.specs.Decisions.{claim_guard_begins, claim_guard_for, volume_guard_begins, volume_guard_for}
use Rattle.protect_sync.specs.Evidence.{ClaimKeeps, VolumeKeeps}
use Rattle.protect_sync.specs.VolumeGuards.{volume_guard_call_at, volume_guard_call, volume_parks}

-- of an object that stays it counts for nothing whether it is needed
pub staying : (deleting guarded needed : Bool) → deleting ≡ false → guard_due deleting guarded needed ≡ guard_due deleting guarded false
staying true guarded needed e = cc
staying false true needed e = refl
staying false false needed e = refl

claim_becomes : (a b : ClaimGuardOp) (mine : List Entry) → Some a ≡ Some b → ClaimKeeps a mine → ClaimKeeps b mine
claim_becomes a b mine e kept = subst (λ (k : ClaimGuardOp). ClaimKeeps k mine) (one a b e) kept

volume_becomes : (a b : VolumeGuardOp) (mine : List Entry) → Some a ≡ Some b → VolumeKeeps a mine → VolumeKeeps b mine
volume_becomes a b mine e kept = subst (λ (k : VolumeGuardOp). VolumeKeeps k mine) (one a b e) kept

-- a claim
claim_keeps : (c : ClaimData) (needed : Bool) (mine : List Entry) (op : ClaimGuardOp) → ToldClaim (λ o. o ≡ c) mine
    → claim_guard_for c (guard_due (is_deleting c.meta) (is_protected_claim c) needed) ≡ Some op → ClaimKeeps op mine
claim_keeps c needed mine op told = by (is_deleting c.meta) (is_protected_claim c) needed refl refl
  where
    by : (deleting guarded need : Bool) → is_deleting c.meta ≡ deleting → is_protected_claim c ≡ guarded → claim_guard_for c (guard_due deleting guarded need) ≡ Some op → ClaimKeeps op mine
    by false false need d g e = claim_becomes (record { claim = c; step = claims.Adds }) op mine e (record { told = told; staying = d; lacks = g })
    by true true false d g e = claim_becomes (record { claim = c; step = claims.ListsPods }) op mine e (record { told = told; deleting = d })
    by true true true d g e = none_some e
    by true false need d g e = none_some e
    by false true need d g e = none_some e

pub claim_decisions : (caches : AllKnown) (mine : List Entry) (key : Key) (op : ClaimGuardOp) → AllStandFor caches mine
    → claim_guard_begins (all_objects caches) (row_at key (all_objects caches)) ≡ Some op → ClaimKeeps op mine
claim_decisions caches mine key op stand = by (row_at key (all_objects caches)) refl
  where
    by : (row : Option Object) → row_at key (all_objects caches) ≡ row → claim_guard_begins (all_objects caches) row ≡ Some op → ClaimKeeps op mine
    by (Some (Claim c)) at e = claim_keeps c (list_any (uses c) (all_objects caches)) mine op (newest_claim (λ d. d ≡ c) mine key c (sym (stand.rows key) ∙ at) refl) e
    by None at e = none_some e
    by (Some (Class x)) at e = none_some e
    by (Some (Node x)) at e = none_some e
    by (Some (Volume x)) at e = none_some e
    by (Some (Pod x)) at e = none_some e

-- a volume
volume_keeps : (v : VolumeData) (mine : List Entry) (op : VolumeGuardOp) → ToldVolume (λ o. o ≡ v) mine
    → volume_guard_for v (guard_due (is_deleting v.meta) (is_protected_volume v) (is_bound v.phase)) ≡ Some op → VolumeKeeps op mine
volume_keeps v mine op told = by (is_deleting v.meta) (is_protected_volume v) (is_bound v.phase) refl refl refl
  where
    by : (deleting guarded bound : Bool) → is_deleting v.meta ≡ deleting → is_protected_volume v ≡ guarded → is_bound v.phase ≡ bound
        → volume_guard_for v (guard_due deleting guarded bound) ≡ Some op → VolumeKeeps op mine
    by false false bound d g b e = volume_becomes (record { volume = v; step = volumes.Adds }) op mine e (record { told = told; staying = d; lacks = g })
    by true true false d g b e = volume_becomes (record { volume = v; step = volumes.Drops }) op mine e (record { told = told; deleting = d; loose = b })
    by true true true d g b e = none_some e
    by true false bound d g b e = none_some e
    by false true bound d g b e = none_some e

pub volume_decisions : (caches : AllKnown) (mine : List Entry) (key : Key) (op : VolumeGuardOp) → AllStandFor caches mine
    → volume_guard_begins (row_at key (all_objects caches)) ≡ Some op → VolumeKeeps op mine
volume_decisions caches mine key op stand = by (row_at key (all_objects caches)) refl
  where
    by : (row : Option Object) → row_at key (all_objects caches) ≡ row → volume_guard_begins row ≡ Some op → VolumeKeeps op mine
    by (Some (Volume v)) at e = volume_keeps v mine op (newest_volume (λ u. u ≡ v) mine key v (sym (stand.rows key) ∙ at) refl) e
    by None at e = none_some e
    by (Some (Class x)) at e = none_some e
    by (Some (Node x)) at e = none_some e
    by (Some (Claim x)) at e = none_some e
    by (Some (Pod x)) at e = none_some e

-- next calls

has_call : (a b : ClaimGuardOp) → Some a ≡ Some b → is_some (claim_guard_call a) ≡ true → is_some (claim_guard_call b) ≡ true
has_call a b e is = subst (λ (k : ClaimGuardOp). is_some (claim_guard_call k) ≡ true) (one a b e) is

volume_has_call : (a b : VolumeGuardOp) → Some a ≡ Some b → is_some (volume_guard_call a) ≡ true → is_some (volume_guard_call b) ≡ true
volume_has_call a b e is = subst (λ (k : VolumeGuardOp). is_some (volume_guard_call k) ≡ true) (one a b e) is

lists : (c : ClaimData) → is_some c.meta.uid ≡ true → is_some (list_call c) ≡ true
lists c known = ap (λ (b : Bool). is_some (if b then Some (ListOf kinds.Pod (Some c.meta.namespace)) else None)) known

claim_calls : (c : ClaimData) (action : Option Due) (op : ClaimGuardOp) → is_some c.meta.uid ≡ true → claim_guard_for c action ≡ Some op → is_some (claim_guard_call op) ≡ true
unfolding claim_guard_call
claim_calls c (Some dues.Guard) op known e = has_call (record { claim = c; step = claims.Adds }) op e refl
claim_calls c (Some dues.Unguard) op known e = has_call (record { claim = c; step = claims.ListsPods }) op e (lists c known)
claim_calls c (Some _) op known e = none_some e
claim_calls c None op known e = none_some e

pub begun_claims_have_calls : BegunClaimsHaveCalls
begun_claims_have_calls rows key op known = by (row_at key rows) refl
  where
    by : (row : Option Object) → row_at key rows ≡ row → claim_guard_begins rows row ≡ Some op → is_some (claim_guard_call op) ≡ true
    by (Some (Claim c)) at e = claim_calls c (claim_guard_due rows c) op (known key (Claim c) at) e
    by None at e = none_some e
    by (Some (Class x)) at e = none_some e
    by (Some (Node x)) at e = none_some e
    by (Some (Volume x)) at e = none_some e
    by (Some (Pod x)) at e = none_some e

volume_calls : (v : VolumeData) (action : Option Due) (op : VolumeGuardOp) → volume_guard_for v action ≡ Some op → is_some (volume_guard_call op) ≡ true
unfolding volume_guard_call
volume_calls v (Some dues.Guard) op e = volume_has_call (record { volume = v; step = volumes.Adds }) op e refl
volume_calls v (Some dues.Unguard) op e = volume_has_call (record { volume = v; step = volumes.Drops }) op e refl
volume_calls v (Some _) op e = none_some e
volume_calls v None op e = none_some e

pub begun_volumes_have_calls : BegunVolumesHaveCalls
begun_volumes_have_calls (Some (Volume v)) op e = volume_calls v (volume_guard_due v) op e
begun_volumes_have_calls None op e = none_some e
begun_volumes_have_calls (Some (Class x)) op e = none_some e
begun_volumes_have_calls (Some (Node x)) op e = none_some e
begun_volumes_have_calls (Some (Claim x)) op e = none_some e
begun_volumes_have_calls (Some (Pod x)) op e = none_some e

-- what is parked has ended

pub parked_claims_have_ended : ParkedClaimsHaveEnded
unfolding claim_guard_call
parked_claims_have_ended op = by op.step
  where
    by : (step : ClaimGuardStep) → claim_parks step ≡ true → claim_guard_call_at step op.claim ≡ None
    by claims.Parked e = refl
    by claims.Adds e = absurd (true≢false (sym e))
    by claims.ListsPods e = absurd (true≢false (sym e))
    by claims.Drops e = absurd (true≢false (sym e))
    by claims.Done e = absurd (true≢false (sym e))

pub parked_volumes_have_ended : ParkedVolumesHaveEnded
unfolding volume_guard_call
parked_volumes_have_ended op = by op.step
  where
    by : (step : VolumeGuardStep) → volume_parks step ≡ true → volume_guard_call_at step op.volume ≡ None
    by volumes.Parked e = refl
    by volumes.Adds e = absurd (true≢false (sym e))
    by volumes.Drops e = absurd (true≢false (sym e))
    by volumes.Done e = absurd (true≢false (sym e))
