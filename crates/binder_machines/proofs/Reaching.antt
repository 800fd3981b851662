-- No call of a machine reads a whole kind, and the key that is queued in a volume's place is a claim's.
use Rattle.std.proofs.Common.{◌≡◌, Bool, true, false, Option, Some, None, refl, sym, ap, if◌then◌else◌}
use Rattle.std.specs.Prelude.{◌&&◌, ◌||◌, IfSome, not, is_some}
use Rattle.kube_objects.specs.declared.key.Key.{Key}
use Rattle.kube_parts.specs.declared.parts.Kind.{Kind}
use Rattle.kube_parts.specs.declared.parts.Kind.TheVariants as kinds
use Rattle.kube_parts.specs.declared.parts.VolumePhase.{VolumePhase}
use Rattle.kube_parts.specs.declared.parts.VolumePhase.TheVariants as volumes
use Rattle.kube_types.specs.declared.lookup.Live.TheVariants.{NotAsked}
use Rattle.kube_objects.specs.declared.objects.Ref.{Ref}
use Rattle.kube_objects.specs.declared.objects.Volume.{Volume as VolumeData}
use Rattle.kube_objects.specs.declared.objects.Claim.{Claim as ClaimData}
use Rattle.kube_objects.specs.declared.objects.Object.{Object}
use Rattle.kube_objects.specs.declared.objects.Object.TheVariants.{Volume, Claim}
use Rattle.kube_objects.specs.Keys.{key_of, row_at}
use Rattle.kube_objects.specs.Bindings.{carries, is_bound, is_empty, is_ended, is_protected_volume}
use Rattle.kube_objects.proofs.KeyOrder.{row_at_key}
use Rattle.call_types.specs.declared.request.Request.{Request}
use Rattle.call_types.proofs.WholeKinds.{ReadsNone, call_reads_none}
use Rattle.binder_model.specs.BindWrites.{claim_write, is_completed_with, next_write, shows_bound, write_bound, write_claim_status, write_completion, write_reference}
use Rattle.claim_sync.specs.ClaimDecision.{claim_decision}
use Rattle.claim_sync.specs.declared.action.ClaimStep.{ClaimStep}
use Rattle.claim_sync.specs.declared.action.ClaimStep.TheVariants as steps
use Rattle.volume_sync.specs.VolumeDecision.{volume_decision}
use Rattle.volume_sync.specs.declared.action.VolumeAction.{VolumeAction}
use Rattle.volume_sync.specs.declared.action.VolumeAction.TheVariants as actions
use Rattle.model_laws.proofs.Lists.{none_some, one}
use Rattle.binder_machines.specs.declared.decide.FirstMachine.{FirstMachine}
use Rattle.binder_machines.specs.declared.decide.FirstMachine.TheVariants.{Queues}
use Rattle.binder_machines.specs.declared.machine.Machine.{Machine}
use Rattle.binder_machines.specs.declared.machine.Machine.TheVariants.{Frees, Binds, MarksBound, ReadsClaim, Releases, Unbinds, ReadsVolume, AssignsClass, Loses}
use Rattle.binder_machines.specs.FirstSteps.{IsClaimFirst, IsFirst, first_of, queue_of, volume_first}
use Rattle.binder_machines.specs.KindLaw.{CallsReadNoKind, VolumesQueueClaims}
use Rattle.binder_machines.specs.Machines.{call_of, machine_for, may_bind, phase_call, read_of, write_class, write_phase}

-- no call of a machine reads a kind

if_some : (b : Bool) (x : Option Request) → IfSome x ReadsNone → IfSome (if b then x else None) ReadsNone
if_some true x h = h
if_some false x h = tt

of_phase : (v : VolumeData) (phase : VolumePhase) → IfSome (phase_call v phase) ReadsNone
of_phase v phase = if_some (is_empty v.meta.namespace) (Some (write_phase v phase)) (λ kind. refl)

of_reference : (o : Option Ref) → IfSome (read_of o) ReadsNone
of_reference None = tt
of_reference (Some r) = λ kind. refl

of_claim : (v : VolumeData) (c : ClaimData) → IfSome (claim_write v c) ReadsNone
unfolding claim_write
of_claim v c = by (is_completed_with c v) (shows_bound c v)
  where
    by : (a b : Bool) → IfSome (if not a then Some (write_completion v c) else if not b then Some (write_claim_status v c) else None) ReadsNone
    by false b = λ kind. refl
    by true false = λ kind. refl
    by true true = tt

of_writes : (v : VolumeData) (c : ClaimData) → IfSome (next_write v c) ReadsNone
unfolding next_write
of_writes v c = by (carries v c) (is_ended v.phase) (is_bound v.phase) (is_protected_volume v)
  where
    by : (a b d g : Bool) → IfSome (if not a then (if b then None else Some (write_reference v c)) else if not d then
        (if b || not g then None else Some (write_bound v)) else claim_write v c) ReadsNone
    by false true d g = tt
    by false false d g = λ kind. refl
    by true true false g = tt
    by true false false true = λ kind. refl
    by true false false false = tt
    by true b true g = of_claim v c

of_call : (machine : Machine) → IfSome (call_of machine) ReadsNone
unfolding call_of
of_call (Frees v) = of_phase v volumes.Available
of_call (Binds v c) = if_some (may_bind v c) (next_write v c) (of_writes v c)
of_call (MarksBound v) = of_phase v volumes.Bound
of_call (ReadsClaim v) = if_some (is_empty v.meta.namespace && is_some v.meta.uid) (read_of v.claim_ref) (of_reference v.claim_ref)
of_call (Releases v) = of_phase v volumes.Released
of_call (Unbinds v) = λ kind. refl
of_call (ReadsVolume c) = if_some (is_some c.meta.uid) _ (λ kind. refl)
of_call (AssignsClass c x) = if_some (is_some c.meta.uid && is_empty x.meta.namespace) (Some (write_class c x)) (λ kind. refl)
of_call (Loses c) = λ kind. refl

pub calls_read_no_kind : CallsReadNoKind
calls_read_no_kind machine request kind e = call_reads_none (call_of machine) request e (of_call machine) kind

-- the key that is queued

abbrev queued_in : FirstMachine → Option Key
queued_in (Queues key) = Some key
queued_in first = None

pub volumes_queue_claims : VolumesQueueClaims
volumes_queue_claims rows key other first = by (row_at key rows) refl first
  where
    kind_of_key : Key → Kind
    kind_of_key k = k.kind

    by_reference : (v : VolumeData) (r : Option Ref) → key_of (Volume v) ≡ key → Queues other ≡ queue_of r → (key.kind ≡ kinds.PersistentVolume) × (other.kind ≡ kinds.PersistentVolumeClaim)
    by_reference v None is e = none_some (sym (ap queued_in e))
    by_reference v (Some r) is e = (sym (ap kind_of_key is), ap kind_of_key (one other _ (ap queued_in e)))

    no_machine : (m : Option Machine) → Queues other ≡ first_of m → (key.kind ≡ kinds.PersistentVolume) × (other.kind ≡ kinds.PersistentVolumeClaim)
    no_machine None e = none_some (sym (ap queued_in e))
    no_machine (Some machine) e = none_some (sym (ap queued_in e))

    by_action : (v : VolumeData) (d : VolumeAction) → key_of (Volume v) ≡ key → Queues other ≡ volume_first v d → (key.kind ≡ kinds.PersistentVolume) × (other.kind ≡ kinds.PersistentVolumeClaim)
    by_action v actions.QueueClaim is e = by_reference v v.claim_ref is e
    by_action v actions.Nothing is e = no_machine (machine_for v actions.Nothing) e
    by_action v actions.ReadClaim is e = no_machine (machine_for v actions.ReadClaim) e
    by_action v actions.Available is e = no_machine (machine_for v actions.Available) e
    by_action v actions.Bound is e = no_machine (machine_for v actions.Bound) e
    by_action v actions.Release is e = no_machine (machine_for v actions.Release) e
    by_action v actions.Unbind is e = no_machine (machine_for v actions.Unbind) e

    by_step : (c : ClaimData) (d : ClaimStep) → IsClaimFirst rows c d (Queues other) → (key.kind ≡ kinds.PersistentVolume) × (other.kind ≡ kinds.PersistentVolumeClaim)
    by_step c steps.Bind e = none_some (sym (ap queued_in e.begins))
    by_step c steps.Nothing e = none_some (sym (ap queued_in e))
    by_step c steps.ReadVolume e = none_some (sym (ap queued_in e))
    by_step c steps.AssignClass e = none_some (sym (ap queued_in e.begins))
    by_step c steps.Lost e = none_some (sym (ap queued_in e))

    by : (o : Option Object) → row_at key rows ≡ o → IsFirst rows o (Queues other) → (key.kind ≡ kinds.PersistentVolume) × (other.kind ≡ kinds.PersistentVolumeClaim)
    by (Some (Volume v)) is e = by_action v (volume_decision rows v NotAsked) (row_at_key key (Volume v) rows is) e
    by (Some (Claim c)) is e = by_step c (claim_decision rows c NotAsked) e
    by (Some _) is e = none_some (sym (ap queued_in e))
    by None is e = none_some (sym (ap queued_in e))
