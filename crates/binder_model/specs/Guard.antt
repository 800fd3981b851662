-- What a user may write: the rules on annotations, finalizers, references and policy.
-- A choice of this project. In Kubernetes these fields are the controllers' by convention alone.
use Rattle.std.specs.Prelude.{ℕ, Bool, true, false, not, ◌&&◌, ◌||◌, List, [], Option, Some, None, bytes_eq, is_some, is_none}
use Rattle.std.specs.Bool.{xor}
use Rattle.plain_data.specs.Pairs.{Pair, value_at}
use Rattle.kube_parts.specs.declared.names.Rule.{Rule}
use Rattle.kube_parts.specs.declared.names.Rule.TheVariants as rules
use Rattle.kube_parts.specs.declared.parts.VolumePhase.{VolumePhase}
use Rattle.kube_parts.specs.declared.parts.VolumePhase.TheVariants.{Released}
use Rattle.kube_objects.specs.declared.objects.Ref.{Ref}
use Rattle.kube_objects.specs.declared.objects.Object.{Object}
use Rattle.kube_objects.specs.declared.objects.Object.TheVariants.{Volume, Claim}
use Rattle.kube_objects.specs.Keys.{meta_of}
use Rattle.kube_objects.specs.Bindings.{bind_completed, bound_by_controller, provisioned_by, pv_protection, pvc_protection, has_name, is_ended, is_delete, ref_uid}
use Rattle.binder_model.specs.Same.{same_option, same_ref}

-- the annotations that stood there before the write, none before a create
abbrev pub annotations_before : Option Object → List Pair
annotations_before None = []
annotations_before (Some o) = (meta_of o).annotations

-- the finalizers that stood there before the write, none before a create
abbrev pub finalizers_before : Option Object → List (List ℕ)
finalizers_before None = []
finalizers_before (Some o) = (meta_of o).finalizers

-- the phase is Released
abbrev pub is_in_phase_released : VolumePhase → Bool
is_in_phase_released Released = true
is_in_phase_released _ = false

-- the one exception: a user may clear the reference that a volume in phase Released has, where its policy is not Delete
abbrev pub clears_released : Option Object → Object → Bool
clears_released (Some (Volume old)) (Volume new) = is_in_phase_released old.phase && not (is_delete old.policy) && is_some old.claim_ref && is_none new.claim_ref
clears_released _ _ = false

-- the write sets, changes or drops the annotation
abbrev pub changes_annotation : Option Object → Object → List ℕ → Bool
changes_annotation old new name = not (same_option bytes_eq (value_at name (annotations_before old)) (value_at name (meta_of new).annotations))

-- the write that clears a reference may drop this annotation too
abbrev pub drops_with_reference : Option Object → Object → Bool
drops_with_reference old new = clears_released old new && is_none (value_at bound_by_controller (meta_of new).annotations)

-- the write changes an annotation that is the controllers' own
abbrev pub breaks_annotation : Option Object → Object → Bool
breaks_annotation old new =
    changes_annotation old new bind_completed
    || changes_annotation old new provisioned_by
    || (changes_annotation old new bound_by_controller && not (drops_with_reference old new))

-- the finalizer that admission would add to a new object
abbrev pub is_admitted : Option Object → Object → List ℕ → Bool
is_admitted None (Volume v) name = bytes_eq name pv_protection
is_admitted None (Claim c) name = bytes_eq name pvc_protection
is_admitted _ _ name = false

-- the write adds or drops the finalizer, other than as admission would
abbrev pub changes_finalizer : Option Object → Object → List ℕ → Bool
changes_finalizer old new name = xor (has_name name (finalizers_before old)) (has_name name (meta_of new).finalizers) && not (is_admitted old new name)

-- the write adds or drops a protection finalizer
abbrev pub breaks_finalizer : Option Object → Object → Bool
breaks_finalizer old new = changes_finalizer old new pv_protection || changes_finalizer old new pvc_protection

-- the reference that the volume had before the write, if any
abbrev pub reference_before : Option Object → Option Ref
reference_before (Some (Volume v)) = v.claim_ref
reference_before _ = None

-- there is a reference, and it has a UID
abbrev pub has_uid : Option Ref → Bool
has_uid r = is_some (ref_uid r)

-- a reference with a UID was set, changed or dropped
abbrev pub breaks_reference : Option Object → Object → Bool
breaks_reference old (Volume new) =
    not (same_option same_ref (reference_before old) new.claim_ref)
    && (has_uid (reference_before old) || has_uid new.claim_ref)
    && not (clears_released old (Volume new))
breaks_reference old _ = false

-- policy Delete stays once the volume has ended
abbrev pub breaks_policy : Option Object → Object → Bool
breaks_policy (Some (Volume old)) (Volume new) = is_ended old.phase && is_delete old.policy && not (is_delete new.policy)
breaks_policy _ _ = false

-- the rule where the test holds, else what comes next
unfoldable pub breaks : Bool → Rule → Option Rule → Option Rule
breaks true rule next = Some rule
breaks false rule next = next

-- the first rule that a user's write breaks, beside the one on verbs
unfoldable pub guard : Option Object → Object → Option Rule
guard old new =
    breaks (breaks_annotation old new) rules.Annotation
    (breaks (breaks_finalizer old new) rules.Finalizer
    (breaks (breaks_reference old new) rules.ClaimRef
    (breaks (breaks_policy old new) rules.Policy None)))
