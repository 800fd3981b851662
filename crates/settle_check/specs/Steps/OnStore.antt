-- The conditions of the tables where the store itself is seen. For the proofs alone.
use Rattle.std.specs.Prelude.{Bool, true, List, [], ◌∷◌, ◌++◌, Option, Some, None, is_none}
use Rattle.kube_parts.specs.declared.uid.Uid.{Uid}
use Rattle.kube_objects.specs.declared.objects.Ref.{Ref}
use Rattle.kube_objects.specs.declared.objects.Claim.{Claim as ClaimData}
use Rattle.kube_objects.specs.declared.objects.Volume.{Volume as VolumeData}
use Rattle.kube_objects.specs.declared.objects.Object.{Object}
use Rattle.kube_objects.specs.Bindings.{is_delete, is_deleting, is_protected_volume}
use Rattle.kube_objects.specs.Keys.{row_at}
use Rattle.binder_model.specs.BinderDue.{claim_with}
use Rattle.binder_model.specs.Due.{claim_guard_due}
use Rattle.binder_model.specs.ObjectKeys.{claim_key}
use Rattle.claim_sync.specs.ClaimDecision.{may_assign, named_volume}
use Rattle.claim_sync.specs.Conditions.{conditions_on as claim_conditions_on, has_best}
use Rattle.volume_sync.specs.Conditions.{conditions_on as volume_conditions_on}
use Rattle.settle_check.specs.DueTables.{without}

-- the claim that the reference names with its UID
abbrev pub claim_of_uid : List Object → Ref → Option Uid → Option ClaimData
claim_of_uid rows r None = None
claim_of_uid rows r (Some uid) = claim_with uid (row_at (claim_key r.namespace r.name) rows)

-- the claim to which a reference leads
abbrev pub claim_referred : List Object → Option Ref → Option ClaimData
claim_referred rows None = None
claim_referred rows (Some r) = claim_of_uid rows r r.uid

-- the conditions on a volume, whose reference names this claim
abbrev pub volume_conditions : VolumeData → Option ClaimData → List Bool
volume_conditions v claim =
    without 4 (volume_conditions_on v true claim) ++ (is_delete v.policy ∷ is_deleting v.meta ∷ is_protected_volume v ∷ [])

-- the conditions on a claim
abbrev pub claim_conditions : List Object → ClaimData → List Bool
claim_conditions rows c =
    is_none (claim_guard_due rows c) ∷ without 7 (claim_conditions_on c (has_best rows c) (may_assign rows c) true true (named_volume rows c))
