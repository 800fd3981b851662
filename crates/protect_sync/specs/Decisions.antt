-- What begins on a key, on the look-up alone: what is due of protection where the look-up shows the store itself. That the pods of
-- the cache are looked at before they are listed is the order of the controller.
-- Source: `processPVC` of the pvc-protection controller and `processPV` of the pv-protection controller.
use Rattle.std.specs.Prelude.{List, Option, Some, None}
use Rattle.kube_parts.specs.declared.names.Due.{Due}
use Rattle.kube_parts.specs.declared.names.Due.TheVariants as dues
use Rattle.kube_objects.specs.declared.objects.Volume.{Volume as VolumeData}
use Rattle.kube_objects.specs.declared.objects.Claim.{Claim as ClaimData}
use Rattle.kube_objects.specs.declared.objects.Object.{Object}
use Rattle.kube_objects.specs.declared.objects.Object.TheVariants.{Volume, Claim}
use Rattle.binder_model.specs.Due.{claim_guard_due, volume_guard_due}
use Rattle.protect_sync.specs.declared.claims.ClaimGuardOp.{ClaimGuardOp}
use Rattle.protect_sync.specs.declared.claims.ClaimGuardStep.TheVariants as claims
use Rattle.protect_sync.specs.declared.volumes.VolumeGuardOp.{VolumeGuardOp}
use Rattle.protect_sync.specs.declared.volumes.VolumeGuardStep.TheVariants as volumes

-- the machine for what is due of a claim: before the finalizer is dropped the pods are listed
abbrev pub claim_guard_for : ClaimData → Option Due → Option ClaimGuardOp
claim_guard_for c (Some dues.Guard) = Some (record { claim = c; step = claims.Adds })
claim_guard_for c (Some dues.Unguard) = Some (record { claim = c; step = claims.ListsPods })
claim_guard_for c action = None

-- what begins for the claim that stands under a key
abbrev pub claim_guard_begins : List Object → Option Object → Option ClaimGuardOp
claim_guard_begins rows (Some (Claim c)) = claim_guard_for c (claim_guard_due rows c)
claim_guard_begins rows row = None

-- the machine for what is due of a volume
abbrev pub volume_guard_for : VolumeData → Option Due → Option VolumeGuardOp
volume_guard_for v (Some dues.Guard) = Some (record { volume = v; step = volumes.Adds })
volume_guard_for v (Some dues.Unguard) = Some (record { volume = v; step = volumes.Drops })
volume_guard_for v action = None

-- what begins for the volume that stands under a key
abbrev pub volume_guard_begins : Option Object → Option VolumeGuardOp
volume_guard_begins (Some (Volume v)) = volume_guard_for v (volume_guard_due v)
volume_guard_begins row = None
