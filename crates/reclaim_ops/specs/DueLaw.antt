-- Where the look-up sees the store itself, what begins on a claim is what is due of provisioning, as far as the devices can give it and
-- the store would take the volume. Of reclaiming what begins is what is due, by the definition of what begins.
-- A choice of this project.
use Rattle.std.specs.Prelude.{◌≡◌, Option, Some, None, if◌then◌else◌}
use Rattle.kube_parts.specs.declared.names.Due.{Due}
use Rattle.kube_parts.specs.declared.names.Due.TheVariants as dues
use Rattle.kube_objects.specs.declared.objects.Claim.{Claim as ClaimData}
use Rattle.call_types.specs.declared.setup.Setup.{Setup}
use Rattle.binder_model.specs.Due.{is_served, provision_due, provision_if_new}
use Rattle.binder_model.specs.World.{World}
use Rattle.reclaim_ops.specs.declared.provision.ProvisionOp.{ProvisionOp}
use Rattle.reclaim_ops.specs.declared.provision.ProvisionStep.{ProvisionStep}
use Rattle.reclaim_ops.specs.declared.provision.ProvisionStep.TheVariants as steps
use Rattle.reclaim_ops.specs.Decisions.{claim_for}

-- data that the devices cannot give are not due; under a delayed class the node is taken back then
abbrev pub due_at : Setup → World → ProvisionOp → ProvisionStep → Option Due
due_at setup w op (steps.Provisions labels) =
    if is_served setup w.devices op.claim op.uid op.class labels then provision_if_new w.store.rows op.uid
    else if op.class.delayed then Some dues.ClearNode
    else None
due_at setup w op steps.ClearsNode = Some dues.ClearNode
due_at setup w op step = None

-- what is due by what the provisioner begins
abbrev pub due_of_provision : Setup → World → Option ProvisionOp → Option Due
due_of_provision setup w None = None
due_of_provision setup w (Some op) = due_at setup w op op.step

-- what the provisioner begins for a claim is what is due for it
abbrev pub BeginsWhatIsDue : Type 0
BeginsWhatIsDue = (setup : Setup) (w : World) (c : ClaimData) → due_of_provision setup w (claim_for w.store.rows c) ≡ provision_due setup w c
