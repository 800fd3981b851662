-- What begins on a key, on the look-up alone: a claim that nothing serves is provisioned, an ended volume is reclaimed.
-- Source: `syncUnboundClaim`, `provisionClaim` and `syncVolume` of `pv_controller.go`; that a claim under a delayed class waits for its
-- node is `shouldProvision` of the external provisioner, by "Volume Binding Mode" of the Kubernetes documentation.
use Rattle.std.specs.Prelude.{ℕ, not, ◌&&◌, List, Option, Some, None, if◌then◌else◌}
use Rattle.plain_data.specs.Pairs.{value_at}
use Rattle.kube_parts.specs.declared.uid.Uid.{Uid}
use Rattle.kube_parts.specs.declared.names.Due.{Due}
use Rattle.kube_parts.specs.declared.names.Due.TheVariants as dues
use Rattle.kube_objects.specs.declared.objects.Class.{Class as ClassData}
use Rattle.kube_objects.specs.declared.objects.Claim.{Claim as ClaimData}
use Rattle.kube_objects.specs.declared.objects.Volume.{Volume as VolumeData}
use Rattle.kube_objects.specs.declared.objects.Object.{Object}
use Rattle.kube_objects.specs.declared.objects.Object.TheVariants.{Class, Node, Volume, Claim}
use Rattle.kube_objects.specs.Keys.{row_at}
use Rattle.kube_objects.specs.Bindings.{selected_node, class_of_claim}
use Rattle.binder_model.specs.ObjectKeys.{class_key, node_key}
use Rattle.binder_model.specs.Due.{reclaim_due}
use Rattle.binder_model.specs.Matching.{has_match}
use Rattle.binder_model.specs.Provisioning.{is_wanting, provisions}
use Rattle.reclaim_ops.specs.declared.provision.ProvisionOp.{ProvisionOp}
use Rattle.reclaim_ops.specs.declared.provision.ProvisionStep.{ProvisionStep}
use Rattle.reclaim_ops.specs.declared.provision.ProvisionStep.TheVariants as provision_steps
use Rattle.reclaim_ops.specs.declared.erase.EraseOp.{EraseOp}
use Rattle.reclaim_ops.specs.declared.erase.EraseStep.TheVariants as erase_steps

-- the provision of a claim at a step
abbrev pub at_step : ClaimData → Uid → ClassData → ProvisionStep → ProvisionOp
at_step c uid x step = record { claim = c; uid = uid; class = x; step = step }

-- the node that was chosen: data are asked for on it, or where it is absent it is taken back
abbrev pub node_step : Option Object → ProvisionStep
node_step (Some (Node n)) = provision_steps.Provisions (Some n.meta.labels)
node_step row = provision_steps.ClearsNode

-- under a delayed class the scheduler chooses the node first
abbrev pub delayed_step : List Object → Option (List ℕ) → Option ProvisionStep
delayed_step rows None = None
delayed_step rows (Some node) = Some (node_step (row_at (node_key node) rows))

-- the first step for a claim of a class
abbrev pub first_step : List Object → ClaimData → ClassData → Option ProvisionStep
first_step rows c x =
    if not (provisions x) then None
    else if x.delayed then delayed_step rows (value_at selected_node c.meta.annotations)
    else Some (provision_steps.Provisions None)

-- what begins at that step, if there is one
abbrev pub begins_at : ClaimData → Uid → ClassData → Option ProvisionStep → Option ProvisionOp
begins_at c uid x None = None
begins_at c uid x (Some step) = Some (at_step c uid x step)

-- the class exists. An object has a UID from its creation on
abbrev pub by_class : List Object → ClaimData → Option Uid → Option Object → Option ProvisionOp
by_class rows c (Some uid) (Some (Class x)) = begins_at c uid x (first_step rows c x)
by_class rows c uid row = None

-- the claim wants a volume and names none, and the binder would take none for it
abbrev pub claim_for : List Object → ClaimData → Option ProvisionOp
claim_for rows c =
    if is_wanting c && not (has_match rows c) then by_class rows c c.meta.uid (row_at (class_key (class_of_claim c)) rows)
    else None

-- what the provisioner begins for what stands under a key
abbrev pub claim_begins : List Object → Option Object → Option ProvisionOp
claim_begins rows (Some (Claim c)) = claim_for rows c
claim_begins rows row = None

-- what is due of reclaiming: the volume is read before its data are erased
abbrev pub volume_for : VolumeData → Option Due → Option EraseOp
volume_for v (Some dues.Reclaim) = Some (record { volume = v; step = erase_steps.ReadsVolume })
volume_for v action = None

-- what the reclaimer begins for what stands under a key
abbrev pub volume_begins : Option Object → Option EraseOp
volume_begins (Some (Volume v)) = volume_for v (reclaim_due v)
volume_begins row = None
