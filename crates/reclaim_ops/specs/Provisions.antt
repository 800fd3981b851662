-- What the provisioner has under way for one claim: its next call, and what the answer to it makes of the machine.
-- Source: `provisionClaimOperation` of `pv_controller.go`, and `rescheduleProvisioning`, which takes a node that cannot serve the claim
-- back. That a fault of the back end parks the claim, and that data stay where the volume is refused, is a choice of this project.
use Rattle.std.specs.Prelude.{ℕ, Bool, true, false, List, Option, Some, None, if◌then◌else◌}
use Rattle.plain_data.specs.Pairs.{Pair, without_key}
use Rattle.kube_parts.specs.declared.uid.Uid.{Uid}
use Rattle.kube_objects.specs.declared.objects.DataId.{DataId}
use Rattle.kube_objects.specs.declared.objects.Class.{Class as ClassData}
use Rattle.kube_objects.specs.declared.objects.Claim.{Claim as ClaimData}
use Rattle.kube_objects.specs.declared.objects.Object.TheVariants.{Volume, Claim}
use Rattle.kube_objects.specs.Bindings.{selected_node}
use Rattle.call_types.specs.declared.request.Request.{Request}
use Rattle.call_types.specs.declared.request.Request.TheVariants as requests
use Rattle.call_types.specs.declared.reply.Refusal.TheVariants.{Exhausted}
use Rattle.call_types.specs.declared.reply.Reply.{Reply}
use Rattle.call_types.specs.declared.reply.Reply.TheVariants.{Provisioned, Refused}
use Rattle.binder_model.specs.Provisioning.{data_name, provisioned_volume}
use Rattle.reclaim_ops.specs.declared.provision.ProvisionOp.{ProvisionOp}
use Rattle.reclaim_ops.specs.declared.provision.ProvisionStep.{ProvisionStep}
use Rattle.reclaim_ops.specs.declared.provision.ProvisionStep.TheVariants as steps

-- data for the claim, on a node with these labels where one was chosen
abbrev pub ask_call : ClaimData → Uid → ClassData → Option (List Pair) → Request
ask_call c uid x labels = requests.Provision (data_name uid) x.provisioner c.amount.bytes labels

-- the volume over the data
abbrev pub create_call : ClaimData → Uid → ClassData → DataId → Option (List ℕ × List ℕ) → Request
create_call c uid x id topology = requests.Create (Volume (provisioned_volume c uid x id topology))

-- the claim without the node that was chosen for it, and the write of it over the one that was told
abbrev pub unselected : ClaimData → ClaimData
unselected c = record c { meta = record c.meta { annotations = without_key selected_node c.meta.annotations } }

-- the write that takes the node back from a claim
abbrev pub clear_call : ClaimData → Request
clear_call c = requests.Update (Claim (unselected c)) (Some c.meta.version)

-- the call at a step
abbrev pub provision_call_at : ProvisionStep → ClaimData → Uid → ClassData → Option Request
provision_call_at (steps.Provisions labels) c uid x = Some (ask_call c uid x labels)
provision_call_at (steps.Creates id topology) c uid x = Some (create_call c uid x id topology)
provision_call_at steps.ClearsNode c uid x = Some (clear_call c)
provision_call_at steps.Done c uid x = None
provision_call_at steps.Parked c uid x = None

-- the next call, or none where nothing is left to be asked
unfoldable pub provision_call : ProvisionOp → Option Request
provision_call op = provision_call_at op.step op.claim op.uid op.class

-- where the step leads: a machine that has ended stays so, and a refusal parks the key. But where no pool has the bytes, the node that was
-- chosen under a delayed class is taken back
abbrev pub provision_step_after : ProvisionStep → ClassData → Reply → ProvisionStep
provision_step_after steps.Done x reply = steps.Done
provision_step_after steps.Parked x reply = steps.Parked
provision_step_after (steps.Provisions labels) x (Provisioned id topology) = steps.Creates id topology
provision_step_after (steps.Provisions labels) x (Refused (Exhausted free)) = if x.delayed then steps.ClearsNode else steps.Parked
provision_step_after step x (Refused refusal) = steps.Parked
provision_step_after step x reply = steps.Done

-- what the answer to the next call makes of the machine
unfoldable pub provision_moved : ProvisionOp → Reply → ProvisionOp
provision_moved op reply = record op { step = provision_step_after op.step op.class reply }

-- the key is parked
abbrev pub provision_parks : ProvisionStep → Bool
provision_parks steps.Parked = true
provision_parks step = false
