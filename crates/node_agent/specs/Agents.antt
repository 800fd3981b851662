-- What a node agent has under way for one pod: what begins it, its next call, and what the answer to it makes of the machine.
-- Source: the volume manager of kubelet, which reads each claim and then its volume from the API server before it mounts. That a pod
-- whose claims name one volume is parked is a choice of this project.
use Rattle.std.specs.Prelude.{ℕ, Bool, true, false, not, ◌&&◌, List, [], ◌∷◌, ◌++◌, Option, Some, None, bytes_eq, length, map, slice_get, if◌then◌else◌}
use Rattle.std.specs.List.{list_any}
use Rattle.kube_parts.specs.declared.uid.Uid.{Uid}
use Rattle.kube_objects.specs.declared.objects.Claim.{Claim as ClaimData}
use Rattle.kube_objects.specs.declared.objects.Pod.{Pod as PodData}
use Rattle.kube_objects.specs.declared.objects.Object.{Object}
use Rattle.kube_objects.specs.declared.objects.Object.TheVariants.{Volume, Claim, Pod}
use Rattle.kube_objects.specs.Bindings.{carries, is_completed, is_deleting, is_protected_claim, is_scheduled}
use Rattle.call_types.specs.declared.request.Request.{Request}
use Rattle.call_types.specs.declared.request.Request.TheVariants as requests
use Rattle.call_types.specs.declared.reply.MountRow.{MountRow}
use Rattle.call_types.specs.declared.reply.Reply.{Reply}
use Rattle.call_types.specs.declared.reply.Reply.TheVariants.{Found, Mounted, Refused}
use Rattle.binder_model.specs.AgentLicence.{has_row}
use Rattle.binder_model.specs.BindWrites.{is_claim_bound}
use Rattle.binder_model.specs.ObjectKeys.{claim_key, pod_key, volume_key}
use Rattle.node_agent.specs.declared.agent.AgentOp.{AgentOp}
use Rattle.node_agent.specs.declared.step.AgentStep.{AgentStep}
use Rattle.node_agent.specs.declared.step.AgentStep.TheVariants as steps
use Rattle.node_agent.specs.declared.step.ReadyClaim.{ReadyClaim}

-- the next call

-- the UIDs of the claims that were found ready
abbrev pub uids_of : List ReadyClaim → List Uid
uids_of ready = map (λ r. r.uid) ready

-- the call that mounts the pod's claims
abbrev pub mount_call : AgentOp → Request
mount_call op = requests.Mount op.node op.epoch op.uid (uids_of op.ready)

-- the call that ends a pod whose claims are unmounted
abbrev pub finish_call : AgentOp → Request
finish_call op = requests.FinishPod (pod_key op.pod.meta.namespace op.pod.meta.name) op.uid op.node op.epoch

-- the call at a step
abbrev pub agent_call_at : AgentOp → AgentStep → Option Request
agent_call_at op (steps.ReadsClaim name) = Some (requests.Get (claim_key op.pod.meta.namespace name))
agent_call_at op (steps.ReadsVolume name c) = Some (requests.Get (volume_key c.volume_name))
agent_call_at op steps.MountsPod = Some (mount_call op)
agent_call_at op steps.Unmounts = Some (requests.Unmount op.node op.epoch op.uid)
agent_call_at op steps.ReadsMounts = Some (requests.Mounts op.node op.epoch)
agent_call_at op steps.Finishes = Some (finish_call op)
agent_call_at op steps.Done = None
agent_call_at op steps.Parked = None

-- the next call for a pod
unfoldable pub agent_call : AgentOp → Option Request
agent_call op = agent_call_at op op.step

-- what is read next

-- the claim of this name was read
abbrev pub is_claim_read : List ℕ → List ReadyClaim → Bool
is_claim_read name ready = list_any (λ r. bytes_eq r.claim name) ready

-- the volume of this name was read
abbrev pub is_volume_read : List ℕ → List ReadyClaim → Bool
is_volume_read name ready = list_any (λ r. bytes_eq r.volume name) ready

-- the pod is mounted where each of its claims was found ready, else the next claim is read. No store holds a pod that names a claim
-- twice: the test fails in no history
abbrev pub next_step : List ReadyClaim → Option (List ℕ) → AgentStep
next_step ready None = steps.MountsPod
next_step ready (Some name) = if is_claim_read name ready then steps.Parked else steps.ReadsClaim name

-- the next step for a pod, by the claims that were found ready
abbrev pub step_for : PodData → List ReadyClaim → AgentStep
step_for p ready = next_step ready (slice_get p.claims (length ready))

-- the claim stays, is protected, completed and bound
abbrev pub is_agent_ready : ClaimData → Bool
is_agent_ready c = not (is_deleting c.meta) && is_protected_claim c && is_completed c && is_claim_bound c.phase

-- what the answer to the next call makes of the machine

-- a claim that was found ready, if its UID is known
abbrev pub ready_claim : List ℕ → ClaimData → Option Uid → Option ReadyClaim
ready_claim name c None = None
ready_claim name c (Some uid) = Some (record { claim = name; uid = uid; volume = c.volume_name })

-- the claim that the answer shows to be ready: its volume was found carrying it
abbrev pub ready_by : AgentStep → Reply → Option ReadyClaim
ready_by (steps.ReadsVolume name c) (Found (Volume v)) = if carries v c then ready_claim name c c.meta.uid else None
ready_by step reply = None

-- the reads stop at the first claim that is not ready, and at one whose volume was read for another claim
abbrev pub after_claim : List ℕ → List ReadyClaim → Reply → AgentStep
after_claim name ready (Found (Claim c)) = if is_agent_ready c && not (is_volume_read c.volume_name ready) then steps.ReadsVolume name c else steps.Parked
after_claim name ready reply = steps.Parked

-- the step after an Unmount
abbrev pub after_unmount : Reply → AgentStep
after_unmount (Mounted rows) = steps.ReadsMounts
after_unmount reply = steps.Parked

-- the pod is finished only where it is not mounted any more
abbrev pub after_mounts : Uid → Reply → AgentStep
after_mounts uid (Mounted rows) = if has_row uid rows then steps.Parked else steps.Finishes
after_mounts uid reply = steps.Parked

-- the step after the last call
abbrev pub after_last : Reply → AgentStep
after_last (Refused refusal) = steps.Parked
after_last reply = steps.Done

-- the step after an answer
abbrev pub agent_step_after : Uid → List ReadyClaim → AgentStep → Reply → AgentStep
agent_step_after uid ready (steps.ReadsClaim name) reply = after_claim name ready reply
agent_step_after uid ready (steps.ReadsVolume name c) reply = steps.Parked
agent_step_after uid ready steps.MountsPod reply = after_last reply
agent_step_after uid ready steps.Unmounts reply = after_unmount reply
agent_step_after uid ready steps.ReadsMounts reply = after_mounts uid reply
agent_step_after uid ready steps.Finishes reply = after_last reply
agent_step_after uid ready steps.Done reply = steps.Done
agent_step_after uid ready steps.Parked reply = steps.Parked

-- what is under way after an answer, with one more claim ready or none
abbrev pub agent_after : AgentOp → AgentStep → Option ReadyClaim → Reply → AgentOp
agent_after op step (Some r) reply = record op { ready = op.ready ++ r ∷ []; step = step_for op.pod (op.ready ++ r ∷ []) }
agent_after op step None reply = record op { step = agent_step_after op.uid op.ready step reply }

-- what is under way after an answer
unfoldable pub agent_moved : AgentOp → Reply → AgentOp
agent_moved op reply = agent_after op op.step (ready_by op.step reply) reply

-- the key is parked
abbrev pub agent_parks : AgentStep → Bool
agent_parks steps.Parked = true
agent_parks step = false

-- what begins on a pod of the node: one that is to go is unmounted, one that stays and is not mounted has its claims read

-- what begins for a pod of the node
abbrev pub at_start : List ℕ → ℕ → PodData → Uid → AgentStep → AgentOp
at_start node epoch p uid step = record { node = node; epoch = epoch; pod = p; uid = uid; ready = []; step = step }

-- what begins for a pod, by whether it is deleting and mounted
abbrev pub agent_at : List ℕ → ℕ → PodData → Uid → Bool → Option AgentOp
agent_at node epoch p uid mounted =
    if is_deleting p.meta then Some (at_start node epoch p uid steps.Unmounts)
    else if mounted then None
    else Some (at_start node epoch p uid (step_for p []))

-- the mounts are those that the agent was told last. An object has a UID from its creation on
abbrev pub agent_known : List ℕ → ℕ → List MountRow → PodData → Option Uid → Option AgentOp
agent_known node epoch mounts p None = None
agent_known node epoch mounts p (Some uid) = agent_at node epoch p uid (has_row uid mounts)

-- what begins for a pod, if it is on the node
abbrev pub agent_for : List ℕ → ℕ → List MountRow → PodData → Option AgentOp
agent_for node epoch mounts p = if is_scheduled p && bytes_eq p.node node then agent_known node epoch mounts p p.meta.uid else None

-- what an agent begins for what stands under a key
abbrev pub agent_begins : List ℕ → ℕ → List MountRow → Option Object → Option AgentOp
agent_begins node epoch mounts (Some (Pod p)) = agent_for node epoch mounts p
agent_begins node epoch mounts row = None
