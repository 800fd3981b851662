-- What begins on the key of a pod, on a look-up and on the nodes that were refused: the writes of the choice for a pod that no node
-- runs.
-- Source: Kubernetes documentation, "Volume Binding Mode", and the scheduler's volume binding plugin, which finds a node for the pod's
-- volumes and then prepares them there; that the search goes on after the node that was refused last is this project's choice.
use Rattle.std.specs.Prelude.{ℕ, ◌≡◌, Bool, true, false, List, [], ◌∷◌, Option, Some, None, is_some, if◌then◌else◌}
use Rattle.std.specs.List.{list_all, list_any}
use Rattle.kube_parts.specs.declared.uid.Uid.{Uid}
use Rattle.kube_objects.specs.declared.objects.Claim.{Claim as ClaimData}
use Rattle.kube_objects.specs.declared.objects.Pod.{Pod as PodData}
use Rattle.kube_objects.specs.declared.objects.Object.{Object}
use Rattle.kube_objects.specs.declared.objects.Object.TheVariants.{Pod}
use Rattle.kube_objects.specs.Bindings.{is_scheduled, is_uid}
use Rattle.kube_objects.specs.Keys.{key_of}
use Rattle.call_types.specs.declared.request.Request.{Request}
use Rattle.call_types.specs.declared.request.Request.TheVariants.{BindPod}
use Rattle.binder_model.specs.Choice.{claim_named}
use Rattle.delayed_binding.specs.declared.choice.Choice.{Choice}
use Rattle.delayed_binding.specs.declared.choice.Choice.TheVariants.{Assign, Prepare}
use Rattle.delayed_binding.specs.Choices.{IsChoice}
use Rattle.delayed_binding.specs.Writes.{writes_of}
use Rattle.pod_scheduler.specs.declared.schedule.ScheduleOp.{ScheduleOp}
use Rattle.pod_scheduler.specs.declared.schedule.ScheduleStep.TheVariants as steps
use Rattle.pod_scheduler.specs.declared.tries.Tried.{Tried}

-- the node that was refused last for one of the pod's claims

-- there is a claim, and it has this UID
abbrev pub is_claim_of : Uid → Option ClaimData → Bool
is_claim_of uid None = false
is_claim_of uid (Some c) = is_uid c.meta.uid uid

-- one of the pod's claims has this UID
abbrev pub is_tried_for : List Object → PodData → Uid → Bool
is_tried_for rows p uid = list_any (λ name. is_claim_of uid (claim_named rows p.meta.namespace name)) p.claims

-- of the nodes that were refused, the last one first
abbrev pub last_refused : List Object → PodData → List Tried → Option (List ℕ)
last_refused rows p [] = None
last_refused rows p (t ∷ refused) = if is_tried_for rows p t.claim then Some t.node else last_refused rows p refused

-- the writes

-- the pod is bound to the node. An object has a UID from its creation on
abbrev pub binding : PodData → Option Uid → List ℕ → List Request
binding p None node = []
binding p (Some uid) node = BindPod (key_of (Pod p)) uid node ∷ []

-- each claim of the pod has its UID, which it has from its creation on. So this test fails in no history
abbrev pub is_known_in : Option ClaimData → Bool
is_known_in None = true
is_known_in (Some c) = is_some c.meta.uid

-- the UIDs of all claims of the pod are known
abbrev pub are_known : List Object → PodData → Bool
are_known rows p = list_all (λ name. is_known_in (claim_named rows p.meta.namespace name)) p.claims

-- those that are there
abbrev pub present : {X : Type 0} → List (Option X) → List X
present [] = []
present (None ∷ xs) = present xs
present (Some x ∷ xs) = x ∷ present xs

-- the writes that prepare the claims of a pod, where all are known
abbrev pub prepared_writes : List Object → PodData → Choice → List Request
prepared_writes rows p choice = if are_known rows p then present (writes_of rows choice) else []

-- what is written for the choice, in order
abbrev pub writes_for : List Object → PodData → Choice → List Request
writes_for rows p (Assign node) = binding p p.meta.uid node
writes_for rows p (Prepare node binds provisions) = prepared_writes rows p (Prepare node binds provisions)
writes_for rows p choice = []

-- what begins: the writes of the choice, where there are any

-- what begins with these writes, if there are any
abbrev pub begun_with : List Request → Option ScheduleOp
begun_with [] = None
begun_with (w ∷ writes) = Some (record { writes = w ∷ writes; step = steps.Writes 0 })

-- what begins for a pod without a node
pub record BeginsFor (rows : List Object) (refused : List Tried) (p : PodData) (op : Option ScheduleOp) : Type 0 where
  pub choice : Choice
  pub chosen : IsChoice rows p (last_refused rows p refused) choice
  pub begins : op ≡ begun_with (writes_for rows p choice)

-- a pod that has its node is the agent's
abbrev pub BeginsIf : Bool → List Object → List Tried → PodData → Option ScheduleOp → Type 0
BeginsIf true rows refused p op = op ≡ None
BeginsIf false rows refused p op = BeginsFor rows refused p op

-- what begins for what stands under a key
abbrev pub BeginsOn : List Object → List Tried → Option Object → Option ScheduleOp → Type 0
BeginsOn rows refused (Some (Pod p)) op = BeginsIf (is_scheduled p) rows refused p op
BeginsOn rows refused row op = op ≡ None
