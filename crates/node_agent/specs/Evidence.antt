-- The evidence that a machine of a node agent keeps, in the entries of its seat, the newest first. A choice of this project.
use Rattle.std.specs.Prelude.{ℕ, ◌≡◌, Bool, true, false, List, [], ◌∷◌, ◌++◌, Option, Some, None, is_some, length, slice_get, ⊤}
use Rattle.std.specs.List.{list_any}
use Rattle.kube_parts.specs.declared.uid.Uid.{Uid}
use Rattle.kube_objects.specs.declared.objects.Claim.{Claim as ClaimData}
use Rattle.kube_objects.specs.declared.objects.Pod.{Pod as PodData}
use Rattle.kube_objects.specs.declared.objects.Object.{Object}
use Rattle.kube_objects.specs.declared.objects.Object.TheVariants.{Claim, Pod}
use Rattle.kube_objects.specs.Bindings.{is_deleting}
use Rattle.call_types.specs.declared.entry.Entry.{Entry}
use Rattle.call_types.specs.declared.reply.Reply.TheVariants.{Found}
use Rattle.binder_model.specs.AgentLicence.{IsEndingPod, IsPodOn, IsReadReady, ListedPods, epoch_in, last_epoch, last_get, never_finished, since_epoch, was_told_unmounted}
use Rattle.binder_model.specs.ObjectKeys.{claim_key, pod_key, volume_key}
use Rattle.binder_model.specs.Reading.{FoundNaming}
use Rattle.binder_model.specs.Told.{IsNewest, IsPodWith, SomeOf, TellsObject, ToldPod}
use Rattle.safety_law.specs.Pods.Tellings.{tells_pod}
use Rattle.node_agent.specs.declared.agent.AgentOp.{AgentOp}
use Rattle.node_agent.specs.declared.step.AgentStep.{AgentStep}
use Rattle.node_agent.specs.declared.step.AgentStep.TheVariants as steps
use Rattle.node_agent.specs.declared.step.ReadyClaim.{ReadyClaim}
use Rattle.node_agent.specs.Agents.{is_claim_read, is_agent_ready, is_volume_read}

-- a claim that was counted as ready was read so, and then its volume
pub record IsFoundReady (recent : List Entry) (namespace name : List ℕ) (r : ReadyClaim) : Type 0 where
  pub named : r.claim ≡ name
  pub read : IsReadReady recent namespace name r.uid
  pub of : read.claim.volume_name ≡ r.volume

-- the first claims of a pod, one for each that was counted
abbrev pub AreFoundReady : List Entry → List ℕ → List ReadyClaim → List (List ℕ) → Type 0
AreFoundReady recent namespace [] names = ⊤
AreFoundReady recent namespace (r ∷ ready) [] = ⊥
AreFoundReady recent namespace (r ∷ ready) (name ∷ names) = IsFoundReady recent namespace name r × AreFoundReady recent namespace ready names

-- The pod was told since the node was taken, by a list of all pods or after one, and is the newest told: it is on the node and stays.
-- `recent` are the entries after the one that told it: by them the claims counted are ready. The seat never asked to finish the pod
pub record MayReadForPod (op : AgentOp) (mine : List Entry) : Type 0 where
  pub current : last_epoch op.node mine ≡ Some op.epoch
  pub recent : List Entry
  pub teller : Entry
  pub earlier : List Entry
  pub since : since_epoch op.node mine ≡ recent ++ teller ∷ earlier
  pub listed : ListedPods (teller ∷ earlier)
  pub told : TellsObject (IsPodWith (λ p. p ≡ op.pod)) teller
  pub on_node : IsPodOn op.uid op.node op.pod
  pub newest : IsNewest mine (pod_key op.pod.meta.namespace op.pod.meta.name) (Pod op.pod)
  pub staying : is_deleting op.pod.meta ≡ false
  pub ready : AreFoundReady recent op.pod.meta.namespace op.ready op.pod.claims
  pub unfinished : never_finished op.uid mine ≡ true

-- the next claim of the pod, which was not read yet
pub record IsNext (op : AgentOp) (name : List ℕ) : Type 0 where
  pub place : slice_get op.pod.claims (length op.ready) ≡ Some name
  pub unread : is_claim_read name op.ready ≡ false

-- the entries allow the read of the pod's next claim
pub record MayReadClaim (op : AgentOp) (name : List ℕ) (mine : List Entry) : Type 0 where
  pub pod : MayReadForPod op mine
  pub next : IsNext op name

-- the next claim was read last, and found ready; its volume was read for no other claim
pub record MayReadVolume (op : AgentOp) (name : List ℕ) (c : ClaimData) (mine : List Entry) : Type 0 where
  pub pod : MayReadForPod op mine
  pub next : IsNext op name
  pub read : last_get (claim_key op.pod.meta.namespace name) pod.recent ≡ Some (Found (Claim c))
  pub ready : is_agent_ready c ≡ true
  pub apart : is_volume_read c.volume_name op.ready ≡ false
  pub naming : SomeOf (λ e. (e.told ≡ true) × FoundNaming (volume_key c.volume_name) e.reply) mine

-- each claim of the pod was counted
pub record MayMountPod (op : AgentOp) (mine : List Entry) : Type 0 where
  pub pod : MayReadForPod op mine
  pub whole : slice_get op.pod.claims (length op.ready) ≡ None

-- the pod was told deleting, on the node
pub record MayEnd (op : AgentOp) (mine : List Entry) : Type 0 where
  pub current : last_epoch op.node mine ≡ Some op.epoch
  pub told : ToldPod (IsEndingPod op.uid op.node) mine

-- and since the node was taken its mounts were told without the pod
pub record MayFinishPod (op : AgentOp) (mine : List Entry) : Type 0 where
  pub ending : MayEnd op mine
  pub unmounted : was_told_unmounted op.node op.epoch op.uid (since_epoch op.node mine) ≡ true

-- the entries allow the call at a step
abbrev pub StepKeeps : AgentStep → AgentOp → List Entry → Type 0
StepKeeps (steps.ReadsClaim name) op mine = MayReadClaim op name mine
StepKeeps (steps.ReadsVolume name c) op mine = MayReadVolume op name c mine
StepKeeps steps.MountsPod op mine = MayMountPod op mine
StepKeeps steps.Unmounts op mine = MayEnd op mine
StepKeeps steps.ReadsMounts op mine = MayEnd op mine
StepKeeps steps.Finishes op mine = MayFinishPod op mine
StepKeeps step op mine = ⊤

-- the step counts by what it asks alone
abbrev pub at_rest : AgentOp → AgentOp
at_rest op = record op { step = steps.Done }

-- the entries allow the next call for the pod
abbrev pub AgentKeeps : AgentOp → List Entry → Type 0
AgentKeeps op mine = StepKeeps op.step (at_rest op) mine

-- the start of an agent

-- Since the node was taken pods were told only by a list of all pods or after one, and none was told before: what the start of an
-- agent brings about, and each told answer that is no TakeNode keeps once the pods are listed
abbrev pub StartedBy : Bool → List ℕ → Entry → List Entry → Type 0 → Type 0
StartedBy true node e mine before = list_any tells_pod (e ∷ mine) ≡ false
StartedBy false node e mine before = (tells_pod e ≡ true → ListedPods (e ∷ since_epoch node mine)) × before

-- the agent took the node before it asked anything of it
abbrev pub HasStarted : List ℕ → List Entry → Type 0
HasStarted node [] = ⊤
HasStarted node (e ∷ mine) = StartedBy (is_some (epoch_in node e)) node e mine (HasStarted node mine)

-- what the decision on the key of a pod stands on: the epoch is the last, the agent has started, and it never asked to finish a pod
-- that the look-up shows and that stays
pub record MayDecide (node : List ℕ) (epoch : ℕ) (row : Option Object) (mine : List Entry) : Type 0 where
  pub current : last_epoch node mine ≡ Some epoch
  pub started : HasStarted node mine
  pub unfinished : (p : PodData) (uid : Uid) → row ≡ Some (Pod p) → p.meta.uid ≡ Some uid → is_deleting p.meta ≡ false → never_finished uid mine ≡ true
