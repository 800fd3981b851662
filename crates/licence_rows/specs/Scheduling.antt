-- What the scheduler's rows ask, part by part, as the code tests it.
-- A choice of this project, as the rows are.
use Rattle.std.specs.Prelude.{ℕ, ◌≡◌, List, [], Some, true, false}
use Rattle.plain_data.specs.Pairs.{put_pair}
use Rattle.kube_parts.specs.declared.uid.Uid.{Uid}
use Rattle.kube_objects.specs.declared.objects.Claim.{Claim as ClaimData}
use Rattle.kube_objects.specs.declared.objects.Class.{Class as ClassData}
use Rattle.kube_objects.specs.declared.objects.Node.{Node as NodeData}
use Rattle.kube_objects.specs.declared.objects.Pod.{Pod as PodData}
use Rattle.kube_objects.specs.declared.objects.Volume.{Volume as VolumeData}
use Rattle.kube_objects.specs.declared.objects.Object.TheVariants.{Class, Node, Volume}
use Rattle.kube_objects.specs.Bindings.{class_of_claim, is_completed, selected_node}
use Rattle.label_rules.specs.Selectors.{admits}
use Rattle.call_types.specs.declared.entry.Entry.{Entry}
use Rattle.binder_model.specs.ObjectKeys.{class_key, node_key, volume_key}
use Rattle.binder_model.specs.SchedulerLicence.{AreReadyOn}
use Rattle.binder_model.specs.Told.{IsNewest}

-- the newest told class of the claim is delayed
abbrev pub IsDelayed : List Entry → ClaimData → Type 0
IsDelayed mine o = (class : ClassData) × (IsNewest mine (class_key (class_of_claim o)) (Class class) × (class.delayed ≡ true))

-- the newest told of the node's name is a node of this name
abbrev pub IsNodeTold : List Entry → List ℕ → Type 0
IsNodeTold mine name = (node : NodeData) × (IsNewest mine (node_key name) (Node node) × (node.meta.name ≡ name))

-- the claim with the annotation that names the node
abbrev pub with_node : ClaimData → List ℕ → ClaimData
with_node o name = record o { meta = record o.meta { annotations = put_pair selected_node name o.meta.annotations } }

-- this node may be chosen for the claim
pub record SelectsNode (mine : List Entry) (o new : ClaimData) (name : List ℕ) : Type 0 where
  pub undone : is_completed o ≡ false
  pub delayed : IsDelayed mine o
  pub told : IsNodeTold mine name
  pub change : new ≡ with_node o name

-- the pod with the UID has no node, and its claims are ready on this one
pub record IsAssignable (mine : List Entry) (pod : PodData) (uid : Uid) (on : NodeData) : Type 0 where
  pub same : pod.meta.uid ≡ Some uid
  pub unscheduled : pod.node ≡ []
  pub ready : AreReadyOn mine on pod.meta.namespace pod.claims

-- the newest told volume of the claim admits the node
abbrev pub IsAdmitted : List Entry → NodeData → ClaimData → Type 0
IsAdmitted mine node claim = (volume : VolumeData) × (IsNewest mine (volume_key claim.volume_name) (Volume volume) × (admits volume.terms node.meta.labels ≡ true))
