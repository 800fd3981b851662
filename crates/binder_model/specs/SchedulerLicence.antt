-- Where the scheduler's volume binding may write, after its own earlier entries.
-- A choice of this project; each row restates the evidence on which the volume binding plugin acts.
use Rattle.std.specs.Prelude.{ℕ, ◌≡◌, true, false, List, [], ◌∷◌, Some, ⊤}
use Rattle.plain_data.specs.Pairs.{put_pair}
use Rattle.kube_parts.specs.declared.uid.Uid.{Uid}
use Rattle.kube_objects.specs.declared.key.Key.{Key}
use Rattle.kube_objects.specs.declared.objects.Class.{Class as ClassData}
use Rattle.kube_objects.specs.declared.objects.Claim.{Claim as ClaimData}
use Rattle.kube_objects.specs.declared.objects.Node.{Node as NodeData}
use Rattle.kube_objects.specs.declared.objects.Pod.{Pod as PodData}
use Rattle.kube_objects.specs.declared.objects.Volume.{Volume as VolumeData}
use Rattle.kube_objects.specs.declared.objects.Object.TheVariants.{Class, Node, Volume, Claim, Pod}
use Rattle.kube_objects.specs.Bindings.{selected_node, class_of_claim, is_completed}
use Rattle.label_rules.specs.Selectors.{admits}
use Rattle.call_types.specs.declared.entry.Entry.{Entry}
use Rattle.binder_model.specs.ObjectKeys.{class_key, node_key, claim_key, volume_key}
use Rattle.binder_model.specs.Told.{IsNewest}

-- the row SelectedNode, as the scheduler sets it
pub record MaySelectNode (mine : List Entry) (o new : ClaimData) : Type 0 where
  pub undone : is_completed o ≡ false
  pub class : ClassData
  pub class_newest : IsNewest mine (class_key (class_of_claim o)) (Class class)
  pub delayed : class.delayed ≡ true
  pub node : NodeData
  pub node_newest : IsNewest mine (node_key node.meta.name) (Node node)
  pub change : new ≡ record o { meta = record o.meta { annotations = put_pair selected_node node.meta.name o.meta.annotations } }

-- the newest told version of the claim is completed, and that of its volume admits the node
pub record IsReadyOn (mine : List Entry) (node : NodeData) (namespace name : List ℕ) : Type 0 where
  pub claim : ClaimData
  pub newest : IsNewest mine (claim_key namespace name) (Claim claim)
  pub completed : is_completed claim ≡ true
  pub volume : VolumeData
  pub volume_newest : IsNewest mine (volume_key claim.volume_name) (Volume volume)
  pub admitted : admits volume.terms node.meta.labels ≡ true

-- each of the claims is
abbrev pub AreReadyOn : List Entry → NodeData → List ℕ → List (List ℕ) → Type 0
AreReadyOn mine node namespace [] = ⊤
AreReadyOn mine node namespace (name ∷ names) = IsReadyOn mine node namespace name × AreReadyOn mine node namespace names

-- the row BindPod
pub record MayAssign (mine : List Entry) (key : Key) (uid : Uid) (node : List ℕ) : Type 0 where
  pub pod : PodData
  pub newest : IsNewest mine key (Pod pod)
  pub same : pod.meta.uid ≡ Some uid
  pub unscheduled : pod.node ≡ []
  pub on : NodeData
  pub node_newest : IsNewest mine (node_key node) (Node on)
  pub ready : AreReadyOn mine on pod.meta.namespace pod.claims
