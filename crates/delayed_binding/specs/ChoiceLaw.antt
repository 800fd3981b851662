-- Laws of the choice: there is one, and where the look-up is the store itself it is what is due for the pod.
-- A choice of this project.
use Rattle.std.specs.Prelude.{ℕ, ◌≡◌, ◌↔◌, false, List, [], Option, Some, None, ⊤}
use Rattle.kube_objects.specs.declared.key.Key.{Key}
use Rattle.kube_parts.specs.declared.names.Due.{Due}
use Rattle.kube_parts.specs.declared.names.Due.TheVariants as dues
use Rattle.kube_objects.specs.declared.objects.Node.{Node as NodeData}
use Rattle.kube_objects.specs.declared.objects.Pod.{Pod as PodData}
use Rattle.kube_objects.specs.declared.objects.Volume.{Volume as VolumeData}
use Rattle.kube_objects.specs.declared.objects.Object.{Object}
use Rattle.kube_objects.specs.declared.objects.Object.TheVariants.{Node, Volume, Pod}
use Rattle.kube_objects.specs.Bindings.{is_scheduled}
use Rattle.kube_objects.specs.Keys.{AreRows, row_at}
use Rattle.call_types.specs.declared.setup.Setup.{Setup}
use Rattle.binder_model.specs.Choice.{Assigns, Serves, Share, step_of}
use Rattle.binder_model.specs.Due.{CanPrepare, IsDue}
use Rattle.binder_model.specs.World.{World}
use Rattle.delayed_binding.specs.declared.choice.Choice.{Choice}
use Rattle.delayed_binding.specs.declared.choice.Choice.TheVariants.{Assign, Prepare}
use Rattle.delayed_binding.specs.Choices.{IsChoice, IsThere}

-- the rows are in order, as those of each look-up: then there is one choice
abbrev pub ChoicesAreUnique : Type 0
ChoicesAreUnique = (rows : List Object) (p : PodData) (last : Option (List ℕ)) (a b : Choice) → AreRows rows → IsChoice rows p last a → IsChoice rows p last b → a ≡ b

-- no node and no volume stands in a namespace: no store takes one that does
pub record HaveNoNamespace (rows : List Object) : Type 0 where
  pub nodes : (key : Key) (n : NodeData) → row_at key rows ≡ Some (Node n) → n.meta.namespace ≡ []
  pub volumes : (key : Key) (v : VolumeData) → row_at key rows ≡ Some (Volume v) → v.meta.namespace ≡ []

-- what is due for a pod for which this was chosen. A node that serves all claims is prepared where the devices can give what is to be
-- provisioned there, which the choice does not look at
abbrev pub IsDueBy : Setup → World → PodData → Choice → Option Due → Type 0
IsDueBy setup w p (Assign name) action = action ≡ Some dues.Assign
IsDueBy setup w p (Prepare name binds provisions) (Some action) = (action ≡ dues.Prepare) × CanPrepare setup w p
IsDueBy setup w p (Prepare name binds provisions) None = CanPrepare setup w p → ⊥
IsDueBy setup w p choice action = action ≡ None

-- what is chosen for a pod is what is due for it
abbrev pub ChoicesAreDue : Type 0
ChoicesAreDue =
    (setup : Setup) (w : World) (p : PodData) (last : Option (List ℕ)) (choice : Choice) (action : Option Due)
    → AreRows w.store.rows → HaveNoNamespace w.store.rows → is_scheduled p ≡ false → IsChoice w.store.rows p last choice
    → IsDue setup w (Pod p) action ↔ IsDueBy setup w p choice action

-- the node to which the pod is assigned, by the definition of what is due
pub record IsAssignedNode (rows : List Object) (p : PodData) (name : List ℕ) : Type 0 where
  pub node : NodeData
  pub named : name ≡ node.meta.name
  pub assigns : step_of rows p ≡ Assigns node

-- the node with this name serves all claims, by the definition of what is due
pub record IsServingNode (rows : List Object) (p : PodData) (name : List ℕ) : Type 0 where
  pub node : NodeData
  pub named : name ≡ node.meta.name
  pub there : IsThere rows node
  pub shares : List Share
  pub serves : Serves rows p node shares

-- the choice names such a node
abbrev pub IsNodeOf : List Object → PodData → Choice → Type 0
IsNodeOf rows p (Assign name) = IsAssignedNode rows p name
IsNodeOf rows p (Prepare name binds provisions) = IsServingNode rows p name
IsNodeOf rows p choice = ⊤

-- the node that is chosen is one that serves the pod
abbrev pub ChosenNodesAreDue : Type 0
ChosenNodesAreDue = (rows : List Object) (p : PodData) (last : Option (List ℕ)) (choice : Choice) → AreRows rows → HaveNoNamespace rows → IsChoice rows p last choice → IsNodeOf rows p choice
