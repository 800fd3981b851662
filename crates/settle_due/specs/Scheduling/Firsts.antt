-- The scheduler tries nodes in turn: where a pod is to be prepared, from the node after the one that was refused last on.
-- A choice of this project, after the scheduler's volume binding plugin, which tries another node once the provisioner has taken `selected-node` back.
use Rattle.std.specs.Prelude.{ℕ, ◌≡◌, List, false, ◌∷◌, ◌++◌, Option, Some}
use Rattle.kube_objects.specs.declared.objects.Node.{Node as NodeData}
use Rattle.kube_objects.specs.declared.objects.Pod.{Pod as PodData}
use Rattle.call_types.specs.declared.entry.Entry.{Entry}
use Rattle.call_types.specs.declared.setup.Setup.{Setup}
use Rattle.binder_model.specs.Choice.{Serves, Share, nodes_of}
use Rattle.binder_model.specs.Due.{CanPrepare}
use Rattle.binder_model.specs.Imports.{ImportsPass}
use Rattle.binder_model.specs.World.{World, world}
use Rattle.settle_measure.specs.Left.Tries.{IsOn, NoneServes, OneLess, TriesLeft, in_turn}

-- the node serves the claims of the pod, and none before it does, in the order from the one after the node that was refused last on
pub record IsFirstServing (w : World) (p : PodData) (refused : Option (List ℕ)) (node : NodeData) : Type 0 where
  pub before : List NodeData
  pub behind : List NodeData
  pub are : in_turn refused (nodes_of w.store.rows) ≡ before ++ node ∷ behind
  pub none : NoneServes w p before
  pub shares : List Share
  pub serves : Serves w.store.rows p node shares

-- where the devices cannot give what is to be provisioned on that node, from it on one node less is left to be tried
abbrev pub OneNodeLess : Type 0
OneNodeLess =
    (setup : Setup) (past : List Entry) (p : PodData) (refused : Option (List ℕ)) (node : NodeData) (k : ℕ) → ImportsPass setup.imports
    → CanPrepare setup (world setup past) p → IsFirstServing (world setup past) p refused node → IsOn setup (world setup past) p false node
    → TriesLeft setup (world setup past) p refused k → OneLess setup (world setup past) p (in_turn (Some node.meta.name) (nodes_of (world setup past).store.rows)) k
