-- Which nodes a history gives: those that were imported, or on which a pod was, and those that an entry asked to create.
-- A choice of this project.
use Rattle.std.specs.Prelude.{ℕ, ◌≡◌, ◌⊎◌, true, List, Some}
use Rattle.kube_objects.specs.declared.key.Key.{Key}
use Rattle.kube_objects.specs.declared.objects.Node.{Node as NodeData}
use Rattle.kube_objects.specs.declared.objects.Pod.{Pod as PodData}
use Rattle.kube_objects.specs.declared.objects.Object.{Object}
use Rattle.kube_objects.specs.declared.objects.Object.TheVariants.{Node, Pod}
use Rattle.kube_objects.specs.Bindings.{is_scheduled}
use Rattle.kube_objects.specs.Keys.{row_at}
use Rattle.call_types.specs.declared.entry.Entry.{Entry}
use Rattle.call_types.specs.declared.request.Request.{Request}
use Rattle.call_types.specs.declared.request.Request.TheVariants as requests
use Rattle.call_types.specs.declared.setup.Setup.{Setup}
use Rattle.binder_model.specs.Told.{SomeOf}
use Rattle.binder_model.specs.World.{world}

-- the object is the node, or a pod on it
abbrev pub GivesNode : List ℕ → Object → Type 0
GivesNode node (Node n) = n.meta.name ≡ node
GivesNode node (Pod p) = (p.node ≡ node) × (is_scheduled p ≡ true)
GivesNode node o = ⊥

-- the request creates the node
abbrev pub CreatesNode : List ℕ → Request → Type 0
CreatesNode node (requests.Create (Node n)) = n.meta.name ≡ node
CreatesNode node request = ⊥

-- an import gives the node, or an entry asks to create it, whatever the answer is
abbrev pub WasGiven : Setup → List Entry → List ℕ → Type 0
WasGiven setup past node = SomeOf (GivesNode node) setup.imports ⊎ SomeOf (λ e. CreatesNode node e.request) past

-- each node that stands was given
abbrev pub NodesWereGiven : Type 0
NodesWereGiven = (setup : Setup) (past : List Entry) (key : Key) (n : NodeData) → row_at key (world setup past).store.rows ≡ Some (Node n) → WasGiven setup past n.meta.name

-- so was the node of each pod that a node runs
abbrev pub PodsAreOnGivenNodes : Type 0
PodsAreOnGivenNodes = (setup : Setup) (past : List Entry) (key : Key) (p : PodData) → row_at key (world setup past).store.rows ≡ Some (Pod p) → is_scheduled p ≡ true → WasGiven setup past p.node
