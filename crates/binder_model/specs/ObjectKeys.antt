-- The keys of the objects of each kind, by namespace and name.
-- Source: Kubernetes documentation, "Object Names and IDs" and "Namespaces": claims and pods have a namespace, volumes, classes and nodes none.
use Rattle.std.specs.Prelude.{ℕ, List, []}
use Rattle.kube_parts.specs.declared.parts.Kind.TheVariants as kinds
use Rattle.kube_objects.specs.declared.key.Key.{Key}

-- the key of the class of this name
abbrev pub class_key : List ℕ → Key
class_key name = record { kind = kinds.StorageClass; namespace = []; name = name }

-- the key of the node of this name
abbrev pub node_key : List ℕ → Key
node_key name = record { kind = kinds.Node; namespace = []; name = name }

-- the key of the volume of this name
abbrev pub volume_key : List ℕ → Key
volume_key name = record { kind = kinds.PersistentVolume; namespace = []; name = name }

-- the key of the claim of this namespace and name
abbrev pub claim_key : List ℕ → List ℕ → Key
claim_key namespace name = record { kind = kinds.PersistentVolumeClaim; namespace = namespace; name = name }

-- the key of the pod of this namespace and name
abbrev pub pod_key : List ℕ → List ℕ → Key
pod_key namespace name = record { kind = kinds.Pod; namespace = namespace; name = name }
