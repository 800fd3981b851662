-- What is said of sample objects and keys. A choice of this project.
use Rattle.std.specs.Prelude.{ℕ, ◌≡◌, List, [], ◌∷◌, ◌++◌, Option, Some, None, codes}
use Rattle.kube_parts.specs.declared.uid.Uid.{Uid}
use Rattle.kube_objects.specs.declared.key.Key.{Key}
use Rattle.kube_parts.specs.declared.parts.Kind.TheVariants as kinds
use Rattle.kube_parts.specs.declared.parts.SourceKind.TheVariants as sources
use Rattle.plain_data.specs.Pairs.{Pair}
use Rattle.kube_objects.specs.declared.objects.Meta.{Meta}
use Rattle.kube_objects.specs.declared.objects.Ref.{Ref}
use Rattle.kube_objects.specs.declared.objects.Source.{Source}
use Rattle.kube_parts.specs.Uids.{uid_text}

-- the object has this name, this id and this version
abbrev pub IsStamped : List ℕ → Option Uid → ℕ → Meta → Type 0
IsStamped name uid version m = (m.name ≡ name) × (m.uid ≡ uid) × (m.version ≡ version)

-- the namespace of claims and pods
abbrev pub namespace : List ℕ
namespace = codes "default"

-- the key of a volume of this name
abbrev pub volume_key : List ℕ → Key
volume_key name = record { kind = kinds.PersistentVolume; namespace = []; name = name }

-- the key of a claim of this name
abbrev pub claim_key : List ℕ → Key
claim_key name = record { kind = kinds.PersistentVolumeClaim; namespace = namespace; name = name }

-- the key of a pod of this name
abbrev pub pod_key : List ℕ → Key
pod_key name = record { kind = kinds.Pod; namespace = namespace; name = name }

-- the name of the data and of the volume that are made for the claim of this id
abbrev pub data_name : Option Uid → List ℕ
data_name None = codes "pvc-"
data_name (Some uid) = codes "pvc-" ++ uid_text uid

-- a folder of a file server
abbrev pub folder : Source
folder = record { kind = sources.Nfs; first = codes "files"; second = codes "/a" }

-- a reference to the claim of this name, if any
abbrev pub reference_to : List ℕ → Option Uid → Option Ref
reference_to [] uid = None
reference_to claim uid = Some (record { namespace = namespace; name = claim; uid = uid })

-- the label of the zone, if any
abbrev pub zone_labels : List ℕ → List Pair
zone_labels [] = []
zone_labels zone = (codes "zone", zone) ∷ []
