-- The objects of a generated script, as their manifests give them.
-- Source: Kubernetes API, the members of each kind. Names, sizes and numbers of objects are choices of this project.
use Rattle.std.specs.Prelude.{ℕ, ◌*◌, List, [], ◌∷◌, ◌++◌, Bool, true, false, Some, None, codes, decimal}
use Rattle.kube_objects.specs.declared.key.Key.{Key}
use Rattle.kube_parts.specs.declared.parts.Kind.TheVariants as kinds
use Rattle.kube_parts.specs.declared.parts.Modes.{Modes}
use Rattle.kube_parts.specs.declared.parts.Policy.TheVariants as policies
use Rattle.kube_parts.specs.declared.parts.SourceKind.TheVariants as sources
use Rattle.kube_parts.specs.declared.parts.VolumePhase.TheVariants as volume_phases
use Rattle.kube_parts.specs.declared.parts.ClaimPhase.TheVariants as claim_phases
use Rattle.kube_objects.specs.declared.objects.Meta.{Meta}
use Rattle.kube_objects.specs.declared.objects.Amount.{Amount}
use Rattle.kube_objects.specs.declared.objects.Source.{Source}
use Rattle.kube_objects.specs.declared.objects.Class.{Class}
use Rattle.kube_objects.specs.declared.objects.Node.{Node}
use Rattle.kube_objects.specs.declared.objects.Volume.{Volume}
use Rattle.kube_objects.specs.declared.objects.Claim.{Claim}
use Rattle.kube_objects.specs.declared.objects.Pod.{Pod}
use Rattle.call_types.specs.declared.setup.Pool.{Pool}

-- a letter and a number
abbrev pub numbered : List ℕ → ℕ → List ℕ
numbered letter i = letter ++ decimal i

-- the provisioner of the pool and of the classes
abbrev pub provisioner : List ℕ
provisioner = codes "example.com/block"

-- of 1 TiB
abbrev pub pool : Pool
pool = record { name = codes "p"; provisioner = provisioner; bytes = 1099511627776; topology = None }

-- the size of the pool, as it is written in a script
abbrev pub pool_size : List ℕ
pool_size = codes "1Ti"

-- metadata with a namespace and a name alone
abbrev pub named_meta : List ℕ → List ℕ → Meta
named_meta namespace name = record {
  namespace = namespace;
  name = name;
  uid = None;
  version = 0;
  created = [];
  deleted = None;
  labels = [];
  annotations = [];
  finalizers = [];
}

-- so many GiB
abbrev pub gibibytes : ℕ → Amount
gibibytes n = record { text = decimal n ++ codes "Gi"; bytes = n * 1073741824 }

-- ReadWriteOnce, and ReadWriteMany or not
abbrev pub writers : Bool → Modes
writers many = record { rwo = true; rox = false; rwx = many; rwop = false }

-- ---- classes and nodes

-- a class of this name, which binds for the first consumer or at once
abbrev pub class_named : List ℕ → Bool → Class
class_named name delayed = record {
  meta = named_meta [] name;
  provisioner = provisioner;
  policy = policies.Delete;
  delayed = delayed;
  parameters = [];
  extra = [];
}

-- a node of this name in this zone, by its label
abbrev pub zoned_node : List ℕ → List ℕ → Node
zoned_node name zone = record { meta = record (named_meta [] name) { labels = (codes "zone", zone) ∷ [] }; extra = [] }

-- ---- volumes, claims and pods

-- a share of an NFS server
abbrev pub nfs_source : Source
nfs_source = record { kind = sources.Nfs; first = codes "s"; second = codes "/x" }

-- a volume of class slow that is made by hand
abbrev pub volume_of : ℕ → ℕ → Bool → Volume
volume_of i size many = record {
  meta = named_meta [] (numbered (codes "v") i);
  amount = gibibytes size;
  modes = writers many;
  block = false;
  class = codes "slow";
  policy = policies.Retain;
  claim_ref = None;
  source = nfs_source;
  terms = None;
  extra = [];
  phase = volume_phases.Pending;
}

-- a claim of so many GiB and of this class
abbrev pub sized_claim : List ℕ → ℕ → List ℕ → Claim
sized_claim name size class = record {
  meta = named_meta (codes "default") name;
  modes = writers false;
  amount = gibibytes size;
  block = false;
  class = Some class;
  selector = None;
  volume_name = [];
  extra = [];
  phase = claim_phases.Pending;
  got_modes = record { rwo = false; rox = false; rwx = false; rwop = false };
  got = None;
}

-- the volumes of a pod with one claim, kept as they are written
abbrev pub volumes_of : List ℕ → List ℕ
volumes_of claim = codes "{\"volumes\":[{\"persistentVolumeClaim\":{\"claimName\":\"" ++ claim ++ codes "\"}}]}"

-- a pod with one claim
abbrev pub pod_with : List ℕ → List ℕ → Pod
pod_with name claim = record {
  meta = named_meta (codes "default") name;
  claims = claim ∷ [];
  node = [];
  extra = volumes_of claim;
}

-- the key of a claim of this name
abbrev pub claim_key : List ℕ → Key
claim_key name = record { kind = kinds.PersistentVolumeClaim; namespace = codes "default"; name = name }
