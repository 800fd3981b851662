-- A small world: a volume that a claim is bound to, two pods on two nodes that use the claim, and what may be attached in it.
-- A choice of this project.
use Rattle.std.specs.Prelude.{ℕ, Bool, true, false, List, [], ◌∷◌, Some, None, codes}
use Rattle.kube_parts.specs.declared.parts.ClaimPhase.TheVariants as claims
use Rattle.kube_parts.specs.declared.parts.VolumePhase.TheVariants as volumes
use Rattle.kube_parts.specs.declared.parts.Modes.{Modes}
use Rattle.kube_parts.specs.declared.parts.Policy.TheVariants as policies
use Rattle.kube_parts.specs.declared.parts.SourceKind.TheVariants.{Csi}
use Rattle.kube_parts.specs.declared.uid.Uid.{Uid}
use Rattle.kube_parts.specs.Uids.{uid_of_serial}
use Rattle.kube_objects.specs.declared.objects.Meta.{Meta}
use Rattle.kube_objects.specs.declared.objects.Claim.{Claim as ClaimData}
use Rattle.kube_objects.specs.declared.objects.Pod.{Pod as PodData}
use Rattle.kube_objects.specs.declared.objects.Volume.{Volume as VolumeData}
use Rattle.kube_objects.specs.declared.objects.Object.{Object}
use Rattle.kube_objects.specs.declared.objects.Object.TheVariants.{Volume, Claim, Pod}
use Rattle.kube_objects.specs.Bindings.{bind_completed}
use Rattle.binder_model.specs.Devices.{MountAt, no_devices}
use Rattle.binder_model.specs.World.{World}
use Rattle.attach_law.specs.declared.attachment.Attachment.{Attachment}

-- the modes ReadWriteOnce alone, and ReadWriteMany alone
abbrev pub once : Modes
once = record { rwo = true; rox = false; rwx = false; rwop = false }

abbrev pub several : Modes
several = record { rwo = false; rox = false; rwx = true; rwop = false }

-- the UIDs of the volume, the claim and the two pods, and one that no object has
abbrev pub volume_uid : Uid
volume_uid = uid_of_serial 1

abbrev pub claim_uid : Uid
claim_uid = uid_of_serial 2

abbrev pub first_uid : Uid
first_uid = uid_of_serial 3

abbrev pub second_uid : Uid
second_uid = uid_of_serial 4

abbrev pub no_uid : Uid
no_uid = uid_of_serial 9

-- the two nodes
abbrev pub n1 : List ℕ
n1 = codes "n1"

abbrev pub n2 : List ℕ
n2 = codes "n2"

-- metadata of an example
abbrev pub meta : List ℕ → List ℕ → ℕ → Meta
meta namespace name serial = record {
  namespace = namespace;
  name = name;
  uid = Some (uid_of_serial serial);
  version = serial;
  created = [];
  deleted = None;
  labels = [];
  annotations = [];
  finalizers = [];
}

-- the volume, bound to the claim
abbrev pub volume_by : Modes → VolumeData
volume_by modes = record {
  meta = meta [] (codes "a") 1;
  amount = record { text = []; bytes = 5 };
  modes = modes;
  block = false;
  class = [];
  policy = policies.Retain;
  claim_ref = Some (record { namespace = codes "ns"; name = codes "c"; uid = Some claim_uid });
  source = record { kind = Csi; first = codes "d"; second = codes "1" };
  terms = None;
  extra = [];
  phase = volumes.Bound;
}

-- the claim, completed
abbrev pub claim : ClaimData
claim = record {
  meta = record (meta (codes "ns") (codes "c") 2) { annotations = (bind_completed, codes "yes") ∷ [] };
  modes = once;
  amount = record { text = []; bytes = 5 };
  block = false;
  class = None;
  selector = None;
  volume_name = codes "a";
  extra = [];
  phase = claims.Bound;
  got_modes = once;
  got = None;
}

-- the same before it was completed
abbrev pub open_claim : ClaimData
open_claim = record claim { meta = meta (codes "ns") (codes "c") 2 }

-- a pod on a node, or on none, that names the claim
abbrev pub pod_on : List ℕ → ℕ → List ℕ → PodData
pod_on name serial node = record { meta = meta (codes "ns") name serial; claims = codes "c" ∷ []; node = node; extra = [] }

-- the two pods
abbrev pub first : PodData
first = pod_on (codes "p") 3 n1

abbrev pub second : PodData
second = pod_on (codes "q") 4 n2

-- the objects, where the volume has these modes
abbrev pub rows_by : Modes → List Object
rows_by modes = Volume (volume_by modes) ∷ Claim claim ∷ Pod first ∷ Pod second ∷ []

-- a world of these objects and mounts
abbrev pub world_of : List Object → List MountAt → World
world_of rows mounts = record { store = record { rows = rows; version = 9 }; moment = []; log = []; devices = record no_devices { mounts = mounts } }

-- the claim is mounted by the first pod
abbrev pub mounted : List MountAt
mounted = record { node = n1; row = record { pod = first_uid; claims = claim_uid ∷ [] } } ∷ []

-- the volume is attached to the node
abbrev pub on : List ℕ → Bool → Attachment
on node many = record { volume = volume_uid; name = codes "a"; node = node; many = many }
