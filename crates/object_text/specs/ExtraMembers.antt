-- The members that are kept as they are: those of a spec, or of a class itself, that no reader knows.
-- A choice of this project: they are one compact text, empty where there are none.
use Rattle.std.specs.Prelude.{ℕ, List, Bool, false, ◌||◌, Option, Some, None, codes, bytes_eq}
use Rattle.serde_json.specs.Data.{Data, Members, no_members}
use Rattle.json_text.specs.Trees.{members_in, others}
pub use Rattle.json_text.specs.Members.{extra_text}
use Rattle.kube_parts.specs.declared.parts.SourceKind.{SourceKind}
use Rattle.kube_parts.specs.Words.{source_word}
use Rattle.object_text.specs.declared.extra.Listed.{Listed}
use Rattle.object_text.specs.declared.extra.Listed.TheVariants as listed

-- of a volume the source that counts is known, and no other
abbrev pub is_volume_member : SourceKind → List ℕ → Bool
is_volume_member kind k =
    bytes_eq k (codes "capacity") || (bytes_eq k (codes "accessModes") || (bytes_eq k (codes "volumeMode") || (bytes_eq k (codes "storageClassName")
    || (bytes_eq k (codes "persistentVolumeReclaimPolicy") || (bytes_eq k (codes "claimRef") || (bytes_eq k (codes "nodeAffinity") || bytes_eq k (source_word kind)))))))

-- the members of a claim's spec that are read, and so are not kept as they are
abbrev pub is_claim_member : List ℕ → Bool
is_claim_member k =
    bytes_eq k (codes "accessModes") || (bytes_eq k (codes "volumeMode") || (bytes_eq k (codes "resources") || (bytes_eq k (codes "storageClassName")
    || (bytes_eq k (codes "selector") || bytes_eq k (codes "volumeName")))))

-- the members of a class that are read
abbrev pub is_class_member : List ℕ → Bool
is_class_member k =
    bytes_eq k (codes "kind") || (bytes_eq k (codes "apiVersion") || (bytes_eq k (codes "metadata") || (bytes_eq k (codes "provisioner")
    || (bytes_eq k (codes "reclaimPolicy") || (bytes_eq k (codes "volumeBindingMode") || bytes_eq k (codes "parameters"))))))

-- of a pod's spec the node alone; of a node's spec nothing
abbrev pub is_listed_member : Listed → List ℕ → Bool
is_listed_member (listed.Volume kind) k = is_volume_member kind k
is_listed_member listed.Claim k = is_claim_member k
is_listed_member listed.Class k = is_class_member k
is_listed_member listed.Pod k = bytes_eq k (codes "nodeName")
is_listed_member listed.Node k = false

-- the members of an object that may be absent; none where it is
abbrev pub place_members : Option Data → Members
place_members None = no_members
place_members (Some d) = members_in d

-- the text that is kept of the members that are not read: the compact text of their object, empty where there are none
unfoldable pub extra_at : Listed → Option Data → List ℕ
extra_at known place = extra_text (others (is_listed_member known) (place_members place))
