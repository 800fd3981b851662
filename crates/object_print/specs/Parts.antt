-- Parts of the specs of objects.
-- Source: Kubernetes API, PersistentVolumeSpec, PersistentVolumeClaimSpec, LabelSelector, NodeSelector.
use Rattle.std.specs.Prelude.{ℕ, List, [], ◌∷◌, codes, option_map}
use Rattle.serde_json.specs.Data.{Data, string}
use Rattle.kube_parts.specs.Words.{mode_words, op_word}
use Rattle.kube_parts.specs.declared.parts.Modes.{Modes}
use Rattle.kube_parts.specs.declared.parts.SourceKind.{SourceKind}
use Rattle.kube_parts.specs.declared.parts.SourceKind.TheVariants.{Csi, Nfs, Local, HostPath}
use Rattle.kube_objects.specs.declared.objects.Amount.{Amount}
use Rattle.kube_objects.specs.declared.objects.Ref.{Ref}
use Rattle.kube_objects.specs.declared.objects.Source.{Source}
use Rattle.kube_objects.specs.declared.objects.Expr.{Expr}
use Rattle.kube_objects.specs.declared.objects.Selector.{Selector}
use Rattle.kube_objects.specs.declared.objects.NodeTerms.{NodeTerms}
use Rattle.json_text.specs.Members.{MemberList, text, filled_array, filled_pairs, array_data, object_of, within}
use Rattle.object_print.specs.Metadata.{uid_data}

-- access modes as an array of their words
unfoldable pub modes_data : Modes → Data
modes_data m = array_data string (mode_words m)

-- an amount, as it was written
abbrev pub storage_pairs : Amount → MemberList
storage_pairs a = (codes "storage", text a.text) ∷ []

-- an object whose one member `storage` is the amount
unfoldable pub storage_data : Amount → Data
storage_data a = object_of (storage_pairs a)

-- what a claim asks for: the amount under `requests`
unfoldable pub requests_data : Amount → Data
requests_data a = within (codes "requests") (storage_data a)

-- the members of a claimRef: name, namespace, and the UID of the claim if it is set
abbrev pub ref_pairs : Ref → MemberList
ref_pairs r =
    (codes "name", text r.name)
    ∷ (codes "namespace", text r.namespace)
    ∷ (codes "uid", option_map uid_data r.uid)
    ∷ []

-- the claimRef of a volume
unfoldable pub ref_data : Ref → Data
ref_data r = object_of (ref_pairs r)

-- the members of a volume's source; a local path and a host path have one, a CSI driver and an NFS server two
abbrev pub source_pairs : SourceKind → List ℕ → List ℕ → MemberList
source_pairs Csi driver handle = (codes "driver", text driver) ∷ (codes "volumeHandle", text handle) ∷ []
source_pairs Nfs server path = (codes "path", text path) ∷ (codes "server", text server) ∷ []
source_pairs Local path other = (codes "path", text path) ∷ []
source_pairs HostPath path other = (codes "path", text path) ∷ []

-- where the data of a volume lie
unfoldable pub source_data : Source → Data
source_data s = object_of (source_pairs s.kind s.first s.second)

-- the members of a selector requirement; the values are left out where there are none
abbrev pub expr_pairs : Expr → MemberList
expr_pairs e =
    (codes "key", text e.key)
    ∷ (codes "operator", text (op_word e.op))
    ∷ (codes "values", filled_array string e.values)
    ∷ []

-- one requirement on the label of a key
unfoldable pub expr_data : Expr → Data
expr_data e = object_of (expr_pairs e)

-- the members of a node selector term
abbrev pub term_pairs : List Expr → MemberList
term_pairs es = (codes "matchExpressions", filled_array expr_data es) ∷ []

-- one node selector term: the requirements that a node is to meet together
unfoldable pub term_data : List Expr → Data
term_data es = object_of (term_pairs es)

-- the node affinity of a volume: the terms of which a node is to meet one
unfoldable pub node_terms_data : NodeTerms → Data
node_terms_data t = within (codes "required") (within (codes "nodeSelectorTerms") (array_data term_data t.terms))

-- the members of a label selector; each is left out where it is empty
abbrev pub selector_pairs : Selector → MemberList
selector_pairs s =
    (codes "matchExpressions", filled_array expr_data s.exprs)
    ∷ (codes "matchLabels", filled_pairs s.labels)
    ∷ []

-- the label selector of a claim
unfoldable pub selector_data : Selector → Data
selector_data s = object_of (selector_pairs s)
