-- For proofs alone: the versions of the lists with which a seat follows the kinds.
use Rattle.std.specs.Prelude.{ℕ, ◌≡◌, List, Option, Some, None}
use Rattle.kube_parts.specs.declared.parts.Kind.{Kind}
use Rattle.kube_parts.specs.declared.parts.Kind.TheVariants as kinds
use Rattle.call_types.specs.declared.entry.Entry.{Entry}
use Rattle.binder_model.specs.Reading.{Following, Unlisted, ListedAt, following_of}
use Rattle.evidence_judge.specs.declared.lists.LastLists.{LastLists}

-- of the list, where there is one
abbrev pub list_version : Following → Option ℕ
list_version Unlisted = None
list_version (ListedAt version reached) = Some version

-- the version of the last list of a kind, if there is one
abbrev pub version_in : LastLists → Kind → Option ℕ
version_in x kinds.StorageClass = x.classes
version_in x kinds.Node = x.nodes
version_in x kinds.PersistentVolume = x.volumes
version_in x kinds.PersistentVolumeClaim = x.claims
version_in x kinds.Pod = x.pods

-- these are the versions of the last lists among the entries
abbrev pub AreListsOf : LastLists → List Entry → Type 0
AreListsOf x mine = (kind : Kind) → version_in x kind ≡ list_version (following_of mine kind)
