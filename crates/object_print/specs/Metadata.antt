-- Metadata of objects.
-- Source: Kubernetes API, ObjectMeta.
use Rattle.std.specs.Prelude.{ℕ, List, [], ◌∷◌, ◌++◌, Bool, true, false, Option, Some, codes, option_map}
use Rattle.serde_json.specs.Data.{Data, string}
use Rattle.kube_parts.specs.Uids.{uid_text}
use Rattle.kube_parts.specs.declared.uid.Uid.{Uid}
use Rattle.kube_objects.specs.declared.objects.Meta.{Meta}
use Rattle.json_text.specs.Members.{MemberList, text, filled, counted, filled_array, filled_pairs, object_of}

-- a UID in its textual form, as 8-4-4-4-12 hexadecimal digits
abbrev pub uid_data : Uid → Data
uid_data uid = string (uid_text uid)

-- always, or where it is not empty
abbrev pub filled_or_always : Bool → List ℕ → Option Data
filled_or_always true s = text s
filled_or_always false s = filled s

-- the members of the metadata from `annotations` to `finalizers`, in the order of their names; each is left out where it is empty
abbrev pub front_pairs : Meta → MemberList
front_pairs m =
    (codes "annotations", filled_pairs m.annotations)
    ∷ (codes "creationTimestamp", filled m.created)
    ∷ (codes "deletionTimestamp", option_map string m.deleted)
    ∷ (codes "finalizers", filled_array string m.finalizers)
    ∷ []

-- the members of the metadata from `labels` to `uid`; the name is always printed, and the namespace of a kind that has one
abbrev pub back_pairs : Bool → Meta → MemberList
back_pairs namespaced m =
    (codes "labels", filled_pairs m.labels)
    ∷ (codes "name", text m.name)
    ∷ (codes "namespace", filled_or_always namespaced m.namespace)
    ∷ (codes "resourceVersion", counted m.version)
    ∷ (codes "uid", option_map uid_data m.uid)
    ∷ []

-- objects of a namespaced kind always show their namespace
unfoldable pub meta_data : Bool → Meta → Data
meta_data namespaced m = object_of (front_pairs m ++ back_pairs namespaced m)

-- the version of the API, the kind and the metadata
abbrev pub head_pairs : List ℕ → List ℕ → Bool → Meta → MemberList
head_pairs version kind namespaced m =
    (codes "apiVersion", text version)
    ∷ (codes "kind", text kind)
    ∷ (codes "metadata", Some (meta_data namespaced m))
    ∷ []
