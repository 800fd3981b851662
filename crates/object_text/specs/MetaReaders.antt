-- Metadata from a value.
-- Source: Kubernetes API, ObjectMeta. That the namespace of a namespaced object is `default` where there is none, and that
-- the namespace of another object is dropped, are choices of this project.
use Rattle.std.specs.Prelude.{ℕ, List, [], Bool, true, false, Ok, Option, Some, codes}
use Rattle.std.specs.declared.result.Result.{Result}
use Rattle.serde_json.specs.Data.{Data}
use Rattle.kube_objects.specs.declared.objects.Meta.{Meta}
use Rattle.object_text.specs.declared.errors.Member.TheVariants as members
use Rattle.object_text.specs.declared.errors.ObjectError.{ObjectError}
use Rattle.object_text.specs.declared.meta_readers.Identity.{Identity}
use Rattle.object_text.specs.declared.meta_readers.Marks.{Marks}
use Rattle.object_text.specs.Answers.{◌>>=◌}
use Rattle.object_text.specs.MemberReaders.{needed_text, needed_object, text_or, texts_at, pairs_at, uid_at, stamp_at, stamp_or_empty, version_at}

-- objects of other kinds have none
abbrev pub kept_namespace : Bool → List ℕ → List ℕ
kept_namespace true s = s
kept_namespace false s = []

-- the namespace of an object: `default` where none is given; none for a kind without namespaces
abbrev pub namespace_at : Bool → Option Data → Result (List ℕ) ObjectError
namespace_at namespaced place = text_or members.Namespace (codes "default") place >>= λ s. Ok (kept_namespace namespaced s)

-- what says which object it is: name, namespace, UID and resourceVersion
unfoldable pub identity_at : Bool → Option Data → Result Identity ObjectError
identity_at namespaced place = do
  name ← needed_text members.Name place
  namespace ← namespace_at namespaced place
  uid ← uid_at members.Uid place
  version ← version_at members.ResourceVersion place
  Ok (record { name = name; namespace = namespace; uid = uid; version = version })

-- what else the metadata say: timestamps, labels, annotations and finalizers
unfoldable pub marks_at : Option Data → Result Marks ObjectError
marks_at place = do
  created ← stamp_or_empty members.CreationTimestamp place
  deleted ← stamp_at members.DeletionTimestamp place
  labels ← pairs_at members.Labels place
  annotations ← pairs_at members.Annotations place
  finalizers ← texts_at members.Finalizers place
  Ok (record { created = created; deleted = deleted; labels = labels; annotations = annotations; finalizers = finalizers })

-- the metadata of these two parts
abbrev pub meta_with : Identity → Marks → Meta
meta_with i m =
    record {
      namespace = i.namespace;
      name = i.name;
      uid = i.uid;
      version = i.version;
      created = m.created;
      deleted = m.deleted;
      labels = m.labels;
      annotations = m.annotations;
      finalizers = m.finalizers;
    }

-- the metadata of an object, of a kind with namespaces or without
unfoldable pub meta_of : Bool → Data → Result Meta ObjectError
meta_of namespaced d = do
  metadata ← needed_object members.Metadata (Some d)
  identity ← identity_at namespaced (Some metadata)
  marks ← marks_at (Some metadata)
  Ok (meta_with identity marks)
