-- The object that a value or a text gives.
-- Source: Kubernetes API conventions, `kind` and `apiVersion`; RFC 8259. The limits and the order of the refusals are a
-- choice of this project.
use Rattle.std.specs.Prelude.{ℕ, List, Bool, true, false, nat_lt, length, if◌then◌else◌, Ok, Err, Option, Some, None, codes, bytes_eq}
use Rattle.std.specs.Str.{is_utf8}
use Rattle.std.specs.declared.result.Result.{Result}
use Rattle.serde_json.specs.Data.{Data, null, boolean, number, string, array, object}
use Rattle.serde_json.specs.Read.{read}
use Rattle.serde_json.specs.Written.{has_float}
use Rattle.kube_parts.specs.declared.parts.Kind.{Kind}
use Rattle.kube_parts.specs.declared.parts.Kind.TheVariants as kinds
use Rattle.kube_parts.specs.Named.{kind_named}
use Rattle.kube_objects.specs.declared.objects.Object.{Object}
use Rattle.kube_objects.specs.declared.objects.Object.TheVariants as objects
use Rattle.object_text.specs.declared.errors.Member.TheVariants as members
use Rattle.object_text.specs.declared.errors.ObjectError.{ObjectError}
use Rattle.object_text.specs.declared.errors.ObjectError.TheVariants.{NotJson, NotObject, UnknownKind, WrongType, NotWhole, TooLong}
use Rattle.object_text.specs.Answers.{◌>>=◌}
use Rattle.object_text.specs.MemberReaders.{needed_text}
use Rattle.object_text.specs.KindReaders.{volume_of, claim_of, class_of, node_of, pod_of}

-- the value is an object
abbrev pub is_object : Data → Bool
is_object null = false
is_object (boolean b) = false
is_object (number n) = false
is_object (string s) = false
is_object (array ds) = false
is_object (object ms) = true

-- the value, where it is an object whose numbers are all whole numbers of 64 bits, at any depth
abbrev pub whole_object : Data → Result Data ObjectError
whole_object d = if is_object d then (if has_float d then Err NotWhole else Ok d) else Err NotObject

-- the kind that the word names
abbrev pub known_kind : Option Kind → Result Kind ObjectError
known_kind None = Err UnknownKind
known_kind (Some kind) = Ok kind

-- the version of the API in which each kind stands
abbrev pub api_version : Kind → List ℕ
api_version kinds.StorageClass = codes "storage.k8s.io/v1"
api_version kinds.Node = codes "v1"
api_version kinds.PersistentVolume = codes "v1"
api_version kinds.PersistentVolumeClaim = codes "v1"
api_version kinds.Pod = codes "v1"

-- the kind, where this is its version of the API
abbrev pub kind_of_version : Kind → List ℕ → Result Kind ObjectError
kind_of_version kind s = if bytes_eq s (api_version kind) then Ok kind else Err (WrongType members.ApiVersion)

-- the kind of a manifest: `kind` names one that is known, and `apiVersion` is that of the kind
unfoldable pub kind_at : Data → Result Kind ObjectError
kind_at d = do
  named ← needed_text members.Kind (Some d)
  kind ← known_kind (kind_named named)
  version ← needed_text members.ApiVersion (Some d)
  kind_of_version kind version

-- the object of this kind that a value gives
abbrev pub object_of_kind : Kind → Data → Result Object ObjectError
object_of_kind kinds.StorageClass d = class_of d >>= λ c. Ok (objects.Class c)
object_of_kind kinds.Node d = node_of d >>= λ n. Ok (objects.Node n)
object_of_kind kinds.PersistentVolume d = volume_of d >>= λ v. Ok (objects.Volume v)
object_of_kind kinds.PersistentVolumeClaim d = claim_of d >>= λ c. Ok (objects.Claim c)
object_of_kind kinds.Pod d = pod_of d >>= λ p. Ok (objects.Pod p)

-- the object of a value
unfoldable pub object_of : Data → Result Object ObjectError
object_of value = do
  d ← whole_object value
  kind ← kind_at d
  object_of_kind kind d

-- the value of a text of JSON (RFC 8259), which is UTF-8; of a member that stands twice, the last one
abbrev pub json_of : List ℕ → Option Data
json_of text = if is_utf8 text then read text else None

-- the value that was read, or that the text is not JSON
abbrev pub value_in : Option Data → Result Data ObjectError
value_in None = Err NotJson
value_in (Some d) = Ok d

-- the value of a text, or that it is not JSON
abbrev pub value_of : List ℕ → Result Data ObjectError
value_of text = value_in (json_of text)

-- how many bytes a manifest may have: 8 KiB, a choice of this project
abbrev pub most_bytes : ℕ
most_bytes = 8192

-- the object of a manifest of at most so many bytes
unfoldable pub read_text_of : List ℕ → Result Object ObjectError
read_text_of text = if nat_lt most_bytes (length text) then Err TooLong else (value_of text >>= λ d. object_of d)
