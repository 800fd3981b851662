-- What the members of a line give. Each is tested in its turn, and the first refusal is answered.
-- A choice of this project: the script format.
use Rattle.std.specs.Prelude.{ℕ, nat_le, ◌==◌, List, [], ◌∷◌, Bool, true, false, not, ◌&&◌, if◌then◌else◌, Ok, Err, Option, Some, None, codes, bytes_eq, is_some, filter}
use Rattle.std.specs.List.{list_any}
use Rattle.std.specs.declared.result.Result.{Result}
use Rattle.serde_json.specs.Data.{Num, unsigned, negative, float, Data, null, boolean, number, string, array, object}
use Rattle.serde_json.specs.Find.{get}
use Rattle.serde_json.specs.Written.{has_float}
use Rattle.json_text.specs.Look.{unless_null}
use Rattle.plain_data.specs.Pairs.{Pair}
use Rattle.kube_parts.specs.Named.{kind_named, policy_named}
use Rattle.kube_parts.specs.declared.parts.Kind.{Kind}
use Rattle.kube_parts.specs.declared.parts.Kind.TheVariants as kinds
use Rattle.kube_parts.specs.declared.parts.Policy.{Policy}
use Rattle.kube_objects.specs.declared.key.Key.{Key}
use Rattle.kube_objects.specs.declared.objects.Object.{Object}
use Rattle.kube_parts.specs.declared.uid.Uid.{Uid}
use Rattle.kube_objects.specs.declared.objects.Amount.{Amount}
use Rattle.call_types.specs.declared.edit.Edit.{Edit}
use Rattle.call_types.specs.declared.edit.Edit.TheVariants as edits
use Rattle.object_text.specs.declared.errors.Member.TheVariants as manifests
use Rattle.object_text.specs.declared.errors.ObjectError.{ObjectError}
use Rattle.object_text.specs.declared.errors.ObjectError.TheVariants as refusals
use Rattle.object_text.specs.MemberReaders.{text_or, uid_at}
use Rattle.object_text.specs.MetaReaders.{kept_namespace}
use Rattle.object_text.specs.PartReaders.{amount_in}
use Rattle.object_text.specs.Listing.{item_of}
use Rattle.script_lines.specs.declared.actors.Actor.{Actor}
use Rattle.script_lines.specs.declared.line_member.LineMember.{LineMember}
use Rattle.script_lines.specs.declared.line_member.LineMember.TheVariants as members
use Rattle.script_lines.specs.declared.edit_members.EditMember.{EditMember}
use Rattle.script_lines.specs.declared.edit_members.EditMember.TheVariants.{
  AddFinalizer,
  DropFinalizer,
  DropLabel,
  DropAnnotation,
  SetLabel,
  SetAnnotation,
  SetVolumeName,
  SetPolicy,
  SetClaimRef,
  ClearClaimRef,
}
use Rattle.script_lines.specs.declared.errors.Reason.{Reason}
use Rattle.script_lines.specs.declared.errors.Reason.TheVariants.{Missing, WrongType, UnknownKind, BadQuantity, NotWhole, BadValue}
use Rattle.script_lines.specs.Answers.{◌>>=◌, reason_of, taken_in_line, unless}
use Rattle.script_lines.specs.MemberWords.{line_word}
use Rattle.script_lines.specs.Actors.{actor_named}

-- the member of the line
abbrev pub at : LineMember → Data → Option Data
at m line = get (line_word m) line

-- a member that has to be there: null is as absent
abbrev pub needed_from : LineMember → Option Data → Result Data Reason
needed_from m None = Err (Missing m)
needed_from m (Some d) = Ok d

-- the value of a member that has to be there
abbrev pub needed : LineMember → Data → Result Data Reason
needed m line = needed_from m (unless_null (at m line))

-- ---- texts, objects and numbers

-- the text of a value; another value is of the wrong type
abbrev pub text_of : LineMember → Data → Result (List ℕ) Reason
text_of m null = Err (WrongType m)
text_of m (boolean b) = Err (WrongType m)
text_of m (number n) = Err (WrongType m)
text_of m (string s) = Ok s
text_of m (array ds) = Err (WrongType m)
text_of m (object ms) = Err (WrongType m)

-- a text that has to be there
abbrev pub text_at : LineMember → Data → Result (List ℕ) Reason
text_at m line = needed m line >>= λ d. text_of m d

-- the value itself, where it is an object
abbrev pub object_value_of : LineMember → Data → Result Data Reason
object_value_of m null = Err (WrongType m)
object_value_of m (boolean b) = Err (WrongType m)
object_value_of m (number n) = Err (WrongType m)
object_value_of m (string s) = Err (WrongType m)
object_value_of m (array ds) = Err (WrongType m)
object_value_of m (object ms) = Ok (object ms)

-- a whole number from the least to the greatest that is allowed
abbrev pub number_in : LineMember → ℕ → ℕ → Num → Result ℕ Reason
number_in m least most (unsigned n) = unless (not (nat_le least n && nat_le n most)) (BadValue m) n
number_in m least most (negative z) = Err (BadValue m)
number_in m least most (float x) = Err NotWhole

-- such a number; another value is of the wrong type
abbrev pub whole_of : LineMember → ℕ → ℕ → Data → Result ℕ Reason
whole_of m least most null = Err (WrongType m)
whole_of m least most (boolean b) = Err (WrongType m)
whole_of m least most (number n) = number_in m least most n
whole_of m least most (string s) = Err (WrongType m)
whole_of m least most (array ds) = Err (WrongType m)
whole_of m least most (object ms) = Err (WrongType m)

-- a whole number from 1 to the most that is allowed
abbrev pub count_of : LineMember → ℕ → Data → Result ℕ Reason
count_of m most d = whole_of m 1 most d

-- such a number that has to be there
abbrev pub count_at : LineMember → ℕ → Data → Result ℕ Reason
count_at m most line = needed m line >>= λ d. count_of m most d

-- how many claims a quota may allow
abbrev pub most_claims : ℕ
most_claims = 1024

-- how many claims a quota allows, which may be none
abbrev pub claims_at : Data → Result ℕ Reason
claims_at line = needed members.Claims line >>= λ d. whole_of members.Claims 0 most_claims d

-- the number of a call
abbrev pub most_call : ℕ
most_call = 999999999

-- how many calls one turn may have
abbrev pub most_turn : ℕ
most_turn = 1000

-- the number is one of these
abbrev pub is_given : ℕ → List ℕ → Bool
is_given n given = list_any (λ m. m == n) given

-- such a number of a call that is none of those given before
abbrev pub new_call_at : LineMember → List ℕ → Data → Result ℕ Reason
new_call_at m given line = count_at m most_call line >>= λ n. unless (is_given n given) (BadValue m) n

-- one of the four users, the first where none is named
abbrev pub user_from : Option Data → Result ℕ Reason
user_from None = Ok 1
user_from (Some d) = count_of members.User 4 d

-- the user of a line, by number
abbrev pub user_at : Data → Result ℕ Reason
user_at line = user_from (at members.User line)

-- ---- keys

-- the kind, or that it is unknown
abbrev pub kind_from : Option Kind → Result Kind Reason
kind_from None = Err UnknownKind
kind_from (Some kind) = Ok kind

-- the kind of the object that a line is about
abbrev pub kind_at : Data → Result Kind Reason
kind_at line = text_at (members.Of manifests.Kind) line >>= λ s. kind_from (kind_named s)

-- Kubernetes API: the objects of these kinds have a namespace
abbrev pub is_namespaced : Kind → Bool
is_namespaced kinds.StorageClass = false
is_namespaced kinds.Node = false
is_namespaced kinds.PersistentVolume = false
is_namespaced kinds.PersistentVolumeClaim = true
is_namespaced kinds.Pod = true

-- `default` where there is none; objects of other kinds have none
abbrev pub namespace_at : Bool → Data → Result (List ℕ) Reason
namespace_at namespaced line = taken_in_line (text_or manifests.Namespace (codes "default") (Some line)) >>= λ s. Ok (kept_namespace namespaced s)

-- the UID that the object has to have, where there is one
abbrev pub condition_at : Data → Result (Option Uid) Reason
condition_at line = taken_in_line (uid_at manifests.Uid (Some line))

-- the key of the object that a line is about: kind, namespace and name
unfoldable pub key_at : Data → Result Key Reason
key_at line = do
  kind ← kind_at line
  namespace ← namespace_at (is_namespaced kind) line
  name ← text_at (members.Of manifests.Name) line
  Ok (record { kind = kind; namespace = namespace; name = name })

-- ---- objects

-- a manifest that is too long or no object is refused by the member that it is
abbrev pub object_reason : ObjectError → Reason
object_reason refusals.OutOfMemory = reason_of refusals.OutOfMemory
object_reason refusals.TooLong = BadValue members.Object
object_reason refusals.NotJson = reason_of refusals.NotJson
object_reason refusals.NotObject = WrongType members.Object
object_reason refusals.NotWhole = reason_of refusals.NotWhole
object_reason refusals.UnknownKind = reason_of refusals.UnknownKind
object_reason (refusals.Missing m) = reason_of (refusals.Missing m)
object_reason (refusals.WrongType m) = reason_of (refusals.WrongType m)
object_reason (refusals.BadQuantity m) = reason_of (refusals.BadQuantity m)

-- the object that was read of a line's manifest, or the refusal of the line
abbrev pub object_taken : Result Object ObjectError → Result Object Reason
object_taken (Ok o) = Ok o
object_taken (Err e) = Err (object_reason e)

-- the object of a manifest that has to be there
abbrev pub object_at : Data → Result Object Reason
object_at line = needed members.Object line >>= λ d. object_taken (item_of d)

-- ---- actors

-- the actor, or that the name is that of none
abbrev pub actor_from : Option Actor → Result Actor Reason
actor_from None = Err (BadValue members.Actor)
actor_from (Some actor) = Ok actor

-- one of the workers, or one of these agents
abbrev pub actor_at : List Pair → Data → Result Actor Reason
actor_at agents line = text_at members.Actor line >>= λ s. actor_from (actor_named agents s)

-- whether a call is lost after its effect, or before it
abbrev pub when_named : List ℕ → Result Bool Reason
when_named s = if bytes_eq s (codes "before") then Ok false else (if bytes_eq s (codes "after") then Ok true else Err (WrongType members.When))

-- the same of a line
abbrev pub when_at : Data → Result Bool Reason
when_at line = text_at members.When line >>= λ s. when_named s

-- ---- pools

-- the refusals of a quantity are those of the size of a pool
abbrev pub size_reason : ObjectError → Reason
size_reason refusals.OutOfMemory = reason_of refusals.OutOfMemory
size_reason refusals.TooLong = reason_of refusals.TooLong
size_reason refusals.NotJson = reason_of refusals.NotJson
size_reason refusals.NotObject = reason_of refusals.NotObject
size_reason refusals.NotWhole = NotWhole
size_reason refusals.UnknownKind = reason_of refusals.UnknownKind
size_reason (refusals.Missing m) = Missing members.Bytes
size_reason (refusals.WrongType m) = WrongType members.Bytes
size_reason (refusals.BadQuantity m) = BadQuantity members.Bytes

-- the size that was read, or the refusal of the line
abbrev pub size_taken : Result Amount ObjectError → Result Amount Reason
size_taken (Ok a) = Ok a
size_taken (Err e) = Err (size_reason e)

-- the size of a pool: a quantity, as that of a volume
abbrev pub size_at : Data → Result Amount Reason
size_at line = needed members.Bytes line >>= λ d. size_taken (amount_in manifests.Storage d)

-- the topology of a pool: both of its texts, or none

-- the label with its value; a label without a value is refused
abbrev pub value_from : List ℕ → Option Data → Result (Option (List ℕ × List ℕ)) Reason
value_from label None = Err (Missing members.Value)
value_from label (Some d) = text_of members.Value d >>= λ value. Ok (Some (label, value))

-- both or neither: where a pool can be reached is a label with its value
abbrev pub topology_from : Option Data → Option Data → Result (Option (List ℕ × List ℕ)) Reason
topology_from None None = Ok None
topology_from None (Some d) = Err (Missing members.Label)
topology_from (Some d) value = text_of members.Label d >>= λ label. value_from label value

-- the label and the value of the nodes from which a pool can be reached, if it has any
abbrev pub topology_at : Data → Result (Option (List ℕ × List ℕ)) Reason
topology_at line = topology_from (at members.Label line) (at members.Value line)

-- ---- edits

-- the member of a line that makes this edit
abbrev pub edit_member : EditMember → LineMember
edit_member AddFinalizer = members.AddFinalizer
edit_member DropFinalizer = members.DropFinalizer
edit_member DropLabel = members.DropLabel
edit_member DropAnnotation = members.DropAnnotation
edit_member SetLabel = members.SetLabel
edit_member SetAnnotation = members.SetAnnotation
edit_member SetVolumeName = members.SetVolumeName
edit_member SetPolicy = members.SetPolicy
edit_member SetClaimRef = members.SetClaimRef
edit_member ClearClaimRef = members.ClearClaimRef

-- the ten edits
abbrev pub all_edits : List EditMember
all_edits = AddFinalizer ∷ DropFinalizer ∷ DropLabel ∷ DropAnnotation ∷ SetLabel ∷ SetAnnotation ∷ SetVolumeName ∷ SetPolicy ∷ SetClaimRef ∷ ClearClaimRef ∷ []

-- the line has the member of this edit
abbrev pub stands : Data → EditMember → Bool
stands line e = is_some (at (edit_member e) line)

-- exactly one
abbrev pub the_one : List EditMember → Result EditMember Reason
the_one [] = Err (BadValue members.Edit)
the_one (e ∷ []) = Ok e
the_one (e ∷ f ∷ es) = Err (BadValue members.Edit)

-- the one edit member that stands in the line
abbrev pub edit_member_at : Data → Result EditMember Reason
edit_member_at line = the_one (filter (stands line) all_edits)

-- two texts of an object in which each number is whole
unfoldable pub two_texts_in : LineMember → LineMember → LineMember → Data → Result (List ℕ × List ℕ) Reason
two_texts_in m one two d = do
  o ← object_value_of m d
  first ← text_at one o
  second ← text_at two o
  unless (has_float o) NotWhole (first, second)

-- the edit that sets a reclaim policy; a word that names none is of the wrong type
abbrev pub policy_from : Option Policy → Result Edit Reason
policy_from None = Err (WrongType members.SetPolicy)
policy_from (Some policy) = Ok (edits.SetPolicy policy)

-- the edit that clears a claimRef, where the value is true; another value is of the wrong type
abbrev pub cleared : Data → Result Edit Reason
cleared null = Err (WrongType members.ClearClaimRef)
cleared (boolean b) = if b then Ok edits.ClearClaimRef else Err (WrongType members.ClearClaimRef)
cleared (number n) = Err (WrongType members.ClearClaimRef)
cleared (string s) = Err (WrongType members.ClearClaimRef)
cleared (array ds) = Err (WrongType members.ClearClaimRef)
cleared (object ms) = Err (WrongType members.ClearClaimRef)

-- the edit that the value of an edit member is
abbrev pub edit_of : EditMember → Data → Result Edit Reason
edit_of AddFinalizer d = text_of members.AddFinalizer d >>= λ s. Ok (edits.AddFinalizer s)
edit_of DropFinalizer d = text_of members.DropFinalizer d >>= λ s. Ok (edits.DropFinalizer s)
edit_of DropLabel d = text_of members.DropLabel d >>= λ s. Ok (edits.DropLabel s)
edit_of DropAnnotation d = text_of members.DropAnnotation d >>= λ s. Ok (edits.DropAnnotation s)
edit_of SetLabel d = two_texts_in members.SetLabel (members.Of manifests.Key) members.Value d >>= λ p. Ok (edits.SetLabel p.0 p.1)
edit_of SetAnnotation d = two_texts_in members.SetAnnotation (members.Of manifests.Key) members.Value d >>= λ p. Ok (edits.SetAnnotation p.0 p.1)
edit_of SetVolumeName d = text_of members.SetVolumeName d >>= λ s. Ok (edits.SetVolumeName s)
edit_of SetPolicy d = text_of members.SetPolicy d >>= λ s. policy_from (policy_named s)
edit_of SetClaimRef d = two_texts_in members.SetClaimRef (members.Of manifests.Namespace) (members.Of manifests.Name) d >>= λ p. Ok (edits.SetClaimRef p.0 p.1)
edit_of ClearClaimRef d = cleared d

-- the edit by its member, which the line has to have
abbrev pub edit_from : EditMember → Option Data → Result Edit Reason
edit_from e None = Err (BadValue members.Edit)
edit_from e (Some d) = edit_of e d

-- the one edit of a line
unfoldable pub edit_at : Data → Result Edit Reason
edit_at line = edit_member_at line >>= λ e. edit_from e (at (edit_member e) line)
