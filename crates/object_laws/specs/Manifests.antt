-- The table of manifests: for each kind the members that are read, in the order in which they are tested, each with what
-- it must be, whether it may be missing, and what stands for it then.
-- Source: Kubernetes API, PersistentVolume, PersistentVolumeClaim, StorageClass, Node, Pod; which members are read, their
-- order and the refusals are a choice of this project.
use Rattle.std.specs.Prelude.{◌≡◌, ℕ, List, [], ◌∷◌, map, false, bytes_eq, if◌then◌else◌, Ok, Err, Option, Some, None, codes}
use Rattle.std.specs.declared.result.Result.{Result}
use Rattle.std.specs.List.{list_any}
use Rattle.serde_json.specs.Data.{Data, string, object, no_members, member}
use Rattle.json_text.specs.Look.{unless_null}
use Rattle.kube_parts.specs.declared.parts.Kind.{Kind}
use Rattle.kube_parts.specs.declared.parts.Kind.TheVariants as kinds
use Rattle.kube_parts.specs.declared.parts.Policy.TheVariants.{Retain, Delete}
use Rattle.kube_parts.specs.declared.parts.VolumePhase.TheVariants as volume_phases
use Rattle.kube_parts.specs.declared.parts.ClaimPhase.TheVariants as claim_phases
use Rattle.kube_parts.specs.Words.{policy_word, volume_mode, binding_mode, volume_phase_word, claim_phase_word}
use Rattle.kube_parts.specs.Named.{both, all_policies, all_volume_phases, all_claim_phases}
use Rattle.object_text.specs.declared.errors.Member.{Member}
use Rattle.object_text.specs.declared.errors.Member.TheVariants as members
use Rattle.object_text.specs.declared.errors.ObjectError.{ObjectError}
use Rattle.object_text.specs.declared.errors.ObjectError.TheVariants.{Missing, WrongType}
use Rattle.object_text.specs.Answers.{◌>>=◌}
use Rattle.object_text.specs.MemberReaders.{at, as_text, as_items, as_object, needed_way, some_object_at, texts_from, pairs_in, uid_named, stamp_named, version_named}
use Rattle.object_text.specs.PartReaders.{amount_in, no_modes, modes_from, class_policies, ref_at, source_at, terms_from, selector_of, claims_from}
use Rattle.object_text.specs.Reading.{object_of_kind}

-- what a member must be
pub data Shape : Type 0 where
  Text : Shape
  OneOf : List (List ℕ) → Shape
  Uuid : Shape
  Version : Shape
  Moment : Shape
  Quantity : Shape
  Modes : Shape
  Texts : Shape
  TextMap : Shape
  Members : Shape
  Reference : Shape
  Terms : Shape
  Selector : Shape
  PodVolumes : Shape

-- whether a member may be missing
pub data Presence : Type 0 where
  -- absent or null it is Missing
  Required : Presence
  -- absent it is left out; null is of the wrong type
  Optional : Presence
  -- absent this text stands for it; null is of the wrong type
  Default : List ℕ → Presence
  -- absent or null it is left out
  Nullable : Presence

-- the member, below these
pub record Row : Type 0 where
  pub way : List Member
  pub member : Member
  pub shape : Shape
  pub presence : Presence

-- ---- the table

-- a member of the metadata
abbrev pub meta_row : Member → Shape → Presence → Row
meta_row m shape presence = record { way = members.Metadata ∷ []; member = m; shape = shape; presence = presence }

-- a member of the object itself
abbrev pub top_row : Member → Shape → Presence → Row
top_row m shape presence = record { way = []; member = m; shape = shape; presence = presence }

-- a member of the spec
abbrev pub spec_row : Member → Shape → Presence → Row
spec_row m shape presence = record { way = members.Spec ∷ []; member = m; shape = shape; presence = presence }

-- a member of the status
abbrev pub status_row : Member → Shape → Presence → Row
status_row m shape presence = record { way = members.Status ∷ []; member = m; shape = shape; presence = presence }

-- of all kinds; the namespace of a class, a node and a volume is tested and dropped
abbrev pub meta_rows : List Row
meta_rows =
    top_row members.Metadata Members Required
    ∷ meta_row members.Name Text Required
    ∷ meta_row members.Namespace Text (Default (codes "default"))
    ∷ meta_row members.Uid Uuid Optional
    ∷ meta_row members.ResourceVersion Version (Default (codes "0"))
    ∷ meta_row members.CreationTimestamp Moment Nullable
    ∷ meta_row members.DeletionTimestamp Moment Nullable
    ∷ meta_row members.Labels TextMap Optional
    ∷ meta_row members.Annotations TextMap Optional
    ∷ meta_row members.Finalizers Texts Optional
    ∷ []

-- the members of a storage class
abbrev pub class_rows : List Row
class_rows =
    top_row members.Provisioner Text Required
    ∷ top_row members.ReclaimPolicy (OneOf (map policy_word class_policies)) (Default (policy_word Delete))
    ∷ top_row members.VolumeBindingMode (OneOf (map binding_mode both)) (Default (binding_mode false))
    ∷ top_row members.Parameters TextMap Optional
    ∷ []

-- the members of a claim
abbrev pub claim_rows : List Row
claim_rows =
    spec_row members.AccessModes Modes Required
    ∷ spec_row members.VolumeMode (OneOf (map volume_mode both)) (Default (volume_mode false))
    ∷ record { way = members.Spec ∷ members.Resources ∷ members.Requests ∷ []; member = members.Storage; shape = Quantity; presence = Required }
    ∷ spec_row members.StorageClassName Text Optional
    ∷ spec_row members.Selector Selector Optional
    ∷ spec_row members.VolumeName Text (Default [])
    ∷ status_row members.Phase (OneOf (map claim_phase_word all_claim_phases)) (Default (claim_phase_word claim_phases.Pending))
    ∷ status_row members.AccessModes Modes Optional
    ∷ record { way = members.Status ∷ members.Capacity ∷ []; member = members.Storage; shape = Quantity; presence = Optional }
    ∷ []

-- the members of a pod
abbrev pub pod_rows : List Row
pod_rows =
    spec_row members.NodeName Text (Default [])
    ∷ spec_row members.Volumes PodVolumes Optional
    ∷ []

-- the members of a node: all of its spec is kept
abbrev pub node_rows : List Row
node_rows = top_row members.Spec Members Optional ∷ []

-- of a volume the source, one of four members, has no row of its own: `volume_source` stands between these
abbrev pub volume_front : List Row
volume_front =
    record { way = members.Spec ∷ members.Capacity ∷ []; member = members.Storage; shape = Quantity; presence = Required }
    ∷ spec_row members.AccessModes Modes Required
    ∷ spec_row members.VolumeMode (OneOf (map volume_mode both)) (Default (volume_mode false))
    ∷ spec_row members.StorageClassName Text (Default [])
    ∷ spec_row members.PersistentVolumeReclaimPolicy (OneOf (map policy_word all_policies)) (Default (policy_word Retain))
    ∷ spec_row members.ClaimRef Reference Optional
    ∷ []

-- the members of a volume behind its source
abbrev pub volume_back : List Row
volume_back =
    record { way = members.Spec ∷ members.NodeAffinity ∷ members.Required ∷ []; member = members.NodeSelectorTerms; shape = Terms; presence = Optional }
    ∷ status_row members.Phase (OneOf (map volume_phase_word all_volume_phases)) (Default (volume_phase_word volume_phases.Pending))
    ∷ []

-- ---- what the table says of a value

-- why a reader refuses, if it does
abbrev pub fault : {X : Type 0} → Result X ObjectError → Option ObjectError
fault (Ok x) = None
fault (Err e) = Some e

-- a text that is one of these words
abbrev pub one_of : Member → List (List ℕ) → List ℕ → Result (List ℕ) ObjectError
one_of m words s = if list_any (bytes_eq s) words then Ok s else Err (WrongType m)

infixr 20 ◌then◌
-- the first of two faults
abbrev pub ◌then◌ : Option ObjectError → Option ObjectError → Option ObjectError
None then next = next
(Some e) then next = Some e

-- the fault of a value that stands
abbrev pub shape_fault : Shape → Member → Data → Option ObjectError
shape_fault Text m d = fault (as_text m d)
shape_fault (OneOf words) m d = fault (as_text m d >>= λ s. one_of m words s)
shape_fault Uuid m d = fault (as_text m d >>= λ s. uid_named m s)
shape_fault Version m d = fault (as_text m d >>= λ s. version_named m s)
shape_fault Moment m d = fault (as_text m d >>= λ s. stamp_named m s)
shape_fault Quantity m d = fault (amount_in m d)
shape_fault Modes m d = fault (as_items m d >>= λ ds. modes_from ds no_modes)
shape_fault Texts m d = fault (as_items m d >>= λ ds. texts_from m ds [])
shape_fault TextMap m d = fault (pairs_in m d)
shape_fault Members m d = fault (as_object m d)
shape_fault Reference m d = fault (as_object m d >>= λ o. ref_at (Some o))
shape_fault Terms m d = fault (as_items m d >>= λ ds. terms_from ds [])
shape_fault Selector m d = fault (as_object m d >>= λ o. selector_of (Some o))
shape_fault PodVolumes m d = fault (as_items m d >>= λ ds. claims_from ds [])

-- one fault where there is no value, another where there is one
abbrev pub on : Option ObjectError → (Data → Option ObjectError) → Option Data → Option ObjectError
on absent there None = absent
on absent there (Some d) = there d

-- the fault of a member that may be absent, by what the table asks of it
abbrev pub member_fault : Presence → Shape → Member → Option Data → Option ObjectError
member_fault Required shape m place = on (Some (Missing m)) (shape_fault shape m) (unless_null place)
member_fault Optional shape m place = on None (shape_fault shape m) place
member_fault (Default s) shape m place = on (shape_fault shape m (string s)) (shape_fault shape m) place
member_fault Nullable shape m place = on None (shape_fault shape m) (unless_null place)

-- an object on the way to a required member may be null, which is as absent; on another way it may not
abbrev pub step_to : Presence → Member → Option Data → Result (Option Data) ObjectError
step_to Required m place = needed_way m place
step_to Optional m place = some_object_at m place
step_to (Default s) m place = some_object_at m place
step_to Nullable m place = some_object_at m place

-- the object at the end of a way of members, or the first refusal on it
abbrev pub way_to : Presence → List Member → Option Data → Result (Option Data) ObjectError
way_to presence [] place = Ok place
way_to presence (m ∷ ms) place = step_to presence m place >>= λ next. way_to presence ms next

-- the refusal on the way, else the fault at its end
abbrev pub after : Result (Option Data) ObjectError → (Option Data → Option ObjectError) → Option ObjectError
after (Err e) f = Some e
after (Ok place) f = f place

-- the fault of a value by one row of the table
abbrev pub row_fault : Row → Data → Option ObjectError
row_fault row d = after (way_to row.presence row.way (Some d)) (λ place. member_fault row.presence row.shape row.member (at row.member place))

-- the first fault by these rows, in their order
abbrev pub rows_fault : List Row → Data → Option ObjectError
rows_fault [] d = None
rows_fault (row ∷ rows) d = row_fault row d then rows_fault rows d

-- the first source that is there counts
abbrev pub source_fault : Data → Option ObjectError
source_fault d = after (way_to Required (members.Spec ∷ []) (Some d)) (λ spec. fault (source_at spec))

-- the first fault by the table of a kind
abbrev pub kind_fault : Kind → Data → Option ObjectError
kind_fault kinds.StorageClass d = rows_fault meta_rows d then rows_fault class_rows d
kind_fault kinds.Node d = rows_fault meta_rows d then rows_fault node_rows d
kind_fault kinds.PersistentVolume d = rows_fault meta_rows d then rows_fault volume_front d then source_fault d then rows_fault volume_back d
kind_fault kinds.PersistentVolumeClaim d = rows_fault meta_rows d then rows_fault claim_rows d
kind_fault kinds.Pod d = rows_fault meta_rows d then rows_fault pod_rows d

-- the reader refuses a value exactly with the first fault of the rows of its kind
abbrev pub FollowsTable : Type 0
FollowsTable = (kind : Kind) (d : Data) → fault (object_of_kind kind d) ≡ kind_fault kind d

-- ---- examples: a class without a provisioner, with one, and with a policy that no class has

-- metadata with a name alone
abbrev bare_meta : Data
bare_meta = object (member (codes "name") (string (codes "a")) no_members)

-- a class without a provisioner
abbrev pub bare_class : Data
bare_class = object (member (codes "metadata") bare_meta no_members)

-- a class with a provisioner
abbrev pub whole_class : Data
whole_class = object (member (codes "metadata") bare_meta (member (codes "provisioner") (string (codes "p")) no_members))

-- a class whose policy no class may have
abbrev pub recycled_class : Data
recycled_class = object (member (codes "metadata") bare_meta (member (codes "provisioner") (string (codes "p")) (member (codes "reclaimPolicy") (string (codes "Recycle")) no_members)))

-- what the table says of these classes
pub record TableExamples : Type 0 where
  pub bare : kind_fault kinds.StorageClass bare_class ≡ Some (Missing members.Provisioner)
  pub whole : kind_fault kinds.StorageClass whole_class ≡ None
  pub recycled : kind_fault kinds.StorageClass recycled_class ≡ Some (WrongType members.ReclaimPolicy)
  pub other_kind : kind_fault kinds.PersistentVolume whole_class ≡ Some (Missing members.Storage)
