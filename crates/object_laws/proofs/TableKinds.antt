-- The reader of each kind refuses exactly with the first fault of the kind's rows of the table of manifests.
use Rattle.std.proofs.Common.{◌≡◌, List, [], ◌∷◌, ◌++◌, map, Bool, true, false, codes, Option, Some, None, Result, Ok, Err, refl, sym, ap, ◌∙◌}
use Rattle.serde_json.specs.Data.{Data, null, boolean, number, string, array, object}
use Rattle.json_text.specs.Look.{unless_null}
use Rattle.kube_parts.specs.declared.parts.Kind.TheVariants as kinds
use Rattle.kube_objects.specs.declared.objects.Object.TheVariants as objects
use Rattle.kube_objects.specs.declared.objects.Amount.{Amount}
use Rattle.kube_parts.specs.declared.parts.Policy.TheVariants.{Retain}
use Rattle.kube_parts.specs.declared.parts.VolumePhase.TheVariants as volume_phases
use Rattle.kube_parts.specs.declared.parts.ClaimPhase.TheVariants as claim_phases
use Rattle.kube_parts.specs.Words.{policy_word, volume_mode, volume_phase_word, claim_phase_word}
use Rattle.kube_parts.specs.Named.{both, all_policies, all_volume_phases, all_claim_phases}
use Rattle.object_text.specs.declared.kind_readers.VolumeShape.{VolumeShape}
use Rattle.object_text.specs.declared.kind_readers.ClaimShape.{ClaimShape}
use Rattle.object_text.specs.declared.errors.Member.{Member}
use Rattle.object_text.specs.declared.errors.Member.TheVariants as members
use Rattle.object_text.specs.declared.errors.ObjectError.{ObjectError}
use Rattle.object_text.specs.Answers.{◌>>=◌}
use Rattle.object_text.specs.MemberReaders.{
  at,
  as_object,
  needed_from,
  needed_text,
  needed_object,
  needed_way,
  way_from,
  some_object_at,
  text_or,
  optional_text,
  optional_items,
  pairs_at,
  texts_at,
  uid_at,
  stamp_at,
  stamp_or_empty,
  version_at,
}
use Rattle.object_text.specs.MetaReaders.{namespace_at, identity_at, marks_at, meta_with, meta_of}
use Rattle.object_text.specs.PartReaders.{
  quantity_at,
  optional_quantity,
  modes_at,
  optional_modes,
  block_at,
  policy_at,
  class_policy_at,
  delayed_at,
  volume_phase_at,
  claim_phase_at,
  claim_ref_at,
  source_at,
  terms_or_none,
  terms_at,
  selector_at,
  claims_at,
}
use Rattle.object_text.specs.KindReaders.{volume_shape, volume_ties, volume_spec_of, volume_status_of, volume_of, claim_shape, claim_ties, claim_status_of, claim_of, class_of, node_of, pod_of}
use Rattle.object_laws.specs.Manifests.{
  Text,
  OneOf,
  Uuid,
  Version,
  Moment,
  Quantity,
  Modes,
  Texts,
  TextMap,
  Members,
  Reference,
  Terms,
  Selector,
  PodVolumes,
  Presence,
  Required,
  Optional,
  Default,
  Nullable,
  Row,
  meta_row,
  spec_row,
  status_row,
  meta_rows,
  class_rows,
  claim_rows,
  pod_rows,
  node_rows,
  volume_front,
  volume_back,
  fault,
  ◌then◌,
  member_fault,
  step_to,
  way_to,
  after,
  row_fault,
  rows_fault,
  source_fault,
  FollowsTable,
  TableExamples,
}
use Rattle.object_laws.proofs.TableMembers.{
  mapped,
  needed_object_fault,
  needed_text_fault,
  quantity_fault,
  modes_fault,
  text_fault,
  namespace_fault,
  version_fault,
  optional_text_fault,
  uid_fault,
  stamp_fault,
  stamp_or_empty_fault,
  block_fault,
  policy_fault,
  class_policy_fault,
  delayed_fault,
  volume_phase_fault,
  claim_phase_fault,
  texts_fault,
  pairs_fault,
  optional_quantity_fault,
  optional_modes_fault,
  claim_ref_fault,
  selector_fault,
  claims_fault,
  terms_fault,
}

-- ---- one fault after another

then_none : (x : Option ObjectError) → (x then None) ≡ x
then_none None = refl
then_none (Some e) = refl

then_assoc : (x y z : Option ObjectError) → ((x then y) then z) ≡ (x then (y then z))
then_assoc None y z = refl
then_assoc (Some e) y z = refl

rows_append : (rows more : List Row) (d : Data) → rows_fault (rows ++ more) d ≡ (rows_fault rows d then rows_fault more d)
rows_append [] more d = refl
rows_append (row ∷ rows) more d = ap (λ o. row_fault row d then o) (rows_append rows more d) ∙ sym (then_assoc (row_fault row d) (rows_fault rows d) (rows_fault more d))

-- the next step, once the value is there
seq : {A B : Type 0} (r : Result A ObjectError) (f : A → Result B ObjectError) (x y : Option ObjectError) → fault r ≡ x → ((a : A) → r ≡ Ok a → fault (f a) ≡ y) → fault (r >>= f) ≡ (x then y)
seq (Ok a) f x y h k = k a refl ∙ ap (λ o. o then y) h
seq (Err e) f x y h k = ap (λ o. o then y) h

-- the way to some rows, and the rows
way_seq : {B : Type 0} (r : Result (Option Data) ObjectError) (f : Option Data → Result B ObjectError) (z : Option ObjectError)
    → ((place : Option Data) → r ≡ Ok place → fault (f place) ≡ z) → ((e : ObjectError) → r ≡ Err e → Some e ≡ z) → fault (r >>= f) ≡ z
way_seq (Ok place) f z h k = h place refl
way_seq (Err e) f z h k = k e refl

-- the first row, where its way gives this
first_row : (row : Row) (rows : List Row) (d : Data) (r : Result (Option Data) ObjectError) → way_to row.presence row.way (Some d) ≡ r
    → (after r (λ place. member_fault row.presence row.shape row.member (at row.member place)) then rows_fault rows d) ≡ rows_fault (row ∷ rows) d
first_row row rows d r is = ap (λ w. after w (λ place. member_fault row.presence row.shape row.member (at row.member place)) then rows_fault rows d) (sym is)

-- a row whose way leads to the place
row_is : (row : Row) (d : Data) (place : Option Data) (x : Option ObjectError) → way_to row.presence row.way (Some d) ≡ Ok place
    → x ≡ member_fault row.presence row.shape row.member (at row.member place) → x ≡ row_fault row d
row_is row d place x is h = h ∙ ap (λ w. after w (λ p. member_fault row.presence row.shape row.member (at row.member p))) (sym is)

-- one step on the way
one_step : (m : Member) (presence : Presence) (d : Data) (place : Option Data) → step_to presence m (Some d) ≡ Ok place → way_to presence (m ∷ []) (Some d) ≡ Ok place
one_step m presence d place is = ap (λ r. r >>= λ next. Ok next) is

-- ---- objects on the way

object_fault : (m : Member) (place : Option Data) → fault (some_object_at m place) ≡ member_fault Optional Members m (at m place)
object_fault m place = by (at m place)
  where
    by : (o : Option Data) → fault (way_from m o) ≡ member_fault Optional Members m o
    by None = refl
    by (Some d) = mapped (as_object m d) Some

-- an object that has to be there is there on each way
needed_ways : (m : Member) (place : Option Data) (o : Data) → needed_object m place ≡ Ok o → (needed_way m place ≡ Ok (Some o)) × (some_object_at m place ≡ Ok (Some o))
needed_ways m place o h = by (at m place) h
  where
    by : (p : Option Data) → (needed_from m (unless_null p) >>= λ d. as_object m d) ≡ Ok o → (way_from m (unless_null p) ≡ Ok (Some o)) × (way_from m p ≡ Ok (Some o))
    by None h = absurd cc
    by (Some null) h = absurd cc
    by (Some (boolean b)) h = absurd cc
    by (Some (number n)) h = absurd cc
    by (Some (string s)) h = absurd cc
    by (Some (array ds)) h = absurd cc
    by (Some (object ms)) h = (ap (λ r. r >>= λ d. Ok (Some d)) h, ap (λ r. r >>= λ d. Ok (Some d)) h)

-- an object on the way to a required member is there on each way
way_same : (m : Member) (place : Option Data) (o : Data) → needed_way m place ≡ Ok (Some o) → some_object_at m place ≡ Ok (Some o)
way_same m place o h = by (at m place) h
  where
    by : (p : Option Data) → way_from m (unless_null p) ≡ Ok (Some o) → way_from m p ≡ Ok (Some o)
    by None h = h
    by (Some null) h = absurd cc
    by (Some (boolean b)) h = h
    by (Some (number n)) h = h
    by (Some (string s)) h = h
    by (Some (array ds)) h = h
    by (Some (object ms)) h = h

-- ---- metadata

abbrev identity_rows : List Row
identity_rows =
    meta_row members.Name Text Required
    ∷ meta_row members.Namespace Text (Default (codes "default"))
    ∷ meta_row members.Uid Uuid Optional
    ∷ meta_row members.ResourceVersion Version (Default (codes "0"))
    ∷ []

abbrev marks_rows : List Row
marks_rows =
    meta_row members.CreationTimestamp Moment Nullable
    ∷ meta_row members.DeletionTimestamp Moment Nullable
    ∷ meta_row members.Labels TextMap Optional
    ∷ meta_row members.Annotations TextMap Optional
    ∷ meta_row members.Finalizers Texts Optional
    ∷ []

identity_fault : (namespaced : Bool) (d metadata : Data) → needed_way members.Metadata (Some d) ≡ Ok (Some metadata) → some_object_at members.Metadata (Some d) ≡ Ok (Some metadata)
    → fault (identity_at namespaced (Some metadata)) ≡ rows_fault identity_rows d
unfolding identity_at
identity_fault namespaced d metadata needed there =
    let place : Option Data = Some metadata in
    seq (needed_text members.Name place) _ _ _
    (row_is (meta_row members.Name Text Required) d place _ (one_step members.Metadata Required d place needed) (needed_text_fault members.Name place)) (λ name is_name.
    seq (namespace_at namespaced place) _ _ _
    (row_is (meta_row members.Namespace Text (Default (codes "default"))) d place _
    (one_step members.Metadata (Default (codes "default")) d place there) (namespace_fault namespaced place)) (λ namespace is_namespace.
    seq (uid_at members.Uid place) _ _ _ (row_is (meta_row members.Uid Uuid Optional) d place _ (one_step members.Metadata Optional d place there) (uid_fault members.Uid place)) (λ uid is_uid.
    seq (version_at members.ResourceVersion place) _ _ None
    (row_is (meta_row members.ResourceVersion Version (Default (codes "0"))) d place _
    (one_step members.Metadata (Default (codes "0")) d place there) (version_fault place)) (λ version is_version. refl))))

marks_fault : (d metadata : Data) → some_object_at members.Metadata (Some d) ≡ Ok (Some metadata) → fault (marks_at (Some metadata)) ≡ rows_fault marks_rows d
unfolding marks_at
marks_fault d metadata there =
    let place : Option Data = Some metadata in
    seq (stamp_or_empty members.CreationTimestamp place) _ _ _
    (row_is (meta_row members.CreationTimestamp Moment Nullable) d place _ (one_step members.Metadata Nullable d place there)
    (stamp_or_empty_fault members.CreationTimestamp place)) (λ created is_created.
    seq (stamp_at members.DeletionTimestamp place) _ _ _
    (row_is (meta_row members.DeletionTimestamp Moment Nullable) d place _ (one_step members.Metadata Nullable d place there) (stamp_fault members.DeletionTimestamp place)) (λ deleted is_deleted.
    seq (pairs_at members.Labels place) _ _ _
    (row_is (meta_row members.Labels TextMap Optional) d place _ (one_step members.Metadata Optional d place there) (pairs_fault members.Labels place)) (λ labels are_labels.
    seq (pairs_at members.Annotations place) _ _ _
    (row_is (meta_row members.Annotations TextMap Optional) d place _ (one_step members.Metadata Optional d place there) (pairs_fault members.Annotations place)) (λ annotations are_annotations.
    seq (texts_at members.Finalizers place) _ _ None
    (row_is (meta_row members.Finalizers Texts Optional) d place _ (one_step members.Metadata Optional d place there)
    (texts_fault members.Finalizers place)) (λ finalizers are_finalizers. refl)))))

meta_fault : (namespaced : Bool) (d : Data) → fault (meta_of namespaced d) ≡ rows_fault meta_rows d
unfolding meta_of
meta_fault namespaced d =
    seq (needed_object members.Metadata (Some d)) _ _ (rows_fault (identity_rows ++ marks_rows) d) (needed_object_fault members.Metadata (Some d)) (λ metadata is.
    let ways = needed_ways members.Metadata (Some d) metadata is in
    seq (identity_at namespaced (Some metadata)) _ _ (rows_fault marks_rows d) (identity_fault namespaced d metadata ways.0 ways.1) (λ i is_identity.
    mapped (marks_at (Some metadata)) (meta_with i) ∙ marks_fault d metadata ways.1)
    ∙ sym (rows_append identity_rows marks_rows d))

-- ---- classes, nodes and pods

class_fault : (d : Data) → fault (class_of d) ≡ (rows_fault meta_rows d then rows_fault class_rows d)
unfolding class_of
class_fault d =
    let place : Option Data = Some d in
    seq (meta_of false d) _ _ _ (meta_fault false d) (λ meta is_meta.
    seq (needed_text members.Provisioner place) _ _ _ (needed_text_fault members.Provisioner place) (λ provisioner is_provisioner.
    seq (class_policy_at place) _ _ _ (class_policy_fault place) (λ policy is_policy.
    seq (delayed_at place) _ _ _ (delayed_fault place) (λ delayed is_delayed.
    seq (pairs_at members.Parameters place) _ _ None (pairs_fault members.Parameters place) (λ parameters are_parameters. refl)))))

node_fault : (d : Data) → fault (node_of d) ≡ (rows_fault meta_rows d then rows_fault node_rows d)
unfolding node_of
node_fault d =
    seq (meta_of false d) _ _ _ (meta_fault false d) (λ meta is_meta.
    seq (some_object_at members.Spec (Some d)) _ _ None (object_fault members.Spec (Some d)) (λ spec is_spec. refl))

pod_fault : (d : Data) → fault (pod_of d) ≡ (rows_fault meta_rows d then rows_fault pod_rows d)
unfolding pod_of
pod_fault d =
    seq (meta_of true d) _ _ _ (meta_fault true d) (λ meta is_meta.
    way_seq (some_object_at members.Spec (Some d)) _ _ (λ spec is.
    seq (text_or members.NodeName [] spec) _ _ _
    (row_is (spec_row members.NodeName Text (Default [])) d spec _ (one_step members.Spec (Default []) d spec is) (text_fault members.NodeName [] spec)) (λ node is_node.
    seq (claims_at spec) _ _ None (row_is (spec_row members.Volumes PodVolumes Optional) d spec _ (one_step members.Spec Optional d spec is) (claims_fault spec)) (λ claims are_claims. refl)))
    (λ e is. first_row (spec_row members.NodeName Text (Default [])) (spec_row members.Volumes PodVolumes Optional ∷ []) d (Err e) (ap (λ r. r >>= λ next. Ok next) is)))

-- ---- claims

abbrev requests_row : Row
requests_row = record { way = members.Spec ∷ members.Resources ∷ members.Requests ∷ []; member = members.Storage; shape = Quantity; presence = Required }

abbrev got_row : Row
got_row = record { way = members.Status ∷ members.Capacity ∷ []; member = members.Storage; shape = Quantity; presence = Optional }

-- claim_rows: those of its shape, its ties and its status
abbrev shape_rows : List Row
shape_rows =
    spec_row members.AccessModes Modes Required
    ∷ spec_row members.VolumeMode (OneOf (map volume_mode both)) (Default (volume_mode false))
    ∷ requests_row
    ∷ []

abbrev ties_rows : List Row
ties_rows =
    spec_row members.StorageClassName Text Optional
    ∷ spec_row members.Selector Selector Optional
    ∷ spec_row members.VolumeName Text (Default [])
    ∷ []

abbrev status_rows : List Row
status_rows =
    status_row members.Phase (OneOf (map claim_phase_word all_claim_phases)) (Default (claim_phase_word claim_phases.Pending))
    ∷ status_row members.AccessModes Modes Optional
    ∷ got_row
    ∷ []

-- the storage that is requested, below two more objects
requests_seq : {B : Type 0} (d spec : Data) (g : Amount → B) → needed_way members.Spec (Some d) ≡ Ok (Some spec)
    → fault (needed_way members.Resources (Some spec) >>= λ resources. needed_way members.Requests resources >>= λ requests. quantity_at
    members.Storage requests >>= λ amount. Ok (g amount)) ≡ row_fault requests_row d
requests_seq {B} d spec g is =
    by (needed_way members.Resources (Some spec))
    ∙ ap (λ r. after (r >>= λ s. needed_way members.Resources s >>= λ resources. needed_way members.Requests resources >>= λ requests. Ok requests)
    (λ p. member_fault Required Quantity members.Storage (at members.Storage p))) (sym is)
  where
    last : (q : Result (Option Data) ObjectError)
        → fault (q >>= λ requests. quantity_at members.Storage requests >>= λ amount. Ok (g amount)) ≡ after (q >>= λ requests. Ok requests)
        (λ p. member_fault Required Quantity members.Storage (at members.Storage p))
    last (Ok requests) = mapped (quantity_at members.Storage requests) g ∙ quantity_fault members.Storage requests
    last (Err e) = refl

    by : (r : Result (Option Data) ObjectError) → fault (r >>= λ resources. needed_way members.Requests resources >>= λ requests. quantity_at members.Storage requests >>= λ amount. Ok (g amount))
        ≡ after (r >>= λ resources. needed_way members.Requests resources >>= λ requests. Ok requests) (λ p. member_fault Required Quantity members.Storage (at members.Storage p))
    by (Ok resources) = last (needed_way members.Requests resources)
    by (Err e) = refl

claim_shape_fault : (d spec : Data) → needed_way members.Spec (Some d) ≡ Ok (Some spec) → fault (claim_shape (Some spec)) ≡ rows_fault shape_rows d
unfolding claim_shape
claim_shape_fault d spec is =
    let place : Option Data = Some spec in
    let there = way_same members.Spec (Some d) spec is in
    seq (modes_at place) _ _ _ (row_is (spec_row members.AccessModes Modes Required) d place _ (one_step members.Spec Required d place is) (modes_fault place)) (λ modes are_modes.
    seq (block_at place) _ _ _ (row_is (spec_row members.VolumeMode (OneOf (map volume_mode both)) (Default (volume_mode false))) d place _
    (one_step members.Spec (Default (volume_mode false)) d place there) (block_fault place)) (λ block is_block.
    requests_seq d spec _ is ∙ sym (then_none (row_fault requests_row d))))

claim_ties_fault : (d spec : Data) → some_object_at members.Spec (Some d) ≡ Ok (Some spec) → fault (claim_ties (Some spec)) ≡ rows_fault ties_rows d
unfolding claim_ties
claim_ties_fault d spec there =
    let place : Option Data = Some spec in
    seq (optional_text members.StorageClassName place) _ _ _
    (row_is (spec_row members.StorageClassName Text Optional) d place _ (one_step members.Spec Optional d place there) (optional_text_fault members.StorageClassName place)) (λ class is_class.
    seq (selector_at place) _ _ _ (row_is (spec_row members.Selector Selector Optional) d place _ (one_step members.Spec Optional d place there) (selector_fault place)) (λ selector is_selector.
    seq (text_or members.VolumeName [] place) _ _ None
    (row_is (spec_row members.VolumeName Text (Default [])) d place _ (one_step members.Spec (Default []) d place there) (text_fault members.VolumeName [] place)) (λ name is_name. refl)))

-- what the claim got, below one more object
got_seq : {B : Type 0} (d : Data) (status : Option Data) (g : Option Amount → B) → some_object_at members.Status (Some d) ≡ Ok status
    → fault (some_object_at members.Capacity status >>= λ capacity. optional_quantity members.Storage capacity >>= λ amount. Ok (g amount)) ≡ row_fault got_row d
got_seq {B} d status g is =
    by (some_object_at members.Capacity status)
    ∙ ap (λ r. after (r >>= λ s. some_object_at members.Capacity s >>= λ capacity. Ok capacity) (λ p. member_fault Optional Quantity members.Storage (at members.Storage p))) (sym is)
  where
    by : (r : Result (Option Data) ObjectError) → fault (r >>= λ capacity. optional_quantity members.Storage capacity >>= λ amount. Ok (g amount))
        ≡ after (r >>= λ capacity. Ok capacity) (λ p. member_fault Optional Quantity members.Storage (at members.Storage p))
    by (Ok capacity) = mapped (optional_quantity members.Storage capacity) g ∙ optional_quantity_fault members.Storage capacity
    by (Err e) = refl

abbrev claim_phase_row : Row
claim_phase_row = status_row members.Phase (OneOf (map claim_phase_word all_claim_phases)) (Default (claim_phase_word claim_phases.Pending))

claim_status_fault : (d : Data) → fault (claim_status_of d) ≡ rows_fault status_rows d
unfolding claim_status_of
claim_status_fault d =
    way_seq (some_object_at members.Status (Some d)) _ _ (λ status is.
    seq (claim_phase_at status) _ _ _ (row_is claim_phase_row d status _
    (one_step members.Status (Default (claim_phase_word claim_phases.Pending)) d status is) (claim_phase_fault status)) (λ phase is_phase.
    seq (optional_modes status) _ _ _ (row_is (status_row members.AccessModes Modes Optional) d status _
    (one_step members.Status Optional d status is) (optional_modes_fault status)) (λ modes are_modes.
    got_seq d status _ is ∙ sym (then_none (row_fault got_row d)))))
    (λ e is. first_row claim_phase_row (status_row members.AccessModes Modes Optional ∷ got_row ∷ []) d (Err e) (ap (λ r. r >>= λ next. Ok next) is))

abbrev shape_rest : List Row
shape_rest = spec_row members.VolumeMode (OneOf (map volume_mode both)) (Default (volume_mode false)) ∷ requests_row ∷ []

-- the spec of a claim and its shape, and what comes after them
claim_spec_seq : {B : Type 0} (d : Data) (next : Option Data → ClaimShape → Result B ObjectError) (z : Option ObjectError)
    → ((spec : Data) → needed_way members.Spec (Some d) ≡ Ok (Some spec) → (shape : ClaimShape) → fault (next (Some spec) shape) ≡ z)
    → fault (needed_way members.Spec (Some d) >>= λ spec. claim_shape spec >>= λ shape. next spec shape) ≡ (rows_fault shape_rows d then z)
unfolding claim_shape modes_at
claim_spec_seq {B} d next z h = by (needed_way members.Spec (Some d)) refl
  where
    by : (r : Result (Option Data) ObjectError) → needed_way members.Spec (Some d) ≡ r → fault (r >>= λ spec. claim_shape spec >>= λ shape. next spec shape) ≡ (rows_fault shape_rows d then z)
    by (Err e) is = ap (λ o. o then z) (first_row (spec_row members.AccessModes Modes Required) shape_rest d (Err e) (ap (λ r. r >>= λ p. Ok p) is))
    by (Ok None) is = ap (λ o. o then z) (first_row (spec_row members.AccessModes Modes Required) shape_rest d (Ok None) (ap (λ r. r >>= λ p. Ok p) is))
    by (Ok (Some spec)) is = seq (claim_shape (Some spec)) _ _ z (claim_shape_fault d spec is) (λ shape is_shape. h spec is shape)

claim_fault : (d : Data) → fault (claim_of d) ≡ (rows_fault meta_rows d then rows_fault claim_rows d)
unfolding claim_of
claim_fault d =
    seq (meta_of true d) _ _ (rows_fault claim_rows d) (meta_fault true d) (λ meta is_meta.
    claim_spec_seq d _ (rows_fault (ties_rows ++ status_rows) d) (λ spec is shape.
    seq (claim_ties (Some spec)) _ _ (rows_fault status_rows d) (claim_ties_fault d spec (way_same members.Spec (Some d) spec is)) (λ ties are_ties.
    mapped (claim_status_of d) _ ∙ claim_status_fault d)
    ∙ sym (rows_append ties_rows status_rows d))
    ∙ sym (rows_append shape_rows (ties_rows ++ status_rows) d))

-- ---- volumes

abbrev capacity_row : Row
capacity_row = record { way = members.Spec ∷ members.Capacity ∷ []; member = members.Storage; shape = Quantity; presence = Required }

abbrev volume_rest : List Row
volume_rest =
    spec_row members.AccessModes Modes Required
    ∷ spec_row members.VolumeMode (OneOf (map volume_mode both)) (Default (volume_mode false))
    ∷ spec_row members.StorageClassName Text (Default [])
    ∷ spec_row members.PersistentVolumeReclaimPolicy (OneOf (map policy_word all_policies)) (Default (policy_word Retain))
    ∷ []

abbrev reference_row : Row
reference_row = spec_row members.ClaimRef Reference Optional

abbrev terms_row : Row
terms_row = record { way = members.Spec ∷ members.NodeAffinity ∷ members.Required ∷ []; member = members.NodeSelectorTerms; shape = Terms; presence = Optional }

abbrev volume_phase_row : Row
volume_phase_row = status_row members.Phase (OneOf (map volume_phase_word all_volume_phases)) (Default (volume_phase_word volume_phases.Pending))

-- the storage of the capacity, below one more object, and what comes after it
capacity_seq : {B : Type 0} (d spec : Data) (next : Amount → Result B ObjectError) (z : Option ObjectError)
    → needed_way members.Spec (Some d) ≡ Ok (Some spec) → ((amount : Amount) → fault (next amount) ≡ z)
    → fault (needed_way members.Capacity (Some spec) >>= λ capacity. quantity_at members.Storage capacity >>= λ amount. next amount) ≡ (row_fault capacity_row d then z)
capacity_seq {B} d spec next z is h =
    by (needed_way members.Capacity (Some spec))
    ∙ ap (λ r. after (r >>= λ s. needed_way members.Capacity s >>= λ capacity. Ok capacity) (λ p. member_fault Required Quantity members.Storage (at members.Storage p)) then z) (sym is)
  where
    by : (r : Result (Option Data) ObjectError) → fault (r >>= λ capacity. quantity_at members.Storage capacity >>= λ amount. next amount)
        ≡ (after (r >>= λ capacity. Ok capacity) (λ p. member_fault Required Quantity members.Storage (at members.Storage p)) then z)
    by (Ok capacity) = seq (quantity_at members.Storage capacity) _ _ z (quantity_fault members.Storage capacity) (λ amount is_amount. h amount)
    by (Err e) = refl

volume_shape_fault : (d spec : Data) → needed_way members.Spec (Some d) ≡ Ok (Some spec) → fault (volume_shape (Some spec)) ≡ rows_fault (capacity_row ∷ volume_rest) d
unfolding volume_shape
volume_shape_fault d spec is =
    let place : Option Data = Some spec in
    let there = way_same members.Spec (Some d) spec is in
    capacity_seq d spec _ (rows_fault volume_rest d) is (λ amount.
    seq (modes_at place) _ _ _ (row_is (spec_row members.AccessModes Modes Required) d place _ (one_step members.Spec Required d place is) (modes_fault place)) (λ modes are_modes.
    seq (block_at place) _ _ _ (row_is (spec_row members.VolumeMode (OneOf (map volume_mode both)) (Default (volume_mode false))) d place _
    (one_step members.Spec (Default (volume_mode false)) d place there) (block_fault place)) (λ block is_block.
    seq (text_or members.StorageClassName [] place) _ _ _
    (row_is (spec_row members.StorageClassName Text (Default [])) d place _ (one_step members.Spec (Default []) d place there) (text_fault members.StorageClassName [] place)) (λ class is_class.
    seq (policy_at place) _ _ None (row_is
    (spec_row members.PersistentVolumeReclaimPolicy (OneOf (map policy_word all_policies)) (Default (policy_word Retain))) d place _
    (one_step members.Spec (Default (policy_word Retain)) d place there) (policy_fault place)) (λ policy is_policy. refl)))))

-- the terms, below two more objects
terms_are : (d spec : Data) → some_object_at members.Spec (Some d) ≡ Ok (Some spec) → fault (terms_at (Some spec)) ≡ row_fault terms_row d
unfolding terms_at
terms_are d spec there =
    by (some_object_at members.NodeAffinity (Some spec))
    ∙ ap (λ r. after (r >>= λ s. some_object_at members.NodeAffinity s >>= λ affinity. some_object_at members.Required affinity >>= λ required. Ok
    required) (λ p. member_fault Optional Terms members.NodeSelectorTerms (at members.NodeSelectorTerms p))) (sym there)
  where
    last : (q : Result (Option Data) ObjectError)
        → fault (q >>= λ required. optional_items members.NodeSelectorTerms required >>= λ listed. terms_or_none listed) ≡ after
        (q >>= λ required. Ok required) (λ p. member_fault Optional Terms members.NodeSelectorTerms (at members.NodeSelectorTerms p))
    last (Ok required) = terms_fault required
    last (Err e) = refl

    by : (r : Result (Option Data) ObjectError)
        → fault (r >>= λ affinity. some_object_at members.Required affinity >>= λ required. optional_items members.NodeSelectorTerms required >>= λ listed. terms_or_none listed)
        ≡ after (r >>= λ affinity. some_object_at members.Required affinity >>= λ required. Ok required) (λ p. member_fault Optional Terms members.NodeSelectorTerms (at members.NodeSelectorTerms p))
    by (Ok affinity) = last (some_object_at members.Required affinity)
    by (Err e) = refl

volume_ties_fault : (d spec : Data) → needed_way members.Spec (Some d) ≡ Ok (Some spec) → fault (volume_ties (Some spec)) ≡ (row_fault reference_row d then (source_fault d then row_fault terms_row d))
unfolding volume_ties
volume_ties_fault d spec is =
    let place : Option Data = Some spec in
    let there = way_same members.Spec (Some d) spec is in
    seq (claim_ref_at place) _ _ _ (row_is reference_row d place _ (one_step members.Spec Optional d place there) (claim_ref_fault place)) (λ reference is_reference.
    seq (source_at place) _ _ _ (ap (λ w. after w (λ s. fault (source_at s))) (sym (one_step members.Spec Required d place is))) (λ source is_source.
    mapped (terms_at place) _ ∙ terms_are d spec there))

volume_spec_fault : (d : Data) → fault (volume_spec_of d) ≡ (rows_fault (capacity_row ∷ volume_rest) d then (row_fault reference_row d then (source_fault d then row_fault terms_row d)))
unfolding volume_spec_of volume_shape quantity_at
volume_spec_fault d = whole _ (λ spec is shape. mapped (volume_ties (Some spec)) _ ∙ volume_ties_fault d spec is)
  where
    whole : {B : Type 0} (next : Option Data → VolumeShape → Result B ObjectError) {z : Option ObjectError}
        → ((spec : Data) → needed_way members.Spec (Some d) ≡ Ok (Some spec) → (shape : VolumeShape) → fault (next (Some spec) shape) ≡ z)
        → fault (needed_way members.Spec (Some d) >>= λ spec. volume_shape spec >>= λ shape. next spec shape) ≡ (rows_fault (capacity_row ∷ volume_rest) d then z)
    whole {B} next {z} h = by (needed_way members.Spec (Some d)) refl
      where
        way_is : (r : Result (Option Data) ObjectError) → needed_way members.Spec (Some d) ≡ r
            → way_to Required (members.Spec ∷ members.Capacity ∷ []) (Some d) ≡ (r >>= λ s. needed_way members.Capacity s >>= λ capacity. Ok capacity)
        way_is r is = ap (λ q. q >>= λ s. needed_way members.Capacity s >>= λ capacity. Ok capacity) is

        by : (r : Result (Option Data) ObjectError) → needed_way members.Spec (Some d) ≡ r
            → fault (r >>= λ spec. volume_shape spec >>= λ shape. next spec shape) ≡ (rows_fault (capacity_row ∷ volume_rest) d then z)
        by (Err e) is = ap (λ o. o then z) (first_row capacity_row volume_rest d (Err e) (way_is (Err e) is))
        by (Ok None) is = ap (λ o. o then z) (first_row capacity_row volume_rest d (Ok None) (way_is (Ok None) is))
        by (Ok (Some spec)) is = seq (volume_shape (Some spec)) _ _ z (volume_shape_fault d spec is) (λ shape is_shape. h spec is shape)

volume_status_fault : (d : Data) → fault (volume_status_of d) ≡ row_fault volume_phase_row d
unfolding volume_status_of
volume_status_fault d = by (some_object_at members.Status (Some d))
  where
    by : (r : Result (Option Data) ObjectError) → fault (r >>= λ status. volume_phase_at status)
        ≡ after (r >>= λ status. Ok status) (λ p. member_fault (Default (volume_phase_word volume_phases.Pending)) (OneOf (map volume_phase_word all_volume_phases)) members.Phase (at members.Phase p))
    by (Ok status) = volume_phase_fault status
    by (Err e) = refl

-- the same faults in the same order
regrouped : (a b c d e : Option ObjectError) → ((a then (b then (c then d))) then e) ≡ ((a then (b then None)) then (c then (d then (e then None))))
regrouped (Some x) b c d e = refl
regrouped None (Some x) c d e = refl
regrouped None None (Some x) d e = refl
regrouped None None None (Some x) e = refl
regrouped None None None None e = sym (then_none e)

volume_fault : (d : Data) → fault (volume_of d) ≡ (rows_fault meta_rows d then (rows_fault volume_front d then (source_fault d then rows_fault volume_back d)))
unfolding volume_of
volume_fault d =
    seq (meta_of false d) _ _ _ (meta_fault false d) (λ meta is_meta.
    seq (volume_spec_of d) _ _ (row_fault volume_phase_row d) (volume_spec_fault d) (λ spec is_spec. mapped (volume_status_of d) _ ∙ volume_status_fault d)
    ∙ regrouped (rows_fault (capacity_row ∷ volume_rest) d) (row_fault reference_row d) (source_fault d) (row_fault terms_row d) (row_fault volume_phase_row d)
    ∙ ap (λ o. o then (source_fault d then rows_fault volume_back d)) (sym (rows_append (capacity_row ∷ volume_rest) (reference_row ∷ []) d)))

-- ---- every kind

pub follows_table : FollowsTable
follows_table kinds.StorageClass d = mapped (class_of d) objects.Class ∙ class_fault d
follows_table kinds.Node d = mapped (node_of d) objects.Node ∙ node_fault d
follows_table kinds.PersistentVolume d = mapped (volume_of d) objects.Volume ∙ volume_fault d
follows_table kinds.PersistentVolumeClaim d = mapped (claim_of d) objects.Claim ∙ claim_fault d
follows_table kinds.Pod d = mapped (pod_of d) objects.Pod ∙ pod_fault d

pub table_examples : TableExamples
table_examples = record { bare = refl; whole = refl; recycled = refl; other_kind = refl }
