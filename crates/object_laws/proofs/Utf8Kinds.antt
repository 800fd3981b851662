-- The texts of an object that was read from UTF-8 are UTF-8.
use Rattle.std.proofs.Common.{◌≡◌, ℕ, List, [], Bool, true, false, if◌then◌else◌, Option, Some, None, IfSome, Ok, Err, IfOk, IsUtf8, refl}
use Rattle.std.specs.Str.{is_utf8}
use Rattle.std.proofs.lemmas.Str.{IsUtf8-nil, IsUtf8-from_is_utf8}
use Rattle.serde_json.specs.Data.{Data}
use Rattle.serde_json.specs.Read.{read}
use Rattle.serde_json.specs.Written.{has_float}
use Rattle.kube_parts.specs.declared.parts.Kind.{Kind}
use Rattle.kube_parts.specs.declared.parts.Kind.TheVariants as kinds
use Rattle.object_text.specs.declared.errors.Member.TheVariants as members
use Rattle.object_text.specs.declared.errors.ObjectError.TheVariants.{NotObject, NotWhole}
use Rattle.object_text.specs.declared.extra.Listed.TheVariants as listed
use Rattle.object_text.specs.declared.kind_readers.VolumeShape.{VolumeShape}
use Rattle.object_text.specs.declared.kind_readers.VolumeTies.{VolumeTies}
use Rattle.object_text.specs.declared.kind_readers.VolumeSpec.{VolumeSpec}
use Rattle.object_text.specs.declared.kind_readers.ClaimShape.{ClaimShape}
use Rattle.object_text.specs.declared.kind_readers.ClaimTies.{ClaimTies}
use Rattle.object_text.specs.declared.kind_readers.ClaimStatus.{ClaimStatus}
use Rattle.object_text.specs.MemberReaders.{needed_text, needed_way, some_object_at, text_or, optional_text, pairs_at}
use Rattle.object_text.specs.MetaReaders.{meta_of}
use Rattle.object_text.specs.PartReaders.{
  quantity_at,
  optional_quantity,
  modes_at,
  optional_modes,
  block_at,
  policy_at,
  class_policy_at,
  delayed_at,
  claim_phase_at,
  claim_ref_at,
  source_at,
  terms_at,
  selector_at,
  claims_at,
}
use Rattle.object_text.specs.KindReaders.{volume_shape, volume_ties, volume_spec_of, volume_status_of, volume_of, claim_shape, claim_ties, claim_status_of, claim_of, class_of, node_of, pod_of}
use Rattle.object_text.specs.Reading.{is_object, whole_object, kind_at, object_of_kind, object_of, value_in, value_of}
use Rattle.object_laws.proofs.GivesParts.{step, past, if_ok}
use Rattle.object_laws.proofs.Utf8Texts.{HasUtf8}
use Rattle.object_laws.proofs.Utf8Read.{read_utf8}
use Rattle.object_laws.proofs.Utf8Objects.{Each, PairUtf8, MetaUtf8, AmountUtf8, RefUtf8, SourceUtf8, TermsUtf8, SelectorUtf8, VolumeUtf8, ClaimUtf8, ClassUtf8, NodeUtf8, PodUtf8, ObjectUtf8}
use Rattle.object_laws.proofs.Utf8Readers.{
  PlaceUtf8,
  TextIf,
  needed_text_read_utf8,
  needed_way_read_utf8,
  object_at_read_utf8,
  text_or_read_utf8,
  optional_text_read_utf8,
  pairs_read_utf8,
  meta_read_utf8,
  quantity_read_utf8,
  optional_quantity_read_utf8,
  claim_ref_read_utf8,
  source_read_utf8,
  terms_read_utf8,
  selector_read_utf8,
  extra_read_utf8,
}

-- ---- volumes

abbrev ShapeUtf8 : VolumeShape → Type 0
ShapeUtf8 s = AmountUtf8 s.amount × IsUtf8 s.class

shape_read_utf8 : (spec : Option Data) → PlaceUtf8 spec → IfOk (volume_shape spec) ShapeUtf8
unfolding volume_shape
shape_read_utf8 spec h =
    step PlaceUtf8 ShapeUtf8 (needed_way members.Capacity spec) _ (needed_way_read_utf8 members.Capacity spec h) (λ capacity capacity_utf8.
    step AmountUtf8 ShapeUtf8 (quantity_at members.Storage capacity) _ (quantity_read_utf8 members.Storage capacity capacity_utf8) (λ amount amount_utf8.
    past ShapeUtf8 (modes_at spec) _ (λ modes.
    past ShapeUtf8 (block_at spec) _ (λ block.
    step IsUtf8 ShapeUtf8 (text_or members.StorageClassName [] spec) _ (text_or_read_utf8 members.StorageClassName [] spec IsUtf8-nil h) (λ class class_utf8.
    past ShapeUtf8 (policy_at spec) _ (λ policy. (amount_utf8, class_utf8)))))))

record TiesUtf8 (t : VolumeTies) : Type 0 where
  claim_ref : IfSome t.claim_ref RefUtf8
  source : SourceUtf8 t.source
  terms : IfSome t.terms TermsUtf8

ties_read_utf8 : (spec : Option Data) → PlaceUtf8 spec → IfOk (volume_ties spec) TiesUtf8
unfolding volume_ties
ties_read_utf8 spec h =
    step (λ r. IfSome r RefUtf8) TiesUtf8 (claim_ref_at spec) _ (claim_ref_read_utf8 spec h) (λ claim_ref claim_ref_utf8.
    step SourceUtf8 TiesUtf8 (source_at spec) _ (source_read_utf8 spec h) (λ source source_utf8.
    step (λ t. IfSome t TermsUtf8) TiesUtf8 (terms_at spec) _ (terms_read_utf8 spec h) (λ terms terms_utf8.
    record { claim_ref = claim_ref_utf8; source = source_utf8; terms = terms_utf8 })))

record SpecUtf8 (s : VolumeSpec) : Type 0 where
  shape : ShapeUtf8 s.shape
  ties : TiesUtf8 s.ties
  extra : IsUtf8 s.extra

spec_read_utf8 : (d : Data) → HasUtf8 d → IfOk (volume_spec_of d) SpecUtf8
unfolding volume_spec_of
spec_read_utf8 d h =
    step PlaceUtf8 SpecUtf8 (needed_way members.Spec (Some d)) _ (needed_way_read_utf8 members.Spec (Some d) h) (λ spec spec_utf8.
    step ShapeUtf8 SpecUtf8 (volume_shape spec) _ (shape_read_utf8 spec spec_utf8) (λ shape shape_utf8.
    step TiesUtf8 SpecUtf8 (volume_ties spec) _ (ties_read_utf8 spec spec_utf8) (λ ties ties_utf8.
    record { shape = shape_utf8; ties = ties_utf8; extra = extra_read_utf8 (listed.Volume ties.source.kind) spec spec_utf8 })))

volume_read_utf8 : (d : Data) → HasUtf8 d → IfOk (volume_of d) VolumeUtf8
unfolding volume_of
volume_read_utf8 d h =
    step MetaUtf8 VolumeUtf8 (meta_of false d) _ (meta_read_utf8 false d h) (λ meta meta_utf8.
    step SpecUtf8 VolumeUtf8 (volume_spec_of d) _ (spec_read_utf8 d h) (λ spec spec_utf8.
    past VolumeUtf8 (volume_status_of d) _ (λ phase.
    record {
      meta = meta_utf8;
      amount = spec_utf8.shape.0;
      class = spec_utf8.shape.1;
      claim_ref = spec_utf8.ties.claim_ref;
      source = spec_utf8.ties.source;
      terms = spec_utf8.ties.terms;
      extra = spec_utf8.extra;
    })))

-- ---- claims

abbrev ClaimShapeUtf8 : ClaimShape → Type 0
ClaimShapeUtf8 s = AmountUtf8 s.amount

claim_shape_read_utf8 : (spec : Option Data) → PlaceUtf8 spec → IfOk (claim_shape spec) ClaimShapeUtf8
unfolding claim_shape
claim_shape_read_utf8 spec h =
    past ClaimShapeUtf8 (modes_at spec) _ (λ modes.
    past ClaimShapeUtf8 (block_at spec) _ (λ block.
    step PlaceUtf8 ClaimShapeUtf8 (needed_way members.Resources spec) _ (needed_way_read_utf8 members.Resources spec h) (λ resources resources_utf8.
    step PlaceUtf8 ClaimShapeUtf8 (needed_way members.Requests resources) _ (needed_way_read_utf8 members.Requests resources resources_utf8) (λ requests requests_utf8.
    step AmountUtf8 ClaimShapeUtf8 (quantity_at members.Storage requests) _ (quantity_read_utf8 members.Storage requests requests_utf8) (λ amount amount_utf8. amount_utf8)))))

abbrev ClaimTiesUtf8 : ClaimTies → Type 0
ClaimTiesUtf8 t = IfSome t.class IsUtf8 × IfSome t.selector SelectorUtf8 × IsUtf8 t.volume_name

claim_ties_read_utf8 : (spec : Option Data) → PlaceUtf8 spec → IfOk (claim_ties spec) ClaimTiesUtf8
unfolding claim_ties
claim_ties_read_utf8 spec h =
    step TextIf ClaimTiesUtf8 (optional_text members.StorageClassName spec) _ (optional_text_read_utf8 members.StorageClassName spec h) (λ class class_utf8.
    step (λ s. IfSome s SelectorUtf8) ClaimTiesUtf8 (selector_at spec) _ (selector_read_utf8 spec h) (λ selector selector_utf8.
    step IsUtf8 ClaimTiesUtf8 (text_or members.VolumeName [] spec) _ (text_or_read_utf8 members.VolumeName [] spec IsUtf8-nil h) (λ volume_name name_utf8. (class_utf8, selector_utf8, name_utf8))))

abbrev ClaimStatusUtf8 : ClaimStatus → Type 0
ClaimStatusUtf8 s = IfSome s.got AmountUtf8

claim_status_read_utf8 : (d : Data) → HasUtf8 d → IfOk (claim_status_of d) ClaimStatusUtf8
unfolding claim_status_of
claim_status_read_utf8 d h =
    step PlaceUtf8 ClaimStatusUtf8 (some_object_at members.Status (Some d)) _ (object_at_read_utf8 members.Status (Some d) h) (λ status status_utf8.
    past ClaimStatusUtf8 (claim_phase_at status) _ (λ phase.
    past ClaimStatusUtf8 (optional_modes status) _ (λ got_modes.
    step PlaceUtf8 ClaimStatusUtf8 (some_object_at members.Capacity status) _ (object_at_read_utf8 members.Capacity status status_utf8) (λ capacity capacity_utf8.
    step (λ a. IfSome a AmountUtf8) ClaimStatusUtf8 (optional_quantity members.Storage capacity) _ (optional_quantity_read_utf8 members.Storage capacity capacity_utf8) (λ got got_utf8. got_utf8)))))

claim_read_utf8 : (d : Data) → HasUtf8 d → IfOk (claim_of d) ClaimUtf8
unfolding claim_of
claim_read_utf8 d h =
    step MetaUtf8 ClaimUtf8 (meta_of true d) _ (meta_read_utf8 true d h) (λ meta meta_utf8.
    step PlaceUtf8 ClaimUtf8 (needed_way members.Spec (Some d)) _ (needed_way_read_utf8 members.Spec (Some d) h) (λ spec spec_utf8.
    step ClaimShapeUtf8 ClaimUtf8 (claim_shape spec) _ (claim_shape_read_utf8 spec spec_utf8) (λ shape shape_utf8.
    step ClaimTiesUtf8 ClaimUtf8 (claim_ties spec) _ (claim_ties_read_utf8 spec spec_utf8) (λ ties ties_utf8.
    step ClaimStatusUtf8 ClaimUtf8 (claim_status_of d) _ (claim_status_read_utf8 d h) (λ status status_utf8.
    record {
      meta = meta_utf8;
      amount = shape_utf8;
      class = ties_utf8.0;
      selector = ties_utf8.1;
      volume_name = ties_utf8.2;
      got =
          status_utf8;
      extra = extra_read_utf8 listed.Claim spec spec_utf8;
    })))))

-- ---- classes, nodes and pods

class_read_utf8 : (d : Data) → HasUtf8 d → IfOk (class_of d) ClassUtf8
unfolding class_of
class_read_utf8 d h =
    step MetaUtf8 ClassUtf8 (meta_of false d) _ (meta_read_utf8 false d h) (λ meta meta_utf8.
    step IsUtf8 ClassUtf8 (needed_text members.Provisioner (Some d)) _ (needed_text_read_utf8 members.Provisioner (Some d) h) (λ provisioner provisioner_utf8.
    past ClassUtf8 (class_policy_at (Some d)) _ (λ policy.
    past ClassUtf8 (delayed_at (Some d)) _ (λ delayed.
    step (Each PairUtf8) ClassUtf8 (pairs_at members.Parameters (Some d)) _ (pairs_read_utf8 members.Parameters (Some d) h) (λ parameters parameters_utf8.
    record { meta = meta_utf8; provisioner = provisioner_utf8; parameters = parameters_utf8; extra = extra_read_utf8 listed.Class (Some d) h })))))

node_read_utf8 : (d : Data) → HasUtf8 d → IfOk (node_of d) NodeUtf8
unfolding node_of
node_read_utf8 d h =
    step MetaUtf8 NodeUtf8 (meta_of false d) _ (meta_read_utf8 false d h) (λ meta meta_utf8.
    step PlaceUtf8 NodeUtf8 (some_object_at members.Spec (Some d)) _ (object_at_read_utf8 members.Spec (Some d) h)
    (λ spec spec_utf8. record { meta = meta_utf8; extra = extra_read_utf8 listed.Node spec spec_utf8 }))

pod_read_utf8 : (d : Data) → HasUtf8 d → IfOk (pod_of d) PodUtf8
unfolding pod_of
pod_read_utf8 d h =
    step MetaUtf8 PodUtf8 (meta_of true d) _ (meta_read_utf8 true d h) (λ meta meta_utf8.
    step PlaceUtf8 PodUtf8 (some_object_at members.Spec (Some d)) _ (object_at_read_utf8 members.Spec (Some d) h) (λ spec spec_utf8.
    step IsUtf8 PodUtf8 (text_or members.NodeName [] spec) _ (text_or_read_utf8 members.NodeName [] spec IsUtf8-nil spec_utf8) (λ node node_utf8.
    past PodUtf8 (claims_at spec) _ (λ claims. record { meta = meta_utf8; node = node_utf8; extra = extra_read_utf8 listed.Pod spec spec_utf8 }))))

-- ---- objects

kind_read_utf8 : (kind : Kind) (d : Data) → HasUtf8 d → IfOk (object_of_kind kind d) ObjectUtf8
kind_read_utf8 kinds.StorageClass d h = step ClassUtf8 ObjectUtf8 (class_of d) _ (class_read_utf8 d h) (λ c u. u)
kind_read_utf8 kinds.Node d h = step NodeUtf8 ObjectUtf8 (node_of d) _ (node_read_utf8 d h) (λ n u. u)
kind_read_utf8 kinds.PersistentVolume d h = step VolumeUtf8 ObjectUtf8 (volume_of d) _ (volume_read_utf8 d h) (λ v u. u)
kind_read_utf8 kinds.PersistentVolumeClaim d h = step ClaimUtf8 ObjectUtf8 (claim_of d) _ (claim_read_utf8 d h) (λ c u. u)
kind_read_utf8 kinds.Pod d h = step PodUtf8 ObjectUtf8 (pod_of d) _ (pod_read_utf8 d h) (λ p u. u)

whole_utf8 : (value : Data) → HasUtf8 value → IfOk (whole_object value) HasUtf8
whole_utf8 value h = if_ok HasUtf8 (is_object value) (if has_float value then Err NotWhole else Ok value) (Err NotObject) (λ e. if_ok HasUtf8
    (has_float value) (Err NotWhole) (Ok value) (λ f. tt) (λ f. h)) (λ e. tt)

pub object_read_utf8 : (value : Data) → HasUtf8 value → IfOk (object_of value) ObjectUtf8
unfolding object_of
object_read_utf8 value h = step HasUtf8 ObjectUtf8 (whole_object value) _ (whole_utf8 value h) (λ d u. past ObjectUtf8 (kind_at d) _ (λ kind. kind_read_utf8 kind d u))

pub value_read_utf8 : (text : List ℕ) → IfOk (value_of text) HasUtf8
value_read_utf8 text = by (is_utf8 text) refl
  where
    in_utf8 : (o : Option Data) → IfSome o HasUtf8 → IfOk (value_in o) HasUtf8
    in_utf8 None h = tt
    in_utf8 (Some d) h = h

    by : (b : Bool) → is_utf8 text ≡ b → IfOk (value_in (if b then read text else None)) HasUtf8
    by true e = in_utf8 (read text) (read_utf8 text (IsUtf8-from_is_utf8 text e))
    by false e = tt
