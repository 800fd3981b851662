-- What the readers of the five kinds give meets what is asked of objects that a manifest can give.
use Rattle.std.proofs.Common.{◌≡◌, ℕ, suc, List, [], true, false, Option, Some, None, Ok, IfOk, IfSome, refl, sym, ap, ◌∙◌}
use Rattle.serde_json.specs.Data.{Data, null, boolean, number, string, array, object, Members}
use Rattle.serde_json.specs.Find.{get_member}
use Rattle.json_text.specs.Look.{unless_null}
use Rattle.json_text.specs.Trees.{others}
use Rattle.json_text.specs.Canonical.{AreMembers}
use Rattle.json_text.specs.Build.{Good, GoodMembers, GoodOption}
use Rattle.json_text.proofs.Good.{good_none, good_member, good_members, good_others}
use Rattle.json_text.proofs.PutAll.{others_are}
use Rattle.json_text.proofs.MembersKept.{member_kept}
use Rattle.plain_data.specs.Pairs.{ArePairs}
use Rattle.kube_parts.specs.declared.parts.SourceKind.{SourceKind}
use Rattle.kube_parts.specs.declared.parts.SourceKind.TheVariants.{Csi, Nfs, Local, HostPath}
use Rattle.object_text.specs.declared.errors.Member.{Member}
use Rattle.object_text.specs.declared.errors.Member.TheVariants as members
use Rattle.object_text.specs.declared.extra.Listed.{Listed}
use Rattle.object_text.specs.declared.extra.Listed.TheVariants as listed
use Rattle.object_text.specs.declared.kind_readers.VolumeShape.{VolumeShape}
use Rattle.object_text.specs.declared.kind_readers.VolumeTies.{VolumeTies}
use Rattle.object_text.specs.declared.kind_readers.VolumeSpec.{VolumeSpec}
use Rattle.object_text.specs.declared.kind_readers.ClaimShape.{ClaimShape}
use Rattle.object_text.specs.declared.kind_readers.ClaimTies.{ClaimTies}
use Rattle.object_text.specs.declared.kind_readers.ClaimStatus.{ClaimStatus}
use Rattle.object_text.specs.Answers.{◌>>=◌}
use Rattle.object_text.specs.MemberWords.{member_word}
use Rattle.object_text.specs.MemberReaders.{at, needed_text, way_from, needed_way, some_object_at, text_or, optional_text, optional_items_from, pairs_at}
use Rattle.object_text.specs.MetaReaders.{meta_of}
use Rattle.object_text.specs.PartReaders.{
  quantity_at,
  optional_quantity,
  modes_at,
  optional_modes,
  block_at,
  policy_at,
  class_policy_at,
  delayed_at,
  claim_phase_at,
  claim_ref_at,
  there,
  source_at,
  terms_at,
  selector_at,
  claims_or_none,
  claims_at,
}
use Rattle.object_text.specs.ExtraMembers.{is_listed_member, place_members, extra_at}
use Rattle.object_text.specs.KindReaders.{volume_shape, volume_ties, volume_spec_of, volume_status_of, volume_of, claim_shape, claim_ties, claim_status_of, claim_of, class_of, node_of, pod_of}
use Rattle.object_laws.specs.Given.{IsMeta, IsAmount, IsRef, IsSource, IsSelector, IsClassPolicy, AreExtra, IsFree, NoneBefore, AreVolumeExtra, IsVolume, IsClaim, IsClass, IsNode, IsPod}
use Rattle.object_laws.proofs.GivesParts.{
  step,
  past,
  itself,
  pairs_given,
  meta_given,
  quantity_given,
  optional_quantity_given,
  class_policy_given,
  claim_ref_given,
  NoneThere,
  IsFirst,
  source_given,
  selector_given,
}

-- ---- places: a member's value nests less deep than the object

at_is : (m : Member) (place : Option Data) → at m place ≡ get_member (member_word m) (place_members place)
at_is m None = refl
at_is m (Some null) = refl
at_is m (Some (boolean b)) = refl
at_is m (Some (number n)) = refl
at_is m (Some (string s)) = refl
at_is m (Some (array ds)) = refl
at_is m (Some (object ms)) = refl

abbrev pub IsGoodPlace : ℕ → Option Data → Type 0
IsGoodPlace n place = GoodMembers n (place_members place)

pub good_place : (n : ℕ) (d : Data) → Good (suc n) d → IsGoodPlace n (Some d)
good_place n null h = good_none
good_place n (boolean b) h = good_none
good_place n (number k) h = good_none
good_place n (string s) h = good_none
good_place n (array ds) h = good_none
good_place n (object ms) h = good_members h

good_found : (n : ℕ) (k : List ℕ) (ms : Members) → GoodMembers n ms → GoodOption n (get_member k ms)
good_found n k ms h = by (get_member k ms) refl
  where
    by : (o : Option Data) → get_member k ms ≡ o → GoodOption n o
    by None e = tt
    by (Some d) e = good_member k ms d h e

good_at : (n : ℕ) (m : Member) (place : Option Data) → IsGoodPlace n place → GoodOption n (at m place)
good_at n m place h = rw (at_is m place) (good_found n (member_word m) (place_members place) h)

good_unless : (n : ℕ) (o : Option Data) → GoodOption n o → GoodOption n (unless_null o)
good_unless n None h = tt
good_unless n (Some null) h = tt
good_unless n (Some (boolean b)) h = h
good_unless n (Some (number k)) h = h
good_unless n (Some (string s)) h = h
good_unless n (Some (array ds)) h = h
good_unless n (Some (object ms)) h = h

good_way : (n : ℕ) (m : Member) (o : Option Data) → GoodOption (suc n) o → IfOk (way_from m o) (IsGoodPlace n)
good_way n m None h = good_none
good_way n m (Some null) h = tt
good_way n m (Some (boolean b)) h = tt
good_way n m (Some (number k)) h = tt
good_way n m (Some (string s)) h = tt
good_way n m (Some (array ds)) h = tt
good_way n m (Some (object ms)) h = good_members h

-- the object at a member
pub needed_way_given : (n : ℕ) (m : Member) (d : Data) → Good (suc (suc n)) d → IfOk (needed_way m (Some d)) (IsGoodPlace n)
needed_way_given n m d h = good_way n m (unless_null (at m (Some d))) (good_unless (suc n) (at m (Some d)) (good_at (suc n) m (Some d) (good_place (suc n) d h)))

pub object_at_given : (n : ℕ) (m : Member) (d : Data) → Good (suc (suc n)) d → IfOk (some_object_at m (Some d)) (IsGoodPlace n)
object_at_given n m d h = good_way n m (at m (Some d)) (good_at (suc n) m (Some d) (good_place (suc n) d h))

-- ---- the members that are kept

abbrev kept_members : Listed → Option Data → Members
kept_members known place = others (is_listed_member known) (place_members place)

extra_given : (n : ℕ) (known : Listed) (place : Option Data) → IsGoodPlace n place → AreExtra n known (extra_at known place) (kept_members known place)
unfolding extra_at
extra_given n known place h = record { text = refl; others = others_are (is_listed_member known) (place_members place); good = good_others (is_listed_member known) (place_members place) h }

same_at : (known : Listed) (m : Member) (place : Option Data) → is_listed_member known (member_word m) ≡ false → AreMembers (place_members place)
    → get_member (member_word m) (kept_members known place) ≡ at m place
same_at known m place free h = member_kept (is_listed_member known) (member_word m) (place_members place) free h ∙ sym (at_is m place)

free_at : (known : Listed) (m : Member) (place : Option Data) → is_listed_member known (member_word m) ≡ false → AreMembers (place_members place)
    → there m place ≡ None → IsFree (member_word m) (kept_members known place)
free_at known m place free h none = ap unless_null (same_at known m place free h) ∙ none

none_before_given : (kind : SourceKind) (place : Option Data) → AreMembers (place_members place) → NoneThere kind (there members.Csi place) (there members.Nfs place) (there members.Local place)
    → NoneBefore kind (kept_members (listed.Volume kind) place)
none_before_given Csi place h none = tt
none_before_given Nfs place h none = free_at (listed.Volume Nfs) members.Csi place refl h none
none_before_given Local place h none = (free_at (listed.Volume Local) members.Csi place refl h none.0, free_at (listed.Volume Local) members.Nfs place refl h none.1)
none_before_given HostPath place h none = (
  free_at (listed.Volume HostPath) members.Csi place refl h none.0,
  free_at (listed.Volume HostPath) members.Nfs place refl h none.1,
  free_at (listed.Volume HostPath) members.Local place refl h none.2,
)

-- ---- volumes

abbrev IsVolumeShape : VolumeShape → Type 0
IsVolumeShape s = IsAmount s.amount

volume_shape_given : (spec : Option Data) → IfOk (volume_shape spec) IsVolumeShape
unfolding volume_shape
volume_shape_given spec =
    past IsVolumeShape (needed_way members.Capacity spec) _ (λ capacity.
    step IsAmount IsVolumeShape (quantity_at members.Storage capacity) _ (quantity_given members.Storage capacity) (λ amount is_amount.
    past IsVolumeShape (modes_at spec) _ (λ modes.
    past IsVolumeShape (block_at spec) _ (λ block.
    past IsVolumeShape (text_or members.StorageClassName [] spec) _ (λ class.
    past IsVolumeShape (policy_at spec) _ (λ policy. is_amount))))))

abbrev AreVolumeTies : Option Data → VolumeTies → Type 0
AreVolumeTies spec t = IfSome t.claim_ref IsRef × IsFirst (there members.Csi spec) (there members.Nfs spec) (there members.Local spec) t.source

volume_ties_given : (spec : Option Data) → IfOk (volume_ties spec) (AreVolumeTies spec)
unfolding volume_ties
volume_ties_given spec =
    step (λ r. IfSome r IsRef) (AreVolumeTies spec) (claim_ref_at spec) _ (claim_ref_given spec) (λ claim_ref is_ref.
    step (IsFirst (there members.Csi spec) (there members.Nfs spec) (there members.Local spec)) (AreVolumeTies spec) (source_at spec) _ (source_given spec) (λ source is_source.
    past (AreVolumeTies spec) (terms_at spec) _ (λ terms. (is_ref, is_source))))

record IsVolumeSpec (s : VolumeSpec) : Type 0 where
  amount : IsAmount s.shape.amount
  claim_ref : IfSome s.ties.claim_ref IsRef
  source : IsSource s.ties.source
  extra : (ms : Members) × AreVolumeExtra s.ties.source.kind s.extra ms

volume_spec_given : (d : Data) → Good 127 d → IfOk (volume_spec_of d) IsVolumeSpec
unfolding volume_spec_of
volume_spec_given d h =
    step (IsGoodPlace 125) IsVolumeSpec (needed_way members.Spec (Some d)) _ (needed_way_given 125 members.Spec d h) (λ spec good.
    step IsVolumeShape IsVolumeSpec (volume_shape spec) _ (volume_shape_given spec) (λ shape is_shape.
    step (AreVolumeTies spec) IsVolumeSpec (volume_ties spec) _ (volume_ties_given spec) (λ ties are_ties.
    record {
      amount = is_shape;
      claim_ref = are_ties.0;
      source = are_ties.1.0;
      extra = (
        kept_members (listed.Volume ties.source.kind) spec,
        record { extra = extra_given 125 (listed.Volume ties.source.kind) spec good; free = none_before_given ties.source.kind spec good.canonical are_ties.1.1 },
      );
    })))

pub volume_given : (d : Data) → Good 127 d → IfOk (volume_of d) IsVolume
unfolding volume_of
volume_given d h =
    step (IsMeta false) IsVolume (meta_of false d) _ (meta_given false d) (λ meta is_meta.
    step IsVolumeSpec IsVolume (volume_spec_of d) _ (volume_spec_given d h) (λ spec is_spec.
    past IsVolume (volume_status_of d) _ (λ phase.
    record { meta = is_meta; amount = is_spec.amount; claim_ref = is_spec.claim_ref; source = is_spec.source; extra = is_spec.extra })))

-- ---- claims

abbrev IsClaimShape : ClaimShape → Type 0
IsClaimShape s = IsAmount s.amount

claim_shape_given : (spec : Option Data) → IfOk (claim_shape spec) IsClaimShape
unfolding claim_shape
claim_shape_given spec =
    past IsClaimShape (modes_at spec) _ (λ modes.
    past IsClaimShape (block_at spec) _ (λ block.
    past IsClaimShape (needed_way members.Resources spec) _ (λ resources.
    past IsClaimShape (needed_way members.Requests resources) _ (λ requests.
    step IsAmount IsClaimShape (quantity_at members.Storage requests) _ (quantity_given members.Storage requests) (λ amount is_amount. is_amount)))))

abbrev AreClaimTies : ClaimTies → Type 0
AreClaimTies t = IfSome t.selector IsSelector

claim_ties_given : (spec : Option Data) → IfOk (claim_ties spec) AreClaimTies
unfolding claim_ties
claim_ties_given spec =
    past AreClaimTies (optional_text members.StorageClassName spec) _ (λ class.
    step (λ s. IfSome s IsSelector) AreClaimTies (selector_at spec) _ (selector_given spec) (λ selector is_selector.
    past AreClaimTies (text_or members.VolumeName [] spec) _ (λ volume_name. is_selector)))

abbrev IsClaimStatus : ClaimStatus → Type 0
IsClaimStatus s = IfSome s.got IsAmount

claim_status_given : (d : Data) → IfOk (claim_status_of d) IsClaimStatus
unfolding claim_status_of
claim_status_given d =
    past IsClaimStatus (some_object_at members.Status (Some d)) _ (λ status.
    past IsClaimStatus (claim_phase_at status) _ (λ phase.
    past IsClaimStatus (optional_modes status) _ (λ got_modes.
    past IsClaimStatus (some_object_at members.Capacity status) _ (λ capacity.
    step (λ a. IfSome a IsAmount) IsClaimStatus (optional_quantity members.Storage capacity) _ (optional_quantity_given members.Storage capacity) (λ got is_got. is_got)))))

pub claim_given : (d : Data) → Good 127 d → IfOk (claim_of d) IsClaim
unfolding claim_of
claim_given d h =
    step (IsMeta true) IsClaim (meta_of true d) _ (meta_given true d) (λ meta is_meta.
    step (IsGoodPlace 125) IsClaim (needed_way members.Spec (Some d)) _ (needed_way_given 125 members.Spec d h) (λ spec good.
    step IsClaimShape IsClaim (claim_shape spec) _ (claim_shape_given spec) (λ shape is_shape.
    step AreClaimTies IsClaim (claim_ties spec) _ (claim_ties_given spec) (λ ties are_ties.
    step IsClaimStatus IsClaim (claim_status_of d) _ (claim_status_given d) (λ status is_status.
    record { meta = is_meta; amount = is_shape; selector = are_ties; got = is_status; extra = (kept_members listed.Claim spec, extra_given 125 listed.Claim spec good) })))))

-- ---- classes

pub class_given : (d : Data) → Good 127 d → IfOk (class_of d) IsClass
unfolding class_of
class_given d h =
    step (IsMeta false) IsClass (meta_of false d) _ (meta_given false d) (λ meta is_meta.
    past IsClass (needed_text members.Provisioner (Some d)) _ (λ provisioner.
    step IsClassPolicy IsClass (class_policy_at (Some d)) _ (class_policy_given (Some d)) (λ policy is_policy.
    past IsClass (delayed_at (Some d)) _ (λ delayed.
    step ArePairs IsClass (pairs_at members.Parameters (Some d)) _ (pairs_given members.Parameters (Some d)) (λ parameters are_parameters.
    record { meta = is_meta; policy = is_policy; parameters = are_parameters; extra = (kept_members listed.Class (Some d), extra_given 126 listed.Class (Some d) (good_place 126 d h)) })))))

-- ---- nodes and pods

pub node_given : (d : Data) → Good 127 d → IfOk (node_of d) IsNode
unfolding node_of
node_given d h =
    step (IsMeta false) IsNode (meta_of false d) _ (meta_given false d) (λ meta is_meta.
    step (IsGoodPlace 125) IsNode (some_object_at members.Spec (Some d)) _ (object_at_given 125 members.Spec d h) (λ spec good.
    record { meta = is_meta; extra = (kept_members listed.Node spec, extra_given 125 listed.Node spec good) }))

-- the claims that a pod names are among its kept members
claims_kept : (spec : Option Data) → AreMembers (place_members spec) → claims_at (Some (object (kept_members listed.Pod spec))) ≡ claims_at spec
unfolding claims_at
claims_kept spec h = ap (λ o. optional_items_from members.Volumes o >>= claims_or_none) (same_at listed.Pod members.Volumes spec refl h)

pub pod_given : (d : Data) → Good 127 d → IfOk (pod_of d) IsPod
unfolding pod_of
pod_given d h =
    step (IsMeta true) IsPod (meta_of true d) _ (meta_given true d) (λ meta is_meta.
    step (IsGoodPlace 125) IsPod (some_object_at members.Spec (Some d)) _ (object_at_given 125 members.Spec d h) (λ spec good.
    past IsPod (text_or members.NodeName [] spec) _ (λ node.
    step (λ cs. claims_at spec ≡ Ok cs) IsPod (claims_at spec) _ (itself (claims_at spec)) (λ claims are_claims.
    record { meta = is_meta; extra = (kept_members listed.Pod spec, record { extra = extra_given 125 listed.Pod spec good; claims = claims_kept spec good.canonical ∙ are_claims }) }))))
