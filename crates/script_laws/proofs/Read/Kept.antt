-- The members that an object of a line keeps nest one level less deep than those of a manifest.
use Rattle.std.proofs.Common.{◌≡◌, ℕ, ◌≤◌, List, [], true, false, if◌then◌else◌, Option, Some, Ok, Err, IfOk, refl, arith}
use Rattle.serde_json.specs.Data.{Data, Members}
use Rattle.serde_json.specs.Written.{has_float}
use Rattle.json_text.specs.Trees.{others}
use Rattle.json_text.specs.Build.{Good, GoodMembers}
use Rattle.json_text.specs.Members.{extra_members}
use Rattle.json_text.proofs.Good.{good_others}
use Rattle.json_text.proofs.PutAll.{others_are}
use Rattle.kube_parts.specs.declared.parts.Kind.{Kind}
use Rattle.kube_parts.specs.declared.parts.Kind.TheVariants as kinds
use Rattle.kube_objects.specs.declared.objects.Volume.{Volume}
use Rattle.kube_objects.specs.declared.objects.Claim.{Claim}
use Rattle.kube_objects.specs.declared.objects.Class.{Class}
use Rattle.kube_objects.specs.declared.objects.Node.{Node}
use Rattle.kube_objects.specs.declared.objects.Pod.{Pod}
use Rattle.kube_objects.specs.declared.objects.Object.{Object}
use Rattle.kube_objects.specs.declared.objects.Object.TheVariants as objects
use Rattle.object_text.specs.declared.errors.Member.TheVariants as members
use Rattle.object_text.specs.declared.errors.ObjectError.TheVariants.{NotObject, NotWhole}
use Rattle.object_text.specs.declared.extra.Listed.{Listed}
use Rattle.object_text.specs.declared.extra.Listed.TheVariants as listed
use Rattle.object_text.specs.declared.kind_readers.VolumeSpec.{VolumeSpec}
use Rattle.object_text.specs.MemberReaders.{needed_text, needed_way, some_object_at, text_or, pairs_at}
use Rattle.object_text.specs.MetaReaders.{meta_of}
use Rattle.object_text.specs.PartReaders.{class_policy_at, delayed_at, claims_at}
use Rattle.object_text.specs.ExtraMembers.{is_listed_member, place_members, extra_at}
use Rattle.object_text.specs.KindReaders.{volume_shape, volume_ties, volume_spec_of, volume_status_of, volume_of, claim_shape, claim_ties, claim_status_of, claim_of, class_of, node_of, pod_of}
use Rattle.object_text.specs.Reading.{is_object, whole_object, kind_at, object_of_kind, object_of}
use Rattle.object_laws.specs.Given.{AreExtra}
use Rattle.object_laws.proofs.ExtraBack.{extra_back}
use Rattle.object_laws.proofs.GivesKinds.{IsGoodPlace, good_place, needed_way_given, object_at_given}
use Rattle.object_laws.proofs.GivesParts.{step, past, if_ok}

-- ---- the members that are kept

abbrev pub Keeps : ℕ → List ℕ → Type 0
Keeps n kept = GoodMembers n (extra_members kept)

kept_gives : (n : ℕ) (known : Listed) (place : Option Data) → n ≤ 126 → IsGoodPlace n place → Keeps n (extra_at known place)
unfolding extra_at
kept_gives n known place le h =
    let ms : Members = others (is_listed_member known) (place_members place) in
    let good : GoodMembers n ms = good_others (is_listed_member known) (place_members place) h in
    let are : AreExtra n known (extra_at known place) ms = record { text = refl; others = others_are (is_listed_member known) (place_members place); good = good } in
    rw (extra_back n known (extra_at known place) ms le are) good

-- of each kind, in an object that nests at most 126 levels deep
abbrev pub KeepsLess : Object → Type 0
KeepsLess (objects.Class c) = Keeps 125 c.extra
KeepsLess (objects.Node n) = Keeps 124 n.extra
KeepsLess (objects.Volume v) = Keeps 124 v.extra
KeepsLess (objects.Claim c) = Keeps 124 c.extra
KeepsLess (objects.Pod p) = Keeps 124 p.extra

abbrev VolumeKeeps : Volume → Type 0
VolumeKeeps v = Keeps 124 v.extra

abbrev SpecKeeps : VolumeSpec → Type 0
SpecKeeps s = Keeps 124 s.extra

abbrev ClaimKeeps : Claim → Type 0
ClaimKeeps c = Keeps 124 c.extra

abbrev ClassKeeps : Class → Type 0
ClassKeeps c = Keeps 125 c.extra

abbrev NodeKeeps : Node → Type 0
NodeKeeps n = Keeps 124 n.extra

abbrev PodKeeps : Pod → Type 0
PodKeeps p = Keeps 124 p.extra

spec_keeps : (d : Data) → Good 126 d → IfOk (volume_spec_of d) SpecKeeps
unfolding volume_spec_of
spec_keeps d h =
    step (IsGoodPlace 124) SpecKeeps (needed_way members.Spec (Some d)) _ (needed_way_given 124 members.Spec d h) (λ spec good.
    past SpecKeeps (volume_shape spec) _ (λ shape.
    past SpecKeeps (volume_ties spec) _ (λ ties. kept_gives 124 (listed.Volume ties.source.kind) spec (omega arith) good)))

volume_keeps : (d : Data) → Good 126 d → IfOk (volume_of d) VolumeKeeps
unfolding volume_of
volume_keeps d h =
    past VolumeKeeps (meta_of false d) _ (λ meta.
    step SpecKeeps VolumeKeeps (volume_spec_of d) _ (spec_keeps d h) (λ spec k.
    past VolumeKeeps (volume_status_of d) _ (λ phase. k)))

claim_keeps : (d : Data) → Good 126 d → IfOk (claim_of d) ClaimKeeps
unfolding claim_of
claim_keeps d h =
    past ClaimKeeps (meta_of true d) _ (λ meta.
    step (IsGoodPlace 124) ClaimKeeps (needed_way members.Spec (Some d)) _ (needed_way_given 124 members.Spec d h) (λ spec good.
    past ClaimKeeps (claim_shape spec) _ (λ shape.
    past ClaimKeeps (claim_ties spec) _ (λ ties.
    past ClaimKeeps (claim_status_of d) _ (λ status. kept_gives 124 listed.Claim spec (omega arith) good)))))

class_keeps : (d : Data) → Good 126 d → IfOk (class_of d) ClassKeeps
unfolding class_of
class_keeps d h =
    past ClassKeeps (meta_of false d) _ (λ meta.
    past ClassKeeps (needed_text members.Provisioner (Some d)) _ (λ provisioner.
    past ClassKeeps (class_policy_at (Some d)) _ (λ policy.
    past ClassKeeps (delayed_at (Some d)) _ (λ delayed.
    past ClassKeeps (pairs_at members.Parameters (Some d)) _ (λ parameters. kept_gives 125 listed.Class (Some d) (omega arith) (good_place 125 d h))))))

node_keeps : (d : Data) → Good 126 d → IfOk (node_of d) NodeKeeps
unfolding node_of
node_keeps d h =
    past NodeKeeps (meta_of false d) _ (λ meta.
    step (IsGoodPlace 124) NodeKeeps (some_object_at members.Spec (Some d)) _ (object_at_given 124 members.Spec d h) (λ spec good. kept_gives 124 listed.Node spec (omega arith) good))

pod_keeps : (d : Data) → Good 126 d → IfOk (pod_of d) PodKeeps
unfolding pod_of
pod_keeps d h =
    past PodKeeps (meta_of true d) _ (λ meta.
    step (IsGoodPlace 124) PodKeeps (some_object_at members.Spec (Some d)) _ (object_at_given 124 members.Spec d h) (λ spec good.
    past PodKeeps (text_or members.NodeName [] spec) _ (λ node.
    past PodKeeps (claims_at spec) _ (λ claims. kept_gives 124 listed.Pod spec (omega arith) good))))

kind_keeps : (kind : Kind) (d : Data) → Good 126 d → IfOk (object_of_kind kind d) KeepsLess
kind_keeps kinds.StorageClass d h = step ClassKeeps KeepsLess (class_of d) _ (class_keeps d h) (λ c k. k)
kind_keeps kinds.Node d h = step NodeKeeps KeepsLess (node_of d) _ (node_keeps d h) (λ n k. k)
kind_keeps kinds.PersistentVolume d h = step VolumeKeeps KeepsLess (volume_of d) _ (volume_keeps d h) (λ v k. k)
kind_keeps kinds.PersistentVolumeClaim d h = step ClaimKeeps KeepsLess (claim_of d) _ (claim_keeps d h) (λ c k. k)
kind_keeps kinds.Pod d h = step PodKeeps KeepsLess (pod_of d) _ (pod_keeps d h) (λ p k. k)

-- a value is good where it holds no float
abbrev pub IsSoundLess : Data → Type 0
IsSoundLess d = has_float d ≡ false → Good 126 d

whole_less : (value : Data) → IsSoundLess value → IfOk (whole_object value) (Good 126)
whole_less value h =
    if_ok (Good 126) (is_object value) (if has_float value then Err NotWhole else Ok value) (Err NotObject) (λ e.
    if_ok (Good 126) (has_float value) (Err NotWhole) (Ok value) (λ f. tt) (λ f. h f)) (λ e. tt)

pub object_keeps : (value : Data) → IsSoundLess value → IfOk (object_of value) KeepsLess
unfolding object_of
object_keeps value h =
    step (Good 126) KeepsLess (whole_object value) _ (whole_less value h) (λ d good.
    past KeepsLess (kind_at d) _ (λ kind. kind_keeps kind d good))
