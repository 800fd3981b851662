-- The objects of the five kinds from values: each member in its turn, the first refusal answered.
-- Source: Kubernetes API, PersistentVolume, PersistentVolumeClaim, StorageClass, Node, Pod; the order of the members is a
-- choice of this project.
use Rattle.std.specs.Prelude.{[], true, false, Ok, Option, Some}
use Rattle.std.specs.declared.result.Result.{Result}
use Rattle.serde_json.specs.Data.{Data}
use Rattle.kube_parts.specs.declared.parts.VolumePhase.{VolumePhase}
use Rattle.kube_objects.specs.declared.objects.Meta.{Meta}
use Rattle.kube_objects.specs.declared.objects.Volume.{Volume}
use Rattle.kube_objects.specs.declared.objects.Claim.{Claim}
use Rattle.kube_objects.specs.declared.objects.Class.{Class}
use Rattle.kube_objects.specs.declared.objects.Node.{Node}
use Rattle.kube_objects.specs.declared.objects.Pod.{Pod}
use Rattle.object_text.specs.declared.errors.Member.TheVariants as members
use Rattle.object_text.specs.declared.errors.ObjectError.{ObjectError}
use Rattle.object_text.specs.declared.extra.Listed.TheVariants as listed
use Rattle.object_text.specs.declared.kind_readers.VolumeShape.{VolumeShape}
use Rattle.object_text.specs.declared.kind_readers.VolumeTies.{VolumeTies}
use Rattle.object_text.specs.declared.kind_readers.VolumeSpec.{VolumeSpec}
use Rattle.object_text.specs.declared.kind_readers.ClaimShape.{ClaimShape}
use Rattle.object_text.specs.declared.kind_readers.ClaimTies.{ClaimTies}
use Rattle.object_text.specs.declared.kind_readers.ClaimStatus.{ClaimStatus}
use Rattle.object_text.specs.Answers.{◌>>=◌}
use Rattle.object_text.specs.MemberReaders.{needed_text, needed_way, some_object_at, text_or, optional_text, pairs_at}
use Rattle.object_text.specs.MetaReaders.{meta_of}
use Rattle.object_text.specs.PartReaders.{
  quantity_at,
  optional_quantity,
  modes_at,
  optional_modes,
  block_at,
  policy_at,
  class_policy_at,
  delayed_at,
  volume_phase_at,
  claim_phase_at,
  claim_ref_at,
  source_at,
  terms_at,
  selector_at,
  claims_at,
}
use Rattle.object_text.specs.ExtraMembers.{extra_at}

-- ---- volumes

-- the capacity, access modes, volume mode, class and reclaim policy of a volume
unfoldable pub volume_shape : Option Data → Result VolumeShape ObjectError
volume_shape spec = do
  capacity ← needed_way members.Capacity spec
  amount ← quantity_at members.Storage capacity
  modes ← modes_at spec
  block ← block_at spec
  class ← text_or members.StorageClassName [] spec
  policy ← policy_at spec
  Ok (record { amount = amount; modes = modes; block = block; class = class; policy = policy })

-- the claimRef, the source and the node affinity of a volume
unfoldable pub volume_ties : Option Data → Result VolumeTies ObjectError
volume_ties spec = do
  claim_ref ← claim_ref_at spec
  source ← source_at spec
  terms ← terms_at spec
  Ok (record { claim_ref = claim_ref; source = source; terms = terms })

-- the spec of a volume, which must be there, with the members that are kept
unfoldable pub volume_spec_of : Data → Result VolumeSpec ObjectError
volume_spec_of d = do
  spec ← needed_way members.Spec (Some d)
  shape ← volume_shape spec
  ties ← volume_ties spec
  Ok (record { shape = shape; ties = ties; extra = extra_at (listed.Volume ties.source.kind) spec })

-- the phase of a volume; Pending where it has no status
unfoldable pub volume_status_of : Data → Result VolumePhase ObjectError
volume_status_of d = do
  status ← some_object_at members.Status (Some d)
  volume_phase_at status

-- the volume of this metadata, spec and phase
abbrev pub volume_with : Meta → VolumeSpec → VolumePhase → Volume
volume_with meta spec phase =
    record {
      meta = meta;
      amount = spec.shape.amount;
      modes = spec.shape.modes;
      block = spec.shape.block;
      class = spec.shape.class;
      policy = spec.shape.policy;
      claim_ref = spec.ties.claim_ref;
      source = spec.ties.source;
      terms = spec.ties.terms;
      extra = spec.extra;
      phase = phase;
    }

-- a volume: metadata, spec and status, in this order
unfoldable pub volume_of : Data → Result Volume ObjectError
volume_of d = do
  meta ← meta_of false d
  spec ← volume_spec_of d
  phase ← volume_status_of d
  Ok (volume_with meta spec phase)

-- ---- claims

-- the access modes, the volume mode and the amount that a claim asks for
unfoldable pub claim_shape : Option Data → Result ClaimShape ObjectError
claim_shape spec = do
  modes ← modes_at spec
  block ← block_at spec
  resources ← needed_way members.Resources spec
  requests ← needed_way members.Requests resources
  amount ← quantity_at members.Storage requests
  Ok (record { modes = modes; block = block; amount = amount })

-- the class, the selector and the volume of a claim
unfoldable pub claim_ties : Option Data → Result ClaimTies ObjectError
claim_ties spec = do
  class ← optional_text members.StorageClassName spec
  selector ← selector_at spec
  volume_name ← text_or members.VolumeName [] spec
  Ok (record { class = class; selector = selector; volume_name = volume_name })

-- the phase of a claim, and the modes and the capacity that it got
unfoldable pub claim_status_of : Data → Result ClaimStatus ObjectError
claim_status_of d = do
  status ← some_object_at members.Status (Some d)
  phase ← claim_phase_at status
  got_modes ← optional_modes status
  capacity ← some_object_at members.Capacity status
  got ← optional_quantity members.Storage capacity
  Ok (record { phase = phase; got_modes = got_modes; got = got })

-- a claim: metadata, spec and status, in this order
unfoldable pub claim_of : Data → Result Claim ObjectError
claim_of d = do
  meta ← meta_of true d
  spec ← needed_way members.Spec (Some d)
  shape ← claim_shape spec
  ties ← claim_ties spec
  status ← claim_status_of d
  Ok (record {
    meta = meta;
    modes = shape.modes;
    amount = shape.amount;
    block = shape.block;
    class = ties.class;
    selector = ties.selector;
    volume_name = ties.volume_name;
    extra = extra_at listed.Claim spec;
    phase = status.phase;
    got_modes = status.got_modes;
    got = status.got;
  })

-- ---- classes: their members stand at the top

-- a storage class
unfoldable pub class_of : Data → Result Class ObjectError
class_of d = do
  meta ← meta_of false d
  provisioner ← needed_text members.Provisioner (Some d)
  policy ← class_policy_at (Some d)
  delayed ← delayed_at (Some d)
  parameters ← pairs_at members.Parameters (Some d)
  Ok (record { meta = meta; provisioner = provisioner; policy = policy; delayed = delayed; parameters = parameters; extra = extra_at listed.Class (Some d) })

-- ---- nodes and pods

-- a node; all of its spec is kept
unfoldable pub node_of : Data → Result Node ObjectError
node_of d = do
  meta ← meta_of false d
  spec ← some_object_at members.Spec (Some d)
  Ok (record { meta = meta; extra = extra_at listed.Node spec })

-- a pod: metadata, the node that it is assigned to, and the claims that its volumes name
unfoldable pub pod_of : Data → Result Pod ObjectError
pod_of d = do
  meta ← meta_of true d
  spec ← some_object_at members.Spec (Some d)
  node ← text_or members.NodeName [] spec
  claims ← claims_at spec
  Ok (record { meta = meta; claims = claims; node = node; extra = extra_at listed.Pod spec })
