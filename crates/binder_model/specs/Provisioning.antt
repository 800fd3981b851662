-- What a provisioner makes of a claim: the name of the data, and the volume over it.
-- Source: `provisionClaimOperation` of `pv_controller.go`.
use Rattle.std.specs.Prelude.{ℕ, Bool, not, ◌&&◌, List, [], ◌∷◌, ◌++◌, Option, Some, None, codes, bytes_eq, is_none}
use Rattle.plain_data.specs.Pairs.{put_pair}
use Rattle.kube_parts.specs.declared.uid.Uid.{Uid}
use Rattle.kube_parts.specs.declared.parts.Op.TheVariants.{In}
use Rattle.kube_parts.specs.declared.parts.SourceKind.TheVariants.{Csi}
use Rattle.kube_parts.specs.declared.parts.VolumePhase.TheVariants as volumes
use Rattle.kube_objects.specs.declared.objects.DataId.{DataId}
use Rattle.kube_objects.specs.declared.objects.Meta.{Meta}
use Rattle.kube_objects.specs.declared.objects.NodeTerms.{NodeTerms}
use Rattle.kube_objects.specs.declared.objects.Class.{Class as ClassData}
use Rattle.kube_objects.specs.declared.objects.Claim.{Claim as ClaimData}
use Rattle.kube_objects.specs.declared.objects.Volume.{Volume as VolumeData}
use Rattle.kube_parts.specs.Uids.{uid_text}
use Rattle.kube_objects.specs.Bindings.{bound_by_controller, provisioned_by, no_provisioner, yes, is_completed, is_deleting, is_empty}
use Rattle.binder_model.specs.BindWrites.{ref_to}

-- pvc- and the claim's UID
abbrev pub data_name : Uid → List ℕ
data_name uid = codes "pvc-" ++ uid_text uid

-- a node that has the label with this value
abbrev pub terms_for : Option (List ℕ × List ℕ) → Option NodeTerms
terms_for None = None
terms_for (Some pair) = Some (record { terms = ((record { key = pair.0; op = In; values = pair.1 ∷ [] }) ∷ []) ∷ [] })

-- the metadata of a provisioned volume: its name, and who made and bound it
abbrev pub provisioned_meta : Uid → List ℕ → Meta
provisioned_meta uid provisioner = record {
  namespace = [];
  name = data_name uid;
  uid = None;
  version = 0;
  created = [];
  deleted = None;
  labels = [];
  annotations = put_pair bound_by_controller yes (put_pair provisioned_by provisioner []);
  finalizers = [];
}

-- the volume over the data that a provisioner gave for the claim
unfoldable pub provisioned_volume : ClaimData → Uid → ClassData → DataId → Option (List ℕ × List ℕ) → VolumeData
provisioned_volume c uid class id topology = record {
  meta = provisioned_meta uid class.provisioner;
  amount = c.amount;
  modes = c.modes;
  block = c.block;
  class = class.meta.name;
  policy = class.policy;
  claim_ref = Some (ref_to c);
  source = record { kind = Csi; first = id.driver; second = id.id };
  terms = terms_for topology;
  extra = [];
  phase = volumes.Pending;
}

-- the claim is one that may be provisioned, as far as the claim itself says
abbrev pub is_wanting : ClaimData → Bool
is_wanting c = not (is_completed c) && not (is_deleting c.meta) && is_empty c.volume_name && is_none c.selector

-- the class provisions volumes: its provisioner is a real one
abbrev pub provisions : ClassData → Bool
provisions x = not (bytes_eq x.provisioner no_provisioner)
