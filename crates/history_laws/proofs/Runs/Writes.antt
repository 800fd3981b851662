-- What a controller makes of objects that a manifest can give, to be written.
use Rattle.std.proofs.Common.{refl, arith}
use Rattle.std.specs.Prelude.{ℕ, List, [], Bool, true, false, Option, Some, None, IfSome, if◌then◌else◌}
use Rattle.serde_json.specs.Data.{no_members}
use Rattle.plain_data.specs.Pairs.{put_pair, without_key}
use Rattle.kube_parts.specs.declared.uid.Uid.{Uid}
use Rattle.kube_objects.specs.declared.objects.Meta.{Meta}
use Rattle.kube_objects.specs.declared.objects.DataId.{DataId}
use Rattle.kube_objects.specs.declared.objects.Ref.{Ref}
use Rattle.kube_objects.specs.declared.objects.Class.{Class as ClassData}
use Rattle.kube_objects.specs.declared.objects.Volume.{Volume as VolumeData}
use Rattle.kube_objects.specs.declared.objects.Claim.{Claim as ClaimData}
use Rattle.kube_objects.specs.Bindings.{bind_completed, bound_by_controller, provisioned_by, yes, has_key, is_empty}
use Rattle.binder_model.specs.BindWrites.{annotated_meta, annotated_meta_if, ref_to, taken_for, completed_with, without_uid, unbound_volume}
use Rattle.binder_model.specs.Provisioning.{provisioned_meta, provisioned_volume}
use Rattle.object_laws.specs.Given.{IsMeta, IsRef, IsVolume, IsClaim}
use Rattle.history_laws.proofs.Runs.Objects.{pairs_put, pairs_without, meta_annotations, volume_reference, claim_named}

annotated : (b : Bool) (name : List ℕ) (m : Meta) → IsMeta b m → IsMeta b (annotated_meta name m)
annotated b name m h = meta_annotations b m _ h (pairs_put name yes m.annotations h.annotations)

annotated_if : (b t : Bool) (name : List ℕ) (m : Meta) → IsMeta b m → IsMeta b (annotated_meta_if t name m)
annotated_if b true name m h = annotated b name m h
annotated_if b false name m h = h

pub taken_given : (v : VolumeData) (c : ClaimData) → IsVolume v → IsClaim c → IsVolume (taken_for v c)
unfolding taken_for
taken_given v c h k = volume_reference v _ (Some (ref_to c)) h (annotated_if false _ bound_by_controller v.meta h.meta) k.meta.uid

pub completed_given : (c : ClaimData) (v : VolumeData) → IsClaim c → IsClaim (completed_with c v)
unfolding completed_with
completed_given c v h = claim_named c _ v.meta.name h (annotated true bind_completed _ (annotated_if true (is_empty c.volume_name) bound_by_controller c.meta h.meta))

without_uid_given : (r : Option Ref) → IfSome (without_uid r) IsRef
without_uid_given None = tt
without_uid_given (Some r) = tt

pub unbound_given : (v : VolumeData) → IsVolume v → IsVolume (unbound_volume v)
unfolding unbound_volume
unbound_given v h = by (has_key bound_by_controller v.meta.annotations)
  where
    by : (b : Bool) → IsVolume (if b then record v
        { claim_ref = None; meta = record v.meta { annotations = without_key bound_by_controller v.meta.annotations } } else record v { claim_ref = without_uid v.claim_ref })
    by true = volume_reference v _ None h (meta_annotations false v.meta _ h.meta (pairs_without bound_by_controller _ h.meta.annotations)) tt
    by false = volume_reference v v.meta (without_uid v.claim_ref) h h.meta (without_uid_given v.claim_ref)

made_meta : (uid : Uid) (provisioner : List ℕ) → IsMeta false (provisioned_meta uid provisioner)
made_meta uid provisioner = record {
  namespace = refl;
  uid = tt;
  version = omega arith;
  created = tt;
  deleted = tt;
  labels = tt;
  annotations = pairs_put bound_by_controller yes (put_pair provisioned_by provisioner []) (pairs_put provisioned_by provisioner [] tt);
}

pub provisioned_given : (c : ClaimData) (uid : Uid) (class : ClassData) (id : DataId) (topology : Option (List ℕ × List ℕ)) → IsClaim c → IsVolume (provisioned_volume c uid class id topology)
unfolding provisioned_volume
provisioned_given c uid class id topology h = record {
  meta = made_meta uid class.provisioner;
  amount = h.amount;
  claim_ref = h.meta.uid;
  source = tt;
  extra = (no_members, record { extra = record { text = refl; others = tt; good = record { canonical = tt; shallow = omega arith } }; free = tt });
}
