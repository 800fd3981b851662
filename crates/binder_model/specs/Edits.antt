-- What a typed edit makes of an object. It takes the place of patches, a choice of this project.
use Rattle.std.specs.Prelude.{ℕ, not, List, Option, Some, None, bytes_eq, filter}
use Rattle.plain_data.specs.Pairs.{put_pair, without_key}
use Rattle.kube_objects.specs.declared.objects.Object.{Object}
use Rattle.kube_objects.specs.declared.objects.Object.TheVariants.{Volume, Claim}
use Rattle.kube_objects.specs.Keys.{meta_of}
use Rattle.kube_objects.specs.Bindings.{bound_by_controller}
use Rattle.call_types.specs.declared.edit.Edit.{Edit}
use Rattle.call_types.specs.declared.edit.Edit.TheVariants.{AddFinalizer, DropFinalizer, DropLabel, DropAnnotation, SetLabel, SetAnnotation, SetVolumeName, SetPolicy, SetClaimRef, ClearClaimRef}
use Rattle.binder_model.specs.Store.{with_meta, with_finalizer}

-- the names without this one
abbrev pub without_name : List ℕ → List (List ℕ) → List (List ℕ)
without_name name names = filter (λ n. not (bytes_eq n name)) names

-- the name of its volume, on a claim
unfoldable pub with_volume_name : List ℕ → Object → Option Object
with_volume_name name (Claim c) = Some (Claim (record c { volume_name = name }))
with_volume_name name o = None

-- the object with the edit, or none where the edit does not fit its kind
unfoldable pub edited_object : Edit → Object → Option Object
edited_object (AddFinalizer f) o = Some (with_meta o (record (meta_of o) { finalizers = with_finalizer f (meta_of o).finalizers }))
edited_object (DropFinalizer f) o = Some (with_meta o (record (meta_of o) { finalizers = without_name f (meta_of o).finalizers }))
edited_object (DropLabel key) o = Some (with_meta o (record (meta_of o) { labels = without_key key (meta_of o).labels }))
edited_object (DropAnnotation key) o = Some (with_meta o (record (meta_of o) { annotations = without_key key (meta_of o).annotations }))
edited_object (SetLabel key value) o = Some (with_meta o (record (meta_of o) { labels = put_pair key value (meta_of o).labels }))
edited_object (SetAnnotation key value) o = Some (with_meta o (record (meta_of o) { annotations = put_pair key value (meta_of o).annotations }))
edited_object (SetVolumeName name) o = with_volume_name name o
edited_object (SetPolicy policy) (Volume v) = Some (Volume (record v { policy = policy }))
edited_object (SetPolicy policy) o = None
edited_object (SetClaimRef namespace name) (Volume v) = Some (Volume (record v { claim_ref = Some (record { namespace = namespace; name = name; uid = None }) }))
edited_object (SetClaimRef namespace name) o = None
edited_object ClearClaimRef (Volume v) = Some (Volume (record v {
  claim_ref = None;
  meta = record v.meta { annotations = without_key bound_by_controller v.meta.annotations };
}))
edited_object ClearClaimRef o = None
