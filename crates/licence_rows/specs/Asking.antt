-- The told objects because of which others are read or made, as the code looks for them.
-- A choice of this project, as the rows are.
use Rattle.std.specs.Prelude.{◌≡◌, List, [], Option, Some}
use Rattle.kube_parts.specs.declared.uid.Uid.{Uid}
use Rattle.kube_objects.specs.declared.key.Key.{Key}
use Rattle.kube_objects.specs.declared.objects.Ref.{Ref}
use Rattle.kube_objects.specs.declared.objects.Volume.{Volume as VolumeData}
use Rattle.kube_objects.specs.declared.objects.Object.{Object}
use Rattle.kube_objects.specs.Keys.{key_of}
use Rattle.call_types.specs.declared.entry.Entry.{Entry}
use Rattle.binder_model.specs.ObjectKeys.{claim_key}
use Rattle.binder_model.specs.Reading.{LacksUid}
use Rattle.binder_model.specs.Told.{IsNewest}

-- the newest told of the key is an object of which P holds
abbrev pub IsNewestWith : (Object → Type 0) → List Entry → Key → Type 0
IsNewestWith P mine key = (o : Object) × (IsNewest mine key o × P o)

-- the newest told of some key is an object of which P holds
abbrev pub SomeNewest : (Object → Type 0) → List Entry → Type 0
SomeNewest P mine = (o : Object) × (IsNewest mine (key_of o) o × P o)

-- the volume, which is in no namespace, names the claim of the key
pub record IsNamingClaim (key : Key) (volume : VolumeData) : Type 0 where
  pub unplaced : volume.meta.namespace ≡ []
  pub reference : Ref
  pub refers : volume.claim_ref ≡ Some reference
  pub named : key ≡ claim_key reference.namespace reference.name

-- the volume names a claim with a UID, and what was found is none with this
pub record IsLacking (found : Option Object) (volume : VolumeData) : Type 0 where
  pub reference : Ref
  pub refers : volume.claim_ref ≡ Some reference
  pub uid : Uid
  pub known : reference.uid ≡ Some uid
  pub lacking : LacksUid found uid
