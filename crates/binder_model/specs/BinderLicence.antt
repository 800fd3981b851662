-- Where the binder may write, after its own earlier entries: a record for each row, its evidence as fields.
-- A choice of this project; each row restates the evidence on which `pv_controller.go` acts.
use Rattle.std.specs.Prelude.{ℕ, ◌≡◌, ◌≢◌, ◌⊎◌, true, false, List, [], Option, Some, None, is_some, ⊤}
use Rattle.kube_parts.specs.declared.uid.Uid.{Uid}
use Rattle.kube_parts.specs.declared.parts.Modes.{Modes}
use Rattle.kube_objects.specs.declared.objects.Amount.{Amount}
use Rattle.kube_objects.specs.declared.objects.Ref.{Ref}
use Rattle.kube_objects.specs.declared.objects.Volume.{Volume as VolumeData}
use Rattle.kube_objects.specs.declared.objects.Claim.{Claim as ClaimData}
use Rattle.kube_objects.specs.declared.objects.Class.{Class as ClassData}
use Rattle.kube_objects.specs.declared.objects.Object.{Object}
use Rattle.kube_objects.specs.declared.objects.Object.TheVariants.{Class, Volume, Claim}
use Rattle.kube_types.specs.Defaults.{IsDefaultOf}
use Rattle.kube_objects.specs.Bindings.{is_ended, is_bound, is_completed, is_deleting, lacks_class, is_protected_volume, carries, names_claim, ref_uid}
use Rattle.call_types.specs.declared.entry.Entry.{Entry}
use Rattle.binder_model.specs.ObjectKeys.{claim_key, class_key, volume_key}
use Rattle.binder_model.specs.BindWrites.{taken_for, completed_with, unbound_volume}
use Rattle.binder_model.specs.BinderDue.{is_reclaimed}
use Rattle.binder_model.specs.Told.{ToldVolume, ToldClaim, TellsLive, After, IsNewest}
use Rattle.binder_model.specs.At.{IsSameObject, HasUid, IsElsewhere}

-- no reference stands there, or one that names the claim without a UID
abbrev pub IsFreeFor : Option Ref → ClaimData → Type 0
IsFreeFor None c = ⊤
IsFreeFor (Some r) c = (names_claim r c ≡ true) × (r.uid ≡ None)

-- the claim was told with its UID, and the new volume is o with the reference to it
pub record IsTaken (o new : VolumeData) (claim : ClaimData) : Type 0 where
  pub known : is_some claim.meta.uid ≡ true
  pub free : IsFreeFor o.claim_ref claim
  pub change : new ≡ taken_for o claim

-- the row ClaimRef
pub record MayTake (mine : List Entry) (o new : VolumeData) : Type 0 where
  pub live : is_ended o.phase ≡ false
  pub told : ToldClaim (IsTaken o new) mine

-- the claim has the UID and names this volume or none
pub record IsHere (volume : List ℕ) (uid : Uid) (told_claim : ClaimData) : Type 0 where
  pub claim : HasUid uid told_claim
  pub names : (told_claim.volume_name ≡ []) ⊎ (told_claim.volume_name ≡ volume)

-- the row PhaseBound
pub record MayBind (mine : List Entry) (o : VolumeData) : Type 0 where
  pub live : is_ended o.phase ≡ false
  pub guarded : is_protected_volume o ≡ true
  pub uid : Uid
  pub refers : ref_uid o.claim_ref ≡ Some uid
  pub told : ToldClaim (IsHere o.meta.name uid) mine

-- the volume carries the claim, is Bound, and is one with which the claim may be completed
pub record IsBoundFor (o new : ClaimData) (volume : VolumeData) : Type 0 where
  pub bound : is_bound volume.phase ≡ true
  pub carries : carries volume o ≡ true
  pub names : (o.volume_name ≡ []) ⊎ (o.volume_name ≡ volume.meta.name)
  pub change : new ≡ completed_with o volume

-- the row Completion
abbrev pub MayComplete : List Entry → ClaimData → ClaimData → Type 0
MayComplete mine o new = ToldVolume (IsBoundFor o new) mine

-- the newest that was told of the class is this
abbrev pub IsToldClass : List Entry → ClassData → Type 0
IsToldClass mine class = IsNewest mine (class_key class.meta.name) (Class class)

-- the row DefaultClass: a claim that lacks a class gets the default one of the newest told classes
pub record MayAssignClass (mine : List Entry) (o new : ClaimData) : Type 0 where
  pub undone : is_completed o ≡ false
  pub staying : is_deleting o.meta ≡ false
  pub unnamed : o.volume_name ≡ []
  pub classless : lacks_class o ≡ true
  pub class : ClassData
  pub default : IsDefaultOf (IsToldClass mine) class
  pub change : new ≡ record o { class = Some class.meta.name }

-- the status is that of a told version of the claim's volume
pub record IsShown (o : ClaimData) (modes : Modes) (amount : Option Amount) (volume : VolumeData) : Type 0 where
  pub named : volume.meta.name ≡ o.volume_name
  pub bound : is_bound volume.phase ≡ true
  pub carries : carries volume o ≡ true
  pub same_modes : modes ≡ volume.modes
  pub same_amount : amount ≡ Some volume.amount

-- the row ClaimStatus
pub record MayShow (mine : List Entry) (o : ClaimData) (modes : Modes) (amount : Option Amount) : Type 0 where
  pub completed : is_completed o ≡ true
  pub told : ToldVolume (IsShown o modes amount) mine

-- the row Available
pub record MayFree (o : VolumeData) : Type 0 where
  pub free : ref_uid o.claim_ref ≡ None

-- this volume, told with the reference
pub record IsReferring (o : VolumeData) (reference : Ref) (volume : VolumeData) : Type 0 where
  pub same : IsSameObject o.meta volume.meta
  pub refers : volume.claim_ref ≡ Some reference

-- no claim with the UID stood there
abbrev pub IsGone : Uid → Option Object → Type 0
IsGone uid (Some (Claim c)) = c.meta.uid ≢ Some uid
IsGone uid _ = ⊤

-- after this volume was told with the reference, a read of the claim's key found no claim of its UID
abbrev pub WasReadGone : List Entry → VolumeData → Ref → Uid → Type 0
WasReadGone mine o r uid = After (ToldVolume (IsReferring o r)) (TellsLive (claim_key r.namespace r.name) (IsGone uid)) mine

-- the row Released
pub record MayRelease (mine : List Entry) (o : VolumeData) : Type 0 where
  pub live : is_ended o.phase ≡ false
  pub reference : Ref
  pub uid : Uid
  pub refers : o.claim_ref ≡ Some reference
  pub known : reference.uid ≡ Some uid
  pub why : WasReadGone mine o reference uid ⊎ (ToldClaim (IsElsewhere o.meta.name uid) mine × (is_reclaimed o ≡ true))

-- the row Unbind
pub record MayUnbind (mine : List Entry) (o new : VolumeData) : Type 0 where
  pub live : is_ended o.phase ≡ false
  pub uid : Uid
  pub refers : ref_uid o.claim_ref ≡ Some uid
  pub elsewhere : ToldClaim (IsElsewhere o.meta.name uid) mine
  pub kept : is_reclaimed o ≡ false
  pub change : new ≡ unbound_volume o

-- no volume stood there that could be the claim's: none, or one with another claim's UID
abbrev pub IsNotCarrying : ClaimData → Option Object → Type 0
IsNotCarrying o (Some (Volume v)) = (uid : Uid) × (ref_uid v.claim_ref ≡ Some uid) × (o.meta.uid ≢ Some uid)
IsNotCarrying o _ = ⊤

-- this claim, told completed
pub record IsCompletedVersion (o claim : ClaimData) : Type 0 where
  pub same : IsSameObject o.meta claim.meta
  pub completed : is_completed claim ≡ true

-- after this claim was told completed, a read of its volume found none that carries it
abbrev pub WasReadLost : List Entry → ClaimData → Type 0
WasReadLost mine o = After (ToldClaim (IsCompletedVersion o)) (TellsLive (volume_key o.volume_name) (IsNotCarrying o)) mine

-- the row Lost
pub record MayLose (mine : List Entry) (o : ClaimData) (modes : Modes) (amount : Option Amount) : Type 0 where
  pub completed : is_completed o ≡ true
  pub why : (o.volume_name ≡ []) ⊎ WasReadLost mine o
  pub same_modes : modes ≡ o.got_modes
  pub same_amount : amount ≡ o.got
