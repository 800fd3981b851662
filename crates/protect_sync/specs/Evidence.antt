-- The evidence that each machine keeps, in the entries of its seat, the newest first: the object that it holds was told, and what
-- the row of its next call asks beside. A choice of this project.
use Rattle.std.specs.Prelude.{◌≡◌, true, false, List, ⊤}
use Rattle.kube_objects.specs.declared.objects.Volume.{Volume as VolumeData}
use Rattle.kube_objects.specs.declared.objects.Claim.{Claim as ClaimData}
use Rattle.kube_objects.specs.Bindings.{is_bound, is_deleting, is_protected_claim, is_protected_volume}
use Rattle.call_types.specs.declared.entry.Entry.{Entry}
use Rattle.binder_model.specs.GuardLicence.{IsDeletingVersion, TellsUnused}
use Rattle.binder_model.specs.Told.{After, ToldClaim, ToldVolume}
use Rattle.protect_sync.specs.declared.claims.ClaimGuardOp.{ClaimGuardOp}
use Rattle.protect_sync.specs.declared.claims.ClaimGuardStep.{ClaimGuardStep}
use Rattle.protect_sync.specs.declared.claims.ClaimGuardStep.TheVariants as claims
use Rattle.protect_sync.specs.declared.volumes.VolumeGuardOp.{VolumeGuardOp}
use Rattle.protect_sync.specs.declared.volumes.VolumeGuardStep.{VolumeGuardStep}
use Rattle.protect_sync.specs.declared.volumes.VolumeGuardStep.TheVariants as volumes

-- this claim was told, as it is; it stays and lacks its finalizer
pub record MayAdd (c : ClaimData) (mine : List Entry) : Type 0 where
  pub told : ToldClaim (λ o. o ≡ c) mine
  pub staying : is_deleting c.meta ≡ false
  pub lacks : is_protected_claim c ≡ false

-- this claim was told, as it is, deleting
pub record MayList (c : ClaimData) (mine : List Entry) : Type 0 where
  pub told : ToldClaim (λ o. o ≡ c) mine
  pub deleting : is_deleting c.meta ≡ true

-- likewise, and a list of the pods of its namespace that was made after that told none which uses it
pub record MayDrop (c : ClaimData) (mine : List Entry) : Type 0 where
  pub told : ToldClaim (λ o. o ≡ c) mine
  pub deleting : is_deleting c.meta ≡ true
  pub unused : After (ToldClaim (IsDeletingVersion c)) (TellsUnused c) mine

-- the entries allow the call at a step for a claim
abbrev pub ClaimStepKeeps : ClaimGuardStep → ClaimData → List Entry → Type 0
ClaimStepKeeps claims.Adds c mine = MayAdd c mine
ClaimStepKeeps claims.ListsPods c mine = MayList c mine
ClaimStepKeeps claims.Drops c mine = MayDrop c mine
ClaimStepKeeps step c mine = ⊤

-- the entries allow the next call for a claim
abbrev pub ClaimKeeps : ClaimGuardOp → List Entry → Type 0
ClaimKeeps op mine = ClaimStepKeeps op.step op.claim mine

-- this volume was told, as it is; it stays and lacks its finalizer
pub record MayAddVolume (v : VolumeData) (mine : List Entry) : Type 0 where
  pub told : ToldVolume (λ o. o ≡ v) mine
  pub staying : is_deleting v.meta ≡ false
  pub lacks : is_protected_volume v ≡ false

-- this volume was told, as it is, deleting and not Bound
pub record MayDropVolume (v : VolumeData) (mine : List Entry) : Type 0 where
  pub told : ToldVolume (λ o. o ≡ v) mine
  pub deleting : is_deleting v.meta ≡ true
  pub loose : is_bound v.phase ≡ false

-- the entries allow the call at a step for a volume
abbrev pub VolumeStepKeeps : VolumeGuardStep → VolumeData → List Entry → Type 0
VolumeStepKeeps volumes.Adds v mine = MayAddVolume v mine
VolumeStepKeeps volumes.Drops v mine = MayDropVolume v mine
VolumeStepKeeps step v mine = ⊤

-- the entries allow the next call for a volume
abbrev pub VolumeKeeps : VolumeGuardOp → List Entry → Type 0
VolumeKeeps op mine = VolumeStepKeeps op.step op.volume mine
