-- The evidence that each machine keeps, in the entries of its seat, the newest first: the objects that it holds were told, and what the row
-- of its next call asks beside. A choice of this project.
use Rattle.std.specs.Prelude.{◌≡◌, true, false, List, [], Some}
use Rattle.kube_parts.specs.declared.uid.Uid.{Uid}
use Rattle.kube_objects.specs.declared.objects.Ref.{Ref}
use Rattle.kube_objects.specs.declared.objects.Volume.{Volume as VolumeData}
use Rattle.kube_objects.specs.declared.objects.Claim.{Claim as ClaimData}
use Rattle.kube_objects.specs.Bindings.{is_completed, is_ended}
use Rattle.call_types.specs.declared.entry.Entry.{Entry}
use Rattle.binder_model.specs.ObjectKeys.{claim_key, volume_key}
use Rattle.binder_model.specs.BindWrites.{unbound_volume}
use Rattle.binder_model.specs.BinderLicence.{MayAssignClass, MayBind, MayFree, MayLose, MayRelease, MayUnbind}
use Rattle.binder_model.specs.Reading.{AsksForClaim, AsksForVolume}
use Rattle.binder_model.specs.Told.{ToldVolume, ToldClaim}
use Rattle.binder_machines.specs.declared.machine.Machine.{Machine}
use Rattle.binder_machines.specs.declared.machine.Machine.TheVariants.{Frees, Binds, MarksBound, ReadsClaim, Releases, Unbinds, ReadsVolume, AssignsClass, Loses}
use Rattle.binder_machines.specs.Machines.{assigned}

-- this volume was told, as it is
abbrev pub ToldThis : VolumeData → List Entry → Type 0
ToldThis v mine = ToldVolume (λ o. o ≡ v) mine

-- this claim was told, as it is
abbrev pub ToldThisClaim : ClaimData → List Entry → Type 0
ToldThisClaim c mine = ToldClaim (λ o. o ≡ c) mine

-- the volume was told; it is neither Released nor Failed, and its reference names a claim with a UID, which may be read
pub record MayReadClaim (v : VolumeData) (mine : List Entry) : Type 0 where
  pub volume : ToldThis v mine
  pub live : is_ended v.phase ≡ false
  pub reference : Ref
  pub uid : Uid
  pub refers : v.claim_ref ≡ Some reference
  pub known : reference.uid ≡ Some uid
  pub asks : v.meta.namespace ≡ [] → AsksForClaim mine (claim_key reference.namespace reference.name)

-- the claim was told, completed, and the volume that it names may be read
pub record MayReadVolume (c : ClaimData) (mine : List Entry) : Type 0 where
  pub claim : ToldThisClaim c mine
  pub completed : is_completed c ≡ true
  pub asks : AsksForVolume mine (volume_key c.volume_name)

-- the entries allow the next call of the machine
abbrev pub MachineKeeps : Machine → List Entry → Type 0
MachineKeeps (Frees v) mine = ToldThis v mine × MayFree v
MachineKeeps (Binds v c) mine = ToldThis v mine × ToldThisClaim c mine
MachineKeeps (MarksBound v) mine = ToldThis v mine × MayBind mine v
MachineKeeps (ReadsClaim v) mine = MayReadClaim v mine
MachineKeeps (Releases v) mine = ToldThis v mine × MayRelease mine v
MachineKeeps (Unbinds v) mine = ToldThis v mine × MayUnbind mine v (unbound_volume v)
MachineKeeps (ReadsVolume c) mine = MayReadVolume c mine
MachineKeeps (AssignsClass c x) mine = ToldThisClaim c mine × (x.meta.namespace ≡ [] → MayAssignClass mine c (assigned c x))
MachineKeeps (Loses c) mine = ToldThisClaim c mine × MayLose mine c c.got_modes c.got
