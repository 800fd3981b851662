-- Which volume fits a claim, and what a write that gives a volume the reference of a claim must meet beside its licence.
-- Source: `syncUnboundClaim`, `syncBoundClaim` and `bind` of `pv_controller.go`. There, as here, a volume and a claim that were
-- both bound by hand are bound without a test of size, and so is a completed claim whose volume refers to no claim.
use Rattle.std.specs.Prelude.{ℕ, ◌≡◌, ◌≤◌, ◌⊎◌, Bool, true, false, List, [], ◌∷◌, Option, Some, None, ⊤}
use Rattle.kube_parts.specs.declared.uid.Uid.{Uid}
use Rattle.kube_objects.specs.declared.objects.Meta.{Meta}
use Rattle.kube_objects.specs.declared.objects.Ref.{Ref}
use Rattle.kube_objects.specs.declared.objects.Volume.{Volume as VolumeData}
use Rattle.kube_objects.specs.declared.objects.Claim.{Claim as ClaimData}
use Rattle.kube_objects.specs.declared.objects.Object.TheVariants.{Volume}
use Rattle.kube_objects.specs.Bindings.{bound_by_controller, has_key, is_completed, names_claim, ref_uid}
use Rattle.call_types.specs.declared.entry.Entry.{Entry}
use Rattle.call_types.specs.declared.request.SeatKind.{SeatKind}
use Rattle.call_types.specs.declared.request.SeatKind.TheVariants as seats
use Rattle.call_types.specs.declared.request.Request.{Request}
use Rattle.call_types.specs.declared.request.Request.TheVariants as requests
use Rattle.binder_model.specs.BindWrites.{taken_for}
use Rattle.binder_model.specs.Told.{ToldClaim, own}
use Rattle.binder_model.specs.Licence.{AtVolume}

-- the volume has at least the claim's bytes, and its volume mode
pub record Fits (v : VolumeData) (c : ClaimData) : Type 0 where
  pub bytes : c.amount.bytes ≤ v.amount.bytes
  pub mode : v.block ≡ c.block

-- a user reserved the volume for the claim: its reference has the claim's namespace and name, and no UID
pub record IsReservedFor (v : VolumeData) (c : ClaimData) : Type 0 where
  pub reference : Ref
  pub is : v.claim_ref ≡ Some reference
  pub names : names_claim reference c ≡ true
  pub free : reference.uid ≡ None

-- both were bound by hand: the volume is reserved for the claim, and the claim names it before it is completed
pub record IsPair (v : VolumeData) (c : ClaimData) : Type 0 where
  pub reserved : IsReservedFor v c
  pub named : c.volume_name ≡ v.meta.name
  pub undone : is_completed c ≡ false

-- the claim is completed and names the volume, which refers to no claim: its volume has come back
pub record IsRestored (v : VolumeData) (c : ClaimData) : Type 0 where
  pub free : v.claim_ref ≡ None
  pub named : c.volume_name ≡ v.meta.name
  pub completed : is_completed c ≡ true

-- the volume may be given to the claim
abbrev pub Suits : VolumeData → ClaimData → Type 0
Suits v c = Fits v c ⊎ (IsPair v c ⊎ IsRestored v c)

-- the new volume is o with the reference to this claim, and o may be given to it
pub record IsGiven (o new : VolumeData) (c : ClaimData) : Type 0 where
  pub change : new ≡ taken_for o c
  pub suits : Suits o c

-- a new reference with a UID was decided on a told version of the volume, at which it is written, and of the claim
abbrev pub GivesTo : Option Uid → List Entry → VolumeData → Option ℕ → Type 0
GivesTo None mine new given = ⊤
GivesTo (Some uid) mine new given = AtVolume mine new given (λ o. ToldClaim (IsGiven o new) mine)

-- an update of a volume gives it so; no other request gives one
abbrev pub GivesSo : List Entry → Request → Type 0
GivesSo mine (requests.Update (Volume new) given) = GivesTo (ref_uid new.claim_ref) mine new given
GivesSo mine request = ⊤

-- a write of a binder or scheduler with these earlier entries gives a volume only to a claim that it suits. No other kind
-- gives a volume that stands
abbrev pub GivesFitting : SeatKind → List Entry → Request → Type 0
GivesFitting seats.Binder mine request = GivesSo mine request
GivesFitting seats.Scheduler mine request = GivesSo mine request
GivesFitting _ mine request = ⊤

-- each entry does, after its own seat's earlier ones
abbrev pub AreFitting : List Entry → Type 0
AreFitting [] = ⊤
AreFitting (e ∷ past) = AreFitting past × GivesFitting e.kind (own e.seat past) e.request

-- the mark of the controller's work
abbrev pub is_marked : Meta → Bool
is_marked m = has_key bound_by_controller m.annotations
