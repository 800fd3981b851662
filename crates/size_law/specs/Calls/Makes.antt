-- What ops gives: a volume that it creates is made to the measure of a claim that it was told, and nothing else that it asks
-- gives a volume. So what ops makes gives no claim less than it asked for.
-- Source: `provisionClaimOperation` of `pv_controller.go`, which takes the new volume's access modes, volume mode and class from
-- the claim and sets its `claimRef`; that it has the very amount of the claim is a choice of this project.
use Rattle.std.specs.Prelude.{◌≡◌, Bool, true, false, List, [], ◌∷◌, ⊤}
use Rattle.kube_objects.specs.declared.objects.Volume.{Volume as VolumeData}
use Rattle.kube_objects.specs.declared.objects.Claim.{Claim as ClaimData}
use Rattle.kube_objects.specs.declared.objects.Object.TheVariants.{Volume, Claim}
use Rattle.kube_objects.specs.Bindings.{carries, class_of_claim, class_of_volume}
use Rattle.call_types.specs.declared.entry.Entry.{Entry}
use Rattle.call_types.specs.declared.request.Request.{Request}
use Rattle.call_types.specs.declared.request.Request.TheVariants as requests
use Rattle.call_types.specs.declared.request.SeatKind.TheVariants as seats
use Rattle.binder_model.specs.Licence.{Licensed}
use Rattle.binder_model.specs.Matching.{fits}
use Rattle.binder_model.specs.ObjectKeys.{claim_key}
use Rattle.binder_model.specs.Run.{IsLicensed}
use Rattle.binder_model.specs.Told.{IsNewest, own}
use Rattle.worker_core.specs.declared.turn.Next.TheVariants.{Call}
use Rattle.worker_core.specs.Stands.{StandsFor}
use Rattle.worker_core.specs.States.{ActorState}
use Rattle.worker_core.specs.Turns.{IsTurn}
use Rattle.size_law.specs.Law.Fitting.{Fits}

-- the volume carries the claim, and has its amount, its access modes, its volume mode and its class
pub record IsMadeFor (v : VolumeData) (c : ClaimData) : Type 0 where
  pub given : carries v c ≡ true
  pub amount : v.amount ≡ c.amount
  pub modes : v.modes ≡ c.modes
  pub mode : v.block ≡ c.block
  pub class_name : class_of_volume v ≡ class_of_claim c

-- such a volume fits the claim, and passes the binder's own test of size, modes and class
abbrev pub MadeFits : Type 0
MadeFits = (v : VolumeData) (c : ClaimData) → IsMadeFor v c → Fits v c × (fits v c ≡ true)

-- the new volume is made for a claim, as that was told newest
pub record IsMade (mine : List Entry) (new : VolumeData) : Type 0 where
  pub claim : ClaimData
  pub newest : IsNewest mine (claim_key claim.meta.namespace claim.meta.name) (Claim claim)
  pub made : IsMadeFor new claim

-- the request may set what a volume refers to: it creates a volume, writes a whole one, or is a user's edit
abbrev pub may_refer : Request → Bool
may_refer (requests.Create (Volume new)) = true
may_refer (requests.Update (Volume new) given) = true
may_refer (requests.Edit key change) = true
may_refer request = false

-- a request of ops with these earlier entries gives a volume only where it creates one that is made for a claim: to ask for
-- data or erase them, to delete a volume, to write phase Failed and to clear a node gives nothing
abbrev pub MakesFitting : List Entry → Request → Type 0
MakesFitting mine (requests.Create (Volume new)) = IsMade mine new
MakesFitting mine request = may_refer request ≡ false

-- each request for which ops is licensed
abbrev pub LicensedMakeFitting : Type 0
LicensedMakeFitting = (mine : List Entry) (request : Request) → Licensed seats.Ops mine request → MakesFitting mine request

-- each call that a turn of ops gives, where the actor then stands for these entries
abbrev pub CallsMakeFitting : Type 0
CallsMakeFitting =
    (s given : ActorState) (mine : List Entry) (request : Request)
    → s.role.kind ≡ seats.Ops → StandsFor given mine → IsTurn s given (Call request) → MakesFitting mine request

-- each entry of ops, after its own seat's earlier ones
abbrev pub AreMakingFitting : List Entry → Type 0
AreMakingFitting [] = ⊤
AreMakingFitting (e ∷ past) = AreMakingFitting past × (e.kind ≡ seats.Ops → MakesFitting (own e.seat past) e.request)

-- in each history in which each controller was allowed what it asked, as it is in each run
abbrev pub HistoriesMakeFitting : Type 0
HistoriesMakeFitting = (past : List Entry) → IsLicensed past → AreMakingFitting past
