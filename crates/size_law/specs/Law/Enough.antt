-- A claim never gets less than it asked for: what holds of each completed claim in each world of a run.
-- A choice of this project; the mark is that of `pv_controller.go`, which stands where the controller made the binding.
use Rattle.std.specs.Prelude.{◌≡◌, ◌⊎◌, true, false, List, [], ◌∷◌, Option, Some, is_some}
use Rattle.kube_parts.specs.declared.uid.Uid.{Uid}
use Rattle.kube_objects.specs.declared.key.Key.{Key}
use Rattle.kube_objects.specs.declared.objects.Volume.{Volume as VolumeData}
use Rattle.kube_objects.specs.declared.objects.Claim.{Claim as ClaimData}
use Rattle.kube_objects.specs.declared.objects.Object.TheVariants.{Volume, Claim}
use Rattle.kube_objects.specs.Keys.{row_at}
use Rattle.kube_objects.specs.Bindings.{is_completed, ref_uid}
use Rattle.call_types.specs.declared.entry.Entry.{Entry}
use Rattle.call_types.specs.declared.setup.Setup.{Setup}
use Rattle.binder_model.specs.ObjectKeys.{volume_key}
use Rattle.binder_model.specs.World.{World, world}
use Rattle.binder_model.specs.Safe.{Counts, was_imported_as_lost}
use Rattle.binder_model.specs.Promises.{IsRunOf}
use Rattle.model_laws.specs.Stood.{Stands, Stood}
use Rattle.safety_law.specs.Invariant.Writes.{IsIn}
use Rattle.size_law.specs.Law.Fitting.{Fits, IsPair, AreFitting, is_marked}

-- each imported volume whose reference has the UID of this imported claim fits it
abbrev pub ImportsFit : Setup → Option Uid → Type 0
ImportsFit setup uid =
    (v : VolumeData) (c : ClaimData) → IsIn (Volume v) setup.imports → IsIn (Claim c) setup.imports
    → ref_uid v.claim_ref ≡ uid → c.meta.uid ≡ uid → Fits v c

-- versions of the volume and of the claim stand in this world that were bound by hand to each other
pub record ArePair (w : World) (v : VolumeData) (c : ClaimData) : Type 0 where
  pub volume : VolumeData
  pub volume_there : Stands w (Volume volume)
  pub same_volume : volume.meta.uid ≡ v.meta.uid
  pub claim : ClaimData
  pub claim_there : Stands w (Claim claim)
  pub same_claim : claim.meta.uid ≡ c.meta.uid
  pub pair : IsPair volume claim

-- now, or at an earlier point of the history
abbrev pub WerePair : Setup → List Entry → VolumeData → ClaimData → Type 0
WerePair setup [] v c = ArePair (world setup []) v c
WerePair setup (e ∷ past) v c = WerePair setup past v c ⊎ ArePair (world setup (e ∷ past)) v c

-- a claim of this UID that was imported with the mark is completed
abbrev pub IsMarkedLate : Setup → Option Uid → Type 0
IsMarkedLate setup uid = (c : ClaimData) → IsIn (Claim c) setup.imports → c.meta.uid ≡ uid → is_marked c.meta ≡ true → is_completed c ≡ true

-- the mark stands on the volume, and stood on none of its versions that had no UID in the reference: who gave it to a claim
-- put the mark there
pub record IsGivenByController (setup : Setup) (past : List Entry) (v : VolumeData) : Type 0 where
  pub marked : is_marked v.meta ≡ true
  pub fresh : (o : VolumeData) → Stood setup past (Volume o) → o.meta.uid ≡ v.meta.uid → is_marked o.meta ≡ true → is_some (ref_uid o.claim_ref) ≡ true

-- the mark stands on the claim, and was not imported on it before it was completed: who completed it put it there
pub record IsNamedByController (setup : Setup) (c : ClaimData) : Type 0 where
  pub marked : is_marked c.meta ≡ true
  pub fresh : IsMarkedLate setup c.meta.uid

-- the claim names a volume that fits it, or both were bound by hand, and then no controller decided it
pub record GetsEnough (setup : Setup) (past : List Entry) (c : ClaimData) : Type 0 where
  pub volume : VolumeData
  pub there : row_at (volume_key c.volume_name) (world setup past).store.rows ≡ Some (Volume volume)
  pub enough : Fits volume c ⊎ WerePair setup past volume c
  pub decided : IsGivenByController setup past volume ⊎ IsNamedByController setup c → Fits volume c

-- each claim that counts gets enough, if it was not imported as Lost, nor referred to by an imported volume that does not fit
abbrev pub GetEnough : Setup → List Entry → Type 0
GetEnough setup past =
    (key : Key) (c : ClaimData) → row_at key (world setup past).store.rows ≡ Some (Claim c) → Counts setup past c
    → was_imported_as_lost setup c.meta.uid ≡ false → ImportsFit setup c.meta.uid → GetsEnough setup past c

-- each volume fits the claim that its reference has the UID of, completed or not, or both were bound by hand; but for the
-- same imports
abbrev pub ReferencesFit : Setup → List Entry → Type 0
ReferencesFit setup past =
    (key other_key : Key) (v : VolumeData) (c : ClaimData) (uid : Uid)
    → row_at key (world setup past).store.rows ≡ Some (Volume v) → row_at other_key (world setup past).store.rows ≡ Some (Claim c)
    → ref_uid v.claim_ref ≡ Some uid → c.meta.uid ≡ Some uid
    → was_imported_as_lost setup (Some uid) ≡ false → ImportsFit setup (Some uid) → Fits v c ⊎ WerePair setup past v c

-- at each point of a history
abbrev pub GetEnoughThroughout : Setup → List Entry → Type 0
GetEnoughThroughout setup [] = GetEnough setup []
GetEnoughThroughout setup (e ∷ past) = GetEnough setup (e ∷ past) × GetEnoughThroughout setup past

-- the law: in each run in which each reference is given to a claim that the volume suits
abbrev pub RunsGetEnough : Type 0
RunsGetEnough = (setup : Setup) (past : List Entry) → IsRunOf setup past → AreFitting past → GetEnoughThroughout setup past

-- and so does what the references of volumes name, in each world of such a run
abbrev pub RunsReferFitting : Type 0
RunsReferFitting = (setup : Setup) (past : List Entry) → IsRunOf setup past → AreFitting past → ReferencesFit setup past
