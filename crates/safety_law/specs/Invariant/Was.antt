-- What stood in the store at some time, and what a write may make of an object. Lists of entries begin with the newest.
-- A choice of this project, as the definitions are; their sources stand in `binder_model`.
use Rattle.std.specs.Prelude.{ℕ, ◌+◌, ◌<◌, ◌≡◌, ◌≢◌, ◌⊎◌, true, false, List, [], Some, ⊤}
use Rattle.kube_parts.specs.declared.uid.Uid.{Uid}
use Rattle.kube_objects.specs.declared.key.Key.{Key}
use Rattle.kube_objects.specs.declared.objects.Ref.{Ref}
use Rattle.kube_parts.specs.declared.parts.VolumePhase.TheVariants as volumes
use Rattle.kube_objects.specs.declared.objects.Volume.{Volume as VolumeData}
use Rattle.kube_objects.specs.declared.objects.Claim.{Claim as ClaimData}
use Rattle.kube_objects.specs.declared.objects.Object.{Object}
use Rattle.kube_objects.specs.declared.objects.Object.TheVariants.{Volume, Claim, Pod}
use Rattle.kube_objects.specs.Keys.{key_of, row_at}
use Rattle.kube_objects.specs.Bindings.{is_ended, is_bound, is_completed, is_delete, is_protected_volume, is_protected_claim, is_deleting, is_scheduled, carries}
use Rattle.kube_objects.specs.declared.objects.Pod.{Pod as PodData}
use Rattle.call_types.specs.declared.entry.Entry.{Entry}
use Rattle.call_types.specs.declared.setup.Setup.{Setup}
use Rattle.binder_model.specs.Told.{ToldClaim, After, own}
use Rattle.binder_model.specs.GuardLicence.{IsDeletingVersion, TellsUnused}
use Rattle.binder_model.specs.World.{World, world}
use Rattle.safety_law.specs.Invariant.Whence.{IsFirst, IsNext}
use Rattle.binder_model.specs.Imports.{most_serials}
use Rattle.model_laws.specs.Stood.{Stood}

-- the key of a volume: without a namespace, and with a name
pub record IsPlaced (k : Key) : Type 0 where
  pub global : k.namespace ≡ []
  pub titled : k.name ≢ []

-- the claim names another volume
pub record NamesOther (name : List ℕ) (c : ClaimData) : Type 0 where
  pub named : c.volume_name ≢ []
  pub other : c.volume_name ≢ name

-- Q holds of each claim in the store that has the UID
abbrev pub OfThoseWith : World → Uid → (ClaimData → Type 0) → Type 0
OfThoseWith w uid Q = (k : Key) (c : ClaimData) → row_at k w.store.rows ≡ Some (Claim c) → c.meta.uid ≡ Some uid → Q c

-- no claim in the store has the UID
abbrev pub IsNotThere : World → Uid → Type 0
IsNotThere w uid = OfThoseWith w uid (λ c. ⊥)

-- what claim in the store has the UID names another volume
abbrev pub IsAway : World → Uid → List ℕ → Type 0
IsAway w uid name = OfThoseWith w uid (NamesOther name)

-- the reference has this UID
pub record Refers (v : VolumeData) (r : Ref) (uid : Uid) : Type 0 where
  pub is : v.claim_ref ≡ Some r
  pub known : r.uid ≡ Some uid

-- a claim of this namespace, name and UID stood in the store
pub record WasNamed (setup : Setup) (past : List Entry) (r : Ref) (uid : Uid) : Type 0 where
  pub claim : ClaimData
  pub was : Stood setup past (Claim claim)
  pub placed : claim.meta.namespace ≡ r.namespace
  pub named : claim.meta.name ≡ r.name
  pub its : claim.meta.uid ≡ Some uid

-- a Bound volume that carries the claim, and that it names, stood in the store
pub record WasBound (setup : Setup) (past : List Entry) (c : ClaimData) : Type 0 where
  pub volume : VolumeData
  pub was : Stood setup past (Volume volume)
  pub bound : is_bound volume.phase ≡ true
  pub carries : carries volume c ≡ true
  pub names : c.volume_name ≡ volume.meta.name

-- Released or Failed with policy Delete, for this claim
pub record IsFinal (r : Ref) (v : VolumeData) : Type 0 where
  pub released : is_ended v.phase ≡ true
  pub policy : is_delete v.policy ≡ true
  pub refers : v.claim_ref ≡ Some r

-- what the newest write may have made of a volume
pub record VolumeStep (setup : Setup) (past : List Entry) (old new : VolumeData) : Type 0 where
  -- a reference with a UID is the old one, or names a claim that was
  pub refers : (r : Ref) (uid : Uid) → Refers new r uid → Refers old r uid ⊎ WasNamed setup past r uid
  -- a Bound volume stays so for its claim, or the claim is gone or elsewhere
  pub keeps : (r : Ref) (uid : Uid) → is_bound old.phase ≡ true → Refers old r uid
      → ((is_bound new.phase ≡ true) × Refers new r uid) ⊎ IsAway (world setup past) uid old.meta.name
  -- what is Bound before or after is protected after
  pub guarded : is_bound new.phase ≡ true → is_protected_volume new ≡ true
  pub stays : is_bound old.phase ≡ true → is_protected_volume new ≡ true
  -- what is ended after was so for the claim, or the claim is gone or elsewhere
  pub released : (r : Ref) (uid : Uid) → is_ended new.phase ≡ true → Refers new r uid
      → ((is_ended old.phase ≡ true) × Refers old r uid) ⊎ IsAway (world setup past) uid old.meta.name
  -- what is ended with policy Delete keeps its reference with a UID, and both
  pub lasts : (r : Ref) (uid : Uid) → Refers old r uid → is_ended old.phase ≡ true → is_delete old.policy ≡ true → IsFinal r new

-- what holds of a volume that is created
pub record VolumeStart (setup : Setup) (past : List Entry) (new : VolumeData) : Type 0 where
  pub pending : new.phase ≡ volumes.Pending
  pub refers : (r : Ref) (uid : Uid) → Refers new r uid → WasNamed setup past r uid
  pub placed : IsPlaced (key_of (Volume new))

-- a seat's evidence for dropping the guard of a claim
pub record Unguards (past : List Entry) (o : ClaimData) : Type 0 where
  pub seat : ℕ
  pub deleting : is_deleting o.meta ≡ true
  pub unused : After (ToldClaim (IsDeletingVersion o)) (TellsUnused o) (own seat past)

-- a pod keeps its claims, and its node once it has one
pub record PodStep (old new : PodData) : Type 0 where
  pub placed : is_scheduled old ≡ true → new.node ≡ old.node
  pub claims : new.claims ≡ old.claims

-- how a claim may change in one write
pub record ClaimStep (setup : Setup) (past : List Entry) (old new : ClaimData) : Type 0 where
  -- what is completed was so, or a Bound volume carried it
  pub completed : is_completed new ≡ true → (is_completed old ≡ true) ⊎ WasBound setup past new
  -- what is without its guard was so, or a seat has the evidence to drop it
  pub loose : is_protected_claim new ≡ false → (is_protected_claim old ≡ false) ⊎ Unguards past old

-- what holds of a claim that is created
pub record ClaimStart (setup : Setup) (past : List Entry) (new : ClaimData) : Type 0 where
  pub fresh : is_completed new ≡ false
  pub guarded : is_protected_claim new ≡ true

-- how an object of each kind may change in one write
abbrev pub KindStep : Setup → List Entry → Object → Object → Type 0
KindStep setup past (Volume a) (Volume b) = VolumeStep setup past a b
KindStep setup past (Claim a) (Claim b) = ClaimStep setup past a b
KindStep setup past (Pod a) (Pod b) = PodStep a b
KindStep setup past a b = ⊤

-- what holds of an object of each kind that is created
abbrev pub KindStart : Setup → List Entry → Object → Type 0
KindStart setup past (Volume v) = VolumeStart setup past v
KindStart setup past (Claim c) = ClaimStart setup past c
KindStart setup past o = ⊤

-- what may be made of what stands there: none, or an old object
pub record Starts (setup : Setup) (past : List Entry) (new : Object) : Type 0 where
  pub room : (world setup past).store.version + 1 < most_serials
  pub first : IsFirst (world setup past).store new
  pub start : KindStart setup past new

-- the object stood before the write, and changed as its kind may
pub record Follows (setup : Setup) (past : List Entry) (new : Object) : Type 0 where
  pub old : Object
  pub next : IsNext (world setup past).store old new
  pub step : KindStep setup past old new

-- the write is one that any run may make
abbrev pub Made : Setup → List Entry → Object → Type 0
Made setup past new = Starts setup past new ⊎ Follows setup past new
