-- What holds in every world of a run.
-- A choice of this project, as the definitions are; their sources stand in `binder_model`.
use Rattle.std.specs.Prelude.{false, ℕ, ◌≡◌, ◌≢◌, ◌⊎◌, ◌<◌, true, List, [], Option, Some, is_some}
use Rattle.kube_parts.specs.declared.uid.Uid.{Uid}
use Rattle.kube_objects.specs.declared.key.Key.{Key}
use Rattle.kube_objects.specs.declared.objects.Ref.{Ref}
use Rattle.kube_objects.specs.declared.objects.Volume.{Volume as VolumeData}
use Rattle.kube_objects.specs.declared.objects.Claim.{Claim as ClaimData}
use Rattle.kube_objects.specs.declared.objects.Object.{Object}
use Rattle.kube_objects.specs.declared.objects.Object.TheVariants.{Volume, Claim}
use Rattle.kube_objects.specs.Keys.{AreRows, meta_of, key_of, row_at}
use Rattle.kube_parts.specs.Uids.{uid_of_serial}
use Rattle.kube_objects.specs.Bindings.{is_ended, is_bound, is_completed, is_protected_volume}
use Rattle.call_types.specs.declared.entry.Entry.{Entry}
use Rattle.call_types.specs.declared.setup.Setup.{Setup}
use Rattle.binder_model.specs.ObjectKeys.{volume_key, claim_key}
use Rattle.binder_model.specs.World.{World, world}
use Rattle.safety_law.specs.Invariant.Whence.{Keeps}
use Rattle.safety_law.specs.Invariant.Was.{IsPlaced, IsAway, Refers, WasBound, IsFinal}
use Rattle.binder_model.specs.Imports.{most_serials}
use Rattle.binder_model.specs.Safe.{was_imported_as_lost}
use Rattle.model_laws.specs.Stood.{Stood}

-- no later write gives this UID
abbrev pub IsOld : ℕ → Option Uid → Type 0
IsOld version uid = (n : ℕ) → version < n → n < most_serials → uid ≢ Some (uid_of_serial n)

-- the same object, at its old key
pub record IsLater (old new : Object) : Type 0 where
  pub key : key_of new ≡ key_of old
  pub keeps : Keeps old new

-- the claim names no volume, or this one
abbrev pub NamesAtMost : List ℕ → ClaimData → Type 0
NamesAtMost name c = (c.volume_name ≡ []) ⊎ (c.volume_name ≡ name)

-- the volume of this name is there, Bound, with the reference
pub record StillBound (w : World) (name : List ℕ) (r : Ref) : Type 0 where
  pub volume : VolumeData
  pub there : row_at (volume_key name) w.store.rows ≡ Some (Volume volume)
  pub bound : is_bound volume.phase ≡ true
  pub refers : volume.claim_ref ≡ Some r

-- no claim under another key ever had the UID of the reference, and no later write gives it
pub record IsReferred (setup : Setup) (past : List Entry) (r : Ref) (uid : Uid) : Type 0 where
  pub old : IsOld (world setup past).store.version (Some uid)
  pub named : (c : ClaimData) → Stood setup past (Claim c) → c.meta.uid ≡ Some uid → key_of (Claim c) ≡ claim_key r.namespace r.name

-- what holds of all that stood in the store, and of what stands there, beside what holds of every history: one version, one
-- object; no UID is given again
pub record Invariant (setup : Setup) (past : List Entry) : Type 0 where
  pub order : AreRows (world setup past).store.rows
  -- UIDs and keys
  pub has : (o : Object) → Stood setup past o → is_some (meta_of o).uid ≡ true
  pub keyed : (a b : Object) → Stood setup past a → Stood setup past b → (meta_of a).uid ≡ (meta_of b).uid → key_of a ≡ key_of b
  pub later : (a : Object) (k : Key) (b : Object) → Stood setup past a → row_at k (world setup past).store.rows ≡ Some b → (meta_of b).uid ≡ (meta_of a).uid → IsLater a b
  pub placed : (v : VolumeData) → Stood setup past (Volume v) → IsPlaced (key_of (Volume v))
  -- each UID in a reference is that of a claim of this namespace and name, or of none
  pub refers : (v : VolumeData) (r : Ref) (uid : Uid) → Stood setup past (Volume v) → Refers v r uid → IsReferred setup past r uid
  -- what is Bound is protected
  pub guarded : (k : Key) (v : VolumeData) → row_at k (world setup past).store.rows ≡ Some (Volume v) → is_bound v.phase ≡ true → is_protected_volume v ≡ true
  -- what was Bound to a claim that is there and not elsewhere is so still
  pub binding : (v : VolumeData) (r : Ref) (uid : Uid) (k : Key) (c : ClaimData) → Stood setup past (Volume v) → is_bound v.phase ≡ true → Refers v r uid
      → row_at k (world setup past).store.rows ≡ Some (Claim c) → c.meta.uid ≡ Some uid → NamesAtMost v.meta.name c → StillBound (world setup past) v.meta.name r
  -- a completed claim was carried by a Bound volume, if it was not imported as Lost
  pub completed : (k : Key) (c : ClaimData) → row_at k (world setup past).store.rows ≡ Some (Claim c) → is_completed c ≡ true
      → was_imported_as_lost setup c.meta.uid ≡ false → WasBound setup past c
  -- the claim of an ended volume is gone or elsewhere, and with policy Delete it is so until it leaves
  pub released : (k : Key) (v : VolumeData) (r : Ref) (uid : Uid) → row_at k (world setup past).store.rows ≡ Some (Volume v) → is_ended v.phase ≡ true
      → Refers v r uid → IsAway (world setup past) uid v.meta.name
  pub lasts : (v : VolumeData) (r : Ref) (uid : Uid) (k : Key) (x : VolumeData) → Stood setup past (Volume v) → Refers v r uid → IsFinal r v
      → row_at k (world setup past).store.rows ≡ Some (Volume x) → x.meta.uid ≡ v.meta.uid → IsFinal r x
