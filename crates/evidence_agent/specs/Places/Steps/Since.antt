-- For proofs alone: what stands at a place and since, counted from the oldest. The entries stand newest first.
use Rattle.std.specs.Prelude.{ℕ, suc, ◌≡◌, ◌<◌, ◌≤◌, ◌⊎◌, ◌&&◌, Bool, true, false, List, [], ◌∷◌, Option, Some, None, is_some, length, ⊤}
use Rattle.kube_parts.specs.declared.uid.Uid.{Uid}
use Rattle.kube_objects.specs.declared.key.Key.{Key}
use Rattle.kube_objects.specs.declared.objects.DataId.{DataId}
use Rattle.call_types.specs.declared.entry.Entry.{Entry}
use Rattle.binder_model.specs.AgentLicence.{epoch_in, is_finish_of, is_get_of, is_mount_of, is_of_epoch, is_pod_list, lacks_pod}
use Rattle.binder_model.specs.Told.{found_over}

-- the entry stands at the place
abbrev pub StandsAt : List Entry → ℕ → Entry → Type 0
StandsAt [] place entry = ⊥
StandsAt (e ∷ mine) place entry = ((length mine ≡ place) × (e ≡ entry)) ⊎ StandsAt mine place entry

-- the entry stands at the place, and of none after it the test holds
pub data Since (q : Entry → Bool) : List Entry → ℕ → Entry → Type 0 where
  Here : {mine : List Entry} {place : ℕ} (e : Entry) → length mine ≡ place → Since q (e ∷ mine) place e
  Later : {mine : List Entry} {place : ℕ} {entry : Entry} (e : Entry) → q e ≡ false → Since q mine place entry → Since q (e ∷ mine) place entry

-- of no entry the test holds
abbrev pub IsNever : (Entry → Bool) → List Entry → Type 0
IsNever q [] = ⊤
IsNever q (e ∷ mine) = (q e ≡ false) × IsNever q mine

-- the test holds of no entry behind the place
abbrev pub IsQuietBehind : (Entry → Bool) → ℕ → List Entry → Type 0
IsQuietBehind q place [] = ⊤
IsQuietBehind q place (e ∷ mine) = (place < length mine → q e ≡ false) × IsQuietBehind q place mine

-- there is no such place, or it does not stand behind the other one
abbrev pub IsUpto : ℕ → Option ℕ → Type 0
IsUpto place None = ⊤
IsUpto place (Some last) = last ≤ place

-- the entries behind the one at the place
pub data Above (place : ℕ) : List Entry → List Entry → Type 0 where
  Done : {mine : List Entry} → length mine ≡ suc place → Above place mine []
  More : {mine recent : List Entry} (e : Entry) → Above place mine recent → Above place (e ∷ mine) (e ∷ recent)

-- an epoch of the node was told
abbrev pub takes : List ℕ → Entry → Bool
takes node e = is_some (epoch_in node e)

-- a read of the key was told
abbrev pub gets : Key → Entry → Bool
gets key e = e.told && is_get_of key e.request

-- the pod was to be finished, or to be mounted
abbrev pub finishes : Uid → Entry → Bool
finishes pod e = is_finish_of pod e.request

-- the entry is a Mount of this pod
abbrev pub mounts : Uid → Entry → Bool
mounts pod e = is_mount_of pod e.request

-- a read found a volume over the data
abbrev pub finds : DataId → Entry → Bool
finds id e = is_some (found_over id e.told e.reply)

-- a list of all pods was told
abbrev pub IsPodList : Entry → Type 0
IsPodList e = (e.told ≡ true) × (is_pod_list e.request e.reply ≡ true)

-- the mounts of the node were told in the epoch, without the pod
abbrev pub tells_unmounted : List ℕ → ℕ → Uid → Entry → Bool
tells_unmounted node epoch pod e = e.told && is_of_epoch node epoch e.request && lacks_pod pod e.reply
