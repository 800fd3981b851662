-- What a mount asks of each claim that was read, as the code tests it.
-- A choice of this project, as the rows are.
use Rattle.std.specs.Prelude.{ℕ, ◌≡◌, ◌<◌, ◌⊎◌, ◌++◌, List, [], ◌∷◌, Some, true, false, get_or, length, reverse, take}
use Rattle.kube_parts.specs.declared.uid.Uid.{Uid}
use Rattle.kube_objects.specs.declared.objects.Claim.{Claim as ClaimData}
use Rattle.kube_objects.specs.declared.objects.Pod.{Pod as PodData}
use Rattle.kube_objects.specs.declared.objects.Volume.{Volume as VolumeData}
use Rattle.kube_objects.specs.declared.objects.Object.TheVariants.{Volume}
use Rattle.kube_objects.specs.Bindings.{carries, is_completed, is_deleting, is_protected_claim}
use Rattle.call_types.specs.declared.entry.Entry.{Entry}
use Rattle.call_types.specs.declared.reply.Reply.TheVariants as replies
use Rattle.binder_model.specs.AgentLicence.{IsPodOn, IsReadyPod, ListedPods, is_pod_list, last_get}
use Rattle.binder_model.specs.BindWrites.{is_claim_bound}
use Rattle.binder_model.specs.ObjectKeys.{volume_key}
use Rattle.binder_model.specs.Told.{IsPodWith, TellsObject, ToldPod}

-- the last Get of the claim's volume found it carrying the claim
abbrev pub IsVolumeRead : List Entry → ClaimData → Type 0
IsVolumeRead since claim = (volume : VolumeData) × ((last_get (volume_key claim.volume_name) since ≡ Some (replies.Found (Volume volume))) × (carries volume claim ≡ true))

-- the claim that was read is ready, by what was read since
pub record IsClaimReady (since : List Entry) (claim : ClaimData) (uid : Uid) : Type 0 where
  pub same : claim.meta.uid ≡ Some uid
  pub staying : is_deleting claim.meta ≡ false
  pub guarded : is_protected_claim claim ≡ true
  pub completed : is_completed claim ≡ true
  pub bound : is_claim_bound claim.phase ≡ true
  pub volume : IsVolumeRead since claim

-- the pod was told as the other was
pub record IsSameShown (node : List ℕ) (uid : Uid) (shown pod : PodData) : Type 0 where
  pub on_node : IsPodOn uid node pod
  pub placed : pod.meta.namespace ≡ shown.meta.namespace
  pub named : pod.meta.name ≡ shown.meta.name
  pub claims : pod.claims ≡ shown.claims

-- the pod may be mounted by what was read since it was told, and was not told so earlier
pub record IsFirstReady (mine recent earlier : List Entry) (node : List ℕ) (uid : Uid) (claims : List Uid) (shown : PodData) : Type 0 where
  pub first : ToldPod (IsSameShown node uid shown) earlier → ⊥
  pub ready : IsReadyPod mine recent node uid claims shown

-- down the entries, the newest first: one told a pod that may be mounted by what was read since
abbrev pub IsShownIn : List Entry → List ℕ → Uid → List Uid → List Entry → List Entry → Type 0
IsShownIn mine node uid claims recent [] = ⊥
IsShownIn mine node uid claims recent (e ∷ before) = TellsObject (IsPodWith (IsReadyPod mine recent node uid claims)) e ⊎ IsShownIn mine node uid claims (recent ++ e ∷ []) before

-- the entry at the place told a list of all pods, and none before it did. The entries stand oldest first
pub record IsFirstList (since : List Entry) (place : ℕ) : Type 0 where
  pub within : place < length since
  pub entry : Entry
  pub there : entry ≡ get_or since place entry
  pub is : (entry.told ≡ true) × (is_pod_list entry.request entry.reply ≡ true)
  pub before : ListedPods (reverse (take place since)) → ⊥
