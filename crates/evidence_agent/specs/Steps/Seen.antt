-- For proofs alone: what a look-up in an agent's index shows.
use Rattle.std.specs.Prelude.{ℕ, ◌≡◌, ◌<◌, ◌≤◌, List, Some, false, true}
use Rattle.kube_parts.specs.declared.uid.Uid.{Uid}
use Rattle.kube_objects.specs.declared.key.Key.{Key}
use Rattle.kube_parts.specs.declared.parts.Kind.{Kind}
use Rattle.kube_objects.specs.declared.objects.Claim.{Claim as ClaimData}
use Rattle.kube_objects.specs.declared.objects.Volume.{Volume as VolumeData}
use Rattle.kube_objects.specs.declared.objects.Object.{Object}
use Rattle.kube_objects.specs.declared.objects.Pod.{Pod as PodData}
use Rattle.kube_objects.specs.declared.objects.Object.TheVariants.{Pod, Volume}
use Rattle.kube_objects.specs.Bindings.{carries, is_completed, is_deleting, is_protected_claim}
use Rattle.call_types.specs.declared.entry.Entry.{Entry}
use Rattle.call_types.specs.declared.reply.Reply.{Reply}
use Rattle.call_types.specs.declared.reply.Reply.TheVariants.{Found}
use Rattle.binder_model.specs.BindWrites.{is_claim_bound}
use Rattle.binder_model.specs.ObjectKeys.{pod_key, volume_key}
use Rattle.binder_model.specs.Told.{IsNewest}
use Rattle.binder_model.specs.AgentLicence.{AreReadReady, IsPodOn, epoch_in}
use Rattle.binder_model.specs.Reading.{FoundNaming}
use Rattle.evidence_agent.specs.declared.pods.ToldPod.{ToldPod}
use Rattle.evidence_agent.specs.Places.Steps.Since.{Above, IsPodList, IsQuietBehind, Since, StandsAt, gets, mounts, takes, tells_unmounted}

-- the key of this kind, namespace and name
abbrev pub key_with_parts : Kind → List ℕ → List ℕ → Key
key_with_parts kind namespace name = record { kind = kind; namespace = namespace; name = name }

-- the last epoch of the node was told at the place, and is this one
pub record IsTakenAt (mine : List Entry) (node : List ℕ) (epoch place : ℕ) : Type 0 where
  pub entry : Entry
  pub since : Since (takes node) mine place entry
  pub is : epoch_in node entry ≡ Some epoch

-- the last read of the key stands at the place, behind the other one, and had this answer
pub record IsRead (mine : List Entry) (key : Key) (behind place : ℕ) (reply : Reply) : Type 0 where
  pub entry : Entry
  pub since : Since (gets key) mine place entry
  pub later : behind < place
  pub got : gets key entry ≡ true
  pub answer : entry.reply ≡ reply

-- the claim's volume was read last behind the place, and carries the claim
pub record IsVolumeRead (mine : List Entry) (claim : ClaimData) (behind : ℕ) : Type 0 where
  pub place : ℕ
  pub volume : VolumeData
  pub read : IsRead mine (volume_key claim.volume_name) behind place (Found (Volume volume))
  pub carries : carries volume claim ≡ true

-- the claim has the id, stays, is protected and is bound
pub record IsToMount (claim : ClaimData) (uid : Uid) : Type 0 where
  pub same : claim.meta.uid ≡ Some uid
  pub staying : is_deleting claim.meta ≡ false
  pub guarded : is_protected_claim claim ≡ true
  pub completed : is_completed claim ≡ true
  pub bound : is_claim_bound claim.phase ≡ true

-- the condition holds of the entries behind the place
abbrev pub AreReadBehind : List Entry → ℕ → (List Entry → Type 0) → Type 0
AreReadBehind mine behind P = (recent : List Entry) → Above behind mine recent → P recent

-- a list of all pods was told between the two places
pub record IsListed (mine : List Entry) (taken shown : ℕ) : Type 0 where
  pub place : ℕ
  pub list : Entry
  pub stands : StandsAt mine place list
  pub after : taken < place
  pub upto : place ≤ shown
  pub is : IsPodList list

-- the object is a pod with the id that stays
pub record IsStayingPod (uid : Uid) (o : Object) : Type 0 where
  pub latest : PodData
  pub is : o ≡ Pod latest
  pub same : latest.meta.uid ≡ Some uid
  pub staying : is_deleting latest.meta ≡ false

-- the newest told of the pod's key is
pub record IsStaying (mine : List Entry) (uid : Uid) (pod : PodData) : Type 0 where
  pub found : Object
  pub newest : IsNewest mine (pod_key pod.meta.namespace pod.meta.name) found
  pub is : IsStayingPod uid found

-- by this telling of the pod, behind the place of the epoch, its claims may be mounted
pub record IsShown (mine : List Entry) (taken : ℕ) (node : List ℕ) (uid : Uid) (claims : List Uid) (told : ToldPod) : Type 0 where
  pub listed : IsListed mine taken told.place
  pub on_node : IsPodOn uid node told.pod
  pub staying : IsStaying mine uid told.pod
  pub read : AreReadBehind mine told.place (λ recent. AreReadReady recent told.pod.meta.namespace told.pod.claims claims)

-- the mounts of the node were told behind the place, in the epoch and without the pod, and no later call was to mount it
pub record IsUnmounted (mine : List Entry) (taken : ℕ) (node : List ℕ) (epoch : ℕ) (pod : Uid) : Type 0 where
  pub place : ℕ
  pub rows : Entry
  pub stands : StandsAt mine place rows
  pub after : taken < place
  pub told : tells_unmounted node epoch pod rows ≡ true
  pub quiet : IsQuietBehind (mounts pod) place mine

-- the entry told a read that found a claim which names the volume of the key
abbrev pub TellsNaming : Key → Entry → Type 0
TellsNaming key e = (e.told ≡ true) × FoundNaming key e.reply
