-- Which reads a controller may make: lists and watches of the kinds that it follows, and the reads of single objects
-- that its decisions need. Source: API concepts, "Efficient detection of changes" (list, then watch from its version);
-- which single reads there are is this project's choice.
use Rattle.std.specs.Prelude.{ℕ, ◌≡◌, ◌≢◌, ◌⊎◌, Bool, true, false, List, [], ◌∷◌, Option, Some, None, is_some, if◌then◌else◌, ⊤}
use Rattle.kube_parts.specs.declared.uid.Uid.{Uid}
use Rattle.kube_objects.specs.declared.key.Key.{Key}
use Rattle.kube_parts.specs.declared.parts.Kind.{Kind}
use Rattle.kube_parts.specs.declared.parts.Kind.TheVariants as kinds
use Rattle.kube_objects.specs.declared.objects.Ref.{Ref}
use Rattle.kube_objects.specs.declared.objects.Claim.{Claim as ClaimData}
use Rattle.kube_objects.specs.declared.objects.Pod.{Pod as PodData}
use Rattle.kube_objects.specs.declared.objects.Volume.{Volume as VolumeData}
use Rattle.kube_objects.specs.declared.objects.Object.{Object}
use Rattle.kube_objects.specs.declared.objects.Object.TheVariants.{Volume, Claim}
use Rattle.kube_objects.specs.Keys.{same_kind}
use Rattle.kube_objects.specs.Bindings.{has_name, is_completed, is_deleting, is_scheduled}
use Rattle.call_types.specs.declared.entry.Entry.{Entry}
use Rattle.call_types.specs.declared.request.SeatKind.{SeatKind}
use Rattle.call_types.specs.declared.request.SeatKind.TheVariants as seats
use Rattle.call_types.specs.declared.request.Request.{Request}
use Rattle.call_types.specs.declared.request.Request.TheVariants as requests
use Rattle.call_types.specs.declared.reply.Refusal.TheVariants.{Gone}
use Rattle.call_types.specs.declared.reply.Reply.{Reply}
use Rattle.call_types.specs.declared.reply.Reply.TheVariants.{Found, Listed, Events, Refused}
use Rattle.binder_model.specs.ObjectKeys.{claim_key, volume_key}
use Rattle.binder_model.specs.OpsLicence.{IsToErase}
use Rattle.binder_model.specs.Told.{SomeOf, ToldClaim, ToldPod, IsNewest, object_of, newest}
use Rattle.binder_model.specs.AgentLicence.{last_epoch}

-- the kinds that a controller follows
abbrev pub follows : SeatKind → Kind → Bool
follows seats.Binder kinds.PersistentVolume = true
follows seats.Binder kinds.PersistentVolumeClaim = true
follows seats.Binder kinds.StorageClass = true
follows seats.Ops kinds.Pod = false
follows seats.Ops _ = true
follows seats.Scheduler _ = true
follows seats.ClaimProtect kinds.PersistentVolumeClaim = true
follows seats.ClaimProtect kinds.Pod = true
follows seats.VolumeProtect kinds.PersistentVolume = true
follows seats.Agent kinds.Pod = true
follows _ _ = false

-- where the seat stands with a kind: nothing told, or a list at a version, and the version that a watch reached since
pub data Following : Type 0 where
  Unlisted : Following
  ListedAt : ℕ → Option ℕ → Following

-- a watch of a kind that was not listed tells nothing of where the seat stands
abbrev pub reached_on : ℕ → Following → Following
reached_on upto Unlisted = Unlisted
reached_on upto (ListedAt version reached) = ListedAt version (Some upto)

-- the list of a whole kind begins anew, a watch goes on, and Gone ends what was known
abbrev pub follow_on : Request → Reply → Kind → Following → Following
follow_on (requests.List k None) (Listed items version) kind before = if same_kind k kind then ListedAt version None else before
follow_on (requests.Watch k from) (Refused (Gone oldest)) kind before = if same_kind k kind then Unlisted else before
follow_on (requests.Watch k from) (Events events) kind before = if same_kind k kind then reached_on events.upto before else before
follow_on request reply kind before = before

-- where the seat stands with the kind after these entries; an answer that was lost moves nothing
abbrev pub following_of : List Entry → Kind → Following
following_of [] kind = Unlisted
following_of (e ∷ mine) kind = if e.told then follow_on e.request e.reply kind (following_of mine kind) else following_of mine kind

-- a list only where none was told since the last Gone
abbrev pub IsUnlisted : Following → Type 0
IsUnlisted Unlisted = ⊤
IsUnlisted (ListedAt version reached) = ⊥

-- a watch only from the version of that list, or from the one that was reached last
abbrev pub IsFrom : ℕ → Following → Type 0
IsFrom from Unlisted = ⊥
IsFrom from (ListedAt version reached) = (from ≡ version) ⊎ (reached ≡ Some from)

-- the newest told claim of the key is not one with this UID
abbrev pub LacksUid : Option Object → Uid → Type 0
LacksUid (Some (Claim c)) uid = c.meta.uid ≢ Some uid
LacksUid _ uid = ⊤

-- a newest told volume names the claim with a UID that the newest told claim does not have
pub record AsksForClaim (mine : List Entry) (key : Key) : Type 0 where
  pub volume : VolumeData
  pub newest_volume : IsNewest mine (volume_key volume.meta.name) (Volume volume)
  pub reference : Ref
  pub refers : volume.claim_ref ≡ Some reference
  pub named : key ≡ claim_key reference.namespace reference.name
  pub uid : Uid
  pub known : reference.uid ≡ Some uid
  pub lacking : LacksUid (object_of (newest mine key)) uid

-- a newest told completed claim names the volume
pub record AsksForVolume (mine : List Entry) (key : Key) : Type 0 where
  pub claim : ClaimData
  pub newest_claim : IsNewest mine (claim_key claim.meta.namespace claim.meta.name) (Claim claim)
  pub completed : is_completed claim ≡ true
  pub named : key ≡ volume_key claim.volume_name

-- the newest told volume of the key has ended with policy Delete, for a claim, and is not deleting
pub record AsksForEnded (mine : List Entry) (key : Key) : Type 0 where
  pub volume : VolumeData
  pub newest_volume : IsNewest mine key (Volume volume)
  pub ended : IsToErase volume

-- the pod is scheduled to a node that the seat took, and names the claim
pub record NamesClaim (mine : List Entry) (key : Key) (pod : PodData) : Type 0 where
  pub scheduled : is_scheduled pod ≡ true
  pub taken : is_some (last_epoch pod.node mine) ≡ true
  pub placed : key.namespace ≡ pod.meta.namespace
  pub kind : key.kind ≡ kinds.PersistentVolumeClaim
  pub named : has_name key.name pod.claims ≡ true

-- a Get found a claim that names the volume
abbrev pub FoundNaming : Key → Reply → Type 0
FoundNaming key (Found (Claim c)) = key ≡ volume_key c.volume_name
FoundNaming key reply = ⊥

-- an agent reads the claims of pods on its nodes, and then the volumes that those claims name
abbrev pub AsksForMount : List Entry → Key → Type 0
AsksForMount mine key = ToldPod (NamesClaim mine key) mine ⊎ SomeOf (λ e. (e.told ≡ true) × FoundNaming key e.reply) mine

-- the reads of single objects
abbrev pub MayGet : SeatKind → List Entry → Key → Type 0
MayGet seats.Binder mine key = AsksForClaim mine key ⊎ AsksForVolume mine key
MayGet seats.Ops mine key = AsksForEnded mine key
MayGet seats.Agent mine key = AsksForMount mine key
MayGet _ mine key = ⊥

-- a claim of the namespace, deleting
pub record IsDeletingIn (namespace : List ℕ) (claim : ClaimData) : Type 0 where
  pub placed : claim.meta.namespace ≡ namespace
  pub deleting : is_deleting claim.meta ≡ true

-- claim protection reads the pods of a namespace before it lets a claim go
abbrev pub MayListNamespace : SeatKind → List Entry → Kind → List ℕ → Type 0
MayListNamespace seats.ClaimProtect mine kinds.Pod namespace = ToldClaim (IsDeletingIn namespace) mine
MayListNamespace _ mine kind namespace = ⊥

-- the row Reading
abbrev pub MayRead : SeatKind → List Entry → Request → Type 0
MayRead seat mine (requests.List kind None) = (follows seat kind ≡ true) × IsUnlisted (following_of mine kind)
MayRead seat mine (requests.List kind (Some namespace)) = MayListNamespace seat mine kind namespace
MayRead seat mine (requests.Watch kind from) = (follows seat kind ≡ true) × IsFrom from (following_of mine kind)
MayRead seat mine (requests.Get key) = MayGet seat mine key
MayRead seat mine _ = ⊥
