-- Whose a mount is, who is about to mount a claim, and when a claim may go.
-- A choice of this project, as the definitions are; their sources stand in `binder_model`.
use Rattle.std.specs.Prelude.{ℕ, ◌≡◌, true, false, List, [], ◌∷◌, ◌++◌, Some}
use Rattle.kube_objects.specs.declared.objects.Pod.{Pod as PodData}
use Rattle.kube_objects.specs.declared.objects.Object.TheVariants.{Claim, Pod}
use Rattle.kube_parts.specs.declared.uid.Uid.{Uid}
use Rattle.kube_objects.specs.declared.key.Key.{Key}
use Rattle.kube_objects.specs.Keys.{key_of, row_at}
use Rattle.kube_objects.specs.Bindings.{is_scheduled, has_name, is_deleting, is_protected_claim}
use Rattle.kube_objects.specs.declared.objects.Claim.{Claim as ClaimData}
use Rattle.call_types.specs.declared.entry.Entry.{Entry}
use Rattle.call_types.specs.declared.setup.Setup.{Setup}
use Rattle.call_types.specs.declared.request.SeatKind.TheVariants as seats
use Rattle.call_types.specs.declared.reply.Reply.TheVariants.{Found}
use Rattle.binder_model.specs.Told.{SomeOf, IsPodWith, TellsObject, own}
use Rattle.binder_model.specs.AgentLicence.{since_epoch, ListedPods, never_finished, last_get}
use Rattle.binder_model.specs.World.{World, world}
use Rattle.binder_model.specs.Devices.{MountAt}
use Rattle.binder_model.specs.ObjectKeys.{claim_key}
use Rattle.safety_law.specs.Invariant.DeviceMoves.{MountIn}
use Rattle.safety_law.specs.Invariant.Was.{OfThoseWith}
use Rattle.safety_law.specs.Invariant.Holders.{Holds}
use Rattle.safety_law.specs.Invariant.Invariant.{IsOld}
use Rattle.binder_model.specs.Run.{Run}
use Rattle.binder_model.specs.Safe.{KeepsMounted}
use Rattle.safety_law.specs.Invariant.Good.{Good}
use Rattle.binder_model.specs.Licence.{AreOfKind}
use Rattle.model_laws.specs.Stood.{Stood}

-- the split of the entries since the epoch was told
pub record IsSplit (node : List ℕ) (mine recent : List Entry) (teller : Entry) (earlier : List Entry) : Type 0 where
  pub since : since_epoch node mine ≡ recent ++ teller ∷ earlier
  pub listed : ListedPods (teller ∷ earlier)

-- the pod stands on, with its UID, node and claims
pub record StandsOn (w : World) (p : PodData) : Type 0 where
  pub pod : PodData
  pub there : row_at (key_of (Pod p)) w.store.rows ≡ Some (Pod pod)
  pub uid : pod.meta.uid ≡ p.meta.uid
  pub node : pod.node ≡ p.node
  pub claims : pod.claims ≡ p.claims

-- the UID is among these
abbrev pub UidIn : Uid → List Uid → Type 0
UidIn u us = SomeOf (λ x. x ≡ u) us

-- the pod names a claim that was, of this UID
pub record NamesUid (setup : Setup) (past : List Entry) (p : PodData) (u : Uid) : Type 0 where
  pub name : List ℕ
  pub named : has_name name p.claims ≡ true
  pub claim : ClaimData
  pub was : Stood setup past (Claim claim)
  pub placed : claim.meta.namespace ≡ p.meta.namespace
  pub called : claim.meta.name ≡ name
  pub its : claim.meta.uid ≡ Some u

-- the mount is that of a pod that stands, scheduled, on the node
pub record IsPodMount (setup : Setup) (past : List Entry) (m : MountAt) : Type 0 where
  pub pod : PodData
  pub stands : StandsOn (world setup past) pod
  pub uid : pod.meta.uid ≡ Some m.row.pod
  pub node : pod.node ≡ m.node
  pub scheduled : is_scheduled pod ≡ true
  pub names : (u : Uid) → UidIn u m.row.claims → NamesUid setup past pod u

-- an agent is half ready for a claim: a pod that it was told on the node names it, and it found it not deleting since
pub record IsHalfReady (setup : Setup) (past : List Entry) (seat : ℕ) (node : List ℕ) (u : Uid) : Type 0 where
  pub recent : List Entry
  pub teller : Entry
  pub earlier : List Entry
  pub split : IsSplit node (own seat past) recent teller earlier
  pub pod : PodData
  pub told : TellsObject (IsPodWith (λ p. p ≡ pod)) teller
  pub node_is : pod.node ≡ node
  pub scheduled : is_scheduled pod ≡ true
  pub uid : Uid
  pub known : pod.meta.uid ≡ Some uid
  pub unfinished : never_finished uid (own seat past) ≡ true
  pub name : List ℕ
  pub named : has_name name pod.claims ≡ true
  pub claim : ClaimData
  pub read : last_get (claim_key pod.meta.namespace name) recent ≡ Some (Found (Claim claim))
  pub its : claim.meta.uid ≡ Some u
  pub staying : is_deleting claim.meta ≡ false

-- nothing is mounted at first
abbrev pub Mountless : Setup → Type 0
Mountless setup = (m : MountAt) → MountIn m (world setup []).devices.mounts → ⊥

-- nobody has the claim mounted, and no holder is half ready for it
pub record MayGo (setup : Setup) (past : List Entry) (u : Uid) : Type 0 where
  pub unmounted : (m : MountAt) → MountIn m (world setup past).devices.mounts → UidIn u m.row.claims → ⊥
  pub unready : (seat : ℕ) (node : List ℕ) → Holds setup past node seat → AreOfKind seats.Agent (own seat past) → IsHalfReady setup past seat node u → ⊥

-- the claim is deleting, where it is there
abbrev pub AreDeleting : Setup → List Entry → Uid → Type 0
AreDeleting setup past u = OfThoseWith (world setup past) u (λ c. is_deleting c.meta ≡ true)

-- what is known of a claim without its guard
pub record IsGoing (setup : Setup) (past : List Entry) (u : Uid) : Type 0 where
  pub go : MayGo setup past u
  pub deleting : AreDeleting setup past u
  pub old : IsOld (world setup past).store.version (Some u)

-- a claim without its guard may go
abbrev pub LooseMayGo : Setup → List Entry → Type 0
LooseMayGo setup past = (k : Key) (c : ClaimData) (u : Uid) → row_at k (world setup past).store.rows ≡ Some (Claim c) → is_protected_claim c ≡ false → c.meta.uid ≡ Some u → IsGoing setup past u

-- each mount is that of a scheduled pod which stands, for claims that it names
abbrev pub MountsArePods : Type 0
MountsArePods =
    (setup : Setup) (past : List Entry) → Good setup past → Run setup past → Mountless setup
    → (m : MountAt) → MountIn m (world setup past).devices.mounts → IsPodMount setup past m

-- no mounted claim leaves
abbrev pub MountedClaimsStay : Type 0
MountedClaimsStay =
    (setup : Setup) (e : Entry) (past : List Entry) → Good setup (e ∷ past) → Run setup (e ∷ past) → Mountless setup → LooseMayGo setup []
    → KeepsMounted (world setup past) (world setup (e ∷ past)).store.rows
