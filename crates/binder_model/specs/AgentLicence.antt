-- Where a node agent may mount, unmount and finish pods, after its own earlier entries.
-- A choice of this project: it stands for kubelet's volume manager. "The last" entries stand first.
use Rattle.std.specs.Prelude.{ℕ, ◌≡◌, ◌⊎◌, ◌==◌, ◌&&◌, not, Bool, true, false, List, [], ◌∷◌, ◌++◌, Option, Some, None, bytes_eq, is_some, if◌then◌else◌, ⊤}
use Rattle.std.specs.List.{list_any}
use Rattle.kube_parts.specs.declared.uid.Uid.{Uid}
use Rattle.kube_objects.specs.declared.key.Key.{Key}
use Rattle.kube_parts.specs.declared.parts.Kind.TheVariants as kinds
use Rattle.kube_objects.specs.declared.objects.Claim.{Claim as ClaimData}
use Rattle.kube_objects.specs.declared.objects.Pod.{Pod as PodData}
use Rattle.kube_objects.specs.declared.objects.Volume.{Volume as VolumeData}
use Rattle.kube_objects.specs.declared.objects.Object.TheVariants.{Volume, Claim, Pod}
use Rattle.kube_objects.specs.Keys.{same_key}
use Rattle.kube_objects.specs.Bindings.{is_deleting, is_scheduled, is_protected_claim, is_completed, carries}
use Rattle.call_types.specs.declared.entry.Entry.{Entry}
use Rattle.call_types.specs.declared.request.Request.{Request}
use Rattle.call_types.specs.declared.request.Request.TheVariants as requests
use Rattle.call_types.specs.declared.reply.MountRow.{MountRow}
use Rattle.call_types.specs.declared.reply.Reply.{Reply}
use Rattle.call_types.specs.declared.reply.Reply.TheVariants as replies
use Rattle.binder_model.specs.Same.{same_uid}
use Rattle.binder_model.specs.ObjectKeys.{claim_key, volume_key, pod_key}
use Rattle.binder_model.specs.BindWrites.{is_claim_bound}
use Rattle.binder_model.specs.Told.{SomeOf, first_some, ToldPod, TellsObject, IsPodWith, IsNewest}

-- the epoch that the answer to a TakeNode of the node tells
abbrev pub epoch_told : List ℕ → Request → Reply → Option ℕ
epoch_told node (requests.TakeNode taken) (replies.Epoch epoch) = if bytes_eq taken node then Some epoch else None
epoch_told node request reply = None

-- the epoch of the node that this entry told, if its answer reached the seat
abbrev pub epoch_in : List ℕ → Entry → Option ℕ
epoch_in node e = if e.told then epoch_told node e.request e.reply else None

-- the last epoch of the node that the seat was told
abbrev pub last_epoch : List ℕ → List Entry → Option ℕ
last_epoch node [] = None
last_epoch node (e ∷ mine) = first_some (epoch_in node e) (last_epoch node mine)

-- the entries since then
abbrev pub since_epoch : List ℕ → List Entry → List Entry
since_epoch node [] = []
since_epoch node (e ∷ mine) = if is_some (epoch_in node e) then [] else e ∷ since_epoch node mine

-- a list of the pods of all namespaces
abbrev pub is_pod_list : Request → Reply → Bool
is_pod_list (requests.List kinds.Pod None) (replies.Listed items version) = true
is_pod_list request reply = false

-- a list of all pods was told
abbrev pub ListedPods : List Entry → Type 0
ListedPods mine = SomeOf (λ e. (e.told ≡ true) × (is_pod_list e.request e.reply ≡ true)) mine

-- the request is a Get of this key
abbrev pub is_get_of : Key → Request → Bool
is_get_of key (requests.Get asked) = same_key asked key
is_get_of key _ = false

-- the answer of the last Get of the key that was told
abbrev pub last_get : Key → List Entry → Option Reply
last_get key [] = None
last_get key (e ∷ mine) = if e.told && is_get_of key e.request then Some e.reply else last_get key mine

-- the entries since that Get
abbrev pub since_get : Key → List Entry → List Entry
since_get key [] = []
since_get key (e ∷ mine) = if e.told && is_get_of key e.request then [] else e ∷ since_get key mine

-- the last Get found the claim bound and protected, and the last Get of its volume after that found it carrying the claim
pub record IsReadReady (recent : List Entry) (namespace name : List ℕ) (uid : Uid) : Type 0 where
  pub claim : ClaimData
  pub read : last_get (claim_key namespace name) recent ≡ Some (replies.Found (Claim claim))
  pub same : claim.meta.uid ≡ Some uid
  pub staying : is_deleting claim.meta ≡ false
  pub guarded : is_protected_claim claim ≡ true
  pub completed : is_completed claim ≡ true
  pub bound : is_claim_bound claim.phase ≡ true
  pub volume : VolumeData
  pub volume_read : last_get (volume_key claim.volume_name) (since_get (claim_key namespace name) recent) ≡ Some (replies.Found (Volume volume))
  pub carries : carries volume claim ≡ true

-- each of the claims, in order, is ready with its UID
abbrev pub AreReadReady : List Entry → List ℕ → List (List ℕ) → List Uid → Type 0
AreReadReady recent namespace [] [] = ⊤
AreReadReady recent namespace (name ∷ names) (uid ∷ uids) = IsReadReady recent namespace name uid × AreReadReady recent namespace names uids
AreReadReady recent namespace _ _ = ⊥

-- the pod with the UID, scheduled, on the node
pub record IsPodOn (uid : Uid) (node : List ℕ) (pod : PodData) : Type 0 where
  pub same : pod.meta.uid ≡ Some uid
  pub placed : pod.node ≡ node
  pub scheduled : is_scheduled pod ≡ true

-- the request asks to finish the pod with this UID
abbrev pub is_finish_of : Uid → Request → Bool
is_finish_of pod (requests.FinishPod key uid node epoch) = same_uid uid pod
is_finish_of pod _ = false

-- the seat never asked to finish the pod, told or not
abbrev pub never_finished : Uid → List Entry → Bool
never_finished pod mine = not (list_any (λ e. is_finish_of pod e.request) mine)

-- the row Mount, for Mounts
abbrev pub MayReadMounts : List Entry → List ℕ → ℕ → Type 0
MayReadMounts mine node epoch = last_epoch node mine ≡ Some epoch

-- such a pod may be mounted by what was read since it was told: it is on the node, its newest told version is not
-- deleting, and its claims, in order, are ready. `recent` are the entries after the one that told it
pub record IsReadyPod (mine recent : List Entry) (node : List ℕ) (pod : Uid) (claims : List Uid) (shown : PodData) : Type 0 where
  pub on_node : IsPodOn pod node shown
  pub latest : PodData
  pub newest : IsNewest mine (pod_key shown.meta.namespace shown.meta.name) (Pod latest)
  pub same : latest.meta.uid ≡ Some pod
  pub staying : is_deleting latest.meta ≡ false
  pub ready : AreReadReady recent shown.meta.namespace shown.claims claims

-- down the entries since the epoch, the newest first: one told such a pod, and it or an earlier one was a list of all pods
abbrev pub WasShownReady : List Entry → List ℕ → Uid → List Uid → List Entry → List Entry → Type 0
WasShownReady mine node pod claims recent [] = ⊥
WasShownReady mine node pod claims recent (e ∷ before) =
    (ListedPods (e ∷ before) × TellsObject (IsPodWith (IsReadyPod mine recent node pod claims)) e)
    ⊎ WasShownReady mine node pod claims (recent ++ e ∷ []) before

-- the row Mount, for Mount
pub record MayMount (mine : List Entry) (node : List ℕ) (epoch : ℕ) (pod : Uid) (claims : List Uid) : Type 0 where
  pub current : last_epoch node mine ≡ Some epoch
  pub shown : WasShownReady mine node pod claims [] (since_epoch node mine)
  pub unfinished : never_finished pod mine ≡ true

-- the pod with the UID, scheduled, on the node, deleting
pub record IsEndingPod (uid : Uid) (node : List ℕ) (pod : PodData) : Type 0 where
  pub same : pod.meta.uid ≡ Some uid
  pub placed : pod.node ≡ node
  pub scheduled : is_scheduled pod ≡ true
  pub deleting : is_deleting pod.meta ≡ true

-- the row FinishPod, for Unmount
pub record MayUnmount (mine : List Entry) (node : List ℕ) (epoch : ℕ) (pod : Uid) : Type 0 where
  pub current : last_epoch node mine ≡ Some epoch
  pub told : ToldPod (IsEndingPod pod node) mine

-- the pod stands in a list of mounts
abbrev pub has_row : Uid → List MountRow → Bool
has_row pod rows = list_any (λ r. same_uid r.pod pod) rows

-- the request is one of this node and epoch that is answered by the node's mounts
abbrev pub is_of_epoch : List ℕ → ℕ → Request → Bool
is_of_epoch node epoch (requests.Mounts n e) = bytes_eq n node && e == epoch
is_of_epoch node epoch (requests.Mount n e pod claims) = bytes_eq n node && e == epoch
is_of_epoch node epoch (requests.Unmount n e pod) = bytes_eq n node && e == epoch
is_of_epoch node epoch _ = false

-- the answer is a list of mounts in which the pod is not
abbrev pub lacks_pod : Uid → Reply → Bool
lacks_pod pod (replies.Mounted rows) = not (has_row pod rows)
lacks_pod pod _ = false

-- the request asks to mount the pod with this UID
abbrev pub is_mount_of : Uid → Request → Bool
is_mount_of pod (requests.Mount n e p claims) = same_uid p pod
is_mount_of pod _ = false

-- a list of the node's mounts without the pod was told, after each Mount of the pod that was asked, told or not
abbrev pub was_told_unmounted : List ℕ → ℕ → Uid → List Entry → Bool
was_told_unmounted node epoch pod [] = false
was_told_unmounted node epoch pod (e ∷ mine) =
    if e.told && is_of_epoch node epoch e.request && lacks_pod pod e.reply then true
    else if is_mount_of pod e.request then false
    else was_told_unmounted node epoch pod mine

-- the row FinishPod, for FinishPod: it goes by the UID, and asks nothing of the key but its kind
pub record MayFinish (mine : List Entry) (key : Key) (pod : Uid) (node : List ℕ) (epoch : ℕ) : Type 0 where
  pub current : last_epoch node mine ≡ Some epoch
  pub kind : key.kind ≡ kinds.Pod
  pub told : ToldPod (IsEndingPod pod node) mine
  pub unmounted : was_told_unmounted node epoch pod (since_epoch node mine) ≡ true
