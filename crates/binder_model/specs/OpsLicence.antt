-- Where the provisioner and reclaimer may write and call the back end, after its own earlier entries.
-- A choice of this project; each row restates the evidence on which `pv_controller.go` provisions and reclaims.
use Rattle.std.specs.Prelude.{ℕ, ◌≡◌, ◌⊎◌, Bool, true, false, List, Option, Some, None, is_some}
use Rattle.plain_data.specs.Pairs.{Pair, value_at, without_key}
use Rattle.kube_parts.specs.declared.uid.Uid.{Uid}
use Rattle.kube_objects.specs.declared.objects.DataId.{DataId}
use Rattle.kube_objects.specs.declared.objects.Class.{Class as ClassData}
use Rattle.kube_objects.specs.declared.objects.Claim.{Claim as ClaimData}
use Rattle.kube_objects.specs.declared.objects.Volume.{Volume as VolumeData}
use Rattle.kube_objects.specs.declared.objects.Node.{Node as NodeData}
use Rattle.kube_objects.specs.declared.objects.Object.TheVariants.{Class, Node, Claim}
use Rattle.kube_objects.specs.Sources.{data_id_of}
use Rattle.kube_objects.specs.Bindings.{selected_node, class_of_claim, is_completed, is_deleting, is_ended, is_delete, ref_uid}
use Rattle.call_types.specs.declared.entry.Entry.{Entry}
use Rattle.call_types.specs.declared.request.Request.{Request}
use Rattle.call_types.specs.declared.request.Request.TheVariants as requests
use Rattle.call_types.specs.declared.reply.Refusal.TheVariants.{Exhausted, BackFault}
use Rattle.call_types.specs.declared.reply.Reply.{Reply}
use Rattle.call_types.specs.declared.reply.Reply.TheVariants.{Provisioned, Erased, Refused}
use Rattle.binder_model.specs.ObjectKeys.{class_key, node_key, claim_key}
use Rattle.binder_model.specs.Provisioning.{data_name, provisioned_volume, is_wanting, provisions}
use Rattle.binder_model.specs.Told.{last_found, ToldVolume, ToldClaim, After, IsNewest, IsNewestAbsent}
use Rattle.binder_model.specs.At.{HasUid}

-- the labels that a request carries: those of the newest told selected node under a delayed class, else none
abbrev pub AreLabels : List Entry → ClaimData → Bool → Option (List Pair) → Type 0
AreLabels mine c false labels = labels ≡ None
AreLabels mine c true labels =
    (name : List ℕ) × (value_at selected_node c.meta.annotations ≡ Some name)
    × ((node : NodeData) × (IsNewest mine (node_key name) (Node node) × (labels ≡ Some node.meta.labels)))

-- the row Provision
pub record MayProvision (mine : List Entry) (name provisioner : List ℕ) (bytes : ℕ) (labels : Option (List Pair)) : Type 0 where
  pub claim : ClaimData
  pub uid : Uid
  pub known : HasUid uid claim
  pub newest : IsNewest mine (claim_key claim.meta.namespace claim.meta.name) (Claim claim)
  pub wanting : is_wanting claim ≡ true
  pub class : ClassData
  pub class_newest : IsNewest mine (class_key (class_of_claim claim)) (Class class)
  pub by_class : provisioner ≡ class.provisioner
  pub real : provisions class ≡ true
  pub named : name ≡ data_name uid
  pub sized : bytes ≡ claim.amount.bytes
  pub placed : AreLabels mine claim class.delayed labels

-- the answer of a Provision of the name gave this data
abbrev pub GaveData : List ℕ → DataId → Option (List ℕ × List ℕ) → Request → Reply → Type 0
GaveData name id topology (requests.Provision asked provisioner bytes labels) (Provisioned given where_) = (asked ≡ name) × (given ≡ id) × (where_ ≡ topology)
GaveData name id topology request reply = ⊥

-- the seat was told by this entry that the back end gave this data under the name
abbrev pub TellsData : List ℕ → DataId → Option (List ℕ × List ℕ) → Entry → Type 0
TellsData name id topology e = (e.told ≡ true) × GaveData name id topology e.request e.reply

-- the row CreateVolume
pub record MayCreate (mine : List Entry) (new : VolumeData) : Type 0 where
  pub claim : ClaimData
  pub uid : Uid
  pub known : HasUid uid claim
  pub newest : IsNewest mine (claim_key claim.meta.namespace claim.meta.name) (Claim claim)
  pub class : ClassData
  pub class_newest : IsNewest mine (class_key (class_of_claim claim)) (Class class)
  pub id : DataId
  pub topology : Option (List ℕ × List ℕ)
  pub given : After (ToldClaim (HasUid uid)) (TellsData (data_name uid) id topology) mine
  pub object : new ≡ provisioned_volume claim uid class id topology

-- ended with policy Delete, for a claim, and not deleting
pub record IsToErase (volume : VolumeData) : Type 0 where
  pub ended : is_ended volume.phase ≡ true
  pub policy : is_delete volume.policy ≡ true
  pub referring : is_some (ref_uid volume.claim_ref) ≡ true
  pub staying : is_deleting volume.meta ≡ false

-- the row Erase
pub record MayErase (mine : List Entry) (id : DataId) : Type 0 where
  pub volume : VolumeData
  pub last : last_found id mine ≡ Some volume
  pub ended : IsToErase volume

-- this version of the volume, told so
abbrev pub IsThisVolume : VolumeData → VolumeData → Type 0
IsThisVolume o v = v ≡ o

-- an Erase of the data was answered with a fault of the back end
abbrev pub EraseFailed : DataId → Request → Reply → Type 0
EraseFailed id (requests.Erase asked) (Refused (BackFault planned)) = asked ≡ id
EraseFailed id request reply = ⊥

-- the seat was told by this entry that the Erase of the data failed
abbrev pub TellsEraseFailed : DataId → Entry → Type 0
TellsEraseFailed id e = (e.told ≡ true) × EraseFailed id e.request e.reply

-- the row Failed
pub record MayFail (mine : List Entry) (o : VolumeData) : Type 0 where
  pub ended : is_ended o.phase ≡ true
  pub failed : After (ToldVolume (IsThisVolume o)) (TellsEraseFailed (data_id_of o.source)) mine

-- an Erase of the data was answered: the data are gone
abbrev pub EraseDone : DataId → Request → Reply → Type 0
EraseDone id (requests.Erase asked) (Erased removed) = asked ≡ id
EraseDone id request reply = ⊥

-- the seat was told by this entry that the data are gone
abbrev pub TellsErased : DataId → Entry → Type 0
TellsErased id e = (e.told ≡ true) × EraseDone id e.request e.reply

-- the volume of this UID, told ended with policy Delete, over this data
pub record IsEndedOver (uid : Uid) (id : DataId) (volume : VolumeData) : Type 0 where
  pub same : volume.meta.uid ≡ Some uid
  pub ended : is_ended volume.phase ≡ true
  pub policy : is_delete volume.policy ≡ true
  pub over : data_id_of volume.source ≡ id

-- the row DeleteVolume
pub record MayDelete (mine : List Entry) (uid : Uid) : Type 0 where
  pub id : DataId
  pub erased : After (ToldVolume (IsEndedOver uid id)) (TellsErased id) mine

-- the answer of a Provision of the name was that no pool has the bytes
abbrev pub IsExhausted : List ℕ → Request → Reply → Type 0
IsExhausted name (requests.Provision asked provisioner bytes labels) (Refused (Exhausted free)) = asked ≡ name
IsExhausted name request reply = ⊥

-- the seat was told by this entry that no pool has the bytes for the name
abbrev pub TellsExhausted : List ℕ → Entry → Type 0
TellsExhausted name e = (e.told ≡ true) × IsExhausted name e.request e.reply

-- this version of the claim, told so
abbrev pub IsThisClaim : ClaimData → ClaimData → Type 0
IsThisClaim o c = c ≡ o

-- the claim cannot be provisioned on the node that was chosen for it
abbrev pub IsUnserved : List Entry → ClaimData → Uid → List ℕ → Type 0
IsUnserved mine o uid node = After (ToldClaim (IsThisClaim o)) (TellsExhausted (data_name uid)) mine ⊎ IsNewestAbsent mine (node_key node)

-- the row SelectedNode, as ops clears it
pub record MayClearNode (mine : List Entry) (o new : ClaimData) : Type 0 where
  pub undone : is_completed o ≡ false
  pub uid : Uid
  pub known : HasUid uid o
  pub node : List ℕ
  pub selected : value_at selected_node o.meta.annotations ≡ Some node
  pub why : IsUnserved mine o uid node
  pub change : new ≡ record o { meta = record o.meta { annotations = without_key selected_node o.meta.annotations } }
