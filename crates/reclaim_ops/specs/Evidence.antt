-- The evidence that each machine keeps, in the entries of its seat, the newest first: what the row of its next call asks of what was told.
-- A choice of this project.
use Rattle.std.specs.Prelude.{ℕ, ◌≡◌, true, false, List, Option, Some, None, ⊤}
use Rattle.plain_data.specs.Pairs.{Pair, value_at}
use Rattle.kube_parts.specs.declared.uid.Uid.{Uid}
use Rattle.kube_parts.specs.declared.parts.Kind.{Kind}
use Rattle.kube_parts.specs.declared.parts.Kind.TheVariants as kinds
use Rattle.kube_objects.specs.declared.objects.DataId.{DataId}
use Rattle.kube_objects.specs.declared.objects.Class.{Class as ClassData}
use Rattle.kube_objects.specs.declared.objects.Claim.{Claim as ClaimData}
use Rattle.kube_objects.specs.declared.objects.Volume.{Volume as VolumeData}
use Rattle.kube_objects.specs.declared.objects.Object.TheVariants.{Class, Volume, Claim}
use Rattle.kube_objects.specs.Keys.{same_kind}
use Rattle.kube_objects.specs.Sources.{data_id_of}
use Rattle.kube_objects.specs.Bindings.{selected_node, class_of_claim, is_completed}
use Rattle.call_types.specs.declared.entry.Entry.{Entry}
use Rattle.call_types.specs.declared.request.Request.{Request}
use Rattle.call_types.specs.declared.request.Request.TheVariants as requests
use Rattle.call_types.specs.declared.reply.Reply.{Reply}
use Rattle.call_types.specs.declared.reply.Reply.TheVariants.{Listed}
use Rattle.binder_model.specs.At.{HasUid}
use Rattle.binder_model.specs.ObjectKeys.{class_key, claim_key}
use Rattle.binder_model.specs.OpsLicence.{AreLabels, IsToErase, IsUnserved, TellsData, TellsErased, TellsEraseFailed}
use Rattle.binder_model.specs.Provisioning.{data_name, is_wanting, provisions}
use Rattle.binder_model.specs.Told.{After, IsNewest, SomeOf, ToldClaim, ToldVolume, last_found}
use Rattle.reclaim_ops.specs.declared.provision.ProvisionOp.{ProvisionOp}
use Rattle.reclaim_ops.specs.declared.provision.ProvisionStep.{ProvisionStep}
use Rattle.reclaim_ops.specs.declared.provision.ProvisionStep.TheVariants as provision_steps
use Rattle.reclaim_ops.specs.declared.erase.EraseOp.{EraseOp}
use Rattle.reclaim_ops.specs.declared.erase.EraseStep.{EraseStep}
use Rattle.reclaim_ops.specs.declared.erase.EraseStep.TheVariants as erase_steps
use Rattle.reclaim_ops.specs.Erasures.{key_of_volume}

-- provisioning

-- the claim is the newest told and has the UID, and the class is the newest told of its class
pub record IsCurrent (c : ClaimData) (uid : Uid) (x : ClassData) (mine : List Entry) : Type 0 where
  pub known : HasUid uid c
  pub newest : IsNewest mine (claim_key c.meta.namespace c.meta.name) (Claim c)
  pub class_newest : IsNewest mine (class_key (class_of_claim c)) (Class x)

-- the claim wants a volume, the class provisions, and the labels are those of the newest told node that was chosen
pub record MayAsk (c : ClaimData) (uid : Uid) (x : ClassData) (labels : Option (List Pair)) (mine : List Entry) : Type 0 where
  pub current : IsCurrent c uid x mine
  pub wanting : is_wanting c ≡ true
  pub real : provisions x ≡ true
  pub placed : AreLabels mine c x.delayed labels

-- after the claim was told, these data were given for it
pub record MayCreateOver (c : ClaimData) (uid : Uid) (x : ClassData) (id : DataId) (topology : Option (List ℕ × List ℕ)) (mine : List Entry) : Type 0 where
  pub current : IsCurrent c uid x mine
  pub given : After (ToldClaim (HasUid uid)) (TellsData (data_name uid) id topology) mine

-- this claim was told, as it is, and the node that was chosen for it cannot serve it or is absent
pub record MayClear (c : ClaimData) (uid : Uid) (mine : List Entry) : Type 0 where
  pub known : HasUid uid c
  pub told : ToldClaim (λ o. o ≡ c) mine
  pub undone : is_completed c ≡ false
  pub node : List ℕ
  pub selected : value_at selected_node c.meta.annotations ≡ Some node
  pub why : IsUnserved mine c uid node

-- the entries allow the call at a step of a provision
abbrev pub ProvisionStepKeeps : ProvisionStep → ClaimData → Uid → ClassData → List Entry → Type 0
ProvisionStepKeeps (provision_steps.Provisions labels) c uid x mine = MayAsk c uid x labels mine
ProvisionStepKeeps (provision_steps.Creates id topology) c uid x mine = MayCreateOver c uid x id topology mine
ProvisionStepKeeps provision_steps.ClearsNode c uid x mine = MayClear c uid mine
ProvisionStepKeeps step c uid x mine = ⊤

-- the entries allow the next call of a provision
abbrev pub ProvisionKeeps : ProvisionOp → List Entry → Type 0
ProvisionKeeps op mine = ProvisionStepKeeps op.step op.claim op.uid op.class mine

-- what the decision on a claim stands on beside the caches: all nodes were listed. So a node that the look-up lacks was told absent

-- the answer is a list of the whole kind
abbrev pub IsListOf : Kind → Request → Reply → Type 0
IsListOf kind (requests.List k None) (Listed items version) = same_kind k kind ≡ true
IsListOf kind request reply = ⊥

-- the whole kind was listed
abbrev pub WasListed : Kind → List Entry → Type 0
WasListed kind mine = SomeOf (λ e. (e.told ≡ true) × IsListOf kind e.request e.reply) mine

-- what must have been told before a claim is decided
pub record MayDecide (mine : List Entry) : Type 0 where
  pub nodes : WasListed kinds.Node mine

-- reclaiming

-- the volume is the newest told, and is to be reclaimed
pub record MayReclaim (v : VolumeData) (mine : List Entry) : Type 0 where
  pub newest : IsNewest mine (key_of_volume v) (Volume v)
  pub ended : IsToErase v

-- the volume was told, as it is, by the last Get that found its data, and is to be reclaimed
pub record MayEraseData (v : VolumeData) (uid : Uid) (mine : List Entry) : Type 0 where
  pub known : v.meta.uid ≡ Some uid
  pub told : ToldVolume (λ o. o ≡ v) mine
  pub last : last_found (data_id_of v.source) mine ≡ Some v
  pub ended : IsToErase v

-- after the volume was told so its data were erased
pub record MayDeleteErased (v : VolumeData) (uid : Uid) (mine : List Entry) : Type 0 where
  pub known : v.meta.uid ≡ Some uid
  pub ended : IsToErase v
  pub erased : After (ToldVolume (λ o. o ≡ v)) (TellsErased (data_id_of v.source)) mine

-- after the volume was told so its data could not be erased
pub record MayWriteFailed (v : VolumeData) (mine : List Entry) : Type 0 where
  pub told : ToldVolume (λ o. o ≡ v) mine
  pub ended : IsToErase v
  pub failed : After (ToldVolume (λ o. o ≡ v)) (TellsEraseFailed (data_id_of v.source)) mine

-- the entries allow the call at a step of an erasure
abbrev pub EraseStepKeeps : EraseStep → VolumeData → List Entry → Type 0
EraseStepKeeps erase_steps.ReadsVolume v mine = MayReclaim v mine
EraseStepKeeps (erase_steps.Erases uid) v mine = MayEraseData v uid mine
EraseStepKeeps (erase_steps.Deletes uid) v mine = MayDeleteErased v uid mine
EraseStepKeeps erase_steps.WritesFailed v mine = MayWriteFailed v mine
EraseStepKeeps step v mine = ⊤

-- the entries allow the next call of an erasure
abbrev pub EraseKeeps : EraseOp → List Entry → Type 0
EraseKeeps op mine = EraseStepKeeps op.step op.volume mine
