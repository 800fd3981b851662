-- Which row judges a controller's request (`row_of`), what the row asks of what the seat was told (`allows`), and which
-- rule refuses it else (`rule_of`). Kind comes first.
-- A choice of this project.
use Rattle.std.specs.Prelude.{ℕ, ◌≡◌, Bool, true, false, List, [], ◌∷◌, Option, Some, None, ⊤, if◌then◌else◌}
use Rattle.plain_data.specs.Pairs.{Pair}
use Rattle.kube_parts.specs.declared.uid.Uid.{Uid}
use Rattle.kube_objects.specs.declared.key.Key.{Key}
use Rattle.kube_parts.specs.declared.names.LicenceRule.{LicenceRule}
use Rattle.kube_parts.specs.declared.names.LicenceRule.TheVariants as rules
use Rattle.kube_parts.specs.declared.parts.Kind.{Kind}
use Rattle.kube_parts.specs.declared.parts.Kind.TheVariants as kinds
use Rattle.kube_parts.specs.declared.parts.VolumePhase.{VolumePhase}
use Rattle.kube_parts.specs.declared.parts.VolumePhase.TheVariants as volumes
use Rattle.kube_parts.specs.declared.parts.ClaimPhase.{ClaimPhase}
use Rattle.kube_parts.specs.declared.parts.ClaimPhase.TheVariants as claims
use Rattle.kube_parts.specs.declared.parts.Modes.{Modes}
use Rattle.kube_objects.specs.declared.objects.Amount.{Amount}
use Rattle.kube_objects.specs.declared.objects.DataId.{DataId}
use Rattle.kube_objects.specs.declared.objects.Claim.{Claim as ClaimData}
use Rattle.kube_objects.specs.declared.objects.Volume.{Volume as VolumeData}
use Rattle.kube_objects.specs.declared.objects.Object.TheVariants.{Volume, Claim}
use Rattle.kube_objects.specs.Keys.{same_kind}
use Rattle.kube_objects.specs.Bindings.{pv_protection, pvc_protection, ref_uid, is_completed, is_protected_volume, is_protected_claim}
use Rattle.call_types.specs.declared.entry.Entry.{Entry}
use Rattle.call_types.specs.declared.request.NewStatus.TheVariants as statuses
use Rattle.call_types.specs.declared.request.SeatKind.{SeatKind}
use Rattle.call_types.specs.declared.request.SeatKind.TheVariants as seats
use Rattle.call_types.specs.declared.request.Request.{Request}
use Rattle.call_types.specs.declared.request.Request.TheVariants as requests
use Rattle.binder_model.specs.Told.{ToldVolume, ToldClaim}
use Rattle.binder_model.specs.At.{IsWrittenAt}
use Rattle.binder_model.specs.BinderLicence.{MayTake, MayBind, MayComplete, MayAssignClass, MayShow, MayFree, MayRelease, MayUnbind, MayLose}
use Rattle.binder_model.specs.GuardLicence.{MayGuard, MayUnguardVolume, MayUnguardClaim}
use Rattle.binder_model.specs.OpsLicence.{MayProvision, MayCreate, MayErase, MayFail, MayDelete, MayClearNode}
use Rattle.binder_model.specs.SchedulerLicence.{MaySelectNode, MayAssign}
use Rattle.binder_model.specs.AgentLicence.{MayReadMounts, MayMount, MayUnmount, MayFinish}
use Rattle.binder_model.specs.Reading.{MayRead}

-- updates and statuses at a told object

-- a write of a whole volume: at a version of it that the seat was told, and of which the row holds
abbrev pub AtVolume : List Entry → VolumeData → Option ℕ → (VolumeData → Type 0) → Type 0
AtVolume mine new given Row = ToldVolume (λ o. IsWrittenAt given new.meta.namespace new.meta.name o.meta × Row o) mine

-- a write of a whole claim: at a version of it that the seat was told, and of which the row holds
abbrev pub AtClaim : List Entry → ClaimData → Option ℕ → (ClaimData → Type 0) → Type 0
AtClaim mine new given Row = ToldClaim (λ o. IsWrittenAt given new.meta.namespace new.meta.name o.meta × Row o) mine

-- a write of a volume's status, by its key: at a told version of which the row holds
abbrev pub AtVolumeKey : List Entry → Key → Option ℕ → (VolumeData → Type 0) → Type 0
AtVolumeKey mine key given Row = (key.kind ≡ kinds.PersistentVolume) × ToldVolume (λ o. IsWrittenAt given key.namespace key.name o.meta × Row o) mine

-- a write of a claim's status, by its key: at a told version of which the row holds
abbrev pub AtClaimKey : List Entry → Key → Option ℕ → (ClaimData → Type 0) → Type 0
AtClaimKey mine key given Row = (key.kind ≡ kinds.PersistentVolumeClaim) × ToldClaim (λ o. IsWrittenAt given key.namespace key.name o.meta × Row o) mine

-- the protection controllers: a new object with the finalizer is one that gets it

-- the volume gets its protection finalizer, and nothing else changes
pub record GuardsVolume (o new : VolumeData) : Type 0 where
  pub guard : MayGuard pv_protection o.meta new.meta
  pub rest : new ≡ record o { meta = new.meta }

-- the claim gets its protection finalizer, and nothing else changes
pub record GuardsClaim (o new : ClaimData) : Type 0 where
  pub guard : MayGuard pvc_protection o.meta new.meta
  pub rest : new ≡ record o { meta = new.meta }

-- what a write does, as far as the request itself says

-- an update of a volume
pub data VolumeChange : Type 0 where
  Takes : VolumeChange
  Unbinds : VolumeChange
  GuardsIt : VolumeChange
  UnguardsIt : VolumeChange

-- an update of a claim
pub data ClaimChange : Type 0 where
  Completes : ClaimChange
  AssignsClass : ClaimChange
  SelectsNode : ClaimChange
  ClearsNode : ClaimChange
  AddsGuard : ClaimChange
  DropsGuard : ClaimChange

-- a new phase of a volume
pub data PhaseChange : Type 0 where
  Frees : PhaseChange
  Binds : PhaseChange
  Releases : PhaseChange
  Fails : PhaseChange
  SetsAnother : PhaseChange

-- a new phase of a claim
pub data ClaimPhaseChange : Type 0 where
  Shows : ClaimPhaseChange
  Loses : ClaimPhaseChange
  SetsOther : ClaimPhaseChange

-- the rows: what is judged of a request, with the parts that the row speaks of
pub data Row : Type 0 where
  IsFree : Row
  WritesVolume : VolumeData → Option ℕ → VolumeChange → Row
  WritesClaim : ClaimData → Option ℕ → ClaimChange → Row
  WritesVolumePhase : Key → Option ℕ → PhaseChange → Row
  WritesClaimPhase : Key → Option ℕ → Modes → Option Amount → ClaimPhaseChange → Row
  Provisions : List ℕ → List ℕ → ℕ → Option (List Pair) → Row
  CreatesVolume : VolumeData → Row
  Erases : DataId → Row
  DeletesVolume : Key → Option Uid → Row
  AssignsPod : Key → Uid → List ℕ → Row
  ReadsMounts : List ℕ → ℕ → Row
  MountsPod : List ℕ → ℕ → Uid → List Uid → Row
  UnmountsPod : List ℕ → ℕ → Uid → Row
  FinishesPod : Key → Uid → List ℕ → ℕ → Row
  Reads : Request → Row

-- which row a request of each kind of seat has. What no other row speaks of is a read, or of no row at all

-- a new volume without a UID in its reference is an unbinding
abbrev pub binder_volume : Option Uid → VolumeChange
binder_volume None = Unbinds
binder_volume (Some uid) = Takes

-- a new claim that is completed is a completion
abbrev pub binder_claim : Bool → ClaimChange
binder_claim true = Completes
binder_claim false = AssignsClass

-- the phases of a volume that the binder sets; Pending and Failed are not its own
abbrev pub binder_phase : VolumePhase → PhaseChange
binder_phase volumes.Available = Frees
binder_phase volumes.Bound = Binds
binder_phase volumes.Released = Releases
binder_phase _ = SetsAnother

-- the phases of a claim that the binder sets: Bound and Lost
abbrev pub binder_claim_phase : ClaimPhase → ClaimPhaseChange
binder_claim_phase claims.Bound = Shows
binder_claim_phase claims.Lost = Loses
binder_claim_phase claims.Pending = SetsOther

-- the binder writes volumes, claims and their phases
abbrev pub binder_row : Request → Row
binder_row (requests.Update (Volume new) given) = WritesVolume new given (binder_volume (ref_uid new.claim_ref))
binder_row (requests.Update (Claim new) given) = WritesClaim new given (binder_claim (is_completed new))
binder_row (requests.UpdateStatus key (statuses.Volume phase) given) = WritesVolumePhase key given (binder_phase phase)
binder_row (requests.UpdateStatus key (statuses.Claim phase modes amount) given) = WritesClaimPhase key given modes amount (binder_claim_phase phase)
binder_row request = Reads request

-- the one phase that ops sets is Failed
abbrev pub ops_phase : VolumePhase → PhaseChange
ops_phase volumes.Failed = Fails
ops_phase _ = SetsAnother

-- ops provisions and erases data, creates, fails and deletes volumes, and clears the chosen node of a claim
abbrev pub ops_row : Request → Row
ops_row (requests.Provision name provisioner bytes labels) = Provisions name provisioner bytes labels
ops_row (requests.Create (Volume new)) = CreatesVolume new
ops_row (requests.Erase id) = Erases id
ops_row (requests.UpdateStatus key (statuses.Volume phase) given) = WritesVolumePhase key given (ops_phase phase)
ops_row (requests.Delete key given) = DeletesVolume key given
ops_row (requests.Update (Claim new) given) = WritesClaim new given ClearsNode
ops_row request = Reads request

-- the scheduler unbinds nothing
abbrev pub scheduler_row : Request → Row
scheduler_row (requests.Update (Volume new) given) = WritesVolume new given Takes
scheduler_row (requests.Update (Claim new) given) = WritesClaim new given SelectsNode
scheduler_row (requests.BindPod key uid node) = AssignsPod key uid node
scheduler_row request = Reads request

-- a new volume with the finalizer gets it, one without it loses it
abbrev pub volume_guard : Bool → VolumeChange
volume_guard true = GuardsIt
volume_guard false = UnguardsIt

-- volume protection writes the finalizer of volumes alone
abbrev pub volume_protect_row : Request → Row
volume_protect_row (requests.Update (Volume new) given) = WritesVolume new given (volume_guard (is_protected_volume new))
volume_protect_row request = Reads request

-- a new claim with the finalizer gets it, one without it loses it
abbrev pub claim_guard : Bool → ClaimChange
claim_guard true = AddsGuard
claim_guard false = DropsGuard

-- claim protection writes the finalizer of claims alone
abbrev pub claim_protect_row : Request → Row
claim_protect_row (requests.Update (Claim new) given) = WritesClaim new given (claim_guard (is_protected_claim new))
claim_protect_row request = Reads request

-- taking a node is free to agents
abbrev pub agent_row : Request → Row
agent_row (requests.TakeNode node) = IsFree
agent_row (requests.Mounts node epoch) = ReadsMounts node epoch
agent_row (requests.Mount node epoch pod claims) = MountsPod node epoch pod claims
agent_row (requests.Unmount node epoch pod) = UnmountsPod node epoch pod
agent_row (requests.FinishPod key uid node epoch) = FinishesPod key uid node epoch
agent_row request = Reads request

-- the row that judges the request of a seat of this kind
abbrev pub row_of : SeatKind → Request → Row
row_of seats.User request = IsFree
row_of seats.Binder request = binder_row request
row_of seats.Ops request = ops_row request
row_of seats.Scheduler request = scheduler_row request
row_of seats.ClaimProtect request = claim_protect_row request
row_of seats.VolumeProtect request = volume_protect_row request
row_of seats.Agent request = agent_row request

-- what each row asks of what the seat was told

-- the evidence for an update of a volume, by what it does
abbrev pub VolumeMay : VolumeChange → List Entry → VolumeData → VolumeData → Type 0
VolumeMay Takes mine new o = MayTake mine o new
VolumeMay Unbinds mine new o = MayUnbind mine o new
VolumeMay GuardsIt mine new o = GuardsVolume o new
VolumeMay UnguardsIt mine new o = MayUnguardVolume o new

-- the evidence for an update of a claim, by what it does
abbrev pub ClaimMay : ClaimChange → List Entry → ClaimData → ClaimData → Type 0
ClaimMay Completes mine new o = MayComplete mine o new
ClaimMay AssignsClass mine new o = MayAssignClass mine o new
ClaimMay SelectsNode mine new o = MaySelectNode mine o new
ClaimMay ClearsNode mine new o = MayClearNode mine o new
ClaimMay AddsGuard mine new o = GuardsClaim o new
ClaimMay DropsGuard mine new o = MayUnguardClaim mine o new

-- the evidence for a new phase of a volume; there is none for a phase that is not the seat's to set
abbrev pub PhaseMay : PhaseChange → List Entry → VolumeData → Type 0
PhaseMay Frees mine o = MayFree o
PhaseMay Binds mine o = MayBind mine o
PhaseMay Releases mine o = MayRelease mine o
PhaseMay Fails mine o = MayFail mine o
PhaseMay SetsAnother mine o = ⊥

-- the evidence for a new phase of a claim; there is none for Pending
abbrev pub ClaimPhaseMay : ClaimPhaseChange → List Entry → Modes → Option Amount → ClaimData → Type 0
ClaimPhaseMay Shows mine modes amount o = MayShow mine o modes amount
ClaimPhaseMay Loses mine modes amount o = MayLose mine o modes amount
ClaimPhaseMay SetsOther mine modes amount o = ⊥

-- a volume is deleted by its UID
abbrev pub MayDeleteVolume : List Entry → Key → Option Uid → Type 0
MayDeleteVolume mine key None = ⊥
MayDeleteVolume mine key (Some uid) = (key.kind ≡ kinds.PersistentVolume) × MayDelete mine uid

-- a seat of this kind with these earlier entries may make a request of the row
abbrev pub allows : SeatKind → List Entry → Row → Type 0
allows kind mine IsFree = ⊤
allows kind mine (WritesVolume new given change) = AtVolume mine new given (VolumeMay change mine new)
allows kind mine (WritesClaim new given change) = AtClaim mine new given (ClaimMay change mine new)
allows kind mine (WritesVolumePhase key given change) = AtVolumeKey mine key given (PhaseMay change mine)
allows kind mine (WritesClaimPhase key given modes amount change) = AtClaimKey mine key given (ClaimPhaseMay change mine modes amount)
allows kind mine (Provisions name provisioner bytes labels) = MayProvision mine name provisioner bytes labels
allows kind mine (CreatesVolume new) = MayCreate mine new
allows kind mine (Erases id) = MayErase mine id
allows kind mine (DeletesVolume key given) = MayDeleteVolume mine key given
allows kind mine (AssignsPod key uid node) = MayAssign mine key uid node
allows kind mine (ReadsMounts node epoch) = MayReadMounts mine node epoch
allows kind mine (MountsPod node epoch pod claims) = MayMount mine node epoch pod claims
allows kind mine (UnmountsPod node epoch pod) = MayUnmount mine node epoch pod
allows kind mine (FinishesPod key uid node epoch) = MayFinish mine key uid node epoch
allows kind mine (Reads request) = MayRead kind mine request

-- the row of the request allows it
abbrev pub RowAllows : SeatKind → List Entry → Request → Type 0
RowAllows kind mine request = allows kind mine (row_of kind request)

-- a seat keeps its kind
abbrev pub AreOfKind : SeatKind → List Entry → Type 0
AreOfKind kind [] = ⊤
AreOfKind kind (e ∷ mine) = (e.kind ≡ kind) × AreOfKind kind mine

-- a seat of this kind with these earlier entries may make the request; users are bound by the store's guard alone
abbrev pub Licensed : SeatKind → List Entry → Request → Type 0
Licensed seats.User mine request = ⊤
Licensed kind mine request = AreOfKind kind mine × RowAllows kind mine request

-- the name of each row. A phase, a delete or a pod's verb at a key of another kind is of no row: Kind

-- the key is one of this kind
abbrev pub is_kind : Kind → Key → Bool
is_kind kind key = same_kind key.kind kind

-- a read is of the row Reading, and what is none is of no row
abbrev pub read_rule : Request → LicenceRule
read_rule (requests.List kind namespace) = rules.Reading
read_rule (requests.Watch kind from) = rules.Reading
read_rule (requests.Get key) = rules.Reading
read_rule _ = rules.Kind

-- the rule of each update of a volume
abbrev pub volume_rule : VolumeChange → LicenceRule
volume_rule Takes = rules.ClaimRef
volume_rule Unbinds = rules.Unbind
volume_rule GuardsIt = rules.AddGuard
volume_rule UnguardsIt = rules.DropVolumeGuard

-- the rule of each update of a claim
abbrev pub claim_rule : ClaimChange → LicenceRule
claim_rule Completes = rules.Completion
claim_rule AssignsClass = rules.DefaultClass
claim_rule SelectsNode = rules.SelectedNode
claim_rule ClearsNode = rules.SelectedNode
claim_rule AddsGuard = rules.AddGuard
claim_rule DropsGuard = rules.DropClaimGuard

-- the rule of each new phase of a volume
abbrev pub phase_rule : PhaseChange → LicenceRule
phase_rule Frees = rules.Available
phase_rule Binds = rules.PhaseBound
phase_rule Releases = rules.Released
phase_rule Fails = rules.Failed
phase_rule SetsAnother = rules.Kind

-- the rule of each new phase of a claim
abbrev pub claim_phase_rule : ClaimPhaseChange → LicenceRule
claim_phase_rule Shows = rules.ClaimStatus
claim_phase_rule Loses = rules.Lost
claim_phase_rule SetsOther = rules.Kind

-- a delete without a UID is of no row
abbrev pub delete_rule : Key → Option Uid → LicenceRule
delete_rule key None = rules.Kind
delete_rule key (Some uid) = if is_kind kinds.PersistentVolume key then rules.DeleteVolume else rules.Kind

-- the rule by which a request of the row is refused. What is free is refused by none
abbrev pub rule_of : Row → LicenceRule
rule_of IsFree = rules.Kind
rule_of (WritesVolume new given change) = volume_rule change
rule_of (WritesClaim new given change) = claim_rule change
rule_of (WritesVolumePhase key given change) = if is_kind kinds.PersistentVolume key then phase_rule change else rules.Kind
rule_of (WritesClaimPhase key given modes amount change) = if is_kind kinds.PersistentVolumeClaim key then claim_phase_rule change else rules.Kind
rule_of (Provisions name provisioner bytes labels) = rules.Provision
rule_of (CreatesVolume new) = rules.CreateVolume
rule_of (Erases id) = rules.Erase
rule_of (DeletesVolume key given) = delete_rule key given
rule_of (AssignsPod key uid node) = if is_kind kinds.Pod key then rules.BindPod else rules.Kind
rule_of (ReadsMounts node epoch) = rules.Mount
rule_of (MountsPod node epoch pod claims) = rules.Mount
rule_of (UnmountsPod node epoch pod) = rules.FinishPod
rule_of (FinishesPod key uid node epoch) = if is_kind kinds.Pod key then rules.FinishPod else rules.Kind
rule_of (Reads request) = read_rule request

-- the rule of the request's row
abbrev pub row_rule : SeatKind → Request → LicenceRule
row_rule kind request = rule_of (row_of kind request)

-- the rule that refuses the request of a seat of this kind with these earlier entries: Kind where an entry has another
-- kind, else the rule of the request's row. Users are refused by no rule of the licence
pub record IsRefusedBy (kind : SeatKind) (mine : List Entry) (request : Request) (rule : LicenceRule) : Type 0 where
  pub refused : Licensed kind mine request → ⊥
  pub mixed : (AreOfKind kind mine → ⊥) → rule ≡ rules.Kind
  pub row : AreOfKind kind mine → rule ≡ row_rule kind request
