-- What the licence allows a controller a text can give, where a text can give what its seat was told.
use Rattle.std.proofs.Common.{subst, sym, inl, inr, true≢false, arith}
use Rattle.std.specs.Prelude.{◌≡◌, ℕ, Bool, true, false, List, [], ◌∷◌, ◌++◌, Option, Some, None, IfSome, All}
use Rattle.std.proofs.lemmas.List.Elements.{All-nil, All-cons, All-head, All-tail, All-append}
use Rattle.plain_data.specs.Pairs.{Pair, ArePairs}
use Rattle.quantity_text.proofs.Accepted.{amounts_are_of_the_grammar}
use Rattle.kube_parts.specs.declared.uid.Uid.{Uid}
use Rattle.kube_objects.specs.declared.key.Key.{Key}
use Rattle.kube_parts.specs.declared.parts.ClaimPhase.{ClaimPhase}
use Rattle.kube_parts.specs.declared.parts.ClaimPhase.TheVariants as claims
use Rattle.kube_parts.specs.declared.parts.Modes.{Modes}
use Rattle.kube_objects.specs.declared.objects.Meta.{Meta}
use Rattle.kube_objects.specs.declared.objects.Amount.{Amount}
use Rattle.kube_objects.specs.declared.objects.Volume.{Volume as VolumeData}
use Rattle.kube_objects.specs.declared.objects.Claim.{Claim as ClaimData}
use Rattle.kube_objects.specs.declared.objects.Object.TheVariants.{Node, Volume, Claim, Pod}
use Rattle.kube_objects.specs.Bindings.{selected_node, ref_uid, is_completed, is_protected_volume, is_protected_claim}
use Rattle.call_types.specs.declared.entry.Entry.{Entry}
use Rattle.call_types.specs.declared.request.NewStatus.TheVariants as statuses
use Rattle.call_types.specs.declared.request.SeatKind.{SeatKind}
use Rattle.call_types.specs.declared.request.SeatKind.TheVariants as seats
use Rattle.call_types.specs.declared.request.Request.{Request}
use Rattle.call_types.specs.declared.request.Request.TheVariants as requests
use Rattle.binder_model.specs.ObjectKeys.{node_key, claim_key}
use Rattle.binder_model.specs.Told.{ToldPod}
use Rattle.binder_model.specs.At.{IsWrittenAt}
use Rattle.binder_model.specs.BinderLicence.{IsTaken, MayTake, IsBoundFor, MayComplete, MayAssignClass, IsShown}
use Rattle.binder_model.specs.OpsLicence.{AreLabels, MayProvision, MayCreate, IsEndedOver, TellsErased, MayClearNode}
use Rattle.binder_model.specs.SchedulerLicence.{MaySelectNode, MayAssign}
use Rattle.binder_model.specs.AgentLicence.{IsReadReady, AreReadReady, IsReadyPod, WasShownReady, since_epoch, IsEndingPod}
use Rattle.binder_model.specs.Reading.{MayRead}
use Rattle.binder_model.specs.Licence.{
  AtVolume,
  AtClaim,
  AtVolumeKey,
  AtClaimKey,
  ClaimMay,
  ClaimPhaseMay,
  MayDeleteVolume,
  RowAllows,
  VolumeMay,
  binder_claim,
  binder_claim_phase,
  binder_volume,
  claim_guard,
  volume_guard,
}
use Rattle.object_laws.specs.Given.{IsUid, IsMeta, IsAmount, IsVolume, IsClaim}
use Rattle.history_laws.specs.Read.Given.{IsNumber, IsRequest, IsEntry}
use Rattle.history_laws.specs.Runs.Laws.{LicensedAskGiven}
use Rattle.history_laws.proofs.Runs.Lists.{some_value}
use Rattle.history_laws.proofs.Runs.Objects.{pairs_put, pairs_without, meta_annotations, meta_finalizers, volume_meta, claim_meta, claim_classed}
use Rattle.history_laws.proofs.Runs.Writes.{taken_given, completed_given, unbound_given, provisioned_given}
use Rattle.history_laws.proofs.Runs.Told.{told_volume, told_claim, told_pod, tells_pod, volume_before, newest_given, watched_from, epoch_given, since_all, get_given}

-- ---- numbers

amount_small : (a : Amount) → IsAmount a → IsNumber a.bytes
amount_small a is = let size = ((amounts_are_of_the_grammar a.text a.bytes).0 is).4.size in omega (arith, size)

at_version : (b : Bool) (given : Option ℕ) (namespace name : List ℕ) (o : Meta) → IsMeta b o → IsWrittenAt given namespace name o → IfSome given IsNumber
at_version b given namespace name o h at = let few = h.version in let small : IsNumber o.version = omega (arith, few) in subst (λ (g : Option ℕ). IfSome g IsNumber) (sym at.version) small

-- ---- reads

reads_given : (seat : SeatKind) (mine : List Entry) (request : Request) → All IsEntry mine → MayRead seat mine request → IsRequest request
reads_given seat mine (requests.List kind namespace) all h = tt
reads_given seat mine (requests.Get key) all h = tt
reads_given seat mine (requests.Watch kind from) all h = watched_from mine kind from all h.1
reads_given seat mine request all h = absurd h

-- ---- writes at a told object

at_volume : (mine : List Entry) (new : VolumeData) (given : Option ℕ) (Row : VolumeData → Type 0) → All IsEntry mine
    → ((o : VolumeData) → IsVolume o → Row o → IsVolume new) → AtVolume mine new given Row → IsVolume new × IfSome given IsNumber
at_volume mine new given Row all f h =
    let r = told_volume (λ o. IsWrittenAt given new.meta.namespace new.meta.name o.meta × Row o) mine all h in
    (f r.0 r.1.1 r.1.0.1, at_version false given _ _ r.0.meta r.1.1.meta r.1.0.0)

at_claim : (mine : List Entry) (new : ClaimData) (given : Option ℕ) (Row : ClaimData → Type 0) → All IsEntry mine
    → ((o : ClaimData) → IsClaim o → Row o → IsClaim new) → AtClaim mine new given Row → IsClaim new × IfSome given IsNumber
at_claim mine new given Row all f h =
    let r = told_claim (λ o. IsWrittenAt given new.meta.namespace new.meta.name o.meta × Row o) mine all h in
    (f r.0 r.1.1 r.1.0.1, at_version true given _ _ r.0.meta r.1.1.meta r.1.0.0)

at_volume_key : (mine : List Entry) (key : Key) (given : Option ℕ) (Row : VolumeData → Type 0) → All IsEntry mine → AtVolumeKey mine key given Row → IfSome given IsNumber
at_volume_key mine key given Row all h =
    let r = told_volume (λ o. IsWrittenAt given key.namespace key.name o.meta × Row o) mine all h.1 in
    at_version false given _ _ r.0.meta r.1.1.meta r.1.0.0

at_claim_key : (mine : List Entry) (key : Key) (given : Option ℕ) (amount : Option Amount) (Row : ClaimData → Type 0) → All IsEntry mine
    → ((o : ClaimData) → IsClaim o → Row o → IfSome amount IsAmount) → AtClaimKey mine key given Row → IfSome amount IsAmount × IfSome given IsNumber
at_claim_key mine key given amount Row all f h =
    let r = told_claim (λ o. IsWrittenAt given key.namespace key.name o.meta × Row o) mine all h.1 in
    (f r.0 r.1.1 r.1.0.1, at_version true given _ _ r.0.meta r.1.1.meta r.1.0.0)

-- ---- the rows of the binder

takes : (mine : List Entry) (o new : VolumeData) → All IsEntry mine → IsVolume o → MayTake mine o new → IsVolume new
takes mine o new all h row =
    let r = told_claim (IsTaken o new) mine all row.told in
    subst IsVolume (sym r.1.0.change) (taken_given o r.0 h r.1.1)

binds : (uid : Option Uid) (mine : List Entry) (new o : VolumeData) → All IsEntry mine → IsVolume o → VolumeMay (binder_volume uid) mine new o → IsVolume new
binds None mine new o all h row = subst IsVolume (sym row.change) (unbound_given o h)
binds (Some uid) mine new o all h row = takes mine o new all h row

completes : (mine : List Entry) (o new : ClaimData) → All IsEntry mine → IsClaim o → MayComplete mine o new → IsClaim new
completes mine o new all h row =
    let r = told_volume (IsBoundFor o new) mine all row in
    subst IsClaim (sym r.1.0.change) (completed_given o r.0 h)

assigns_class : (mine : List Entry) (o new : ClaimData) → IsClaim o → MayAssignClass mine o new → IsClaim new
assigns_class mine o new h row = subst IsClaim (sym row.change) (claim_classed o row.class.meta.name h)

writes_claim : (done : Bool) (mine : List Entry) (new o : ClaimData) → All IsEntry mine → IsClaim o → ClaimMay (binder_claim done) mine new o → IsClaim new
writes_claim true mine new o all h row = completes mine o new all h row
writes_claim false mine new o all h row = assigns_class mine o new h row

shows : (phase : ClaimPhase) (mine : List Entry) (modes : Modes) (amount : Option Amount) (o : ClaimData) → All IsEntry mine → IsClaim o
    → ClaimPhaseMay (binder_claim_phase phase) mine modes amount o → IfSome amount IsAmount
shows claims.Bound mine modes amount o all h row =
    let r = told_volume (IsShown o modes amount) mine all row.told in
    subst (λ (a : Option Amount). IfSome a IsAmount) (sym r.1.0.same_amount) r.1.1.amount
shows claims.Lost mine modes amount o all h row = subst (λ (a : Option Amount). IfSome a IsAmount) (sym row.same_amount) h.got
shows claims.Pending mine modes amount o all h row = absurd row

binder_asks : (mine : List Entry) (request : Request) → All IsEntry mine → RowAllows seats.Binder mine request → IsRequest request
binder_asks mine (requests.Update (Volume new) given) all h = at_volume mine new given _ all (λ o is row. binds (ref_uid new.claim_ref) mine new o all is row) h
binder_asks mine (requests.Update (Claim new) given) all h = at_claim mine new given _ all (λ o is row. writes_claim (is_completed new) mine new o all is row) h
binder_asks mine (requests.UpdateStatus key (statuses.Volume phase) given) all h = (tt, at_volume_key mine key given _ all h)
binder_asks mine (requests.UpdateStatus key (statuses.Claim phase modes amount) given) all h = at_claim_key mine key given amount _ all (λ o is row. shows phase mine modes amount o all is row) h
binder_asks mine request all h = reads_given seats.Binder mine request all h

-- ---- the rows of ops

labels_given : (mine : List Entry) (c : ClaimData) (delayed : Bool) (labels : Option (List Pair)) → All IsEntry mine → AreLabels mine c delayed labels → IfSome labels ArePairs
labels_given mine c false labels all h = subst (λ (l : Option (List Pair)). IfSome l ArePairs) (sym h) tt
labels_given mine c true labels all h =
    let node = newest_given mine (node_key h.0) (Node h.2.0) all h.2.1.0 in
    subst (λ (l : Option (List Pair)). IfSome l ArePairs) (sym h.2.1.1) node.meta.labels

provisions : (mine : List Entry) (name provisioner : List ℕ) (bytes : ℕ) (labels : Option (List Pair)) → All IsEntry mine
    → MayProvision mine name provisioner bytes labels → IsNumber bytes × IfSome labels ArePairs
provisions mine name provisioner bytes labels all row =
    let claim = newest_given mine (claim_key row.claim.meta.namespace row.claim.meta.name) (Claim row.claim) all row.newest in
    (subst IsNumber (sym row.sized) (amount_small row.claim.amount claim.amount), labels_given mine row.claim row.class.delayed labels all row.placed)

creates : (mine : List Entry) (new : VolumeData) → All IsEntry mine → MayCreate mine new → IsVolume new
creates mine new all row =
    let claim = newest_given mine (claim_key row.claim.meta.namespace row.claim.meta.name) (Claim row.claim) all row.newest in
    subst IsVolume (sym row.object) (provisioned_given row.claim row.uid row.class row.id row.topology claim)

uid_told : (uid : Uid) (b : Bool) (m : Meta) → IsMeta b m → m.uid ≡ Some uid → IsUid uid
uid_told uid b m h e = some_value IsUid m.uid uid e h.uid

deletes : (mine : List Entry) (key : Key) (given : Option Uid) → All IsEntry mine → MayDeleteVolume mine key given → IfSome given IsUid
deletes mine key None all row = absurd row
deletes mine key (Some uid) all row =
    let r = volume_before (IsEndedOver uid row.1.id) (TellsErased row.1.id) mine all row.1.erased in
    uid_told uid false r.0.meta r.1.1.meta r.1.0.same

clears : (mine : List Entry) (o new : ClaimData) → IsClaim o → MayClearNode mine o new → IsClaim new
clears mine o new h row = subst IsClaim (sym row.change) (claim_meta o _ h (meta_annotations true o.meta _ h.meta (pairs_without selected_node _ h.meta.annotations)))

ops_asks : (mine : List Entry) (request : Request) → All IsEntry mine → RowAllows seats.Ops mine request → IsRequest request
ops_asks mine (requests.Provision name provisioner bytes labels) all h = provisions mine name provisioner bytes labels all h
ops_asks mine (requests.Create (Volume new)) all h = creates mine new all h
ops_asks mine (requests.Erase id) all h = tt
ops_asks mine (requests.UpdateStatus key (statuses.Volume phase) given) all h = (tt, at_volume_key mine key given _ all h)
ops_asks mine (requests.Delete key given) all h = deletes mine key given all h
ops_asks mine (requests.Update (Claim new) given) all h = at_claim mine new given _ all (λ o is row. clears mine o new is row) h
ops_asks mine request all h = reads_given seats.Ops mine request all h

-- ---- the rows of the scheduler

selects : (mine : List Entry) (o new : ClaimData) → IsClaim o → MaySelectNode mine o new → IsClaim new
selects mine o new h row = subst IsClaim (sym row.change) (claim_meta o _ h (meta_annotations true o.meta _ h.meta (pairs_put selected_node row.node.meta.name _ h.meta.annotations)))

assigns : (mine : List Entry) (key : Key) (uid : Uid) (node : List ℕ) → All IsEntry mine → MayAssign mine key uid node → IsUid uid
assigns mine key uid node all row =
    let pod = newest_given mine key (Pod row.pod) all row.newest in
    uid_told uid true row.pod.meta pod.meta row.same

scheduler_asks : (mine : List Entry) (request : Request) → All IsEntry mine → RowAllows seats.Scheduler mine request → IsRequest request
scheduler_asks mine (requests.Update (Volume new) given) all h = at_volume mine new given _ all (λ o is row. takes mine o new all is row) h
scheduler_asks mine (requests.Update (Claim new) given) all h = at_claim mine new given _ all (λ o is row. selects mine o new is row) h
scheduler_asks mine (requests.BindPod key uid node) all h = assigns mine key uid node all h
scheduler_asks mine request all h = reads_given seats.Scheduler mine request all h

-- ---- the rows of the protection controllers

guards_volume : (t : Bool) (mine : List Entry) (o new : VolumeData) → IsVolume o → VolumeMay (volume_guard t) mine new o → IsVolume new
guards_volume true mine o new h row = subst IsVolume (sym row.rest) (volume_meta o new.meta h (subst (IsMeta false) (sym row.guard.change) (meta_finalizers false o.meta _ h.meta)))
guards_volume false mine o new h row = subst IsVolume (sym row.change) (volume_meta o _ h (meta_finalizers false o.meta _ h.meta))

guards_claim : (t : Bool) (mine : List Entry) (o new : ClaimData) → IsClaim o → ClaimMay (claim_guard t) mine new o → IsClaim new
guards_claim true mine o new h row = subst IsClaim (sym row.rest) (claim_meta o new.meta h (subst (IsMeta true) (sym row.guard.change) (meta_finalizers true o.meta _ h.meta)))
guards_claim false mine o new h row = subst IsClaim (sym row.change) (claim_meta o _ h (meta_finalizers true o.meta _ h.meta))

volumes_ask : (mine : List Entry) (request : Request) → All IsEntry mine → RowAllows seats.VolumeProtect mine request → IsRequest request
volumes_ask mine (requests.Update (Volume new) given) all h = at_volume mine new given _ all (λ o is row. guards_volume (is_protected_volume new) mine o new is row) h
volumes_ask mine request all h = reads_given seats.VolumeProtect mine request all h

claims_ask : (mine : List Entry) (request : Request) → All IsEntry mine → RowAllows seats.ClaimProtect mine request → IsRequest request
claims_ask mine (requests.Update (Claim new) given) all h = at_claim mine new given _ all (λ o is row. guards_claim (is_protected_claim new) mine o new is row) h
claims_ask mine request all h = reads_given seats.ClaimProtect mine request all h

-- ---- the rows of the agents

ready_uid : (recent : List Entry) (namespace name : List ℕ) (uid : Uid) → All IsEntry recent → IsReadReady recent namespace name uid → IsUid uid
ready_uid recent namespace name uid all row =
    let claim = get_given (claim_key namespace name) (Claim row.claim) recent all row.read in
    uid_told uid true row.claim.meta claim.meta row.same

ready_uids : (recent : List Entry) (namespace : List ℕ) (names : List (List ℕ)) (uids : List Uid) → All IsEntry recent → AreReadReady recent namespace names uids → All IsUid uids
ready_uids recent namespace [] [] all h = All-nil IsUid
ready_uids recent namespace [] (uid ∷ uids) all h = absurd h
ready_uids recent namespace (name ∷ names) [] all h = absurd h
ready_uids recent namespace (name ∷ names) (uid ∷ uids) all h = All-cons IsUid uid uids (ready_uid recent namespace name uid all h.0) (ready_uids recent namespace names uids all h.1)

mounts : (mine : List Entry) (node : List ℕ) (pod : Uid) (uids : List Uid) (recent entries : List Entry) → All IsEntry recent → All IsEntry entries
    → WasShownReady mine node pod uids recent entries → IsUid pod × All IsUid uids
mounts mine node pod uids recent [] all are h = absurd h
mounts mine node pod uids recent (e ∷ before) all are h =
    let is = All-head IsEntry e before are in
    elim h [
      | inl here ↦ (
          let r = tells_pod (IsReadyPod mine recent node pod uids) e is here.1 in
          (uid_told pod true r.0.meta r.1.1.meta r.1.0.on_node.same, ready_uids recent r.0.meta.namespace r.0.claims uids all r.1.0.ready)
          )
      | inr more ↦ mounts mine node pod uids (recent ++ e ∷ []) before (All-append IsEntry recent (e ∷ []) all (All-cons IsEntry e [] is (All-nil IsEntry))) (All-tail IsEntry e before are) more
    ]

ending_uid : (mine : List Entry) (pod : Uid) (node : List ℕ) → All IsEntry mine → ToldPod (IsEndingPod pod node) mine → IsUid pod
ending_uid mine pod node all h =
    let r = told_pod (IsEndingPod pod node) mine all h in
    uid_told pod true r.0.meta r.1.1.meta r.1.0.same

agent_asks : (mine : List Entry) (request : Request) → All IsEntry mine → RowAllows seats.Agent mine request → IsRequest request
agent_asks mine (requests.TakeNode node) all h = tt
agent_asks mine (requests.Mounts node epoch) all h = epoch_given node epoch mine all h
agent_asks mine (requests.Mount node epoch pod uids) all h =
    let told = mounts mine node pod uids [] (since_epoch node mine) (All-nil IsEntry) (since_all node mine all) h.shown in
    (epoch_given node epoch mine all h.current, told.0, told.1)
agent_asks mine (requests.Unmount node epoch pod) all h = (epoch_given node epoch mine all h.current, ending_uid mine pod node all h.told)
agent_asks mine (requests.FinishPod key uid node epoch) all h = (ending_uid mine uid node all h.told, epoch_given node epoch mine all h.current)
agent_asks mine request all h = reads_given seats.Agent mine request all h

pub licensed_ask_given : LicensedAskGiven
licensed_ask_given seats.User mine request other all h = absurd (true≢false other)
licensed_ask_given seats.Binder mine request other all h = binder_asks mine request all h.1
licensed_ask_given seats.Ops mine request other all h = ops_asks mine request all h.1
licensed_ask_given seats.Scheduler mine request other all h = scheduler_asks mine request all h.1
licensed_ask_given seats.ClaimProtect mine request other all h = claims_ask mine request all h.1
licensed_ask_given seats.VolumeProtect mine request other all h = volumes_ask mine request all h.1
licensed_ask_given seats.Agent mine request other all h = agent_asks mine request all h.1
