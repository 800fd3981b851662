-- On a look-up whose objects have UIDs each machine that begins has a next call; and no call lists or watches a whole kind, so that none
-- counts as a read of the actor's own. A choice of this project.
use Rattle.std.specs.Prelude.{◌≡◌, true, List, Option, Some, None, is_some}
use Rattle.kube_objects.specs.declared.key.Key.{Key}
use Rattle.kube_objects.specs.declared.objects.Object.{Object}
use Rattle.kube_objects.specs.Keys.{meta_of, row_at}
use Rattle.call_types.specs.declared.request.Request.{Request}
use Rattle.call_types.specs.Kinds.{ReadsNoKind}
use Rattle.protect_sync.specs.declared.claims.ClaimGuardOp.{ClaimGuardOp}
use Rattle.protect_sync.specs.declared.volumes.VolumeGuardOp.{VolumeGuardOp}
use Rattle.protect_sync.specs.ClaimGuards.{claim_guard_call, claim_parks}
use Rattle.protect_sync.specs.Decisions.{claim_guard_begins, volume_guard_begins}
use Rattle.protect_sync.specs.VolumeGuards.{volume_guard_call, volume_parks}

-- each object has its UID
abbrev pub AreKnown : List Object → Type 0
AreKnown rows = (key : Key) (o : Object) → row_at key rows ≡ Some o → is_some (meta_of o).uid ≡ true

-- what the claim protection controller begins has a call
abbrev pub BegunClaimsHaveCalls : Type 0
BegunClaimsHaveCalls = (rows : List Object) (key : Key) (op : ClaimGuardOp) → AreKnown rows → claim_guard_begins rows (row_at key rows) ≡ Some op → is_some (claim_guard_call op) ≡ true

-- what the volume protection controller begins has a call
abbrev pub BegunVolumesHaveCalls : Type 0
BegunVolumesHaveCalls = (row : Option Object) (op : VolumeGuardOp) → volume_guard_begins row ≡ Some op → is_some (volume_guard_call op) ≡ true

-- the claim protection controller's calls are no watches, and its lists are of one namespace
abbrev pub ClaimCallsReadNoKind : Type 0
ClaimCallsReadNoKind = (op : ClaimGuardOp) (request : Request) → claim_guard_call op ≡ Some request → ReadsNoKind request

-- the volume protection controller's calls are no lists and no watches
abbrev pub VolumeCallsReadNoKind : Type 0
VolumeCallsReadNoKind = (op : VolumeGuardOp) (request : Request) → volume_guard_call op ≡ Some request → ReadsNoKind request

-- a machine whose key is parked has ended

-- what was parked for a claim has no call
abbrev pub ParkedClaimsHaveEnded : Type 0
ParkedClaimsHaveEnded = (op : ClaimGuardOp) → claim_parks op.step ≡ true → claim_guard_call op ≡ None

-- what was parked for a volume has no call
abbrev pub ParkedVolumesHaveEnded : Type 0
ParkedVolumesHaveEnded = (op : VolumeGuardOp) → volume_parks op.step ≡ true → volume_guard_call op ≡ None
