-- What an actor may rely on: each machine that begins has a next call; no call lists or watches, so that none counts as a read of the
-- actor's own; a machine whose key is parked has ended; and how what a decision stands on comes about and stays.
-- A choice of this project.
use Rattle.std.specs.Prelude.{◌≡◌, Bool, true, false, List, ◌∷◌, Option, Some, None, is_some}
use Rattle.kube_objects.specs.declared.objects.Object.{Object}
use Rattle.call_types.specs.declared.entry.Entry.{Entry}
use Rattle.call_types.specs.declared.request.Request.{Request}
use Rattle.call_types.specs.declared.request.Request.TheVariants as requests
use Rattle.informer_cache.specs.All.{AllKnown, AllStandFor}
use Rattle.reclaim_ops.specs.declared.provision.ProvisionOp.{ProvisionOp}
use Rattle.reclaim_ops.specs.declared.erase.EraseOp.{EraseOp}
use Rattle.reclaim_ops.specs.Decisions.{claim_begins, volume_begins}
use Rattle.reclaim_ops.specs.Erasures.{erase_call, erase_parks}
use Rattle.reclaim_ops.specs.Evidence.{MayDecide}
use Rattle.reclaim_ops.specs.Provisions.{provision_call, provision_parks}

-- what the provisioner begins has a call
abbrev pub BegunProvisionsHaveCalls : Type 0
BegunProvisionsHaveCalls = (rows : List Object) (row : Option Object) (op : ProvisionOp) → claim_begins rows row ≡ Some op → is_some (provision_call op) ≡ true

-- what the reclaimer begins has a call
abbrev pub BegunErasuresHaveCalls : Type 0
BegunErasuresHaveCalls = (row : Option Object) (op : EraseOp) → volume_begins row ≡ Some op → is_some (erase_call op) ≡ true

-- the request lists or watches objects
abbrev pub lists_or_watches : Request → Bool
lists_or_watches (requests.List kind namespace) = true
lists_or_watches (requests.Watch kind from) = true
lists_or_watches request = false

-- the provisioner's calls are no lists and no watches
abbrev pub ProvisionCallsReadNoKind : Type 0
ProvisionCallsReadNoKind = (op : ProvisionOp) (request : Request) → provision_call op ≡ Some request → lists_or_watches request ≡ false

-- the reclaimer's calls are no lists and no watches
abbrev pub EraseCallsReadNoKind : Type 0
EraseCallsReadNoKind = (op : EraseOp) (request : Request) → erase_call op ≡ Some request → lists_or_watches request ≡ false

-- a parked provision has no call
abbrev pub ParkedProvisionsHaveEnded : Type 0
ParkedProvisionsHaveEnded = (op : ProvisionOp) → provision_parks op.step ≡ true → provision_call op ≡ None

-- a parked erasure has no call
abbrev pub ParkedErasuresHaveEnded : Type 0
ParkedErasuresHaveEnded = (op : EraseOp) → erase_parks op.step ≡ true → erase_call op ≡ None

-- caches that stand for what was told and have the nodes listed
abbrev pub ListedMayDecide : Type 0
ListedMayDecide = (caches : AllKnown) (mine : List Entry) → AllStandFor caches mine → is_some caches.nodes.from ≡ true → MayDecide mine

-- what was listed once was listed
abbrev pub DecidesStill : Type 0
DecidesStill = (mine : List Entry) (e : Entry) → MayDecide mine → MayDecide (e ∷ mine)
