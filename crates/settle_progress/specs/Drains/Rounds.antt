-- Every round that begins with something due has an entry that lasts: by the actor that does it, or by another.
-- A choice of this project.
use Rattle.std.specs.Prelude.{ℕ, ◌≡◌, true, false, List, Some, slice_get, if◌then◌else◌}
use Rattle.kube_objects.specs.declared.key.Key.{Key}
use Rattle.kube_parts.specs.declared.names.Due.{Due}
use Rattle.kube_parts.specs.declared.names.Due.TheVariants as dues
use Rattle.kube_objects.specs.declared.objects.Claim.{Claim as ClaimData}
use Rattle.kube_objects.specs.declared.objects.Pod.{Pod as PodData}
use Rattle.kube_objects.specs.declared.objects.Volume.{Volume as VolumeData}
use Rattle.kube_objects.specs.declared.objects.Object.{Object}
use Rattle.kube_objects.specs.declared.objects.Object.TheVariants.{Claim, Pod, Volume}
use Rattle.kube_objects.specs.Bindings.{is_scheduled}
use Rattle.kube_objects.specs.Keys.{row_at}
use Rattle.call_types.specs.declared.entry.Entry.{Entry}
use Rattle.call_types.specs.declared.request.SeatKind.{SeatKind}
use Rattle.call_types.specs.declared.request.SeatKind.TheVariants as seats
use Rattle.call_types.specs.declared.setup.Setup.{Setup}
use Rattle.binder_model.specs.BinderDue.{claim_due, volume_due}
use Rattle.binder_model.specs.Due.{IsDue, agent_due, claim_guard_due, provision_due, reclaim_due, volume_guard_due}
use Rattle.binder_model.specs.Promises.{IsRunOf}
use Rattle.binder_model.specs.World.{World, world}
use Rattle.worker_core.specs.declared.role.Role.{Role}
use Rattle.actor_rounds.specs.declared.drainers.Drainer.{Drainer}
use Rattle.actor_rounds.specs.Drainers.{agent_of, of_kind}
use Rattle.actor_rounds.specs.Rounds.{IsRound, Lets}
use Rattle.settle_writes.specs.Writes.Lasting.{HasLasting}
use Rattle.settle_slot.specs.Slot.Would.{CallsPass}
use Rattle.settle_progress.specs.Epochs.Epochs.{IsCurrent}
use Rattle.settle_progress.specs.Epochs.Silent.{OnlyOvertakenAreSilent}
use Rattle.settle_progress.specs.Drains.Settling.{MayDrain}

-- ---- who does what is due

-- the controller that has to do this for a volume
abbrev pub for_volume : Due → SeatKind
for_volume dues.Reclaim = seats.Ops
for_volume dues.Guard = seats.VolumeProtect
for_volume dues.Unguard = seats.VolumeProtect
for_volume action = seats.Binder

-- the controller that has to do this for a claim
abbrev pub for_claim : Due → SeatKind
for_claim dues.Provision = seats.Ops
for_claim dues.ClearNode = seats.Ops
for_claim dues.Guard = seats.ClaimProtect
for_claim dues.Unguard = seats.ClaimProtect
for_claim action = seats.Binder

-- the role of the actor that does this for the object: a pod is the scheduler's until a node runs it, and then that node's agent's.
-- Nothing is due for a class or a node
abbrev pub doer_of : Object → Due → Role
doer_of (Volume v) action = of_kind (for_volume action)
doer_of (Claim c) action = of_kind (for_claim action)
doer_of (Pod p) action = if is_scheduled p then agent_of p.node else of_kind seats.Scheduler
doer_of o action = of_kind seats.Scheduler

-- something is due for the object, and an actor of this role has to do it. It need not be the first that is due for the object
pub data DueFor (setup : Setup) (w : World) : Object → Role → Type 0 where
  ForReclaimer : (v : VolumeData) (action : Due) → reclaim_due v ≡ Some action → DueFor setup w (Volume v) (of_kind seats.Ops)
  ForProvisioner : (c : ClaimData) (action : Due) → provision_due setup w c ≡ Some action → DueFor setup w (Claim c) (of_kind seats.Ops)
  ForBinder : (v : VolumeData) (action : Due) → volume_due w.store.rows v ≡ Some action → DueFor setup w (Volume v) (of_kind seats.Binder)
  ForBinderOfClaims : (c : ClaimData) (action : Due) → claim_due w.store.rows c ≡ Some action → DueFor setup w (Claim c) (of_kind seats.Binder)
  ForClaimProtection : (c : ClaimData) (action : Due) → claim_guard_due w.store.rows c ≡ Some action → DueFor setup w (Claim c) (of_kind seats.ClaimProtect)
  ForVolumeProtection : (v : VolumeData) (action : Due) → volume_guard_due v ≡ Some action → DueFor setup w (Volume v) (of_kind seats.VolumeProtect)
  ForScheduler : (p : PodData) (action : Due) → is_scheduled p ≡ false → IsDue setup w (Pod p) (Some action) → DueFor setup w (Pod p) (of_kind seats.Scheduler)
  ForAgent : (p : PodData) (action : Due) → is_scheduled p ≡ true → agent_due w p ≡ Some action → DueFor setup w (Pod p) (agent_of p.node)

-- among these is an agent of the node that is no stale one: it took no epoch of the node, or the one that the node has
pub record HasCurrent (setup : Setup) (ds : List Drainer) (h : List Entry) (node : List ℕ) : Type 0 where
  pub place : ℕ
  pub drainer : Drainer
  pub there : slice_get ds place ≡ Some drainer
  pub role : drainer.actor.role ≡ agent_of node
  pub current : IsCurrent setup h node drainer.seat

-- an actor of this role is among these, and is no stale agent. Each controller is: only of a node there may be none
abbrev pub HasDoer : Setup → List Drainer → List Entry → Role → Type 0
HasDoer setup ds h role = (node : List ℕ) → role ≡ agent_of node → HasCurrent setup ds h node

-- something is due, for an actor that is no stale agent
pub record HasDue (setup : Setup) (ds : List Drainer) (h : List Entry) : Type 0 where
  pub key : Key
  pub object : Object
  pub action : Due
  pub stands : row_at key (world setup h).store.rows ≡ Some object
  pub due : IsDue setup (world setup h) object (Some action)
  pub doer : HasDoer setup ds h (doer_of object action)

-- ---- the sentences

-- whatever an actor has to do, where its calls for the object pass: in a whole round an entry lasts
abbrev pub DueRoundsLast : Type 0
DueRoundsLast =
    (setup : Setup) (lets : Lets) (ds after : List Drainer) (h past : List Entry) (b left : ℕ) (key : Key) (o : Object) (role : Role)
    → MayDrain setup h ds → OnlyOvertakenAreSilent setup ds h → IsRunOf setup past → IsRound lets past left ds h b after true
    → row_at key (world setup h).store.rows ≡ Some o → DueFor setup (world setup h) o role → ((seat : ℕ) → CallsPass setup lets seat role h key) → HasDoer setup ds h role → HasLasting setup h past

-- so for all that is due
abbrev pub UnsettledRoundsLast : Type 0
UnsettledRoundsLast =
    (setup : Setup) (lets : Lets) (ds after : List Drainer) (h past : List Entry) (b left : ℕ) → MayDrain setup h ds
    → OnlyOvertakenAreSilent setup ds h → IsRunOf setup past → IsRound lets past left ds h b after true → (x : HasDue setup ds h)
    → ((seat : ℕ) → CallsPass setup lets seat (doer_of x.object x.action) h x.key) → HasLasting setup h past
