-- A round in which as much is left to do as before, and what is due at its end.
-- A choice of this project.
use Rattle.std.specs.Prelude.{ℕ, ◌≡◌, Bool, true, false, List, Some, is_some, slice_get}
use Rattle.kube_objects.specs.declared.key.Key.{Key}
use Rattle.kube_parts.specs.declared.names.Due.{Due}
use Rattle.kube_parts.specs.declared.names.Due.TheVariants as dues
use Rattle.kube_objects.specs.declared.objects.Object.{Object}
use Rattle.kube_objects.specs.declared.objects.Object.TheVariants.{Pod}
use Rattle.kube_objects.specs.declared.objects.Pod.{Pod as PodData}
use Rattle.kube_parts.specs.declared.parts.Kind.{Kind}
use Rattle.kube_parts.specs.declared.parts.Kind.TheVariants as kinds
use Rattle.kube_objects.specs.Bindings.{is_scheduled}
use Rattle.kube_objects.specs.Keys.{row_at}
use Rattle.call_types.specs.declared.entry.Entry.{Entry}
use Rattle.call_types.specs.declared.request.SeatKind.{SeatKind}
use Rattle.call_types.specs.declared.request.SeatKind.TheVariants as seats
use Rattle.call_types.specs.declared.setup.Setup.{Setup}
use Rattle.binder_model.specs.Due.{IsDue}
use Rattle.binder_model.specs.Promises.{IsRunOf}
use Rattle.binder_model.specs.World.{World, world}
use Rattle.informer_cache.specs.All.{all_objects}
use Rattle.settle_measure.specs.Left.Measure.{work_left}
use Rattle.actor_rounds.specs.declared.drainers.Drainer.{Drainer}
use Rattle.actor_rounds.specs.Rounds.{IsRound, all_pass}
use Rattle.settle_pays.specs.Drains.All.{ImportsAllow}
use Rattle.settle_budget.specs.Drains.Budget.{AreAlwaysInOrder}
use Rattle.settle_budget.specs.Drains.Rounds.{MaySettle}
use Rattle.settle_alike.specs.Near.Near.{AreNear}

-- such an actor decides keys of this kind
abbrev pub decides_kind : SeatKind → Kind → Bool
decides_kind seats.Ops kinds.PersistentVolume = true
decides_kind seats.Ops kinds.PersistentVolumeClaim = true
decides_kind seats.Scheduler kinds.Pod = true
decides_kind kind k = false

-- ops has each volume and each claim that stands among its caches, and the scheduler each pod
abbrev pub AreCached : Setup → List Drainer → List Entry → Type 0
AreCached setup ds h =
    (place : ℕ) (d : Drainer) → slice_get ds place ≡ Some d → (key : Key) (o : Object) → row_at key (world setup h).store.rows ≡ Some o
    → decides_kind d.actor.role.kind key.kind ≡ true → is_some (row_at key (all_objects d.actor.caches)) ≡ true

-- a whole round of a drain that leaves as much to do
pub record IsQuietRound (setup : Setup) (ds after : List Drainer) (h past : List Entry) (b left : ℕ) : Type 0 where
  pub allow : ImportsAllow setup
  pub may : MaySettle setup ds h
  pub run : IsRunOf setup past
  pub order : AreAlwaysInOrder setup past
  pub round : IsRound all_pass past left ds h b after true
  pub same : work_left setup (world setup past) ≡ work_left setup (world setup h)

-- a pod that no node runs is to be prepared
pub record PreparesPod (o : Object) (action : Due) : Type 0 where
  pub pod : PodData
  pub is : o ≡ Pod pod
  pub waits : is_scheduled pod ≡ false
  pub prepares : action ≡ dues.Prepare

-- nothing else is due
abbrev pub OnlyPrepares : Setup → World → Type 0
OnlyPrepares setup w = (key : Key) (o : Object) (action : Due) → row_at key w.store.rows ≡ Some o → IsDue setup w o (Some action) → PreparesPod o action

-- a whole round tells its actors what stands
abbrev pub RoundsCache : Type 0
RoundsCache = (setup : Setup) (ds after : List Drainer) (h past : List Entry) (b left : ℕ) → MaySettle setup ds h → IsRunOf setup past
    → IsRound all_pass past left ds h b after true → AreCached setup after past

-- a quiet round leaves the world near
abbrev pub QuietRoundsLeaveNear : Type 0
QuietRoundsLeaveNear = (setup : Setup) (ds after : List Drainer) (h past : List Entry) (b left : ℕ) → IsQuietRound setup ds after h past b left → AreNear (world setup h) (world setup past)

-- and at its end only pods are to be prepared
abbrev pub QuietRoundsEnd : Type 0
QuietRoundsEnd = (setup : Setup) (ds after : List Drainer) (h past : List Entry) (b left : ℕ) → IsQuietRound setup ds after h past b left → AreCached setup ds h → OnlyPrepares setup (world setup past)
