-- A claim from which ops takes a node back in a slot was to lose it when the slot began.
-- Source: `rescheduleProvisioning` of `pv_controller.go`, which takes a node that cannot serve the claim back.
use Rattle.std.specs.Prelude.{ℕ, ◌≡◌, ◌≢◌, ◌⊎◌, ◌≤◌, ◌++◌, ◌∷◌, Bool, true, false, List, None, Some, slice_get}
use Rattle.kube_objects.specs.declared.key.Key.{Key}
use Rattle.kube_parts.specs.declared.names.Due.TheVariants as dues
use Rattle.kube_objects.specs.declared.objects.Claim.{Claim as ClaimData}
use Rattle.kube_objects.specs.declared.objects.Object.TheVariants.{Claim}
use Rattle.kube_objects.specs.Bindings.{has_key, selected_node}
use Rattle.kube_objects.specs.Keys.{row_at}
use Rattle.call_types.specs.declared.entry.Entry.{Entry}
use Rattle.call_types.specs.declared.request.SeatKind.TheVariants as seats
use Rattle.call_types.specs.declared.setup.Setup.{Setup}
use Rattle.binder_model.specs.Due.{provision_due}
use Rattle.binder_model.specs.Promises.{IsRunOf}
use Rattle.binder_model.specs.World.{world}
use Rattle.settle_measure.specs.Left.Measure.{work_left}
use Rattle.worker_core.specs.Absorbs.{woken}
use Rattle.worker_core.specs.States.{ActorState}
use Rattle.actor_rounds.specs.Rounds.{Runs, all_pass}
use Rattle.settle_pays.specs.Pays.Pays.{HavePaid}
use Rattle.settle_budget.specs.Drains.Budget.{AreAlwaysInOrder}
use Rattle.actor_rounds.specs.declared.drainers.Drainer.{Drainer}
use Rattle.settle_writes.specs.Writes.Lasting.{content_of}
use Rattle.settle_tries.specs.Tries.Coming.{IsCallOf}
use Rattle.settle_tries.specs.Tries.Deciding.{IsWithin}
use Rattle.settle_tries.specs.Tries.Quiet.{AreCached, IsQuietRound, OnlyPrepares}

-- ClearNode is due for each claim that has a node when a slot of ops begins at rest, and none when it ends, where it leaves as much to do
abbrev pub TakenWereDue : Type 0
TakenWereDue =
    (setup : Setup) (seat : ℕ) (old after : ActorState) (h past : List Entry) (b left : ℕ) (idle : Bool) (key : Key) (c d : ClaimData)
    → old.role.kind ≡ seats.Ops → IsRunOf setup past → AreAlwaysInOrder setup past → old.under ≡ None
    → Runs all_pass seat after past left idle (woken old) h b → HavePaid setup h past
    → work_left setup (world setup h) ≤ work_left setup (world setup past) → row_at key (world setup h).store.rows ≡ Some (Claim c) → row_at key (world setup past).store.rows ≡ Some (Claim d)
    → has_key selected_node c.meta.annotations ≡ true → has_key selected_node d.meta.annotations ≡ false → provision_due setup (world setup h) c ≡ Some dues.ClearNode

-- the first actor of the round, in its slot up to here
pub record IsFirstSlot (ds : List Drainer) (h middle : List Entry) (first : Drainer) : Type 0 where
  pub there : slice_get ds 0 ≡ Some first
  pub after : ActorState
  pub before : ℕ
  pub left : ℕ
  pub runs : Runs all_pass first.seat after middle left true (woken first.actor) h before

-- behind that slot the claim has no node
pub record HasNone (setup : Setup) (middle : List Entry) (key : Key) : Type 0 where
  pub claim : ClaimData
  pub there : row_at key (world setup middle).store.rows ≡ Some (Claim claim)
  pub none : has_key selected_node claim.meta.annotations ≡ false

-- or an entry of the slot changed it, which is a call of what the actor decided there
pub record IsWritten (setup : Setup) (first : Drainer) (h middle : List Entry) (key : Key) : Type 0 where
  pub newer : List Entry
  pub older : List Entry
  pub entry : Entry
  pub are : middle ≡ newer ++ (entry ∷ older ++ h)
  pub call : IsCallOf setup first.seat first.actor.role h entry (older ++ h)
  pub before : ClaimData
  pub stood : row_at key (world setup (older ++ h)).store.rows ≡ Some (Claim before)
  pub now : ClaimData
  pub stands : row_at key (world setup (entry ∷ older ++ h)).store.rows ≡ Some (Claim now)
  pub changes : content_of (Claim before) ≢ content_of (Claim now)

-- behind the scheduler's slot the claim had no node, or it was written in that slot by what the scheduler decided in it
pub record IsGiven (setup : Setup) (ds : List Drainer) (h past : List Entry) (key : Key) : Type 0 where
  pub first : Drainer
  pub scheduler : first.actor.role.kind ≡ seats.Scheduler
  pub middle : List Entry
  pub within : IsWithin h middle past
  pub slot : IsFirstSlot ds h middle first
  pub either : HasNone setup middle key ⊎ IsWritten setup first h middle key

-- so it is with each claim that has no node at the end of a quiet round before which only pods were to be prepared
abbrev pub TakenWereGiven : Type 0
TakenWereGiven =
    (setup : Setup) (ds after : List Drainer) (h past : List Entry) (b left : ℕ) (key : Key) (d : ClaimData)
    → IsQuietRound setup ds after h past b left → AreCached setup ds h → OnlyPrepares setup (world setup h)
    → row_at key (world setup past).store.rows ≡ Some (Claim d) → has_key selected_node d.meta.annotations ≡ false → IsGiven setup ds h past key
