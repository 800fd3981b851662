-- The queue of an actor, and a call that is held back: cases that hold, and cases beside them that do not.
-- A choice of this project.
use Rattle.std.specs.Prelude.{false, [], ◌∷◌, Some, None, codes}
use Rattle.kube_objects.specs.declared.key.Key.{Key}
use Rattle.kube_parts.specs.declared.parts.Kind.TheVariants as kinds
use Rattle.call_types.specs.declared.request.Request.{Request}
use Rattle.call_types.specs.declared.request.Request.TheVariants as requests
use Rattle.call_types.specs.declared.request.SeatKind.TheVariants as seats
use Rattle.sync_queue.specs.Work.{Work, no_work}
use Rattle.worker_core.specs.declared.turn.Given.TheVariants as givens
use Rattle.worker_core.specs.declared.turn.Outcome.TheVariants.{Lost}
use Rattle.worker_core.specs.Absorbs.{absorbed, woken}
use Rattle.worker_core.specs.States.{ActorState}
use Rattle.attention_law.specs.Begun.{begun_as, no_caches}
use Rattle.attention_law.specs.Queues.{QueueStands}
use Rattle.actor_rounds.specs.Drainers.{of_kind}
use Rattle.actor_rounds.specs.Rounds.{Lets, Runs, all_pass}

-- ---- queues

abbrev pub volume_a : Key
volume_a = record { kind = kinds.PersistentVolume; namespace = []; name = codes "a" }

abbrev pub volume_b : Key
volume_b = record volume_a { name = codes "b" }

-- a binder with this queue, and nothing under way
abbrev pub with_queue : Work → ActorState
with_queue work = record (begun_as (of_kind seats.Binder)) { work = work }

pub record QueueExamples : Type 0 where
  pub nothing_queued : QueueStands (with_queue no_work)
  pub one_waits_and_one_is_parked : QueueStands (with_queue (record { waiting = volume_a ∷ []; taken = []; parked = volume_b ∷ [] }))
  pub none_waits_twice : QueueStands (with_queue (record { waiting = volume_a ∷ volume_a ∷ []; taken = []; parked = [] })) → ⊥
  pub none_waits_and_is_parked : QueueStands (with_queue (record { waiting = volume_a ∷ []; taken = []; parked = volume_a ∷ [] })) → ⊥
  -- such a key would be marked each time that it is added, and never wait
  pub none_is_taken_with_nothing_under_way : QueueStands (with_queue (record { waiting = []; taken = record { key = volume_a; again = false } ∷ []; parked = [] })) → ⊥

-- ---- calls that are held back

abbrev pub none_pass : Lets
none_pass h request = false

-- a scheduler that was woken, and as it has given its first call
abbrev pub woken_scheduler : ActorState
woken_scheduler = woken (begun_as (of_kind seats.Scheduler))

abbrev pub list_volumes : Request
list_volumes = requests.List kinds.PersistentVolume None

abbrev pub giving_scheduler : ActorState
giving_scheduler = record woken_scheduler { given = Some (givens.Read kinds.PersistentVolume) }

-- a budget of one call is spent, and there is no entry
abbrev pub LeavesNone : Lets → ActorState → Type 0
LeavesNone lets after = Runs lets 7 after [] 0 false woken_scheduler [] 1

pub record HeldExamples : Type 0 where
  pub a_held_call_counts_and_leaves_no_entry : LeavesNone none_pass (absorbed giving_scheduler no_caches list_volumes Lost)
  pub none_is_held_where_all_pass : (after : ActorState) → LeavesNone all_pass after → ⊥
