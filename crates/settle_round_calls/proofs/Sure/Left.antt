-- What is still to come at a point of a slot past its first pass, of an actor whose tasks each come to a write: its keys cost nothing.
use Rattle.std.proofs.Common.{◌≡◌, ℕ, ◌+◌, ◌*◌, ◌-◌, ◌≤◌, List, length, Bool, Option, Some, None, if◌then◌else◌}
use Rattle.std.specs.Prelude.{nat_lt}
use Rattle.kube_parts.specs.declared.parts.Kind.{Kind}
use Rattle.call_types.specs.declared.entry.Entry.{Entry}
use Rattle.call_types.specs.declared.request.SeatKind.{SeatKind}
use Rattle.call_types.specs.declared.setup.Setup.{Setup}
use Rattle.binder_model.specs.World.{World, world}
use Rattle.worker_core.specs.declared.task.Under.{Under}
use Rattle.worker_core.specs.Roles.{kinds_of}
use Rattle.worker_core.specs.States.{ActorState}
use Rattle.actor_rounds.specs.Rounds.{all_pass}
use Rattle.settle_slot.specs.Slot.Slots.{WillLast}
use Rattle.settle_calls.specs.Tasks.Tasks.{task_left}
use Rattle.settle_calls.specs.Events.Ahead.{from_of, sum_over}
use Rattle.settle_calls.specs.Events.Counts.{pending}
use Rattle.settle_round_calls.proofs.Slots.Calls.{AtKeys, InPass, Stage, pass_left}
use Rattle.settle_round_calls.proofs.Slots.RoundCosts.{key_calls}

-- ---- the kinds

-- what may still be asked of a kind in a pass: where its events are no longer kept, a watch says so, the kind is listed, and a pass comes after
-- this one; else each event that is to be told brings a pass
abbrev pub told_or : SeatKind → Bool → ℕ → ℕ
told_or kind gone events = if gone then 2 + length (kinds_of kind) else length (kinds_of kind) * events

abbrev pub asks_left : SeatKind → World → Kind → Option ℕ → ℕ
asks_left kind w k None = 1
asks_left kind w k (Some from) = told_or kind (nat_lt (from + 512) w.store.version) (pending k from w.log)

-- of all kinds that the actor follows
abbrev pub all_asks_left : Setup → ℕ → SeatKind → List Entry → ℕ
all_asks_left setup seat kind h = sum_over (λ k. asks_left kind (world setup h) k (from_of seat h k)) (kinds_of kind)

-- those of the pass, or of the pass that the writes since the last one bring
abbrev pub kinds_owed : (setup : Setup) (seat : ℕ) (s : ActorState) (h : List Entry) → Stage setup seat s h → ℕ
kinds_owed setup seat s h (InPass none behind) = all_asks_left setup seat s.role.kind h
kinds_owed setup seat s h (AtKeys read over kinds low few) = length (kinds_of s.role.kind) * ((world setup h).store.version - read)

-- ---- what is under way

-- nothing; a task that comes to a call that lasts; or one that has written, of which nothing is known
pub data Owing (setup : Setup) (seat : ℕ) (s : ActorState) (h : List Entry) : Type 0 where
  IsFree : s.under ≡ None → Owing setup seat s h
  WillWrite : (u : Under) → s.under ≡ Some u → WillLast setup all_pass seat s.role.kind h u → Owing setup seat s h
  HasWritten : (u : Under) → s.under ≡ Some u → Owing setup seat s h

-- before its write a task spends what its decision may cost, and the write brings it back
abbrev pub owed : (setup : Setup) (seat : ℕ) (s : ActorState) (h : List Entry) → Owing setup seat s h → ℕ
owed setup seat s h (IsFree none) = key_calls s.role.kind
owed setup seat s h (WillWrite u there lasts) = task_left u.task
owed setup seat s h (HasWritten u there) = key_calls s.role.kind + task_left u.task

-- ---- all of it

-- with the writes that are still ahead, and the pass
abbrev pub sure_left : (setup : Setup) (seat high : ℕ) (s : ActorState) (h : List Entry) → Stage setup seat s h → Owing setup seat s h → ℕ
sure_left setup seat high s h stage owing = 8 * (high - (world setup h).store.version) + (kinds_owed setup seat s h stage + (pass_left s.role.kind s.pass + owed setup seat s h owing))

-- so much less than a number
pub record IsLess (setup : Setup) (seat high : ℕ) (s : ActorState) (h : List Entry) (fewer most_left : ℕ) : Type 0 where
  pub stage : Stage setup seat s h
  pub owing : Owing setup seat s h
  pub less : sure_left setup seat high s h stage owing + fewer ≤ most_left
