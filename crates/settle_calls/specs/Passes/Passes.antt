-- What an actor has still to call for, in the first pass of its slot and past it: each call leaves it less.
-- A choice of this project.
use Rattle.std.specs.Prelude.{List, None, Option, Some, false, if◌then◌else◌, min, nat_lt, true, ℕ, ◌*◌, ◌+◌, ◌-◌, ◌/◌, ◌∷◌, ◌≡◌, ◌≤◌}
use Rattle.attention_law.specs.Queues.{QueueStands}
use Rattle.binder_model.specs.Reading.{follows}
use Rattle.binder_model.specs.Told.{own}
use Rattle.binder_model.specs.World.{IsHistory, World, base as base_of, world}
use Rattle.call_types.specs.declared.entry.Entry.{Entry}
use Rattle.call_types.specs.declared.reply.Reply.{Reply}
use Rattle.call_types.specs.declared.request.Request.{Request}
use Rattle.call_types.specs.declared.request.Request.TheVariants as requests
use Rattle.call_types.specs.declared.request.SeatKind.{SeatKind}
use Rattle.call_types.specs.declared.setup.Setup.{Setup}
use Rattle.settle_calls.specs.Tasks.Costs.{work_cost}
use Rattle.settle_calls.specs.Tasks.Ends.{start_left}
use Rattle.settle_calls.specs.Tasks.Tasks.{under_left}
use Rattle.settle_calls.specs.Events.Ahead.{Point, cost_at, from_of, kinds_cost, pass_cost, sum_over}
use Rattle.settle_calls.specs.Events.Counts.{pending}
use Rattle.informer_cache.specs.All.{AllKnown}
use Rattle.kube_parts.specs.declared.parts.Kind.{Kind}
use Rattle.worker_core.specs.Absorbs.{absorbed}
use Rattle.worker_core.specs.Roles.{IsBuiltKind, kinds_of}
use Rattle.worker_core.specs.Stands.{StandsFor}
use Rattle.worker_core.specs.States.{ActorState, asked}
use Rattle.worker_core.specs.Turns.{passing}
use Rattle.worker_core.specs.declared.turn.Given.TheVariants as givens
use Rattle.worker_core.specs.declared.turn.Outcome.TheVariants.{Told}
use Rattle.actor_rounds.specs.Rounds.{told_entry}

-- the call that an actor has given, and the answer that the world gives to it
pub record IsCallGiven (setup : Setup) (seat : ℕ) (x : ActorState) (request : Request) (reply : Reply) (h : List Entry) : Type 0 where
  pub built : IsBuiltKind x.role.kind
  pub stands : StandsFor x (own seat h)
  pub queue : QueueStands x
  pub ask : asked x ≡ Some request
  pub fresh : x.memory.stale ≡ false
  pub history : IsHistory setup (told_entry seat x request reply ∷ h)
  pub passes : (kind : Kind) (from : ℕ) → x.given ≡ Some (givens.Read kind) → request ≡ requests.Watch kind from → passing x ≡ Some kind

-- what is still to come, past the first pass
abbrev pub rest_cost : SeatKind → World → ActorState → ℕ
rest_cost kind w s = under_left s.under + (start_left s.role s.memory + work_cost (cost_at kind w) s.work)

-- with the writes that are still ahead, the kinds and the pass
abbrev pub second_cost : Setup → ℕ → SeatKind → ℕ → ℕ → ActorState → List Entry → ℕ
second_cost setup seat kind m high s h = 16 * (high - (world setup h).store.version) + (rest_cost kind (world setup h) s + (kinds_cost setup seat kind m high h + pass_cost s.pass))

-- what may still be asked of a kind in the first pass: a list, or watches as far as the log goes back
abbrev pub wait_cost : ℕ → Option ℕ → ℕ
wait_cost version None = 1
wait_cost version (Some from) = if nat_lt from version then 2 + min (version - from) 512 / 64 else 0

-- of all kinds that the actor follows
abbrev pub waits_cost : Setup → ℕ → SeatKind → List Entry → ℕ
waits_cost setup seat kind h = sum_over (λ k. wait_cost (world setup h).store.version (from_of seat h k)) (kinds_of kind)

-- the events of the slot
abbrev pub events_cost : Setup → SeatKind → ℕ → List Entry → ℕ
events_cost setup kind base h = sum_over (λ k. 9 * pending k base (world setup h).log) (kinds_of kind)

-- with the writes that are still ahead, what is under way and the pass
abbrev pub first_cost : Setup → ℕ → SeatKind → ℕ → ℕ → ActorState → List Entry → ℕ
first_cost setup seat kind base high s h =
    20 * (high - (world setup h).store.version) + (under_left s.under + start_left s.role s.memory + (waits_cost setup seat kind h + (events_cost setup kind base h + (5 - s.pass.behind))))

-- each kind that the seat watches has reached the version with which the slot began
abbrev pub KindsHaveReached : ℕ → ℕ → SeatKind → List Entry → Type 0
KindsHaveReached base seat seat_kind h = (kind : Kind) (from : ℕ) → follows seat_kind kind ≡ true → from_of seat h kind ≡ Some from → base ≤ from

-- past the first pass each call whose answer is told leaves less to come
abbrev pub CallsPay : Type 0
CallsPay =
    (setup : Setup) (seat base m high : ℕ) (x : ActorState) (request : Request) (reply : Reply) (h : List Entry) (caches : AllKnown)
    → IsCallGiven setup seat x request reply h → Point setup x.role.kind base m high h → base_of setup ≤ base
    → KindsHaveReached base seat x.role.kind h → (world setup (told_entry seat x request reply ∷ h)).store.version ≤ high
    → second_cost setup seat x.role.kind m high (absorbed x caches request (Told reply)) (told_entry seat x request reply ∷ h) + 1 ≤ second_cost setup seat x.role.kind m high x h

-- so does each call of the first pass
abbrev pub FirstCallsPay : Type 0
FirstCallsPay =
    (setup : Setup) (seat base high : ℕ) (x : ActorState) (request : Request) (reply : Reply) (h : List Entry) (caches : AllKnown)
    → IsCallGiven setup seat x request reply h → (world setup (told_entry seat x request reply ∷ h)).store.version ≤ high
    → first_cost setup seat x.role.kind base high (absorbed x caches request (Told reply)) (told_entry seat x request reply ∷ h) + 1 ≤ first_cost setup seat x.role.kind base high x h
