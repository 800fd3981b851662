-- A slot: one actor is woken, and run until it is idle or its budget is spent. It makes few calls beside its writes.
-- A choice of this project.
use Rattle.std.specs.Prelude.{ℕ, ◌≡◌, ◌≤◌, ◌+◌, ◌*◌, ◌-◌, ◌/◌, Bool, true, false, List, None}
use Rattle.call_types.specs.declared.entry.Entry.{Entry}
use Rattle.call_types.specs.declared.request.Request.{Request}
use Rattle.call_types.specs.declared.request.Request.TheVariants as requests
use Rattle.call_types.specs.declared.setup.Setup.{Setup}
use Rattle.binder_model.specs.World.{IsHistory, world}
use Rattle.settle_measure.specs.Left.Measure.{total}
use Rattle.worker_core.specs.Absorbs.{woken}
use Rattle.worker_core.specs.Roles.{IsBuiltKind}
use Rattle.worker_core.specs.States.{ActorState}
use Rattle.actor_rounds.specs.Rounds.{Lets, Runs}
use Rattle.settle_calls.specs.Tasks.Costs.{calls_for}
use Rattle.settle_calls.specs.Tasks.Tasks.{under_left}

-- a list or a watch of a whole kind, and the calls with which an agent begins. An actor makes such a call again where it is held back
abbrev pub is_own_read : Request → Bool
is_own_read (requests.List kind None) = true
is_own_read (requests.Watch kind from) = true
is_own_read (requests.TakeNode node) = true
is_own_read (requests.Mounts node epoch) = true
is_own_read request = false

-- none of these is held back
abbrev pub PassesReads : Lets → Type 0
PassesReads lets = (h : List Entry) (request : Request) → is_own_read request ≡ true → lets h request ≡ true

-- how many writes were done from the earlier entries on: each raises the version by one
abbrev pub writes_since : Setup → List Entry → List Entry → ℕ
writes_since setup h past = (world setup past).store.version - (world setup h).store.version

-- how many calls an actor makes in a slot at most, where what it has under way still makes `left` of them, all objects may cost so
-- much, and it does so many writes: each write brings its event and the decisions on it; after each 513 of them each of five kinds
-- may be listed again, and all its keys decided again
abbrev pub slot_cost : ℕ → ℕ → ℕ → ℕ
slot_cost left objects writes = 20 * writes + left + (objects + 3 * writes) + 5 * ((objects + 3 * writes + 7) * (writes / 513)) + 62

-- a slot makes no more calls than that, whether it ends idle or its budget is spent
abbrev pub SlotsAreShort : Type 0
SlotsAreShort =
    (setup : Setup) (lets : Lets) (seat : ℕ) (old after : ActorState) (h past : List Entry) (b left : ℕ) (idle : Bool) → IsBuiltKind old.role.kind → IsHistory setup past → PassesReads lets
    → Runs lets seat after past left idle (woken old) h b → b ≤ left + slot_cost (under_left old.under) (total (calls_for old.role.kind) (world setup h).store.rows) (writes_since setup h past)
