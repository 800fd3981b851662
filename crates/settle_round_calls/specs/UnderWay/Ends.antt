-- What an actor has under way when it is woken ends within few calls and writes, and its slot goes on from there.
-- A choice of this project.
use Rattle.std.specs.Prelude.{ℕ, ◌≡◌, ◌≤◌, ◌+◌, ◌*◌, ⊤, Bool, false, true, List, [], ◌∷◌, ◌++◌, None, length}
use Rattle.kube_objects.specs.declared.objects.Object.{Object}
use Rattle.kube_objects.specs.declared.objects.Object.TheVariants.{Volume}
use Rattle.call_types.specs.declared.entry.Entry.{Entry}
use Rattle.call_types.specs.declared.reply.Reply.{Reply}
use Rattle.call_types.specs.declared.reply.Reply.TheVariants as replies
use Rattle.call_types.specs.declared.request.Request.{Request}
use Rattle.call_types.specs.declared.request.Request.TheVariants as requests
use Rattle.call_types.specs.declared.request.SeatKind.{SeatKind}
use Rattle.call_types.specs.declared.request.SeatKind.TheVariants as seats
use Rattle.call_types.specs.declared.setup.Setup.{Setup}
use Rattle.binder_model.specs.Promises.{IsRunOf}
use Rattle.binder_model.specs.World.{world}
use Rattle.settle_measure.specs.Left.Measure.{claims_in, volumes_in}
use Rattle.worker_core.specs.Roles.{IsBuiltKind}
use Rattle.worker_core.specs.States.{ActorState}
use Rattle.actor_rounds.specs.Rounds.{Lets, Runs}
use Rattle.settle_calls.specs.Slots.Slots.{writes_since}

-- how many calls it makes at most, beside eight for each write, by what stands: an agent reads each claim of a pod and its volume
abbrev pub leftover_calls : SeatKind → List Object → ℕ
leftover_calls seats.Agent rows = 2 * claims_in rows + 6
leftover_calls kind rows = 3

-- how many writes it does at most: a binding has four. A scheduler's preparation writes into a volume for one claim, and a node on another; each is
-- written once, at the version that was told
abbrev pub leftover_writes : SeatKind → List Object → ℕ
leftover_writes seats.Binder rows = 4
leftover_writes seats.Scheduler rows = claims_in rows + volumes_in rows + 1
leftover_writes kind rows = 1

-- and how many of them into volumes: a scheduler one into each that stands
abbrev pub leftover_volumes : SeatKind → List Object → ℕ
leftover_volumes seats.Scheduler rows = volumes_in rows
leftover_volumes kind rows = leftover_writes kind rows

-- an update of a volume that was done
abbrev pub volume_write : Request → Reply → ℕ
volume_write (requests.Update (Volume v) given) (replies.Done o) = 1
volume_write request reply = 0

-- how many of these entries are such
abbrev pub volume_writes : List Entry → ℕ
volume_writes [] = 0
volume_writes (e ∷ es) = volume_write e.request e.reply + volume_writes es

-- the entry is a call of this seat and kind, whose answer was told
pub record IsBy (seat : ℕ) (kind : SeatKind) (e : Entry) : Type 0 where
  pub of_seat : e.seat ≡ seat
  pub of_kind : e.kind ≡ kind
  pub told : e.told ≡ true

-- each of these entries is
abbrev pub AreBy : ℕ → SeatKind → List Entry → Type 0
AreBy seat kind [] = ⊤
AreBy seat kind (e ∷ es) = AreBy seat kind es × IsBy seat kind e

-- since the earlier entries `h`, when `b` calls were left, of which `budget` are left now: the entries that came are of this seat and kind, and calls
-- and writes were few, by what stood then
pub record AreFew (setup : Setup) (seat : ℕ) (kind : SeatKind) (h entries : List Entry) (b budget : ℕ) : Type 0 where
  pub newer : List Entry
  pub are : entries ≡ newer ++ h
  pub by : AreBy seat kind newer
  -- no more entries than calls
  pub called : length newer + budget ≤ b
  pub calls : b ≤ budget + (8 * writes_since setup h entries + leftover_calls kind (world setup h).store.rows)
  pub writes : writes_since setup h entries ≤ leftover_writes kind (world setup h).store.rows
  pub volumes : volume_writes newer ≤ leftover_volumes kind (world setup h).store.rows

-- the run goes on from a state with nothing under way, whose pass is that with which it began; an agent that was told that its epoch is stale is
-- silent, whatever it has under way
pub record GoesOn (setup : Setup) (lets : Lets) (seat : ℕ) (after : ActorState) (past : List Entry) (left : ℕ) (idle : Bool) (s : ActorState) (h : List Entry) (b : ℕ) : Type 0 where
  pub state : ActorState
  pub entries : List Entry
  pub budget : ℕ
  pub runs : Runs lets seat after past left idle state entries budget
  pub none : state.memory.stale ≡ false → state.under ≡ None
  pub pass : state.pass ≡ s.pass
  pub role : state.role ≡ s.role
  pub few : AreFew setup seat s.role.kind h entries b budget

-- the budget is spent before it has ended, or it goes on
pub data HasEnded (setup : Setup) (lets : Lets) (seat : ℕ) (after : ActorState) (past : List Entry) (left : ℕ) (idle : Bool) (s : ActorState) (h : List Entry) (b : ℕ) : Type 0 where
  EndsThere : AreFew setup seat s.role.kind h past b left → HasEnded setup lets seat after past left idle s h b
  AndGoesOn : GoesOn setup lets seat after past left idle s h b → HasEnded setup lets seat after past left idle s h b

-- each run of an actor that is built is so, whatever it has under way and whichever calls are held back
abbrev pub LeftoversEnd : Type 0
LeftoversEnd =
    (setup : Setup) (lets : Lets) (seat : ℕ) (s after : ActorState) (h past : List Entry) (b left : ℕ) (idle : Bool) → IsBuiltKind s.role.kind → IsRunOf setup past
    → Runs lets seat after past left idle s h b → HasEnded setup lets seat after past left idle s h b
