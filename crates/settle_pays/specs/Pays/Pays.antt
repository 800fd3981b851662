-- What it means that the calls of an actor pay: each that lasts lowers what the world has still to do, or lets a planned fault be behind.
-- The node of a claim, which the scheduler writes and the provisioner takes back, is worth nothing: tries are counted for it.
-- A choice of this project.
use Rattle.std.specs.Prelude.{ℕ, ◌≡◌, ◌≤◌, ◌+◌, Bool, false, List, [], ◌∷◌, ◌++◌, Some, None, slice_get, ⊤}
use Rattle.kube_objects.specs.declared.objects.Object.TheVariants.{Claim}
use Rattle.call_types.specs.declared.entry.Entry.{Entry}
use Rattle.call_types.specs.declared.request.Request.{Request}
use Rattle.call_types.specs.declared.request.Request.TheVariants.{Update}
use Rattle.call_types.specs.declared.request.SeatKind.{SeatKind}
use Rattle.call_types.specs.declared.request.SeatKind.TheVariants as seats
use Rattle.call_types.specs.declared.setup.Setup.{Setup}
use Rattle.binder_model.specs.Promises.{IsRunOf}
use Rattle.binder_model.specs.World.{IsHistory, World, effect, reply_to, world, world_after}
use Rattle.informer_cache.specs.All.{all_objects}
use Rattle.settle_measure.specs.Left.Measure.{work_left}
use Rattle.worker_core.specs.declared.role.Role.{Role}
use Rattle.worker_core.specs.declared.task.Under.{Under}
use Rattle.worker_core.specs.Absorbs.{woken}
use Rattle.worker_core.specs.Roles.{IsBuiltKind}
use Rattle.worker_core.specs.States.{ActorState}
use Rattle.worker_core.specs.Tasks.{GivesCall, under_after}
use Rattle.actor_rounds.specs.declared.drainers.Drainer.{Drainer}
use Rattle.actor_rounds.specs.Rounds.{Lets, RoundOf, Runs}
use Rattle.settle_writes.specs.Writes.Lasting.{HasLasting, Lasts}
use Rattle.settle_alike.specs.Alike.Alike.{AreAlike}
use Rattle.settle_slot.specs.Slot.Slots.{IsDecisionPoint, own_entry}

-- ---- one call

-- what a call is worth
abbrev pub worth : SeatKind → Request → ℕ
worth seats.Scheduler (Update (Claim c) given) = 0
worth seats.Ops (Update (Claim c) given) = 0
worth kind request = 1

-- the call pays what it is worth, where it lasts on this world
abbrev pub Pays : Setup → World → SeatKind → Request → Type 0
Pays setup w kind request = Lasts setup w kind request → work_left setup (world_after w (effect setup w kind request)) + worth kind request ≤ work_left setup w

-- ---- an actor

-- what is under way pays with each call that it makes, as long as nobody else calls
pub data WillPay (setup : Setup) (seat : ℕ) (kind : SeatKind) : List Entry → Under → Type 0 where
  EachPays : {h : List Entry} {u : Under} → Pays setup (world setup h) kind u.call
      → ((next : Under) → under_after u (reply_to (effect setup (world setup h) kind u.call)) ≡ Some next
      → WillPay setup seat kind (own_entry setup seat kind h u.call ∷ h) next) → WillPay setup seat kind h u

-- whatever the actor decides in a run, where it sees the store as it is, will pay
abbrev pub DecisionsPay : Setup → ℕ → Role → Type 0
DecisionsPay setup seat role = (s : ActorState) (h : List Entry) (u : Under) → IsRunOf setup h → IsDecisionPoint setup seat role h s h
    → GivesCall s.role s.memory (all_objects s.caches) u → WillPay setup seat role.kind h u

-- ---- entries

-- each of these entries, the newest first, pays on the world in which it was made
abbrev pub AllPay : Setup → List Entry → List Entry → Type 0
AllPay setup [] past = ⊤
AllPay setup (e ∷ newer) past = Pays setup (world setup (newer ++ past)) e.kind e.request × AllPay setup newer past

-- each of the entries that came since pays
pub record HavePaid (setup : Setup) (earlier past : List Entry) : Type 0 where
  pub newer : List Entry
  pub are : past ≡ newer ++ earlier
  pub each : AllPay setup newer earlier

-- among them is one that lasts and is worth something
pub record HasWorth (setup : Setup) (earlier past : List Entry) : Type 0 where
  pub lasting : HasLasting setup earlier past
  pub worth_is : worth lasting.entry.kind lasting.entry.request ≡ 1

-- what the world has still to do never rose since, and fell
pub record HasFallen (setup : Setup) (earlier past : List Entry) : Type 0 where
  pub stays : work_left setup (world setup past) ≤ work_left setup (world setup earlier)
  pub falls : HasWorth setup earlier past → work_left setup (world setup past) + 1 ≤ work_left setup (world setup earlier)

-- ---- the sentences

-- worlds that are alike have the same left to do
abbrev pub AlikeIsLeft : Type 0
AlikeIsLeft = (setup : Setup) (w : World) (kind : SeatKind) (request : Request) → AreAlike w (world_after w (effect setup w kind request))
    → work_left setup (world_after w (effect setup w kind request)) ≤ work_left setup w

-- entries that pay lower what is left to do
abbrev pub PaidIsLess : Type 0
PaidIsLess = (setup : Setup) (earlier past : List Entry) → IsHistory setup past → HavePaid setup earlier past → HasFallen setup earlier past

-- an actor whose decisions pay, run with nothing under way, pays with each of its calls; an agent that is silent makes none
abbrev pub SlotsPay : Type 0
SlotsPay =
    (setup : Setup) (lets : Lets) (seat : ℕ) (old after : ActorState) (h past : List Entry) (b left : ℕ) (idle : Bool) → IsBuiltKind old.role.kind
    → IsRunOf setup past → Runs lets seat after past left idle (woken old) h b
    → (old.memory.stale ≡ false → old.under ≡ None) → DecisionsPay setup seat old.role → HavePaid setup h past

-- an actor that may be run so
pub record IsPayer (setup : Setup) (d : Drainer) : Type 0 where
  pub built : IsBuiltKind d.actor.role.kind
  pub rests : d.actor.memory.stale ≡ false → d.actor.under ≡ None
  pub pays : DecisionsPay setup d.seat d.actor.role

-- so each entry of a round of such actors pays, be the round whole or not
abbrev pub RoundsOfPayersPay : Type 0
RoundsOfPayersPay =
    (setup : Setup) (lets : Lets) (round : RoundOf lets) → IsRunOf setup round.past
    → ((place : ℕ) (d : Drainer) → slice_get round.drainers place ≡ Some d → IsPayer setup d) → HavePaid setup round.start round.past
