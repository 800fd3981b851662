-- How many writes a slot and a round do: each is paid by what it leaves less to do, by a node that is taken back, or by what the scheduler may
-- write.
-- A choice of this project.
use Rattle.std.specs.Prelude.{ℕ, ◌≡◌, ◌≢◌, ◌≤◌, ◌+◌, ◌*◌, Bool, true, false, List, [], ◌∷◌, Some, None, slice_get}
use Rattle.std.specs.Ordering.{is_eq}
use Rattle.plain_data.specs.Pairs.{ArePairs, Pair, pair_key, text_cmp}
use Rattle.kube_objects.specs.declared.key.Key.{Key}
use Rattle.kube_objects.specs.declared.objects.Claim.{Claim as ClaimData}
use Rattle.kube_objects.specs.declared.objects.Object.{Object}
use Rattle.kube_objects.specs.declared.objects.Object.TheVariants.{Claim}
use Rattle.kube_objects.specs.Bindings.{selected_node}
use Rattle.kube_objects.specs.Keys.{AreRows, row_at}
use Rattle.call_types.specs.declared.entry.Entry.{Entry}
use Rattle.call_types.specs.declared.request.SeatKind.TheVariants as seats
use Rattle.call_types.specs.declared.setup.Setup.{Setup}
use Rattle.binder_model.specs.Promises.{IsRunOf}
use Rattle.binder_model.specs.World.{World, world}
use Rattle.settle_measure.specs.Left.Measure.{claims_in, total, work_left}
use Rattle.worker_core.specs.Absorbs.{woken}
use Rattle.worker_core.specs.Roles.{IsBuiltKind}
use Rattle.worker_core.specs.States.{ActorState}
use Rattle.actor_rounds.specs.declared.drainers.Drainer.{Drainer}
use Rattle.actor_rounds.specs.Drainers.{AreRoles, roles_of}
use Rattle.actor_rounds.specs.Rounds.{Lets, RoundOf, Runs}
use Rattle.settle_calls.specs.Slots.Slots.{writes_since}
use Rattle.settle_write_counts.specs.Scheduler.Pods.{pods_writes}
use Rattle.settle_pays.specs.Pays.Pays.{DecisionsPay, IsPayer}

-- one where it holds
abbrev pub one_if : Bool → ℕ
one_if true = 1
one_if false = 0

-- how often a node stands among the annotations: once at most, but nothing says so of the claims of every history
abbrev pub selections_in : List Pair → ℕ
selections_in [] = 0
selections_in (p ∷ ps) = one_if (is_eq (text_cmp (pair_key p) selected_node)) + selections_in ps

-- and so among those of a claim; other objects have none
abbrev pub nodes_on : Object → ℕ
nodes_on (Claim c) = selections_in c.meta.annotations
nodes_on o = 0

-- how many nodes are selected for claims
abbrev pub nodes_in : World → ℕ
nodes_in w = total nodes_on w.store.rows

-- the annotations of each claim are in order, as those that a text gives are
abbrev pub AnnotationsAreInOrder : World → Type 0
AnnotationsAreInOrder w = (key : Key) (c : ClaimData) → row_at key w.store.rows ≡ Some (Claim c) → ArePairs c.meta.annotations

-- then no claim has two
abbrev pub NodesAreFew : Type 0
NodesAreFew = (w : World) → AreRows w.store.rows → AnnotationsAreInOrder w → nodes_in w ≤ claims_in w.store.rows

-- what may still be written: what is left to do, and the nodes that may be taken back
abbrev pub to_write : Setup → World → ℕ
to_write setup w = work_left setup w + nodes_in w

-- an actor that is no scheduler and no provisioner, run with nothing under way: each of its writes leaves less to do. One that was told that
-- its epoch is stale makes no call
abbrev pub OthersWriteLittle : Type 0
OthersWriteLittle =
    (setup : Setup) (lets : Lets) (seat : ℕ) (old after : ActorState) (h past : List Entry) (b left : ℕ) (idle : Bool) → IsBuiltKind old.role.kind
    → old.role.kind ≢ seats.Scheduler → old.role.kind ≢ seats.Ops → IsRunOf setup past
    → (old.memory.stale ≡ false → old.under ≡ None) → DecisionsPay setup seat old.role → Runs lets seat after past left idle (woken old) h b
    → writes_since setup h past + work_left setup (world setup past) ≤ work_left setup (world setup h)

-- nor does it select a node
abbrev pub OthersSelectNone : Type 0
OthersSelectNone =
    (setup : Setup) (lets : Lets) (seat : ℕ) (old after : ActorState) (h past : List Entry) (b left : ℕ) (idle : Bool) → IsBuiltKind old.role.kind
    → old.role.kind ≢ seats.Scheduler → old.role.kind ≢ seats.Ops → IsRunOf setup past
    → Runs lets seat after past left idle (woken old) h b → nodes_in (world setup past) ≤ nodes_in (world setup h)

-- the provisioner and reclaimer: a node that it takes back is one less, and a phase Failed is written for a planned fault that came
abbrev pub OpsWriteLittle : Type 0
OpsWriteLittle =
    (setup : Setup) (lets : Lets) (seat : ℕ) (old after : ActorState) (h past : List Entry) (b left : ℕ) (idle : Bool) → old.role.kind ≡ seats.Ops → IsRunOf setup past
    → (old.memory.stale ≡ false → old.under ≡ None) → DecisionsPay setup seat old.role → Runs lets seat after past left idle (woken old) h b
    → writes_since setup h past + to_write setup (world setup past) ≤ to_write setup (world setup h)

-- a scheduler selects no more nodes than it writes
abbrev pub SchedulersSelectFew : Type 0
SchedulersSelectFew =
    (setup : Setup) (lets : Lets) (seat : ℕ) (old after : ActorState) (h past : List Entry) (b left : ℕ) (idle : Bool)
    → old.role.kind ≡ seats.Scheduler → IsRunOf setup past → Runs lets seat after past left idle (woken old) h b
    → nodes_in (world setup past) ≤ nodes_in (world setup h) + writes_since setup h past

-- a round of all actors of a drain, each of which pays and begins with nothing under way: what the scheduler may write counts twice, since ops
-- may take each node back
abbrev pub RoundsWriteLittle : Type 0
RoundsWriteLittle =
    (setup : Setup) (lets : Lets) (round : RoundOf lets) → AreRoles (roles_of round.drainers) → IsRunOf setup round.past
    → ((place : ℕ) (d : Drainer) → slice_get round.drainers place ≡ Some d → IsPayer setup d) → pods_writes (world setup round.start) ≤ 512
    → writes_since setup round.start round.past + to_write setup (world setup round.past)
    ≤ to_write setup (world setup round.start) + 2 * pods_writes (world setup round.start)
