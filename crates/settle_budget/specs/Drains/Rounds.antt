-- How many rounds a drain makes: each lowers what may still be written, or selects a node.
-- A choice of this project.
use Rattle.std.specs.Prelude.{ℕ, ◌≡◌, ◌≤◌, ◌+◌, ◌*◌, Bool, List, [], ◌∷◌, ◌++◌, Some, slice_get, ⊤}
use Rattle.kube_objects.specs.declared.objects.Object.TheVariants.{Claim}
use Rattle.call_types.specs.declared.entry.Entry.{Entry}
use Rattle.call_types.specs.declared.request.Request.{Request}
use Rattle.call_types.specs.declared.request.Request.TheVariants.{Update}
use Rattle.call_types.specs.declared.request.SeatKind.{SeatKind}
use Rattle.call_types.specs.declared.request.SeatKind.TheVariants as seats
use Rattle.call_types.specs.declared.setup.Setup.{Setup}
use Rattle.binder_model.specs.Promises.{IsRunOf}
use Rattle.binder_model.specs.World.{world}
use Rattle.worker_core.specs.declared.role.Role.{Role}
use Rattle.worker_core.specs.Roles.{IsBuiltKind}
use Rattle.actor_rounds.specs.declared.drainers.Drainer.{Drainer}
use Rattle.actor_rounds.specs.Drainers.{AreAtRest, AreRoles, agent_of, roles_of}
use Rattle.actor_rounds.specs.Rounds.{Drains, IsRound, Lets, all_pass}
use Rattle.settle_writes.specs.Writes.Lasting.{HasLasting}
use Rattle.settle_progress.specs.Epochs.Silent.{OnlyOvertakenAreSilent}
use Rattle.settle_budget.specs.Nodes.Nodes.{WasGiven}
use Rattle.settle_progress.specs.Drains.Rounds.{HasCurrent}
use Rattle.settle_progress.specs.Drains.Settling.{MayDrain}
use Rattle.settle_pays.specs.Pays.Pays.{AllPay}
use Rattle.settle_pays.specs.Drains.All.{ImportsAllow}
use Rattle.settle_write_counts.specs.Rounds.Counts.{to_write}
use Rattle.settle_budget.specs.Drains.Drains.{rounds_in}

-- ---- what entries lower

-- the scheduler asks to select a node for a claim
abbrev pub selects_node : SeatKind → Request → ℕ
selects_node seats.Scheduler (Update (Claim c) given) = 1
selects_node kind request = 0

-- how many nodes these entries ask to select
abbrev pub selected_in : List Entry → ℕ
selected_in [] = 0
selected_in (e ∷ es) = selects_node e.kind e.request + selected_in es

-- each of these entries is an actor's
abbrev pub AreOfActors : List Entry → Type 0
AreOfActors [] = ⊤
AreOfActors (e ∷ es) = IsBuiltKind e.kind × AreOfActors es

-- what may still be written rose by no more than the nodes that were selected since, and beside these it fell where an entry lasts
pub record IsLowered (setup : Setup) (earlier newer : List Entry) : Type 0 where
  pub stays : to_write setup (world setup (newer ++ earlier)) ≤ to_write setup (world setup earlier) + selected_in newer
  pub falls : HasLasting setup earlier (newer ++ earlier) → to_write setup (world setup (newer ++ earlier)) + 1 ≤ to_write setup (world setup earlier) + 2 * selected_in newer

-- so entries of actors do that pay
abbrev pub PaidEntriesLower : Type 0
PaidEntriesLower = (setup : Setup) (newer earlier : List Entry) → IsRunOf setup (newer ++ earlier) → AreOfActors newer → AllPay setup newer earlier → IsLowered setup earlier newer

-- ---- agents

-- each node that was given has an agent among these that is no stale one
abbrev pub AreNodesServed : Setup → List Drainer → List Entry → Type 0
AreNodesServed setup ds h = (node : List ℕ) → WasGiven setup h node → HasCurrent setup ds h node

-- no two of these are agents of one node
abbrev pub AreNodesApart : List Role → Type 0
AreNodesApart roles = (i j : ℕ) (node : List ℕ) → slice_get roles i ≡ Some (agent_of node) → slice_get roles j ≡ Some (agent_of node) → i ≡ j

-- a round leaves it so
abbrev pub RoundsServeNodes : Type 0
RoundsServeNodes =
    (setup : Setup) (lets : Lets) (ds after : List Drainer) (h past : List Entry) (b left : ℕ) (whole : Bool) → IsRunOf setup past
    → AreRoles (roles_of ds) → AreNodesApart (roles_of ds) → IsRound lets past left ds h b after whole
    → AreNodesServed setup ds h → AreNodesServed setup after past

-- ---- rounds

-- a drain of these may begin here, with nothing under way, and an agent for each node
pub record MaySettle (setup : Setup) (ds : List Drainer) (h : List Entry) : Type 0 where
  pub may : MayDrain setup h ds
  pub rests : AreAtRest ds
  pub only : OnlyOvertakenAreSilent setup ds h
  pub apart : AreNodesApart (roles_of ds)
  pub served : AreNodesServed setup ds h

-- it makes few rounds: the last may have spent the budget, and each other lowers what may still be written, or selects a node
abbrev pub RoundsAreCounted : Type 0
RoundsAreCounted =
    (setup : Setup) (ds after : List Drainer) (h past newer : List Entry) (b left : ℕ) → ImportsAllow setup → MaySettle setup ds h
    → IsRunOf setup past → past ≡ newer ++ h → (drained : Drains all_pass setup after past left ds h b)
    → rounds_in all_pass setup after past left ds h b drained + to_write setup (world setup past) ≤ 1 + to_write setup (world setup h) + 2 * selected_in newer
