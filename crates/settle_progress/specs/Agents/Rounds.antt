-- A round with an agent for which something is due.
-- A choice of this project.
use Rattle.std.specs.Prelude.{ℕ, ◌≡◌, true, List, Some, slice_get}
use Rattle.kube_objects.specs.declared.key.Key.{Key}
use Rattle.kube_objects.specs.declared.objects.Object.{Object}
use Rattle.kube_objects.specs.Keys.{row_at}
use Rattle.call_types.specs.declared.entry.Entry.{Entry}
use Rattle.call_types.specs.declared.request.SeatKind.TheVariants as seats
use Rattle.call_types.specs.declared.setup.Setup.{Setup}
use Rattle.binder_model.specs.Promises.{IsRunOf}
use Rattle.binder_model.specs.Reading.{follows}
use Rattle.binder_model.specs.World.{world}
use Rattle.actor_rounds.specs.declared.drainers.Drainer.{Drainer}
use Rattle.actor_rounds.specs.Drainers.{AreRoles, agent_of, roles_of}
use Rattle.actor_rounds.specs.Rounds.{IsRound, Lets}
use Rattle.settle_writes.specs.Writes.Lasting.{HasLasting}
use Rattle.settle_slot.specs.Slot.Would.{CallsPass}
use Rattle.settle_progress.specs.Agents.Acts.{AgentWouldActOn}
pub use Rattle.settle_progress.specs.Epochs.Awake.{IsAwake}

-- among these is an agent of the node that is no stale one
pub record HasAwake (setup : Setup) (ds : List Drainer) (start : List Entry) (node : List ℕ) : Type 0 where
  pub place : ℕ
  pub drainer : Drainer
  pub there : slice_get ds place ≡ Some drainer
  pub role : drainer.actor.role ≡ agent_of node
  pub awake : IsAwake setup start node drainer

-- and the agent of the node, at whatever seat, acts on an object that stands, and follows its kind
pub record HasAgent (setup : Setup) (lets : Lets) (ds : List Drainer) (start : List Entry) : Type 0 where
  pub node : List ℕ
  pub agent : HasAwake setup ds start node
  pub key : Key
  pub object : Object
  pub stands : row_at key (world setup start).store.rows ≡ Some object
  pub followed : follows seats.Agent key.kind ≡ true
  pub acts : (seat : ℕ) → AgentWouldActOn setup seat (agent_of node) start key
  pub passes : (seat : ℕ) → CallsPass setup lets seat (agent_of node) start key

-- so a whole round with such an agent has an entry that lasts, by it or by another
abbrev pub AgentRoundsLast : Type 0
AgentRoundsLast =
    (setup : Setup) (lets : Lets) (ds after : List Drainer) (h past : List Entry) (b left : ℕ) → IsRunOf setup past → AreRoles (roles_of ds)
    → IsRound lets past left ds h b after true → HasAgent setup lets ds h → HasLasting setup h past
