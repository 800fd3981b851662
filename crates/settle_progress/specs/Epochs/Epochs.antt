-- The epoch of a node stays once its agent took it: only an agent takes nodes, and only its own.
-- A choice of this project.
use Rattle.std.specs.Prelude.{ℕ, ◌≡◌, ◌⊎◌, Bool, true, List, [], ◌∷◌, ◌++◌, Some, None, is_some, slice_get, ⊤}
use Rattle.call_types.specs.declared.entry.Entry.{Entry}
use Rattle.call_types.specs.declared.request.Request.{Request}
use Rattle.call_types.specs.declared.setup.Setup.{Setup}
use Rattle.binder_model.specs.AgentLicence.{last_epoch}
use Rattle.binder_model.specs.Told.{own}
use Rattle.binder_model.specs.World.{IsHistory}
use Rattle.node_agent.specs.HistoryLaw.{is_take_of}
use Rattle.safety_law.specs.Invariant.Holders.{epoch_now}
use Rattle.worker_core.specs.declared.turn.Next.TheVariants.{Call}
use Rattle.worker_core.specs.Roles.{IsBuiltKind}
use Rattle.worker_core.specs.States.{ActorState}
use Rattle.worker_core.specs.Turns.{IsTurn}
use Rattle.actor_rounds.specs.declared.drainers.Drainer.{Drainer}
use Rattle.actor_rounds.specs.Drainers.{AreRoles, agent_of, roles_of}
use Rattle.actor_rounds.specs.Rounds.{IsReady, IsRound, Lets}

-- the seat was told no epoch of the node, or the one that the node has
abbrev pub IsCurrent : Setup → List Entry → List ℕ → ℕ → Type 0
IsCurrent setup past node seat = (epoch : ℕ) → last_epoch node (own seat past) ≡ Some epoch → epoch ≡ epoch_now setup past node

-- each of these entries that takes the node is the seat's, and its answer was told
abbrev pub TakesAreOwn : ℕ → List ℕ → List Entry → Type 0
TakesAreOwn seat node [] = ⊤
TakesAreOwn seat node (e ∷ newer) = (is_take_of node e.request ≡ true → (e.seat ≡ seat) × (e.told ≡ true)) × TakesAreOwn seat node newer

-- such entries leave the seat its epoch
abbrev pub EpochsStay : Type 0
EpochsStay = (setup : Setup) (newer past : List Entry) (seat : ℕ) (node : List ℕ) → IsHistory setup (newer ++ past) → TakesAreOwn seat node newer
    → IsCurrent setup past node seat → IsCurrent setup (newer ++ past) node seat

-- an actor that takes a node is the agent of that node, and was told no epoch of it
abbrev pub AgentsTakeTheirOwn : Type 0
AgentsTakeTheirOwn =
    (seat : ℕ) (s given : ActorState) (h : List Entry) (request : Request) (node : List ℕ) → IsBuiltKind s.role.kind → IsReady seat s h → IsTurn s given (Call request) → is_take_of node request ≡ true
    → (s.role ≡ agent_of node) × (last_epoch node (own seat h) ≡ None)

-- the agent of the node takes it no more: it was told that its epoch is stale, or was told an epoch of the node
abbrev pub TakesNoMore : List ℕ → ℕ → ActorState → List Entry → Type 0
TakesNoMore node seat s h = (s.memory.stale ≡ true) ⊎ (is_some (last_epoch node (own seat h)) ≡ true)

-- so a round leaves the agent of a node its epoch, where no other of the round that serves that node is still to take it
abbrev pub RoundsKeepEpochs : Type 0
RoundsKeepEpochs =
    (setup : Setup) (lets : Lets) (ds after : List Drainer) (h past : List Entry) (b left : ℕ) (whole : Bool) (seat : ℕ) (node : List ℕ)
    → IsHistory setup past → AreRoles (roles_of ds) → IsRound lets past left ds h b after whole
    → ((place : ℕ) (d : Drainer) → slice_get ds place ≡ Some d → d.actor.role ≡ agent_of node → (d.seat ≡ seat) ⊎ TakesNoMore node d.seat d.actor h)
    → IsCurrent setup h node seat → IsCurrent setup past node seat
