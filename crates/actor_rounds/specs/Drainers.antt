-- The actors of a drain: their seats and roles, and that each stands for its seat's entries.
-- A choice of this project.
use Rattle.std.specs.Prelude.{ℕ, ◌≡◌, ◌<◌, ◌+◌, false, List, [], ◌∷◌, ◌++◌, None, Some, length, map, slice_get, ⊤}
use Rattle.call_types.specs.declared.entry.Entry.{Entry}
use Rattle.call_types.specs.declared.request.SeatKind.{SeatKind}
use Rattle.call_types.specs.declared.request.SeatKind.TheVariants as seats
use Rattle.binder_model.specs.Told.{own}
use Rattle.worker_core.specs.declared.role.Role.{Role}
use Rattle.worker_core.specs.Stands.{IsNew, MayBeIdle, StandsFor}
use Rattle.worker_core.specs.States.{ActorState}
use Rattle.attention_law.specs.Queues.{QueueStands}
use Rattle.actor_rounds.specs.declared.drainers.Drainer.{Drainer}

-- the seats of the drain's actors
abbrev pub seats_of : List Drainer → List ℕ
seats_of ds = map (λ (d : Drainer). d.seat) ds

-- there is a seat, and none stands twice
pub record AreSeats (seats : List ℕ) : Type 0 where
  pub some : 0 < length seats
  pub differ : (i j seat : ℕ) → slice_get seats i ≡ Some seat → slice_get seats j ≡ Some seat → i ≡ j

-- the roles of the drain's actors
abbrev pub roles_of : List Drainer → List Role
roles_of ds = map (λ (d : Drainer). d.actor.role) ds

-- ---- which actors there are

-- a role of this kind that serves no node
abbrev pub of_kind : SeatKind → Role
of_kind kind = record { kind = kind; node = [] }

-- the role of a node's agent
abbrev pub agent_of : List ℕ → Role
agent_of node = record { kind = seats.Agent; node = node }

-- in the order of a round: the scheduler, ops, the binder, claim protection, volume protection, and an agent of each node. Only
-- agents serve a node
abbrev pub roles_for : List (List ℕ) → List Role
roles_for nodes = of_kind seats.Scheduler ∷ of_kind seats.Ops ∷ of_kind seats.Binder ∷ of_kind seats.ClaimProtect ∷ of_kind seats.VolumeProtect ∷ map agent_of nodes

-- the roles are those, for some nodes
pub record AreRoles (roles : List Role) : Type 0 where
  pub nodes : List (List ℕ)
  pub are : roles ≡ roles_for nodes

-- the seat, and one more for each node
abbrev pub seats_from : ℕ → List (List ℕ) → List ℕ
seats_from seat [] = []
seats_from seat (node ∷ nodes) = seat ∷ seats_from (seat + 1) nodes

-- their seats are counted in another order: binder, ops, scheduler, claim protection, volume protection, agents by node
abbrev pub seats_for : ℕ → List (List ℕ) → List ℕ
seats_for first nodes = (first + 2) ∷ (first + 1) ∷ first ∷ (first + 3) ∷ (first + 4) ∷ seats_from (first + 5) nodes

-- ---- what they stand for

-- the actor stands for the entries, each key stands once in its queue, and what is taken there is what it has under way
pub record StandsWhole (s : ActorState) (mine : List Entry) : Type 0 where
  pub told : StandsFor s mine
  pub queue : QueueStands s

-- the actor stands whole for the entries of its seat
abbrev pub IsStanding : Drainer → List Entry → Type 0
IsStanding d past = StandsWhole d.actor (own d.seat past)

-- each does, and there are all that a drain has. So the first is no agent: an agent whose node was taken by another makes no
-- more calls
pub record AreStanding (ds : List Drainer) (past : List Entry) : Type 0 where
  pub each : (place : ℕ) (d : Drainer) → slice_get ds place ≡ Some d → IsStanding d past
  pub roles : AreRoles (roles_of ds)

-- the actor may be idle: none of its kinds has news
abbrev pub IsIdleNow : Drainer → List Entry → Type 0
IsIdleNow d past = MayBeIdle d.actor.role d.actor.memory (own d.seat past)

-- each of the drain's actors is idle
abbrev pub AreIdle : List Drainer → List Entry → Type 0
AreIdle ds past = (place : ℕ) (d : Drainer) → slice_get ds place ≡ Some d → IsIdleNow d past

-- none of these has anything under way, unless it is an agent that is silent, since its node was taken by another
abbrev pub AreAtRest : List Drainer → Type 0
AreAtRest ds = (place : ℕ) (d : Drainer) → slice_get ds place ≡ Some d → d.actor.memory.stale ≡ false → d.actor.under ≡ None

-- none of these seats has an entry
abbrev pub HaveNoEntries : List ℕ → List Entry → Type 0
HaveNoEntries [] past = ⊤
HaveNoEntries (seat ∷ seats) past = (own seat past ≡ []) × HaveNoEntries seats past

-- a new actor of the kind, at the seat, that serves the node
pub record IsNewAt (kind : SeatKind) (node : List ℕ) (seat : ℕ) (d : Drainer) : Type 0 where
  pub at : d.seat ≡ seat
  pub is_new : IsNew (record { kind = kind; node = node }) d.actor
  pub stands : StandsFor d.actor []

-- such an actor, which serves no node, stands behind those before
pub record IsAdded (kind : SeatKind) (seat : ℕ) (before after : List Drainer) : Type 0 where
  pub worker : Drainer
  pub are : after ≡ before ++ worker ∷ []
  pub new : IsNewAt kind [] seat worker

-- new agents of these nodes, in the order of the nodes, at the seats from this one on
abbrev pub AreNewAgents : ℕ → List (List ℕ) → List Drainer → Type 0
AreNewAgents seat [] ds = ds ≡ []
AreNewAgents seat (node ∷ nodes) [] = ⊥
AreNewAgents seat (node ∷ nodes) (d ∷ ds) = IsNewAt seats.Agent node seat d × AreNewAgents (seat + 1) nodes ds

-- such agents stand behind those before
pub record AreAdded (seat : ℕ) (nodes : List (List ℕ)) (before after : List Drainer) : Type 0 where
  pub agents : List Drainer
  pub are : after ≡ before ++ agents
  pub new : AreNewAgents seat nodes agents

-- new actors, in the order of a round
pub record AreNew (first_seat : ℕ) (nodes : List (List ℕ)) (ds : List Drainer) : Type 0 where
  pub scheduler : Drainer
  pub ops : Drainer
  pub binder : Drainer
  pub claims : Drainer
  pub volumes : Drainer
  pub agents : List Drainer
  pub are : ds ≡ scheduler ∷ ops ∷ binder ∷ claims ∷ volumes ∷ agents
  pub scheduler_is : IsNewAt seats.Scheduler [] (first_seat + 2) scheduler
  pub ops_is : IsNewAt seats.Ops [] (first_seat + 1) ops
  pub binder_is : IsNewAt seats.Binder [] first_seat binder
  pub claims_is : IsNewAt seats.ClaimProtect [] (first_seat + 3) claims
  pub volumes_is : IsNewAt seats.VolumeProtect [] (first_seat + 4) volumes
  pub agents_are : AreNewAgents (first_seat + 5) nodes agents
