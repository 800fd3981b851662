-- An agent is silent only where its node was taken by another: so one that took no epoch but the node's is no stale one.
-- A choice of this project.
use Rattle.std.specs.Prelude.{ℕ, ◌≡◌, ◌<◌, Bool, true, List, Some, slice_get}
use Rattle.call_types.specs.declared.entry.Entry.{Entry}
use Rattle.call_types.specs.declared.setup.Setup.{Setup}
use Rattle.binder_model.specs.AgentLicence.{last_epoch}
use Rattle.binder_model.specs.Promises.{IsRunOf}
use Rattle.binder_model.specs.Told.{own}
use Rattle.safety_law.specs.Invariant.Holders.{epoch_now}
use Rattle.actor_rounds.specs.declared.drainers.Drainer.{Drainer}
use Rattle.actor_rounds.specs.Drainers.{AreSeats, agent_of, seats_of}
use Rattle.actor_rounds.specs.Rounds.{IsRound, Lets}
use Rattle.settle_progress.specs.Epochs.Awake.{IsAwake}
use Rattle.settle_progress.specs.Epochs.Epochs.{IsCurrent}

-- the seat was told an epoch of the node, which has a later one
pub record WasOvertaken (setup : Setup) (h : List Entry) (node : List ℕ) (seat : ℕ) : Type 0 where
  pub epoch : ℕ
  pub told : last_epoch node (own seat h) ≡ Some epoch
  pub before : epoch < epoch_now setup h node

-- each agent that is silent was overtaken on its node
abbrev pub OnlyOvertakenAreSilent : Setup → List Drainer → List Entry → Type 0
OnlyOvertakenAreSilent setup ds h =
    (place : ℕ) (d : Drainer) (node : List ℕ) → slice_get ds place ≡ Some d → d.actor.role ≡ agent_of node → d.actor.memory.stale ≡ true → WasOvertaken setup h node d.seat

-- so a round leaves them, whole or not
abbrev pub RoundsSilenceTheOvertaken : Type 0
RoundsSilenceTheOvertaken =
    (setup : Setup) (lets : Lets) (ds after : List Drainer) (h past : List Entry) (b left : ℕ) (whole : Bool) → IsRunOf setup past
    → AreSeats (seats_of ds) → IsRound lets past left ds h b after whole → OnlyOvertakenAreSilent setup ds h → OnlyOvertakenAreSilent setup after past

-- and an agent that took no epoch but the one that its node has is then no stale one
abbrev pub CurrentAreAwake : Type 0
CurrentAreAwake =
    (setup : Setup) (ds : List Drainer) (h : List Entry) (place : ℕ) (d : Drainer) (node : List ℕ) → OnlyOvertakenAreSilent setup ds h
    → slice_get ds place ≡ Some d → d.actor.role ≡ agent_of node → IsCurrent setup h node d.seat → IsAwake setup h node d
