-- What an actor remembers beside its caches: an agent its epoch, its mounts and whether it was told that its epoch is
-- stale, a scheduler the nodes that it selected for claims and those that were refused. It is what the entries of its seat
-- tell.
-- A choice of this project, after the volume manager of kubelet and the scheduler's volume binding plugin.
use Rattle.std.specs.Prelude.{ℕ, Bool, true, false, not, ◌||◌, List, [], ◌∷◌, Option, Some, None, is_none, if◌then◌else◌}
use Rattle.call_types.specs.declared.entry.Entry.{Entry}
use Rattle.call_types.specs.declared.request.Request.{Request}
use Rattle.call_types.specs.declared.request.SeatKind.{SeatKind}
use Rattle.call_types.specs.declared.request.SeatKind.TheVariants as seats
use Rattle.call_types.specs.declared.reply.MountRow.{MountRow}
use Rattle.call_types.specs.declared.reply.Refusal.TheVariants.{StaleEpoch}
use Rattle.call_types.specs.declared.reply.Reply.{Reply}
use Rattle.call_types.specs.declared.reply.Reply.TheVariants.{Mounted, Refused}
use Rattle.binder_model.specs.AgentLicence.{epoch_told, is_of_epoch}
use Rattle.binder_model.specs.Told.{first_some}
use Rattle.pod_scheduler.specs.declared.tries.Tries.{Tries}
use Rattle.pod_scheduler.specs.Tries.{no_tries, tries_after}
use Rattle.worker_core.specs.declared.role.Role.{Role}

-- what an actor remembers beside its caches
pub record Memory : Type 0 where
  -- of an agent: the epoch that it was told last, the mounts that were told of it last, and whether it was told StaleEpoch
  pub epoch : Option ℕ
  pub mounts : Option (List MountRow)
  pub stale : Bool
  -- of a scheduler: the nodes that stand selected for claims, and those that were refused
  pub tries : Tries

-- what an actor remembers at first
abbrev pub no_memory : Memory
no_memory = record { epoch = None; mounts = None; stale = false; tries = no_tries }

-- an agent

-- the mounts of the node, where the request is one of the epoch
abbrev pub mounts_told : List ℕ → Option ℕ → Request → Reply → Option (List MountRow)
mounts_told node (Some epoch) request (Mounted rows) = if is_of_epoch node epoch request then Some rows else None
mounts_told node epoch request reply = None

-- the reply says that another agent has taken the node
abbrev pub is_stale_told : Reply → Bool
is_stale_told (Refused (StaleEpoch current)) = true
is_stale_told reply = false

-- a new epoch begins with no mounts told
abbrev pub mounts_after : Bool → Option (List MountRow) → Option (List MountRow) → Option (List MountRow)
mounts_after true told before = None
mounts_after false told before = first_some told before

-- what an agent remembers after an answer
abbrev pub agent_remembers : List ℕ → Request → Reply → Memory → Memory
agent_remembers node request reply m = record m {
  epoch = first_some (epoch_told node request reply) m.epoch;
  mounts = mounts_after (not (is_none (epoch_told node request reply))) (mounts_told node m.epoch request reply) m.mounts;
  stale = m.stale || is_stale_told reply;
}

-- a scheduler

-- what a scheduler remembers after an answer
abbrev pub scheduler_remembers : Request → Reply → Memory → Memory
scheduler_remembers request reply m = record m { tries = tries_after request reply m.tries }

-- any actor: what it remembers after an answer, and what the entries of its seat tell

-- what an actor of this kind remembers after an answer
abbrev pub remembers : SeatKind → List ℕ → Request → Reply → Memory → Memory
remembers seats.Agent node request reply m = agent_remembers node request reply m
remembers seats.Scheduler node request reply m = scheduler_remembers request reply m
remembers _ node request reply m = m

-- what an actor of this role remembers after an answer
abbrev pub memory_after : Role → Request → Reply → Memory → Memory
memory_after role request reply m = remembers role.kind role.node request reply m

-- what the entries tell; one that did not reach the seat tells nothing
abbrev pub memory_of : Role → List Entry → Memory
memory_of role [] = no_memory
memory_of role (e ∷ mine) = if e.told then memory_after role e.request e.reply (memory_of role mine) else memory_of role mine
