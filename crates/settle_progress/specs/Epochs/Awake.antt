-- An agent that is no stale one stays so in a round.
-- A choice of this project.
use Rattle.std.specs.Prelude.{ℕ, ◌≡◌, false, List}
use Rattle.call_types.specs.declared.entry.Entry.{Entry}
use Rattle.call_types.specs.declared.setup.Setup.{Setup}
use Rattle.actor_rounds.specs.declared.drainers.Drainer.{Drainer}
use Rattle.settle_progress.specs.Epochs.Epochs.{IsCurrent}

-- the agent of the node is no stale one: it was not told so, and it took no epoch, or the one that the node has
pub record IsAwake (setup : Setup) (h : List Entry) (node : List ℕ) (d : Drainer) : Type 0 where
  pub fresh : d.actor.memory.stale ≡ false
  pub current : IsCurrent setup h node d.seat
