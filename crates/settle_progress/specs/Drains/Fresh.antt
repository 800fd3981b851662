-- Drainers whose seats have no entries yet: none is silent, and none is a stale agent.
-- A choice of this project.
use Rattle.std.specs.Prelude.{ℕ, ◌≡◌, List}
use Rattle.call_types.specs.declared.entry.Entry.{Entry}
use Rattle.call_types.specs.declared.setup.Setup.{Setup}
use Rattle.binder_model.specs.Told.{SomeOf}
use Rattle.actor_rounds.specs.declared.drainers.Drainer.{Drainer}
use Rattle.actor_rounds.specs.Drainers.{AreStanding, HaveNoEntries, seats_of}
use Rattle.settle_progress.specs.Epochs.Silent.{OnlyOvertakenAreSilent}
use Rattle.settle_progress.specs.Drains.Rounds.{HasCurrent}

-- and of each node that they have there is an agent that is no stale one
abbrev pub FreshDrainersServe : Type 0
FreshDrainersServe =
    (setup : Setup) (ds : List Drainer) (past : List Entry) (stand : AreStanding ds past) → HaveNoEntries (seats_of ds) past
    → OnlyOvertakenAreSilent setup ds past × ((node : List ℕ) → SomeOf (λ n. n ≡ node) stand.roles.nodes → HasCurrent setup ds past node)
