-- How many calls a round makes at most, whatever its actors have under way as it begins.
-- A choice of this project.
use Rattle.std.specs.Prelude.{ℕ, ◌≤◌, ◌+◌, List, length}
use Rattle.call_types.specs.declared.entry.Entry.{Entry}
use Rattle.call_types.specs.declared.setup.Setup.{Setup}
use Rattle.binder_model.specs.Promises.{IsRunOf}
use Rattle.binder_model.specs.World.{world}
use Rattle.actor_rounds.specs.declared.drainers.Drainer.{Drainer}
use Rattle.actor_rounds.specs.Drainers.{AreRoles, roles_of}
use Rattle.actor_rounds.specs.Rounds.{Drains, Lets, RoundOf}
use Rattle.settle_slot.specs.Slot.Gates.{HoldsMountsAlone}
use Rattle.settle_progress.specs.Drains.Settling.{MayDrain}
use Rattle.settle_pays.specs.Drains.All.{ImportsAllow}
use Rattle.settle_budget.specs.Drains.Budget.{AreAlwaysInOrder}
use Rattle.settle_round_calls.specs.Rest.ShortRounds.{EachRoundIsShort, HasShortRounds, stated_calls}

-- a round of at most 13 actors, those of a drain with at most eight agents, that begins in a world of at most 8,192 objects, with whatever under way
abbrev pub EveryRoundIsShort : Type 0
EveryRoundIsShort =
    (setup : Setup) (lets : Lets) (round : RoundOf lets) → ImportsAllow setup → AreRoles (roles_of round.drainers) → IsRunOf setup round.past
    → HoldsMountsAlone lets → length round.drainers ≤ 13 → AreAlwaysInOrder setup round.past → HasShortRounds (world setup round.start)
    → round.budget ≤ round.left + stated_calls setup (world setup round.start)

-- so is each round of a drain, the first too
abbrev pub EveryDrainedRoundIsShort : Type 0
EveryDrainedRoundIsShort =
    (setup : Setup) (lets : Lets) (ds after : List Drainer) (h past : List Entry) (b left : ℕ) → ImportsAllow setup → MayDrain setup h ds
    → IsRunOf setup past → HoldsMountsAlone lets → AreAlwaysInOrder setup past → length ds ≤ 13
    → (drained : Drains lets setup after past left ds h b) → EachRoundIsShort lets setup after past left ds h b drained
