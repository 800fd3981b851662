-- What a round and a drain do about what is due: an entry lasts, the calls are few, and with the stated budget a drain ends settled.
-- A choice of this project.
use Rattle.std.specs.Prelude.{ℕ, ◌≤◌, ◌⊎◌, List, length, ⊤}
use Rattle.call_types.specs.declared.entry.Entry.{Entry}
use Rattle.call_types.specs.declared.setup.Setup.{Setup}
use Rattle.binder_model.specs.Promises.{IsRunOf}
use Rattle.binder_model.specs.World.{world}
use Rattle.world_core.specs.declared.drained.Drained.{Drained}
use Rattle.world_core.specs.declared.drained.Drained.TheVariants.{Settled, Spent}
use Rattle.settle_writes.specs.Writes.Lasting.{HasLasting}
use Rattle.settle_slot.specs.Slot.Gates.{HoldsMountsAlone}
use Rattle.settle_progress.specs.Epochs.Silent.{OnlyOvertakenAreSilent}
use Rattle.actor_rounds.specs.declared.drainers.Drainer.{Drainer}
use Rattle.actor_rounds.specs.Rounds.{Drains, Lets, all_pass}
use Rattle.settle_progress.specs.Drains.Drained.{EachRoundLasts}
use Rattle.settle_progress.specs.Drains.Held.{LetsMountPass}
use Rattle.settle_progress.specs.Drains.Rounds.{HasDue}
use Rattle.settle_pays.specs.Drains.All.{ImportsAllow}
use Rattle.settle_budget.specs.Drains.Budget.{AreAlwaysInOrder}
use Rattle.settle_budget.specs.Drains.Measured.{SharesWell}
use Rattle.settle_budget.specs.Drains.Rounds.{MaySettle}
use Rattle.settle_budget.specs.Drains.Selections.{HasBudget, NoneProvisionsLate}
use Rattle.settle_round_calls.specs.Rest.ShortRounds.{EachRoundIsShort, HasShortRounds, stated_calls}

-- ---- a round

-- something is due, for an actor that is no stale agent; Mounts alone are held back, and what is due is none of these: then an entry of the
-- round lasts
abbrev pub RoundLasts : Setup → Lets → List Drainer → List Entry → List Entry → Type 0
RoundLasts setup lets ds h past = OnlyOvertakenAreSilent setup ds h → IsRunOf setup past → HoldsMountsAlone lets → (x : HasDue setup ds h)
    → LetsMountPass setup lets h x.object → HasLasting setup h past

-- at most 13 actors, with whatever under way; Mounts alone are held back: then the round makes at most 256 calls for each object, for each
-- claim that a pod names, for each planned fault that is ahead, and for 16 more
abbrev pub RoundIsShort : Setup → Lets → List Drainer → List Entry → List Entry → ℕ → Type 0
RoundIsShort setup lets ds h past made = ImportsAllow setup → IsRunOf setup past → HoldsMountsAlone lets → length ds ≤ 13
    → AreAlwaysInOrder setup past → HasShortRounds (world setup h) → made ≤ stated_calls setup (world setup h)

-- ---- a drain, in which no call is held back

-- each whole round that begins with something due, for an actor that is no stale agent, has an entry that lasts
abbrev pub RoundsOfDrainLast : Setup → List Drainer → List Entry → ℕ → List Drainer → List Entry → ℕ → Type 0
RoundsOfDrainLast setup after past left ds h b = OnlyOvertakenAreSilent setup ds h → (drained : Drains all_pass setup after past left ds h b)
    → EachRoundLasts all_pass setup after past left ds h b drained

-- each round is short, the first too
abbrev pub RoundsOfDrainAreShort : Setup → List Drainer → List Entry → ℕ → List Drainer → List Entry → ℕ → Type 0
RoundsOfDrainAreShort setup after past left ds h b =
    ImportsAllow setup → AreAlwaysInOrder setup past → length ds ≤ 13 → (drained : Drains all_pass setup after past left ds h b) → EachRoundIsShort all_pass setup after past left ds h b drained

-- it ended settled, and not with its budget spent
abbrev pub IsSettledBy : Drained → Type 0
IsSettledBy (Settled made) = ⊤
IsSettledBy (Spent made key due) = ⊥

-- no agent of the drain is stale; each claim that two pods without a node name is completed or of a class that binds at once, or no class
-- that ever stood both binds late and provisions; and the budget is the stated one
abbrev pub DrainSettles : Setup → List Drainer → List Entry → List Entry → ℕ → Drained → Type 0
DrainSettles setup ds h past b drained = ImportsAllow setup → AreAlwaysInOrder setup past → MaySettle setup ds h → SharesWell (world setup h)
    ⊎ NoneProvisionsLate setup past → HasBudget setup ds h b → IsSettledBy drained
