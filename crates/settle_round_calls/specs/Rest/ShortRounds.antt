-- How many calls a round makes at most: the stated number.
-- A choice of this project.
use Rattle.std.specs.Prelude.{ℕ, ◌≤◌, ◌+◌, ◌*◌, ◌-◌, List, length, ⊤}
use Rattle.call_types.specs.declared.entry.Entry.{Entry}
use Rattle.call_types.specs.declared.setup.Setup.{Setup}
use Rattle.binder_model.specs.World.{World, world}
use Rattle.settle_measure.specs.Left.Measure.{faults_left}
use Rattle.actor_rounds.specs.declared.drainers.Drainer.{Drainer}
use Rattle.actor_rounds.specs.Rounds.{Drains, Goes, IsSpent, Lets, NothingDue}
use Rattle.settle_calls.specs.Slots.Rounds.{size_of_world}

-- ---- what is listed again

-- how many calls a sweep of ops costs at most beyond those that the writes before it have left: the kinds that it follows are listed again where it
-- made 513 writes since it read them, and each of these has seven calls left for its event, which is never told. What is listed costs it two for each
-- claim, three for each volume that has ended, and six for each of its four kinds
unfoldable pub sweep_calls : ℕ → ℕ → ℕ
sweep_calls claims volumes = (2 * claims + 3 * volumes + 24) - 7 * 513

-- and a sweep of an agent, which follows pods alone
unfoldable pub agent_sweep_calls : ℕ → ℕ
agent_sweep_calls pods = (3 * pods + 3) - 7 * 513

-- ---- by the sizes

-- 256 for each object, each claim that a pod names, each planned fault that is ahead, and 16 more
abbrev pub stated_calls : Setup → World → ℕ
stated_calls setup w = 256 * (size_of_world w + faults_left setup w.devices + 16)

-- a world whose rounds are short: it has at most 8,192 objects, however many claims the pods name and faults are planned
abbrev pub HasShortRounds : World → Type 0
HasShortRounds w = length w.store.rows ≤ 8192

-- such is each with at most 512 objects and claims that pods name
abbrev pub SmallWorldsHaveShortRounds : Type 0
SmallWorldsHaveShortRounds = (w : World) → size_of_world w ≤ 512 → HasShortRounds w

-- ---- drains

-- each round of the drain that begins so is short
abbrev pub EachRoundIsShort : (lets : Lets) (setup : Setup) (after : List Drainer) (past : List Entry) (left : ℕ) (ds : List Drainer)
    (h : List Entry) (b : ℕ) → Drains lets setup after past left ds h b → Type 0
EachRoundIsShort lets setup after past left ds h b (NothingDue settled same entries rest) = ⊤
EachRoundIsShort lets setup after past left ds h b (IsSpent first due none same entries rest) = ⊤
EachRoundIsShort lets setup after past left ds h b (Goes first due some between middle rest whole round more) =
    (HasShortRounds (world setup h) → b ≤ rest + stated_calls setup (world setup h)) × EachRoundIsShort lets setup after past left between middle rest more
