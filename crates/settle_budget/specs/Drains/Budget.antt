-- The budget with which a drain of few rounds ends settled.
-- A choice of this project.
use Rattle.std.specs.Prelude.{ℕ, ◌≡◌, ◌≤◌, ◌+◌, ◌*◌, List, ◌++◌, length}
use Rattle.call_types.specs.declared.entry.Entry.{Entry}
use Rattle.call_types.specs.declared.setup.Setup.{Setup}
use Rattle.binder_model.specs.Due.{IsSettled}
use Rattle.binder_model.specs.Promises.{IsRunOf}
use Rattle.binder_model.specs.World.{World, world}
use Rattle.settle_measure.specs.Left.Measure.{claims_in, faults_left, work_left}
use Rattle.actor_rounds.specs.declared.drainers.Drainer.{Drainer}
use Rattle.actor_rounds.specs.Drainers.{AreAtRest}
use Rattle.actor_rounds.specs.Rounds.{Drains, Lets}
use Rattle.settle_calls.specs.Slots.Rounds.{size_of_world}
use Rattle.settle_calls.specs.Slots.Slots.{PassesReads}
use Rattle.settle_write_counts.specs.Rounds.Counts.{AnnotationsAreInOrder, to_write}
use Rattle.settle_progress.specs.Drains.Settling.{MayDrain}
use Rattle.settle_pays.specs.Drains.All.{ImportsAllow}
use Rattle.settle_write_counts.specs.Rounds.Rounds.{most_size, pods_size}
use Rattle.settle_budget.specs.Drains.Drains.{rounds_in}

-- the annotations of claims are in order in each world of the history. Each text gives them so, and no controller puts them out of order
abbrev pub AreAlwaysInOrder : Setup → List Entry → Type 0
AreAlwaysInOrder setup past = (newer older : List Entry) → past ≡ newer ++ older → AnnotationsAreInOrder (world setup older)

-- ---- calls

-- what a round of so many actors costs beside its writes, by the size of the world and by the pods with the claims that they name
abbrev pub round_calls : ℕ → ℕ → ℕ → ℕ
round_calls actors size pods = 46 * pods + actors * (3 * size + 62)

-- the most that a round of the drain may write
abbrev pub round_writes : Setup → World → ℕ
round_writes setup w = work_left setup w + claims_in w.store.rows + 2 * pods_size w

-- the drain has so many sweeps, in each of which five kinds are listed again. They come after 513 writes of a round. Since a round in which
-- no work is done writes less, they are paid by work
pub record CostsLittle (setup : Setup) (h past : List Entry) (b left actors rounds : ℕ) : Type 0 where
  pub sweeps : ℕ
  pub paid : 513 * sweeps + work_left setup (world setup past) ≤ work_left setup (world setup h) + (claims_in (world setup h).store.rows + 2 * pods_size (world setup h)) * sweeps
  pub calls : b + 23 * to_write setup (world setup past)
      ≤ left + (23 * to_write setup (world setup h) + rounds * round_calls actors (most_size (world setup h)) (pods_size (world setup h)) + 5 *
      ((3 * most_size (world setup h) + 3 * round_writes setup (world setup h) + 7) * sweeps))

-- so much a drain costs that begins with nothing under way, with pods and named claims of at most 512 together, and with so many rounds
abbrev pub DrainsCostLittle : Type 0
DrainsCostLittle =
    (setup : Setup) (lets : Lets) (ds after : List Drainer) (h past : List Entry) (b left : ℕ) → ImportsAllow setup → MayDrain setup h ds
    → AreAtRest ds → IsRunOf setup past → PassesReads lets → AreAlwaysInOrder setup past
    → pods_size (world setup h) ≤ 512 → (drained : Drains lets setup after past left ds h b) → CostsLittle setup h past b left (length ds) (rounds_in lets setup after past left ds h b drained)

-- ---- the budget

-- the stated budget, by the size of the world with which the drain begins and by the planned faults that are ahead
abbrev pub enough_calls : ℕ → ℕ → ℕ
enough_calls size faults = 16384 * ((size + 16) * (size + 16)) * (faults + 1)

-- the worlds whose budget can be said on the command line are smaller
abbrev pub IsSmallWorld : Setup → World → Type 0
IsSmallWorld setup w = 2 * size_of_world w + faults_left setup w.devices ≤ 512

-- ten rounds for each thing left to do, as many as nodes may be tried in between, twenty for each object and each claim that a pod names, and
-- ten more
abbrev pub most_rounds : Setup → World → ℕ
most_rounds setup w = 10 * work_left setup w + 20 * size_of_world w + 10

-- a drain of no more rounds ends settled: its actors are the five controllers, and the agents of eight nodes at most
abbrev pub FewRoundsSettle : Type 0
FewRoundsSettle =
    (setup : Setup) (lets : Lets) (ds after : List Drainer) (h past : List Entry) (b left : ℕ) → ImportsAllow setup → MayDrain setup h ds
    → AreAtRest ds → IsRunOf setup past → PassesReads lets → AreAlwaysInOrder setup past
    → IsSmallWorld setup (world setup h) → length ds ≤ 13 → (drained : Drains lets setup after past left ds h b)
    → rounds_in lets setup after past left ds h b drained ≤ most_rounds setup (world setup h)
    → enough_calls (size_of_world (world setup h)) (faults_left setup (world setup h).devices) ≤ b → IsSettled setup (world setup past)
