-- Whose calls the history of a run on threads has with its drain: a case that holds, and cases beside it that do not. The newest
-- entry stands first. A choice of this project.
use Rattle.std.specs.Prelude.{ℕ, List, [], ◌∷◌, None}
use Rattle.kube_parts.specs.declared.parts.Kind.TheVariants.{Node, PersistentVolume, Pod}
use Rattle.call_types.specs.declared.entry.Entry.{Entry}
use Rattle.call_types.specs.declared.request.SeatKind.TheVariants as seats
use Rattle.world_core.specs.declared.drained.Drained.{Drained}
use Rattle.world_core.specs.declared.drained.Drained.TheVariants.{Settled}
use Rattle.script_threads.specs.Examples.{asks, entry}
use Rattle.script_threads.specs.Runs.{IsRun}
use Rattle.run_examples.specs.Threads.Works.{small}

-- with one worker of each kind, which make no calls: the drain's seats are 11 to 16, an agent's the last
abbrev pub IsSmallRun : List Entry → Drained → Type 0
IsSmallRun past ending = IsRun small 1 0 None past ending

-- the users' calls
abbrev pub both : List Entry
both = asks 2 Node ∷ asks 1 Pod ∷ []

-- and then a scheduler's, at this seat
abbrev pub with_scheduler : ℕ → List Entry
with_scheduler seat = entry seat seats.Scheduler PersistentVolume ∷ both

pub record RunExamples : Type 0 where
  pub nothing_is_due_after_the_users : IsSmallRun both (Settled 0)
  pub not_without_a_users_line : (ending : Drained) → IsSmallRun (asks 1 Pod ∷ []) ending → ⊥
  pub no_call_where_nothing_is_due : (ending : Drained) → IsSmallRun (with_scheduler 13) ending → ⊥
  pub no_drain_at_an_actors_seat : (ending : Drained) → IsSmallRun (with_scheduler 7) ending → ⊥
  pub none_after_those_of_more_workers : (ending : Drained) → IsSmallRun (with_scheduler 19) ending → ⊥
  pub none_at_no_seat : (ending : Drained) → IsSmallRun (with_scheduler 0) ending → ⊥
