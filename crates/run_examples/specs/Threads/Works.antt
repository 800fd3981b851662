-- Which actors a run on threads starts at which seats, and whose calls its history has where they make none: cases that hold,
-- and cases beside them that do not. The newest entry stands first. A choice of this project.
use Rattle.std.specs.Prelude.{ℕ, ◌≡◌, ◌≢◌, ◌+◌, true, false, [], ◌∷◌, codes}
use Rattle.kube_parts.specs.declared.parts.Kind.TheVariants.{Node, Pod}
use Rattle.call_types.specs.declared.entry.Entry.{Entry}
use Rattle.call_types.specs.declared.request.SeatKind.TheVariants as seats
use Rattle.script_lines.specs.declared.actors.Actor.{Actor}
use Rattle.script_lines.specs.declared.actors.Actor.TheVariants.{Worker, Agent}
use Rattle.script_lines.specs.declared.actors.WorkerKind.{WorkerKind}
use Rattle.script_lines.specs.declared.actors.WorkerKind.TheVariants as workers
use Rattle.script_lines.specs.declared.actors.WorkerNumber.{WorkerNumber}
use Rattle.script_lines.specs.declared.actors.WorkerNumber.TheVariants.{One, Two, Three, Four}
use Rattle.script_text.specs.declared.script.Line.TheVariants as lines
use Rattle.script_text.specs.declared.script.Script.{Script}
use Rattle.actor_turns.specs.Parts.{lives_of}
use Rattle.script_runs.specs.Examples.{agent_of, binder_1, binder_2, claims_1, ops_1, scheduler_1, script_of, worker}
use Rattle.script_threads.specs.Examples.{asks, entry, says}
use Rattle.script_threads.specs.Started.{EachActor, drain_seat, started, started_part}
use Rattle.script_threads.specs.Threads.{IsThreadedWork}

-- ---- seats

-- one node, and no lines
abbrev pub bare : Script
bare = script_of (codes "n1" ∷ []) []

-- with two workers of each kind: the seats that the scope names, in their order

abbrev pub first_of : WorkerKind → ℕ
first_of workers.Binder = 5
first_of workers.Ops = 7
first_of workers.Scheduler = 9
first_of workers.Claims = 11
first_of workers.Volumes = 13

abbrev pub after_first : WorkerNumber → ℕ
after_first One = 0
after_first Two = 1
after_first Three = 2
after_first Four = 3

abbrev pub seat_of : Actor → ℕ
seat_of (Worker w) = first_of w.kind + after_first w.number
seat_of (Agent node) = 15

-- lines of two users, of the first binder, and of the second, which is restarted
abbrev pub small : Script
small = script_of (codes "n1" ∷ []) (says 1 Pod ∷ lines.Lose binder_1 1 false ∷ says 2 Node ∷ lines.Lose binder_2 1 true ∷ lines.Restart binder_2 1 ∷ [])

pub record SeatExamples : Type 0 where
  pub users_then_kinds_then_agents : EachActor (λ actor part. part.first ≡ seat_of actor) 2 bare
  pub the_drain_comes_after_them : drain_seat 2 bare ≡ 16
  pub not_at_the_agents : drain_seat 2 bare ≢ 15
  pub four_of_each : drain_seat 4 bare ≡ 26
  pub one_of_each : started 1 small ≡ binder_1 ∷ ops_1 ∷ scheduler_1 ∷ claims_1 ∷ worker workers.Volumes One ∷ agent_of (codes "n1") ∷ []
  pub lines_start_nobody : drain_seat 1 small ≡ 11
  pub so_its_restart_takes_no_seat : drain_seat 1 small ≢ 12
  pub where_it_is_started_it_does : drain_seat 2 small ≡ 17
  pub the_restarted_life_is_its_own : lives_of (started_part small.lines binder_2 6) ≡ 2
  pub the_first_binder_loses_its_first_call : (started_part small.lines binder_1 5).losses ≡ record { call = 1; after = false } ∷ []
  pub not_what_the_second_loses : (started_part small.lines binder_1 5).losses ≢ record { call = 1; after = true } ∷ []

-- ---- users alone

abbrev pub untold : Entry → Entry
untold e = record e { told = false }

pub record UserExamples : Type 0 where
  pub one_after_the_other : IsThreadedWork small 1 0 (asks 2 Node ∷ asks 1 Pod ∷ [])
  pub the_second_first : IsThreadedWork small 1 0 (asks 1 Pod ∷ asks 2 Node ∷ [])
  pub not_the_first_alone : IsThreadedWork small 1 0 (asks 1 Pod ∷ []) → ⊥
  pub not_the_second_alone : IsThreadedWork small 1 0 (asks 2 Node ∷ []) → ⊥
  pub not_twice : IsThreadedWork small 1 0 (asks 2 Node ∷ asks 2 Node ∷ asks 1 Pod ∷ []) → ⊥
  pub not_one_for_the_other : IsThreadedWork small 1 0 (asks 1 Node ∷ asks 2 Pod ∷ []) → ⊥
  pub not_by_a_third : IsThreadedWork small 1 0 (asks 3 Node ∷ asks 1 Pod ∷ []) → ⊥
  pub not_untold : IsThreadedWork small 1 0 (untold (asks 2 Node) ∷ asks 1 Pod ∷ []) → ⊥
  pub not_as_a_controller : IsThreadedWork small 1 0 (entry 2 seats.Binder Node ∷ asks 1 Pod ∷ []) → ⊥
  pub no_binders_call : IsThreadedWork small 1 0 (entry 5 seats.Binder Node ∷ asks 2 Node ∷ asks 1 Pod ∷ []) → ⊥
  pub no_agents_call : IsThreadedWork small 1 0 (entry 10 seats.Agent Node ∷ asks 2 Node ∷ asks 1 Pod ∷ []) → ⊥
  pub no_drains_call : IsThreadedWork small 1 0 (entry 11 seats.Binder Node ∷ asks 2 Node ∷ asks 1 Pod ∷ []) → ⊥
  pub no_call_of_nobody : IsThreadedWork small 1 0 (asks 99 Node ∷ asks 2 Node ∷ asks 1 Pod ∷ []) → ⊥
