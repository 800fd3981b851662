-- Examples of the definitions: cases that hold, and cases beside them that do not. A choice of this project.
use Rattle.std.specs.Prelude.{ℕ, ◌≡◌, ◌≢◌, true, [], ◌∷◌, None, codes}
use Rattle.kube_parts.specs.declared.parts.Kind.{Kind}
use Rattle.kube_parts.specs.declared.parts.Kind.TheVariants.{Node, Pod}
use Rattle.call_types.specs.declared.entry.Entry.{Entry}
use Rattle.call_types.specs.declared.reply.Reply.TheVariants as replies
use Rattle.call_types.specs.declared.request.Request.TheVariants as requests
use Rattle.call_types.specs.declared.request.SeatKind.{SeatKind}
use Rattle.call_types.specs.declared.request.SeatKind.TheVariants as seats
use Rattle.script_text.specs.declared.script.Line.{Line}
use Rattle.script_text.specs.declared.script.Line.TheVariants as lines
use Rattle.script_text.specs.declared.script.Script.{Script}
use Rattle.actor_turns.specs.Parts.{lives_of}
use Rattle.script_runs.specs.Examples.{agent_of, binder_1, binder_2, claims_1, ops_1, scheduler_1, script_of, two_binders, two_losses, worker}
use Rattle.script_lines.specs.declared.actors.WorkerKind.TheVariants as workers
use Rattle.script_lines.specs.declared.actors.WorkerNumber.TheVariants.{One, Two}
use Rattle.script_threads.specs.Started.{drain_seat, started_for, started_part}
use Rattle.script_threads.specs.Threads.{IsThreadedWork}

-- ---- which actors there are, and their parts

-- which actors are started at which seats
pub record StartedExamples : Type 0 where
  pub one_of_each : started_for 1 (codes "n1" ∷ []) ≡ binder_1 ∷ ops_1 ∷ scheduler_1 ∷ claims_1 ∷ worker workers.Volumes One ∷ agent_of (codes "n1") ∷ []
  pub kind_by_kind : started_for 2 [] ≡ binder_1 ∷ binder_2 ∷ ops_1 ∷ worker workers.Ops Two ∷ scheduler_1 ∷ worker workers.Scheduler Two ∷ claims_1
      ∷ worker workers.Claims Two ∷ worker workers.Volumes One ∷ worker workers.Volumes Two ∷ []
  pub without_a_turn_too : lives_of (started_part two_binders.lines binder_2 8) ≡ 2
  pub a_life_more_for_each_restart : lives_of (started_part two_binders.lines binder_1 5) ≡ 3
  pub the_lost_calls : (started_part two_binders.lines binder_1 5).losses ≡ two_losses
  pub the_kind : (started_part two_binders.lines claims_1 5).kind ≡ seats.ClaimProtect
  pub restarts_of_others_count_not : drain_seat 1 two_binders ≡ 14
  pub not_those_of_the_third : drain_seat 1 two_binders ≢ 15
  pub of_all_that_are_started : drain_seat 3 two_binders ≡ 26
  pub a_seat_for_each_agent : drain_seat 1 (script_of [] []) ≡ 10

-- ---- whose calls a history has

-- a user's line that lists a kind
abbrev pub says : ℕ → Kind → Line
says user kind = lines.Call user (requests.List kind None)

-- an entry that lists a kind
abbrev pub entry : ℕ → SeatKind → Kind → Entry
entry seat kind of = record { seat = seat; kind = kind; request = requests.List of None; reply = replies.Listed [] 0; told = true }

-- a user's entry that lists a kind
abbrev pub asks : ℕ → Kind → Entry
asks user kind = entry user seats.User kind

-- two lines of a user
abbrev pub two_lines : Script
two_lines = script_of [] (says 1 Pod ∷ lines.Drain ∷ says 1 Node ∷ [])

-- which histories are the work of threads
pub record WorkExamples : Type 0 where
  pub in_order : IsThreadedWork two_lines 1 0 (asks 1 Node ∷ asks 1 Pod ∷ [])
  pub in_no_other : IsThreadedWork two_lines 1 0 (asks 1 Pod ∷ asks 1 Node ∷ []) → ⊥
  pub no_line_twice : IsThreadedWork two_lines 1 0 (asks 1 Node ∷ asks 1 Node ∷ asks 1 Pod ∷ []) → ⊥
  pub none_left_out : IsThreadedWork two_lines 1 0 (asks 1 Pod ∷ []) → ⊥
  pub no_actor_without_its_calls : IsThreadedWork (script_of [] []) 1 1 [] → ⊥
  pub no_actor_with_more : IsThreadedWork (script_of [] []) 1 0 (entry 5 seats.Binder Pod ∷ []) → ⊥
  pub no_seat_past_them : IsThreadedWork (script_of [] []) 1 0 (entry 10 seats.Binder Pod ∷ []) → ⊥
  pub no_seat_before_them : IsThreadedWork (script_of [] []) 1 0 (asks 0 Pod ∷ []) → ⊥
