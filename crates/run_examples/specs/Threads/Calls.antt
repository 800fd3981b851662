-- What an actor of a run on threads has done that was to make one call: cases that hold, and cases beside them that do not. The
-- newest entry stands first. A choice of this project.
use Rattle.std.specs.Prelude.{ℕ, Bool, true, false, List, [], ◌∷◌, codes}
use Rattle.kube_parts.specs.declared.parts.Kind.TheVariants.{Node, PersistentVolume, Pod}
use Rattle.call_types.specs.declared.entry.Entry.{Entry}
use Rattle.call_types.specs.declared.reply.Refusal.TheVariants.{StaleEpoch}
use Rattle.call_types.specs.declared.reply.Reply.TheVariants as replies
use Rattle.call_types.specs.declared.request.Request.TheVariants as requests
use Rattle.call_types.specs.declared.request.SeatKind.TheVariants as seats
use Rattle.script_lines.specs.declared.actors.WorkerKind.TheVariants as workers
use Rattle.script_lines.specs.declared.actors.WorkerNumber.TheVariants.{One}
use Rattle.script_text.specs.declared.script.Line.{Line}
use Rattle.script_text.specs.declared.script.Line.TheVariants as lines
use Rattle.script_text.specs.declared.script.Script.{Script}
use Rattle.actor_turns.specs.declared.part.Part.{Part}
use Rattle.actor_turns.specs.Lives.{WasPlayed}
use Rattle.actor_work.specs.Lives.Order.{AreInOrder}
use Rattle.script_runs.specs.Examples.{agent_of, binder_1, binder_2, claims_1, ops_1, scheduler_1, script_of, worker}
use Rattle.script_runs.specs.Parts.{role_of}
use Rattle.script_threads.specs.Examples.{asks, entry, says}
use Rattle.script_threads.specs.Started.{started_part}
use Rattle.script_threads.specs.Threads.{HasMadeCalls, IsThreadedWork}
use Rattle.run_examples.specs.Replay.Calls.{some_key}
use Rattle.run_examples.specs.Threads.Works.{small, untold}

-- the first binder was to make one call, and these lines tell of it
abbrev pub HasMadeOne : List Line → List Entry → Type 0
HasMadeOne ls past = HasMadeCalls 1 past binder_1 (started_part ls binder_1 5)

-- its list of the volumes
abbrev pub listed : Entry
listed = entry 5 seats.Binder PersistentVolume

pub record MadeExamples : Type 0 where
  pub one_call : HasMadeOne [] (listed ∷ [])
  pub not_one_in_vain : HasMadeOne [] (record listed { request = requests.Get some_key } ∷ []) → ⊥
  pub not_a_list_of_another_kind : HasMadeOne [] (entry 5 seats.Binder Pod ∷ []) → ⊥
  pub others_call_between : HasMadeOne [] (asks 1 Node ∷ listed ∷ entry 6 seats.Ops Pod ∷ [])
  pub none_is_too_few : HasMadeOne [] [] → ⊥
  pub two_are_too_many : HasMadeOne [] (listed ∷ listed ∷ []) → ⊥
  pub not_at_anothers_seat : HasMadeOne [] (entry 6 seats.Binder PersistentVolume ∷ []) → ⊥
  pub not_as_another : HasMadeOne [] (entry 5 seats.Ops PersistentVolume ∷ []) → ⊥
  pub not_untold : HasMadeOne [] (untold listed ∷ []) → ⊥

-- a line of this actor, whose first call is lost so
abbrev pub loses_first : Bool → List Line
loses_first after = lines.Lose binder_1 1 after ∷ []

-- one of an actor that is not asked for
abbrev pub another_loses : Bool → List Line
another_loses after = lines.Lose binder_2 1 after ∷ []

pub record LossExamples : Type 0 where
  pub lost_before_it_leaves_none : HasMadeOne (loses_first false) []
  pub no_entry_then : HasMadeOne (loses_first false) (listed ∷ []) → ⊥
  pub not_an_untold_one : HasMadeOne (loses_first false) (untold listed ∷ []) → ⊥
  pub lost_after_it_is_untold : HasMadeOne (loses_first true) (untold listed ∷ [])
  pub not_told_then : HasMadeOne (loses_first true) (listed ∷ []) → ⊥
  pub not_without_an_entry : HasMadeOne (loses_first true) [] → ⊥
  pub another_loses_its_own : HasMadeOne (another_loses false) (listed ∷ [])
  pub nothing_of_this_one : HasMadeOne (another_loses false) [] → ⊥

-- the agent of a node was to make three calls
abbrev pub HasServed : List Entry → Type 0
HasServed past = HasMadeCalls 3 past (agent_of (codes "n1")) (started_part [] (agent_of (codes "n1")) 5)

-- its call, refused as another agent took the node since
abbrev pub refused : Entry
refused = record { seat = 5; kind = seats.Agent; request = requests.Mounts (codes "n1") 1; reply = replies.Refused (StaleEpoch 2); told = true }

-- before it the agent took the node
abbrev pub taken : Entry
taken = record { seat = 5; kind = seats.Agent; request = requests.TakeNode (codes "n1"); reply = replies.Epoch 1; told = true }

pub record StaleExamples : Type 0 where
  pub fewer_where_an_agent_is_stale : WasPlayed [] (role_of (agent_of (codes "n1"))) (started_part [] (agent_of (codes "n1")) 5) 5 2 (refused ∷ taken ∷ [])
      → HasServed (refused ∷ taken ∷ [])
  pub it_asks_nothing_more : HasServed (refused ∷ refused ∷ taken ∷ []) → ⊥
  pub not_even_another_call : HasServed (entry 5 seats.Agent Pod ∷ refused ∷ taken ∷ []) → ⊥

-- the two lives of an agent that is restarted after its first call: their seats are 10 and 11
abbrev pub two_lives : Part
two_lives = record { name = codes "agent-n1"; kind = seats.Agent; named = true; first = 10; losses = []; restarts = 1 ∷ [] }

-- a life takes the node, with this epoch
abbrev pub takes : ℕ → ℕ → Entry
takes seat epoch = record { seat = seat; kind = seats.Agent; request = requests.TakeNode (codes "n1"); reply = replies.Epoch epoch; told = true }

pub record OrderExamples : Type 0 where
  pub one_after_the_other : AreInOrder two_lives (takes 11 2 ∷ takes 10 1 ∷ [])
  pub others_between : AreInOrder two_lives (asks 1 Pod ∷ takes 11 2 ∷ asks 1 Node ∷ takes 10 1 ∷ asks 2 Node ∷ [])
  pub one_life_alone : AreInOrder two_lives (takes 11 1 ∷ [])
  pub two_lives_turned : AreInOrder two_lives (takes 10 2 ∷ takes 11 1 ∷ []) → ⊥
  pub not_one_between_another : AreInOrder two_lives (takes 10 3 ∷ takes 11 2 ∷ takes 10 1 ∷ []) → ⊥

-- ---- all that take part

-- lines of two users, and each actor loses its first call before its effect
abbrev pub all_lose : Script
all_lose = script_of (codes "n1" ∷ []) (says 1 Pod ∷ says 2 Node ∷ lines.Lose binder_1 1 false ∷ lines.Lose ops_1 1 false ∷ lines.Lose scheduler_1 1 false
    ∷ lines.Lose claims_1 1 false ∷ lines.Lose (worker workers.Volumes One) 1 false ∷ lines.Lose (agent_of (codes "n1")) 1 false ∷ [])

-- one call of each actor but the first binder, which loses its own; the users' calls stand between them
abbrev pub others_worked : List Entry
others_worked = entry 9 seats.VolumeProtect Pod ∷ asks 2 Node ∷ entry 8 seats.ClaimProtect Pod ∷ entry 6 seats.Ops Pod ∷ asks 1 Pod ∷ entry 7 seats.Scheduler Pod ∷ []

abbrev pub all_worked : List Entry
all_worked = entry 10 seats.Agent Pod ∷ others_worked

pub record WholeExamples : Type 0 where
  pub each_has_made_its_call : IsThreadedWork all_lose 1 1 (asks 1 Pod ∷ asks 2 Node ∷ [])
  pub not_without_the_agents : IsThreadedWork small 1 1 others_worked → ⊥
  pub not_with_the_lost_one : IsThreadedWork small 1 1 (listed ∷ all_worked) → ⊥
  pub not_with_a_users_line_less : IsThreadedWork small 1 1
      (entry 10 seats.Agent Pod ∷ entry 9 seats.VolumeProtect Pod ∷ entry 8 seats.ClaimProtect Pod ∷ entry 6 seats.Ops Pod ∷ asks 1 Pod ∷ entry 7 seats.Scheduler Pod ∷ []) → ⊥
  pub not_where_none_was_to_be_made : IsThreadedWork small 1 0 all_worked → ⊥
