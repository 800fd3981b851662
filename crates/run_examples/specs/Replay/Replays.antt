-- Whose calls the history of a replayed script has: cases that hold, and cases beside them that do not.
-- A choice of this project.
use Rattle.std.specs.Prelude.{ℕ, true, false, [], ◌∷◌, None}
use Rattle.kube_parts.specs.declared.names.Due.TheVariants as dues
use Rattle.kube_parts.specs.declared.parts.Kind.TheVariants as kinds
use Rattle.call_types.specs.declared.entry.Entry.{Entry}
use Rattle.call_types.specs.declared.reply.Refusal.TheVariants.{NotFound}
use Rattle.call_types.specs.declared.reply.Reply.TheVariants.{Refused}
use Rattle.call_types.specs.declared.request.Request.TheVariants.{Get}
use Rattle.call_types.specs.declared.request.SeatKind.TheVariants as seats
use Rattle.world_core.specs.declared.drained.Drained.{Drained}
use Rattle.world_core.specs.declared.drained.Drained.TheVariants.{Settled, Spent}
use Rattle.script_text.specs.declared.script.Line.TheVariants as lines
use Rattle.script_text.specs.declared.script.Script.{Script}
use Rattle.actor_turns.specs.declared.part.Part.{Part}
use Rattle.script_runs.specs.Examples.{binder_1, script_of}
use Rattle.script_runs.specs.Parts.{part_of, role_of}
use Rattle.actor_turns.specs.Calls.{and_idle}
use Rattle.script_runs.specs.Replays.{IsReplay, IsTurnLine, Progress, and_made, first_progress}
use Rattle.run_examples.specs.Replay.Calls.{first_list, reads, some_key, told_calls, watches, whole_pass}
use Rattle.actor_rounds.specs.Answers.Answered.{all_pass}

abbrev pub empty_script : Script
empty_script = script_of [] []

pub record EmptyExamples : Type 0 where
  pub ends_settled : IsReplay empty_script None [] (Settled 0)
  pub makes_no_call : IsReplay empty_script None (reads 5 true ∷ []) (Settled 0) → ⊥
  pub counts_no_call : IsReplay empty_script None [] (Settled 1) → ⊥
  pub spends_nothing : IsReplay empty_script None [] (Spent 0 some_key dues.Available) → ⊥

-- a user reads

abbrev pub user_script : Script
user_script = script_of [] (lines.Call 1 (Get some_key) ∷ [])

abbrev pub user_reads : ℕ → Entry
user_reads user = record { seat = user; kind = seats.User; request = Get some_key; reply = Refused NotFound; told = true }

pub record UserExamples : Type 0 where
  pub its_call_is_made : IsReplay user_script None (user_reads 1 ∷ []) (Settled 0)
  pub not_by_another_user : IsReplay user_script None (user_reads 2 ∷ []) (Settled 0) → ⊥
  pub not_left_out : IsReplay user_script None [] (Settled 0) → ⊥

-- a turn of one call

abbrev pub turn_script : Script
turn_script = script_of [] (lines.Turn binder_1 1 ∷ [])

pub record TurnExamples : Type 0 where
  pub its_call_is_made : IsReplay turn_script None (first_list ∷ []) (Settled 0)
  pub not_in_vain : (ending : Drained) → IsReplay turn_script None (reads 5 true ∷ []) ending → ⊥
  pub not_by_a_watch : (ending : Drained) → IsReplay turn_script None (watches kinds.PersistentVolume ∷ []) ending → ⊥
  pub not_by_another_seat : IsReplay turn_script None (reads 6 true ∷ []) (Settled 0) → ⊥
  pub not_without_its_answer : IsReplay turn_script None (reads 5 false ∷ []) (Settled 0) → ⊥
  pub it_does_not_end_at_once : IsReplay turn_script None [] (Settled 0) → ⊥

-- turns of up to nine calls, one after the other

abbrev pub plain_part : Part
plain_part = part_of turn_script binder_1

-- after a turn in which it watched each kind
abbrev pub after_a_pass : Progress
after_a_pass = record (first_progress None []) {
  past = whole_pass;
  made = and_made plain_part.name 3 (first_progress None []).made;
  idle = and_idle
      5 (told_calls whole_pass) (first_progress None []).idle;
}

pub record FewerExamples : Type 0 where
  pub not_without_its_lists : IsTurnLine all_pass [] (role_of binder_1) plain_part 9 (first_progress None []) after_a_pass → ⊥
  pub not_where_three_were_asked : IsTurnLine all_pass [] (role_of binder_1) plain_part 3 (first_progress None []) after_a_pass → ⊥
  pub the_next_begins_with_a_call : IsTurnLine all_pass [] (role_of binder_1) plain_part 9 after_a_pass after_a_pass → ⊥
