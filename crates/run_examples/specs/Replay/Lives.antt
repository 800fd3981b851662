-- The calls of one life of an actor: cases that hold, and cases beside them that do not. A choice of this project.
use Rattle.std.specs.Prelude.{ℕ, ◌≡◌, Bool, true, false, List, [], ◌∷◌, Some, None}
use Rattle.kube_parts.specs.declared.parts.Kind.TheVariants as kinds
use Rattle.call_types.specs.declared.entry.Entry.{Entry}
use Rattle.call_types.specs.declared.request.Request.TheVariants as requests
use Rattle.attention_law.specs.Diligence.{Call}
use Rattle.world_core.specs.declared.drained.Drained.TheVariants.{Settled}
use Rattle.script_text.specs.declared.script.Line.TheVariants as lines
use Rattle.actor_turns.specs.declared.part.Part.{Part}
use Rattle.script_runs.specs.Examples.{binder_1, script_of}
use Rattle.script_runs.specs.Parts.{part_of, role_of}
use Rattle.actor_turns.specs.Calls.{AreOfLife, left_by}
use Rattle.actor_turns.specs.Diligent.{IsDiligentLife}
use Rattle.actor_turns.specs.Lives.{ArePlayedLives, IsIdleLife, IsPlayedLife}
use Rattle.script_runs.specs.Played.{IsPlayedReplay}
use Rattle.run_examples.specs.Replay.Calls.{first_list, part, reads}
use Rattle.run_examples.specs.Replay.Replays.{turn_script}

-- it is never restarted, and loses its second call after the effect and its fourth before it
abbrev pub one_life : Part
one_life = part_of (script_of [] (lines.Turn binder_1 5 ∷ lines.Lose binder_1 2 true ∷ lines.Lose binder_1 4 false ∷ [])) binder_1

-- what five calls of it leave, beside a call of another seat
abbrev pub four_entries : List Entry
four_entries = reads 5 true ∷ reads 6 true ∷ reads 5 true ∷ reads 5 false ∷ reads 5 true ∷ []

abbrev pub told : ℕ → Call
told seat = Some (reads seat true)

abbrev pub untold : ℕ → Call
untold seat = Some (reads seat false)

-- what five calls of the actor with two restarts leave
abbrev pub three_lives : List Entry
three_lives = reads 7 true ∷ reads 6 true ∷ reads 6 false ∷ reads 5 true ∷ []

-- the first call of its part is lost before its effect, or after it
abbrev pub lossy_part : Bool → Part
lossy_part after = part_of (script_of [] (lines.Turn binder_1 1 ∷ lines.Lose binder_1 1 after ∷ [])) binder_1

-- it loses none
abbrev pub sound_part : Part
sound_part = part_of (script_of [] (lines.Turn binder_1 1 ∷ [])) binder_1

-- a first life of one call, with these entries
abbrev pub IsFirstPlayed : Part → List Entry → Type 0
IsFirstPlayed p past = IsPlayedLife [] (role_of binder_1) p 5 1 past []

pub record PlayedExamples : Type 0 where
  pub it_lists_the_volumes : IsFirstPlayed sound_part (first_list ∷ [])
  pub not_a_read_of_one_object : IsFirstPlayed sound_part (reads 5 true ∷ []) → ⊥
  pub not_a_watch : IsFirstPlayed sound_part (record first_list { request = requests.Watch kinds.PersistentVolume 0 } ∷ []) → ⊥
  pub not_a_list_of_another_kind : IsFirstPlayed sound_part (record first_list { request = requests.List kinds.PersistentVolumeClaim None } ∷ []) → ⊥
  pub lost_before_its_effect : IsFirstPlayed (lossy_part false) []
  pub lost_after_it : IsFirstPlayed (lossy_part true) (record first_list { told = false } ∷ [])
  pub nor_a_lost_read_of_one_object : IsFirstPlayed (lossy_part true) (reads 5 false ∷ []) → ⊥
  pub not_idle_at_once : IsIdleLife [] (role_of binder_1) sound_part 5 0 [] [] [] → ⊥
  pub it_is_diligent : (past : List Entry) → IsFirstPlayed sound_part past → IsDiligentLife [] (role_of binder_1) sound_part 5 1 past
  pub a_turn_of_one_call : IsPlayedReplay turn_script None (first_list ∷ []) (Settled 0)

-- a first life of two calls, of which the first was lost before its effect
abbrev pub IsPlayedAfterLoss : List Entry → Type 0
IsPlayedAfterLoss past = IsPlayedLife [] (role_of binder_1) (lossy_part false) 5 2 past []

-- a loss excuses no other call: what was lost is asked again
pub record AgainExamples : Type 0 where
  pub it_lists_the_volumes_again : IsPlayedAfterLoss (first_list ∷ [])
  pub not_a_read_of_one_object : IsPlayedAfterLoss (reads 5 true ∷ []) → ⊥
  pub not_a_watch : IsPlayedAfterLoss (record first_list { request = requests.Watch kinds.PersistentVolume 0 } ∷ []) → ⊥
  pub not_a_list_of_the_next_kind : IsPlayedAfterLoss (record first_list { request = requests.List kinds.PersistentVolumeClaim None } ∷ []) → ⊥

-- it is restarted after its first call, and loses its second before its effect
abbrev pub restarted_part : Part
restarted_part = part_of (script_of [] (lines.Turn binder_1 2 ∷ lines.Lose binder_1 2 false ∷ lines.Restart binder_1 1 ∷ [])) binder_1

-- both lives of it, with two calls in all
abbrev pub BothPlayed : List Entry → Type 0
BothPlayed past = ArePlayedLives [] (role_of binder_1) restarted_part 2 past (λ seat. [])

-- an earlier life is held to what its actor gave, as the last one is
pub record EarlierExamples : Type 0 where
  pub each_begins_with_its_list : BothPlayed (first_list ∷ [])
  pub not_where_the_earlier_one_read_in_vain : BothPlayed (reads 5 true ∷ []) → ⊥
  pub nor_where_it_watched : BothPlayed (record first_list { request = requests.Watch kinds.PersistentVolume 0 } ∷ []) → ⊥

pub record LifeExamples : Type 0 where
  pub which_leave_an_entry : left_by [] one_life 5 5 ≡ true ∷ false ∷ true ∷ true ∷ true ∷ []
  pub one_lost_after_and_one_before : AreOfLife [] one_life 5 5 four_entries (told 5 ∷ None ∷ told 5 ∷ untold 5 ∷ told 5 ∷ [])
  pub not_without_the_lost_one : AreOfLife [] one_life 5 5 four_entries (told 5 ∷ told 5 ∷ untold 5 ∷ told 5 ∷ []) → ⊥
  pub no_second_lost_one : AreOfLife [] one_life 5 5 four_entries (None ∷ told 5 ∷ None ∷ told 5 ∷ untold 5 ∷ told 5 ∷ []) → ⊥
  pub not_at_another_place : AreOfLife [] one_life 5 5 four_entries (told 5 ∷ told 5 ∷ None ∷ untold 5 ∷ told 5 ∷ []) → ⊥
  pub not_the_lost_answer_told : AreOfLife [] one_life 5 5 four_entries (told 5 ∷ None ∷ told 5 ∷ told 5 ∷ told 5 ∷ []) → ⊥
  pub the_lost_one_counts_once_made : AreOfLife [] one_life 5 4 (reads 5 true ∷ reads 5 false ∷ reads 5 true ∷ []) (None ∷ told 5 ∷ untold 5 ∷ told 5 ∷ [])
  pub not_before : AreOfLife [] one_life 5 3 (reads 5 true ∷ reads 5 false ∷ reads 5 true ∷ []) (None ∷ told 5 ∷ untold 5 ∷ told 5 ∷ []) → ⊥
  pub a_life_between_two_restarts : AreOfLife [] part 6 5 three_lives (told 6 ∷ untold 6 ∷ [])
  pub the_life_after_them : AreOfLife [] part 7 5 three_lives (told 7 ∷ None ∷ [])
  pub a_loss_is_of_one_life : AreOfLife [] part 6 5 three_lives (None ∷ told 6 ∷ untold 6 ∷ []) → ⊥
  pub one_held_back_beside_them : AreOfLife (3 ∷ []) one_life 5 5 (reads 5 true ∷ reads 5 false ∷ reads 5 true ∷ []) (told 5 ∷ None ∷ None ∷ untold 5 ∷ told 5 ∷ [])
  pub not_where_it_was_not : AreOfLife [] one_life 5 5 (reads 5 true ∷ reads 5 false ∷ reads 5 true ∷ []) (told 5 ∷ None ∷ None ∷ untold 5 ∷ told 5 ∷ []) → ⊥
  pub no_other_calls : (p : Part) (seat made : ℕ) (past : List Entry) (calls others : List Call) → AreOfLife [] p seat made past calls → AreOfLife [] p seat made past others → calls ≡ others
