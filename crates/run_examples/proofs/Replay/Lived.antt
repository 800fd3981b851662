-- The examples of the calls of one life compute.
use Rattle.std.proofs.Common.{◌≡◌, ◌≢◌, ◌⊎◌, ℕ, zero, suc, List, [], ◌∷◌, Bool, true, false, true≢false, Some, None, inl, inr, refl, sym, ◌∙◌, ap, subst, arith}
use Rattle.std.specs.Prelude.{slice_get}
use Rattle.kube_parts.specs.declared.parts.Kind.{Kind}
use Rattle.kube_parts.specs.declared.parts.Kind.TheVariants as kinds
use Rattle.call_types.specs.declared.entry.Entry.{Entry}
use Rattle.call_types.specs.declared.request.Request.{Request}
use Rattle.call_types.specs.declared.request.Request.TheVariants as requests
use Rattle.attention_law.specs.Diligence.{Call}
use Rattle.attention_law.specs.Resting.{IsPlayedSince}
use Rattle.model_laws.proofs.Lists.{none_some, one}
use Rattle.worker_core.specs.States.{ActorState}
use Rattle.actor_rounds.proofs.RoundFacts.{same_or_not}
use Rattle.script_lines.specs.declared.actors.Actor.{Actor}
use Rattle.script_text.specs.declared.script.Line.TheVariants as lines
use Rattle.script_runs.specs.Examples.{binder_1}
use Rattle.script_runs.specs.Parts.{part_of, role_of}
use Rattle.actor_turns.specs.declared.part.Part.{Part}
use Rattle.actor_turns.specs.Calls.{AreOfLife}
use Rattle.actor_turns.specs.Lives.{ArePlayedLives, IsPlayedLife}
use Rattle.actor_turns.proofs.Diligent.{played_lives_are_diligent}
use Rattle.run_examples.specs.Replay.Calls.{first_list, reads}
use Rattle.run_examples.specs.Replay.Lives.{AgainExamples, BothPlayed, EarlierExamples, IsFirstPlayed, IsPlayedAfterLoss, LifeExamples, PlayedExamples, lossy_part, restarted_part, sound_part}
use Rattle.run_examples.specs.Replay.Replays.{turn_script}
use Rattle.run_examples.proofs.Replay.Played.{binder_listed, binder_lost, binder_relisted, binder_untold, first_lists, last_lists, list_volumes, never_idle, same_calls}
use Rattle.run_examples.proofs.Replay.Replayed.{turn_replay, turned_lives}

-- ---- a first life of one call

its_first : (p : Part) (past : List Entry) (s : ActorState) (call : Call) → AreOfLife [] p 5 1 past (call ∷ []) → IsPlayedSince (role_of binder_1) s [] (call ∷ []) → IsFirstPlayed p past
its_first p past s call are played = record { since = call ∷ []; are = are; state = s; played = played }

-- a first call that was told, or lost after its effect
asked_first : (e : Entry) → IsFirstPlayed sound_part (e ∷ []) → AreOfLife [] sound_part 5 1 (e ∷ []) (Some e ∷ []) → e.request ≡ list_volumes
asked_first e life are = first_lists sound_part 5 (e ∷ []) e are life

-- tests that tell requests apart

abbrev is_volumes : Kind → Bool
is_volumes kinds.PersistentVolume = true
is_volumes kind = false

abbrev lists_volumes : Request → Bool
lists_volumes (requests.List kind namespace) = is_volumes kind
lists_volumes request = false

turned_actor : (actor : Actor) (calls : ℕ) → lines.Turn binder_1 1 ≡ lines.Turn actor calls → binder_1 ≡ actor
turned_actor actor calls is = cc

-- the one turn line of the script is the binder's
all_lives : (place : ℕ) (actor : Actor) (calls : ℕ) → slice_get turn_script.lines place ≡ Some (lines.Turn actor calls)
    → ArePlayedLives [] (role_of actor) (part_of turn_script actor) (turn_replay.end.made (part_of turn_script actor).name) turn_replay.end.past turn_replay.end.idle
all_lives (suc place) actor calls at = none_some at
all_lives zero actor calls at =
    subst (λ a. ArePlayedLives [] (role_of a) (part_of turn_script a) (turn_replay.end.made (part_of turn_script a).name) turn_replay.end.past turn_replay.end.idle)
    (turned_actor actor calls (one (lines.Turn binder_1 1) (lines.Turn actor calls) at)) turned_lives

pub played_cases : PlayedExamples
played_cases = record {
  it_lists_the_volumes = its_first sound_part (first_list ∷ []) _ (Some first_list) (record { of_seat = refl; left = refl }) binder_listed;
  not_a_read_of_one_object = λ life. absurd (true≢false (sym (ap lists_volumes (asked_first (reads 5 true) life (record { of_seat = refl; left = refl })))));
  not_a_watch = λ life. absurd (true≢false
      (sym (ap lists_volumes (asked_first (record first_list { request = requests.Watch kinds.PersistentVolume 0 }) life (record { of_seat = refl; left = refl })))));
  not_a_list_of_another_kind = λ life. absurd (true≢false
      (sym (ap lists_volumes (asked_first (record first_list { request = requests.List kinds.PersistentVolumeClaim None }) life (record { of_seat = refl; left = refl })))));
  lost_before_its_effect = its_first (lossy_part false) [] _ None (record { of_seat = refl; left = refl }) binder_lost;
  lost_after_it = its_first (lossy_part true) (record first_list { told = false } ∷ []) _ (Some (record first_list { told = false })) (record { of_seat = refl; left = refl }) binder_untold;
  nor_a_lost_read_of_one_object = λ life. absurd (true≢false
      (sym (ap lists_volumes (first_lists (lossy_part true) 5 (reads 5 false ∷ []) (reads 5 false) (record { of_seat = refl; left = refl }) life))));
  not_idle_at_once = never_idle sound_part 5 0 [] [] refl;
  it_is_diligent = λ past life. played_lives_are_diligent [] (role_of binder_1) sound_part 5 1 past [] tt life;
  a_turn_of_one_call = record { calls = turn_replay; played = all_lives };
}

-- ---- a life whose first call was lost

-- its second call lists the volumes
asked_again : (e : Entry) → IsPlayedAfterLoss (e ∷ []) → AreOfLife [] (lossy_part false) 5 2 (e ∷ []) (Some e ∷ None ∷ []) → e.request ≡ list_volumes
asked_again e life are = last_lists (lossy_part false) 5 2 (e ∷ []) [] [] e (None ∷ []) are refl life

pub again_cases : AgainExamples
again_cases = record {
  it_lists_the_volumes_again = record { since = Some first_list ∷ None ∷ []; are = record { of_seat = refl; left = refl }; state = _; played = binder_relisted };
  not_a_read_of_one_object = λ life. absurd (true≢false (sym (ap lists_volumes (asked_again (reads 5 true) life (record { of_seat = refl; left = refl })))));
  not_a_watch = λ life. absurd (true≢false
      (sym (ap lists_volumes (asked_again (record first_list { request = requests.Watch kinds.PersistentVolume 0 }) life (record { of_seat = refl; left = refl })))));
  not_a_list_of_the_next_kind = λ life. absurd (true≢false
      (sym (ap lists_volumes (asked_again (record first_list { request = requests.List kinds.PersistentVolumeClaim None }) life (record { of_seat = refl; left = refl })))));
}

-- ---- an earlier life and a later one

both_played : BothPlayed (first_list ∷ [])
both_played seat low high = by (same_or_not 5 seat)
  where
    by : (5 ≡ seat) ⊎ (5 ≢ seat) → IsPlayedLife [] (role_of binder_1) restarted_part seat 2 (first_list ∷ []) []
    by (inl is) = subst (λ s. IsPlayedLife [] (role_of binder_1) restarted_part s 2 (first_list ∷ []) []) is
        (record { since = Some first_list ∷ []; are = record { of_seat = refl; left = refl }; state = _; played = binder_listed })
    by (inr other) =
        let second : 6 ≡ seat = omega (arith, low, high, other) in
        subst (λ s. IsPlayedLife [] (role_of binder_1) restarted_part s 2 (first_list ∷ []) []) second
        (record { since = None ∷ []; are = record { of_seat = refl; left = refl }; state = _; played = binder_lost })

-- the call of the earlier one lists the volumes
earlier_asked : (e : Entry) → BothPlayed (e ∷ []) → AreOfLife [] restarted_part 5 2 (e ∷ []) (Some e ∷ []) → e.request ≡ list_volumes
earlier_asked e both are = last_lists restarted_part 5 2 (e ∷ []) [] [] e [] are refl (both 5 (omega arith) (omega arith))

pub earlier_cases : EarlierExamples
earlier_cases = record {
  each_begins_with_its_list = both_played;
  not_where_the_earlier_one_read_in_vain = λ both. absurd (true≢false (sym (ap lists_volumes (earlier_asked (reads 5 true) both (record { of_seat = refl; left = refl })))));
  nor_where_it_watched = λ both. absurd (true≢false
      (sym (ap lists_volumes (earlier_asked (record first_list { request = requests.Watch kinds.PersistentVolume 0 }) both (record { of_seat = refl; left = refl })))));
}

-- ---- the calls of a life

abbrev third_told : List Entry → Bool
third_told (first ∷ second ∷ third ∷ entries) = third.told
third_told entries = true

pub life_cases : LifeExamples
life_cases = record {
  which_leave_an_entry = refl;
  one_lost_after_and_one_before = record { of_seat = refl; left = refl };
  not_without_the_lost_one = λ h. let e : true ∷ true ∷ true ∷ true ∷ [] ≡ true ∷ false ∷ true ∷ true ∷ true ∷ [] = h.left in absurd (cc);
  no_second_lost_one = λ h. let e : false ∷ true ∷ false ∷ true ∷ true ∷ true ∷ [] ≡ true ∷ false ∷ true ∷ true ∷ true ∷ [] = h.left in absurd (cc);
  not_at_another_place = λ h. let e : true ∷ true ∷ false ∷ true ∷ true ∷ [] ≡ true ∷ false ∷ true ∷ true ∷ true ∷ [] = h.left in absurd (cc);
  not_the_lost_answer_told = λ h. absurd (true≢false (ap third_told h.of_seat));
  the_lost_one_counts_once_made = record { of_seat = refl; left = refl };
  not_before = λ h. let e : false ∷ true ∷ true ∷ true ∷ [] ≡ true ∷ true ∷ true ∷ [] = h.left in absurd (cc);
  a_life_between_two_restarts = record { of_seat = refl; left = refl };
  the_life_after_them = record { of_seat = refl; left = refl };
  a_loss_is_of_one_life = λ h. let e : false ∷ true ∷ true ∷ [] ≡ true ∷ true ∷ [] = h.left in absurd (cc);
  one_held_back_beside_them = record { of_seat = refl; left = refl };
  not_where_it_was_not = λ h. let e : true ∷ false ∷ false ∷ true ∷ true ∷ [] ≡ true ∷ false ∷ true ∷ true ∷ true ∷ [] = h.left in absurd (cc);
  no_other_calls = λ p seat made past calls others own other. same_calls calls others (own.of_seat ∙ sym other.of_seat) (own.left ∙ sym other.left);
}
