-- The calls of an actor over its lives: cases that hold, and cases beside them that do not. A choice of this project.
use Rattle.std.specs.Prelude.{ℕ, ◌≡◌, ◌≢◌, Bool, true, false, List, [], ◌∷◌, Some, None, codes, map}
use Rattle.kube_objects.specs.declared.key.Key.{Key}
use Rattle.kube_parts.specs.declared.parts.Kind.{Kind}
use Rattle.kube_parts.specs.declared.parts.Kind.TheVariants as kinds
use Rattle.attention_law.specs.Diligence.{Call}
use Rattle.call_types.specs.declared.entry.Entry.{Entry}
use Rattle.call_types.specs.declared.reply.Refusal.TheVariants.{NotFound, StaleEpoch}
use Rattle.call_types.specs.declared.reply.Reply.TheVariants as replies
use Rattle.call_types.specs.declared.request.Request.TheVariants as requests
use Rattle.call_types.specs.declared.request.SeatKind.TheVariants as seats
use Rattle.actor_turns.specs.declared.part.Part.{Part}
use Rattle.script_runs.specs.Examples.{binder_1, two_binders}
use Rattle.script_runs.specs.Parts.{part_of}
use Rattle.actor_turns.specs.Calls.{AreCalls, IsCall, MayEnd, seat_at}
use Rattle.actor_rounds.specs.Answers.Answered.{Lets, all_pass}

-- it loses its second call after the effect and its fourth before it, and is restarted after its first and third
abbrev pub part : Part
part = part_of two_binders binder_1

abbrev pub some_key : Key
some_key = record { kind = kinds.PersistentVolume; namespace = []; name = codes "a" }

-- a read of this seat that finds nothing, its answer told or lost
abbrev pub reads : ℕ → Bool → Entry
reads seat told = record { seat = seat; kind = seats.Binder; request = requests.Get some_key; reply = replies.Refused NotFound; told = told }

pub record SeatExamples : Type 0 where
  pub the_first_life : seat_at part 1 ≡ 5
  pub after_one_call_the_next : seat_at part 2 ≡ 6
  pub for_two_calls : seat_at part 3 ≡ 6
  pub after_three_calls_the_last : seat_at part 4 ≡ 7
  pub and_no_other_after_it : seat_at part 100 ≡ 7
  pub not_before_its_time : seat_at part 3 ≢ 7

-- a list
abbrev pub lists : Kind → Entry
lists kind = record { seat = 5; kind = seats.Binder; request = requests.List kind None; reply = replies.Listed [] 3; told = true }

-- the list of the volumes with which a binder's life begins, where there are none
abbrev pub first_list : Entry
first_list = record { seat = 5; kind = seats.Binder; request = requests.List kinds.PersistentVolume None; reply = replies.Listed [] 0; told = true }

-- what lets no list through
abbrev pub holds_lists : Lets
holds_lists past (requests.List kind namespace) = false
holds_lists past request = true

pub record CallExamples : Type 0 where
  pub told : IsCall all_pass [] part 1 [] (reads 5 true ∷ [])
  pub not_of_the_next_life : IsCall all_pass [] part 1 [] (reads 6 true ∷ []) → ⊥
  pub not_lost : IsCall all_pass [] part 1 [] (reads 5 false ∷ []) → ⊥
  pub lost_after_its_effect : IsCall all_pass [] part 2 [] (reads 6 false ∷ [])
  pub not_told : IsCall all_pass [] part 2 [] (reads 6 true ∷ []) → ⊥
  pub lost_before_its_effect : IsCall all_pass [] part 4 (reads 6 true ∷ []) (reads 6 true ∷ [])
  pub without_an_entry : IsCall all_pass [] part 4 [] (reads 7 false ∷ []) → ⊥
  pub four_calls : AreCalls all_pass [] part (reads 6 true ∷ reads 6 false ∷ reads 5 true ∷ []) 1 4 []
  pub no_call_without_its_entry : AreCalls all_pass [] part [] 1 1 [] → ⊥
  pub held_back : IsCall holds_lists (1 ∷ []) part 1 [] []
  pub which_leaves_no_entry : IsCall holds_lists (1 ∷ []) part 1 [] (lists kinds.PersistentVolume ∷ []) → ⊥
  pub not_what_passes : IsCall all_pass (1 ∷ []) part 1 [] [] → ⊥
  pub nor_let_through_what_does_not : IsCall holds_lists [] part 1 [] (lists kinds.PersistentVolume ∷ []) → ⊥
  pub not_another_call : IsCall holds_lists (3 ∷ []) part 1 [] [] → ⊥

-- ---- how a turn may end

-- a watch without events
abbrev pub watches : Kind → Entry
watches kind = record { seat = 5; kind = seats.Binder; request = requests.Watch kind 3; reply = replies.Events (record { events = []; upto = 3 }); told = true }

-- calls that left these entries
abbrev pub told_calls : List Entry → List Call
told_calls entries = map (λ (e : Entry). Some e) entries

-- each kind that a binder follows was watched
abbrev pub whole_pass : List Entry
whole_pass = watches kinds.StorageClass ∷ watches kinds.PersistentVolumeClaim ∷ watches kinds.PersistentVolume ∷ []

-- a call of the agent of a node, refused as another agent took the node since; its answer told or lost
abbrev pub is_refused : Bool → Entry
is_refused told = record { seat = 5; kind = seats.Agent; request = requests.Mounts (codes "n1") 1; reply = replies.Refused (StaleEpoch 2); told = told }

pub record EndExamples : Type 0 where
  pub after_a_whole_pass : MayEnd seats.Binder [] whole_pass
  pub later_reads_change_nothing : MayEnd seats.Binder [] (reads 5 true ∷ whole_pass)
  pub not_at_once : MayEnd seats.Binder [] [] → ⊥
  pub not_before_the_pass_is_whole : MayEnd seats.Binder [] (watches kinds.PersistentVolumeClaim ∷ watches kinds.PersistentVolume ∷ []) → ⊥
  pub not_where_a_list_came_after_it : MayEnd seats.Binder [] (lists kinds.StorageClass ∷ whole_pass) → ⊥
  pub not_by_the_pass_of_an_earlier_turn : MayEnd seats.Binder whole_pass whole_pass → ⊥
  pub where_an_agent_is_stale : MayEnd seats.Agent [] (is_refused true ∷ [])
  pub and_at_once_from_then_on : MayEnd seats.Agent (is_refused true ∷ []) (is_refused true ∷ [])
  pub not_where_it_was_not_told : MayEnd seats.Agent [] (is_refused false ∷ []) → ⊥
  pub not_of_another_kind : MayEnd seats.Binder [] (is_refused true ∷ []) → ⊥
