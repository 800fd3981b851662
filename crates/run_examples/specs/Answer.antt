-- What calls of a seat come to where they are let through and where they are held back, and which seat may call next,
-- beside what they do not come to. The newest entry stands first.
-- A choice of this project, as the front before a world is.
use Rattle.std.specs.Prelude.{⊤, [], ◌∷◌, true, false, Some, None}
use Rattle.kube_parts.specs.declared.parts.Kind.TheVariants as kinds
use Rattle.call_types.specs.declared.entry.Entry.{Entry}
use Rattle.call_types.specs.declared.request.Request.{Request}
use Rattle.call_types.specs.declared.request.SeatKind.TheVariants.{Binder, Ops}
use Rattle.call_types.specs.declared.request.Request.TheVariants as requests
use Rattle.call_types.specs.declared.reply.Reply.{Reply}
use Rattle.call_types.specs.declared.reply.Reply.TheVariants.{Listed}
use Rattle.actor_rounds.specs.Answers.Answered.{Lets, all_pass, IsAnswered, IsLatest}
use Rattle.run_examples.specs.Audit.Verdicts.{lists}

-- each request is held back
abbrev pub none_passes : Lets
none_passes past request = false

abbrev pub a_list : Request
a_list = requests.List kinds.PersistentVolume None

abbrev pub empty : Reply
empty = Listed [] 0

abbrev pub listed : Entry
listed = lists 5 Binder 0

pub record AnswerExamples : Type 0 where
  pub let_through : IsAnswered all_pass 5 Binder a_list true (Some empty) [] (listed ∷ [])
  pub after_another : IsAnswered all_pass 5 Binder a_list true (Some empty) (lists 6 Ops 0 ∷ []) (listed ∷ lists 6 Ops 0 ∷ [])
  pub held_back : IsAnswered none_passes 5 Binder a_list true None (listed ∷ []) (listed ∷ [])
  pub not_held_where_it_passes : IsAnswered all_pass 5 Binder a_list true None [] [] → ⊥
  pub no_answer_where_it_is_held : IsAnswered none_passes 5 Binder a_list true (Some empty) [] (listed ∷ []) → ⊥
  pub no_entry_where_it_is_held : IsAnswered none_passes 5 Binder a_list true None [] (listed ∷ []) → ⊥
  pub one_entry_where_it_is_answered : IsAnswered all_pass 5 Binder a_list true (Some empty) [] [] → ⊥
  pub by_no_other_seat : IsAnswered all_pass 6 Binder a_list true (Some empty) [] (listed ∷ []) → ⊥
  pub by_no_other_kind : IsAnswered all_pass 5 Ops a_list true (Some empty) [] (listed ∷ []) → ⊥
  pub what_is_lost_is_not_told : IsAnswered all_pass 5 Binder a_list false (Some empty) [] (listed ∷ []) → ⊥
  pub nothing_is_forgotten : IsAnswered all_pass 5 Binder a_list true (Some empty) (lists 6 Ops 0 ∷ []) (listed ∷ []) → ⊥
  pub any_seat_at_first : IsLatest (λ seat. ⊤) 5 []
  pub an_earlier_seat_of_no_order : IsLatest (λ seat. ⊥) 4 (listed ∷ [])
  pub no_earlier_seat_in_order : IsLatest (λ seat. ⊤) 4 (listed ∷ []) → ⊥
