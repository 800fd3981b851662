use Rattle.std.proofs.Common.{◌≡◌, ℕ, Bool, true, false, List, [], ◌∷◌, refl, ap, arith, length}
use Rattle.call_types.specs.declared.entry.Entry.{Entry}
use Rattle.call_types.specs.declared.request.SeatKind.{SeatKind}
use Rattle.call_types.specs.declared.request.SeatKind.TheVariants.{Binder, Ops}
use Rattle.run_examples.specs.Answer.{AnswerExamples}

-- the seat of the newest entry
newest_seat : List Entry → ℕ
newest_seat [] = 0
newest_seat (e ∷ past) = e.seat

newest_kind : List Entry → SeatKind
newest_kind [] = Binder
newest_kind (e ∷ past) = e.kind

newest_told : List Entry → Bool
newest_told [] = false
newest_told (e ∷ past) = e.told

pub answer_examples : AnswerExamples
unfolding newest_seat newest_kind newest_told
answer_examples = record {
  let_through = (refl, refl);
  after_another = (refl, refl);
  held_back = (refl, refl);
  not_held_where_it_passes = λ h. let e : true ≡ false = h.0 in cc;
  no_answer_where_it_is_held = λ h. let e : false ≡ true = h.0 in cc;
  no_entry_where_it_is_held = λ h. let e = ap length h.1 in omega (arith, e);
  one_entry_where_it_is_answered = λ h. let e = ap length h.1 in omega (arith, e);
  by_no_other_seat = λ h. let e : 5 ≡ 6 = ap newest_seat h.1 in omega (arith, e);
  by_no_other_kind = λ h. let e : Binder ≡ Ops = ap newest_kind h.1 in cc;
  what_is_lost_is_not_told = λ h. let e : true ≡ false = ap newest_told h.1 in cc;
  nothing_is_forgotten = λ h. let e = ap length h.1 in omega (arith, e);
  any_seat_at_first = λ other orders later. refl;
  an_earlier_seat_of_no_order = λ other orders later. absurd orders;
  no_earlier_seat_in_order = λ h. let e = ap length (h 5 tt (omega (arith))) in omega (arith, e);
}
