-- The examples compute.
use Rattle.std.proofs.Common.{◌≡◌, ◌≢◌, refl, ap, arith, ℕ, zero, suc, ◌<◌, ◌⊎◌, inl, inr, ne_eqb, Bool, true, List, [], ◌∷◌}
use Rattle.kube_parts.specs.declared.parts.Kind.TheVariants.{Node, Pod}
use Rattle.call_types.specs.declared.request.Request.{Request}
use Rattle.call_types.specs.declared.request.SeatKind.{SeatKind}
use Rattle.call_types.specs.declared.request.SeatKind.TheVariants.{User}
use Rattle.binder_model.specs.Told.{own}
use Rattle.shared_work.specs.Lines.{AreOfLines}
use Rattle.shared_work.specs.Examples.{LineExamples, SeatExamples, UserExamples, all_of, entry, mixed, nothing, two_users}

-- the first call of a list, part by part

abbrev first_seat : List (ℕ × SeatKind × Request × Bool) → ℕ
first_seat [] = 0
first_seat (c ∷ calls) = c.0

abbrev first_kind : List (ℕ × SeatKind × Request × Bool) → SeatKind
first_kind [] = User
first_kind (c ∷ calls) = c.1

abbrev first_request : List (ℕ × SeatKind × Request × Bool) → Request
first_request [] = all_of Pod
first_request (c ∷ calls) = c.2

abbrev first_told : List (ℕ × SeatKind × Request × Bool) → Bool
first_told [] = true
first_told (c ∷ calls) = c.3

pub lines : LineExamples
lines = record {
  in_their_order = refl;
  in_no_other = λ e. absurd (cc);
  equal_lines_are_two = refl;
  each_user_its_own = refl;
  nobody_else = refl;
  no_other_line = refl;
  each_once = refl;
  whatever_is_answered = refl;
  none_where_nothing_is_asked = refl;
  not_left_out = λ e. absurd (cc);
  nor_where_it_is_refused = λ e. absurd (cc);
  not_twice = λ e. absurd (cc);
  not_out_of_order = λ e. let r = ap first_request e in absurd (cc);
  not_without_a_line = λ e. absurd (cc);
  not_another_request = λ e. let r = ap first_request e in absurd (cc);
  not_at_another_seat = λ e. let s = ap first_seat e in absurd (cc);
  not_untold = λ e. let t = ap first_told e in absurd (cc);
  not_as_a_controller = λ e. let k = ap first_kind e in absurd (cc);
  after_earlier_entries = (entry 2 Node nothing ∷ [], refl, refl);
}

pub seats : SeatExamples
seats = record {
  numbers_follow = refl;
  no_number = refl;
  all_together = refl;
  one_after_another = (refl, (refl, (refl, tt)));
  not_the_first_again = λ each. let e = each.1.0 in absurd (cc);
  not_by_their_place = λ each. let e = each.1.0 in absurd (cc);
  own_entries = refl;
}

of_each : (user : ℕ) → 0 < user → user < 5 → AreOfLines user two_users (own user mixed)
of_each zero some few = absurd (omega (arith, some))
of_each (suc zero) some few = refl
of_each (suc (suc zero)) some few = refl
of_each (suc (suc (suc zero))) some few = refl
of_each (suc (suc (suc (suc zero)))) some few = refl
of_each (suc (suc (suc (suc (suc n))))) some few = absurd (omega (arith, few))

of_none : (seat : ℕ) → (seat ≡ 0) ⊎ (4 < seat) → own seat mixed ≡ []
of_none seat beside =
    let one : 1 ≢ seat = λ is. either_way seat beside (λ z. absurd (omega (arith, is, z))) (λ m. absurd (omega (arith, is, m))) in
    let two : 2 ≢ seat = λ is. either_way seat beside (λ z. absurd (omega (arith, is, z))) (λ m. absurd (omega (arith, is, m))) in
    rw (ne_eqb 1 seat one, ne_eqb 2 seat two) refl
  where
    either_way : (seat : ℕ) → (seat ≡ 0) ⊎ (4 < seat) → (seat ≡ 0 → ⊥) → (4 < seat → ⊥) → ⊥
    either_way seat (inl z) low high = low z
    either_way seat (inr m) low high = high m

pub users : UserExamples
users = record {
  one_between_another = record { users = of_each; others = of_none };
  no_fifth_seat = λ are. let e = are.others 5 (inr (omega arith)) in absurd (cc);
  no_seat_before_the_first = λ are. let e = are.others 0 (inl refl) in absurd (cc);
  no_user_without_its_calls = λ are. let e = are.users 3 (omega arith) (omega arith) in absurd (cc);
  no_call_without_a_line = λ are. let e = are.users 1 (omega arith) (omega arith) in absurd (cc);
}
