-- The four users of a script as workers.
use Rattle.std.proofs.Common.{◌≡◌, refl, sym, ◌∙◌, ap, subst, subst₂, append-nil, arith, ℕ, zero, suc, ◌+◌, ◌<◌, List, [], ◌∷◌, ◌++◌, IfOk, Ok, Err, Result}
use Rattle.call_types.specs.declared.entry.Entry.{Entry}
use Rattle.binder_model.specs.Told.{own}
use Rattle.script_text.specs.declared.script.Line.{Line}
use Rattle.shared_world.specs.Passes.{AddsNoSeats}
use Rattle.shared_work.specs.declared.crew.Hired.{Hired}
use Rattle.shared_work.specs.Crew.{Each, all_seats, numbers_from}
use Rattle.shared_work.specs.Lines.{AreOfLines, DoLines}
use Rattle.shared_work.specs.Seats.{IsOneSeat, seats_at}
use Rattle.shared_work.specs.Users.{AreOfUsers}

-- of a result that holds two facts
pub if_ok : {T E : Type 0} (P Q R : T → Type 0) (result : Result T E) → IfOk result P → IfOk result Q → ((x : T) → P x → Q x → R x) → IfOk result R
if_ok P Q R (Ok x) p q both = both x p q
if_ok P Q R (Err e) p q both = tt

abbrev first_of : List (ℕ × List Entry) → ℕ × List Entry
first_of [] = (0, [])
first_of (seat ∷ seats) = seat

-- a seat without entries before has those of its lines, and no others
alone : (lines : List Line) (user : ℕ) (past : List Entry) → DoLines lines ((user, []) ∷ []) ((user, own user past) ∷ []) → AreOfLines user lines (own user past)
alone lines user past done =
    let before : (user, []) ≡ done.first = ap first_of done.before_is in
    let after : (user, own user past) ≡ done.last = ap first_of done.after_is in
    let late = done.done.0 in
    let mine : own user past ≡ late = ap (λ (s : ℕ × List Entry). s.1) (after ∙ done.done.1) ∙ ap (λ (s : ℕ × List Entry). late ++ s.1) (sym before) ∙ append-nil late in
    subst₂ (λ n es. AreOfLines n lines es) (sym (ap (λ (s : ℕ × List Entry). s.0) before)) (sym mine) done.done.2

pub did : (given past : List Entry) (lines asked : List Line) (user first many : ℕ) → given ≡ [] → asked ≡ lines → first ≡ user → many ≡ 1
    → DoLines asked (seats_at given (numbers_from first many)) (seats_at past (numbers_from first many)) → AreOfLines user lines (own user past)
did given past lines asked user first many empty same here one done =
    let a = subst (λ (ls : List Line). DoLines ls (seats_at given (numbers_from first many)) (seats_at past (numbers_from first many))) same done in
    let b = subst (λ (m : ℕ). DoLines lines (seats_at given (numbers_from first m)) (seats_at past (numbers_from first m))) one a in
    let c = subst (λ (f : ℕ). DoLines lines (seats_at given (numbers_from f 1)) (seats_at past (numbers_from f 1))) here b in
    alone lines user past (subst (λ (g : List Entry). DoLines lines (seats_at g (numbers_from user 1)) (seats_at past (numbers_from user 1))) empty c)

module _ {U : Type 0} where
  one_seat : (past : List Entry) (first : ℕ) (user : Hired U) → user.seats ≡ 1 → IsOneSeat (seats_at past (numbers_from first user.seats))
  one_seat past first user one = ((first, own first past), ap (λ (n : ℕ). seats_at past (numbers_from first n)) one)

  module _ (a b c d : Hired U) (a1 : a.seats ≡ 1) (b1 : b.seats ≡ 1) (c1 : c.seats ≡ 1) (d1 : d.seats ≡ 1) (users : List (Hired U)) (are : users ≡ a ∷ b ∷ c ∷ d ∷ []) where
    pub four_needs : (past : List Entry) → Each (λ user seats. IsOneSeat (seats_at past seats)) 1 users
    four_needs past = subst (Each (λ user seats. IsOneSeat (seats_at past seats)) 1) (sym are)
        (one_seat past 1 a a1, (one_seat past (1 + a.seats) b b1, (one_seat past (1 + a.seats + b.seats) c c1, (one_seat past (1 + a.seats + b.seats + c.seats) d d1, tt))))

    pub four_seats : all_seats users ≡ 4
    four_seats = ap (λ (us : List (Hired U)). all_seats us) are ∙ omega (arith, a1, b1, c1, d1)

    module _ (lines_of : U → List Line) (lines : List Line) (al : lines_of a.worker ≡ lines) (bl : lines_of b.worker ≡ lines)
        (cl : lines_of c.worker ≡ lines) (dl : lines_of d.worker ≡ lines) (given past : List Entry) (empty : given ≡ []) where
      pub of_users : Each (λ user seats. DoLines (lines_of user) (seats_at given seats) (seats_at past seats)) 1 users → AddsNoSeats (all_seats users) given past → AreOfUsers lines past
      of_users does others = record { users = by_number; others = λ seat beside. (subst (λ n. AddsNoSeats n given past) four_seats others) seat beside ∙ ap (own seat) empty }
        where
          each : Each (λ user seats. DoLines (lines_of user) (seats_at given seats) (seats_at past seats)) 1 (a ∷ b ∷ c ∷ d ∷ [])
          each = subst (Each (λ user seats. DoLines (lines_of user) (seats_at given seats) (seats_at past seats)) 1) are does

          by_number : (user : ℕ) → 0 < user → user < 5 → AreOfLines user lines (own user past)
          by_number zero some few = absurd (omega (arith, some))
          by_number (suc zero) some few = did given past lines (lines_of a.worker) 1 1 a.seats empty al refl a1 each.0
          by_number (suc (suc zero)) some few = did given past lines (lines_of b.worker) 2 (1 + a.seats) b.seats empty bl (omega (arith, a1)) b1 each.1.0
          by_number (suc (suc (suc zero))) some few = did given past lines (lines_of c.worker) 3 (1 + a.seats + b.seats) c.seats empty cl (omega (arith, a1, b1)) c1 each.1.1.0
          by_number (suc (suc (suc (suc zero)))) some few = did given past lines (lines_of d.worker) 4 (1 + a.seats + b.seats + c.seats) d.seats empty dl (omega (arith, a1, b1, c1)) d1 each.1.1.1.0
          by_number (suc (suc (suc (suc (suc n))))) some few = absurd (omega (arith, few))
