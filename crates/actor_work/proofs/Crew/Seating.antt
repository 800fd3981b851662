-- The passes of an actor's lives, and their seats.
use Rattle.std.proofs.Common.{◌≡◌, ◌≢◌, ◌⊎◌, inl, inr, refl, sym, ◌∙◌, ap, subst, arith, ℕ, zero, suc, ◌+◌, ◌-◌, ◌<◌, ◌≤◌, List, [], ◌∷◌, ◌++◌, append-nil, length, map, slice_index_or}
use Rattle.std.specs.List.{AllByRecursion}
use Rattle.attention_law.specs.Diligence.{Call}
use Rattle.call_types.specs.declared.ask.Ask.{Ask}
use Rattle.call_types.specs.declared.entry.Entry.{Entry}
use Rattle.call_types.specs.declared.setup.Setup.{Setup}
use Rattle.call_types.specs.declared.reply.Reply.{Reply}
use Rattle.binder_model.specs.Told.{own}
use Rattle.seat_lock.specs.declared.keeps.Keeps.{Ghosts}
use Rattle.seat_lock.specs.declared.pass.Pass.{Pass}
use Rattle.seat_lock.specs.Passes.{number_of}
use Rattle.actor_rounds.specs.Answers.Answered.{all_pass}
use Rattle.shared_world.specs.declared.shared.SharedWorld.{SharedWorld}
use Rattle.shared_world.specs.Lines.{Kept}
use Rattle.shared_world.specs.Passes.{IsFirst, mine_of}
use Rattle.actor_work.specs.Lives.Lived.{EachLife, past_of}
use Rattle.actor_work.proofs.Lives.Following.{own_both}
use Rattle.actor_work.proofs.Lives.Living.{own_at}
use Rattle.size_law.specs.Calls.Calls.{AreByActors}
use Rattle.worker_core.specs.declared.role.Role.{Role}
use Rattle.actor_turns.specs.declared.part.Part.{Part}
use Rattle.actor_turns.specs.declared.player.Player.{Player}
use Rattle.actor_turns.specs.Calls.{AreCalls}
use Rattle.actor_turns.specs.Parts.{lives_of}
use Rattle.actor_turns.specs.Steps.Living.{Lives}
use Rattle.actor_turns.specs.Lives.{WasPlayed}
use Rattle.actor_work.specs.Work.Working.{AreWorkedLives, HasWorked}
use Rattle.shared_work.specs.Crew.{numbers_from}
use Rattle.shared_work.specs.Seats.{AreKept, lasting, seat_of, seats_at, seats_of}
use Rattle.actor_work.specs.Crew.Acting.{HasActed, MayAct}

abbrev first_seat : List (ℕ × List Entry) → ℕ × List Entry
first_seat [] = (0, [])
first_seat (seat ∷ seats) = seat

abbrev other_seats : List (ℕ × List Entry) → List (ℕ × List Entry)
other_seats [] = []
other_seats (seat ∷ seats) = seats

-- the passes of lives before the first call
pub record AreUnused {k : Ghosts Kept Ask Reply Setup} (shared : SharedWorld) (made first many : ℕ) (passes : List (Pass Kept Ask Reply Setup k)) : Type 0 where
  pub lives : EachLife shared made first passes
  pub none : past_of passes ≡ []
  pub many_are : length passes ≡ many

module _ {k : Ghosts Kept Ask Reply Setup} (shared : SharedWorld) (made : ℕ) where
  -- new passes of seats without entries, whose numbers follow one another
  pub unused : (first many : ℕ) (passes : List (Pass Kept Ask Reply Setup k)) → AllByRecursion (λ p. IsFirst shared made (number_of p) p) passes
      → seats_of passes ≡ seats_at [] (numbers_from first many) → AreUnused shared made first many passes
  unused first zero [] new is = record { lives = tt; none = refl; many_are = refl }
  unused first (suc many) [] new is = absurd (let long : 0 ≡ suc (length (seats_at [] (numbers_from (first + 1) many))) = ap length is in omega (arith, long))
  unused first zero (p ∷ passes) new is = absurd (let long : suc (length (seats_of passes)) ≡ 0 = ap length is in omega (arith, long))
  unused first (suc many) (p ∷ passes) new is =
      let here : seat_of p ≡ (first, []) = ap first_seat is in
      let mine : mine_of p ≡ [] = ap (λ (s : ℕ × List Entry). s.1) here in
      let rest = unused (first + 1) many passes new.1 (ap other_seats is) in
      let long = rest.many_are in
      record {
        lives = (
          record {
            of = new.0.of;
            made_is = new.0.made_is;
            met = new.0.met;
            number = ap (λ (s : ℕ × List Entry). s.0) here;
            only = ap (own first) mine ∙ sym mine;
            none = λ other differs. ap (own other) mine;
          },
          rest.lives,
        );
        none = ap (λ (es : List Entry). es ++ mine_of p) rest.none ∙ mine;
        many_are = ap suc long;
      }

  -- no other seat has entries in those of the lives
  alone : (first seat : ℕ) (passes : List (Pass Kept Ask Reply Setup k)) → EachLife shared made first passes → (seat < first) ⊎ (first + length passes ≤ seat) → own seat (past_of passes) ≡ []
  alone first seat [] lives out = refl
  alone first seat (p ∷ passes) lives out =
      own_both seat (past_of passes) (mine_of p)
      ∙ ap (λ (es : List Entry). own seat (past_of passes) ++ es) (lives.0.none seat (other out))
      ∙ append-nil (own seat (past_of passes))
      ∙ alone (first + 1) seat passes lives.1 (on out)
    where
      other : (seat < first) ⊎ (first + length (p ∷ passes) ≤ seat) → seat ≢ first
      other (inl below) is = absurd (omega (arith, below, is))
      other (inr above) is = absurd (omega (arith, above, is))

      on : (seat < first) ⊎ (first + length (p ∷ passes) ≤ seat) → (seat < first + 1) ⊎ (first + 1 + length passes ≤ seat)
      on (inl below) = inl (omega (arith, below))
      on (inr above) = inr (omega (arith, above))

  -- the seats are as they are in entries that have each pass's own list
  seats_in : (whole : List Entry) (first : ℕ) (passes : List (Pass Kept Ask Reply Setup k)) → EachLife shared made first passes
      → ((i : ℕ) (d : Pass Kept Ask Reply Setup k) → i < length passes → own (first + i) whole ≡ mine_of (slice_index_or passes i d))
      → seats_of passes ≡ seats_at whole (numbers_from first (length passes))
  seats_in whole first [] lives each = refl
  seats_in whole first (p ∷ passes) lives each =
      let here : own first whole ≡ mine_of p = subst (λ n. own n whole ≡ mine_of p) (omega arith) (each 0 p (omega arith)) in
      let rest = seats_in whole (first + 1) passes lives.1 (λ i d lt. subst (λ n. own n whole ≡ mine_of (slice_index_or passes i d)) (omega arith) (each (suc i) d (omega (arith, lt)))) in
      λ i. (lives.0.number i, sym here i) ∷ rest i

  lasting_of : (first : ℕ) (passes : List (Pass Kept Ask Reply Setup k)) → EachLife shared made first passes → map lasting passes ≡ map (λ n. (n, 0, made)) (numbers_from first (length passes))
  lasting_of first [] lives = refl
  lasting_of first (p ∷ passes) lives = λ i. (lives.0.number i, lives.0.met i, lives.0.made_is i) ∷ lasting_of (first + 1) passes lives.1 i

  -- as many passes of the same lives are those of before
  pub are_kept : (first : ℕ) (before after : List (Pass Kept Ask Reply Setup k)) → EachLife shared made first before
      → EachLife shared made first after → length after ≡ length before → AreKept before after
  are_kept first before after lives then_lives long =
      lasting_of first after then_lives
      ∙ ap (λ n. map (λ (m : ℕ). (m, 0, made)) (numbers_from first n)) long
      ∙ sym (lasting_of first before lives)

  -- what the work of an actor leaves of its seats
  module _ (x y : Player) (calls : ℕ) (before after : List (Pass Kept Ask Reply Setup k)) (may : MayAct x calls (seats_of before))
      (unused_are : AreUnused shared made x.part.first (lives_of x.part) before)
      (then_lives : EachLife shared made x.part.first after) (many : length after ≡ length before) (part : y.part ≡ x.part) (held : y.held ≡ x.held) where
    long : length after ≡ lives_of x.part
    long = many ∙ unused_are.many_are

    calls_from : AreCalls all_pass x.held x.part (past_of after) (x.made + 1) (y.made - x.made) (past_of before) → AreCalls all_pass [] x.part (past_of after) 1 y.made []
    calls_from made_calls =
        let a = subst (λ (h : List ℕ). AreCalls all_pass h x.part (past_of after) (x.made + 1) (y.made - x.made) (past_of before)) may.held made_calls in
        let b = subst (λ (es : List Entry). AreCalls all_pass [] x.part (past_of after) (x.made + 1) (y.made - x.made) es) unused_are.none a in
        let at : x.made + 1 ≡ 1 = let none = may.made in omega (arith, none) in
        let all : y.made - x.made ≡ y.made = let none = may.made in omega (arith, none) in
        subst (λ (n : ℕ). AreCalls all_pass [] x.part (past_of after) n y.made []) at (subst (λ (n : ℕ). AreCalls all_pass [] x.part (past_of after) (x.made + 1) n []) all b)

    whole_from : HasWorked x.part (x.made + calls) y.made (past_of after) → HasWorked x.part calls y.made (past_of after)
    whole_from whole =
        let end : x.made + calls ≡ calls = let none = may.made in omega (arith, none) in
        subst (λ (n : ℕ). HasWorked x.part n y.made (past_of after)) end whole

    lives_from : ((role : Role) (idle : ℕ → List Call) → Lives role x (past_of before) idle → AreWorkedLives role y (past_of after)) → (seat : ℕ)
        → x.part.first ≤ seat → seat < x.part.first + lives_of x.part → WasPlayed [] x.actor.role x.part seat y.made (past_of after)
    lives_from each seat low high =
        let all = each x.actor.role may.lives.idle (subst (λ (es : List Entry). Lives x.actor.role x es may.lives.idle) (sym unused_are.none) may.lives.lives) in
        let life = all seat (subst (λ (p : Part). p.first ≤ seat) (sym part) low) (subst (λ (p : Part). seat < p.first + lives_of p) (sym part) high) in
        subst (λ (h : List ℕ). WasPlayed h x.actor.role x.part seat y.made (past_of after)) (held ∙ may.held)
        (subst (λ (p : Part). WasPlayed y.held x.actor.role p seat y.made (past_of after)) part life)

    pub has_acted : AreCalls all_pass x.held x.part (past_of after) (x.made + 1) (y.made - x.made) (past_of before) → HasWorked x.part (x.made + calls) y.made (past_of after)
        → ((role : Role) (idle : ℕ → List Call) → Lives role x (past_of before) idle → AreWorkedLives role y (past_of after))
        → (AreByActors (past_of before) → AreByActors (past_of after)) → HasActed x.actor.role x.part calls (seats_of after)
    has_acted made_calls whole each asked = record {
      made = y.made;
      mine = past_of after;
      after_is = seats_in (past_of after) x.part.first after then_lives (λ i d lt. own_at shared made x.part.first i after d then_lives lt)
          ∙ ap (λ n. seats_at (past_of after) (numbers_from x.part.first n)) long;
      alone = λ seat out. alone x.part.first seat after then_lives (subst (λ n. (seat < x.part.first) ⊎ (x.part.first + n ≤ seat)) (sym long) out);
      calls_are = calls_from made_calls;
      whole = whole_from whole;
      lives = lives_from each;
      actors = asked (subst AreByActors (sym unused_are.none) tt);
    }
