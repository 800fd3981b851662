-- What an actor left of its seats, in a history that has its seats so.
use Rattle.std.proofs.Common.{◌≡◌, ◌⊎◌, inl, inr, refl, sym, ap, subst, arith, ℕ, zero, suc, ◌+◌, ◌-◌, ◌<◌, ◌≤◌, List, [], ◌∷◌, map}
use Rattle.attention_law.specs.Resting.{WasToldStale}
use Rattle.call_types.specs.declared.entry.Entry.{Entry}
use Rattle.binder_model.specs.Told.{own}
use Rattle.actor_work.proofs.Lives.Seats.{actors_by_seats}
use Rattle.size_law.specs.Calls.Calls.{AreByActors}
use Rattle.worker_core.specs.declared.role.Role.{Role}
use Rattle.actor_turns.specs.declared.part.Part.{Part}
use Rattle.actor_turns.specs.Calls.{seat_at}
use Rattle.actor_turns.specs.Parts.{lives_of}
use Rattle.actor_turns.specs.Lives.{WasPlayed}
use Rattle.actor_turns.proofs.Lived.{kept_life}
use Rattle.actor_turns.proofs.Lives.{seat_within}
use Rattle.actor_work.specs.Work.Working.{HasWorked}
use Rattle.shared_work.specs.Crew.{numbers_from}
use Rattle.actor_work.specs.Crew.Acting.{ActorsInHistories}

abbrev first_or : {X : Type 0} → X → List X → X
first_or x [] = x
first_or x (y ∷ ys) = y

abbrev after_first : {X : Type 0} → List X → List X
after_first [] = []
after_first (y ∷ ys) = ys

-- two that agree on numbers that follow one another, at one of these
same_at : {X : Type 0} (f g : ℕ → X) (first many i : ℕ) → map f (numbers_from first many) ≡ map g (numbers_from first many) → i < many → f (first + i) ≡ g (first + i)
same_at f g first zero i is lt = absurd (omega (arith, lt))
same_at f g first (suc many) zero is lt = subst (λ n. f n ≡ g n) (omega arith) (ap (first_or (f first)) is)
same_at f g first (suc many) (suc i) is lt = subst (λ n. f n ≡ g n) (omega arith) (same_at f g (first + 1) many i (ap after_first is) (omega (arith, lt)))

-- what is said of a life is said of its seat's own entries
pub life_in : (held : List ℕ) (role : Role) (part : Part) (seat made : ℕ) (mine past : List Entry) → own seat past ≡ own seat mine
    → WasPlayed held role part seat made mine → WasPlayed held role part seat made past
life_in held role part seat made mine past is was = record { before = was.before; life = kept_life held held role part seat made made mine past was.before is refl was.life }

pub actors_in_histories : ActorsInHistories
actors_in_histories role part calls past named acted = record {
  made = acted.made;
  mine = acted.mine;
  own_is = same;
  alone = acted.alone;
  calls_are = acted.calls_are;
  whole = worked acted.whole;
  lives = λ seat low high. life_in [] role part seat acted.made acted.mine past (same seat low high) (acted.lives seat low high);
  actors = λ seat low high. subst AreByActors (sym (same seat low high)) ((actors_by_seats acted.mine).0 acted.actors seat);
}
  where
    same : (seat : ℕ) → part.first ≤ seat → seat < part.first + lives_of part → own seat past ≡ own seat acted.mine
    same seat low high =
        let at = same_at (λ n. (n, own n past)) (λ n. (n, own n acted.mine)) part.first (lives_of part) (seat - part.first) acted.after_is (omega (arith, low, high)) in
        let here : part.first + (seat - part.first) ≡ seat = omega (arith, low) in
        subst (λ n. own n past ≡ own n acted.mine) here (ap (λ (s : ℕ × List Entry). s.1) at)

    worked : HasWorked part calls acted.made acted.mine → HasWorked part calls acted.made past
    worked (inl all) = inl all
    worked (inr few) =
        let within = seat_within part (acted.made + 1) named in
        inr (few.0, subst (WasToldStale part.kind) (sym (same (seat_at part (acted.made + 1)) (omega arith) within)) few.1)
