-- Sights, which show what a seat has seen.
use Rattle.std.proofs.Common.{◌≡◌, ℕ, List, length, ltb, sym, refl, subst, arith, All, Option, []}
use Rattle.atomic_table.specs.Table.{State, Splits, Joins}
use Rattle.seat_lock.specs.declared.keeps.Entry.{Entry}
use Rattle.seat_lock.specs.declared.known.Known.{Known}
use Rattle.seat_lock.specs.declared.known.Stage.TheVariants.{Spent, Idle}
use Rattle.seat_lock.specs.History.{StartsWith}
use Rattle.seat_lock.specs.Steps.Rule.{Course, Stands, IsKept, spent_view}
use Rattle.seat_lock.specs.Steps.Plays.{learnt_view, sight_note}
use Rattle.seat_lock.proofs.Made.{parted_within}
use Rattle.seat_lock.proofs.Numbers.{chosen, merged}
use Rattle.seat_lock.proofs.Shares.{note_joins, note_splits}

module _ {X A R B : Type 0} (history : X → List (Entry A R)) (base : X → B) (given : X) where
  abbrev K : Type 0
  K = Known A R B

  abbrev Rule : State (Option X) K → Type 0
  Rule = IsKept history base given

  pub sight_splits : (id : ℕ) (v : K) → v.stage ≡ Idle → Splits Rule id v v (sight_note v)
  sight_splits id v idle = note_splits history base given id v v (sight_note v) idle idle refl (omega arith) refl refl refl
      (λ d le. (le, le)) (λ t. parted_within t v.made v.share 0 v.share (omega arith)) (λ c o. (o, o.front))

  -- a view that has seen more still stands
  learnt : (c : Course A R B) (j : ℕ) (v w : K) → Stands c j v → StartsWith c.log w.front → Stands c j (learnt_view v w)
  learnt c j v w o seen = record {
    waits = o.waits;
    turn = o.turn;
    closing = o.closing;
    few = o.few;
    found = o.found;
    fronts = merged c.log v.front w.front v.fronts [] o.front seen o.fronts (λ i e lt. absurd (omega arith));
    base = o.base;
    opening = o.opening;
    front = chosen (StartsWith c.log) (ltb (length v.front) (length w.front)) v.front w.front o.front seen;
    own = o.own;
    number = o.number;
    held = o.held;
    met = o.met;
  }

  pub sight_joins : (id other : ℕ) (v w : K) → v.stage ≡ Idle → w.stage ≡ Spent → w.share ≡ 0 → Joins Rule id v other w (learnt_view v w) spent_view
  sight_joins id other v w idle dead none = note_joins history base given id other v w (learnt_view v w) idle idle dead (omega arith) refl refl
      (λ d a b. a) (λ t. omega arith) (λ c o seen. learnt c id v w o seen)

module _ {A R B : Type 0} where
  -- once the seat has compared what it has seen, that begins with both
  pub learnt_both : (m v w : Known A R B) → m ≡ learnt_view v w → All (λ (l : List (Entry A R)). StartsWith m.front l) m.fronts
      → StartsWith m.front v.front × StartsWith m.front w.front
  learnt_both m v w is all =
      let P : Known A R B → Type 0 = λ z. All (λ (l : List (Entry A R)). StartsWith z.front l) z.fronts → StartsWith z.front v.front × StartsWith z.front w.front in
      subst P (sym is) (λ h. (h 0 v.front (omega arith), h 1 w.front (omega arith))) all
