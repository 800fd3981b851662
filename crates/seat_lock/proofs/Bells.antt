-- A bell that is rung keeps the rule: no view and no sum speaks of the bells.
use Rattle.std.proofs.Common.{◌≡◌, ℕ, ◌+◌, ◌%◌, ◌^◌, ◌≤◌, zero, suc, List, ◌∷◌, get_or, set, sym, refl, ap, ◌∙◌, subst, arith, Option}
use mathlib.Core.Option.{none}
use Rattle.atomic_table.specs.Table.{State, Me, step, keeps, Allows}
use Rattle.atomic_table.proofs.Lists.{set_again}
use Rattle.seat_lock.specs.declared.keeps.Entry.{Entry}
use Rattle.seat_lock.specs.declared.known.Known.{Known}
use Rattle.seat_lock.specs.Steps.Rule.{Course, Stands, AddsUp, IsKept}
use Rattle.seat_lock.specs.Steps.Plays.{RingsBell}

-- the words, once one behind the first four was changed
changed : (a b c d : ℕ) (bells : List ℕ) (word n : ℕ) → 4 ≤ word → (after : List ℕ) × (set (a ∷ b ∷ c ∷ d ∷ bells) word n ≡ a ∷ b ∷ c ∷ d ∷ after)
changed a b c d bells zero n behind = absurd (omega arith)
changed a b c d bells (suc zero) n behind = absurd (omega arith)
changed a b c d bells (suc (suc zero)) n behind = absurd (omega arith)
changed a b c d bells (suc (suc (suc zero))) n behind = absurd (omega arith)
changed a b c d bells (suc (suc (suc (suc k)))) n behind = (set bells k n, refl)

module _ {A R B : Type 0} where
  abbrev with_bells : List ℕ → Course A R B → Course A R B
  with_bells bells c = record c { bells = bells }

  still_adds_up : (c : Course A R B) (bells : List ℕ) (views : List (Known A R B)) → AddsUp c views → AddsUp (with_bells bells c) views
  still_adds_up c bells views k = record { tickets = k.tickets; numbers = k.numbers; room = k.room; long = k.long; known = k.known }

  still_stands : (c : Course A R B) (bells : List ℕ) (j : ℕ) (v : Known A R B) → Stands c j v → Stands (with_bells bells c) j v
  still_stands c bells j v o = record {
    waits = o.waits;
    turn = o.turn;
    closing = o.closing;
    found = o.found;
    few = o.few;
    base = o.base;
    opening = o.opening;
    front = o.front;
    fronts = o.fronts;
    own = o.own;
    number = o.number;
    held = o.held;
    met = o.met;
  }

module _ {X A R B : Type 0} (history : X → List (Entry A R)) (base : X → B) (given : X) where
  abbrev K : Type 0
  K = Known A R B

  abbrev Rule : State (Option X) K → Type 0
  Rule = IsKept history base given

  pub rings : (slots id word : ℕ) (m : Me (Option X) K) → 4 ≤ word → Allows Rule slots id m word (λ n. (n + 1) % 2 ^ 64) (RingsBell (step slots word 1 0 none) m)
  rings slots id word m behind s r deep at small =
      let c = r.course in
      let n : ℕ = (get_or s.words word 0 + 1) % 2 ^ 64 in
      let new = changed _ _ _ _ c.bells word n behind in (
        m.0,
        keeps,
        tt,
        subst (λ (vs : List K). Rule record { words = set s.words word n; homes = s.homes; views = vs }) (sym (set_again s.views id m.0 at)) record {
          course = with_bells new.0 c;
          words = ap (λ ws. set ws word n) r.words ∙ new.1;
          given_is = r.given_is;
          begins = r.begins;
          counts = still_adds_up c new.0 s.views r.counts;
          home = r.home;
          away = r.away;
          views = λ j v there on. still_stands c new.0 j v (r.views j v there on);
          held_by = r.held_by;
          placed = r.placed;
          undrawn = r.undrawn;
          seen = r.seen;
        },
        refl,
      )
