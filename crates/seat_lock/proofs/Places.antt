-- The views that tickets and numbers belong to, after a step of one seat.
use Rattle.std.proofs.Common.{◌≡◌, ℕ, ◌<◌, ◌≤◌, List, [], ◌∷◌, ◌++◌, set, sym, ap, ◌∙◌, subst, ⊎_elim, inl, inr, arith}
use mathlib.Core.Logic.{dite}
use mathlib.Core.Option.{some, some-injective}
use native.Mathlib.Decide.{ℕ_discrete}
use lib.ListN.{get_elem?}
use Rattle.atomic_table.proofs.Lists.{set_here, set_else}
use Rattle.seat_lock.specs.declared.keeps.Entry.{Entry}
use Rattle.seat_lock.specs.declared.known.Known.{Known}
use Rattle.seat_lock.specs.Steps.Rule.{Tie, Own, Held, Met, IsMet, HasNumber, IsPlaced, live_count}
use Rattle.seat_lock.proofs.Views.{at_below}

module _ {E : Type 0} where
  met_left : (n : ℕ) (xs ys : List (ℕ × E)) → IsMet n xs → IsMet n (xs ++ ys)
  met_left n [] ys h = absurd h
  met_left n (x ∷ xs) ys h = ⊎_elim (λ e. inl e) (λ t. inr (met_left n xs ys t)) h

  pub met_right : (n : ℕ) (xs ys : List (ℕ × E)) → IsMet n ys → IsMet n (xs ++ ys)
  met_right n [] ys h = h
  met_right n (x ∷ xs) ys h = inr (met_right n xs ys h)

module _ {A R B : Type 0} where
  -- the view at the place h, which has P, after a step of the seat me
  pub found_stays : (P : Known A R B → Type 0) (vs : List (Known A R B)) (me : ℕ) (v w : Known A R B) (h : ℕ) → get_elem? vs me ≡ some v
      → (P v → P w) → (u : Known A R B) × (get_elem? vs h ≡ some u) × P u
      → (u : Known A R B) × (get_elem? (set vs me w) h ≡ some u) × P u
  found_stays P vs me v w h at keep old = dite (ℕ_discrete h me)
      (λ e.
      let same : old.0 ≡ v = some-injective old.0 v (sym old.1 ∙ ap (get_elem? vs) e ∙ at) in
      (w, ap (get_elem? (set vs me w)) e ∙ set_here vs me w (at_below vs me v at), keep (subst P same old.2)))
      (λ n. (old.0, set_else vs me h w n ∙ old.1, old.2))

  pub numbers_stay : (n : ℕ) (x : Tie) (v w : Known A R B) → w.number ≡ v.number → (v.from ≤ n → n < v.upto → (w.from ≤ n) × (n < w.upto))
      → (IsMet n v.met → IsMet n w.met) → HasNumber n x v → HasNumber n x w
  numbers_stay n Own v w number held met h = h ∙ sym number
  numbers_stay n Held v w number held met h = held h.0 h.1
  numbers_stay n Met v w number held met h = met h

  pub place_stays : (vs : List (Known A R B)) (me : ℕ) (v w : Known A R B) (n : ℕ) (x : ℕ × Tie) → get_elem? vs me ≡ some v → live_count w.stage ≡ 1
      → (HasNumber n x.1 v → HasNumber n x.1 w) → IsPlaced vs n x → IsPlaced (set vs me w) n x
  place_stays vs me v w n x at live keep old = found_stays (λ u. (live_count u.stage ≡ 1) × HasNumber n x.1 u) vs me v w x.0 at (λ h. (live, keep h.1)) old

  -- the same where the view has the numbers that it had
  abbrev pub numbers_of : Known A R B → ℕ × ℕ × ℕ × List (ℕ × List (Entry A R))
  numbers_of v = (v.number, v.from, v.upto, v.met)

  pub same_place : (vs : List (Known A R B)) (me : ℕ) (v w : Known A R B) (n : ℕ) (x : ℕ × Tie) → get_elem? vs me ≡ some v → live_count w.stage ≡ 1
      → numbers_of w ≡ numbers_of v → IsPlaced vs n x → IsPlaced (set vs me w) n x
  same_place vs me v w n x at live same old =
      let from : w.from ≡ v.from = ap (λ z. z.1) same in let upto : w.upto ≡ v.upto = ap (λ z. z.2) same in
      place_stays vs me v w n x at live (numbers_stay n x.1 v w (ap (λ z. z.0) same) (λ a b. (omega arith, omega arith)) (subst (IsMet n) (sym (ap (λ z. z.3) same)))) old

  -- the numbers of a view that holds none for a seat to come, once it was met
  pub met_with : (n : ℕ) (x : Tie) (w : Known A R B) (ms : List (ℕ × List (Entry A R))) → w.upto ≤ w.from → HasNumber n x w → IsMet n ((w.number, w.own) ∷ (w.met ++ ms))
  met_with n Own w ms none h = inl h
  met_with n Held w ms none h = absurd (let a = h.0 in let b = h.1 in omega arith)
  met_with n Met w ms none h = inr (met_left n w.met ms h)
