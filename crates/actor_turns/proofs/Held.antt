-- The numbers of calls that were held back.
use Rattle.std.proofs.Common.{◌≡◌, ◌≢◌, ◌<◌, ◌+◌, ℕ, zero, suc, List, [], ◌∷◌, ◌++◌, Bool, true, false, refl, sym, ◌∙◌, ap, subst, arith, if◌then◌else◌}
use Rattle.std.specs.Prelude.{◌==◌, ◌&&◌, not}
use Rattle.std.proofs.lemmas.Bool.Decides.{Decides-eqb}
use Rattle.call_types.specs.declared.entry.Entry.{Entry}
use Rattle.actor_rounds.specs.Answers.Answered.{Lets}
use Rattle.actor_turns.specs.declared.part.Part.{Part}
use Rattle.actor_turns.specs.Calls.{IsCall, IsCallBy, is_held, leaves_entry, left_by, seat_at}
use Rattle.actor_turns.specs.Fates.{fate_of}
use Rattle.actor_turns.specs.Steps.Playing.{AgreeTo, and_held}

-- one number more changes no other
held_other : (b : Bool) (m n : ℕ) (held : List ℕ) → n ≢ m → is_held (and_held b m held) n ≡ is_held held n
held_other false m n held differs = refl
held_other true m n [] differs = by (m == n) refl
  where
    by : (b : Bool) → (m == n) ≡ b → (if b then true else false) ≡ false
    by true e = absurd (differs (sym ((Decides-eqb m n).0 e)))
    by false e = refl
held_other true m n (x ∷ held) differs = by (x == n) (held_other true m n held differs)
  where
    by : (b : Bool) → is_held (held ++ m ∷ []) n ≡ is_held held n → (if b then true else is_held (held ++ m ∷ []) n) ≡ (if b then true else is_held held n)
    by true rest = refl
    by false rest = rest

-- it is there itself, where it was held back
pub held_own : (b : Bool) (n : ℕ) (held : List ℕ) → is_held held n ≡ false → is_held (and_held b n held) n ≡ b
held_own false n held none = none
held_own true n [] none = let same : (n == n) ≡ true = (Decides-eqb n n).1 refl in rw same refl
held_own true n (x ∷ held) none = by (x == n) none (held_own true n held)
  where
    by : (b : Bool) → (if b then true else is_held held n) ≡ false → (is_held held n ≡ false → is_held (held ++ n ∷ []) n ≡ true) → (if b then true else is_held (held ++ n ∷ []) n) ≡ true
    by true is rest = refl
    by false is rest = rest is

-- so earlier calls stay what they are, and later ones are not made yet
pub agree_more : (b : Bool) (made : ℕ) (held : List ℕ) → AgreeTo made (and_held b (made + 1) held) held
agree_more b made held n low = held_other b (made + 1) n held (λ e. absurd (omega (arith, e, low)))

pub ahead_more : (b : Bool) (made : ℕ) (held : List ℕ) → ((n : ℕ) → made < n → is_held held n ≡ false) → (n : ℕ) → made + 1 < n → is_held (and_held b (made + 1) held) n ≡ false
ahead_more b made held ahead n after = held_other b (made + 1) n held (λ e. absurd (omega (arith, e, after))) ∙ ahead n (omega (arith, after))

-- the calls of lives, where the same were held back
pub left_agree : (held others : List ℕ) (part : Part) (seat n : ℕ) → AgreeTo n held others → left_by held part seat n ≡ left_by others part seat n
left_agree held others part seat zero agree = refl
left_agree held others part seat (suc n) agree = by (seat_at part (suc n) == seat) (agree (suc n) (omega arith)) (left_agree held others part seat n (λ m low. agree m (omega (arith, low))))
  where
    leaves : Bool → Bool
    leaves h = not h && leaves_entry (fate_of part.losses (suc n))

    by : (b : Bool) → is_held held (suc n) ≡ is_held others (suc n) → left_by held part seat n ≡ left_by others part seat n
        → (if b then leaves (is_held held (suc n)) ∷ left_by held part seat n else left_by held part seat n)
        ≡ (if b then leaves (is_held others (suc n)) ∷ left_by others part seat n else left_by others part seat n)
    by true same rest = ap (λ h. leaves h ∷ left_by held part seat n) same ∙ ap (λ ls. leaves (is_held others (suc n)) ∷ ls) rest
    by false same rest = rest

-- a call that was held back, or not, where the same were
pub call_agree : (lets : Lets) (held others : List ℕ) (part : Part) (n : ℕ) (past new : List Entry) → is_held held n ≡ is_held others n
    → IsCall lets others part n past new → IsCall lets held part n past new
call_agree lets held others part n past new same call = subst (λ b. IsCallBy lets b (fate_of part.losses n) (seat_at part n) part.kind past new) (sym same) call
