-- Lives and their seats.
use Rattle.std.proofs.Common.{◌≡◌, ℕ, suc, ◌<◌, ◌≤◌, ◌+◌, List, [], ◌∷◌, length, Bool, true, false, refl, ap, arith, if◌then◌else◌}
use Rattle.std.specs.Prelude.{nat_lt}
use Rattle.std.proofs.lemmas.Bool.Decides.{nat_tests}
use Rattle.actor_turns.specs.declared.part.Part.{Part}
use Rattle.actor_turns.specs.Calls.{restarts_before, seat_at}
use Rattle.actor_turns.specs.Parts.{lives_by, lives_of}

-- no more restarts come before a call than there are
pub restarts_few : (n : ℕ) (restarts : List ℕ) → restarts_before n restarts ≤ length restarts
restarts_few n [] = omega arith
restarts_few n (after ∷ restarts) = by (nat_lt after n) (restarts_few n restarts)
  where
    by : (b : Bool) → restarts_before n restarts ≤ length restarts → (if b then 1 + restarts_before n restarts else restarts_before n restarts) ≤ suc (length restarts)
    by true h = omega (arith, h)
    by false h = omega (arith, h)

-- those that come before a call come before the next one
restarts_more : (n : ℕ) (restarts : List ℕ) → restarts_before n restarts ≤ restarts_before (n + 1) restarts
restarts_more n [] = omega arith
restarts_more n (after ∷ restarts) = by (nat_lt after n) (nat_lt after (n + 1)) refl refl (restarts_more n restarts)
  where
    by : (b c : Bool) → nat_lt after n ≡ b → nat_lt after (n + 1) ≡ c → restarts_before n restarts ≤ restarts_before (n + 1) restarts
        → (if b then 1 + restarts_before n restarts else restarts_before n restarts) ≤ (if c then 1 + restarts_before (n + 1) restarts else restarts_before (n + 1) restarts)
    by true true eb ec h = omega (arith, h)
    by true false eb ec h = absurd (grind (arith, nat_tests))
    by false true eb ec h = omega (arith, h)
    by false false eb ec h = h

pub seat_more : (part : Part) (n : ℕ) → seat_at part n ≤ seat_at part (n + 1)
seat_more part n = let h = restarts_more n part.restarts in omega (arith, h)

-- the seat of a life of an actor that turns name is one of its seats
pub seat_within : (part : Part) (n : ℕ) → part.named ≡ true → seat_at part n < part.first + lives_of part
seat_within part n named =
    let few = restarts_few n part.restarts in
    let lives : lives_of part ≡ 1 + length part.restarts = ap (λ b. lives_by b (length part.restarts)) named in
    omega (arith, few, lives)
