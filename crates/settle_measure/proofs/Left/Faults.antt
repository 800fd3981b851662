-- Planned faults: how many are still ahead after a call.
use Rattle.std.proofs.Common.{◌≡◌, ℕ, ◌+◌, ◌≤◌, List, [], ◌∷◌, Bool, true, false, true≢false, refl, sym, subst, arith, length}
use Rattle.std.specs.Prelude.{cond, ◌||◌, ◌==◌, nat_lt, filter}
use Rattle.std.proofs.lemmas.Bool.Decides.{nat_tests}
use Rattle.binder_model.specs.Devices.{is_planned}
use Rattle.settle_measure.specs.Left.Bounds.{BackFaultPays, CallsStay}

fewer : (m n : ℕ) (faults : List ℕ) → m ≤ n → length (filter (λ f. nat_lt n f) faults) ≤ length (filter (λ f. nat_lt m f) faults)
fewer m n [] le = omega arith
fewer m n (f ∷ fs) le = by (nat_lt n f) (nat_lt m f) refl refl (fewer m n fs le)
  where
    by : (a b : Bool) → nat_lt n f ≡ a → nat_lt m f ≡ b → length (filter (λ g. nat_lt n g) fs) ≤ length (filter (λ g. nat_lt m g) fs)
        → length (cond a (f ∷ filter (λ g. nat_lt n g) fs) (filter (λ g. nat_lt n g) fs)) ≤ length (cond b (f ∷ filter (λ g. nat_lt m g) fs) (filter (λ g. nat_lt m g) fs))
    by true true ea eb h = omega (arith, h)
    by false true ea eb h = omega (arith, h)
    by false false ea eb h = h
    by true false ea eb h = absurd (grind (arith, nat_tests, ea, eb, le))

pub calls_stay : CallsStay
calls_stay setup before after le = fewer before.calls after.calls setup.faults le

one_fewer : (n : ℕ) (faults : List ℕ) → is_planned (n + 1) faults ≡ true → length (filter (λ f. nat_lt (n + 1) f) faults) + 1 ≤ length (filter (λ f. nat_lt n f) faults)
one_fewer n [] e = absurd (true≢false (sym e))
one_fewer n (f ∷ fs) e = by (f == n + 1) (nat_lt (n + 1) f) (nat_lt n f) refl refl refl e (one_fewer n fs) (fewer n (n + 1) fs (omega arith))
  where
    by : (p a b : Bool) → (f == n + 1) ≡ p → nat_lt (n + 1) f ≡ a → nat_lt n f ≡ b → (p || is_planned (n + 1) fs) ≡ true
        → (is_planned (n + 1) fs ≡ true → length (filter (λ g. nat_lt (n + 1) g) fs) + 1 ≤ length (filter (λ g. nat_lt n g) fs))
        → length (filter (λ g. nat_lt (n + 1) g) fs) ≤ length (filter (λ g. nat_lt n g) fs)
        → length (cond a (f ∷ filter (λ g. nat_lt (n + 1) g) fs) (filter (λ g. nat_lt (n + 1) g) fs)) + 1 ≤ length (cond b (f ∷ filter (λ g. nat_lt n g) fs) (filter (λ g. nat_lt n g) fs))
    by true true b ep ea eb e rest less = absurd (grind (arith, nat_tests, ep, ea))
    by true false true ep ea eb e rest less = omega (arith, less)
    by true false false ep ea eb e rest less = absurd (grind (arith, nat_tests, ep, eb))
    by false true true ep ea eb e rest less = let h = rest e in omega (arith, h)
    by false true false ep ea eb e rest less = absurd (grind (arith, nat_tests, ea, eb))
    by false false true ep ea eb e rest less = let h = rest e in omega (arith, h)
    by false false false ep ea eb e rest less = rest e

pub back_fault_pays : BackFaultPays
back_fault_pays setup before after calls planned = let h = one_fewer before.calls setup.faults planned in
    subst (λ n. length (filter (λ f. nat_lt n f) setup.faults) + 1 ≤ length (filter (λ f. nat_lt before.calls f) setup.faults)) (sym calls) h
