-- Numbers that rise: one that stands among them changes nothing where it is put again, and is found.
use Rattle.std.proofs.Common.{◌≡◌, ℕ, zero, suc, ◌<◌, List, [], ◌∷◌, Bool, true, false, if◌then◌else◌, ◌||◌, Some, Result, Ok, Err, IfOk, IfErr, is_ok, eqb, refl, sym, ap, ◌∙◌, arith}
use Rattle.std.specs.Prelude.{is_some}
use Rattle.std.specs.declared.cmp.Ordering.{Ordering}
use Rattle.std.specs.declared.cmp.Ordering.TheVariants.{Less, Equal, Greater}
use Rattle.std.specs.Ordering.{nat_cmp, is_eq}
use Rattle.std.specs.Ordering.{MatchOrdering}
use Rattle.std.proofs.lemmas.Bool.{eq-eqb, ne_eqb}
use Rattle.std.proofs.lemmas.Cmp.{ranked, nat_cmp_total}
use Rattle.std.proofs.lemmas.Map.Lookups.{exact_unsigned}
use Rattle.plain_data.specs.Rows.{IsRising, IsAt, IsGap, put, find}
use Rattle.plain_data.proofs.RowFacts.{find_at, find_gap}
use Rattle.script_lines.specs.Members.{is_given}

pub put_same : (n : ℕ) (xs : List ℕ) (i : ℕ) → IsAt nat_cmp (λ m. m) n xs i → put nat_cmp (λ m. m) n xs ≡ xs
put_same n [] i h = absurd h
put_same n (x ∷ xs) zero h = rw h (ap (λ y. y ∷ xs) (sym (exact_unsigned x n h)))
put_same n (x ∷ xs) (suc i) h = rw h.0 (ap (λ ys. x ∷ ys) (put_same n xs i h.1))

-- a test of equal numbers is that of their order
eqb_is : (m n : ℕ) → is_eq (nat_cmp m n) ≡ eqb m n
eqb_is m n = by (nat_cmp m n) (ranked m n _ refl)
  where
    by : (r : Ordering) → MatchOrdering r (m < n) (m ≡ n) (n < m) → is_eq r ≡ eqb m n
    by Less h = sym (ne_eqb m n (λ e. omega (arith, h, e)))
    by Equal h = sym (eq-eqb m n h)
    by Greater h = sym (ne_eqb m n (λ e. omega (arith, h, e)))

given_found : (n : ℕ) (xs : List ℕ) → is_given n xs ≡ is_some (find nat_cmp (λ m. m) n xs)
given_found n [] = refl
given_found n (x ∷ xs) = by (eqb x n) (is_eq (nat_cmp x n)) (eqb_is x n) (given_found n xs)
  where
    by : (b c : Bool) → c ≡ b → is_given n xs ≡ is_some (find nat_cmp (λ m. m) n xs) → (b || is_given n xs) ≡ is_some (if c then Some x else find nat_cmp (λ m. m) n xs)
    by true true e h = refl
    by false false e h = h
    by true false e h = absurd (cc)
    by false true e h = absurd (cc)

-- a place is where the number was given
pub given_at : (n : ℕ) (xs : List ℕ) (r : Result ℕ ℕ) → IsRising nat_cmp (λ m. m) xs → IfOk r (IsAt nat_cmp (λ m. m) n xs) → IfErr r (IsGap nat_cmp (λ m. m) n xs) → is_ok r ≡ is_given n xs
given_at n xs (Ok i) rising at gap = sym (given_found n xs ∙ ap is_some (find_at nat_cmp_total (λ m. m) n xs i 0 at))
given_at n xs (Err i) rising at gap = sym (given_found n xs ∙ ap is_some (find_gap nat_cmp_total (λ m. m) n xs i rising gap))
