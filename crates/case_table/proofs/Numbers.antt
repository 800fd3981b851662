-- Lists of conditions as binary numbers.
use Rattle.std.proofs.Common.{ℕ, zero, suc, ◌≡◌, ◌+◌, ◌-◌, ◌^◌, ◌<◌, ◌≤◌, Bool, true, false, List, [], ◌∷◌, length, get_or, replicate, set, cond, refl, sym, ap, ◌∙◌, arith, subst, length-set}
use Rattle.std.proofs.Math.Nat.{two-pow-succ}
use Rattle.case_table.specs.Cases.{binary}

pub two_pow : (n : ℕ) → 2 ^ suc n ≡ 2 ^ n + 2 ^ n
two_pow n = two-pow-succ n

pub binary_clear : (k : ℕ) → binary (replicate k false) ≡ 0
binary_clear zero = refl
binary_clear (suc k) = omega (arith, binary_clear k)

pub get_clear : (k j : ℕ) → get_or (replicate k false) j false ≡ false
get_clear zero j = refl
get_clear (suc k) zero = refl
get_clear (suc k) (suc j) = get_clear k j

-- a condition that is set adds the weight of its place
pub binary_set : (cs : List Bool) (i e : ℕ) → e + suc i ≡ length cs → get_or cs i false ≡ false → binary (set cs i true) ≡ binary cs + 2 ^ e
binary_set [] i e place clear = absurd (omega arith)
binary_set (true ∷ cs) zero e place clear = cc
binary_set (false ∷ cs) zero e place clear =
    let same : e ≡ length cs = omega arith in
    let weight : 2 ^ e ≡ 2 ^ length cs = ap (λ n. 2 ^ n) same in
    omega (arith, weight)
binary_set (c ∷ cs) (suc i) e place clear =
    let later : e + suc i ≡ length cs = omega arith in
    let less = binary_set cs i e later clear in
    let weight : cond c (2 ^ length (set cs i true)) 0 ≡ cond c (2 ^ length cs) 0 = ap (λ n. cond c (2 ^ n) 0) (length-set cs i true) in
    omega (arith, less, weight)

-- what is set up to a place, and what is left of the number
pub record Digits (k i number : ℕ) (cs : List Bool) (rest : ℕ) : Type 0 where
  pub whole : length cs ≡ k
  pub sum : binary cs + rest ≡ number
  pub small : rest < 2 ^ (k - i)
  pub clear : (j : ℕ) → i ≤ j → get_or cs j false ≡ false

pub digits_begin : (k number : ℕ) → number < 2 ^ k → Digits k 0 number (replicate k false) number
digits_begin k number below = record {
  whole = length_clear k;
  sum = omega (arith, binary_clear k);
  small = subst (λ n. number < 2 ^ n) (the_same k) below;
  clear = λ j above. get_clear k j;
}
  where
    the_same : (n : ℕ) → n ≡ n - 0
    the_same n = omega arith

    length_clear : (n : ℕ) → length (replicate n false) ≡ n
    length_clear zero = refl
    length_clear (suc n) = ap suc (length_clear n)

get_set_later : (cs : List Bool) (i j : ℕ) → i < j → get_or (set cs i true) j false ≡ get_or cs j false
get_set_later [] i j below = refl
get_set_later (c ∷ cs) i zero below = absurd (omega arith)
get_set_later (c ∷ cs) zero (suc j) below = refl
get_set_later (c ∷ cs) (suc i) (suc j) below = get_set_later cs i j (omega arith)

halves : (k i e : ℕ) → e + suc i ≡ k → 2 ^ (k - i) ≡ 2 ^ e + 2 ^ e
halves k i e place = ap (λ n. 2 ^ n) (omega arith) ∙ two_pow e

pub digit_set : (k i number : ℕ) (cs : List Bool) (rest weight : ℕ) → i < k → weight ≡ 2 ^ (k - 1 - i) → weight ≤ rest → Digits k i number cs rest
    → Digits k (i + 1) number (set cs i true) (rest - weight)
digit_set k i number cs rest weight below same enough d =
    let place : (k - 1 - i) + suc i ≡ k = omega arith in
    let exponent : k - (i + 1) ≡ k - 1 - i = omega arith in
    let power : 2 ^ (k - (i + 1)) ≡ weight = ap (λ n. 2 ^ n) exponent ∙ sym same in
    let grown : binary (set cs i true) ≡ binary cs + 2 ^ (k - 1 - i) = binary_set cs i (k - 1 - i) (place ∙ sym d.whole) (d.clear i (omega arith)) in
    let both = halves k i (k - 1 - i) place in
    let small = d.small in
    let sum = d.sum in
    record {
      whole = length-set cs i true ∙ d.whole;
      sum = omega (arith, grown, sum, same);
      small = omega (arith, both, small, same, power);
      clear = λ j above. get_set_later cs i j (omega arith) ∙ d.clear j (omega arith);
    }

pub digit_clear : (k i number : ℕ) (cs : List Bool) (rest weight : ℕ) → i < k → weight ≡ 2 ^ (k - 1 - i) → rest < weight → Digits k i number cs rest → Digits k (i + 1) number cs rest
digit_clear k i number cs rest weight below same less d =
    let exponent : k - (i + 1) ≡ k - 1 - i = omega arith in
    let power : 2 ^ (k - (i + 1)) ≡ weight = ap (λ n. 2 ^ n) exponent ∙ sym same in
    record {
      whole = d.whole;
      sum = d.sum;
      small = omega (arith, power);
      clear = λ j above. d.clear j (omega arith);
    }

pub digits_end : (k i number : ℕ) (cs : List Bool) (rest : ℕ) → k ≤ i → Digits k i number cs rest → binary cs ≡ number
digits_end k i number cs rest done d =
    let none : k - i ≡ 0 = omega arith in
    let one : 2 ^ (k - i) ≡ 1 = ap (λ n. 2 ^ n) none in
    let small = d.small in
    let sum = d.sum in
    omega (arith, one, small, sum)

pub binary_below : (cs : List Bool) → binary cs < 2 ^ length cs
binary_below [] = omega arith
binary_below (true ∷ cs) = omega (arith, binary_below cs, two_pow (length cs))
binary_below (false ∷ cs) = omega (arith, binary_below cs, two_pow (length cs))

-- two lists of one length and one number are one
pub binary_one : (cs ds : List Bool) → length cs ≡ length ds → binary cs ≡ binary ds → cs ≡ ds
binary_one [] [] same e = refl
binary_one [] (d ∷ ds) same e = absurd (omega arith)
binary_one (c ∷ cs) [] same e = absurd (omega arith)
binary_one (true ∷ cs) (true ∷ ds) same e = ap (λ xs. true ∷ xs) (binary_one cs ds (omega arith) (omega (arith, weight_of cs ds (omega arith))))
  where
    weight_of : (xs ys : List Bool) → length xs ≡ length ys → 2 ^ length xs ≡ 2 ^ length ys
    weight_of xs ys h = ap (λ n. 2 ^ n) h
binary_one (false ∷ cs) (false ∷ ds) same e = ap (λ xs. false ∷ xs) (binary_one cs ds (omega arith) (omega arith))
binary_one (true ∷ cs) (false ∷ ds) same e =
    let weight : 2 ^ length cs ≡ 2 ^ length ds = ap (λ n. 2 ^ n) (omega arith) in
    absurd (omega (arith, weight, binary_below ds))
binary_one (false ∷ cs) (true ∷ ds) same e =
    let weight : 2 ^ length cs ≡ 2 ^ length ds = ap (λ n. 2 ^ n) (omega arith) in
    absurd (omega (arith, weight, binary_below cs))
