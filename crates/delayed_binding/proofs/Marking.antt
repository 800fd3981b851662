-- Marks and the places that they stand for.
use Rattle.std.proofs.Common.{
  ℕ,
  zero,
  suc,
  ◌≡◌,
  ◌≢◌,
  ◌∙◌,
  ◌+◌,
  ◌<◌,
  Bool,
  true,
  false,
  ◌||◌,
  ◌==◌,
  List,
  [],
  ◌∷◌,
  ◌++◌,
  length,
  set,
  get_or,
  Option,
  Some,
  None,
  IfSome,
  MatchOption,
  HoldsAt,
  Bor,
  ◌≤◌,
  refl,
  sym,
  ap,
  arith,
}
use Rattle.std.specs.Prelude.{slice_get}
use Rattle.std.specs.Option.{option_copied}
use Rattle.std.proofs.lemmas.Bool.Decides.{Decides-eqb}
use Rattle.std.proofs.lemmas.Option.{slice_get_past, slice_get_read}
use Rattle.binder_model.specs.Matching.{is_excluded}
use Rattle.delayed_binding.specs.Steps.Marks.{marked}
use Rattle.delayed_binding.specs.Steps.Sharing.{AreSame}

or_same : (a b r : Bool) → a ≡ b → (a || r) ≡ (b || r)
or_same a b r e = ap (λ x. x || r) e

-- comparing two places

eq_itself : (a b : ℕ) → a ≡ b → (a == b) ≡ true
eq_itself a b e = (Decides-eqb a b).1 e

eq_other : (a b : ℕ) → a ≢ b → (a == b) ≡ false
eq_other a b apart = by (a == b) refl
  where
    by : (d : Bool) → (a == b) ≡ d → (a == b) ≡ false
    by true e = absurd (apart ((Decides-eqb a b).0 e))
    by false e = e

past_place : (at i : ℕ) → (at + 1) + i ≡ at + suc i
past_place at i = omega arith

first_place : (at : ℕ) → at ≡ at + 0
first_place at = omega arith

-- a place before the first has no mark
none_before : (marks : List Bool) (at k : ℕ) → k < at → is_excluded (marked at marks) k ≡ false
none_before [] at k lt = refl
none_before (true ∷ marks) at k lt = or_same (at == k) false (is_excluded (marked (at + 1) marks) k) (eq_other at k
    (λ (e : at ≡ k). absurd (omega (arith, lt, e)))) ∙ none_before marks (at + 1) k (omega (arith, lt))
none_before (false ∷ marks) at k lt = none_before marks (at + 1) k (omega (arith, lt))

-- whether there is a mark, and it is set
abbrev pub is_set : Option Bool → Bool
is_set None = false
is_set (Some mark) = mark

set_from : (marks : List Bool) (at i : ℕ) → is_set (slice_get marks i) ≡ is_excluded (marked at marks) (at + i)
set_from [] at zero = refl
set_from [] at (suc i) = refl
set_from (true ∷ marks) at zero = sym (or_same (at == at + 0) true (is_excluded (marked (at + 1) marks) (at + 0)) (eq_itself at (at + 0) (first_place at)))
set_from (false ∷ marks) at zero = sym (none_before marks (at + 1) (at + 0) (omega arith))
set_from (true ∷ marks) at (suc i) = set_from marks (at + 1) i
    ∙ (ap (is_excluded (marked (at + 1) marks)) (past_place at i)
    ∙ sym (or_same (at == at + suc i) false (is_excluded (marked (at + 1) marks) (at + suc i)) (eq_other at (at + suc i) (λ (e : at ≡ at + suc i). absurd (omega (arith, e))))))
set_from (false ∷ marks) at (suc i) = set_from marks (at + 1) i ∙ ap (is_excluded (marked (at + 1) marks)) (past_place at i)

-- the mark of a place
pub mark_there : (marks : List Bool) (place : ℕ) → is_set (slice_get marks place) ≡ is_excluded (marked 0 marks) place
mark_there marks place = set_from marks 0 place ∙ ap (is_excluded (marked 0 marks)) (zero_place place)
  where
    zero_place : (n : ℕ) → 0 + n ≡ n
    zero_place n = omega arith

-- what was got at a place
pub got_mark : (r : Option (Bor Bool)) (marks : List Bool) (place : ℕ) → IfSome r (λ x. x.now ≡ get_or marks place x.now)
    → MatchOption r (length marks ≤ place) (λ x. (place < length marks) × HoldsAt {X = Bool} (λ y. x.now ≡ y) marks place) → is_set (option_copied r) ≡ is_excluded (marked 0 marks) place
got_mark None marks place h m = ap is_set (sym (slice_get_past marks place m)) ∙ mark_there marks place
got_mark (Some x) marks place h m = ap is_set (sym (slice_get_read marks (length marks) place x.now refl m.0 h)) ∙ mark_there marks place

-- a mark that is not set adds no place
more_from : (marks : List Bool) (at : ℕ) → marked at (marks ++ false ∷ []) ≡ marked at marks
more_from [] at = refl
more_from (true ∷ marks) at = ap (λ ps. at ∷ ps) (more_from marks (at + 1))
more_from (false ∷ marks) at = more_from marks (at + 1)

pub mark_more : (marks : List Bool) → marked 0 (marks ++ false ∷ []) ≡ marked 0 marks
mark_more marks = more_from marks 0

-- a mark that is set adds its place
put_from : (marks : List Bool) (at i k : ℕ) → i < length marks → is_excluded (marked at (set marks i true)) k ≡ ((at + i == k) || is_excluded (marked at marks) k)
put_from [] at i k lt = absurd (omega (arith, lt))
put_from (true ∷ marks) at zero k lt = twice (at == k) (at + 0 == k) (is_excluded (marked (at + 1) marks) k) (ap (λ n. n == k) (first_place at))
  where
    twice : (a b r : Bool) → a ≡ b → (a || r) ≡ (b || (a || r))
    twice true true r e = refl
    twice false false r e = refl
    twice true false r e = cc
    twice false true r e = cc
put_from (false ∷ marks) at zero k lt = or_same (at == k) (at + 0 == k) (is_excluded (marked (at + 1) marks) k) (ap (λ n. n == k) (first_place at))
put_from (true ∷ marks) at (suc i) k lt = ap (λ r. (at == k) || r) (put_from marks (at + 1) i k (omega (arith, lt)))
    ∙ turned (at == k) ((at + 1) + i == k) (at + suc i == k) (is_excluded (marked (at + 1) marks) k) (ap (λ n. n == k) (past_place at i))
  where
    turned : (a b d r : Bool) → b ≡ d → (a || (b || r)) ≡ (d || (a || r))
    turned true true true r e = refl
    turned true false false r e = refl
    turned false true true r e = refl
    turned false false false r e = refl
    turned a true false r e = cc
    turned a false true r e = cc
put_from (false ∷ marks) at (suc i) k lt = put_from marks (at + 1) i k (omega (arith, lt))
    ∙ or_same ((at + 1) + i == k) (at + suc i == k) (is_excluded (marked (at + 1) marks) k) (ap (λ n. n == k) (past_place at i))

pub mark_put : (marks : List Bool) (place : ℕ) → place < length marks → AreSame (marked 0 (set marks place true)) (place ∷ marked 0 marks)
mark_put marks place lt k = put_from marks 0 place k lt ∙ or_same (0 + place == k) (place == k) (is_excluded (marked 0 marks) k) (ap (λ n. n == k) (zero_place place))
  where
    zero_place : (n : ℕ) → 0 + n ≡ n
    zero_place n = omega arith
