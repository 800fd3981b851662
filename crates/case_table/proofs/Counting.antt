-- Exactly one row fits where some row does and no two do.
use Rattle.std.proofs.Common.{ℕ, zero, suc, ◌≡◌, ◌+◌, ◌<◌, ◌≤◌, Bool, true, false, ◌||◌, List, [], ◌∷◌, cond, slice_get, count_by, refl, sym, ap, ◌∙◌, arith}
use Rattle.std.proofs.lemmas.List.Sums.{sum_by-cons}
use Rattle.std.specs.List.{list_any}
use Rattle.std.specs.Option.{option_map_or}
use Rattle.case_table.specs.declared.rows.CaseRow.{CaseRow}
use Rattle.case_table.specs.declared.table.TableError.{TableError}
use Rattle.case_table.specs.declared.table.TableError.TheVariants.{Gap, Overlap}
use Rattle.case_table.specs.Errors.{Tells}
use Rattle.case_table.specs.Cases.{EachFits, IsExact, IsLeastGap, IsLeastOverlap, Overlaps, row_fits, some_row_fits}

abbrev hit : {X : Type 0} → (X → Bool) → List X → ℕ → Bool
hit p xs i = option_map_or p (slice_get xs i) false

counted : {X : Type 0} (p : X → Bool) (x : X) (xs : List X) (b : Bool) → p x ≡ b → count_by p (x ∷ xs) ≡ cond {A = ℕ} b 1 0 + count_by p xs
counted p x xs b e = sum_by-cons (λ y. cond {A = ℕ} (p y) 1 0) x xs ∙ ap (λ a. cond {A = ℕ} a 1 0 + count_by p xs) e

none_counted : {X : Type 0} (p : X → Bool) (xs : List X) → ((i : ℕ) → hit p xs i ≡ true → ⊥) → count_by p xs ≡ 0
none_counted p [] misses = refl
none_counted {X} p (x ∷ xs) misses = at_head (p x) refl (none_counted p xs (λ i. misses (suc i)))
  where
    at_head : (b : Bool) → p x ≡ b → count_by p xs ≡ 0 → count_by p (x ∷ xs) ≡ 0
    at_head true e rest = absurd (misses 0 e)
    at_head false e rest = omega (arith, counted p x xs false e)

-- some element passes, and no two do
one_counted : {X : Type 0} (p : X → Bool) (xs : List X) → list_any p xs ≡ true → ((i j : ℕ) → i < j → hit p xs i ≡ true → hit p xs j ≡ true → ⊥) → count_by p xs ≡ 1
one_counted p [] some apart = cc
one_counted {X} p (x ∷ xs) some apart = at_head (p x) refl (λ later. one_counted p xs later (λ i j below. apart (suc i) (suc j) (omega arith)))
  where
    at_head : (b : Bool) → p x ≡ b → (list_any p xs ≡ true → count_by p xs ≡ 1) → count_by p (x ∷ xs) ≡ 1
    at_head true e rest =
        omega (arith, counted p x xs true e, none_counted p xs (λ i h. apart 0 (suc i) (omega arith) e h))
    at_head false e rest =
        let later : list_any p xs ≡ true = ap (λ b. b || list_any p xs) (sym e) ∙ some in
        omega (arith, counted p x xs false e, rest later)

some_counted : {X : Type 0} (p : X → Bool) (xs : List X) (i : ℕ) → hit p xs i ≡ true → 1 ≤ count_by p xs
some_counted p [] i h = cc
some_counted p (x ∷ xs) zero h = omega (arith, counted p x xs true h)
some_counted p (x ∷ xs) (suc i) h = omega (arith, some_counted p xs i h, counted p x xs (p x) refl)

two_counted : {X : Type 0} (p : X → Bool) (xs : List X) (i j : ℕ) → i < j → hit p xs i ≡ true → hit p xs j ≡ true → 2 ≤ count_by p xs
two_counted p [] i j below h k = cc
two_counted p (x ∷ xs) i zero below h k = absurd (omega arith)
two_counted p (x ∷ xs) zero (suc j) below h k = omega (arith, counted p x xs true h, some_counted p xs j k)
two_counted p (x ∷ xs) (suc i) (suc j) below h k = omega (arith, two_counted p xs i j (omega arith) h k, counted p x xs (p x) refl)

any_counted : {X : Type 0} (p : X → Bool) (xs : List X) → 1 ≤ count_by p xs → list_any p xs ≡ true
any_counted p [] h = absurd (omega arith)
any_counted {X} p (x ∷ xs) h = at_head (p x) refl (any_counted p xs)
  where
    at_head : (b : Bool) → p x ≡ b → (1 ≤ count_by p xs → list_any p xs ≡ true) → (p x || list_any p xs) ≡ true
    at_head true e rest = ap (λ b. b || list_any p xs) e
    at_head false e rest = ap (λ b. b || list_any p xs) e ∙ rest (omega (arith, counted p x xs false e))

pub exact_rows : {k : ℕ} (rows : List (CaseRow k)) → EachFits rows → ((i j : ℕ) → i < j → Overlaps rows i j → ⊥) → IsExact rows
exact_rows rows each apart = λ cs whole.
    one_counted (row_fits cs) rows (each cs whole) (λ i j below h k. apart i j below (record { conditions = cs; whole = whole; fits_first = h; fits_second = k }))

no_gap : {k : ℕ} (rows : List (CaseRow k)) (conditions : List Bool) → IsLeastGap rows conditions → IsExact rows → ⊥
no_gap rows conditions gap exact =
    let one : count_by (row_fits conditions) rows ≡ 1 = exact conditions gap.whole in
    let some : some_row_fits rows conditions ≡ true = any_counted (row_fits conditions) rows (omega arith) in
    let both : true ≡ false = sym some ∙ gap.gap in
    cc

no_overlap : {k : ℕ} (rows : List (CaseRow k)) (i j : ℕ) → IsLeastOverlap rows i j → IsExact rows → ⊥
no_overlap rows i j least exact =
    let o = least.overlap in
    let one : count_by (row_fits o.conditions) rows ≡ 1 = exact o.conditions o.whole in
    let two : 2 ≤ count_by (row_fits o.conditions) rows = two_counted (row_fits o.conditions) rows i j least.rising o.fits_first o.fits_second in
    absurd (omega arith)

-- rows of which a fault tells are not exact
pub no_fault : {k : ℕ} (rows : List (CaseRow k)) (fault : TableError k) → Tells rows fault → IsExact rows → ⊥
no_fault rows (Gap conditions) gap exact = no_gap rows conditions gap exact
no_fault rows (Overlap first second) tells exact = no_overlap rows first second tells.1 exact
