-- Needs that one list of conditions meets.
use Rattle.std.proofs.Common.{ℕ, suc, ◌≡◌, ◌<◌, Bool, true, false, ◌&&◌, List, [], ◌∷◌, length, Option, Some, None, slice_get, refl, sym, ap, ◌∙◌, arith}
use Rattle.std.specs.Bool.{OnTrue, OnFalse}
use Rattle.std.specs.Option.{option_map_or}
use Rattle.std.proofs.lemmas.Option.{slice_get_within}
use Rattle.std.proofs.lemmas.Bool.{and_from}
use Rattle.case_table.specs.declared.rows.Need.{Need}
use Rattle.case_table.specs.declared.rows.Need.TheVariants.{Yes, No, Any}
use Rattle.case_table.specs.declared.rows.CaseRow.{CaseRow}
use Rattle.case_table.specs.Cases.{Overlaps, fits, fits_at, fits_need, row_fits}
use Rattle.case_table.specs.Steps.Sharing.{meets, shared}

wish : Need → Need → Bool
wish Yes m = true
wish No m = false
wish Any Yes = true
wish Any No = false
wish Any Any = false

common : List Need → List Need → List Bool
common [] ms = []
common (n ∷ ns) [] = []
common (n ∷ ns) (m ∷ ms) = wish n m ∷ common ns ms

wish_first : (n m : Need) → meets n m ≡ true → fits_need n (wish n m) ≡ true
unfolding wish
wish_first Yes m h = refl
wish_first No m h = refl
wish_first Any m h = refl

wish_second : (n m : Need) → meets n m ≡ true → fits_need m (wish n m) ≡ true
unfolding wish
wish_second Yes Yes h = refl
wish_second Yes No h = cc
wish_second Yes Any h = refl
wish_second No Yes h = cc
wish_second No No h = refl
wish_second No Any h = refl
wish_second Any Yes h = refl
wish_second Any No h = refl
wish_second Any Any h = refl

left_true : (a b : Bool) → (a && b) ≡ true → a ≡ true
left_true true b h = refl
left_true false b h = cc

right_true : (a b : Bool) → (a && b) ≡ true → b ≡ true
right_true true b h = h
right_true false b h = cc

common_length : (ns ms : List Need) → length ns ≡ length ms → length (common ns ms) ≡ length ns
unfolding common
common_length [] ms same = refl
common_length (n ∷ ns) [] same = absurd (omega arith)
common_length (n ∷ ns) (m ∷ ms) same = ap suc (common_length ns ms (omega arith))

common_first : (ns ms : List Need) → shared ns ms ≡ true → fits ns (common ns ms) ≡ true
unfolding common
common_first [] ms h = refl
common_first (n ∷ ns) [] h = refl
common_first (n ∷ ns) (m ∷ ms) h = and_from (fits_need n (wish n m)) (fits ns (common ns ms)) (wish_first n m
    (left_true (meets n m) (shared ns ms) h)) (common_first ns ms (right_true (meets n m) (shared ns ms) h))

common_second : (ns ms : List Need) → shared ns ms ≡ true → fits ms (common ns ms) ≡ true
unfolding common
common_second [] [] h = refl
common_second [] (m ∷ ms) h = refl
common_second (n ∷ ns) [] h = refl
common_second (n ∷ ns) (m ∷ ms) h = and_from (fits_need m (wish n m)) (fits ms (common ns ms)) (wish_second n m
    (left_true (meets n m) (shared ns ms) h)) (common_second ns ms (right_true (meets n m) (shared ns ms) h))

one_meets : (n m : Need) (c : Bool) → fits_need n c ≡ true → fits_need m c ≡ true → meets n m ≡ true
one_meets Yes Yes c h k = refl
one_meets Yes No true h k = cc
one_meets Yes No false h k = cc
one_meets Yes Any c h k = refl
one_meets No Yes true h k = cc
one_meets No Yes false h k = cc
one_meets No No c h k = refl
one_meets No Any c h k = refl
one_meets Any m c h k = refl

-- what one list of conditions meets is shared
fits_shared : (ns ms : List Need) (cs : List Bool) → length ns ≡ length cs → fits ns cs ≡ true → fits ms cs ≡ true → shared ns ms ≡ true
fits_shared [] ms cs same h k = refl
fits_shared (n ∷ ns) [] cs same h k = refl
fits_shared (n ∷ ns) (m ∷ ms) [] same h k = absurd (omega arith)
fits_shared (n ∷ ns) (m ∷ ms) (c ∷ cs) same h k =
    and_from (meets n m) (shared ns ms)
    (one_meets n m c (left_true (fits_need n c) (fits ns cs) h) (left_true (fits_need m c) (fits ms cs) k))
    (fits_shared ns ms cs (omega arith) (right_true (fits_need n c) (fits ns cs) h) (right_true (fits_need m c) (fits ms cs) k))

pub overlap_yes : {k : ℕ} (rows : List (CaseRow k)) (i j : ℕ) (a b : CaseRow k) (r : Bool) → slice_get rows i ≡ Some a → slice_get rows j ≡ Some b
    → length a.needs ≡ k → length b.needs ≡ k → r ≡ shared a.needs b.needs → OnTrue r (Overlaps rows i j)
overlap_yes rows i j a b false x y whole_a whole_b e = tt
overlap_yes {k} rows i j a b true x y whole_a whole_b e =
    record {
      conditions = common a.needs b.needs;
      whole = common_length a.needs b.needs (whole_a ∙ sym whole_b) ∙ whole_a;
      fits_first = ap (λ (o : Option (CaseRow k)). option_map_or (row_fits (common a.needs b.needs)) o false) x ∙ common_first a.needs b.needs (sym e);
      fits_second = ap (λ (o : Option (CaseRow k)). option_map_or (row_fits (common a.needs b.needs)) o false) y ∙ common_second a.needs b.needs (sym e);
    }

pub overlap_no : {k : ℕ} (rows : List (CaseRow k)) (i j : ℕ) (a b : CaseRow k) (r : Bool) → slice_get rows i ≡ Some a → slice_get rows j ≡ Some b
    → length a.needs ≡ k → length b.needs ≡ k → r ≡ shared a.needs b.needs → OnFalse r (Overlaps rows i j → ⊥)
overlap_no rows i j a b true x y whole_a whole_b e = tt
overlap_no {k} rows i j a b false x y whole_a whole_b e = λ o.
    let first : fits a.needs o.conditions ≡ true = sym (ap (λ (p : Option (CaseRow k)). option_map_or (row_fits o.conditions) p false) x) ∙ o.fits_first in
    let second : fits b.needs o.conditions ≡ true = sym (ap (λ (p : Option (CaseRow k)). option_map_or (row_fits o.conditions) p false) y) ∙ o.fits_second in
    let s : false ≡ true = e ∙ fits_shared a.needs b.needs o.conditions (whole_a ∙ sym o.whole) first second in
    cc

there : {k : ℕ} (rows : List (CaseRow k)) (cs : List Bool) (i : ℕ) → fits_at rows cs i ≡ true → i < length rows
there {k} rows cs i h = of (slice_get rows i) refl h
  where
    of : (o : Option (CaseRow k)) → slice_get rows i ≡ o → option_map_or (row_fits cs) o false ≡ true → i < length rows
    of None e h = cc
    of (Some row) e h = slice_get_within rows i row e

pub first_within : {k : ℕ} (rows : List (CaseRow k)) (i j : ℕ) → Overlaps rows i j → i < length rows
first_within rows i j o = there rows o.conditions i o.fits_first

pub second_within : {k : ℕ} (rows : List (CaseRow k)) (i j : ℕ) → Overlaps rows i j → j < length rows
second_within rows i j o = there rows o.conditions j o.fits_second
