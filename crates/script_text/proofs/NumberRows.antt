-- The numbers of a name, with one number more.
use Rattle.std.proofs.Common.{◌≡◌, ℕ, zero, suc, List, [], ◌∷◌, ◌++◌, get_or, set, Bool, true, false, if◌then◌else◌, refl, sym, ap, ◌∙◌, append-nil, subst}
use Rattle.std.specs.List.{insert}
use Rattle.std.specs.declared.cmp.Ordering.TheVariants.{Equal}
use Rattle.std.proofs.lemmas.Map.Lookups.{exact_bytes}
use Rattle.plain_data.proofs.RowFacts.{find_at, find_gap, put_at, put_gap}
use Rattle.std.specs.Prelude.{bytes_eq}
use Rattle.std.proofs.lemmas.Cmp.{nat_list_cmp_total}
use Rattle.std.proofs.lemmas.Map.Text.{is_eq-slice_cmp}
use Rattle.std.proofs.lemmas.Slice.Eq.{bytes_eq-Decides}
use Rattle.plain_data.specs.Pairs.{text_cmp}
use Rattle.plain_data.proofs.RowLookups.{find-put, find-put_other}
use Rattle.script_text.specs.declared.numbers.NumberRow.{NumberRow}
use Rattle.script_text.specs.Steps.Numbers.{row_name, AreNumbers, IsNumbersAt, IsNumbersGap, numbers_in, numbers_at, and_number}

pub numbers_more : (rows : List NumberRow) (name other : List ℕ) (n : ℕ) → numbers_at other (and_number name n rows) ≡ numbers_at other rows ++ (if bytes_eq name other then n ∷ [] else [])
numbers_more rows name other n = by (bytes_eq name other) refl
  where
    row : NumberRow
    row = record { name = name; numbers = numbers_at name rows ++ n ∷ [] }

    same : name ≡ other → numbers_at other (and_number name n rows) ≡ numbers_at other rows ++ n ∷ []
    same e = subst (λ k. numbers_at k (and_number name n rows) ≡ numbers_at k rows ++ n ∷ []) e (ap numbers_in (find-put nat_list_cmp_total row_name row rows))

    by : (b : Bool) → bytes_eq name other ≡ b → numbers_at other (and_number name n rows) ≡ numbers_at other rows ++ (if b then n ∷ [] else [])
    by true e = same ((bytes_eq-Decides name other).0 e)
    by false e = ap numbers_in (find-put_other nat_list_cmp_total row_name other row rows (is_eq-slice_cmp name other ∙ e)) ∙ sym (append-nil (numbers_at other rows))

-- ---- the row that is put

named_at : (rows : List NumberRow) (name : List ℕ) (i : ℕ) (d : NumberRow) → IsNumbersAt rows name i → text_cmp (row_name (get_or rows i d)) name ≡ Equal
named_at [] name i d h = absurd h
named_at (row ∷ rows) name zero d h = h
named_at (row ∷ rows) name (suc i) d h = named_at rows name i d h.1

pub put_found : (rows : List NumberRow) (name : List ℕ) (n i : ℕ) (row : NumberRow) (numbers : List ℕ) → IsNumbersAt rows name i → row ≡ get_or rows i row → numbers ≡ row.numbers ++ n ∷ []
    → set rows i (record { name = row.name; numbers = numbers }) ≡ and_number name n rows
put_found rows name n i row numbers at is more =
    let found : numbers_at name rows ≡ row.numbers = ap numbers_in (find_at nat_list_cmp_total row_name name rows i row at) ∙ ap (λ (r : NumberRow). r.numbers) (sym is) in
    let named : row.name ≡ name = exact_bytes row.name name (ap (λ (r : NumberRow). text_cmp (row_name r) name) is ∙ named_at rows name i row at) in
    let numbered : numbers ≡ numbers_at name rows ++ n ∷ [] = more ∙ ap (λ ns. ns ++ n ∷ []) (sym found) in
    let new : NumberRow = record { name = name; numbers = numbers_at name rows ++ n ∷ [] } in
    let same : (record { name = row.name; numbers = numbers }) ≡ new = (λ j. record { name = named j; numbers = numbered j }) in
    ap (λ r. set rows i r) same ∙ sym (put_at nat_list_cmp_total row_name name new refl rows i at)

pub put_absent : (rows : List NumberRow) (name : List ℕ) (n i : ℕ) (row : NumberRow) → AreNumbers rows → IsNumbersGap rows name i → row.name ≡ name
    → row.numbers ≡ n ∷ [] → insert rows i row ≡ and_number name n rows
put_absent rows name n i row rising gap named one =
    let none : numbers_at name rows ≡ [] = ap numbers_in (find_gap nat_list_cmp_total row_name name rows i rising gap) in
    let numbered : row.numbers ≡ numbers_at name rows ++ n ∷ [] = one ∙ ap (λ ns. ns ++ n ∷ []) (sym none) in
    let new : NumberRow = record { name = name; numbers = numbers_at name rows ++ n ∷ [] } in
    let same : row ≡ new = (λ j. record { name = named j; numbers = numbered j }) in
    ap (λ r. insert rows i r) same ∙ sym (put_gap nat_list_cmp_total row_name name new refl rows i gap)
