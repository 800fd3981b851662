-- The objects of a kind stand together in rows in the order of keys.
use Rattle.std.proofs.Common.{
  ◌≡◌,
  ℕ,
  zero,
  suc,
  ◌+◌,
  ◌-◌,
  ◌<◌,
  ◌≤◌,
  ◌==◌,
  List,
  [],
  ◌∷◌,
  length,
  get_or,
  take,
  drop,
  Bool,
  true,
  false,
  true≢false,
  Some,
  None,
  refl,
  sym,
  ◌∙◌,
  ap,
  arith,
  if◌then◌else◌,
}
use Rattle.std.specs.Prelude.{nat_lt, slice_get}
use Rattle.std.specs.List.{filter}
use Rattle.std.specs.List.Sorted.{IsNonDecreasingBy, IsPartitionPoint}
use Rattle.std.specs.declared.cmp.Ordering.{Ordering}
use Rattle.std.specs.declared.cmp.Ordering.TheVariants.{Less, Equal, Greater}
use Rattle.std.specs.Ordering.{is_lt, is_eq, is_gt, ordering_index}
use Rattle.std.proofs.lemmas.Bool.Decides.{nat_tests}
use Rattle.std.proofs.lemmas.List.{length-take, length-drop, get_or-take, get_or-drop}
use Rattle.std.proofs.lemmas.Option.{slice_get-get_or, slice_get_past}
use Rattle.plain_data.specs.Rows.{IsAfter, IsRising}

-- the elements of one level stand between two places that part the levels
module _ {X : Type 0} (level : X → ℕ) where
  abbrev pub IsStart : ℕ → List X → ℕ → Type 0
  IsStart k xs i = IsPartitionPoint (λ x. level x < k) (λ x. k ≤ level x) xs i

  pub tail_of : (k : ℕ) (y : X) (ys : List X) (i : ℕ) → IsStart k (y ∷ ys) (suc i) → IsStart k ys i
  tail_of k y ys i s = (λ j d ge lt. s.0 (suc j) d (omega arith) (omega arith), λ j d ge lt. s.1 (suc j) d (omega arith) (omega arith))

  pub tail_at : (k : ℕ) (y : X) (ys : List X) → IsStart k (y ∷ ys) zero → IsStart k ys zero
  tail_at k y ys s = (λ j d ge lt. absurd (omega arith), λ j d ge lt. s.1 (suc j) d (omega arith) (omega arith))

  pub ordered : (k : ℕ) (xs : List X) (i j : ℕ) → i ≤ length xs → IsStart k xs i → IsStart (k + 1) xs j → i ≤ j
  ordered k [] i j le s t = omega arith
  ordered k (y ∷ ys) zero j le s t = omega arith
  ordered k (y ∷ ys) (suc i) zero le s t = absurd (let a = s.0 0 y (omega arith) (omega arith) in let b = t.1 0 y (omega arith) (omega arith) in omega arith)
  ordered k (y ∷ ys) (suc i) (suc j) le s t = let r = ordered k ys i j (omega arith) (tail_of k y ys i s) (tail_of (k + 1) y ys j t) in omega arith

  pub between : (k : ℕ) (xs : List X) (i j : ℕ) → i ≤ length xs → IsStart k xs i → IsStart (k + 1) xs j → filter (λ x. level x == k) xs ≡ take (j - i) (drop i xs)
  between k [] zero zero le s t = refl
  between k [] zero (suc j) le s t = let whole : suc j - zero ≡ suc j = omega arith in rw whole refl
  between k [] (suc i) j le s t = absurd (omega arith)
  between k (y ∷ ys) zero zero le s t =
      let above : (k + 1) ≤ level y = t.1 0 y (omega arith) (omega arith) in
      let other : (level y == k) ≡ false = grind (arith, nat_tests) in
      rw other (between k ys zero zero (omega arith) (tail_at k y ys s) (tail_at (k + 1) y ys t))
  between k (y ∷ ys) zero (suc j) le s t =
      let below : level y < k + 1 = t.0 0 y (omega arith) (omega arith) in
      let above : k ≤ level y = s.1 0 y (omega arith) (omega arith) in
      let here : (level y == k) ≡ true = grind (arith, nat_tests) in
      let more : suc j - zero ≡ suc (j - zero) = omega arith in
      rw (here, more) (ap (λ zs. y ∷ zs) (between k ys zero j (omega arith) (tail_at k y ys s) (tail_of (k + 1) y ys j t)))
  between k (y ∷ ys) (suc i) zero le s t =
      absurd (let a = s.0 0 y (omega arith) (omega arith) in let b = t.1 0 y (omega arith) (omega arith) in omega arith)
  between k (y ∷ ys) (suc i) (suc j) le s t =
      let below : level y < k = s.0 0 y (omega arith) (omega arith) in
      let other : (level y == k) ≡ false = grind (arith, nat_tests) in
      let less : suc j - suc i ≡ j - i = omega arith in
      rw (other, less) (between k ys i j (omega arith) (tail_of k y ys i s) (tail_of (k + 1) y ys j t))

-- a stretch of a list
module _ {X : Type 0} (xs : List X) (start count : ℕ) (within : start + count ≤ length xs) where
  pub length-stretch : length (take count (drop start xs)) ≡ count
  length-stretch = grind (arith, length-take, length-drop)

  pub slice_get-stretch : (place : ℕ) (d : X) → place < count → slice_get (take count (drop start xs)) place ≡ Some (get_or xs (start + place) d)
  slice_get-stretch place d lt =
      slice_get-get_or (take count (drop start xs)) place d (rw length-stretch lt) ∙ ap Some (get_or-take count (drop start xs) place d lt ∙ get_or-drop start xs place d)

  pub slice_get-stretch_past : (place : ℕ) → count ≤ place → slice_get (take count (drop start xs)) place ≡ None
  slice_get-stretch_past place le = slice_get_past (take count (drop start xs)) place (rw length-stretch le)

-- levels that do not fall along rows
module _ {K X : Type 0} (cmp : K → K → Ordering) (key : X → K) (level : X → ℕ) (up : (x y : X) → cmp (key x) (key y) ≡ Less → level x ≤ level y) where
  levels_after : (x : X) (ys : List X) → IsAfter cmp key x ys → (j : ℕ) (d : X) → j < length ys → level x ≤ level (get_or ys j d)
  levels_after x [] a j d lt = absurd (omega arith)
  levels_after x (y ∷ ys) a zero d lt = up x y a.0
  levels_after x (y ∷ ys) a (suc j) d lt = levels_after x ys a.1 j d (omega arith)

  pub levels_rise : (xs : List X) → IsRising cmp key xs → IsNonDecreasingBy level xs
  levels_rise [] r i j d le lt = absurd (omega arith)
  levels_rise (y ∷ ys) r zero zero d le lt = omega arith
  levels_rise (y ∷ ys) r zero (suc j) d le lt = levels_after y ys r.0 j d (omega arith)
  levels_rise (y ∷ ys) r (suc i) zero d le lt = absurd (omega arith)
  levels_rise (y ∷ ys) r (suc i) (suc j) d le lt = levels_rise ys r.1 i j d (omega arith) (omega arith)

-- how a level ranks against the levels from k on
abbrev pub rank_from : ℕ → ℕ → Ordering
rank_from k n = if nat_lt n k then Less else Greater

module _ (k n : ℕ) where
  by_level : (P : Ordering → Type 0) → (n < k → P Less) → (k ≤ n → P Greater) → P (rank_from k n)
  by_level P below above = by (nat_lt n k) refl
    where
      by : (b : Bool) → nat_lt n k ≡ b → P (if b then Less else Greater)
      by true e = below (grind (arith, nat_tests))
      by false e = above (grind (arith, nat_tests))

  pub never_equal : rank_from k n ≡ Equal → ⊥
  never_equal = by_level (λ r. r ≡ Equal → ⊥) (λ lt e. true≢false (sym (ap is_eq e))) (λ ge e. true≢false (sym (ap is_eq e)))

  pub less_below : rank_from k n ≡ Less → n < k
  less_below = by_level (λ r. r ≡ Less → n < k) (λ lt e. lt) (λ ge e. absurd (true≢false (sym (ap is_lt e))))

  pub greater_above : rank_from k n ≡ Greater → k ≤ n
  greater_above = by_level (λ r. r ≡ Greater → k ≤ n) (λ lt e. absurd (true≢false (sym (ap is_gt e)))) (λ ge e. ge)

pub rank_rises : (k m n : ℕ) → m ≤ n → ordering_index (rank_from k m) ≤ ordering_index (rank_from k n)
rank_rises k m n le =
    by_level k m (λ r. ordering_index r ≤ ordering_index (rank_from k n)) (λ lt. omega arith)
    (λ ge. by_level k n (λ r. 2 ≤ ordering_index r) (λ lt. absurd (omega arith)) (λ above. omega arith))
