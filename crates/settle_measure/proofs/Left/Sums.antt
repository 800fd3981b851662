-- Sums over rows: what one put, one removal or a change of weights does to them.
use Rattle.std.proofs.Common.{◌≡◌, ◌≢◌, ◌∙◌, ℕ, ◌+◌, ◌≤◌, List, [], ◌∷◌, Bool, true, false, true≢false, Some, None, inl, inr, refl, sym, ap, arith, if◌then◌else◌}
use Rattle.std.specs.Prelude.{cond}
use Rattle.std.specs.declared.cmp.Ordering.{Ordering}
use Rattle.std.specs.declared.cmp.Ordering.TheVariants.{Less, Equal, Greater}
use Rattle.std.specs.Ordering.{is_eq, match_ordering}
use Rattle.plain_data.specs.Rows.{IsAfter}
use Rattle.plain_data.proofs.RowFacts.{find_gap}
use Rattle.kube_objects.specs.declared.key.Key.{Key}
use Rattle.kube_objects.specs.declared.objects.Object.{Object}
use Rattle.kube_objects.specs.Keys.{AreRows, key_cmp, key_of, put_row, row_at, same_key, without_row}
use Rattle.kube_objects.proofs.KeyOrder.{equal_keys, key_cmp_total}
use Rattle.kube_objects.proofs.SameKeys.{same_key-Decides, same_key_itself, same_key_ordered}
use Rattle.model_laws.proofs.Lists.{IsIn, none_some, one}
use Rattle.settle_measure.specs.Left.Measure.{total}

pub is_less : (a b : Key) → key_cmp a b ≡ Less → a ≢ b
is_less a b less same = absurd (true≢false (sym (same_key_itself b) ∙ sym (same_key_ordered b b) ∙ ap (λ k. is_eq (key_cmp k b)) (sym same) ∙ ap is_eq less))

-- what stands behind a row has another key
pub others_behind : (x : Object) (xs : List Object) → IsAfter key_cmp key_of x xs → (o : Object) → IsIn o xs → key_of o ≢ key_of x
others_behind x [] after o h = absurd h
others_behind x (y ∷ ys) after o (inl is) = λ same. is_less (key_of x) (key_of y) after.0 (sym same ∙ ap key_of (sym is))
others_behind x (y ∷ ys) after o (inr more) = others_behind x ys after.1 o more

same_equal : (k : Key) → is_eq (key_cmp k k) ≡ true
same_equal k = same_key_ordered k k ∙ same_key_itself k

not_equal : (a b : Key) → a ≢ b → is_eq (key_cmp a b) ≡ false
not_equal a b differs = by (key_cmp a b) (equal_keys a b)
  where
    by : (r : Ordering) → (r ≡ Equal → a ≡ b) → is_eq r ≡ false
    by Less h = refl
    by Equal h = absurd (differs (h refl))
    by Greater h = refl

-- a row stands at its key
pub stands : (rows : List Object) → AreRows rows → (o : Object) → IsIn o rows → row_at (key_of o) rows ≡ Some o
stands [] order o h = absurd h
stands (x ∷ xs) order o (inl is) = let e : is_eq (key_cmp (key_of x) (key_of o)) ≡ true = ap (λ k. is_eq (key_cmp (key_of x) (key_of k))) (sym is) ∙ same_equal (key_of x) in rw e (ap Some is)
stands (x ∷ xs) order o (inr more) = let e : is_eq (key_cmp (key_of x) (key_of o)) ≡ false = not_equal _ _ (λ same. others_behind x xs order.0 o more (sym same)) in rw e (stands xs order.1 o more)

pub found_in : (k : Key) (rows : List Object) (o : Object) → row_at k rows ≡ Some o → IsIn o rows
found_in k [] o e = none_some e
found_in k (x ∷ xs) o e = by (is_eq (key_cmp (key_of x) k)) e (found_in k xs o)
  where
    by : (b : Bool) → cond b (Some x) (row_at k xs) ≡ Some o → (row_at k xs ≡ Some o → IsIn o xs) → IsIn o (x ∷ xs)
    by true is rest = inl (one x o is)
    by false is rest = inr (rest is)

-- weights that fall, and by so much
abbrev pub Pays : (f g pays : Object → ℕ) → Object → Type 0
Pays f g pays o = g o + pays o ≤ f o

module _ (f g pays : Object → ℕ) where
  pub falls : (rows : List Object) → ((o : Object) → IsIn o rows → Pays f g pays o) → total g rows + total pays rows ≤ total f rows
  falls [] each = omega arith
  falls (x ∷ xs) each = let h = each x (inl refl) in let rest = falls xs (λ o i. each o (inr i)) in omega (arith, h, rest)

  -- a row is put in place of another of its key
  pub put_falls : (new old : Object) (rows : List Object) → AreRows rows → row_at (key_of new) rows ≡ Some old → ((o : Object) → IsIn o rows → key_of o ≢ key_of new → Pays f g pays o)
      → total g (put_row new rows) + f old + total pays rows ≤ total f rows + g new + pays old
  put_falls new old [] order there each = none_some there
  put_falls new old (x ∷ xs) order there each = by (key_cmp (key_of x) (key_of new)) refl there (λ found. put_falls new old xs order.1 found (λ o i. each o (inr i)))
    where
      by : (r : Ordering) → key_cmp (key_of x) (key_of new) ≡ r → cond (is_eq r) (Some x) (row_at (key_of new) xs) ≡ Some old
          → (row_at (key_of new) xs ≡ Some old → total g (put_row new xs) + f old + total pays xs ≤ total f xs + g new + pays old)
          → total g (match_ordering r (x ∷ put_row new xs) (new ∷ xs) (new ∷ x ∷ xs)) + f old + total pays (x ∷ xs) ≤ total f (x ∷ xs) + g new + pays old
      by Less r found later =
          let h = each x (inl refl) (is_less _ _ r) in
          let rest = later found in
          omega (arith, h, rest)
      by Equal r found later =
          let same : key_of x ≡ key_of new = equal_keys _ _ r in
          let rest = falls xs (λ o i. each o (inr i) (λ k. others_behind x xs order.0 o i (k ∙ sym same))) in
          let is : x ≡ old = one x old found in
          let fe : f x ≡ f old = ap f is in
          let pe : pays x ≡ pays old = ap pays is in
          omega (arith, rest, fe, pe)
      by Greater r found later = none_some (sym (find_gap key_cmp_total key_of (key_of new) (x ∷ xs) 0 order r) ∙ there)

  -- a row is put under a key that is free
  pub new_falls : (new : Object) (rows : List Object) → row_at (key_of new) rows ≡ None → ((o : Object) → IsIn o rows → Pays f g pays o)
      → total g (put_row new rows) + total pays rows ≤ total f rows + g new
  new_falls new [] there each = omega arith
  new_falls new (x ∷ xs) there each = by (key_cmp (key_of x) (key_of new)) there (λ free. new_falls new xs free (λ o i. each o (inr i)))
    where
      by : (r : Ordering) → cond (is_eq r) (Some x) (row_at (key_of new) xs) ≡ None
          → (row_at (key_of new) xs ≡ None → total g (put_row new xs) + total pays xs ≤ total f xs + g new)
          → total g (match_ordering r (x ∷ put_row new xs) (new ∷ xs) (new ∷ x ∷ xs)) + total pays (x ∷ xs) ≤ total f (x ∷ xs) + g new
      by Less free later =
          let h = each x (inl refl) in
          let rest = later free in
          omega (arith, h, rest)
      by Equal free later = none_some (sym free)
      by Greater free later =
          let h = each x (inl refl) in
          let rest = falls xs (λ o i. each o (inr i)) in
          omega (arith, h, rest)

  -- a row leaves
  pub gone_falls : (k : Key) (old : Object) (rows : List Object) → AreRows rows → row_at k rows ≡ Some old → ((o : Object) → IsIn o rows → key_of o ≢ k → Pays f g pays o)
      → total g (without_row k rows) + f old + total pays rows ≤ total f rows + pays old
  gone_falls k old [] order there each = none_some there
  gone_falls k old (x ∷ xs) order there each = by (is_eq (key_cmp (key_of x) k)) refl there (λ found. gone_falls k old xs order.1 found (λ o i. each o (inr i)))
    where
      is_equal : (r : Ordering) → is_eq r ≡ true → r ≡ Equal
      is_equal Less e = absurd (true≢false (sym e))
      is_equal Equal e = refl
      is_equal Greater e = absurd (true≢false (sym e))

      by : (b : Bool) → is_eq (key_cmp (key_of x) k) ≡ b → cond b (Some x) (row_at k xs) ≡ Some old
          → (row_at k xs ≡ Some old → total g (without_row k xs) + f old + total pays xs ≤ total f xs + pays old)
          → total g (cond b xs (x ∷ without_row k xs)) + f old + total pays (x ∷ xs) ≤ total f (x ∷ xs) + pays old
      by true r found later =
          let same : key_of x ≡ k = equal_keys _ _ (is_equal _ r) in
          let rest = falls xs (λ o i. each o (inr i) (λ e. others_behind x xs order.0 o i (e ∙ sym same))) in
          let is : x ≡ old = one x old found in
          let fe : f x ≡ f old = ap f is in
          let pe : pays x ≡ pays old = ap pays is in
          omega (arith, rest, fe, pe)
      by false r found later =
          let h = each x (inl refl) (λ same. true≢false (sym (ap (λ j. is_eq (key_cmp j k)) same ∙ same_equal k) ∙ r)) in
          let rest = later found in
          omega (arith, h, rest)

-- one row alone pays
abbrev pub paid_at : Key → ℕ → Object → ℕ
paid_at k n o = if same_key (key_of o) k then n else 0

pub one_pays : (k : Key) (n : ℕ) (o : Object) (rows : List Object) → row_at k rows ≡ Some o → n ≤ total (paid_at k n) rows
one_pays k n o [] there = none_some there
one_pays k n o (x ∷ xs) there = by (is_eq (key_cmp (key_of x) k)) (same_key (key_of x) k) (same_key_ordered (key_of x) k) there (one_pays k n o xs)
  where
    by : (a b : Bool) → a ≡ b → cond a (Some x) (row_at k xs) ≡ Some o → (row_at k xs ≡ Some o → n ≤ total (paid_at k n) xs) → n ≤ cond b n 0 + total (paid_at k n) xs
    by true true e found rest = omega arith
    by true false e found rest = absurd (true≢false e)
    by false true e found rest = absurd (true≢false (sym e))
    by false false e found rest = let h = rest found in omega (arith, h)

-- and no other does
pub one_at_most : (k : Key) (n : ℕ) (rows : List Object) → AreRows rows → total (paid_at k n) rows ≤ n
one_at_most k n [] order = omega arith
one_at_most k n (x ∷ xs) order = by (same_key (key_of x) k) refl (one_at_most k n xs order.1)
  where
    others : (ys : List Object) → ((o : Object) → IsIn o ys → key_of o ≢ k) → total (paid_at k n) ys ≡ 0
    others [] differ = refl
    others (y ∷ ys) differ = at (same_key (key_of y) k) refl (others ys (λ o i. differ o (inr i)))
      where
        at : (b : Bool) → same_key (key_of y) k ≡ b → total (paid_at k n) ys ≡ 0 → cond b n 0 + total (paid_at k n) ys ≡ 0
        at true e h = absurd (differ y (inl refl) ((same_key-Decides (key_of y) k).0 e))
        at false e h = omega (arith, h)

    by : (b : Bool) → same_key (key_of x) k ≡ b → total (paid_at k n) xs ≤ n → cond b n 0 + total (paid_at k n) xs ≤ n
    by true e h =
        let is = (same_key-Decides (key_of x) k).0 e in
        let z = others xs (λ o i same. others_behind x xs order.0 o i (same ∙ sym is)) in
        omega (arith, z)
    by false e h = omega (arith, h)

pub total_sum : (f g : Object → ℕ) (rows : List Object) → total (λ o. f o + g o) rows ≡ total f rows + total g rows
total_sum f g [] = refl
total_sum f g (o ∷ os) = let h = total_sum f g os in omega (arith, h)

abbrev pub none_paid : Object → ℕ
none_paid o = 0

pub none_pays : (rows : List Object) → total none_paid rows ≡ 0
none_pays [] = refl
none_pays (x ∷ xs) = let h = none_pays xs in omega (arith, h)
