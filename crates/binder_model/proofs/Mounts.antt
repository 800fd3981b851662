-- What a new mount does to the rows of each node.
use Rattle.std.proofs.Common.{◌≡◌, ℕ, Bool, true, false, true≢false, not, List, [], ◌∷◌, ◌++◌, filter, cond, refl, sym, ◌∙◌, ap, subst, inl, inr, bytes_eq, if◌then◌else◌}
use Rattle.std.specs.Prelude.{◌⊎◌}
use Rattle.std.specs.Ordering.{is_gt}
use Rattle.std.proofs.lemmas.Cmp.{tied_itself, nat_list_cmp_total}
use Rattle.std.proofs.lemmas.Slice.Eq.{bytes_eq-Decides}
use Rattle.plain_data.specs.Pairs.{text_cmp}
use Rattle.call_types.specs.declared.reply.MountRow.{MountRow}
use Rattle.binder_model.specs.Devices.{MountAt, rows_on, is_up_to, put_mount}
use Rattle.binder_model.specs.Told.{SomeOf}

module _ (node : List ℕ) where
  -- a row, before others
  row_on : (m : MountAt) → List MountRow → List MountRow
  row_on m rows = if bytes_eq m.node node then m.row ∷ rows else rows

  pub rows_on_both : (xs ys : List MountAt) → rows_on node (xs ++ ys) ≡ rows_on node xs ++ rows_on node ys
  rows_on_both [] ys = refl
  rows_on_both (x ∷ xs) ys = by (bytes_eq x.node node) (rows_on_both xs ys)
    where
      by : (b : Bool) → rows_on node (xs ++ ys) ≡ rows_on node xs ++ rows_on node ys
          → (if b then x.row ∷ rows_on node (xs ++ ys) else rows_on node (xs ++ ys)) ≡ (if b then x.row ∷ rows_on node xs else rows_on node xs) ++ rows_on node ys
      by true rest = ap (λ rows. x.row ∷ rows) rest
      by false rest = rest

  -- a test that all rows of the node pass, or none
  rows_on_passed : (p : MountAt → Bool) → ((m : MountAt) → bytes_eq m.node node ≡ true → p m ≡ true) → (ms : List MountAt) → rows_on node (filter p ms) ≡ rows_on node ms
  rows_on_passed p pass [] = refl
  rows_on_passed p pass (x ∷ xs) = by (bytes_eq x.node node) (p x) refl (pass x) (rows_on_passed p pass xs)
    where
      by : (own b : Bool) → bytes_eq x.node node ≡ own → (own ≡ true → b ≡ true) → rows_on node (filter p xs) ≡ rows_on node xs
          → rows_on node (cond b (x ∷ filter p xs) (filter p xs)) ≡ (if own then x.row ∷ rows_on node xs else rows_on node xs)
      by true true e f rest = rw e (ap (λ rows. x.row ∷ rows) rest)
      by true false e f rest = absurd (true≢false (sym (f refl)))
      by false true e f rest = rw e rest
      by false false e f rest = rest

  rows_on_failed : (p : MountAt → Bool) → ((m : MountAt) → bytes_eq m.node node ≡ true → p m ≡ false) → (ms : List MountAt) → rows_on node (filter p ms) ≡ []
  rows_on_failed p fail [] = refl
  rows_on_failed p fail (x ∷ xs) = by (bytes_eq x.node node) (p x) refl (fail x) (rows_on_failed p fail xs)
    where
      by : (own b : Bool) → bytes_eq x.node node ≡ own → (own ≡ true → b ≡ false) → rows_on node (filter p xs) ≡ []
          → rows_on node (cond b (x ∷ filter p xs) (filter p xs)) ≡ []
      by true true e f rest = absurd (true≢false (f refl))
      by true false e f rest = rest
      by false true e f rest = rw e rest
      by false false e f rest = rest

up_to_same : (place : List ℕ) (b : Bool) (node : List ℕ) → not (is_gt (text_cmp node place)) ≡ b → (m : MountAt) → bytes_eq m.node node ≡ true → is_up_to place m ≡ b
up_to_same place b node e m own = subst (λ n. not (is_gt (text_cmp n place)) ≡ b) (sym ((bytes_eq-Decides m.node node).0 own)) e

not_up_to : (place : List ℕ) (b : Bool) (node : List ℕ) → not (is_gt (text_cmp node place)) ≡ b → (m : MountAt) → bytes_eq m.node node ≡ true → not (is_up_to place m) ≡ not b
not_up_to place b node e m own = ap not (up_to_same place b node e m own)

-- the new row is the last of its node
pub rows_on_put : (new : MountAt) (ms : List MountAt) → rows_on new.node (put_mount new ms) ≡ rows_on new.node ms ++ new.row ∷ []
rows_on_put new ms =
    let level : not (is_gt (text_cmp new.node new.node)) ≡ true = rw (tied_itself nat_list_cmp_total new.node) refl in
    let own : bytes_eq new.node new.node ≡ true = (bytes_eq-Decides new.node new.node).1 refl in
    let before = rows_on_passed new.node (is_up_to new.node) (up_to_same new.node true new.node level) ms in
    let behind = rows_on_failed new.node (λ m. not (is_up_to new.node m)) (not_up_to new.node true new.node level) ms in
    rows_on_both new.node (filter (is_up_to new.node) ms) _ ∙ rw (own, before, behind) refl

-- other nodes have the rows that they had
pub rows_on_put_other : (new : MountAt) (ms : List MountAt) (node : List ℕ) → bytes_eq new.node node ≡ false → rows_on node (put_mount new ms) ≡ rows_on node ms
rows_on_put_other new ms node other = rows_on_both node (filter (is_up_to new.node) ms) _ ∙ by (not (is_gt (text_cmp node new.node))) refl
  where
    by : (b : Bool) → not (is_gt (text_cmp node new.node)) ≡ b → rows_on node (filter (is_up_to new.node) ms) ++ rows_on node (new ∷ filter (λ m. not (is_up_to new.node m)) ms) ≡ rows_on node ms
    by true e =
        let before = rows_on_passed node (is_up_to new.node) (up_to_same new.node true node e) ms in
        let behind = rows_on_failed node (λ m. not (is_up_to new.node m)) (not_up_to new.node true node e) ms in
        rw (other, before, behind) (ends (rows_on node ms))
      where
        ends : (rows : List MountRow) → rows ++ [] ≡ rows
        ends [] = refl
        ends (r ∷ rs) = ap (λ zs. r ∷ zs) (ends rs)
    by false e =
        let before = rows_on_failed node (is_up_to new.node) (up_to_same new.node false node e) ms in
        let behind = rows_on_passed node (λ m. not (is_up_to new.node m)) (not_up_to new.node false node e) ms in
        rw (other, before, behind) refl

-- each row of the new list was there, or is the new one

abbrev MountIn : MountAt → List MountAt → Type 0
MountIn m ms = SomeOf (λ x. x ≡ m) ms

passed_was : (p : MountAt → Bool) (m : MountAt) (ms : List MountAt) → MountIn m (filter p ms) → MountIn m ms
passed_was p m [] h = absurd h
passed_was p m (x ∷ xs) h = by (p x) h (passed_was p m xs)
  where
    by : (b : Bool) → MountIn m (cond b (x ∷ filter p xs) (filter p xs)) → (MountIn m (filter p xs) → MountIn m xs) → MountIn m (x ∷ xs)
    by true h f = elim h [ inl is ↦ inl is | inr more ↦ inr (f more) ]
    by false h f = inr (f h)

in_either : (m : MountAt) (xs ys : List MountAt) → MountIn m (xs ++ ys) → MountIn m xs ⊎ MountIn m ys
in_either m [] ys h = inr h
in_either m (x ∷ xs) ys h = elim h [ inl is ↦ inl (inl is) | inr more ↦ elim (in_either m xs ys more) [ inl a ↦ inl (inr a) | inr b ↦ inr b ] ]

pub put_was : (new m : MountAt) (ms : List MountAt) → SomeOf (λ x. x ≡ m) (put_mount new ms) → SomeOf (λ x. x ≡ m) ms ⊎ (new ≡ m)
put_was new m ms h = elim (in_either m (filter (is_up_to new.node) ms) _ h) [
  | inl before ↦ inl (passed_was _ m ms before)
  | inr rest ↦ elim rest [
    | inl is ↦ inr is
    | inr behind ↦ inl (passed_was _ m ms behind)
  ]
]
