-- Rows in order that show the same of each key are the same rows.
use Rattle.std.proofs.Common.{◌≡◌, List, [], ◌∷◌, Bool, true, false, true≢false, Option, Some, None, inl, inr, refl, sym, ◌∙◌, ap, subst, if◌then◌else◌}
use Rattle.std.specs.declared.cmp.Ordering.TheVariants.{Less}
use Rattle.std.specs.Ordering.{is_eq, is_gt, ordering_reverse}
use Rattle.plain_data.specs.Rows.{IsAfter}
use Rattle.kube_objects.specs.declared.key.Key.{Key}
use Rattle.kube_objects.specs.declared.objects.Object.{Object}
use Rattle.kube_objects.specs.Keys.{AreRows, key_cmp, key_of, row_at, same_key}
use Rattle.kube_objects.proofs.KeyOrder.{key_cmp_total, other_key, row_at_key}
use Rattle.kube_objects.proofs.SameKeys.{key_tells, same_key_itself, same_key_ordered}
use Rattle.model_laws.proofs.Lists.{IsIn, none_some}
use Rattle.model_laws.proofs.Readings.{after_member, found_stands, member_stands}

-- no object comes both before and after another
never_both : {G : Type 0} (x y : Object) → key_cmp (key_of x) (key_of y) ≡ Less → key_cmp (key_of y) (key_of x) ≡ Less → G
never_both x y up down = absurd (true≢false (sym (ap is_gt (ap ordering_reverse down)) ∙ ap is_gt (sym (key_cmp_total.antisymm (key_of x) (key_of y)) ∙ up)))

same_head : (x y : Object) (xs ys : List Object) → AreRows (x ∷ xs) → AreRows (y ∷ ys) → IsIn x (y ∷ ys) → IsIn y (x ∷ xs) → y ≡ x
same_head x y xs ys order order_other (inl same) there = same
same_head x y xs ys order order_other (inr later) (inl same) = sym same
same_head x y xs ys order order_other (inr later) (inr later_other) = never_both x y (after_member x y xs order.0 later_other) (after_member y x ys order_other.0 later)

-- the key of the first row is none of the later ones'
past_none : (k : Key) (x : Object) (xs : List Object) → IsAfter key_cmp key_of x xs → key_of x ≡ k → row_at k xs ≡ None
past_none k x xs after own = by (row_at k xs) refl
  where
    by : (row : Option Object) → row_at k xs ≡ row → row_at k xs ≡ None
    by None e = e
    by (Some z) e =
        let same : key_of z ≡ key_of x = row_at_key k z xs e ∙ sym own in
        let equal : is_eq (key_cmp (key_of x) (key_of z)) ≡ true = same_key_ordered (key_of x) (key_of z) ∙ ap (λ j. same_key (key_of x) j) same ∙ same_key_itself (key_of x) in
        absurd (true≢false (sym equal ∙ ap is_eq (after_member x z xs after (found_stands k z xs e))))

same_tail : (x : Object) (xs ys : List Object) → IsAfter key_cmp key_of x xs → IsAfter key_cmp key_of x ys → ((k : Key) → row_at k (x ∷ ys) ≡ row_at k (x ∷ xs)) → (k : Key) → row_at k ys ≡ row_at k xs
same_tail x xs ys after after_other same k = by (is_eq (key_cmp (key_of x) k)) refl (same k)
  where
    own : is_eq (key_cmp (key_of x) k) ≡ true → key_of x ≡ k
    own e = elim (key_tells (key_of x) k) [
      | inl is ↦ is
      | inr differs ↦ absurd (true≢false (sym e ∙ other_key (key_of x) k differs))
    ]

    by : (b : Bool) → is_eq (key_cmp (key_of x) k) ≡ b → (if b then Some x else row_at k ys) ≡ (if b then Some x else row_at k xs) → row_at k ys ≡ row_at k xs
    by false e h = h
    by true e h = past_none k x ys after_other (own e) ∙ sym (past_none k x xs after (own e))

pub rows_alike : (rows other : List Object) → AreRows rows → AreRows other → ((k : Key) → row_at k other ≡ row_at k rows) → other ≡ rows
rows_alike [] [] order order_other same = refl
rows_alike [] (y ∷ ys) order order_other same = none_some (sym (same (key_of y)) ∙ member_stands y (y ∷ ys) order_other (inl refl))
rows_alike (x ∷ xs) [] order order_other same = none_some (same (key_of x) ∙ member_stands x (x ∷ xs) order (inl refl))
rows_alike (x ∷ xs) (y ∷ ys) order order_other same =
    let there : IsIn x (y ∷ ys) = found_stands (key_of x) x (y ∷ ys) (same (key_of x) ∙ member_stands x (x ∷ xs) order (inl refl)) in
    let back : IsIn y (x ∷ xs) = found_stands (key_of y) y (x ∷ xs) (sym (same (key_of y)) ∙ member_stands y (y ∷ ys) order_other (inl refl)) in
    let head : y ≡ x = same_head x y xs ys order order_other there back in
    let after : IsAfter key_cmp key_of x ys = subst (λ z. IsAfter key_cmp key_of z ys) head order_other.0 in
    let shown : (k : Key) → row_at k (x ∷ ys) ≡ row_at k (x ∷ xs) = λ k. ap (λ z. row_at k (z ∷ ys)) (sym head) ∙ same k in
    let tail : ys ≡ xs = rows_alike xs ys order.1 order_other.1 (same_tail x xs ys order.0 after shown) in
    λ i. head i ∷ tail i
