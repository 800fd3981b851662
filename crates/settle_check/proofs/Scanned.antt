-- The first object of the rows for which something is due is the first in the order of keys.
use Rattle.std.proofs.Common.{◌≡◌, ◌∙◌, ◌<◌, ◌+◌, ℕ, List, [], ◌∷◌, length, drop, get_or, Option, Some, None, refl, sym, ap, subst, inl, inr, true≢false, add-one}
use Rattle.std.proofs.Math.Seq.{drop-cons}
use Rattle.std.specs.Cmp.{IsTotalOrder}
use Rattle.std.specs.Ordering.{is_lt}
use Rattle.std.specs.declared.cmp.Ordering.{Ordering}
use Rattle.std.specs.declared.cmp.Ordering.TheVariants.{Less, Greater}
use Rattle.std.proofs.lemmas.Cmp.{tied_itself}
use Rattle.kube_objects.specs.declared.key.Key.{Key}
use Rattle.kube_parts.specs.declared.names.Due.{Due}
use Rattle.kube_objects.specs.declared.objects.Object.{Object}
use Rattle.kube_objects.specs.Keys.{AreRows, key_cmp, key_of, row_at}
use Rattle.kube_objects.proofs.KeyOrder.{key_cmp_total, row_at_key}
use Rattle.call_types.specs.declared.setup.Setup.{Setup}
use Rattle.binder_model.specs.Told.{SomeOf}
use Rattle.binder_model.specs.World.{World}
use Rattle.model_laws.proofs.Evidence.{some_at}
use Rattle.model_laws.proofs.Lists.{one}
use Rattle.model_laws.proofs.Readings.{after_member, found_stands, member_stands}
use Rattle.settle_check.specs.declared.first.FirstDue.{FirstDue}
use Rattle.binder_model.specs.Due.{IsDue, IsFirstDue}
use Rattle.settle_check.specs.First.{first_key}
use Rattle.settle_check.specs.Steps.Scan.{IsFirstIn, first_pair}

-- of two keys not each is less than the other
not_below : {K : Type 0} {cmp : K → K → Ordering} → IsTotalOrder cmp → (a b : K) → cmp a b ≡ Less → cmp b a ≡ Less → ⊥
not_below {cmp = cmp} o a b e f = let above : cmp b a ≡ Greater = rw (o.antisymm b a, e) refl in true≢false (ap is_lt (sym f ∙ above))

-- no row stands before the first one
none_before : (x : Object) (xs : List Object) → AreRows (x ∷ xs) → (earlier : Key) (other : Object) → row_at earlier (x ∷ xs) ≡ Some other → key_cmp earlier (key_of x) ≡ Less → ⊥
none_before x xs order earlier other at less = by (found_stands earlier other (x ∷ xs) at)
  where
    key : key_of other ≡ earlier
    key = row_at_key earlier other (x ∷ xs) at

    by : SomeOf (λ y. y ≡ other) (x ∷ xs) → ⊥
    by (inl is) = true≢false (ap is_lt (sym less ∙ ap (λ k. key_cmp k (key_of x)) (sym key ∙ ap key_of (sym is)) ∙ tied_itself key_cmp_total (key_of x)))
    by (inr more) = not_below key_cmp_total earlier (key_of x) less (subst (λ k. key_cmp (key_of x) k ≡ Less) key (after_member x other xs order.0 more))

module _ (P : Object → Option Due → Type 0) where
  -- the object stands in the rows, and nothing is due for those before it
  pub record IsFirstAt (rows : List Object) (o : Object) (action : Due) : Type 0 where
    pub there : row_at (key_of o) rows ≡ Some o
    pub due : P o (Some action)
    pub first : (earlier : Key) (other : Object) → row_at earlier rows ≡ Some other → key_cmp earlier (key_of o) ≡ Less → P other None

  here_at : (x : Object) (xs : List Object) → AreRows (x ∷ xs) → (action : Due) → P x (Some action) → IsFirstAt (x ∷ xs) x action
  here_at x xs order action due = record {
    there = rw (tied_itself key_cmp_total (key_of x)) refl;
    due = due;
    first = λ earlier other at less. absurd (none_before x xs order earlier other at less);
  }

  later_at : (x : Object) (xs : List Object) → AreRows (x ∷ xs) → P x None → (o : Object) (action : Due) → IsFirstAt xs o action → IsFirstAt (x ∷ xs) o action
  later_at x xs order none o action f = record {
    there = member_stands o (x ∷ xs) order (inr (found_stands (key_of o) o xs f.there));
    due = f.due;
    first = λ earlier other at less. by earlier other at less (found_stands earlier other (x ∷ xs) at);
  }
    where
      by : (earlier : Key) (other : Object) → row_at earlier (x ∷ xs) ≡ Some other → key_cmp earlier (key_of o) ≡ Less → SomeOf (λ y. y ≡ other) (x ∷ xs) → P other None
      by earlier other at less (inl is) = subst (λ y. P y None) is none
      by earlier other at less (inr more) =
          f.first earlier other (subst (λ k. row_at k xs ≡ Some other) (row_at_key earlier other (x ∷ xs) at) (member_stands other xs order.1 more)) less

  pub first_at : (rows : List Object) → AreRows rows → (o : Object) (action : Due) → IsFirstIn P rows (Some (o, action)) → IsFirstAt rows o action
  first_at [] order o action first = absurd cc
  first_at (x ∷ xs) order o action (inl here) =
      subst (λ (p : Object × Due). IsFirstAt (x ∷ xs) p.0 p.1) (sym (one _ _ here.answers)) (here_at x xs order here.action here.due)
  first_at (x ∷ xs) order o action (inr rest) = later_at x xs order rest.0 o action (first_at xs order.1 o action rest.1)

  pub none_due : (rows : List Object) → IsFirstIn P rows None → (o : Object) → SomeOf (λ x. x ≡ o) rows → P o None
  none_due [] first o stands = elim stands [ ]
  none_due (x ∷ xs) (inl here) o stands = absurd (let a = here.answers in cc)
  none_due (x ∷ xs) (inr rest) o (inl is) = subst (λ y. P y None) is rest.0
  none_due (x ∷ xs) (inr rest) o (inr more) = none_due xs rest.1 o more

  -- a scan that has come to a place goes on behind it where nothing is due there
  pub goes_on : (xs : List Object) (i : ℕ) (d : Object) → i < length xs → P (get_or xs i d) None
      → (answer : Option (Object × Due)) → IsFirstIn P (drop (i + 1) xs) answer → IsFirstIn P (drop i xs) answer
  goes_on xs i d lt none answer rest =
      subst (λ ys. IsFirstIn P ys answer) (sym (drop-cons xs i d lt)) (inr (none, subst (λ n. IsFirstIn P (drop n xs) answer) (add-one i) rest))

  -- it ends where something is due
  pub ends_at : (xs : List Object) (i : ℕ) (d : Object) → i < length xs → (action : Due) → P (get_or xs i d) (Some action)
      → IsFirstIn P (drop i xs) (Some (get_or xs i d, action))
  ends_at xs i d lt action due =
      subst (λ ys. IsFirstIn P ys (Some (get_or xs i d, action))) (sym (drop-cons xs i d lt)) (inl (record { action = action; due = due; answers = refl }))

-- what a scan finds is the first in the order of keys
pub first_in_rows : (setup : Setup) (w : World) → AreRows w.store.rows → (found : Option FirstDue) → IsFirstIn (IsDue setup w) w.store.rows (first_pair found) → IsFirstDue setup w (first_key found)
first_in_rows setup w order None first = λ key o at. none_due (IsDue setup w) w.store.rows first o (found_stands key o w.store.rows at)
first_in_rows setup w order (Some found) first =
    let f = first_at (IsDue setup w) w.store.rows order found.object.now found.action first in
    record { object = found.object.now; there = f.there; due = f.due; first = f.first }

-- an object of the rows stands under its key
pub stands_at : (rows : List Object) → AreRows rows → (i : ℕ) (o : Object) → i < length rows → o ≡ get_or rows i o → row_at (key_of o) rows ≡ Some o
stands_at rows order i o lt is = member_stands o rows order (some_at (λ x. x ≡ o) rows i o lt (sym is))
