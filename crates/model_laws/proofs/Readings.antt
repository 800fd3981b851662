-- What stands in a list of rows, and what lists and Gets tell.
use Rattle.std.proofs.Common.{sym, refl, subst, inl, inr, ap, ◌∙◌, true≢false}
use Rattle.std.specs.Prelude.{ℕ, ◌≡◌, Bool, true, false, List, [], ◌∷◌, Option, Some, None, cond, filter, is_some, unwrap_or}
use Rattle.std.specs.declared.cmp.Ordering.TheVariants.{Less, Equal}
use Rattle.std.specs.Ordering.{is_eq}
use Rattle.std.proofs.lemmas.Cmp.{tied_itself}
use Rattle.plain_data.specs.Rows.{IsAfter}
use Rattle.kube_objects.specs.declared.key.Key.{Key}
use Rattle.kube_objects.specs.declared.objects.Object.{Object}
use Rattle.kube_objects.specs.Keys.{AreRows, key_cmp, key_of, row_at, rows_of, is_of_kind}
use Rattle.kube_objects.proofs.KeyOrder.{key_cmp_total}
use Rattle.binder_model.specs.Answers.{is_in_namespace, listed_rows, get, list, outcome, reply_of}
use Rattle.binder_model.specs.Devices.{device_answer}
use Rattle.binder_model.specs.Told.{SomeOf}
use Rattle.binder_model.specs.World.{effect, on_devices, reply_to}
use Rattle.model_laws.specs.Reads.{found, fits_namespace, GetsTellWhatStands, ListsTellWhatStands}
use Rattle.kube_parts.specs.declared.parts.Kind.{Kind}

abbrev IsIn : {X : Type 0} → X → List X → Type 0
IsIn x xs = SomeOf (λ y. y ≡ x) xs

pub after_member : (y x : Object) (ys : List Object) → IsAfter key_cmp key_of y ys → IsIn x ys → key_cmp (key_of y) (key_of x) ≡ Less
after_member y x [] a h = elim h [ ]
after_member y x (z ∷ zs) a (inl is) = subst (λ o. key_cmp (key_of y) (key_of o) ≡ Less) is a.0
after_member y x (z ∷ zs) a (inr more) = after_member y x zs a.1 more

-- a row stands under its key
pub member_stands : (x : Object) (xs : List Object) → AreRows xs → IsIn x xs → row_at (key_of x) xs ≡ Some x
member_stands x [] r h = elim h [ ]
member_stands x (y ∷ ys) r (inl is) = first is (is_eq (key_cmp (key_of y) (key_of x))) refl
  where
    first : y ≡ x → (b : Bool) → is_eq (key_cmp (key_of y) (key_of x)) ≡ b → row_at (key_of x) (y ∷ ys) ≡ Some x
    first is true e = rw e (ap (λ o. Some o) is)
    first is false e = absurd (true≢false (sym (ap is_eq (subst (λ o. key_cmp (key_of y) (key_of o) ≡ Equal) is (tied_itself key_cmp_total (key_of y)))) ∙ e))
member_stands x (y ∷ ys) r (inr more) =
    let before : is_eq (key_cmp (key_of y) (key_of x)) ≡ false = ap is_eq (after_member y x ys r.0 more) in
    rw before (member_stands x ys r.1 more)

-- what is found stands there
pub found_stands : (k : Key) (x : Object) (xs : List Object) → row_at k xs ≡ Some x → IsIn x xs
found_stands k x [] e = absurd (true≢false (sym (ap is_some e)))
found_stands k x (y ∷ ys) e = by (is_eq (key_cmp (key_of y) k)) refl (found_stands k x ys)
  where
    by : (b : Bool) → is_eq (key_cmp (key_of y) k) ≡ b → (row_at k ys ≡ Some x → IsIn x ys) → IsIn x (y ∷ ys)
    by true is more = let f : Some y ≡ Some x = rw is at e in inl (ap (λ o. unwrap_or o y) f)
    by false is more = let f : row_at k ys ≡ Some x = rw is at e in inr (more f)

pub filter_stands : (p : Object → Bool) (x : Object) (xs : List Object) → IsIn x (filter p xs) → IsIn x xs
filter_stands p x [] h = elim h [ ]
filter_stands p x (y ∷ ys) h = by (p y) h (filter_stands p x ys)
  where
    by : (b : Bool) → IsIn x (cond b (y ∷ filter p ys) (filter p ys)) → (IsIn x (filter p ys) → IsIn x ys) → IsIn x (y ∷ ys)
    by true (inl is) more = inl is
    by true (inr in_rest) more = inr (more in_rest)
    by false in_rest more = inr (more in_rest)

pub filter_keeps : (p : Object → Bool) (x : Object) (xs : List Object) → IsIn x xs → p x ≡ true → IsIn x (filter p xs)
filter_keeps p x [] h e = elim h [ ]
filter_keeps p x (y ∷ ys) (inl is) e =
    let passes : p y ≡ true = ap p is ∙ e in
    rw passes (inl is)
filter_keeps p x (y ∷ ys) (inr more) e = by (p y) (filter_keeps p x ys more e)
  where
    by : (b : Bool) → IsIn x (filter p ys) → IsIn x (cond b (y ∷ filter p ys) (filter p ys))
    by true m = inr m
    by false m = m

get_found : (x : Option Object) → reply_of (get x) ≡ found x
unfolding get reply_of
get_found None = refl
get_found (Some o) = refl

pub gets_tell_what_stands : GetsTellWhatStands
unfolding effect on_devices device_answer outcome reply_to
gets_tell_what_stands setup w kind key = get_found (row_at key w.store.rows)

pub listed_stands : (namespace : Option (List ℕ)) (x : Object) (xs : List Object) → IsIn x (listed_rows namespace xs) → IsIn x xs
listed_stands None x xs h = h
listed_stands (Some namespace) x xs h = filter_stands (is_in_namespace namespace) x xs h

listed_keeps : (namespace : Option (List ℕ)) (x : Object) (xs : List Object) → IsIn x xs → fits_namespace namespace x ≡ true → IsIn x (listed_rows namespace xs)
listed_keeps None x xs h e = h
listed_keeps (Some namespace) x xs h e = filter_keeps (is_in_namespace namespace) x xs h e

-- what a list tells stands under its key
pub listed_stand : (kind : Kind) (namespace : Option (List ℕ)) (rows : List Object) → AreRows rows → (o : Object) → IsIn o (listed_rows namespace (rows_of kind rows)) → row_at (key_of o) rows ≡ Some o
listed_stand kind namespace rows r o h = member_stands o rows r (filter_stands (is_of_kind kind) o rows (listed_stands namespace o _ h))

pub lists_tell_what_stands : ListsTellWhatStands
unfolding effect on_devices device_answer outcome list reply_to reply_of
lists_tell_what_stands setup w kind of_kind namespace rows = (
  listed_rows namespace (rows_of of_kind w.store.rows),
  (
    w.store.version,
    (
      refl,
      record {
        at = refl;
        stands = listed_stand of_kind namespace w.store.rows rows;
        listed = λ o is of fits. listed_keeps namespace o _ (filter_keeps (is_of_kind of_kind) o w.store.rows (found_stands (key_of o) o w.store.rows is) of) fits;
      },
    ),
  ),
)
