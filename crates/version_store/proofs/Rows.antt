-- A default class and a list, row by row.
use Rattle.std.proofs.Common.{◌≡◌, ◌+◌, ◌<◌, ◌≤◌, ℕ, suc, Bool, true, false, List, [], ◌∷◌, Option, Some, None, refl, arith, cond, if◌then◌else◌, length, drop, get_or, add-one, drop-cons}
use Rattle.plain_data.specs.Rows.{IsAfter}
use Rattle.kube_parts.specs.declared.parts.Kind.{Kind}
use Rattle.kube_parts.specs.declared.parts.Kind.TheVariants as kinds
use Rattle.kube_objects.specs.declared.objects.Object.{Object}
use Rattle.kube_objects.specs.declared.objects.Object.TheVariants.{Class, Node, Volume, Claim, Pod}
use Rattle.kube_objects.specs.Keys.{AreRows, is_of_kind, key_cmp, key_of, kind_index, kind_of, rows_of}
use Rattle.kube_objects.proofs.KeyOrder.{kinds_up}
use Rattle.binder_model.specs.Store.{default_class}
use Rattle.binder_model.specs.Answers.{listed_rows}
use Rattle.version_store.specs.Steps.Made.{default_from, is_listed}

pub default_class-cons : (o : Object) (os : List Object) → default_class (o ∷ os) ≡ default_from o (default_class os)
default_class-cons (Class x) os = refl
default_class-cons (Node x) os = refl
default_class-cons (Volume x) os = refl
default_class-cons (Claim x) os = refl
default_class-cons (Pod x) os = refl

pub default_class-drop : (rows : List Object) (i : ℕ) (o : Object) → i < length rows → default_class (drop i rows) ≡ default_from (get_or rows i o) (default_class (drop (i + 1) rows))
default_class-drop rows i o lt = rw (drop-cons rows i o lt, add-one) (default_class-cons (get_or rows i o) (drop (suc i) rows))

-- of a kind there are no more objects than of all
pub count_within : (kind : Kind) (rows : List Object) → length (rows_of kind rows) ≤ length rows
count_within kind [] = omega arith
count_within kind (o ∷ os) = by (is_of_kind kind o) (count_within kind os)
  where
    by : (b : Bool) → length (rows_of kind os) ≤ length os → length (cond b (o ∷ rows_of kind os) (rows_of kind os)) ≤ length (o ∷ os)
    by true le = omega arith
    by false le = omega arith

-- no class stands after an object of another kind
record HaveNoClass (os : List Object) : Type 0 where
  rows : rows_of kinds.StorageClass os ≡ []
  default : default_class os ≡ None

none_after : (o : Object) → 1 ≤ kind_index (kind_of o) → (os : List Object) → IsAfter key_cmp key_of o os → HaveNoClass os
none_after o other [] after = record { rows = refl; default = refl }
none_after o other (Class x ∷ os) after = absurd (let up : kind_index (kind_of o) ≤ 0 = kinds_up (key_of o) (key_of (Class x)) after.0 in omega arith)
none_after o other (Node x ∷ os) after = let n = none_after o other os after.1 in record { rows = n.rows; default = n.default }
none_after o other (Volume x ∷ os) after = let n = none_after o other os after.1 in record { rows = n.rows; default = n.default }
none_after o other (Claim x ∷ os) after = let n = none_after o other os after.1 in record { rows = n.rows; default = n.default }
none_after o other (Pod x ∷ os) after = let n = none_after o other os after.1 in record { rows = n.rows; default = n.default }

-- after the classes there is no default class
pub none_past : (rows : List Object) → AreRows rows → default_class (drop (length (rows_of kinds.StorageClass rows)) rows) ≡ None
none_past [] order = refl
none_past (Class x ∷ os) order = none_past os order.1
none_past (Node x ∷ os) order = let n = none_after (Node x) (omega arith) os order.0 in rw n.rows n.default
none_past (Volume x ∷ os) order = let n = none_after (Volume x) (omega arith) os order.0 in rw n.rows n.default
none_past (Claim x ∷ os) order = let n = none_after (Claim x) (omega arith) os order.0 in rw n.rows n.default
none_past (Pod x ∷ os) order = let n = none_after (Pod x) (omega arith) os order.0 in rw n.rows n.default

abbrev pub put_first : Bool → Object → List Object → List Object
put_first wanted o os = if wanted then o ∷ os else os

listed_rows-cons : (namespace : Option (List ℕ)) (o : Object) (os : List Object) → listed_rows namespace (o ∷ os) ≡ put_first (is_listed namespace o) o (listed_rows namespace os)
listed_rows-cons None o os = refl
listed_rows-cons (Some namespace) o os = refl

pub listed_rows-drop : (namespace : Option (List ℕ)) (objects : List Object) (i : ℕ) (o : Object) → i < length objects
    → listed_rows namespace (drop i objects) ≡ put_first (is_listed namespace (get_or objects i o)) (get_or objects i o) (listed_rows namespace (drop (i + 1) objects))
listed_rows-drop namespace objects i o lt = rw (drop-cons objects i o lt, add-one) (listed_rows-cons namespace (get_or objects i o) (drop (suc i) objects))
