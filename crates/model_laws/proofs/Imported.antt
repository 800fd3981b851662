-- What the imports of a setup are as rows: their versions, UIDs and keys.
use Rattle.std.proofs.Common.{sym, refl, inl, inr, ap, ◌∙◌, true≢false, arith}
use Rattle.std.proofs.lemmas.Bool.Decides.{nat_tests}
use Rattle.std.specs.Prelude.{ℕ, ◌≡◌, ◌≢◌, ◌≤◌, ◌<◌, ◌-◌, nat_lt, nat_le, Bool, true, false, List, [], ◌∷◌, ◌++◌, Option, Some, None, is_none, unwrap_or}
use Rattle.std.specs.List.{list_any}
use Rattle.std.proofs.lemmas.Bool.{or_parts}
use Rattle.kube_parts.specs.declared.uid.Uid.{Uid}
use Rattle.kube_parts.specs.declared.names.Field.{Field}
use Rattle.kube_parts.specs.declared.names.ImportFault.{ImportFault}
use Rattle.kube_objects.specs.declared.key.Key.{Key}
use Rattle.kube_objects.specs.declared.objects.Object.{Object}
use Rattle.kube_objects.specs.declared.objects.Object.TheVariants.{Class, Node, Volume, Claim, Pod}
use Rattle.kube_objects.specs.Keys.{meta_of, key_of, row_at, put_row, same_key}
use Rattle.kube_objects.specs.Bindings.{ref_uid}
use Rattle.kube_parts.specs.Uids.{uid_of_serial}
use Rattle.kube_objects.proofs.KeyOrder.{row_at-put_row, row_at-put_row_other}
use Rattle.binder_model.specs.Fields.{create_fault}
use Rattle.binder_model.specs.Imports.{
  most_imported,
  most_serials,
  serial_of,
  serial_or_zero,
  reference_of,
  greatest_number,
  base_of,
  imported_object,
  is_dropped,
  rows_of_imports,
  fault_if,
  fault_of_field,
  shares_uid,
  import_fault,
  holds_of_pair,
  refers_to_another,
  is_ended_for,
  PassAfter,
}
use Rattle.model_laws.proofs.Lists.{IsIn, one, none_some, some_left, some_right}
use Rattle.kube_objects.proofs.SameKeys.{key_tells}

-- what an import keeps
record KeepsMeta (x o : Object) : Type 0 where
  key : key_of o ≡ key_of x
  uid : (meta_of o).uid ≡ (meta_of x).uid
  version : (meta_of o).version ≡ (meta_of x).version

kept : (imports : List Object) (x : Object) → KeepsMeta x (imported_object imports x)
unfolding imported_object
kept imports (Class x) = record { key = refl; uid = refl; version = refl }
kept imports (Node x) = record { key = refl; uid = refl; version = refl }
kept imports (Volume x) = record { key = refl; uid = refl; version = refl }
kept imports (Claim x) = record { key = refl; uid = refl; version = refl }
kept imports (Pod x) = record { key = refl; uid = refl; version = refl }

-- each row comes from an import
pub record ComesFrom (imports os : List Object) (o : Object) : Type 0 where
  pub import : Object
  pub given : IsIn import os
  pub is : o ≡ imported_object imports import

pub import_row : (imports os : List Object) (k : Key) (o : Object) → row_at k (rows_of_imports imports os) ≡ Some o → ComesFrom imports os o
import_row imports [] k o is = none_some is
import_row imports (x ∷ os) k o is = by (is_dropped x) refl (import_row imports os k o)
  where
    more : ComesFrom imports os o → ComesFrom imports (x ∷ os) o
    more c = record { import = c.import; given = inr c.given; is = c.is }

    by : (b : Bool) → is_dropped x ≡ b → (row_at k (rows_of_imports imports os) ≡ Some o → ComesFrom imports os o) → ComesFrom imports (x ∷ os) o
    by true e f = more (f (rw e at is))
    by false e f =
        let at : row_at k (put_row (imported_object imports x) (rows_of_imports imports os)) ≡ Some o = rw e at is in
        elim (key_tells (key_of (imported_object imports x)) k) [
          | inl same ↦ record {
            import = x;
            given = inl refl;
            is =
                one o (imported_object imports x) (sym at ∙ ap (λ j. row_at j (put_row (imported_object imports x) (rows_of_imports imports os)))
                (sym same) ∙ row_at-put_row (imported_object imports x) (rows_of_imports imports os));
          }
          | inr other ↦ more (f (sym (row_at-put_row_other k (imported_object imports x) (rows_of_imports imports os) other) ∙ at))
        ]

pub from_uid : (imports os : List Object) (o : Object) (c : ComesFrom imports os o) → (meta_of o).uid ≡ (meta_of c.import).uid
from_uid imports os o c = ap (λ x. (meta_of x).uid) c.is ∙ (kept imports c.import).uid

pub from_key : (imports os : List Object) (o : Object) (c : ComesFrom imports os o) → key_of o ≡ key_of c.import
from_key imports os o c = ap key_of c.is ∙ (kept imports c.import).key

pub from_version : (imports os : List Object) (o : Object) (c : ComesFrom imports os o) → (meta_of o).version ≡ (meta_of c.import).version
from_version imports os o c = ap (λ x. (meta_of x).version) c.is ∙ (kept imports c.import).version

-- the base is not below any number of an import
pub below_base : (os : List Object) (x : Object) → IsIn x os → greatest_number x ≤ base_of os
below_base [] x h = absurd h
below_base (y ∷ os) x (inl is) = let e = ap greatest_number is in omega (arith, e)
below_base (y ∷ os) x (inr more) = let b = below_base os x more in omega (arith, b)

pub version_below : (os : List Object) (x : Object) → IsIn x os → (meta_of x).version ≤ base_of os
version_below os x h = let b = below_base os x h in omega (arith, b)

-- a serial above the base is that of no import
serial_is : (n : ℕ) → n < most_serials → serial_of (uid_of_serial n) ≡ Some n
serial_is n small =
    let low : nat_le (uid_of_serial 0).0 (uid_of_serial n).0 ≡ true = grind (arith, nat_tests) in
    let high : nat_lt (uid_of_serial n).0 (uid_of_serial most_serials).0 ≡ true = grind (arith, nat_tests, small) in
    let n_is : (uid_of_serial n).0 - (uid_of_serial 0).0 ≡ n = omega arith in
    rw (low, high) (ap (λ (m : ℕ). Some m) n_is)

pub old_uid : (os : List Object) (x : Object) (uid : Uid) → IsIn x os → (meta_of x).uid ≡ Some uid → (n : ℕ) → base_of os < n → n < most_serials → uid ≢ uid_of_serial n
old_uid os x uid h its n above small is =
    let b = below_base os x h in
    let s : serial_or_zero (meta_of x).uid ≡ n = ap serial_or_zero (its ∙ ap (λ (u : Uid). Some u) is) ∙ ap (λ m. unwrap_or m 0) (serial_is n small) in
    let t : serial_or_zero (meta_of x).uid ≤ greatest_number x = omega arith in
    omega (arith, b, s, t, above)

-- imports that pass

fault_none : (b : Bool) (f : ImportFault) (next : Option ImportFault) → fault_if b f next ≡ None → (b ≡ false) × (next ≡ None)
unfolding fault_if
fault_none true f next e = none_some (sym e)
fault_none false f next e = (refl, e)

field_none : (f : Option Field) (next : Option ImportFault) → fault_of_field f next ≡ None → next ≡ None
unfolding fault_of_field
field_none (Some f) next e = none_some (sym e)
field_none None next e = e

-- what passes
pub record Passes (before : List Object) (o : Object) : Type 0 where
  pub known : is_none (meta_of o).uid ≡ false
  pub version : (meta_of o).version ≤ most_imported
  pub serial : serial_or_zero (meta_of o).uid ≤ most_imported
  pub reference : serial_or_zero (ref_uid (reference_of o)) ≤ most_imported
  pub valid : create_fault false o ≡ None
  pub new_key : list_any (λ other. same_key (key_of other) (key_of o)) before ≡ false
  pub new_uid : list_any (λ other. shares_uid (meta_of o).uid (meta_of other).uid) before ≡ false
  pub right : holds_of_pair refers_to_another before o ≡ false
  pub wanted : holds_of_pair is_ended_for before o ≡ false

valid_of : (f : Option Field) (next : Option ImportFault) → fault_of_field f next ≡ None → f ≡ None
unfolding fault_of_field
valid_of (Some f) next e = none_some (sym e)
valid_of None next e = refl

at_most : (n : ℕ) → nat_lt most_imported n ≡ false → n ≤ most_imported
at_most n e = grind (arith, nat_tests, e)

pub passed : (before : List Object) (o : Object) → import_fault before o ≡ None → Passes before o
unfolding import_fault
passed before o e =
    let a = fault_none _ _ _ e in
    let b = fault_none _ _ _ a.1 in
    let c = fault_none _ _ _ b.1 in
    let d = field_none _ _ c.1 in
    let f = fault_none _ _ _ d in
    let g = fault_none _ _ _ f.1 in
    let h = fault_none _ _ _ g.1 in
    let i = fault_none _ _ _ h.1 in
    let s = or_parts (nat_lt most_imported (serial_or_zero (meta_of o).uid)) (nat_lt most_imported (serial_or_zero (ref_uid (reference_of o)))) c.0 in
    record {
      known = a.0;
      version = at_most _ b.0;
      serial = at_most _ s.0;
      reference = at_most _ s.1;
      valid = valid_of _ _ c.1;
      new_key = f.0;
      new_uid = g.0;
      right = h.0;
      wanted = i.0;
    }

pub pass_base : (before os : List Object) → PassAfter before os → base_of os ≤ most_imported
pass_base before [] p = omega arith
pass_base before (o ∷ os) p =
    let q = passed before o p.0 in
    let version = q.version in
    let serial = q.serial in
    let reference = q.reference in
    let rest = pass_base (before ++ o ∷ []) os p.1 in
    omega (arith, version, serial, reference, rest)

-- no import shares its UID with one before it

none_shares : (uid : Option Uid) (os : List Object) (y : Object) → list_any (λ other. shares_uid uid (meta_of other).uid) os ≡ false → IsIn y os → shares_uid uid (meta_of y).uid ≡ false
none_shares uid [] y e h = absurd h
none_shares uid (z ∷ os) y e h =
    let t = or_parts (shares_uid uid (meta_of z).uid) (list_any (λ other. shares_uid uid (meta_of other).uid) os) e in
    elim h [ inl is ↦ ap (λ (x : Object). shares_uid uid (meta_of x).uid) (sym is) ∙ t.0 | inr more ↦ none_shares uid os y t.1 more ]

shares_own : (a b : Option Uid) (uid : Uid) → a ≡ Some uid → b ≡ Some uid → shares_uid a b ≡ true
shares_own a b uid ea eb = rw (ea, eb) (grind (arith, nat_tests))

before_apart : (before os : List Object) → PassAfter before os → (x y : Object) (uid : Uid) → IsIn x os → IsIn y before → (meta_of x).uid ≡ Some uid → (meta_of y).uid ≡ Some uid → ⊥
before_apart before [] p x y uid hx hy ex ey = absurd hx
before_apart before (z ∷ os) p x y uid hx hy ex ey = elim hx [
  | inl is ↦ true≢false (sym (shares_own (meta_of x).uid (meta_of y).uid uid ex ey) ∙ none_shares (meta_of x).uid before y
      (ap (λ (w : Object). list_any (λ other. shares_uid (meta_of w).uid (meta_of other).uid) before) (sym is) ∙ (passed before z p.0).new_uid) hy)
  | inr more ↦ before_apart (before ++ z ∷ []) os p.1 x y uid more (some_left (λ w. w ≡ y) before (z ∷ []) hy) ex ey
]

-- hence one UID, one import
pub one_import : (before os : List Object) → PassAfter before os → (x y : Object) (uid : Uid) → IsIn x os → IsIn y os → (meta_of x).uid ≡ Some uid → (meta_of y).uid ≡ Some uid → x ≡ y
one_import before [] p x y uid hx hy ex ey = absurd hx
one_import before (z ∷ os) p x y uid hx hy ex ey =
    let last : (w : Object) → z ≡ w → IsIn w (before ++ z ∷ []) = λ w is. some_right (λ v. v ≡ w) before (z ∷ []) (inl is) in
    elim hx [
      | inl is ↦ elim hy [
        | inl at ↦ sym is ∙ at
        | inr more ↦ absurd (before_apart (before ++ z ∷ []) os p.1 y x uid more (last x is) ey ex)
      ]
      | inr rest ↦ elim hy [
        | inl at ↦ absurd (before_apart (before ++ z ∷ []) os p.1 x y uid rest (last y at) ex ey)
        | inr more ↦ one_import (before ++ z ∷ []) os p.1 x y uid rest more ex ey
      ]
    ]
