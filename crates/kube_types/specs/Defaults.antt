-- The default class: the class of claims that name none.
-- Source: Kubernetes documentation, "Storage Classes" (Default StorageClass) and "Persistent Volumes" (Retroactive default
-- StorageClass assignment); of several default classes the one created last, and of one moment the first by name, as
-- `GetDefaultClass` of the volume utilities sorts them.
use Rattle.std.specs.Prelude.{ℕ, ◌≡◌, ◌≢◌, Bool, true, false, List, Option, Some, None, bytes_eq, codes, slice_get}
use Rattle.std.specs.declared.cmp.Ordering.{Ordering}
use Rattle.std.specs.declared.cmp.Ordering.TheVariants.{Greater}
use Rattle.std.specs.Ordering.{ordering_then}
use Rattle.plain_data.specs.Pairs.{text_cmp, value_at}
use Rattle.kube_parts.specs.declared.parts.Kind.TheVariants as kinds
use Rattle.kube_objects.specs.declared.objects.Class.{Class as ClassData}
use Rattle.kube_objects.specs.declared.objects.Object.{Object}
use Rattle.kube_objects.specs.declared.objects.Object.TheVariants.{Class}
use Rattle.kube_objects.specs.Keys.{key_cmp, key_of, row_at, rows_of}
use Rattle.kube_objects.specs.Bindings.{is_default_class}

-- there is a value, and it is the text `true`
abbrev pub is_true_text : Option (List ℕ) → Bool
is_true_text None = false
is_true_text (Some text) = bytes_eq text (codes "true")

-- the class is marked as a default one
abbrev pub is_default : ClassData → Bool
is_default x = is_true_text (value_at is_default_class x.meta.annotations)

-- the order of default classes: the newest creation first, and of one moment the first by key, that is by name, since
-- a class has no namespace
abbrev pub class_cmp : ClassData → ClassData → Ordering
class_cmp x y = ordering_then (text_cmp y.meta.created x.meta.created) (key_cmp (key_of (Class x)) (key_of (Class y)))

-- of the classes that stand, one that is marked, and before which no marked one comes
pub record IsDefaultOf (Stands : ClassData → Type 0) (class : ClassData) : Type 0 where
  pub there : Stands class
  pub marked : is_default class ≡ true
  pub first : (other : ClassData) → Stands other → is_default other ≡ true → class_cmp class other ≢ Greater

-- no class that stands is marked
abbrev pub NoneIsDefault : (ClassData → Type 0) → Type 0
NoneIsDefault Stands = (class : ClassData) → Stands class → is_default class ≡ false

-- the default class of those that stand, or none where none is marked
abbrev pub IsDefault : (ClassData → Type 0) → Option ClassData → Type 0
IsDefault Stands (Some class) = IsDefaultOf Stands class
IsDefault Stands None = NoneIsDefault Stands

-- the class stands in these rows
abbrev pub StandsIn : List Object → ClassData → Type 0
StandsIn rows class = row_at (key_of (Class class)) rows ≡ Some (Class class)

-- the class at this place among the classes of the rows is their default class
pub record IsDefaultAt (rows : List Object) (place : ℕ) : Type 0 where
  pub class : ClassData
  pub at : slice_get (rows_of kinds.StorageClass rows) place ≡ Some (Class class)
  pub default : IsDefaultOf (StandsIn rows) class

-- the place of the default class among the classes of the rows, or none where none is marked
abbrev pub IsDefaultPlace : List Object → Option ℕ → Type 0
IsDefaultPlace rows (Some place) = IsDefaultAt rows place
IsDefaultPlace rows None = NoneIsDefault (StandsIn rows)
