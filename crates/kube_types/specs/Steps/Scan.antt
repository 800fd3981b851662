-- The first default class at the places before a bound.
-- A choice of this project.
use Rattle.std.specs.Prelude.{ℕ, ◌≡◌, ◌≢◌, ◌<◌, Bool, true, List, Option, Some, None, slice_get}
use Rattle.std.specs.declared.cmp.Ordering.{Ordering}
use Rattle.std.specs.declared.cmp.Ordering.TheVariants.{Greater}
use Rattle.std.specs.Ordering.{is_lt}
use Rattle.kube_parts.specs.declared.parts.Kind.TheVariants as kinds
use Rattle.kube_objects.specs.declared.objects.Class.{Class as ClassData}
use Rattle.kube_objects.specs.declared.objects.Object.{Object}
use Rattle.kube_objects.specs.declared.objects.Object.TheVariants.{Class}
use Rattle.kube_objects.specs.Keys.{rows_of}
use Rattle.kube_types.specs.Defaults.{class_cmp, is_default}
use Rattle.volume_index.specs.Steps.Scan.{IsFirstBelow}

-- a class at a place, marked as a default one
abbrev pub IsMarkedAt : List Object → ℕ → ClassData → Type 0
IsMarkedAt rows place class = (slice_get (rows_of kinds.StorageClass rows) place ≡ Some (Class class)) × (is_default class ≡ true)

-- the place of the default class of the rows, as far as the places below the bound were looked at
abbrev pub IsDefaultBelow : List Object → ℕ → Option ℕ → Type 0
IsDefaultBelow rows bound place = IsFirstBelow class_cmp (IsMarkedAt rows) bound place

-- the class that stands there, if it is one
abbrev pub as_class : Option Object → Option ClassData
as_class (Some (Class x)) = Some x
as_class _ = None

-- the class at a place among the classes
abbrev pub class_at : List Object → ℕ → Option ClassData
class_at rows place = as_class (slice_get (rows_of kinds.StorageClass rows) place)

-- the class comes before the other, if there is another
abbrev pub class_is_before : ClassData → Option ClassData → Bool
class_is_before class None = true
class_is_before class (Some other) = is_lt (class_cmp class other)

-- the class comes before the one at this place
abbrev pub comes_first : List Object → ClassData → Option ℕ → Bool
comes_first rows class None = true
comes_first rows class (Some place) = class_is_before class (class_at rows place)
