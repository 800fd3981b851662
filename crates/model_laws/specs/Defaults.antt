-- The default class of rows is one class, and the scan of the rows finds it.
-- A choice of this project, as the definitions are; their sources stand in `binder_model`.
use Rattle.std.specs.Prelude.{◌≡◌, List}
use Rattle.kube_objects.specs.declared.objects.Class.{Class as ClassData}
use Rattle.kube_objects.specs.declared.objects.Object.{Object}
use Rattle.kube_objects.specs.Keys.{AreRows}
use Rattle.kube_types.specs.Defaults.{IsDefault, IsDefaultOf, StandsIn}
use Rattle.binder_model.specs.Store.{default_class}

-- the default class that is computed is the default of the rows that stand
abbrev pub DefaultIsFound : Type 0
DefaultIsFound = (rows : List Object) → AreRows rows → IsDefault (StandsIn rows) (default_class rows)

-- two default classes of the same rows are one class
abbrev pub DefaultIsOne : Type 0
DefaultIsOne = (rows : List Object) (x y : ClassData) → IsDefaultOf (StandsIn rows) x → IsDefaultOf (StandsIn rows) y → x ≡ y
