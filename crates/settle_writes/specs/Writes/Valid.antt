-- What stands in a store passes the tests of a create. So a write that changes only what no test forbids is not Invalid.
-- A choice of this project.
use Rattle.std.specs.Prelude.{◌≡◌, false, List, Some, None}
use Rattle.kube_objects.specs.declared.key.Key.{Key}
use Rattle.kube_objects.specs.declared.objects.Object.{Object}
use Rattle.kube_objects.specs.Keys.{row_at}
use Rattle.call_types.specs.declared.entry.Entry.{Entry}
use Rattle.call_types.specs.declared.setup.Setup.{Setup}
use Rattle.binder_model.specs.Fields.{create_fault}
use Rattle.binder_model.specs.Imports.{ImportsPass}
use Rattle.binder_model.specs.World.{world}

-- the object passes the tests of a create, but that the node which a pod names may have gone
abbrev pub IsValid : Object → Type 0
IsValid o = create_fault false o ≡ None

-- each object that stands among the rows passes them
abbrev pub AreValid : List Object → Type 0
AreValid rows = (key : Key) (o : Object) → row_at key rows ≡ Some o → IsValid o

-- each object of a store does, in every world that begins with imports that pass
abbrev pub RowsAreValid : Type 0
RowsAreValid = (setup : Setup) (past : List Entry) → ImportsPass setup.imports → AreValid (world setup past).store.rows
