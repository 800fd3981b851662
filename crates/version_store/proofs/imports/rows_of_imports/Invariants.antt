use Rattle.std.proofs.Common.{◌≡◌, ◌≤◌, drop, length}
use Rattle.kube_objects.specs.Keys.{AreRows}
use Rattle.binder_model.specs.Imports.{rows_of_imports}
use Rattle.version_store.proofs.imports.rows_of_imports.Given as goal

abbrev pub invariant-loop-left : goal.invariant-loop-left
invariant-loop-left l = record {
  within : l.left ≤ length l.imports;
  rows : l.rows.items ≡ rows_of_imports l.imports (drop l.left l.imports);
  rising : AreRows l.rows.items;
}

abbrev pub decreases-loop-left : goal.decreases-loop-left
decreases-loop-left l = l.left
