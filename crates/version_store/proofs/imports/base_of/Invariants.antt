use Rattle.std.proofs.Common.{◌≡◌, ◌≤◌, drop, length}
use Rattle.binder_model.specs.Imports.{base_of}
use Rattle.version_store.proofs.imports.base_of.Given as goal

abbrev pub invariant-loop-left : goal.invariant-loop-left
invariant-loop-left l = record { within : l.left ≤ length l.imports; base : l.base ≡ base_of (drop l.left l.imports) }

abbrev pub decreases-loop-left : goal.decreases-loop-left
decreases-loop-left l = l.left
