use Rattle.std.proofs.Common.{◌≡◌, ◌≤◌, drop, length}
use Rattle.std.specs.Option.{option_copied}
use Rattle.binder_model.specs.Store.{default_class}
use Rattle.version_store.proofs.classes.default_class.Given as goal

abbrev pub invariant-loop-left : goal.invariant-loop-left
invariant-loop-left l = record { within : l.left ≤ length l.rows; best : option_copied l.best ≡ default_class (drop l.left l.rows) }

abbrev pub decreases-loop-left : goal.decreases-loop-left
decreases-loop-left l = l.left
