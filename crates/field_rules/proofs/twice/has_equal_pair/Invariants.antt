use Rattle.std.proofs.Common.{◌≡◌, drop}
use Rattle.binder_model.specs.Fields.{has_twice}
use Rattle.field_rules.proofs.twice.has_equal_pair.Given as goal

abbrev pub invariant-loop-i : goal.invariant-loop-i
invariant-loop-i l = has_twice l.names ≡ has_twice (drop l.i l.names)
