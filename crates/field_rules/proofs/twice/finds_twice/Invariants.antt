use Rattle.std.proofs.Common.{◌≡◌, drop}
use Rattle.binder_model.specs.Fields.{has_twice}
use Rattle.field_rules.proofs.Repeats.{comes_twice}
use Rattle.field_rules.proofs.twice.finds_twice.Given as goal

-- it is left to see whether those from this place on come twice, after those before them
abbrev pub invariant-loop-name : goal.invariant-loop-name
invariant-loop-name l = comes_twice l.seen.keys (drop l.name-index l.names) ≡ has_twice l.names
