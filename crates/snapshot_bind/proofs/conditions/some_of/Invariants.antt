use Rattle.std.specs.Prelude.{drop}
use Rattle.snapshot_bind.specs.Licences.{SomeOf}
use Rattle.snapshot_bind.proofs.conditions.some_of.Given as goal

-- what is looked for is ahead, if it is there
abbrev pub invariant-loop-value : goal.invariant-loop-value
invariant-loop-value g l = SomeOf (g.T.Condition.allows l.condition) l.values → SomeOf (g.T.Condition.allows l.condition) (drop l.value-index l.values)
