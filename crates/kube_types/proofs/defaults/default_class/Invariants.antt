use Rattle.kube_types.specs.Steps.Scan.{IsDefaultBelow}
use Rattle.kube_types.proofs.defaults.default_class.Given as goal

-- the first of those before
abbrev pub invariant-loop-place : goal.invariant-loop-place
invariant-loop-place g l = IsDefaultBelow (g.L.Lookup.rows l.lookup) l.place l.first
