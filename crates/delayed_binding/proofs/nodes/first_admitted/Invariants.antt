use Rattle.delayed_binding.specs.Choices.{AreAdmitted}
use Rattle.delayed_binding.specs.Steps.Scans.{NoneBelow}
use Rattle.delayed_binding.proofs.nodes.first_admitted.Given as goal

-- no node before the place is admitted
abbrev pub invariant-loop-place : goal.invariant-loop-place
invariant-loop-place g l = NoneBelow (g.L.Lookup.rows l.lookup) (AreAdmitted (g.L.Lookup.rows l.lookup) l.claims) l.place
