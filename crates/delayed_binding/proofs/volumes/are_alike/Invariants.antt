use Rattle.delayed_binding.proofs.Alike.{AlikeBelow}
use Rattle.delayed_binding.proofs.volumes.are_alike.Given as goal

-- the volumes before the place admit both nodes or neither
abbrev pub invariant-loop-place : goal.invariant-loop-place
invariant-loop-place g l = AlikeBelow (g.L.Lookup.rows l.lookup) l.one l.other l.place
