use Rattle.std.proofs.Common.{drop}
use Rattle.label_rules.proofs.Walks.{AreLeft}
use Rattle.label_rules.proofs.stand_among.Given as goal

-- what is left of both lists decides
abbrev pub invariant-loop-label : goal.invariant-loop-label
invariant-loop-label l = AreLeft l.labels l.wanted (drop l.label-index l.labels) l.left
