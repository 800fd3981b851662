use Rattle.std.specs.Option.{option_copied}
use Rattle.volume_match.specs.Steps.Scan.{IsBestBelow}
use Rattle.volume_match.proofs.choice.best_outside.Given as goal

-- the best so far
abbrev pub invariant-loop-place : goal.invariant-loop-place
invariant-loop-place g l = IsBestBelow (g.L.Lookup.rows l.lookup) l.claim (option_copied l.node) l.only_own (g.P.Places.places l.excluded) l.place l.best
