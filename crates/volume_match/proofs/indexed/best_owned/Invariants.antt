use Rattle.std.specs.List.{AllWithin}
use Rattle.std.specs.Option.{option_copied}
use Rattle.volume_match.proofs.Candidates.{IsNone}
use Rattle.volume_match.proofs.indexed.best_owned.Given as goal

-- no volume before the place is a candidate
abbrev pub invariant-loop-place : goal.invariant-loop-place
invariant-loop-place g l = AllWithin (IsNone (g.L.Lookup.rows l.lookup) l.claim (option_copied l.node) l.only_own (g.P.Places.places l.excluded)) l.owned 0 l.place
