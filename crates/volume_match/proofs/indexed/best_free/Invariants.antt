use Rattle.std.proofs.Common.{◌-◌, ◌≤◌, length, false}
use Rattle.std.specs.List.{AllWithin}
use Rattle.std.specs.Option.{option_copied}
use Rattle.volume_match.proofs.Candidates.{IsNone}
use Rattle.volume_match.proofs.indexed.best_free.Given as goal

-- no volume before the place is a candidate, and those too small to begin with are before it
abbrev pub invariant-loop-place : goal.invariant-loop-place
invariant-loop-place g l = AllWithin (IsNone (g.L.Lookup.rows l.lookup) l.claim (option_copied l.node) false (g.P.Places.places l.excluded)) l.free 0
    l.place × (l.start ≤ l.place) × (l.place ≤ length l.free)

abbrev pub decreases-loop-place : goal.decreases-loop-place
decreases-loop-place g l = length l.free - l.place
