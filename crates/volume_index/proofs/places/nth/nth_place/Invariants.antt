use Rattle.std.proofs.Common.{◌-◌, ◌≤◌}
use Rattle.volume_index.specs.Steps.VolumePlaces.{IsNthOf}
use Rattle.volume_index.proofs.places.nth.nth_place.Given as goal

abbrev pub invariant-loop-number : goal.invariant-loop-number
invariant-loop-number g l = record {
  within : l.number ≤ l.nth;
  is : IsNthOf (g.W.Wanted.test l.wanted) l.objects l.number l.at;
}

abbrev pub decreases-loop-number : goal.decreases-loop-number
decreases-loop-number g l = l.nth - l.number
