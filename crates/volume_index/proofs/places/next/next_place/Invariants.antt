use Rattle.std.specs.Option.{option_copied}
use Rattle.volume_index.specs.Steps.VolumePlaces.{IsNextVolumeBelow}
use Rattle.volume_index.proofs.places.next.next_place.Given as goal

-- the first of those before
abbrev pub invariant-loop-place : goal.invariant-loop-place
invariant-loop-place g l = IsNextVolumeBelow (g.W.Wanted.test l.wanted) l.objects (option_copied l.behind) l.place l.first
