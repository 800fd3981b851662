use Rattle.std.proofs.Common.{◌≡◌, ◌+◌, drop}
use Rattle.shared_work.specs.Crew.{all_seats}
use Rattle.shared_work.proofs.crew.all_seats.Given as goal

abbrev pub invariant-loop-hired : goal.invariant-loop-hired
invariant-loop-hired g l = l.seats + all_seats (drop l.hired-index l.crew) ≡ all_seats l.crew
