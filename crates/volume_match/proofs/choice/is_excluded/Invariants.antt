use Rattle.std.proofs.Common.{◌≡◌, drop}
use Rattle.binder_model.specs.Matching.{is_excluded}
use Rattle.volume_match.proofs.choice.is_excluded.Given as goal

-- the place did not stand before
abbrev pub invariant-loop-other : goal.invariant-loop-other
invariant-loop-other l = is_excluded (drop l.other-index l.excluded) l.place ≡ is_excluded l.excluded l.place
