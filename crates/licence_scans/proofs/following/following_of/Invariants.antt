use Rattle.std.proofs.Common.{◌≡◌, take, reverse}
use Rattle.binder_model.specs.Reading.{following_of}
use Rattle.licence_scans.specs.Following.{as_following}
use Rattle.licence_scans.proofs.following.following_of.Given as goal

abbrev pub invariant-loop-entry : goal.invariant-loop-entry
invariant-loop-entry l = as_following l.stands ≡ following_of (reverse (take l.entry-index l.mine)) l.kind
