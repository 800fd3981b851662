use Rattle.std.proofs.Common.{◌≡◌, take, reverse}
use Rattle.binder_model.specs.Told.{newest}
use Rattle.licence_scans.specs.Keyed.{as_telling, key_at}
use Rattle.licence_scans.proofs.newest.newest.Given as goal

-- the newest of the entries so far
abbrev pub invariant-loop-entry : goal.invariant-loop-entry
invariant-loop-entry l = as_telling l.found ≡ newest (reverse (take l.entry-index l.mine)) (key_at l.kind l.namespace l.name)
