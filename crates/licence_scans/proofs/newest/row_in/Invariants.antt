use Rattle.std.proofs.Common.{◌≡◌, drop}
use Rattle.kube_objects.specs.Keys.{row_at}
use Rattle.licence_scans.specs.Keyed.{key_at}
use Rattle.licence_scans.proofs.newest.row_in.Given as goal

-- the look-up in what is ahead is that in the whole
abbrev pub invariant-loop-item : goal.invariant-loop-item
invariant-loop-item l = row_at (key_at l.kind l.namespace l.name) l.items ≡ row_at (key_at l.kind l.namespace l.name) (drop l.item-index l.items)
