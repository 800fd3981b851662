use Rattle.std.proofs.Common.{◌≡◌, drop}
use Rattle.attach_law.specs.Calls.{user_of}
use Rattle.attach_control.proofs.objects.user_of.Given as goal

-- the first that has the volume is still ahead
abbrev pub invariant-loop-row : goal.invariant-loop-row
invariant-loop-row g l = user_of (g.L.Lookup.rows l.lookup) l.volume (drop l.row-index l.mounts) ≡ user_of (g.L.Lookup.rows l.lookup) l.volume l.mounts
