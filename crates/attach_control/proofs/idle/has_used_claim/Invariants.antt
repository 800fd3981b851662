use Rattle.std.proofs.Common.{◌≡◌, drop}
use Rattle.std.specs.List.{list_any}
use Rattle.attach_law.specs.Next.{is_used_claim}
use Rattle.attach_control.proofs.idle.has_used_claim.Given as goal

-- what is to be found is still ahead
abbrev pub invariant-loop-object : goal.invariant-loop-object
invariant-loop-object g l =
    list_any (is_used_claim (g.L.Lookup.rows l.lookup) l.volume l.node) (drop l.object-index l.objects)
    ≡ list_any (is_used_claim (g.L.Lookup.rows l.lookup) l.volume l.node) l.objects
