use Rattle.std.proofs.Common.{◌≡◌, drop}
use Rattle.kube_parts.specs.declared.parts.Kind.TheVariants as kinds
use Rattle.kube_objects.specs.Keys.{rows_of}
use Rattle.attach_law.specs.Next.{first_asked}
use Rattle.attach_control.proofs.asking.first_asked.Given as goal

-- the first that asks is still ahead
abbrev pub invariant-loop-object : goal.invariant-loop-object
invariant-loop-object g l =
    first_asked (g.L.Lookup.rows l.lookup) l.list (drop l.object-index (rows_of kinds.Pod (g.L.Lookup.rows l.lookup)))
    ≡ first_asked (g.L.Lookup.rows l.lookup) l.list (g.L.Lookup.rows l.lookup)
