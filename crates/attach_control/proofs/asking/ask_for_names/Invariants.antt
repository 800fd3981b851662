use Rattle.std.proofs.Common.{◌≡◌, drop}
use Rattle.attach_law.specs.Next.{ask_for_names}
use Rattle.attach_control.proofs.asking.ask_for_names.Given as goal

-- the first that asks is still ahead
abbrev pub invariant-loop-name : goal.invariant-loop-name
invariant-loop-name g l =
    ask_for_names (g.L.Lookup.rows l.lookup) l.list l.pod (drop l.name-index l.pod.claims) ≡ ask_for_names (g.L.Lookup.rows l.lookup) l.list l.pod l.pod.claims
