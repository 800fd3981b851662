use Rattle.std.proofs.Common.{◌≡◌, drop}
use Rattle.std.specs.List.{list_any}
use Rattle.binder_model.specs.Choice.{claim_named}
use Rattle.attach_law.specs.Next.{is_blocked}
use Rattle.attach_control.proofs.blocked.has_blocked.Given as goal

-- one that is blocked is still ahead
abbrev pub invariant-loop-name : goal.invariant-loop-name
invariant-loop-name g l =
    list_any (λ name. is_blocked (g.L.Lookup.rows l.lookup) l.list l.pod.node (claim_named (g.L.Lookup.rows l.lookup) l.pod.meta.namespace name))
    (drop l.name-index l.pod.claims)
    ≡ list_any (λ name. is_blocked (g.L.Lookup.rows l.lookup) l.list l.pod.node (claim_named (g.L.Lookup.rows l.lookup) l.pod.meta.namespace name)) l.pod.claims
