use Rattle.std.proofs.Common.{◌≡◌, drop}
use Rattle.std.specs.List.{list_all}
use Rattle.binder_model.specs.Choice.{claim_named}
use Rattle.pod_scheduler.specs.Decisions.{are_known, is_known_in}
use Rattle.pod_scheduler.proofs.decide.are_known.Given as goal

-- what may fail is still ahead
abbrev pub invariant-loop-name : goal.invariant-loop-name
invariant-loop-name g l = list_all (λ name. is_known_in (claim_named (g.L.Lookup.rows l.lookup) l.pod.meta.namespace name)) (drop l.name-index
    l.pod.claims) ≡ are_known (g.L.Lookup.rows l.lookup) l.pod
