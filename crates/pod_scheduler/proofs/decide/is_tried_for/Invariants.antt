use Rattle.std.proofs.Common.{◌≡◌, drop}
use Rattle.std.specs.List.{list_any}
use Rattle.binder_model.specs.Choice.{claim_named}
use Rattle.pod_scheduler.specs.Decisions.{is_claim_of, is_tried_for}
use Rattle.pod_scheduler.proofs.decide.is_tried_for.Given as goal

-- what is to be found is still ahead
abbrev pub invariant-loop-name : goal.invariant-loop-name
invariant-loop-name g l = list_any (λ name. is_claim_of l.uid (claim_named (g.L.Lookup.rows l.lookup) l.pod.meta.namespace name)) (drop l.name-index
    l.pod.claims) ≡ is_tried_for (g.L.Lookup.rows l.lookup) l.pod l.uid
