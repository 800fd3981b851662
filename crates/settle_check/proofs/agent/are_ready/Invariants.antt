use Rattle.std.proofs.Common.{◌≡◌, drop}
use Rattle.std.specs.List.{list_all}
use Rattle.binder_model.specs.Choice.{claim_named}
use Rattle.binder_model.specs.Due.{is_ready}
use Rattle.settle_check.proofs.agent.are_ready.Given as goal

-- what is to be found is still ahead
abbrev pub invariant-loop-name : goal.invariant-loop-name
invariant-loop-name l = list_all (λ name. is_ready l.store.rows (claim_named l.store.rows l.pod.meta.namespace name)) (drop l.name-index l.name-items)
    ≡ list_all (λ name. is_ready l.store.rows (claim_named l.store.rows l.pod.meta.namespace name)) l.pod.claims
