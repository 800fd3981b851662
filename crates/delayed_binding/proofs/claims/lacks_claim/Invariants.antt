use Rattle.std.proofs.Common.{◌≡◌, drop}
use Rattle.std.specs.List.{list_any}
use Rattle.binder_model.specs.Choice.{claim_named, is_missing, lacks_claim}
use Rattle.delayed_binding.proofs.claims.lacks_claim.Given as goal

-- what is to be found is still ahead
abbrev pub invariant-loop-name : goal.invariant-loop-name
invariant-loop-name g l = list_any (λ name. is_missing (claim_named (g.L.Lookup.rows l.lookup) l.pod.meta.namespace name)) (drop l.name-index
    l.pod.claims) ≡ lacks_claim (g.L.Lookup.rows l.lookup) l.pod
