use Rattle.std.proofs.Common.{◌≡◌, ◌++◌, drop, filter_map}
use Rattle.binder_model.specs.Choice.{claim_named, claims_of}
use Rattle.delayed_binding.proofs.claims.claims_of.Given as goal

-- the claims so far, and those that are still ahead
abbrev pub invariant-loop-name : goal.invariant-loop-name
invariant-loop-name g l = l.claims.items ++ filter_map (claim_named (g.L.Lookup.rows l.lookup) l.pod.meta.namespace) (drop l.name-index l.pod.claims) ≡ claims_of (g.L.Lookup.rows l.lookup) l.pod
