use Rattle.std.proofs.Common.{◌≡◌, drop}
use Rattle.std.specs.List.{list_all}
use Rattle.binder_model.specs.Choice.{fixed_admit}
use Rattle.delayed_binding.proofs.volumes.all_fixed_admit.Given as goal

-- what may fail is still ahead
abbrev pub invariant-loop-claim : goal.invariant-loop-claim
invariant-loop-claim g l = list_all (fixed_admit (g.L.Lookup.rows l.lookup) l.node) (drop l.claim-index l.claims) ≡ list_all (fixed_admit (g.L.Lookup.rows l.lookup) l.node) l.claims
